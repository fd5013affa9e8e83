use Rattle.std.proofs.Common.{ℕ, ◌≢◌, ◌<◌, ◌∙◌, ap, map, subst, sym, false, None, Option}
use Rattle.history_rules.specs.declared.entry.Event.{Event}
use Rattle.history_rules.specs.Nodes.{Past, version_of, newest_version}
use Rattle.history_rules.specs.Lines.{before_start, start_entry, highest_switched}
use Rattle.history_rules.specs.Commits.{is_passed}
use Rattle.history_rules.specs.Rules.{IsLineWhole}
use Rattle.history_tables.specs.Begins.{open_line}
use Rattle.history_book.specs.Log.{Log, printed}
use Rattle.cluster_state.specs.Copies.{JobRuns, ended_log}
use Rattle.cluster_state.specs.Met.{met_in, with_met}
use Rattle.cluster_copies.proofs.MetLines.{met_words, runs_still, line_still, whole_still, unpassed_still}
use Rattle.cluster_copies.proofs.met.note_ended.Goals as goal

pub show_end-requires-clause-runs : goal.show_end-requires-clause-runs
show_end-requires-clause-runs g c =
    subst (λ (l : Log). JobRuns l c.args.row) (sym c.show_met.ensures.log)
    (runs_still c.args.row c.args.ledger.now.log _ (met_words c.args.row.job.at c.args.row.job.at c.args.before.now (map (met_in g.D.FaultDir.planned) c.args.places.now.items) c.args.ledger.now.log) c.requires.runs)

pub show_end-requires-clause-line : goal.show_end-requires-clause-line
show_end-requires-clause-line g c =
    subst (λ (l : Log). open_line c.args.row.job.at (printed l) ≢ None) (sym c.show_met.ensures.log)
    (line_still c.args.row.job.at c.args.ledger.now.log _ (met_words c.args.row.job.at c.args.row.job.at c.args.before.now (map (met_in g.D.FaultDir.planned) c.args.places.now.items) c.args.ledger.now.log) c.requires.line)

pub show_end-requires-clause-below : goal.show_end-requires-clause-below
show_end-requires-clause-below g c =
    let w = met_words c.args.row.job.at c.args.row.job.at c.args.before.now (map (met_in g.D.FaultDir.planned) c.args.places.now.items) c.args.ledger.now.log in
    subst (λ (l : Log). version_of c.args.row.job.node.0 (printed l) < newest_version (before_start c.args.row.job.at (printed l))) (sym c.show_met.ensures.log)
    (subst (λ (z : ℕ × Past). z.0 < newest_version z.1) (λ i. (sym (w.version c.args.row.job.node.0) i, sym w.before i)) c.requires.below)

pub show_end-requires-clause-latest : goal.show_end-requires-clause-latest
show_end-requires-clause-latest g c =
    ap (λ (l : Log). is_passed c.args.row.job.node.0 c.args.row.job.version.0 (printed l)) c.show_met.ensures.log
    ∙ unpassed_still c.args.row.job.node.0 c.args.row.job.version.0 c.args.row.job.at c.args.before.now (map (met_in g.D.FaultDir.planned) c.args.places.now.items) c.args.ledger.now.log c.requires.latest

pub show_end-requires-clause-whole : goal.show_end-requires-clause-whole
show_end-requires-clause-whole g c =
    subst (λ (x : ℕ × Log). IsLineWhole x.0 (printed x.1) c.args.row.job.at) (λ i. (sym c.show_met.ensures.nodes i, sym c.show_met.ensures.log i))
    (whole_still c.args.ledger.now.nodes c.args.row.job.at c.args.row.job.at c.args.before.now (map (met_in g.D.FaultDir.planned) c.args.places.now.items) c.args.ledger.now.log c.requires.whole)

pub show_end-requires-clause-ordered : goal.show_end-requires-clause-ordered
show_end-requires-clause-ordered g c =
    let w = met_words c.args.row.job.at c.args.row.job.at c.args.before.now (map (met_in g.D.FaultDir.planned) c.args.places.now.items) c.args.ledger.now.log in
    subst (λ (l : Log). highest_switched c.args.row.job.at (printed l) < c.args.row.job.node.0) (sym c.show_met.ensures.log)
    (subst (λ (z : ℕ). z < c.args.row.job.node.0) (sym w.switched) c.requires.ordered)

pub returns-clause-log : goal.returns-clause-log
returns-clause-log g c =
    let w = met_words c.args.row.job.at c.args.row.job.at c.args.before.now (map (met_in g.D.FaultDir.planned) c.args.places.now.items) c.args.ledger.now.log in
    c.show_end.ensures.log ∙ (ap (λ (l : Log). ended_log c.args.row.job (start_entry c.args.row.job.at (printed l)) l) c.show_met.ensures.log
    ∙ ap (λ (o : Option Event). ended_log c.args.row.job o (with_met false c.args.row.job.at 1 c.args.before.now (map (met_in g.D.FaultDir.planned) c.args.places.now.items) c.args.ledger.now.log)) w.begun)
