use Rattle.std.proofs.Common.{◌≡◌, [], Ok, ap, ◌∙◌, sym, subst, refl}
use Rattle.history_rules.specs.Lines.{entries_of_line}
use Rattle.history_rules.specs.Rules.{MayStartMerge}
use Rattle.history_book.specs.Log.{Log, printed}
use Rattle.cluster_state.specs.CallsLeft.{calls_in}
use Rattle.cluster_state.specs.JobsIn.{jobs_in}
use Rattle.cluster_state.specs.MergedCopies.{copies_in}
use Rattle.cluster_state.specs.Sizes.{sizes_in}
use Rattle.cluster_state.proofs.Frames.{slot_at}
use Rattle.cluster_state.proofs.Ledgers.{asked_of, fresh_of, legal_of, turns_of}
use Rattle.cluster_merges.proofs.AtPrimary.{has_primary_at}
use Rattle.cluster_merges.proofs.StartPaths.{not_many, none_all, spent_all, none_starts, spent_starts, merging_rule, started_all, begins_merge}
use Rattle.cluster_state.specs.Run.{Run}
use Rattle.cluster_merges.proofs.KeptMerges.{primary_told, asked_commits, asked_none, asked_spent, same_told, all_sized, but_sizes, more_rows}
use Rattle.cluster_merges.proofs.starts.start_merge.Goals as goal

pub is_fresh-requires : goal.is_fresh-requires
is_fresh-requires g c = asked_of (λ (l : Log). entries_of_line c.args.at (printed l) ≡ []) c.cluster.view_is c.book-book.ensures.log c.requires.fresh

pub sizes_in-requires-clause-slot : goal.sizes_in-requires-clause-slot
sizes_in-requires-clause-slot g c = slot_at g.D.Dir.cells c.args.cluster.now _ _ c.args.p.0 _ _ c.cluster.view_is c.requires.running (λ e. (c.cluster.invariant e).0) c.requires.node

pub sizes_in-requires-clause-primary : goal.sizes_in-requires-clause-primary
sizes_in-requires-clause-primary g c = has_primary_at g.D.Dir.cells c.args.cluster.now c.cluster.inside.ledger c.cluster.inside.places.items c.args.p c.cluster.view_is c.requires.running (λ e. (c.cluster.invariant e).0) c.requires.node c.requires.primary

pub ask_in-requires-clause-slot : goal.ask_in-requires-clause-slot
ask_in-requires-clause-slot g c = slot_at g.D.Dir.cells c.args.cluster.now _ _ c.args.p.0 _ _ c.cluster.view_is c.requires.running (λ e. (c.cluster.invariant e).0) c.requires.node

pub ask_in-requires-clause-primary : goal.ask_in-requires-clause-primary
ask_in-requires-clause-primary g c = has_primary_at g.D.Dir.cells c.args.cluster.now c.cluster.inside.ledger c.cluster.inside.places.items c.args.p c.cluster.view_is c.requires.running (λ e. (c.cluster.invariant e).0) c.requires.node c.requires.primary

pub none_starts-requires : goal.none_starts-requires
none_starts-requires g c = not_many g.D.Dir.cells c.args.cluster.now c.cluster.inside.places.items c.ask_in.new.places.items c.cluster.inside.ledger c.reserve.new.self c.cluster.inside.tasks c.args.at c.args.p c.args.factor c.ask_in.result c.cluster.view_is c.requires.running c.cluster.invariant
    c.in_ok-reserve.ensures.log c.in_ok-reserve.ensures.nodes c.in_ok-reserve.ensures.cut (legal_of c.book-book.ensures.nodes c.book-book.ensures.log c.is_legal.ensures.legal) (turns_of c.book-book.ensures.log c.is_legal.ensures.turns) (fresh_of c.book-book.ensures.log c.is_fresh.ensures)
    c.requires.node c.requires.primary c.ask_in.ensures c.in-Err.fault c.in-Err.is

pub invariant_of-cluster-in-Ok-None : goal.invariant_of-cluster-in-Ok-None
invariant_of-cluster-in-Ok-None g c = λ running. none_all g.D.Dir.cells c.args.cluster.now c.cluster.inside.places.items c.ask_in.new.places.items c.cluster.inside.ledger c.reserve.new.self c.cluster.inside.tasks c.args.at c.args.p c.args.factor c.ask_in.result c.cluster.view_is c.requires.running c.cluster.invariant
    c.in_ok-reserve.ensures.log c.in_ok-reserve.ensures.nodes c.in_ok-reserve.ensures.cut (legal_of c.book-book.ensures.nodes c.book-book.ensures.log c.is_legal.ensures.legal) (turns_of c.book-book.ensures.log c.is_legal.ensures.turns) (fresh_of c.book-book.ensures.log c.is_fresh.ensures)
    c.requires.node c.requires.primary c.ask_in.ensures (c.in-Ok-None.is ∙ ap Ok c.in-Ok-None.field-0-is)

pub returns-in-Ok-None-clause-ok : goal.returns-in-Ok-None-clause-ok
returns-in-Ok-None-clause-ok g c = none_starts g.D.Dir.cells c.args.cluster.now c.cluster.inside.places.items c.ask_in.new.places.items c.cluster.inside.ledger c.reserve.new.self c.cluster.inside.tasks c.args.at c.args.p c.args.factor c.ask_in.result c.cluster.view_is c.requires.running c.cluster.invariant
    c.in_ok-reserve.ensures.log c.in_ok-reserve.ensures.nodes c.in_ok-reserve.ensures.cut (legal_of c.book-book.ensures.nodes c.book-book.ensures.log c.is_legal.ensures.legal) (turns_of c.book-book.ensures.log c.is_legal.ensures.turns) (fresh_of c.book-book.ensures.log c.is_fresh.ensures)
    c.requires.node c.requires.primary c.ask_in.ensures (c.in-Ok-None.is ∙ ap Ok c.in-Ok-None.field-0-is)

pub invariant_of-cluster-in-Err : goal.invariant_of-cluster-in-Err
invariant_of-cluster-in-Err g c = λ running. spent_all g.D.Dir.cells c.args.cluster.now c.cluster.inside.places.items c.ask_in.new.places.items c.cluster.inside.ledger c.reserve.new.self c.cluster.inside.tasks c.args.at c.args.p c.args.factor c.ask_in.result c.cluster.view_is c.requires.running c.cluster.invariant
    c.in_ok-reserve.ensures.log c.in_ok-reserve.ensures.nodes c.in_ok-reserve.ensures.cut (legal_of c.book-book.ensures.nodes c.book-book.ensures.log c.is_legal.ensures.legal) (turns_of c.book-book.ensures.log c.is_legal.ensures.turns) (fresh_of c.book-book.ensures.log c.is_fresh.ensures)
    c.requires.node c.requires.primary c.ask_in.ensures c.in-Err.fault c.in-Err.is c.in_ok-cause-in-Err.ensures.0

pub returns-in-Err-clause-ok : goal.returns-in-Err-clause-ok
returns-in-Err-clause-ok g c = spent_starts g.D.Dir.cells c.args.cluster.now c.cluster.inside.places.items c.ask_in.new.places.items c.cluster.inside.ledger c.reserve.new.self c.cluster.inside.tasks c.args.at c.args.p c.args.factor c.ask_in.result c.cluster.view_is c.requires.running c.cluster.invariant
    c.in_ok-reserve.ensures.log c.in_ok-reserve.ensures.nodes c.in_ok-reserve.ensures.cut (legal_of c.book-book.ensures.nodes c.book-book.ensures.log c.is_legal.ensures.legal) (turns_of c.book-book.ensures.log c.is_legal.ensures.turns) (fresh_of c.book-book.ensures.log c.is_fresh.ensures)
    c.requires.node c.requires.primary c.ask_in.ensures c.in-Err.fault c.in_ok-cause-in-Err.cause c.in-Err.is c.in_ok-cause-in-Err.ensures.0 c.in_ok-cause-in-Err.ensures.1
    (calls_in c.cluster.inside.carries c.ask_in.new.places.items) c.reserve.new.self.cut (sizes_in c.ask_in.new.places.items) (copies_in c.ask_in.new.places.items) (jobs_in c.ask_in.new.places.items) _ _

pub show_merging-requires-clause-rule : goal.show_merging-requires-clause-rule
show_merging-requires-clause-rule g c = subst (λ (l : Log). MayStartMerge (printed l) c.args.at c.in-Ok-Some.task.seg) (sym c.in_ok-reserve.ensures.log)
    (merging_rule g.D.Dir.cells c.args.cluster.now c.cluster.inside.places.items c.ask_in.new.places.items c.cluster.inside.ledger c.reserve.new.self c.cluster.inside.tasks c.args.at c.args.p c.args.factor c.ask_in.result c.cluster.view_is c.requires.running c.cluster.invariant
    c.in_ok-reserve.ensures.log c.in_ok-reserve.ensures.nodes c.in_ok-reserve.ensures.cut (legal_of c.book-book.ensures.nodes c.book-book.ensures.log c.is_legal.ensures.legal) (turns_of c.book-book.ensures.log c.is_legal.ensures.turns) (fresh_of c.book-book.ensures.log c.is_fresh.ensures)
    c.requires.node c.requires.primary c.ask_in.ensures c.in-Ok-Some.task (c.in-Ok-Some.is ∙ ap Ok c.in-Ok-Some.field-0-is))

pub invariant_of-cluster-2 : goal.invariant_of-cluster-2
invariant_of-cluster-2 g c = λ running. started_all g.D.Dir.cells c.args.cluster.now c.cluster.inside.places.items c.ask_in.new.places.items c.cluster.inside.ledger c.reserve.new.self c.cluster.inside.tasks c.args.at c.args.p c.args.factor c.ask_in.result c.cluster.view_is c.requires.running c.cluster.invariant
    c.in_ok-reserve.ensures.log c.in_ok-reserve.ensures.nodes c.in_ok-reserve.ensures.cut (legal_of c.book-book.ensures.nodes c.book-book.ensures.log c.is_legal.ensures.legal) (turns_of c.book-book.ensures.log c.is_legal.ensures.turns) (fresh_of c.book-book.ensures.log c.is_fresh.ensures)
    c.requires.node c.requires.primary c.ask_in.ensures c.in-Ok-Some.task (c.in-Ok-Some.is ∙ ap Ok c.in-Ok-Some.field-0-is)
    c.show_merging.new.self c.keep.new.self c.in_ok-inputs.inputs c.in_ok-sizes.sizes c.begin.new.self c.in_ok-inputs.ensures c.in_ok-sizes.ensures c.show_merging.ensures.log c.show_merging.ensures.nodes c.show_merging.ensures.cut
    c.keep.ensures.log c.keep.ensures.nodes c.keep.ensures.cut c.in_ok-begin.ensures.rows c.in_ok-begin.ensures.posted c.begin.ensures.counts

pub returns-clause-ok : goal.returns-clause-ok
returns-clause-ok g c = begins_merge g.D.Dir.cells c.args.cluster.now c.cluster.inside.places.items c.ask_in.new.places.items c.cluster.inside.ledger c.reserve.new.self c.cluster.inside.tasks c.args.at c.args.p c.args.factor c.ask_in.result c.cluster.view_is c.requires.running c.cluster.invariant
    c.in_ok-reserve.ensures.log c.in_ok-reserve.ensures.nodes c.in_ok-reserve.ensures.cut (legal_of c.book-book.ensures.nodes c.book-book.ensures.log c.is_legal.ensures.legal) (turns_of c.book-book.ensures.log c.is_legal.ensures.turns) (fresh_of c.book-book.ensures.log c.is_fresh.ensures)
    c.requires.node c.requires.primary c.ask_in.ensures c.in-Ok-Some.task (c.in-Ok-Some.is ∙ ap Ok c.in-Ok-Some.field-0-is)
    c.show_merging.new.self c.keep.new.self c.in_ok-inputs.inputs c.in_ok-sizes.sizes c.begin.new.self c.in_ok-inputs.ensures c.in_ok-sizes.ensures c.show_merging.ensures.log c.show_merging.ensures.nodes c.show_merging.ensures.cut
    c.keep.ensures.log c.keep.ensures.nodes c.keep.ensures.cut c.in_ok-begin.ensures.rows c.in_ok-begin.ensures.posted c.begin.ensures.counts

pub returns-in-Ok-None-clause-rest : goal.returns-in-Ok-None-clause-rest
returns-in-Ok-None-clause-rest g c = all_sized c.args.cluster.now _ _ _ _ _ _ _ _ c.cluster.inside.places.items c.ask_in.new.places.items (ap (λ (x : Run). x.rest) c.cluster.view_is) refl c.in_ok-reserve.ensures.cut refl
    (same_told c.args.p.0 c.ask_in.ensures.primary c.cluster.inside.places.items c.ask_in.new.places.items c.ask_in.ensures.at c.ask_in.ensures.moves (asked_none c.args.factor c.ask_in.ensures.at.parts c.ask_in.ensures.primary c.ask_in.result (c.in-Ok-None.is ∙ ap Ok c.in-Ok-None.field-0-is) c.ask_in.ensures.step.answers))

pub returns-in-Err-clause-rest : goal.returns-in-Err-clause-rest
returns-in-Err-clause-rest g c = all_sized c.args.cluster.now _ _ _ _ _ _ _ _ c.cluster.inside.places.items c.ask_in.new.places.items (ap (λ (x : Run). x.rest) c.cluster.view_is) refl c.in_ok-reserve.ensures.cut refl
    (same_told c.args.p.0 c.ask_in.ensures.primary c.cluster.inside.places.items c.ask_in.new.places.items c.ask_in.ensures.at c.ask_in.ensures.moves (asked_spent c.args.factor c.ask_in.ensures.at.parts c.ask_in.ensures.primary c.ask_in.result c.in-Err.fault c.in-Err.is c.in_ok-cause-in-Err.ensures.0 c.ask_in.ensures.step.answers))

pub returns-clause-rest : goal.returns-clause-rest
returns-clause-rest g c = but_sizes c.args.cluster.now _ _ _ _ _ _ _ _ c.cluster.inside.places.items c.ask_in.new.places.items (ap (λ (x : Run). x.rest) c.cluster.view_is) refl (c.keep.ensures.cut ∙ (c.show_merging.ensures.cut ∙ c.in_ok-reserve.ensures.cut))
    (λ same. absurd (more_rows c.args.at c.args.factor c.args.cluster.now _ (returns-clause-ok g c) same))
    (primary_told c.args.p.0 c.ask_in.ensures.primary c.cluster.inside.places.items c.ask_in.new.places.items c.ask_in.ensures.at c.ask_in.ensures.moves (asked_commits c.args.factor c.ask_in.ensures.at.parts c.ask_in.ensures.primary c.ask_in.result c.ask_in.ensures.step.answers))
