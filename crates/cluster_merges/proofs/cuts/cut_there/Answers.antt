use Rattle.std.proofs.Common.{◌+◌, ◌∙◌, ℕ, List, true, false, ap, sym, subst}
use Rattle.history_book.specs.declared.inner.Step.TheVariants.{Cut as CutStep}
use Rattle.merge_tasks.specs.declared.drains.DrainCount.{DrainCount}
use Rattle.merge_tasks.specs.Board.{done_under, counts_one}
use Rattle.cluster_state.specs.Met.{has_risen}
use Rattle.cluster_merges.specs.TaskMet.{mets, behind, EndsBehind}
use Rattle.cluster_merges.proofs.CutPaths.{has_row, has_spread, is_on, may_cut, cut_all, cut_given}
use Rattle.cluster_merges.proofs.TaskBehind.{primary_behind, calm_behind, all_behind, as_many_met, went_done, went_failed}
use Rattle.index_primary.specs.declared.parts.PrimaryParts.{PrimaryParts}
use Rattle.cluster_merges.proofs.KeptMerges.{primary_told}
use Rattle.history_rules.specs.Nodes.{primary_of}
use Rattle.history_book.specs.Log.{Log, printed}
use Rattle.cluster_merges.proofs.SizesCut.{sizes_cut}
use Rattle.cluster_merges.proofs.SizesEnded.{sizes_given}
use Rattle.cluster_merges.proofs.cuts.cut_there.Goals as goal

pub close-requires : goal.close-requires
close-requires g c = has_row g.D.Dir.cells c.args.places.now.items c.args.ledger.now c.args.tasks.now c.args.p c.args.seg c.requires.shown c.requires.node c.requires.primary c.requires.copied c.requires.calm

pub unreachable-requires : goal.unreachable-requires
unreachable-requires g c = has_spread g.D.Dir.cells c.args.places.now.items c.args.ledger.now c.args.tasks.now c.args.p c.args.seg c.requires.shown c.requires.node c.requires.primary c.requires.copied c.requires.calm c.close.result c.close.ensures.spread c.in_default.not-Some

pub cut_in-requires : goal.cut_in-requires
cut_in-requires g c = may_cut g.D.Dir.cells c.args.places.now.items c.args.ledger.now c.args.tasks.now c.args.p c.args.seg c.requires.shown c.requires.node c.requires.primary c.requires.copied c.requires.calm c.in-Some.spread c.in-Some.ensures.spread

-- ---- it was cut over

pub end_behind-requires-clause-count : goal.end_behind-requires-clause-count
end_behind-requires-clause-count g c = as_many_met g.D.FaultDir.planned c.args.before.now c.args.places.now.items c.args.ledger.now.nodes c.requires.before c.requires.shown.0.count

pub end_behind-requires-clause-places : goal.end_behind-requires-clause-places
end_behind-requires-clause-places g c = (went_done _ _ c.in_ok-went.went _ c.in-Done.is c.in_ok-went.ensures).moves.count ∙ c.requires.shown.0.count

pub end_behind-requires-clause-on : goal.end_behind-requires-clause-on
end_behind-requires-clause-on g c = is_on g.D.Dir.cells c.args.places.now.items c.args.ledger.now c.args.tasks.now c.args.p c.args.seg c.requires.shown c.requires.node c.requires.primary c.requires.copied c.requires.calm

pub end_behind-requires-clause-calm : goal.end_behind-requires-clause-calm
end_behind-requires-clause-calm g c cut = c.requires.calm

pub returns-in-Done-clause-shown : goal.returns-in-Done-clause-shown
returns-in-Done-clause-shown g c =
    cut_all g.D.Dir.cells c.args.places.now.items (behind c.args.at c.args.before.now (mets g.D.FaultDir.planned c.cut_in.new.places.items) c.args.ledger.now) c.args.tasks.now c.args.p c.args.seg
    (all_behind c.args.at c.args.before.now (mets g.D.FaultDir.planned c.cut_in.new.places.items) g.D.Dir.cells c.args.ledger.now c.args.tasks.now c.args.places.now.items c.requires.shown)
    c.requires.node (primary_behind c.args.at c.args.before.now (mets g.D.FaultDir.planned c.cut_in.new.places.items) c.args.ledger.now.log c.args.p c.requires.primary) c.requires.copied (calm_behind c.args.at c.args.before.now (mets g.D.FaultDir.planned c.cut_in.new.places.items) c.args.ledger.now.log c.requires.calm)
    c.in-Some.spread c.in-Some.ensures.spread c.files_last.ensures c.cut_in.new.places.items (went_done _ _ c.in_ok-went.went _ c.in-Done.is c.in_ok-went.ensures)
    c.end_behind.new.ledger c.count.new.self c.args.line c.args.by c.in_ok-end_behind-in-Done.ensures.ok.log c.in_ok-end_behind-in-Done.ensures.ok.nodes c.in_ok-end_behind-in-Done.ensures.ok.cut_is
    (c.count.ensures.rows ∙ c.close.ensures.rows) (c.count.ensures.posted ∙ c.close.ensures.posted)
    (λ x. c.in_ok-count.ensures.counts x ∙ ap (λ (l : List DrainCount). done_under x l + counts_one x c.args.by) c.close.ensures.counts)

pub returns-in-Done-clause-ok : goal.returns-in-Done-clause-ok
returns-in-Done-clause-ok g c = record {
  behind = subst (λ (olds : List (ℕ × ℕ)). EndsBehind c.args.at c.args.line c.args.seg c.args.by CutStep true olds (mets g.D.FaultDir.planned c.cut_in.new.places.items) c.args.ledger.now c.end_behind.new.ledger) c.requires.before c.in_ok-end_behind-in-Done.ensures.ok;
  rows = c.count.ensures.rows ∙ c.close.ensures.rows;
  posted = c.count.ensures.posted ∙ c.close.ensures.posted;
  counts = (λ x. c.in_ok-count.ensures.counts x ∙ ap (λ (l : List DrainCount). done_under x l + counts_one x c.args.by) c.close.ensures.counts);
  sizes = sizes_cut g.D.Dir.cells c.args.ledger.now c.end_behind.new.ledger c.args.places.now.items c.cut_in.new.places.items c.args.p c.requires.shown.0 (returns-in-Done-clause-shown g c).0 c.requires.node c.in_ok-end_behind-in-Done.ensures.ok.nodes c.requires.primary
      (ap (λ (l : Log). primary_of (printed l)) c.in_ok-end_behind-in-Done.ensures.ok.log ∙ primary_behind c.args.at c.args.before.now (mets g.D.FaultDir.planned c.cut_in.new.places.items) c.args.ledger.now.log c.args.p c.requires.primary) c.args.seg _ (went_done _ _ c.in_ok-went.went _ c.in-Done.is c.in_ok-went.ensures);
}

-- ---- it was given up

pub has_risen-requires : goal.has_risen-requires
has_risen-requires g c = record { count = ((went_failed _ _ c.in_ok-went.went c.in-Failed.is c.in_ok-went.ensures).moves.count ∙ c.requires.shown.0.count) ∙ sym (as_many_met g.D.FaultDir.planned c.args.before.now c.args.places.now.items c.args.ledger.now.nodes c.requires.before c.requires.shown.0.count) }

pub end_behind-requires-in-Failed-clause-count : goal.end_behind-requires-in-Failed-clause-count
end_behind-requires-in-Failed-clause-count g c = as_many_met g.D.FaultDir.planned c.args.before.now c.args.places.now.items c.args.ledger.now.nodes c.requires.before c.requires.shown.0.count

pub end_behind-requires-in-Failed-clause-places : goal.end_behind-requires-in-Failed-clause-places
end_behind-requires-in-Failed-clause-places g c = (went_failed _ _ c.in_ok-went.went c.in-Failed.is c.in_ok-went.ensures).moves.count ∙ c.requires.shown.0.count

pub end_behind-requires-in-Failed-clause-on : goal.end_behind-requires-in-Failed-clause-on
end_behind-requires-in-Failed-clause-on g c = is_on g.D.Dir.cells c.args.places.now.items c.args.ledger.now c.args.tasks.now c.args.p c.args.seg c.requires.shown c.requires.node c.requires.primary c.requires.copied c.requires.calm

pub returns-clause-shown : goal.returns-clause-shown
returns-clause-shown g c =
    cut_given g.D.Dir.cells c.args.places.now.items (behind c.args.at c.args.before.now (mets g.D.FaultDir.planned c.cut_in.new.places.items) c.args.ledger.now) c.args.tasks.now c.args.p c.args.seg
    (all_behind c.args.at c.args.before.now (mets g.D.FaultDir.planned c.cut_in.new.places.items) g.D.Dir.cells c.args.ledger.now c.args.tasks.now c.args.places.now.items c.requires.shown)
    c.requires.node (primary_behind c.args.at c.args.before.now (mets g.D.FaultDir.planned c.cut_in.new.places.items) c.args.ledger.now.log c.args.p c.requires.primary) c.requires.copied (calm_behind c.args.at c.args.before.now (mets g.D.FaultDir.planned c.cut_in.new.places.items) c.args.ledger.now.log c.requires.calm)
    c.in-Some.spread c.in-Some.ensures.spread c.files_last.ensures c.cut_in.new.places.items (went_failed _ _ c.in_ok-went.went c.in-Failed.is c.in_ok-went.ensures)
    c.end_behind-in-Failed.new.ledger c.count.new.self c.args.line c.args.by c.in_ok-end_behind-in-Failed.ensures.ok.log c.in_ok-end_behind-in-Failed.ensures.ok.nodes c.in_ok-end_behind-in-Failed.ensures.ok.cut_is
    (c.count.ensures.rows ∙ c.close.ensures.rows) (c.count.ensures.posted ∙ c.close.ensures.posted)
    (λ x. c.in_ok-count.ensures.counts x ∙ ap (λ (l : List DrainCount). done_under x l + counts_one x c.args.by) c.close.ensures.counts)

pub returns-clause-ok : goal.returns-clause-ok
returns-clause-ok g c = record {
  merge = record {
    behind = subst (λ (olds : List (ℕ × ℕ)). EndsBehind c.args.at c.args.line c.args.seg c.args.by CutStep false olds (mets g.D.FaultDir.planned c.cut_in.new.places.items) c.args.ledger.now c.end_behind-in-Failed.new.ledger) c.requires.before c.in_ok-end_behind-in-Failed.ensures.ok;
    rows = c.count.ensures.rows ∙ c.close.ensures.rows;
    posted = c.count.ensures.posted ∙ c.close.ensures.posted;
    counts = (λ x. c.in_ok-count.ensures.counts x ∙ ap (λ (l : List DrainCount). done_under x l + counts_one x c.args.by) c.close.ensures.counts);
    sizes = sizes_given g.D.Dir.cells c.args.ledger.now c.end_behind-in-Failed.new.ledger c.args.places.now.items c.cut_in.new.places.items c.args.p c.requires.shown.0 (returns-clause-shown g c).0 c.requires.node c.in_ok-end_behind-in-Failed.ensures.ok.nodes c.requires.primary
        (ap (λ (l : Log). primary_of (printed l)) c.in_ok-end_behind-in-Failed.ensures.ok.log ∙ primary_behind c.args.at c.args.before.now (mets g.D.FaultDir.planned c.cut_in.new.places.items) c.args.ledger.now.log c.args.p c.requires.primary) c.args.seg _ (went_failed _ _ c.in_ok-went.went c.in-Failed.is c.in_ok-went.ensures);
  };
  risen = ap (λ (olds : List (ℕ × ℕ)). has_risen c.args.p.0 1 olds (mets g.D.FaultDir.planned c.cut_in.new.places.items)) (sym c.requires.before) ∙ (sym c.has_risen.ensures ∙ c.if-not-has_risen.false);
}

pub returns-in-Done-clause-rest : goal.returns-in-Done-clause-rest
returns-in-Done-clause-rest g c = primary_told c.args.p.0 (went_done _ _ c.in_ok-went.went _ c.in-Done.is c.in_ok-went.ensures).primary c.args.places.now.items c.cut_in.new.places.items (went_done _ _ c.in_ok-went.went _ c.in-Done.is c.in_ok-went.ensures).at (went_done _ _ c.in_ok-went.went _ c.in-Done.is c.in_ok-went.ensures).moves (ap (λ (z : PrimaryParts _). z.commits) (went_done _ _ c.in_ok-went.went _ c.in-Done.is c.in_ok-went.ensures).step.others)

pub returns-clause-rest : goal.returns-clause-rest
returns-clause-rest g c = primary_told c.args.p.0 (went_failed _ _ c.in_ok-went.went c.in-Failed.is c.in_ok-went.ensures).primary c.args.places.now.items c.cut_in.new.places.items (went_failed _ _ c.in_ok-went.went c.in-Failed.is c.in_ok-went.ensures).at (went_failed _ _ c.in_ok-went.went c.in-Failed.is c.in_ok-went.ensures).moves (ap (λ (z : PrimaryParts _). z.commits) (went_failed _ _ c.in_ok-went.went c.in-Failed.is c.in_ok-went.ensures).step.others)
