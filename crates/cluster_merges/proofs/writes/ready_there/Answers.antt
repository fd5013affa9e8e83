use Rattle.std.proofs.Common.{◌≡◌, ◌+◌, ◌∙◌, ℕ, List, Option, length, false, ap, sym, subst, arith}
use Rattle.history_rules.specs.Nodes.{primary_of}
use Rattle.history_book.specs.Log.{Log, printed}
use Rattle.history_book.specs.declared.inner.Step.TheVariants.{Merge as MergeStep}
use Rattle.merge_tasks.specs.declared.drains.DrainCount.{DrainCount}
use Rattle.merge_tasks.specs.declared.tasks.Sent.{Sent}
use Rattle.merge_tasks.specs.declared.tasks.OpenMerge.{OpenMerge}
use Rattle.merge_tasks.specs.declared.tasks.Spread.{Spread}
use Rattle.merge_tasks.specs.Board.{open_merge, spread_at, done_under, counts_one}
use Rattle.index_primary.specs.declared.parts.PrimaryParts.{PrimaryParts}
use Rattle.cluster_merges.specs.MergesKept.{TellsBuilt}
use Rattle.cluster_merges.proofs.KeptMerges.{primary_told, none_open}
use Rattle.cluster_merges.proofs.SizesEnded.{sizes_given}
use Rattle.cluster_state.specs.Met.{has_risen}
use Rattle.cluster_merges.specs.TaskMet.{mets, behind, EndsBehind, WritesBehind}
use Rattle.cluster_merges.specs.MergePaths.{begun_log}
use Rattle.cluster_merges.proofs.ReadyPaths.{can_ready, open_there, is_on, ready_given, is_copy, may_send_all, written_at, has_spread, sent_count, as_many, ready_all, built_told, writes_merge}
use Rattle.cluster_merges.proofs.TaskBehind.{primary_behind, out_behind, all_behind, as_many_met, went_done, went_failed}
use Rattle.cluster_merges.proofs.writes.ready_there.Goals as goal

pub ready_in-requires : goal.ready_in-requires
ready_in-requires g c = can_ready g.D.Dir.cells c.args.ledger.now c.args.tasks.now c.args.places.now.items c.args.p c.args.seg c.args.merged c.requires.shown c.requires.node c.requires.primary c.requires.unwritten c.requires.merged

-- ---- it was given up

pub close-requires : goal.close-requires
close-requires g c = open_there g.D.Dir.cells c.args.ledger.now c.args.tasks.now c.args.places.now.items c.args.p c.args.seg c.args.merged c.requires.shown c.requires.node c.requires.primary c.requires.unwritten c.requires.merged

pub has_risen-requires : goal.has_risen-requires
has_risen-requires g c = record { count = ((went_failed _ _ _ c.in-Failed.is c.in_ok-ready_in.ensures).moves.count ∙ c.requires.shown.0.count) ∙ sym (as_many_met g.D.FaultDir.planned c.args.before.now c.args.places.now.items c.args.ledger.now.nodes c.requires.before c.requires.shown.0.count) }

pub end_behind-requires-clause-count : goal.end_behind-requires-clause-count
end_behind-requires-clause-count g c = as_many_met g.D.FaultDir.planned c.args.before.now c.args.places.now.items c.args.ledger.now.nodes c.requires.before c.requires.shown.0.count

pub end_behind-requires-clause-places : goal.end_behind-requires-clause-places
end_behind-requires-clause-places g c = (went_failed _ _ _ c.in-Failed.is c.in_ok-ready_in.ensures).moves.count ∙ c.requires.shown.0.count

pub end_behind-requires-clause-on : goal.end_behind-requires-clause-on
end_behind-requires-clause-on g c = is_on g.D.Dir.cells c.args.ledger.now c.args.tasks.now c.args.places.now.items c.args.p c.args.seg c.args.merged c.requires.shown c.requires.node c.requires.primary c.requires.unwritten c.requires.merged

pub returns-in_ok-end_behind-in-Failed-clause-shown : goal.returns-in_ok-end_behind-in-Failed-clause-shown
returns-in_ok-end_behind-in-Failed-clause-shown g c =
    ready_given g.D.Dir.cells (behind c.args.at c.args.before.now (mets g.D.FaultDir.planned c.ready_in.new.places.items) c.args.ledger.now) c.args.tasks.now c.args.places.now.items c.args.p c.args.seg c.args.merged
    (all_behind c.args.at c.args.before.now (mets g.D.FaultDir.planned c.ready_in.new.places.items) g.D.Dir.cells c.args.ledger.now c.args.tasks.now c.args.places.now.items c.requires.shown) c.requires.node
    (primary_behind c.args.at c.args.before.now (mets g.D.FaultDir.planned c.ready_in.new.places.items) c.args.ledger.now.log c.args.p c.requires.primary) c.requires.unwritten (out_behind c.args.at c.args.before.now (mets g.D.FaultDir.planned c.ready_in.new.places.items) c.args.ledger.now.log c.args.seg c.args.merged c.requires.merged)
    c.files_last.ensures c.ready_in.new.places.items (went_failed _ _ _ c.in-Failed.is c.in_ok-ready_in.ensures)
    c.end_behind.new.ledger c.count.new.self c.args.line c.args.by c.in_ok-end_behind-in-Failed.ensures.ok.log c.in_ok-end_behind-in-Failed.ensures.ok.nodes c.in_ok-end_behind-in-Failed.ensures.ok.cut_is
    (c.count.ensures.rows ∙ c.close.ensures.rows) (c.count.ensures.posted ∙ c.close.ensures.posted)
    (λ x. c.in_ok-count-in-Failed.ensures.counts x ∙ ap (λ (l : List DrainCount). done_under x l + counts_one x c.args.by) c.close.ensures.counts)

pub returns-in_ok-end_behind-in-Failed-clause-ok : goal.returns-in_ok-end_behind-in-Failed-clause-ok
returns-in_ok-end_behind-in-Failed-clause-ok g c = record {
  merge = record {
    behind = subst (λ (olds : List (ℕ × ℕ)). EndsBehind c.args.at c.args.line c.args.seg c.args.by MergeStep false olds (mets g.D.FaultDir.planned c.ready_in.new.places.items) c.args.ledger.now c.end_behind.new.ledger) c.requires.before c.in_ok-end_behind-in-Failed.ensures.ok;
    rows = c.count.ensures.rows ∙ c.close.ensures.rows;
    posted = c.count.ensures.posted ∙ c.close.ensures.posted;
    counts = (λ x. c.in_ok-count-in-Failed.ensures.counts x ∙ ap (λ (l : List DrainCount). done_under x l + counts_one x c.args.by) c.close.ensures.counts);
    sizes = sizes_given g.D.Dir.cells c.args.ledger.now c.end_behind.new.ledger c.args.places.now.items c.ready_in.new.places.items c.args.p c.requires.shown.0 (returns-in_ok-end_behind-in-Failed-clause-shown g c).0 c.requires.node c.in_ok-end_behind-in-Failed.ensures.ok.nodes c.requires.primary
        (ap (λ (l : Log). primary_of (printed l)) c.in_ok-end_behind-in-Failed.ensures.ok.log ∙ primary_behind c.args.at c.args.before.now (mets g.D.FaultDir.planned c.ready_in.new.places.items) c.args.ledger.now.log c.args.p c.requires.primary) c.args.merged.files.seg _ (went_failed _ _ _ c.in-Failed.is c.in_ok-ready_in.ensures);
  };
  risen = ap (λ (olds : List (ℕ × ℕ)). has_risen c.args.p.0 1 olds (mets g.D.FaultDir.planned c.ready_in.new.places.items)) (sym c.requires.before) ∙ (sym c.has_risen.ensures ∙ c.if-not-has_risen.false);
}

-- ---- it was written

pub write-requires : goal.write-requires
write-requires g c = open_there g.D.Dir.cells c.args.ledger.now c.args.tasks.now c.args.places.now.items c.args.p c.args.seg c.args.merged c.requires.shown c.requires.node c.requires.primary c.requires.unwritten c.requires.merged

pub send_all-requires-clause-copy : goal.send_all-requires-clause-copy
send_all-requires-clause-copy g c = is_copy g.D.Dir.cells c.args.ledger.now c.args.tasks.now c.args.places.now.items c.args.p c.args.seg c.args.merged c.requires.shown c.requires.node c.requires.primary c.requires.unwritten c.requires.merged c.in-Done.state c.ready_in.new.places.items (went_done _ _ _ c.in-Done.state c.in-Done.is c.in_ok-ready_in.ensures) c.in_ok-copy-in-Done.copy c.in_ok-copy-in-Done.ensures c.args.nodes.now c.requires.replicas

pub send_all-requires-clause-may : goal.send_all-requires-clause-may
send_all-requires-clause-may g c = may_send_all g.D.Dir.cells c.args.ledger.now c.args.tasks.now c.args.places.now.items c.args.p c.args.seg c.args.merged c.requires.shown c.requires.node c.requires.primary c.requires.unwritten c.requires.merged c.in-Done.state c.ready_in.new.places.items (went_done _ _ _ c.in-Done.state c.in-Done.is c.in_ok-ready_in.ensures) c.in_ok-copy-in-Done.copy c.in_ok-copy-in-Done.ensures c.args.nodes.now c.requires.replicas

pub send_all-requires-clause-written : goal.send_all-requires-clause-written
send_all-requires-clause-written g c = written_at g.D.Dir.cells c.args.ledger.now c.args.tasks.now c.args.places.now.items c.args.p c.args.seg c.args.merged c.requires.shown c.requires.node c.requires.primary c.requires.unwritten c.requires.merged c.in-Done.state c.ready_in.new.places.items (went_done _ _ _ c.in-Done.state c.in-Done.is c.in_ok-ready_in.ensures) c.in_ok-copy-in-Done.copy c.in_ok-copy-in-Done.ensures c.args.nodes.now c.requires.replicas c.write.new.self c.write.ensures.rows c.write.ensures.posted c.write.ensures.counts

pub post-requires : goal.post-requires
post-requires g c = has_spread g.D.Dir.cells c.args.ledger.now c.args.tasks.now c.args.places.now.items c.args.p c.args.seg c.args.merged c.requires.shown c.requires.node c.requires.primary c.requires.unwritten c.requires.merged c.in-Done.state c.ready_in.new.places.items (went_done _ _ _ c.in-Done.state c.in-Done.is c.in_ok-ready_in.ensures) c.in_ok-copy-in-Done.copy c.in_ok-copy-in-Done.ensures c.args.nodes.now c.requires.replicas c.write.new.self c.write.ensures.rows c.write.ensures.posted c.write.ensures.counts c.in_ok-sent-in-Done.sent.items c.send_all.new.tasks c.send_all.new.places.items c.in_ok-sent-in-Done.ensures

pub show_task_met-requires-clause-count : goal.show_task_met-requires-clause-count
show_task_met-requires-clause-count g c = as_many_met g.D.FaultDir.planned c.args.before.now c.args.places.now.items c.args.ledger.now.nodes c.requires.before c.requires.shown.0.count

pub show_task_met-requires-clause-places : goal.show_task_met-requires-clause-places
show_task_met-requires-clause-places g c = sent_count g.D.Dir.cells c.args.ledger.now c.args.tasks.now c.args.places.now.items c.args.p c.args.seg c.args.merged c.requires.shown c.requires.node c.requires.primary c.requires.unwritten c.requires.merged c.in-Done.state c.ready_in.new.places.items (went_done _ _ _ c.in-Done.state c.in-Done.is c.in_ok-ready_in.ensures) c.in_ok-copy-in-Done.copy c.in_ok-copy-in-Done.ensures c.args.nodes.now c.requires.replicas c.write.new.self c.write.ensures.rows c.write.ensures.posted c.write.ensures.counts c.in_ok-sent-in-Done.sent.items c.send_all.new.tasks c.send_all.new.places.items c.in_ok-sent-in-Done.ensures c.files_last.ensures

pub note_begun-requires : goal.note_begun-requires
note_begun-requires g c = record {
  room =
      let many = as_many g.D.Dir.cells c.args.ledger.now c.args.tasks.now c.args.places.now.items c.args.p c.args.seg c.args.merged c.requires.shown c.requires.node c.requires.primary c.requires.unwritten c.requires.merged c.in-Done.state c.ready_in.new.places.items (went_done _ _ _ c.in-Done.state c.in-Done.is c.in_ok-ready_in.ensures) c.in_ok-copy-in-Done.copy c.in_ok-copy-in-Done.ensures c.args.nodes.now c.requires.replicas c.write.new.self c.write.ensures.rows c.write.ensures.posted c.write.ensures.counts c.in_ok-sent-in-Done.sent.items c.send_all.new.tasks c.send_all.new.places.items c.in_ok-sent-in-Done.ensures in
      let listed : length c.as_slice.result.now ≡ length c.in_ok-sent-in-Done.sent.items = ap length c.as_slice.ensures.value in
      let room = c.requires.room in
      let left = c.show_task_met.ensures.room in
      omega (arith, many, listed, room, left);
}

pub returns-in_ok-show_task_met-in-Done-clause-shown : goal.returns-in_ok-show_task_met-in-Done-clause-shown
returns-in_ok-show_task_met-in-Done-clause-shown g c = ready_all g.D.Dir.cells c.args.ledger.now c.args.tasks.now c.args.places.now.items c.args.p c.args.seg c.args.merged c.requires.shown c.requires.node c.requires.primary c.requires.unwritten c.requires.merged c.in-Done.state c.ready_in.new.places.items (went_done _ _ _ c.in-Done.state c.in-Done.is c.in_ok-ready_in.ensures) c.in_ok-copy-in-Done.copy c.in_ok-copy-in-Done.ensures c.args.nodes.now c.requires.replicas c.write.new.self c.write.ensures.rows c.write.ensures.posted c.write.ensures.counts c.in_ok-sent-in-Done.sent.items c.send_all.new.tasks c.send_all.new.places.items c.in_ok-sent-in-Done.ensures c.args.line c.args.by c.args.at c.args.before.now (mets g.D.FaultDir.planned c.send_all.new.places.items)
    c.note_begun.new.ledger c.keep.new.self (c.note_begun.ensures.log ∙ (ap (λ (l : List Sent). begun_log c.args.line l c.show_task_met.new.ledger.log) c.as_slice.ensures.value ∙ ap (λ (l : Log). begun_log c.args.line c.in_ok-sent-in-Done.sent.items l) c.in_ok-show_task_met-in-Done.ensures.log))
    (c.note_begun.ensures.nodes ∙ c.show_task_met.ensures.nodes) (c.note_begun.ensures.cut ∙ c.show_task_met.ensures.cut) c.keep.ensures.log c.keep.ensures.nodes c.keep.ensures.cut
    c.post.new.self c.count-in-Done.new.self c.in_ok-post-in-Done.ensures.rows c.in_ok-post-in-Done.ensures.posted c.post.ensures.counts c.count-in-Done.ensures.rows c.count-in-Done.ensures.posted c.in_ok-count-in-Done.ensures.counts c.files_last.ensures

pub returns-in_ok-show_task_met-in-Done-clause-ok : goal.returns-in_ok-show_task_met-in-Done-clause-ok
returns-in_ok-show_task_met-in-Done-clause-ok g c =
    subst (λ (olds : List (ℕ × ℕ)). WritesBehind c.args.at c.args.line c.args.seg c.args.by olds (mets g.D.FaultDir.planned c.send_all.new.places.items) c.args.ledger.now c.keep.new.self c.args.tasks.now c.count-in-Done.new.self) c.requires.before
    (writes_merge g.D.Dir.cells c.args.ledger.now c.args.tasks.now c.args.places.now.items c.args.p c.args.seg c.args.merged c.requires.shown c.requires.node c.requires.primary c.requires.unwritten c.requires.merged c.in-Done.state c.ready_in.new.places.items (went_done _ _ _ c.in-Done.state c.in-Done.is c.in_ok-ready_in.ensures) c.in_ok-copy-in-Done.copy c.in_ok-copy-in-Done.ensures c.args.nodes.now c.requires.replicas c.write.new.self c.write.ensures.rows c.write.ensures.posted c.write.ensures.counts c.in_ok-sent-in-Done.sent.items c.send_all.new.tasks c.send_all.new.places.items c.in_ok-sent-in-Done.ensures c.args.line c.args.by c.args.at c.args.before.now (mets g.D.FaultDir.planned c.send_all.new.places.items)
    c.note_begun.new.ledger c.keep.new.self (c.note_begun.ensures.log ∙ (ap (λ (l : List Sent). begun_log c.args.line l c.show_task_met.new.ledger.log) c.as_slice.ensures.value ∙ ap (λ (l : Log). begun_log c.args.line c.in_ok-sent-in-Done.sent.items l) c.in_ok-show_task_met-in-Done.ensures.log))
    (c.note_begun.ensures.nodes ∙ c.show_task_met.ensures.nodes) (c.note_begun.ensures.cut ∙ c.show_task_met.ensures.cut) c.keep.ensures.log c.keep.ensures.nodes c.keep.ensures.cut
    c.post.new.self c.count-in-Done.new.self c.in_ok-post-in-Done.ensures.rows c.in_ok-post-in-Done.ensures.posted c.post.ensures.counts c.count-in-Done.ensures.rows c.count-in-Done.ensures.posted c.in_ok-count-in-Done.ensures.counts)

-- ---- what callers are told

pub returns-in_ok-end_behind-in-Failed-clause-rest : goal.returns-in_ok-end_behind-in-Failed-clause-rest
returns-in_ok-end_behind-in-Failed-clause-rest g c =
    let failed = went_failed _ _ _ c.in-Failed.is c.in_ok-ready_in.ensures in
    subst (λ (o : Option Spread). TellsBuilt c.args.ledger.now.log o c.args.places.now.items c.ready_in.new.places.items)
    (sym (ap (λ (l : List OpenMerge). spread_at (open_merge c.args.seg.0 l)) (c.count.ensures.rows ∙ c.close.ensures.rows) ∙ ap spread_at (none_open c.args.tasks.now.rows c.args.seg.0)))
    (primary_told c.args.p.0 failed.primary c.args.places.now.items c.ready_in.new.places.items failed.at failed.moves (ap (λ (z : PrimaryParts _). z.commits) failed.step.others))

pub returns-in_ok-end_behind-in-Failed-clause-cut : goal.returns-in_ok-end_behind-in-Failed-clause-cut
returns-in_ok-end_behind-in-Failed-clause-cut g c = c.in_ok-end_behind-in-Failed.ensures.ok.cut_is

pub returns-in_ok-show_task_met-in-Done-clause-rest : goal.returns-in_ok-show_task_met-in-Done-clause-rest
returns-in_ok-show_task_met-in-Done-clause-rest g c = built_told g.D.Dir.cells c.args.ledger.now c.args.tasks.now c.args.places.now.items c.args.p c.args.seg c.args.merged c.requires.shown c.requires.node c.requires.primary c.requires.unwritten c.requires.merged c.in-Done.state c.ready_in.new.places.items (went_done _ _ _ c.in-Done.state c.in-Done.is c.in_ok-ready_in.ensures) c.in_ok-copy-in-Done.copy c.in_ok-copy-in-Done.ensures c.args.nodes.now c.requires.replicas c.write.new.self c.write.ensures.rows c.write.ensures.posted c.write.ensures.counts c.in_ok-sent-in-Done.sent.items c.send_all.new.tasks c.send_all.new.places.items c.in_ok-sent-in-Done.ensures c.args.line c.args.by c.args.at c.args.before.now (mets g.D.FaultDir.planned c.send_all.new.places.items)
    c.note_begun.new.ledger c.keep.new.self (c.note_begun.ensures.log ∙ (ap (λ (l : List Sent). begun_log c.args.line l c.show_task_met.new.ledger.log) c.as_slice.ensures.value ∙ ap (λ (l : Log). begun_log c.args.line c.in_ok-sent-in-Done.sent.items l) c.in_ok-show_task_met-in-Done.ensures.log))
    (c.note_begun.ensures.nodes ∙ c.show_task_met.ensures.nodes) (c.note_begun.ensures.cut ∙ c.show_task_met.ensures.cut) c.keep.ensures.log c.keep.ensures.nodes c.keep.ensures.cut
    c.post.new.self c.count-in-Done.new.self c.in_ok-post-in-Done.ensures.rows c.in_ok-post-in-Done.ensures.posted c.post.ensures.counts c.count-in-Done.ensures.rows c.count-in-Done.ensures.posted c.in_ok-count-in-Done.ensures.counts c.files_last.ensures

pub returns-in_ok-show_task_met-in-Done-clause-cut : goal.returns-in_ok-show_task_met-in-Done-clause-cut
returns-in_ok-show_task_met-in-Done-clause-cut g c = c.keep.ensures.cut ∙ (c.note_begun.ensures.cut ∙ c.show_task_met.ensures.cut)
