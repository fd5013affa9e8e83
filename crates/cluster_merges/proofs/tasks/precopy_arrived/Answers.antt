use Rattle.std.proofs.Common.{◌≡◌, ◌∙◌, ℕ, List, Some, Bool, true, false, ap, sym, subst, refl}
use Rattle.std.specs.Prelude.{Result}
use Rattle.copy_job.specs.declared.copying.Part.{Part}
use Rattle.copy_job.specs.declared.fault.JobFault.{JobFault}
use Rattle.copy_state.specs.Meta.{IsMetaOf}
use Rattle.copy_state.specs.declared.meta.FileMetaData.{FileMetaData}
use Rattle.link_model.specs.declared.fate.Fate.{Fate}
use Rattle.merge_tasks.specs.TaskLog.{carried_out}
use Rattle.merge_tasks.specs.Board.{Board, open_merge, spread_at, has_copy_task}
use Rattle.cluster_nodes.specs.Went.{ByWent}
use Rattle.cluster_state.specs.DueFaults.{ArrivesBy}
use Rattle.cluster_state.specs.Run.{Run}
use Rattle.cluster_state.proofs.Arrivals.{not_whole}
use Rattle.cluster_merges.specs.MergePaths.{FailsCopy, MeetsFaults}
use Rattle.cluster_merges.specs.TaskCalls.{LosesCopy, PartEnds}
use Rattle.cluster_merges.proofs.CopyCalls.{nothing_done}
use Rattle.cluster_merges.proofs.LostCopies.{loses_copy}
use Rattle.cluster_merges.proofs.tasks.precopy_arrived.Goals as goal

pub returns-then-not-has_copy_task-clause-ok : goal.returns-then-not-has_copy_task-clause-ok
returns-then-not-has_copy_task-clause-ok g c =
    let tasks : c.state.inside.tasks ≡ c.args.state.now.rest.tasks = ap (λ (r : Run). r.rest.tasks) c.state.view_is in
    let test : has_copy_task c.args.n.0 c.args.job (spread_at (open_merge c.args.seg.0 c.args.state.now.rest.tasks.rows)) ≡ false = ap (λ (b : Board). has_copy_task c.args.n.0 c.args.job (spread_at (open_merge c.args.seg.0 b.rows))) (sym tasks) ∙ sym c.if-not-has_copy_task.ensures in
    subst (λ (t : Bool). PartEnds c.args.line c.args.seg c.args.by c.args.n c.args.job c.args.file.now.fate c.args.state.now c.args.state.now t) (sym test) (nothing_done c.args.state.now c.requires.running)

pub take_merged-requires-clause-out : goal.take_merged-requires-clause-out
take_merged-requires-clause-out g c =
    let p = (subst (λ (r : Result Part JobFault). ArrivesBy c.args.file.now r) c.in-Ok.is c.requires.arrives).1 in
    (λ i. carried_out (p.name_is i) c.args.state.now.log) ∙ (c.requires.out ∙ ap (λ (x : List ℕ). Some x) (sym p.bytes_are))

pub take_merged-requires-clause-meta : goal.take_merged-requires-clause-meta
take_merged-requires-clause-meta g c =
    let p = (subst (λ (r : Result Part JobFault). ArrivesBy c.args.file.now r) c.in-Ok.is c.requires.arrives).1 in
    subst (λ (z : List ℕ × FileMetaData). IsMetaOf z.0 z.1) (λ i. (sym p.bytes_are i, sym p.meta_is i)) c.requires.meta

pub take_merged-requires-clause-sent : goal.take_merged-requires-clause-sent
take_merged-requires-clause-sent g c =
    let tasks : c.state.inside.tasks ≡ c.args.state.now.rest.tasks = ap (λ (r : Run). r.rest.tasks) c.state.view_is in
    ap (λ (b : Board). has_copy_task c.args.n.0 c.args.job (spread_at (open_merge c.args.seg.0 b.rows))) (sym tasks) ∙ sym c.if-not-has_copy_task.ensures

pub returns-in-Done-clause-ok : goal.returns-in-Done-clause-ok
returns-in-Done-clause-ok g c =
    let tasks : c.state.inside.tasks ≡ c.args.state.now.rest.tasks = ap (λ (r : Run). r.rest.tasks) c.state.view_is in
    let test : has_copy_task c.args.n.0 c.args.job (spread_at (open_merge c.args.seg.0 c.args.state.now.rest.tasks.rows)) ≡ true = ap (λ (b : Board). has_copy_task c.args.n.0 c.args.job (spread_at (open_merge c.args.seg.0 b.rows))) (sym tasks) ∙ sym c.if-not-has_copy_task.ensures in
    (subst (ByWent (λ done. MeetsFaults c.args.seg c.args.state.now c.take_merged.new.cluster) (FailsCopy c.args.line c.args.seg c.args.by c.args.n c.args.job c.args.state.now c.take_merged.new.cluster)) c.in-Done.is c.in_ok-take_merged-in-Ok.ensures.ok, test, (subst (λ (r : Result Part JobFault). ArrivesBy c.args.file.now r) c.in-Ok.is c.requires.arrives).0)

pub returns-in-Ok-clause-ok : goal.returns-in-Ok-clause-ok
returns-in-Ok-clause-ok g c =
    let tasks : c.state.inside.tasks ≡ c.args.state.now.rest.tasks = ap (λ (r : Run). r.rest.tasks) c.state.view_is in
    let test : has_copy_task c.args.n.0 c.args.job (spread_at (open_merge c.args.seg.0 c.args.state.now.rest.tasks.rows)) ≡ true = ap (λ (b : Board). has_copy_task c.args.n.0 c.args.job (spread_at (open_merge c.args.seg.0 b.rows))) (sym tasks) ∙ sym c.if-not-has_copy_task.ensures in
    subst (λ (t : Bool). PartEnds c.args.line c.args.seg c.args.by c.args.n c.args.job c.args.file.now.fate c.args.state.now c.take_merged.new.cluster t) (sym test)
    (subst (λ (f : Fate). LosesCopy f c.args.line c.args.seg c.args.by c.args.n c.args.job c.args.state.now c.take_merged.new.cluster) (sym (subst (λ (r : Result Part JobFault). ArrivesBy c.args.file.now r) c.in-Ok.is c.requires.arrives).0)
    (subst (ByWent (λ done. MeetsFaults c.args.seg c.args.state.now c.take_merged.new.cluster) (FailsCopy c.args.line c.args.seg c.args.by c.args.n c.args.job c.args.state.now c.take_merged.new.cluster)) c.in-Failed.is c.in_ok-take_merged-in-Ok.ensures.ok))

-- ---- not all of the file came

pub lose_merged-requires-clause-sent : goal.lose_merged-requires-clause-sent
lose_merged-requires-clause-sent g c =
    let tasks : c.state.inside.tasks ≡ c.args.state.now.rest.tasks = ap (λ (r : Run). r.rest.tasks) c.state.view_is in
    ap (λ (b : Board). has_copy_task c.args.n.0 c.args.job (spread_at (open_merge c.args.seg.0 b.rows))) (sym tasks) ∙ sym c.if-not-has_copy_task.ensures

pub returns-clause-ok : goal.returns-clause-ok
returns-clause-ok g c =
    let tasks : c.state.inside.tasks ≡ c.args.state.now.rest.tasks = ap (λ (r : Run). r.rest.tasks) c.state.view_is in
    let test : has_copy_task c.args.n.0 c.args.job (spread_at (open_merge c.args.seg.0 c.args.state.now.rest.tasks.rows)) ≡ true = ap (λ (b : Board). has_copy_task c.args.n.0 c.args.job (spread_at (open_merge c.args.seg.0 b.rows))) (sym tasks) ∙ sym c.if-not-has_copy_task.ensures in
    subst (λ (t : Bool). PartEnds c.args.line c.args.seg c.args.by c.args.n c.args.job c.args.file.now.fate c.args.state.now c.lose_merged.new.cluster t) (sym test)
    (loses_copy c.args.file.now.fate c.args.line c.args.seg c.args.by c.args.n c.args.job c.args.state.now c.lose_merged.new.cluster
    (not_whole c.args.file.now c.in-Err.field-0 (subst (λ (r : Result Part JobFault). ArrivesBy c.args.file.now r) c.in-Err.is c.requires.arrives)) c.in_ok-lose_merged-in-Err.ensures.ok)

pub returns-then-not-has_copy_task-clause-rest : goal.returns-then-not-has_copy_task-clause-rest
returns-then-not-has_copy_task-clause-rest g c = record { rest = refl; copies = λ m apart. refl; own = refl }

pub returns-in-Done-clause-rest : goal.returns-in-Done-clause-rest
returns-in-Done-clause-rest g c = c.in_ok-take_merged-in-Ok.ensures.rest

pub returns-in-Ok-clause-rest : goal.returns-in-Ok-clause-rest
returns-in-Ok-clause-rest g c = c.in_ok-take_merged-in-Ok.ensures.rest

pub returns-clause-rest : goal.returns-clause-rest
returns-clause-rest g c = c.in_ok-lose_merged-in-Err.ensures.rest
