-- A copy holds no temporary file of another.
use Rattle.std.proofs.Common.{◌≡◌, ◌≢◌, ◌^◌, ◌<◌, ℕ, zero, suc, refl, List, [], ◌∷◌, Option, Some, subst, arith}
use Rattle.std.specs.Prelude.{IfSome}
use Rattle.std.specs.List.{AllByRecursion}
use Rattle.file_names.specs.Names.{temp_name_of}
use Rattle.file_names.proofs.NameLaws.{temp_name_apart}
use Rattle.disk_model.specs.Disk.{Name, Cells}
use Rattle.file_deleter.specs.Holdings.{Holdings, times}
use Rattle.file_deleter.proofs.NameLemmas.{times-append}
use Rattle.copy_state.specs.States.{meta_names}
use Rattle.copy_job.specs.Parts.{own_names}
use Rattle.copy_job.specs.Jobs.{Job, job_names}
use Rattle.replica_node.specs.declared.job.PointJob.{PointJob}
use Rattle.replica_node.specs.declared.parts.ReplicaParts.{ReplicaParts}
use Rattle.replica_node.specs.Merges.{running_names, copies_names, copied_names, CopyApart}
use Rattle.replica_node.specs.Waiting.{IsWaiting}
use Rattle.replica_node.specs.Replica.{IsWholeReplica, IsJobAbove, IsMergeCopy}
use Rattle.replica_node.proofs.Merging.{all_map}
use Rattle.replica_node.proofs.Segments.{segment_infos, segment_files}
use Rattle.replica_node.proofs.Temporary.{one_apart}
use Rattle.replica_node.proofs.Waiting.{job_foreign}

-- names of which a copy has no part
own_none : (c : Job) (name : Name) → times (copied_names c) name ≡ 0 → times (own_names c.parts) name ≡ 0
own_none c name none = omega (arith, none, times-append c.missing (own_names c.parts) name)

-- what the second of two copies copies, the first does not
pub apart_back : (a b : Job) → CopyApart a b → (q : Name) → 0 < times (copied_names b) q → times (copied_names a) q ≡ 0
apart_back a b apart q some = by (times (copied_names a) q) refl
  where
    by : (n : ℕ) → times (copied_names a) q ≡ n → times (copied_names a) q ≡ 0
    by zero z = z
    by (suc n) z = absurd (let none = apart.files q (omega (arith, z)) in omega (arith, none, some))

pub merge_foreign : (cells : Cells) (holdings : Holdings) (jobs : ℕ) (c : Job) → IsMergeCopy cells holdings jobs c → (number : ℕ) → number < 2 ^ 64 → (name : Name) → times (copied_names c) name ≡ 0 → times (job_names c) (temp_name_of name number) ≡ 0
merge_foreign cells holdings jobs c m number fewer name other = job_foreign (segment_infos m.segment.seg) c m.copy (segment_files c.want m.segment m.copy.state.files.ascending) holdings m.waits number fewer name (own_none c name other)

pub running_foreign : (cells : Cells) (holdings : Holdings) (jobs : ℕ) (cs : List Job) → AllByRecursion (IsMergeCopy cells holdings jobs) cs → (number : ℕ) → number < 2 ^ 64 → (name : Name) → AllByRecursion (λ c. times (copied_names c) name ≡ 0) cs
    → times (running_names cs) (temp_name_of name number) ≡ 0
running_foreign cells holdings jobs [] each number fewer name others = refl
running_foreign cells holdings jobs (c ∷ cs) each number fewer name others =
    omega (arith, merge_foreign cells holdings jobs c each.0 number fewer name others.0, running_foreign cells holdings jobs cs each.1 number fewer name others.1, times-append (job_names c) (running_names cs) (temp_name_of name number))

module _ {D : Type 0} (cells : D → Cells) (p : ReplicaParts D) (is : IsWholeReplica cells p) (number : ℕ) (fewer : number < 2 ^ 64) (name : Name) where
  -- the merge copies and the pending files
  pub copies_foreign : AllByRecursion (λ c. times (copied_names c) name ≡ 0) p.copies.running → times (copies_names p.copies) (temp_name_of name number) ≡ 0
  copies_foreign others = omega (
    arith,
    running_foreign (cells p.dir) p.files p.jobs p.copies.running is.merges.each number fewer name others,
    is.merges.pending.each name number,
    times-append (running_names p.copies.running) (meta_names p.copies.pending.files) (temp_name_of name number),
  )

  -- the job
  pub point_foreign : (j : PointJob) → p.job ≡ Some j → times (copied_names j.copy) name ≡ 0 → times (job_names j.copy) (temp_name_of name number) ≡ 0
  point_foreign j e other =
      let above : IsJobAbove p.searchers.point.version.0 j = subst (λ (o : Option PointJob). IfSome o (IsJobAbove p.searchers.point.version.0)) e is.newer in
      let waits : IsWaiting p.files j.copy = subst (λ (o : Option PointJob). IfSome o (λ k. IsWaiting p.files k.copy)) e is.waits in
      job_foreign j.infos j.copy above.copy above.state.files p.files waits number fewer name (own_none j.copy name other)

-- the copies beside the job hold no temporary file of what it copies
pub beside_foreign : {D : Type 0} (cells : D → Cells) (p : ReplicaParts D) → IsWholeReplica cells p → (j : PointJob) → p.job ≡ Some j → (number : ℕ) → number < 2 ^ 64 → (name : Name) → 0 < times (copied_names j.copy) name
    → times (copies_names p.copies) (temp_name_of name number) ≡ 0
beside_foreign cells p is j e number fewer name copied =
    let apart : AllByRecursion (CopyApart j.copy) p.copies.running = subst (λ (o : Option PointJob). IfSome o (λ k. AllByRecursion (CopyApart k.copy) p.copies.running)) e is.merges.beside_job in
    copies_foreign cells p is number fewer name (all_map (CopyApart j.copy) (λ c. times (copied_names c) name ≡ 0) p.copies.running (λ c h. h.files name copied) apart)

-- one temporary file is not another's
pub other_temporary : (a b : Name) (j k : ℕ) → j < 2 ^ 64 → k < 2 ^ 64 → a ≢ b → times (temp_name_of a j ∷ []) (temp_name_of b k) ≡ 0
other_temporary a b j k few fewer other = one_apart (temp_name_of a j) (temp_name_of b k) (λ same. other (temp_name_apart a b j k few fewer same).0)
