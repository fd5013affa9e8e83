-- The merge copies over the finish of a job.
use Rattle.std.proofs.Common.{◌≡◌, ◌≢◌, ℕ, zero, suc, ◌<◌, ◌≤◌, ◌^◌, Option, Some, refl, subst, arith}
use Rattle.std.specs.Prelude.{IfSome}
use Rattle.std.specs.List.{AllByRecursion}
use Rattle.file_names.specs.Names.{temp_name_of}
use Rattle.disk_model.specs.Disk.{Name, Content, Cells, reads_of}
use Rattle.file_deleter.specs.Holdings.{Holdings, count_of, times}
use Rattle.file_deleter.proofs.NameLemmas.{times-append}
use Rattle.searcher_switch.specs.Node.{KeepsBytes}
use Rattle.searcher_switch.specs.Searching.{searcher_names}
use Rattle.copy_job.specs.Jobs.{Job, job_names}
use Rattle.replica_opening.specs.Known.{IsLasting}
use Rattle.replica_node.specs.declared.job.PointJob.{PointJob}
use Rattle.replica_node.specs.declared.parts.ReplicaParts.{ReplicaParts}
use Rattle.replica_node.specs.Merges.{running_names, copied_names, CopyApart}
use Rattle.replica_node.specs.Sources.{CopiesFrom}
use Rattle.replica_node.specs.Replica.{IsWholeReplica, IsMergeCopy, copying_names}
use Rattle.replica_node.proofs.Foreign.{apart_back}
use Rattle.replica_node.proofs.Keeping.{merge_spared, merge_lasts, source_spared, running_within}
use Rattle.replica_node.proofs.Merging.{all_map, all_both, all_held}
use Rattle.replica_node.proofs.Sparing.{SparesJob}

module _ {D : Type 0} (cells : D → Cells) (p : ReplicaParts D) (is : IsWholeReplica cells p) (j : PointJob) (e : p.job ≡ Some j) (dir : D) (files : Holdings)
    (temporary : (number : ℕ) → number < 2 ^ 64 → (name : Name) → times (copied_names j.copy) name ≡ 0 → count_of files (temp_name_of name number) ≡ count_of p.files (temp_name_of name number))
    (newly : (q : Name) → IsLasting q → count_of p.files q ≡ 0 → 0 < count_of files q → 0 < times (copied_names j.copy) q)
    (held : (q : Name) → 0 < times (running_names p.copies.running) q → 0 < count_of files q) (stays : KeepsBytes p.files files (cells p.dir) (cells dir)) where
  pub beside_j : AllByRecursion (CopyApart j.copy) p.copies.running
  beside_j = subst (λ (o : Option PointJob). IfSome o (λ k. AllByRecursion (CopyApart k.copy) p.copies.running)) e is.merges.beside_job

  abbrev Beside : Job → Type 0
  Beside c = (IsMergeCopy (cells p.dir) p.files p.jobs c × CopyApart j.copy c) × ((q : Name) → times (job_names c) q ≤ times (running_names p.copies.running) q)

  each_beside : AllByRecursion Beside p.copies.running
  each_beside = all_both (λ c. IsMergeCopy (cells p.dir) p.files p.jobs c × CopyApart j.copy c) (λ c. (q : Name) → times (job_names c) q ≤ times (running_names p.copies.running) q) p.copies.running
      (all_both (IsMergeCopy (cells p.dir) p.files p.jobs) (CopyApart j.copy) p.copies.running is.merges.each beside_j) (all_held p.copies.running (running_names p.copies.running) (λ q. omega arith))

  copy_bytes : (c : Job) → ((q : Name) → times (job_names c) q ≤ times (running_names p.copies.running) q) → (q : Name) → 0 < times (job_names c) q → (cells dir q).now ≡ (cells p.dir q).now
  copy_bytes c within q some = stays.held q (omega (arith, some, within q, running_within p q, is.node.counts q, times-append (searcher_names p.searchers) (copying_names p) q)) (held q (omega (arith, some, within q)))

  spares : (c : Job) → Beside c → SparesJob c p.files files (cells p.dir) (cells dir)
  spares c h = record {
    temporary = λ name number copied fewer. temporary number fewer name (apart_back j.copy c h.0.1 name copied);
    unheld = λ q copied none. by q copied none (count_of files q) refl;
    bytes = copy_bytes c h.1;
  }
    where
      by : (q : Name) → 0 < times (copied_names c) q → count_of p.files q ≡ 0 → (n : ℕ) → count_of files q ≡ n → count_of files q ≡ 0
      by q copied none zero f = f
      by q copied none (suc n) f =
          absurd (let z : times (copied_names c) q ≡ 0 = h.0.1.files q (newly q (merge_lasts (cells p.dir) p.files p.jobs c h.0.0 q copied) none (omega (arith, f))) in omega (arith, copied, z))

  pub each_spared : AllByRecursion (IsMergeCopy (cells dir) files p.jobs) p.copies.running
  each_spared = all_map Beside (IsMergeCopy (cells dir) files p.jobs) p.copies.running (λ c h. merge_spared (cells p.dir) (cells dir) p.files files p.jobs p.jobs c (omega arith) (spares c h) h.0.0) each_beside

  pub sources_spared : (source : Name → Content) → AllByRecursion (CopiesFrom source (reads_of (cells p.dir))) p.copies.running → AllByRecursion (CopiesFrom source (reads_of (cells dir))) p.copies.running
  sources_spared source h = all_map (λ c. Beside c × CopiesFrom source (reads_of (cells p.dir)) c) (CopiesFrom source (reads_of (cells dir))) p.copies.running
      (λ c k. source_spared source (cells p.dir) (cells dir) c k.0.0.0.copy (copy_bytes c k.0.1) k.1) (all_both Beside (CopiesFrom source (reads_of (cells p.dir))) p.copies.running each_beside h)
