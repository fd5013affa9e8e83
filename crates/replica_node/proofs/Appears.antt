-- Names that come to stand over a job's calls.
use Rattle.std.proofs.Common.{◌≡◌, ◌⊎◌, ◌<◌, ℕ, true, false, [], ◌∷◌, Option, Some, None, sym, ap, subst, ◌∙◌, inl, inr, arith, true≢false}
use Rattle.std.specs.Prelude.{IfSome}
use Rattle.std.proofs.lemmas.Bool.{or_cases}
use Rattle.file_names.specs.Names.{temp_name_of}
use Rattle.disk_model.specs.Disk.{Name, Cells, is_among, same}
use Rattle.disk_model.proofs.CellLemmas.{same_true}
use Rattle.file_deleter.specs.Holdings.{Holdings, count_of, times}
use Rattle.file_deleter.specs.Moves.{KeepsFiles}
use Rattle.searcher_switch.specs.Appearing.{AppearsOnly}
use Rattle.searcher_switch.proofs.Appearing.{uncounted, keeps_only}
use Rattle.copy_state.specs.States.{meta_names}
use Rattle.copy_job.specs.declared.part.JobPart.{JobPart}
use Rattle.copy_job.specs.Parts.{written_names}
use Rattle.copy_job.proofs.Placings.{written_is}
use Rattle.replica_node.specs.declared.job.PointJob.{PointJob}
use Rattle.replica_node.specs.declared.parts.ReplicaParts.{ReplicaParts}
use Rattle.replica_node.specs.Sources.{IsWantedName}
use Rattle.replica_node.specs.Waiting.{IsLoose, IsWaiting}
use Rattle.replica_node.specs.Replica.{IsWholeReplica, IsJobAbove}
use Rattle.replica_node.proofs.Waiting.{own_wanted}

pub only_one : (x q : Name) → is_among (x ∷ []) q ≡ true → x ≡ q
only_one x q there = elim (or_cases (same x q) false there) [ inl here ↦ same_true x q here | inr more ↦ absurd (true≢false (sym more)) ]

module _ {D : Type 0} (cells : D → Cells) (p : ReplicaParts D) (j : PointJob) (e : p.job ≡ Some j) (dir : D) (files : Holdings) where
  -- a part that arrives, or does not
  pub part_appears : (name : Name) (number : ℕ) → IfSome p.job (λ k. k.copy.number ≡ number) → KeepsFiles (temp_name_of name j.copy.number ∷ []) p.files files (cells p.dir) (cells dir)
      → AppearsOnly (λ q. q ≡ temp_name_of name number) (cells p.dir) (cells dir)
  part_appears name number runs keeps =
      let same_number : j.copy.number ≡ number = subst (λ (o : Option PointJob). IfSome o (λ k. k.copy.number ≡ number)) e runs in
      keeps_only (λ q. q ≡ temp_name_of name number) (temp_name_of name j.copy.number ∷ []) p.files files (cells p.dir) (cells dir) keeps
      (λ q there none. sym (only_one (temp_name_of name j.copy.number) q there) ∙ ap (temp_name_of name) same_number)

  -- parts that get their own names
  module _ (is : IsWholeReplica cells p) where
    above : IsJobAbove p.searchers.point.version.0 j
    above = subst (λ (o : Option PointJob). IfSome o (IsJobAbove p.searchers.point.version.0)) e is.newer

    waits : IsWaiting p.files j.copy
    waits = subst (λ (o : Option PointJob). IfSome o (λ k. IsWaiting p.files k.copy)) e is.waits

    -- a part that has not its own name is held, so its present name stands
    loose_there : (x : JobPart) (q : Name) → (x.now ≡ x.own → ⊥) → (x.now ≡ x.own) ⊎ IsLoose p.files x → x.now ≡ q → (cells p.dir q).now ≡ None → ⊥
    loose_there x q apart (inl same) now none = apart same
    loose_there x q apart (inr loose) now none =
        let once : count_of p.files q ≡ 1 = ap (count_of p.files) (sym now) ∙ loose.once in
        omega (arith, once, uncounted (cells p.dir) p.files q is.node.whole none)

    wanted_name : (q : Name) → is_among (written_names j.copy.parts) q ≡ true → (cells p.dir q).now ≡ None → IsWantedName p.job q
    wanted_name q there none =
        let w = written_is j.copy.parts q there in
        subst (λ (o : Option PointJob). IsWantedName o q) (sym e) (elim w.is [
          | inl now ↦ absurd (loose_there w.part q w.apart (waits.each w.place w.part w.at) now none)
          | inr own ↦ subst (λ (n : Name). 0 < times (meta_names j.copy.want.files) n) own (own_wanted j.infos j.copy above.copy above.state.files w.place w.part w.at)
        ])

    pub parts_appear : KeepsFiles (written_names j.copy.parts) p.files files (cells p.dir) (cells dir) → AppearsOnly (IsWantedName p.job) (cells p.dir) (cells dir)
    parts_appear keeps = keeps_only (IsWantedName p.job) (written_names j.copy.parts) p.files files (cells p.dir) (cells dir) keeps wanted_name
