-- Parts that a job takes over from an older one, one after the other.
use Rattle.std.specs.Prelude.{◌≡◌, ◌+◌, ℕ, Bool, true, false, List, [], ◌∷◌, ◌++◌, slice_set}
use Rattle.std.specs.List.Sorted.{IsStrictlySortedBy}
use Rattle.std.specs.Ordering.{nat_cmp}
use Rattle.std.specs.Cmp.Lexicographic.{slice_cmp}
use Rattle.disk_model.specs.Disk.{Name}
use Rattle.copy_state.specs.States.{meta_names}
use Rattle.copy_job.specs.declared.part.JobPart.{JobPart}
use Rattle.copy_job.specs.declared.takeover.Wants.{Wants}

-- what is missing ascends, and so do the files that are wanted and those that were
pub record DoAscend (wants : Wants) : Type 0 where
  pub missing : IsStrictlySortedBy (slice_cmp nat_cmp) wants.missing.now
  pub had : IsStrictlySortedBy (slice_cmp nat_cmp) (meta_names wants.had.now)
  pub wanted : IsStrictlySortedBy (slice_cmp nat_cmp) (meta_names wants.wanted.now)

-- what becomes of one part of an older job: it comes behind the parts, and its name behind the names; or its name comes to those that are given back
abbrev pub PartGoes : Bool → JobPart → (parts now : List JobPart) → (names new others rest : List Name) → (kept next : ℕ) → Type 0
PartGoes true part parts now names new others rest kept next = (now ≡ parts ++ part ∷ []) × (new ≡ names ++ part.now ∷ []) × (rest ≡ others) × (next ≡ kept)
PartGoes false part parts now names new others rest kept next = (now ≡ parts) × (new ≡ names) × (rest ≡ slice_set others kept part.now) × (next ≡ kept + 1)
