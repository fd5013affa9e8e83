-- Where the records of segments stand.
use Rattle.std.specs.Prelude.{◌≡◌, ℕ, nat_eq, List, Some, slice_get, if◌then◌else◌}
use Rattle.std.specs.Map.{lookup}
use Rattle.segment_infos.specs.declared.infos.SegRecord.{SegRecord}

-- under this number stands this place, and under others what stood there
abbrev pub NotesPlace : ℕ → ℕ → (old new : List (ℕ × ℕ)) → Type 0
NotesPlace seg at old new = (n : ℕ) → lookup (nat_eq n) new ≡ (if nat_eq seg n then Some at else lookup (nat_eq n) old)

-- under the number of each record stands its place
pub record ArePlaces (records : List SegRecord) (places : List (ℕ × ℕ)) : Type 0 where
  pub each : (at : ℕ) (r : SegRecord) → slice_get records at ≡ Some r → lookup (nat_eq r.seg.0) places ≡ Some at
