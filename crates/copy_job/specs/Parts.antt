-- The finished parts of a job, and the names that they hold.
use Rattle.std.specs.Prelude.{◌≡◌, ◌⊎◌, ◌≤◌, ℕ, zero, suc, List, [], ◌∷◌, length, insert, take_while, if◌then◌else◌, Option, Some, slice_get}
use Rattle.std.specs.Ordering.{nat_cmp}
use Rattle.std.specs.Cmp.Lexicographic.{slice_cmp}
use Rattle.file_names.specs.Names.{is_less}
use Rattle.disk_model.specs.Disk.{Name, same}
use Rattle.file_deleter.specs.Holdings.{Holdings, count_of, times}
use Rattle.copy_job.specs.declared.part.JobPart.{JobPart}

-- the part under its own name
abbrev pub placed : JobPart → JobPart
placed p = record p { now = p.own }

abbrev pub part_at : List JobPart → ℕ → Option JobPart
part_at parts place = slice_get parts place

-- the names that parts have now
abbrev pub present_names : List JobPart → List Name
present_names [] = []
present_names (p ∷ ps) = p.now ∷ present_names ps

-- their own names
abbrev pub own_names : List JobPart → List Name
own_names [] = []
own_names (p ∷ ps) = p.own ∷ own_names ps

-- how many of the first parts have own names below this one
abbrev pub parts_below : Name → List JobPart → ℕ
parts_below own parts = length (take_while (λ p. is_less (slice_cmp nat_cmp p.own own)) parts)

-- the parts with one more, behind the first ones whose own names are below its own
abbrev pub insert_part : JobPart → List JobPart → List JobPart
insert_part part parts = insert parts (parts_below part.own parts) part

-- a part has its own name, or the job alone holds it under another and nobody holds a file of its own name
abbrev pub IsPlaceable : Holdings → JobPart → Type 0
IsPlaceable holdings p = (p.now ≡ p.own) ⊎ ((count_of holdings p.now ≡ 1) × (count_of holdings p.own ≡ 0))

-- each part can be given its own name: they are counted, and no two have one own name
pub record ArePlaceable (holdings : Holdings) (parts : List JobPart) : Type 0 where
  pub each : (place : ℕ) (p : JobPart) → part_at parts place ≡ Some p → IsPlaceable holdings p
  pub counted : (q : Name) → times (present_names parts) q ≤ count_of holdings q
  pub apart : (q : Name) → times (own_names parts) q ≤ 1

-- the parts, of which the first ones have their own names
abbrev pub placed_to : ℕ → List JobPart → List JobPart
placed_to zero ps = ps
placed_to (suc n) [] = []
placed_to (suc n) (p ∷ ps) = placed p ∷ placed_to n ps

-- the names that giving parts their own names writes: both names of each part that has another
abbrev pub written_names : List JobPart → List Name
written_names [] = []
written_names (p ∷ ps) = if same p.now p.own then written_names ps else p.now ∷ p.own ∷ written_names ps
