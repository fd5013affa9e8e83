-- What a link does to the file that it carries.
use Rattle.std.specs.Prelude.{◌≡◌, ◌≢◌, ℕ, ◌+◌, ◌-◌, ◌%◌, ◌==◌, ◌<◌, ◌≤◌, ◌&&◌, nat_le, nat_lt, Bool, true, false, if◌then◌else◌, List, length, slice_index, slice_set, Option, Some, None, Result, Ok, Err, IsErrOf}
use Rattle.nrt_base.specs.Causes.{Rose}
use Rattle.link_model.specs.declared.fate.Fate.{Fate}
use Rattle.link_model.specs.declared.fate.Fate.TheVariants.{Whole, Fail, Damage}
use Rattle.link_model.specs.declared.link.LinkFault.{LinkFault}
use Rattle.link_model.specs.declared.link.LinkFault.TheVariants.{Memory, Failed}

-- the file as it arrives: as it is, or with another byte at one place
abbrev pub carried_by : Option (ℕ × ℕ) → List ℕ → List ℕ
carried_by None file = file
carried_by (Some a) file = slice_set file a.0 a.1

-- no byte is altered, or one that the file has, into another
abbrev pub IsAlteration : List ℕ → Option (ℕ × ℕ) → Type 0
IsAlteration file None = Unit {0}
IsAlteration file (Some a) = (a.0 < length file) × (slice_index file a.0 ≢ a.1)

-- the altered byte is among the len bytes from a place on
abbrev pub is_handed_out : Option (ℕ × ℕ) → ℕ → ℕ → Bool
is_handed_out None at len = false
is_handed_out (Some a) at len = nat_le at a.0 && nat_lt a.0 (at + len)

-- damages rise where an altered byte is handed out, and else stay
abbrev pub CountsDamages : Bool → ℕ → ℕ → Type 0
CountsDamages true before now = (before ≤ now) × Rose before now
CountsDamages false before now = now ≡ before

-- faults rise where a call answers Failed, and else stay
abbrev pub CountsLinkFaults : {T : Type 0} → ℕ → ℕ → Result T LinkFault → Type 0
CountsLinkFaults before now (Ok x) = now ≡ before
CountsLinkFaults before now (Err Memory) = now ≡ before
CountsLinkFaults before now (Err Failed) = (before ≤ now) × Rose before now

-- a byte with its lowest bit flipped
abbrev pub flipped : ℕ → ℕ
flipped b = if b % 2 == 0 then b + 1 else b - 1

-- where the fate of a file is known, it goes by it; want of memory may come instead
abbrev pub GoesByFate : {T : Type 0} → Option Fate → List ℕ → Option (ℕ × ℕ) → Result T LinkFault → Type 0
GoesByFate None file altered r = Unit {0}
GoesByFate (Some fate) file altered (Err Memory) = Unit {0}
GoesByFate (Some Fail) file altered (Err Failed) = Unit {0}
GoesByFate (Some Fail) file altered (Ok x) = ⊥
GoesByFate (Some Whole) file altered (Err Failed) = ⊥
GoesByFate (Some Whole) file altered (Ok x) = altered ≡ None
GoesByFate (Some (Damage at)) file altered (Err Failed) = ⊥
GoesByFate (Some (Damage at)) file altered (Ok x) = altered ≡ Some (at % length file, flipped (slice_index file (at % length file)))
