-- Where no fault is found, and that the first fault is one.
use Rattle.std.proofs.Common.{◌≡◌, ◌≢◌, Option, Some, None, ℕ, ◌+◌, ◌≤◌, List, length, refl, sym, ap, ◌∙◌, arith, inl, inr}
use Rattle.std.proofs.lemmas.Bool.{cases_order}
use Rattle.std.specs.Option.{IfSome, IsSomeAnd}
use Rattle.codec_frame.specs.Frame.{Wanted, header_length}
use Rattle.codec_frame.specs.Checking.{HasHeader, HasFooter, HasFrameFault, NoFaultBelow, IsFirstFault, fault_place}
use Rattle.codec_frame.specs.declared.frame.FrameFault.{FrameFault}
use Rattle.codec_frame.specs.declared.frame.FrameFault.TheVariants.{Truncated, Magic, Codec, TooOld, TooNew, Id, Suffix, FooterMagic, Algorithm, Checksum}

other_id : (wanted : Option (List ℕ)) (id here : List ℕ) → here ≡ id → IfSome wanted (λ w. id ≡ w) → IsSomeAnd wanted (λ w. here ≢ w) → ⊥
other_id None id here e same found = found
other_id (Some w) id here e same found = found (e ∙ same)

pub no_fault_in_header : (want : Wanted) (version : ℕ) (id bytes : List ℕ) → header_length want + 16 ≤ length bytes → HasHeader want bytes version id → NoFaultBelow 8 want bytes
no_fault_in_header want version id bytes long h Truncated below found = omega arith
no_fault_in_header want version id bytes long h Magic below found = found h.magic
no_fault_in_header want version id bytes long h Codec below found = found h.name
no_fault_in_header want version id bytes long h (TooOld v) below found = omega (arith, h.version_field, h.not_older)
no_fault_in_header want version id bytes long h (TooNew v) below found = omega (arith, h.version_field, h.not_newer)
no_fault_in_header want version id bytes long h Id below found = other_id want.id id _ h.id_field h.id_wanted found
no_fault_in_header want version id bytes long h Suffix below found = found h.suffix
no_fault_in_header want version id bytes long h _ below found = absurd (omega arith)

pub no_fault : (want : Wanted) (bytes : List ℕ) → NoFaultBelow 8 want bytes → HasFooter bytes → (fault : FrameFault) → HasFrameFault want bytes fault → ⊥
no_fault want bytes none f FooterMagic found = found f.magic
no_fault want bytes none f Algorithm found = found f.algorithm
no_fault want bytes none f (Checksum computed written) found = found.2 (found.0 ∙ sym f.checksum ∙ sym found.1)
no_fault want bytes none f fault found = none fault (omega arith) found

-- faults of one place that the bytes have are one
same_place : (want : Wanted) (bytes : List ℕ) (f g : FrameFault) → fault_place f ≡ fault_place g → HasFrameFault want bytes f → HasFrameFault want bytes g → f ≡ g
same_place want bytes Truncated Truncated e has here = refl
same_place want bytes Magic Magic e has here = refl
same_place want bytes Codec Codec e has here = refl
same_place want bytes (TooOld v) (TooOld w) e has here = ap TooOld (has.0 ∙ sym here.0)
same_place want bytes (TooNew v) (TooNew w) e has here = ap TooNew (has.0 ∙ sym here.0)
same_place want bytes Id Id e has here = refl
same_place want bytes Suffix Suffix e has here = refl
same_place want bytes FooterMagic FooterMagic e has here = refl
same_place want bytes Algorithm Algorithm e has here = refl
same_place want bytes (Checksum a b) (Checksum c d) e has here = let sum : a ≡ c = has.0 ∙ sym here.0 in let written : b ≡ d = has.1 ∙ sym here.1 in cc
same_place want bytes f g e has here = absurd cc

-- bytes have one first fault
pub one_first_fault : (want : Wanted) (bytes : List ℕ) (f g : FrameFault) → IsFirstFault want bytes f → IsFirstFault want bytes g → f ≡ g
one_first_fault want bytes f g first other = elim (cases_order (fault_place f) (fault_place g)) [
  | inl same ↦ same_place want bytes f g same first.found other.found
  | inr apart ↦ elim apart [
    | inl before ↦ absurd (other.first f before first.found)
    | inr after ↦ absurd (first.first g after other.found)
  ]
]
