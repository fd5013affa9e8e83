-- The answers of a check.
use Rattle.std.proofs.Common.{◌≡◌, ℕ, ◌+◌, ◌-◌, ◌^◌, ◌<◌, ◌≤◌, List, length, Result, Ok, Err, sym, ap, subst, ◌∙◌, arith}
use Rattle.std.specs.Prelude.{slice_range}
use Rattle.codec_frame.specs.declared.frame.Framed.{Framed}
use Rattle.codec_frame.specs.declared.frame.FrameFault.{FrameFault}
use Rattle.codec_frame.specs.Bytes.{AreBytes}
use Rattle.codec_frame.specs.Frame.{Wanted, IsFramed, IsFrame, header_length}
use Rattle.codec_frame.specs.Checking.{HasHeader, HasFooter, IsFirstFault, IsChecked, fault_place}
use Rattle.codec_frame.specs.declared.frame.FrameFault.TheVariants.{Truncated}
use Rattle.codec_frame.proofs.FrameLaws.{framed-length, framed-body, framed_header, framed_footer, is_framed}
use Rattle.codec_frame.proofs.FaultLaws.{no_fault_in_header, no_fault, one_first_fault}

-- too few bytes are the first fault of all
pub too_short : (want : Wanted) (bytes : List ℕ) → length bytes < header_length want + 16 → IsFirstFault want bytes Truncated
too_short want bytes short = record { found = short; first = λ fault below found. absurd (none_before fault below) }
  where
    none_before : (fault : FrameFault) → fault_place fault < 1 → ⊥
    none_before Truncated h = omega arith
    none_before _ h = omega arith

-- bytes with a fault are not framed
pub not_framed : (want : Wanted) (bytes : List ℕ) (fault : FrameFault) → AreBytes bytes → (header_length want + 16 ≤ length bytes → want.max < 2 ^ 32) → IsFirstFault want bytes fault
    → (version : ℕ) (id body : List ℕ) → IsFramed want version id body bytes → ⊥
not_framed want bytes fault fits small first version id body f =
    let long : header_length want + 16 ≤ length bytes = omega (arith, framed-length want version id body bytes f) in
    no_fault want bytes (no_fault_in_header want version id bytes long (framed_header want version id body bytes (small long) f)) (framed_footer want version id body bytes fits f) fault first.found

-- what a check answers that meets a fault
pub checked_fault : (want : Wanted) (bytes : List ℕ) (fault : FrameFault) (result : Result Framed FrameFault) → AreBytes bytes → (header_length want + 16 ≤ length bytes → want.max < 2 ^ 32)
    → IsFirstFault want bytes fault → result ≡ Err fault → IsChecked want bytes result
checked_fault want bytes fault result fits small first e = record {
  frame = λ frame. (λ ok. absurd cc, λ is. absurd (not_framed want bytes fault fits small first frame.version frame.id _ is.framed));
  fault = λ other. (λ is. let same : fault ≡ other = cc in subst (IsFirstFault want bytes) same first, λ is. e ∙ ap Err (one_first_fault want bytes fault other first is));
  written = λ version id body f. absurd (not_framed want bytes fault fits small first version id body f);
}

abbrev made : ℕ → List ℕ → ℕ → ℕ → Framed
made version id start end = record { version = version; id = id; start = start; end = end }

same_parts : (v w : ℕ) (i j : List ℕ) (s t e f : ℕ) → v ≡ w → i ≡ j → s ≡ t → e ≡ f → made v i s e ≡ made w j t f
same_parts v w i j s t e f sv si ss se = cc

same_frame : (a b : Framed) → a.version ≡ b.version → a.id ≡ b.id → a.start ≡ b.start → a.end ≡ b.end → a ≡ b
same_frame a b v i s e = same_parts a.version b.version a.id b.id a.start b.start a.end b.end v i s e

frame_is : (want : Wanted) (bytes : List ℕ) (frame : Framed) → AreBytes bytes → header_length want + 16 ≤ length bytes → HasHeader want bytes frame.version frame.id → HasFooter bytes
    → frame.start ≡ header_length want → frame.end ≡ length bytes - 16 → IsFrame want bytes frame
frame_is want bytes frame fits long h f start stop =
    let whole : IsFramed want frame.version frame.id (slice_range bytes frame.start frame.end) bytes =
    subst (λ (i : ℕ). IsFramed want frame.version frame.id (slice_range bytes i frame.end) bytes) (sym start)
    (subst (λ (j : ℕ). IsFramed want frame.version frame.id (slice_range bytes (header_length want) j) bytes) (sym stop) (is_framed want frame.version frame.id bytes fits long h f)) in
    record { framed = whole; start = start; end = omega arith }

frame_is_only : (want : Wanted) (bytes : List ℕ) (frame other : Framed) → want.max < 2 ^ 32 → HasHeader want bytes frame.version frame.id
    → frame.start ≡ header_length want → frame.end ≡ length bytes - 16 → IsFrame want bytes other → frame ≡ other
frame_is_only want bytes frame other small h start stop is =
    let header = framed_header want other.version other.id _ bytes small is.framed in
    same_frame frame other (sym h.version_field ∙ header.version_field) (sym h.id_field ∙ header.id_field) (start ∙ sym is.start) (omega (arith, is.end))

written_again : (want : Wanted) (bytes : List ℕ) (version : ℕ) (id : List ℕ) → want.max < 2 ^ 32 → HasHeader want bytes version id
    → (v : ℕ) (i body : List ℕ) → IsFramed want v i body bytes → (version ≡ v) × (id ≡ i) × (slice_range bytes (header_length want) (length bytes - 16) ≡ body)
written_again want bytes version id small h v i body f =
    let header = framed_header want v i body bytes small f in
    (sym h.version_field ∙ header.version_field, sym h.id_field ∙ header.id_field, framed-body want v i body bytes f)

-- what a check answers that meets none
pub checked_frame : (want : Wanted) (bytes : List ℕ) (frame : Framed) → AreBytes bytes → header_length want + 16 ≤ length bytes → want.max < 2 ^ 32 → HasHeader want bytes frame.version frame.id
    → HasFooter bytes → frame.start ≡ header_length want → frame.end ≡ length bytes - 16 → IsChecked want bytes (Ok frame)
checked_frame want bytes frame fits long small h f start stop =
    let is = frame_is want bytes frame fits long h f start stop in
    let place : slice_range bytes frame.start frame.end ≡ slice_range bytes (header_length want) (length bytes - 16) =
    ap (λ (i : ℕ). slice_range bytes i frame.end) start ∙ ap (slice_range bytes (header_length want)) stop in
    record {
      frame = λ other. (λ e. let same : frame ≡ other = cc in subst (IsFrame want bytes) same is, λ others. ap Ok (frame_is_only want bytes frame other small h start stop others));
      fault = λ fault. (λ e. absurd cc, λ first. absurd (no_fault want bytes (no_fault_in_header want frame.version frame.id bytes long h) f fault first.found));
      written = λ version id body w. let again = written_again want bytes frame.version frame.id small h version id body w in (again.0, again.1, place ∙ again.2);
    }

pub one_reading_lem : (want : Wanted) → want.max < 2 ^ 32 → (bytes : List ℕ) (version v : ℕ) (id i body b : List ℕ) → IsFramed want version id body bytes → IsFramed want v i b bytes
    → (version ≡ v) × (id ≡ i) × (body ≡ b)
one_reading_lem want small bytes version v id i body b f g =
    let again = written_again want bytes version id small (framed_header want version id body bytes small f) v i b g in
    (again.0, again.1, sym (framed-body want version id body bytes f) ∙ again.2)
