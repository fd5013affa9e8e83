-- Where the records of segments stand.
use Rattle.std.proofs.Common.{◌≡◌, ◌≢◌, ◌⊎◌, ℕ, zero, suc, ◌+◌, ◌<◌, ◌≤◌, true, false, List, [], ◌∷◌, length, get_or, Option, Some, cond, refl, sym, ap, subst, ◌∙◌, arith, inl, inr}
use Rattle.std.specs.Prelude.{nat_eq, slice_get, Contains}
use Rattle.std.specs.List.{AllPairs}
use Rattle.std.specs.Map.{lookup}
use Rattle.std.proofs.lemmas.Bool.Decides.{nat_tests}
use Rattle.segment_infos.specs.declared.infos.SegRecord.{SegRecord}
use Rattle.replica_opening.specs.Places.{NotesPlace, ArePlaces}

-- the places of the first records are noted
pub record ArePlacedTo (records : List SegRecord) (count : ℕ) (places : List (ℕ × ℕ)) : Type 0 where
  pub each : (at : ℕ) (r : SegRecord) → at < count → slice_get records at ≡ Some r → lookup (nat_eq r.seg.0) places ≡ Some at

get_of : (records : List SegRecord) (at : ℕ) (r : SegRecord) → slice_get records at ≡ Some r → (at < length records) × (get_or records at r ≡ r)
get_of [] at r e = cc
get_of (x ∷ xs) zero r e = (omega arith, cc)
get_of (x ∷ xs) (suc at) r e = let h = get_of xs at r e in (omega (arith, h.0), h.1)

pub placed_more : (records : List SegRecord) (count : ℕ) (d : SegRecord) (old new : List (ℕ × ℕ)) → AllPairs (λ r s. r.seg.0 ≢ s.seg.0) records → count < length records → slice_get records count ≡ Some d → NotesPlace d.seg.0 count old new → ArePlacedTo records count old
    → ArePlacedTo records (count + 1) new
placed_more records count d old new apart lt is notes was = record { each = λ at r below there. by at r below there (split at count below) }
  where
    split : (m n : ℕ) → m < n + 1 → (m < n) ⊎ (m ≡ n)
    split m n less = grind arith

    other : (m n : ℕ) → m ≢ n → nat_eq m n ≡ false
    other m n e = grind (arith, nat_tests, e)

    self : (n : ℕ) → nat_eq n n ≡ true
    self n = grind (arith, nat_tests)

    pair : (i j : ℕ) (r d : SegRecord) → i < j → j < length records → (get_or records i r).seg.0 ≢ (get_or records j d).seg.0
    pair i j r d less within = subst (λ (x : SegRecord). (get_or records i r).seg.0 ≢ x.seg.0) (defaults records j r d within) (apart i j r less within)
      where
        defaults : (xs : List SegRecord) (k : ℕ) (a b : SegRecord) → k < length xs → get_or xs k a ≡ get_or xs k b
        defaults [] k a b lt = absurd (omega (arith, lt))
        defaults (x ∷ xs) zero a b lt = refl
        defaults (x ∷ xs) (suc k) a b lt = defaults xs k a b (omega (arith, lt))

    by : (at : ℕ) (r : SegRecord) → at < count + 1 → slice_get records at ≡ Some r → (at < count) ⊎ (at ≡ count) → lookup (nat_eq r.seg.0) new ≡ Some at
    by at r below there (inl less) =
        let mine = get_of records at r there in
        let his = get_of records count d is in
        let differ : r.seg.0 ≢ d.seg.0 = subst (λ (x : SegRecord). r.seg.0 ≢ x.seg.0) his.1 (subst (λ (x : SegRecord). x.seg.0 ≢ (get_or records count d).seg.0) mine.1 (pair at count r d less lt)) in
        notes r.seg.0 ∙ ap (λ b. cond b (Some count) (lookup (nat_eq r.seg.0) old)) (other d.seg.0 r.seg.0 (λ e. differ (sym e))) ∙ was.each at r less there
    by at r below there (inr same) =
        let e : ◌≡◌ {A = Option SegRecord} (Some d) (Some r) = sym is ∙ ap (slice_get records) (sym same) ∙ there in
        let one : d ≡ r = cc in
        notes r.seg.0 ∙ ap (λ b. cond b (Some count) (lookup (nat_eq r.seg.0) old)) (ap (λ (x : SegRecord). nat_eq x.seg.0 r.seg.0) one ∙ self r.seg.0) ∙ ap Some (sym same)

pub placed_all : (records : List SegRecord) (count : ℕ) (places : List (ℕ × ℕ)) → length records ≤ count → ArePlacedTo records count places → ArePlaces records places
placed_all records count places all is = record { each = λ at r there. let h = get_of records at r there in is.each at r (omega (arith, h.0, all)) there }

-- a record that is listed stands at its place
pub listed_at : (records : List SegRecord) (r : SegRecord) → Contains records r → (at : ℕ) × (slice_get records at ≡ Some r)
listed_at records r c = (c.0, at records c.0 c.1 c.2)
  where
    at : (xs : List SegRecord) (i : ℕ) → i < length xs → get_or xs i r ≡ r → slice_get xs i ≡ Some r
    at [] i lt is = absurd (omega (arith, lt))
    at (x ∷ xs) zero lt is = ap Some is
    at (x ∷ xs) (suc i) lt is = at xs i (omega (arith, lt)) is

pub placed_none : (records : List SegRecord) (places : List (ℕ × ℕ)) → ArePlacedTo records 0 places
placed_none records places = record { each = λ at r below there. absurd (omega (arith, below)) }
