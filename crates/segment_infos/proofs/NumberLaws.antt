-- Numbers of segments that differ.
use Rattle.std.proofs.Common.{◌≡◌, ℕ, ◌↔◌, Bool, List, [], ◌∷◌, length, sym, subst, ◌∙◌, arith, nat_eq}
use Rattle.std.specs.Prelude.{◌≢◌, IsTrue, map}
use Rattle.std.specs.List.{AllPairs}
use Rattle.std.specs.List.Sorted.{IsPermutation, IsSorted, IsStrictlyIncreasing}
use Rattle.std.specs.Ordering.{nat_cmp}
use Rattle.std.specs.Cmp.{unsigned_Decides, nat_eq_equiv}
use Rattle.std.proofs.lemmas.List.{length-map, get_or-map}
use Rattle.std.proofs.lemmas.List.Kept.{AllPairs-from_increasing}
use Rattle.std.proofs.lemmas.List.Sorted.{IsPermutation-sym, IsNonDecreasingBy-from_sort}
use Rattle.std.proofs.lemmas.Map.Keys.{IsDistinct-IsPermutation, IsStrictlyIncreasing-from_distinct}
use Rattle.std.proofs.lemmas.Map.Made.{AllPairs-from_IsDistinct, IsDistinct-from_AllPairs}
use Rattle.segment_infos.specs.declared.infos.SegRecord.{SegRecord}

-- the numbers in ascending order differ exactly where the numbers do
differ_sorted : (numbers sorted : List ℕ) → IsPermutation numbers sorted → IsStrictlyIncreasing sorted → AllPairs (λ x y. x ≢ y) numbers
differ_sorted numbers sorted p up =
    let rise = AllPairs-from_increasing sorted up in
    let apart : AllPairs (λ (x y : ℕ). x ≢ y) sorted = λ i j d less within e. omega (arith, rise i j d less within, e) in
    let own = IsDistinct-from_AllPairs unsigned_Decides sorted apart in
    AllPairs-from_IsDistinct unsigned_Decides numbers (IsDistinct-IsPermutation nat_eq nat_eq_equiv.symm sorted numbers (IsPermutation-sym numbers sorted p) own)

sorted_rise : (numbers sorted : List ℕ) → IsPermutation numbers sorted → IsSorted nat_cmp sorted → AllPairs (λ x y. x ≢ y) numbers → IsStrictlyIncreasing sorted
sorted_rise numbers sorted p up apart =
    let own = IsDistinct-IsPermutation nat_eq nat_eq_equiv.symm numbers sorted p (IsDistinct-from_AllPairs unsigned_Decides numbers apart) in
    IsStrictlyIncreasing-from_distinct sorted (IsNonDecreasingBy-from_sort (λ x. x) sorted up) own

-- the numbers of the segments differ exactly where those of the records do
of_records : (segs : List SegRecord) → AllPairs (λ x y. x ≢ y) (map (λ r. r.seg.0) segs) → AllPairs (λ r s. r.seg.0 ≢ s.seg.0) segs
of_records segs apart i j d less within e =
    let long : length (map (λ r. r.seg.0) segs) ≡ length segs = length-map segs (λ r. r.seg.0) in
    let a = get_or-map (λ (r : SegRecord). r.seg.0) segs i d 0 (omega (arith, less, within)) in
    let b = get_or-map (λ (r : SegRecord). r.seg.0) segs j d 0 within in
    apart i j 0 less (omega (arith, within, long)) (a ∙ e ∙ sym b)

to_records : (segs : List SegRecord) → AllPairs (λ r s. r.seg.0 ≢ s.seg.0) segs → AllPairs (λ x y. x ≢ y) (map (λ r. r.seg.0) segs)
to_records [] apart i j d less within e = absurd (omega (arith, within))
to_records (r ∷ segs) apart i j d less within e =
    let long : length (map (λ r. r.seg.0) (r ∷ segs)) ≡ length (r ∷ segs) = length-map (r ∷ segs) (λ r. r.seg.0) in
    let a = get_or-map (λ (r : SegRecord). r.seg.0) (r ∷ segs) i r d (omega (arith, less, within, long)) in
    let b = get_or-map (λ (r : SegRecord). r.seg.0) (r ∷ segs) j r d (omega (arith, within, long)) in
    apart i j r less (omega (arith, within, long)) (sym a ∙ e ∙ b)

pub own_numbers : (segs : List SegRecord) (numbers sorted same : List ℕ) (test : Bool) → numbers ≡ map (λ r. r.seg.0) segs → IsPermutation numbers sorted → IsSorted nat_cmp sorted → same ≡ sorted
    → (IsTrue test ↔ IsStrictlyIncreasing same) → IsTrue test ↔ AllPairs (λ r s. r.seg.0 ≢ s.seg.0) segs
own_numbers segs numbers sorted same test e p up f tells = (
  λ h. of_records segs (subst (AllPairs (λ (x y : ℕ). x ≢ y)) e (differ_sorted numbers sorted p (subst IsStrictlyIncreasing f (tells.0 h)))),
  λ apart. tells.1 (subst IsStrictlyIncreasing (sym f) (sorted_rise numbers sorted p up (subst (AllPairs (λ (x y : ℕ). x ≢ y)) (sym e) (to_records segs apart)))),
)
