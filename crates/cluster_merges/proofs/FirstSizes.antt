-- The sizes in the range that a merge takes are the live rows of its inputs.
use Rattle.std.proofs.Common.{◌≡◌, ◌<◌, ◌≤◌, ◌+◌, ◌||◌, ◌==◌, ℕ, zero, suc, Bool, true, false, List, [], ◌∷◌, length, get_or, map, take, drop, Option, Some, None, refl, ap, ◌∙◌, sym, arith, if◌then◌else◌}
use Rattle.std.specs.List.{AllZip, list_any}
use Rattle.std.specs.Option.{IsSomeAnd}
use Rattle.nrt_base.specs.declared.numbers.SegNo.{SegNo}
use Rattle.disk_model.specs.Disk.{Name, Content}
use Rattle.segment_infos.specs.declared.infos.SegRecord.{SegRecord}
use Rattle.seg_reader.specs.Given.{live_rows}
use Rattle.seg_reader.specs.Shown.{Shown}
use Rattle.seg_reader.specs.Stands.{IsSegmentIn}
use Rattle.segment_steps.specs.Starting.{size_by}
use Rattle.history_book.specs.Chosen.{input_sizes}

module _ (reads : Name → Content) (held : List SegNo) (P : ℕ → Type 0) where
  -- a size is the record's live rows
  is_size : (r : SegRecord) → IsSomeAnd (size_by held r) P → size_by held r ≡ Some r.live
  is_size r is = by_test (r.live == 0 || list_any (λ seg. seg.0 == r.seg.0) held) is
    where
      by_test : (b : Bool) → IsSomeAnd (if b then None else Some r.live) P → (if b then None else Some r.live) ≡ Some r.live
      by_test true s = absurd s
      by_test false s = refl

  pub range_sizes : (from count : ℕ) (rs : List SegRecord) (ss : List Shown) → AllZip (IsSegmentIn reads) rs ss → from + count ≤ length rs
      → ((k : ℕ) (d : Option ℕ) → from ≤ k → k < from + count → IsSomeAnd (get_or (map (size_by held) rs) k d) P)
      → take count (drop from (map (size_by held) rs)) ≡ input_sizes (take count (drop from ss))
  range_sizes zero zero rs ss each fits some = refl
  range_sizes zero (suc count) [] ss each fits some = absurd (omega (arith, fits))
  range_sizes zero (suc count) (r ∷ rs) [] each fits some = absurd each
  range_sizes zero (suc count) (r ∷ rs) (s ∷ ss) each fits some =
      let first : size_by held r ≡ Some r.live = is_size r (some 0 (size_by held r) (omega arith) (omega arith)) in
      let rest = range_sizes zero count rs ss each.1 (omega (arith, fits)) (λ k d low lt. some (suc k) d (omega (arith, low)) (omega (arith, lt))) in
      ap (λ (o : Option ℕ). o ∷ take count (map (size_by held) rs)) (first ∙ ap Some (sym each.0.live)) ∙ ap (λ (l : List (Option ℕ)). Some (live_rows s.live) ∷ l) rest
  range_sizes (suc from) count [] ss each fits some = absurd (omega (arith, fits))
  range_sizes (suc from) count (r ∷ rs) [] each fits some = absurd each
  range_sizes (suc from) count (r ∷ rs) (s ∷ ss) each fits some =
      range_sizes from count rs ss each.1 (omega (arith, fits)) (λ k d low lt. some (suc k) d (omega (arith, low)) (omega (arith, lt)))
