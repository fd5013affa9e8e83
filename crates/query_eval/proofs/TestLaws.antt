use Rattle.std.proofs.Common.{◌≡◌, ℕ, ◌+◌, ◌*◌, List, [], ◌∷◌, ◌++◌, length, ap, ◌∙◌, arith}
use Rattle.std.proofs.lemmas.List.Sums.{sum_by-append}
use Rattle.seg_reader.specs.Shown.{Shown}
use Rattle.query_eval.specs.Matching.{rows_of}

-- one more segment has so many rows more
pub more_rows : (segs new : List Shown) (seg : Shown) (count n : ℕ) → new ≡ segs ++ seg ∷ [] → rows_of segs ≡ count * n → length seg.docs ≡ count → rows_of new ≡ count * (n + 1)
more_rows segs new seg count n more before here =
    ap rows_of more ∙ (sum_by-append (λ (s : Shown). length s.docs) segs (seg ∷ []) ∙ omega arith)
