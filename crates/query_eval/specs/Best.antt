-- The hits that stand ahead of others, and a hit that is counted.
use Rattle.std.specs.Prelude.{◌≡◌, ℕ, ◌+◌, ◌<◌, ◌≤◌, List, [], ◌∷◌, take, slice_get, Some, if◌then◌else◌}
use Rattle.std.specs.Ordering.{is_lt}
use Rattle.nrt_base.specs.declared.doc.Doc.{Doc}
use Rattle.documents.specs.declared.answer.Answer.{Answer}
use Rattle.documents.specs.declared.answer.Hit.{Hit}
use Rattle.documents.specs.InOrder.{in_order}
use Rattle.documents.specs.Ranking.{hit_cmp, answer_of}
use Rattle.seg_reader.specs.Placing.{place_in}
use Rattle.query_eval.specs.declared.best.Bar.{Bar}

-- the hit of this key and this rank
abbrev pub hit_with : List ℕ → ℕ → Hit
hit_with key rank = record { key = key; rank = rank }

-- how many hits from the first on stand ahead of this one
abbrev pub count_ahead : List Hit → Hit → ℕ
count_ahead [] hit = 0
count_ahead (h ∷ hits) hit = if is_lt (hit_cmp h hit) then count_ahead hits hit + 1 else 0

-- the hits are the first 20 of some hits in order
abbrev pub AreBest : List Hit → Type 0
AreBest hits = (all : List Hit) × (hits ≡ take 20 (in_order hit_cmp all))

-- 20 hits stand ahead of each hit of this rank
abbrev pub AreBeyond : List Hit → ℕ → Type 0
AreBeyond hits rank = (key : List ℕ) → 20 ≤ count_ahead hits (hit_with key rank)

-- one more hit was counted
pub record CountsHit (hit : Hit) (old new : Answer) : Type 0 where
  pub more : new.total ≡ old.total + 1
  pub all : (hits : List Hit) → old ≡ answer_of hits → new ≡ answer_of (hit ∷ hits)

-- 20 hits stand ahead of each hit of the bar's rank or a lesser one whose row stands at the bar's place or behind it; of none
-- where the place is 0
abbrev pub IsBar : List Doc → (places : List ℕ) → Bar → List Hit → Type 0
IsBar docs places bar hits =
    0 < bar.place → (row rank : ℕ) (doc : Doc) → slice_get docs row ≡ Some doc
    → bar.place ≤ place_in places row → rank ≤ bar.rank → 20 ≤ count_ahead hits (hit_with doc.key rank)
