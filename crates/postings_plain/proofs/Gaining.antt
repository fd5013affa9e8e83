-- One more place of a term.
use Rattle.std.proofs.Common.{◌≡◌, ℕ, ◌+◌, ◌-◌, ◌<◌, List, [], ◌∷◌, ◌++◌, length, get_or, take, set, sym, ap, ◌∙◌, arith}
use Rattle.std.proofs.Math.Seq.{get_or-append_seam, set-append_seam}
use Rattle.std.proofs.lemmas.List.{length-append, take_more, take_all}
use Rattle.postings_plain.specs.Postings.{Hit}
use Rattle.postings_plain.specs.Gathering.{GainsPlace, EndsInRow}

last_place : (before : List Hit) (hit : Hit) → length (before ++ hit ∷ []) - 1 ≡ length before
last_place before hit = omega (arith, length-append before (hit ∷ []))

-- the last of the hits, where they end in a row
pub last_hit : (hits before : List Hit) (row : ℕ) (places : List ℕ) (d : Hit) → hits ≡ before ++ (row, places) ∷ [] → get_or hits (length hits - 1) d ≡ (row, places)
last_hit hits before row places d e =
    rw e (ap (λ (i : ℕ). get_or (before ++ (row, places) ∷ []) i d) (last_place before (row, places)) ∙ get_or-append_seam before (row, places) [] d)

pub ends : (hits : List Hit) (hit : Hit) → 0 < length hits → hit ≡ get_or hits (length hits - 1) hit → EndsInRow hits hit.0
ends hits hit pos is =
    let front = take (length hits - 1) hits in
    let whole : length hits - 1 + 1 ≡ length hits = omega arith in
    (front, hit.1, sym (take_all (length hits) hits (omega arith)) ∙ ap (λ (n : ℕ). take n hits) (sym whole) ∙ take_more hits (length hits - 1) hit (omega arith) ∙ ap (λ (x : Hit). front ++ x ∷ []) (sym is))

pub row_of : (a b : Hit) → a ≡ b → a.0 ≡ b.0
row_of a b e = ap (λ (x : Hit). x.0) e

pub gains_in_last : (old : List Hit) (row place last : ℕ) (hit new : Hit) → EndsInRow old row → last ≡ length old - 1 → hit ≡ get_or old last hit → new ≡ (hit.0, hit.1 ++ place ∷ [])
    → GainsPlace old row place (set old last new)
gains_in_last old row place last hit new ends at is written = record {
  more = λ before places e.
      let found : hit ≡ (row, places) = is ∙ ap (λ (i : ℕ). get_or old i hit) at ∙ last_hit old before row places hit e in
      let value : new ≡ (row, places ++ place ∷ []) = written ∙ ap (λ (x : Hit). (x.0, x.1 ++ place ∷ [])) found in
      let where_last : last ≡ length before = at ∙ ap (λ (x : List Hit). length x - 1) e ∙ last_place before (row, places) in
      ap (λ (x : List Hit). set x last new) e ∙ ap (λ (i : ℕ). set (before ++ (row, places) ∷ []) i new) where_last ∙ set-append_seam before (row, places) [] new ∙ ap (λ (x : Hit). before ++ x ∷ []) value;
  first = λ below.
      let long : 0 < length old = omega (arith, ap length ends.2, length-append ends.0 ((row, ends.1) ∷ [])) in
      let same = row_of _ _ (last_hit old ends.0 row ends.1 hit ends.2) in
      absurd (omega (arith, same, below (length old - 1) hit (omega arith)));
}

pub gains_new : (old new : List Hit) (row place : ℕ) → (EndsInRow old row → ⊥) → new ≡ old ++ (row, place ∷ []) ∷ [] → GainsPlace old row place new
gains_new old new row place other e = record {
  more = λ before places is. absurd (other (before, places, is));
  first = λ below. e;
}

pub some_last : (hits : List Hit) (row : ℕ) → EndsInRow hits row → 0 < length hits
some_last hits row e = omega (arith, ap length e.2, length-append e.0 ((row, e.1) ∷ []))
