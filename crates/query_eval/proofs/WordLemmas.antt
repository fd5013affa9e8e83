-- The rows of a word, found and counted by its hits alone.
use Rattle.std.proofs.Common.{◌≡◌, ℕ, ◌+◌, ◌<◌, ◌≤◌, List, [], ◌∷◌, length, false, Option, Some, None, refl, sym, ap, subst, arith}
use Rattle.std.specs.List.{All}
use Rattle.std.proofs.lemmas.Bool.{ne_eqb, eq-eqb}
use Rattle.std.proofs.lemmas.List.Elements.{All-head, All-tail}
use Rattle.std.proofs.lemmas.Option.{same_Some}
use Rattle.documents.specs.declared.answer.Answer.{Answer}
use Rattle.documents.specs.declared.query.Query.{Word}
use Rattle.postings_plain.specs.Body.{HasEntry, HasNoEntry}
use Rattle.postings_plain.specs.Postings.{Hit, row_of, positions_in}
use Rattle.postings_plain.specs.Rows.{first_hit, after_first}
use Rattle.seg_reader.specs.Shown.{Shown}
use Rattle.seg_reader.specs.Sound.{IsSound}
use Rattle.query_eval.specs.Matching.{CountsRow, CountsSegment}
use Rattle.query_eval.specs.Phrases.{has_row, places_in}
use Rattle.query_eval.proofs.HitLemmas.{not_there}
use Rattle.query_eval.proofs.PlaceLemmas.{word_times, times_without}
use Rattle.query_eval.proofs.RowLemmas.{entry_rows, no_entry_rows}
use Rattle.query_eval.proofs.SearchLemmas.{IsSearching, search_start, search_step, search_none}

-- how often a word stands in a row, by its hits
abbrev pub times_in_row : List Hit → ℕ → ℕ
times_in_row hits row = length (places_in row hits)

-- the hits that are left are in rows from some row on, those below it are counted, and all are rows of the segment
pub record IsSearchingWord (word : List ℕ) (seg : Shown) (before : Answer) (hits : List Hit) (now : Answer) : Type 0 where
  pub row : ℕ
  pub from : All (λ h. row ≤ row_of h) hits
  pub below : All (λ h. row_of h < length seg.docs) hits
  pub searching : IsSearching (Word word) seg before (has_row hits) (times_in_row hits) now row

pub word_start : (word : List ℕ) (seg : Shown) (before : Answer) (hits : List Hit) → IsSound seg → HasEntry seg.entries 1 word hits → All (λ h. row_of h < length seg.docs) hits
    → IsSearchingWord word seg before hits before
word_start word seg before hits sound has below = record {
  row = 0;
  from = λ i d lt. omega arith;
  below = below;
  searching = search_start (Word word) seg before (has_row hits) (times_in_row hits) (entry_rows seg word hits sound has) (word_times seg word hits sound has);
}

-- a row is not among hits that are all behind it
pub not_behind_rows : (row : ℕ) (hits : List Hit) → All (λ h. row < row_of h) hits → (x : ℕ) → x ≤ row → has_row hits x ≡ false
not_behind_rows row hits above x le = not_there x hits (λ k d lt e. let up = above k d lt in omega (arith, up, e, le))

-- the row of the first hit is one of the segment, and there is room to count it
pub word_next : (word : List ℕ) (seg : Shown) (before now : Answer) (hits : List Hit) (row times : ℕ) → IsSearchingWord word seg before hits now → ◌≡◌ {A = Option (ℕ × ℕ)} (Some (row, times)) (first_hit hits)
    → (row < length seg.docs) × (now.total + 1 ≤ before.total + length seg.docs)
word_next word seg before now [] row times k first = absurd cc
word_next word seg before now (h ∷ hits) row times k first =
    let taken : ◌≡◌ {A = ℕ × ℕ} (row, times) (row_of h, length (positions_in h)) = same_Some (row, times) (row_of h, length (positions_in h)) first in
    let at : row ≡ row_of h = ap (λ (x : ℕ × ℕ). x.0) taken in
    let from : k.row ≤ row_of h = All-head (λ (g : Hit). k.row ≤ row_of g) h hits k.from in
    let lt : row_of h < length seg.docs = All-head (λ (g : Hit). row_of g < length seg.docs) h hits k.below in
    let few = k.searching.counted.few in
    (omega (arith, at, lt), omega (arith, few, from, lt))

-- the first hit was taken and its row counted
pub word_step : (word : List ℕ) (seg : Shown) (before now next : Answer) (hits left : List Hit) (row times : ℕ) → IsSearchingWord word seg before hits now
    → ◌≡◌ {A = Option (ℕ × ℕ)} (Some (row, times)) (first_hit hits) → left ≡ after_first hits → All (λ h. row < row_of h) left → CountsRow seg row times now next → IsSearchingWord word seg before left next
word_step word seg before now next [] left row times k first rest above counts = absurd cc
word_step word seg before now next (h ∷ hits) left row times k first rest above counts =
    let taken : ◌≡◌ {A = ℕ × ℕ} (row, times) (row_of h, length (positions_in h)) = same_Some (row, times) (row_of h, length (positions_in h)) first in
    let at : row ≡ row_of h = ap (λ (x : ℕ × ℕ). x.0) taken in
    let long : times ≡ length (positions_in h) = ap (λ (x : ℕ × ℕ). x.1) taken in
    let from : k.row ≤ row_of h = All-head (λ (g : Hit). k.row ≤ row_of g) h hits k.from in
    let lt : row_of h < length seg.docs = All-head (λ (g : Hit). row_of g < length seg.docs) h hits k.below in
    let behind : All (λ g. row < row_of g) hits = subst (All (λ (g : Hit). row < row_of g)) rest above in
    subst (λ (hs : List Hit). IsSearchingWord word seg before hs next) (sym rest) (record {
      row = row + 1;
      from = λ i d lt. let up = behind i d lt in omega (arith, up);
      below = All-tail (λ (g : Hit). row_of g < length seg.docs) h hits k.below;
      searching = search_step (Word word) seg before now next (has_row (h ∷ hits)) (has_row hits) (times_in_row (h ∷ hits)) (times_in_row hits) k.row row times k.searching
          (omega (arith, at, from), rw (eq-eqb (row_of h) row (sym at)) refl, λ x le up. rw (ne_eqb (row_of h) x (λ f. omega (arith, at, f, up))) (not_behind_rows row hits behind x (omega (arith, up))))
          (omega (arith, at, lt))
          (λ x up. rw (ne_eqb (row_of h) x (λ f. omega (arith, at, f, up))) refl) (λ x up. rw (ne_eqb (row_of h) x (λ f. omega (arith, at, f, up))) refl)
          (rw (eq-eqb (row_of h) row (sym at)) long) counts;
    })

-- no hit is left
pub word_end : (word : List ℕ) (seg : Shown) (before now : Answer) (hits : List Hit) → IsSearchingWord word seg before hits now → ◌≡◌ {A = Option (ℕ × ℕ)} None (first_hit hits) → CountsSegment (Word word) seg before now
word_end word seg before now [] k none = search_none (Word word) seg before now (has_row []) (times_in_row []) k.row k.searching (λ x le lt. refl)
word_end word seg before now (h ∷ hits) k none = absurd cc

-- the segment lacks the word
pub word_lacks : (word : List ℕ) (seg : Shown) (before : Answer) → IsSound seg → HasNoEntry seg.entries 1 word → CountsSegment (Word word) seg before before
word_lacks word seg before sound none =
    search_none (Word word) seg before before (has_row []) (times_in_row []) 0
    (search_start (Word word) seg before (has_row []) (times_in_row []) (λ x doc is. sym (no_entry_rows seg word sound none x doc is)) (λ x doc is. sym (times_without seg word sound none x doc is)))
    (λ x le lt. refl)
