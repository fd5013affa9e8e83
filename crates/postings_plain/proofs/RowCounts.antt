-- The greatest row of entries: where the hits of each end, and the greatest of these ends.
use Rattle.std.proofs.Common.{◌≡◌, ℕ, suc, ◌+◌, ◌<◌, ◌≤◌, List, [], ◌∷◌, length, get_or, max, refl, sym, ap, subst, ◌∙◌, arith, inl, inr}
use Rattle.std.specs.List.{All, Any}
use Rattle.std.proofs.lemmas.Bool.{cases_lt}
use Rattle.std.proofs.lemmas.List.{get_or_default, length-map}
use Rattle.postings_plain.specs.declared.format.Format.{Format}
use Rattle.postings_plain.specs.Postings.{Hit, row_of, Entry, field_of, hits_of, above_hit, IsFileEntry}
use Rattle.postings_plain.specs.Body.{IsRowCount}
use Rattle.postings_plain.specs.Reading.{end_after, IsEntry, IsEntryUpTo, AreEntries, no_entry, entry_in, entry_of}
use Rattle.postings_plain.proofs.HitLaws.{all_below}
use Rattle.postings_plain.proofs.Judging.{entries_of, at_entries_of, entry_of-is}

-- ---- the hits of one entry

abbrev LastOf : ℕ → List Hit → Type 0
LastOf n hs = Any (λ h. row_of h + 1 ≡ n) hs

one_more : (n : ℕ) (g : Hit) (hs : List Hit) → LastOf n hs → LastOf n (g ∷ hs)
one_more n g hs x = (suc x.0, x.1, omega (arith, x.2), x.3, x.4)

last_reaches : (k : ℕ) (h : Hit) (hs : List Hit) → LastOf (end_after k (h ∷ hs)) (h ∷ hs)
last_reaches k h [] = (0, h, omega arith, refl, refl)
last_reaches k h (g ∷ hs) = one_more (end_after (above_hit h) (g ∷ hs)) h (g ∷ hs) (last_reaches (above_hit h) g hs)

some_reaches : (k : ℕ) (hs : List Hit) → 0 < length hs → LastOf (end_after k hs) hs
some_reaches k [] pos = absurd (omega arith)
some_reaches k (h ∷ hs) pos = last_reaches k h hs

-- ---- the entries of items

abbrev pub end_of : (format : Format) → List (List ℕ) → ℕ → ℕ
end_of format items i = end_after 0 (hits_of (entry_of format items i))

-- n is the greatest end of the first items
pub record Ends (format : Format) (items : List (List ℕ)) (count n : ℕ) : Type 0 where
  pub below : (i : ℕ) → i < count → end_of format items i ≤ n
  pub reached : 0 < n → (i : ℕ) × (i < count) × (end_of format items i ≡ n)

pub ends_none : (format : Format) (items : List (List ℕ)) → Ends format items 0 0
ends_none format items = record { below = λ i h. absurd (omega arith); reached = λ h. absurd (omega arith) }

pub ends_more : (format : Format) (items : List (List ℕ)) (count n end : ℕ) → Ends format items count n → end_of format items count ≡ end → Ends format items (count + 1) (max n end)
ends_more format items count n end so_far here = record {
  below = λ i h. elim (cases_lt i count) [
    | inl lt ↦ omega (arith, so_far.below i lt)
    | inr ge ↦ let same : i ≡ count = omega arith in omega (arith, ap (end_of format items) same, here)
  ];
  reached = λ pos. elim (cases_lt n end) [
    | inl lt ↦ (count, omega arith, omega (arith, here))
    | inr ge ↦ let x = so_far.reached (omega arith) in (x.0, omega (arith, x.1), omega (arith, x.2))
  ];
}

-- where the hits of the item end
pub end_at : (format : Format) (items : List (List ℕ)) (i : ℕ) (item : List ℕ) (end : ℕ) → item ≡ get_or items i [] → IsEntryUpTo format item end → end_of format items i ≡ end
end_at format items i item end same x = ap (λ (e : Entry). end_after 0 (hits_of e)) (entry_of-is format items i x.0 x.1 (sym same ∙ x.2)) ∙ sym x.3

-- the entry at i is the one that the item spells, and there its hits end
entry_there : (format : Format) (items : List (List ℕ)) (i : ℕ) (d : Entry) (x : IsEntry format (get_or items i [])) → i < length items → get_or (entries_of format items) i d ≡ x.0
entry_there format items i d x lt =
    get_or_default (entries_of format items) i d no_entry (omega (arith, length-map items (entry_in format))) ∙ at_entries_of format items i lt ∙ entry_of-is format items i x.0 x.1 x.2

end_there : (format : Format) (items : List (List ℕ)) (i : ℕ) (x : IsEntry format (get_or items i [])) → end_of format items i ≡ end_after 0 (hits_of x.0)
end_there format items i x = ap (λ (e : Entry). end_after 0 (hits_of e)) (entry_of-is format items i x.0 x.1 x.2)

rows_below : (format : Format) (es : List Entry) (i n : ℕ) (d : Entry) (e : Entry) → IsFileEntry format e → get_or es i d ≡ e → end_after 0 (hits_of e) ≤ n → All (λ h. row_of h < n) (hits_of (get_or es i d))
rows_below format es i n d e fit same le = subst (λ (x : Entry). All (λ h. row_of h < n) (hits_of x)) (sym same) (λ k c h. omega (arith, all_below (field_of e) 0 (hits_of e) fit.hits_fit.1 k c h))

reached_there : (format : Format) (items : List (List ℕ)) (i n : ℕ) (x : IsEntry format (get_or items i [])) → i < length items → end_of format items i ≡ n → Any (λ e. LastOf n (hits_of e)) (entries_of format items)
reached_there format items i n x lt e =
    let last = some_reaches 0 (hits_of x.0) x.1.hits_fit.0.0 in
    (i, x.0, omega (arith, length-map items (entry_in format)), entry_there format items i x.0 x lt, subst (λ (m : ℕ). LastOf m (hits_of x.0)) (sym (end_there format items i x) ∙ e) last)

some_row : (format : Format) (items : List (List ℕ)) (i : ℕ) (x : IsEntry format (get_or items i [])) → 0 < end_of format items i
some_row format items i x = let last = some_reaches 0 (hits_of x.0) x.1.hits_fit.0.0 in omega (arith, last.4, end_there format items i x)

pub count_of_ends : (format : Format) (items : List (List ℕ)) (count n : ℕ) → count ≡ length items → 0 < length items → AreEntries format items → Ends format items count n → IsRowCount (entries_of format items) n
count_of_ends format items count n same pos all ends =
    let len = length-map items (entry_in format) in
    let some : 0 < n = omega (arith, some_row format items 0 (all 0 pos), ends.below 0 (omega arith)) in
    let x = ends.reached some in
    record {
      below = λ i d h.
          let lt : i < length items = omega (arith, len) in
          let e = all i lt in
          rows_below format (entries_of format items) i n d e.0 e.1 (entry_there format items i d e lt) (omega (arith, end_there format items i e, ends.below i (omega arith)));
      greatest = let lt : x.0 < length items = omega (arith, x.1) in reached_there format items x.0 n (all x.0 lt) lt x.2;
    }

-- ---- entries have one number of rows

reaches : (es : List Entry) (m n : ℕ) → IsRowCount es m → IsRowCount es n → m ≤ n
reaches es m n a b =
    let e = a.greatest in
    let h = e.4 in
    let below = b.below e.0 e.1 e.2 in
    let at : All (λ x. row_of x < n) (hits_of e.1) = subst (λ (x : Entry). All (λ y. row_of y < n) (hits_of x)) e.3 below in
    let here : row_of (get_or (hits_of e.1) h.0 h.1) < n = at h.0 h.1 h.2 in
    omega (arith, here, ap row_of h.3, h.4)

pub one_count : (es : List Entry) (m n : ℕ) → IsRowCount es m → IsRowCount es n → m ≡ n
one_count es m n a b = omega (arith, reaches es m n a b, reaches es n m b a)
