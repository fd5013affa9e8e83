-- Documents in order of key, no two of which have one key, are a list in ascending order.
use Rattle.std.proofs.Common.{◌≡◌, ◌≢◌, ◌+◌, Bool, true, false, List, [], ◌∷◌, get_or, map, refl, ◌∙◌, arith}
use Rattle.std.specs.List.{AllByRecursion, AllPairs, IsDistinct}
use Rattle.std.specs.List.Sorted.{IsStrictlySortedBy}
use Rattle.std.specs.Ordering.{ordering_reverse, is_lt, is_eq, eq_by_cmp}
use Rattle.std.specs.Cmp.{IsTotalOrder}
use Rattle.std.specs.Cmp.Lexicographic.{texts_ties}
use Rattle.std.specs.declared.cmp.Ordering.{Ordering}
use Rattle.std.specs.declared.cmp.Ordering.TheVariants.{Less, Equal, Greater}
use Rattle.std.proofs.lemmas.Cmp.{nat_list_cmp_total, on_total, eq_by_cmp_equiv}
use Rattle.std.proofs.lemmas.List.Sorted.{Contains-permutation, IsPermutation-sym}
use Rattle.std.proofs.lemmas.Slice.Eq.{bytes_eq-Decides}
use Rattle.std.proofs.lemmas.Map.Keys.{sorted_from_all_adjacent, IsDistinct-from_apart, IsDistinct-IsPermutation, apart_from_distinct}
use Rattle.nrt_base.specs.declared.doc.Doc.{Doc}
use Rattle.segment_infos.proofs.SortedLists.{one_sorted_list}
use Rattle.documents.specs.Documents.{key_cmp, IsAscending}
use Rattle.seg_reader.specs.Shown.{Shown, live_documents, IsInKeyOrder, AreLiveDocuments}

abbrev by_key : Doc → Doc → Ordering
by_key d e = key_cmp d.key e.key

total_by_key : IsTotalOrder by_key
total_by_key = on_total (λ (d : Doc). d.key) nat_list_cmp_total

abbrev same_key : Doc → Doc → Bool
same_key = eq_by_cmp by_key

apart_test : (d e : Doc) → d.key ≢ e.key → same_key d e ≡ false
apart_test d e apart = by_test (same_key d e) refl
  where
    by_test : (test : Bool) → same_key d e ≡ test → test ≡ false
    by_test false h = refl
    by_test true h = absurd (apart ((bytes_eq-Decides d.key e.key).0 (texts_ties d.key e.key ∙ h)))

apart_tested : (docs : List Doc) → AllPairs (λ d e. d.key ≢ e.key) docs → IsDistinct same_key docs
apart_tested docs apart = IsDistinct-from_apart same_key docs (λ i j d lt in'. apart_test (get_or docs i d) (get_or docs j d) (apart i j d lt in'))

less_of : (a b : Ordering) → a ≡ ordering_reverse b → is_eq a ≡ false → is_lt b ≡ false → a ≡ Less
less_of Less b e f h = refl
less_of Equal b e f h = absurd cc
less_of Greater Less e f h = absurd cc
less_of Greater Equal e f h = absurd cc
less_of Greater Greater e f h = absurd cc

strictly : (docs : List Doc) → IsDistinct same_key docs → IsInKeyOrder docs → IsStrictlySortedBy by_key docs
strictly docs distinct up =
    sorted_from_all_adjacent total_by_key docs none (λ k in'.
    less_of (by_key (get_or docs k none) (get_or docs (k + 1) none)) (by_key (get_or docs (k + 1) none) (get_or docs k none)) (total_by_key.antisymm (get_or docs k none) (get_or docs (k + 1) none))
    (apart_from_distinct same_key docs k (k + 1) none distinct (omega arith) in') (up k none (omega arith) in'))
  where
    none : Doc
    none = record { key = []; text = [] }

live_strictly : (segs : List Shown) (docs : List Doc) → AllPairs (λ d e. d.key ≢ e.key) (live_documents segs) → AreLiveDocuments segs docs → IsStrictlySortedBy by_key docs
live_strictly segs docs apart are =
    strictly docs (IsDistinct-IsPermutation same_key (eq_by_cmp_equiv total_by_key).symm (live_documents segs) docs are.same (apart_tested (live_documents segs) apart)) are.in_order

-- segments whose live rows have keys of their own have one list of live documents
pub one_live_list : (segs : List Shown) (docs others : List Doc) → AllPairs (λ d e. d.key ≢ e.key) (live_documents segs) → AreLiveDocuments segs docs → AreLiveDocuments segs others → docs ≡ others
one_live_list segs docs others apart a b =
    one_sorted_list Doc by_key total_by_key docs others (live_strictly segs docs apart a) (live_strictly segs others apart b) (λ z. (
      λ h. Contains-permutation (live_documents segs) others z b.same (Contains-permutation docs (live_documents segs) z (IsPermutation-sym (live_documents segs) docs a.same) h),
      λ h. Contains-permutation (live_documents segs) docs z a.same (Contains-permutation others (live_documents segs) z (IsPermutation-sym (live_documents segs) others b.same) h),
    ))

below_keys : (d : Doc) (docs : List Doc) → AllByRecursion (λ e. by_key d e ≡ Less) docs → AllByRecursion (λ k. key_cmp d.key k ≡ Less) (map (λ e. e.key) docs)
below_keys d [] h = tt
below_keys d (e ∷ docs) h = (h.0, below_keys d docs h.1)

keys_ascend : (docs : List Doc) → IsStrictlySortedBy by_key docs → IsAscending docs
unfolding IsStrictlySortedBy
keys_ascend [] h = tt
keys_ascend (d ∷ docs) h = (below_keys d docs h.0, keys_ascend docs h.1)

-- the live documents of such segments ascend by key
pub live_ascend : (segs : List Shown) (docs : List Doc) → AllPairs (λ d e. d.key ≢ e.key) (live_documents segs) → AreLiveDocuments segs docs → IsAscending docs
live_ascend segs docs apart are = keys_ascend docs (live_strictly segs docs apart are)
