-- What segments stand for: the laws that a publish, a merge and a promotion use.
use Rattle.std.proofs.Common.{◌≡◌, ◌≢◌, ℕ, ◌+◌, ◌<◌, ◌≤◌, Bool, true, false, not, cond, List, [], ◌∷◌, ◌++◌, length, get_or, map, refl, sym, ap, subst, ◌∙◌, arith}
use Rattle.std.specs.Prelude.{◌&&◌, ◌==◌}
use Rattle.std.specs.List.{All, AllPairs, IsDistinct}
use Rattle.std.specs.List.Sorted.{IsPermutation}
use Rattle.std.specs.Str.{bytes_eq}
use Rattle.std.specs.Ordering.{is_lt, ordering_reverse}
use Rattle.std.specs.declared.cmp.Ordering.TheVariants.{Less}
use Rattle.std.specs.Cmp.Lexicographic.{nat_list_cmp_total, bytes_decides}
use Rattle.std.proofs.lemmas.Bool.{eqb-true}
use Rattle.std.proofs.lemmas.List.{append-nil, length-map, get_or-map}
use Rattle.std.proofs.lemmas.List.Concat.{flat_map-append}
use Rattle.std.proofs.lemmas.List.Elements.{filter-append}
use Rattle.std.proofs.lemmas.List.Sorted.{IsPermutation-sym}
use Rattle.std.proofs.lemmas.Map.Keys.{Less-from_sorted, IsDistinct-from_apart, IsDistinct-IsPermutation, apart_from_distinct}
use Rattle.nrt_base.specs.declared.doc.Doc.{Doc}
use Rattle.documents.specs.declared.operation.Op.{Op}
use Rattle.documents.specs.Documents.{key_cmp, IsAscending, after_ops}
use Rattle.documents.proofs.DocumentLemmas.{ascending_after_all}
use Rattle.live_bits.specs.LiveRows.{live_rows}
use Rattle.seg_merge.specs.Given.{Shown, shown_with, live_documents, live_documents_of, IsInKeyOrder, IsSound, AreSegmentsOf}
use Rattle.seg_merge.proofs.Given.{live_ascend}
use Rattle.live_bits.proofs.LiveCounts.{live_rows-cons}
use Rattle.segment_steps.specs.Cut.{removed_by, lacking, live_left}
use Rattle.segment_steps.specs.Segments.{left_of, live_change, changed}
use Rattle.segment_steps.proofs.Documents.{live_docs, puts_left, no_tie, after_cut_documents}

-- ---- documents in ascending order, in any order of rows

abbrev same_key : Doc → Doc → Bool
same_key d e = bytes_eq d.key e.key

pub one_way : (a b : List ℕ) → bytes_eq a b ≡ bytes_eq b a
one_way a b = by_test (bytes_eq a b) (bytes_eq b a) refl refl
  where
    by_test : (s t : Bool) → bytes_eq a b ≡ s → bytes_eq b a ≡ t → s ≡ t
    by_test true true e f = refl
    by_test true false e f = let bad = (bytes_decides b a).1 (sym ((bytes_decides a b).0 e)) in cc
    by_test false true e f = let bad = (bytes_decides a b).1 (sym ((bytes_decides b a).0 f)) in cc
    by_test false false e f = refl

below : (docs : List Doc) (i j : ℕ) (d : Doc) → IsAscending docs → i < j → j < length docs → key_cmp (get_or docs i d).key (get_or docs j d).key ≡ Less
below docs i j d ascending lt in' =
    let count = length-map docs (λ (x : Doc). x.key) in
    let less = Less-from_sorted key_cmp (map (λ (x : Doc). x.key) docs) i j d.key ascending lt (omega (arith, count, in')) in
    let first = get_or-map (λ (x : Doc). x.key) docs i d d.key (omega (arith, lt, in')) in
    let second = get_or-map (λ (x : Doc). x.key) docs j d d.key in' in
    sym (ap (λ (k : List ℕ). key_cmp k (get_or docs j d).key) first) ∙ sym (ap (key_cmp (get_or (map (λ (x : Doc). x.key) docs) i d.key)) second) ∙ less

in_key_order : (docs : List Doc) → IsAscending docs → IsInKeyOrder docs
in_key_order docs ascending k d low lt =
    let e = below docs k (k + 1) d ascending (omega arith) lt in
    ap is_lt (nat_list_cmp_total.antisymm (get_or docs (k + 1) d).key (get_or docs k d).key ∙ ap ordering_reverse e)

all_distinct : (docs : List Doc) → IsAscending docs → IsDistinct same_key docs
all_distinct docs ascending = IsDistinct-from_apart same_key docs (λ i j d lt in'. no_tie (get_or docs i d).key (get_or docs j d).key (below docs i j d ascending lt in'))

all_apart : (ds docs : List Doc) → IsAscending docs → IsPermutation ds docs → AllPairs (λ d e. d.key ≢ e.key) ds
all_apart ds docs ascending moved i j d lt in' e =
    let distinct = IsDistinct-IsPermutation same_key (λ x y. one_way x.key y.key) docs ds (IsPermutation-sym ds docs moved) (all_distinct docs ascending) in
    let apart : bytes_eq (get_or ds i d).key (get_or ds j d).key ≡ false = apart_from_distinct same_key ds i j d distinct lt in' in
    let same = (bytes_decides (get_or ds i d).key (get_or ds j d).key).1 e in
    absurd cc

-- ---- the laws

pub documents_ascend : (docs : List Doc) (segs : List Shown) → AreSegmentsOf docs segs → IsAscending docs
documents_ascend docs segs are = live_ascend segs docs are.apart are.documents

-- sound segments whose live documents are these, in any order, are of them
pub segments_of : (docs : List Doc) (segs : List Shown) → All IsSound segs → IsAscending docs → IsPermutation (live_documents segs) docs → AreSegmentsOf docs segs
segments_of docs segs sound ascending moved = record {
  sound = sound;
  apart = all_apart (live_documents segs) docs ascending moved;
  documents = record { same = moved; in_order = in_key_order docs ascending };
}

-- FIRST LAW: segments with the same live documents are of the same documents.
pub same_live : (docs : List Doc) (segs others : List Shown) → AreSegmentsOf docs segs → live_documents others ≡ live_documents segs → All IsSound others → AreSegmentsOf docs others
same_live docs segs others are same sound =
    segments_of docs others sound (documents_ascend docs segs are) (subst (λ (ds : List Doc). IsPermutation ds docs) (sym same) are.documents.same)

-- SECOND LAW: segments whose live documents are those that a cut leaves, then those of its own puts, are of the documents after it.
pub after_cut : (docs : List Doc) (segs others : List Shown) (ops : List Op) → AreSegmentsOf docs segs
    → live_documents others ≡ lacking (removed_by ops) (live_documents segs) ++ puts_left ops → All IsSound others → AreSegmentsOf (after_ops docs ops) others
after_cut docs segs others ops are left sound =
    let ascending = documents_ascend docs segs are in
    segments_of (after_ops docs ops) others sound (ascending_after_all docs ops ascending)
    (subst (λ (ds : List Doc). IsPermutation ds (after_ops docs ops)) (sym left) (after_cut_documents ops (live_documents segs) docs are.documents.same))

-- ---- what dies, and what comes

first_live : (d : Doc) (docs : List Doc) (row : Bool) (live : List Bool) → live_docs (d ∷ docs) (row ∷ live) ≡ cond row (d ∷ live_docs docs live) (live_docs docs live)
first_live d docs true live = refl
first_live d docs false live = refl

pub docs_left : (gone : Doc → Bool) (docs : List Doc) (live : List Bool) → live_docs docs (live_left gone docs live) ≡ lacking gone (live_docs docs live)
docs_left gone [] live = refl
docs_left gone (d ∷ docs) [] = refl
docs_left gone (d ∷ docs) (row ∷ live) =
    by_row row (gone d) refl (docs_left gone docs live)
  where
    by_row : (r n : Bool) → gone d ≡ n → live_docs docs (live_left gone docs live) ≡ lacking gone (live_docs docs live)
        → live_docs (d ∷ docs) ((r && not (gone d)) ∷ live_left gone docs live) ≡ lacking gone (live_docs (d ∷ docs) (r ∷ live))
    by_row false n e h = h
    by_row true true e h = rw e h
    by_row true false e h = rw e (ap (λ (ds : List Doc). d ∷ ds) h)

pub segments_left : (gone : Doc → Bool) (segs : List Shown) → live_documents (map (left_of gone) segs) ≡ lacking gone (live_documents segs)
segments_left gone [] = refl
segments_left gone (s ∷ segs) =
    ap (λ (ds : List Doc). ds ++ live_documents (map (left_of gone) segs)) (docs_left gone s.docs s.live)
    ∙ ap (λ (ds : List Doc). lacking gone (live_documents_of s) ++ ds) (segments_left gone segs)
    ∙ sym (filter-append (λ (d : Doc). not (gone d)) (live_documents_of s) (live_documents segs))

pub one_more : (segs : List Shown) (s : Shown) → live_documents (segs ++ s ∷ []) ≡ live_documents segs ++ live_documents_of s
one_more segs s = flat_map-append live_documents_of segs (s ∷ []) ∙ ap (λ (ds : List Doc). live_documents segs ++ ds) (append-nil (live_documents_of s))

-- where no row is live, no document is
pub none_live : (docs : List Doc) (live : List Bool) → live_rows live ≡ 0 → live_docs docs live ≡ []
none_live [] live none = refl
none_live (d ∷ docs) [] none = refl
none_live (d ∷ docs) (true ∷ live) none = absurd (omega (arith, none, live_rows-cons true live))
none_live (d ∷ docs) (false ∷ live) none = none_live docs live (omega (arith, none, live_rows-cons false live))

-- ---- where no row dies, nothing changes

pub fewer : (gone : Doc → Bool) (docs : List Doc) (live : List Bool) → live_rows (live_left gone docs live) ≤ live_rows live
fewer gone [] live = omega arith
fewer gone (d ∷ docs) [] = omega arith
fewer gone (d ∷ docs) (row ∷ live) = by_row row (not (gone d)) (fewer gone docs live)
  where
    by_row : (r n : Bool) → live_rows (live_left gone docs live) ≤ live_rows live → live_rows ((r && n) ∷ live_left gone docs live) ≤ live_rows (r ∷ live)
    by_row false n le = omega (arith, le, live_rows-cons false live, live_rows-cons false (live_left gone docs live))
    by_row true true le = omega (arith, le, live_rows-cons true live, live_rows-cons true (live_left gone docs live))
    by_row true false le = omega (arith, le, live_rows-cons true live, live_rows-cons false (live_left gone docs live))

pub all_stay : (gone : Doc → Bool) (docs : List Doc) (live : List Bool) → live_rows (live_left gone docs live) ≡ live_rows live → live_left gone docs live ≡ live
all_stay gone [] live e = refl
all_stay gone (d ∷ docs) [] e = refl
all_stay gone (d ∷ docs) (row ∷ live) e = by_row row (not (gone d)) e (fewer gone docs live) (all_stay gone docs live)
  where
    by_row : (r n : Bool) → live_rows ((r && n) ∷ live_left gone docs live) ≡ live_rows (r ∷ live) → live_rows (live_left gone docs live) ≤ live_rows live
        → (live_rows (live_left gone docs live) ≡ live_rows live → live_left gone docs live ≡ live) → (r && n) ∷ live_left gone docs live ≡ r ∷ live
    by_row false n e le h = ap (λ (ls : List Bool). false ∷ ls) (h (omega (arith, e, live_rows-cons false live, live_rows-cons false (live_left gone docs live))))
    by_row true true e le h = ap (λ (ls : List Bool). true ∷ ls) (h (omega (arith, e, live_rows-cons true live, live_rows-cons true (live_left gone docs live))))
    by_row true false e le h = absurd (omega (arith, e, le, live_rows-cons true live, live_rows-cons false (live_left gone docs live)))

-- what a segment shows after its change is what is left of it
pub change_is : (gone : Doc → Bool) (s : Shown) → changed s (live_change gone s) ≡ left_of gone s
change_is gone s = by_test (live_rows (live_left gone s.docs s.live) == live_rows s.live) refl
  where
    same_shown : (live other : List Bool) → live ≡ other → shown_with s live ≡ shown_with s other
    same_shown live other e = cc

    by_test : (b : Bool) → (live_rows (live_left gone s.docs s.live) == live_rows s.live) ≡ b → changed s (live_change gone s) ≡ left_of gone s
    by_test true e = rw e (same_shown s.live (live_left gone s.docs s.live) (sym (all_stay gone s.docs s.live (eqb-true (live_rows (live_left gone s.docs s.live)) (live_rows s.live) e))))
    by_test false e = rw e refl

-- a segment is as sound with other live rows
pub still_sound : (s : Shown) (live : List Bool) → IsSound s → IsSound (shown_with s live)
still_sound s live sound = record { entries = sound.entries }
