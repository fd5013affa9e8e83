-- The postings of the live rows of segments, from those of the segments.
use Rattle.std.proofs.Common.{◌≡◌, ℕ, zero, suc, ◌+◌, ◌<◌, ◌≤◌, Bool, true, false, cond, List, [], ◌∷◌, ◌++◌, length, take, get_or, map, Option, Some, None, refl, sym, ap, subst, ◌∙◌, arith, append_assoc}
use Rattle.std.specs.List.{AllPairs, filter, list_any, enumerate_from}
use Rattle.std.specs.Str.{bytes_eq}
use Rattle.std.specs.Option.{unwrap_or}
use Rattle.std.specs.Ordering.{nat_cmp}
use Rattle.std.specs.Cmp.Lexicographic.{slice_cmp, bytes_decides}
use Rattle.std.specs.BTreeMap.{get}
use Rattle.std.specs.declared.cmp.Ordering.TheVariants.{Less, Equal}
use Rattle.std.proofs.lemmas.Cmp.{nat_list_cmp_total, tied_itself}
use Rattle.std.proofs.lemmas.List.{append-nil, take_more, take_all}
use Rattle.std.proofs.lemmas.List.Concat.{flat_map-cons}
use Rattle.std.proofs.lemmas.Grind.{flat_map-append}
use Rattle.std.proofs.lemmas.Bool.{false_from_ne_true}
use Rattle.postings_plain.specs.declared.row.TermRow.{TermRow}
use Rattle.postings_plain.specs.Postings.{Hit, Entry, row_of, positions_in, hits_of}
use Rattle.postings_plain.specs.Body.{heading_of, heading_order, IsBefore}
use Rattle.postings_plain.specs.Reading.{no_entry, at_place, HasNoHeading}
use Rattle.postings_plain.specs.Inverting.{has_term, term_positions, rows_with, AreEntriesOf}
use Rattle.postings_plain.specs.Gathering.{Terms, FoundTerms, Gathers, some_hits}
use Rattle.postings_plain.specs.Joining.{numbers_from, live_terms, with_number, renumbered, AddsHitsTo, hits_under, JoinsEntries}
use Rattle.postings_plain.proofs.Finding.{among, not_among}
use Rattle.postings_plain.proofs.GatheringLaws.{picked, pick, picked_none, hits_back, apart}

-- ---- the rows of a term, over two lists of rows

abbrev hit_made : (TermRow → List ℕ) → ℕ × TermRow → Hit
hit_made f x = (x.0, f x.1)

picked_append : {X Y : Type 0} (test : X → Bool) (make : ℕ × X → Y) (n at : ℕ) (xs ys : List X) → n + length xs ≡ at → picked test make n (xs ++ ys) ≡ picked test make n xs ++ picked test make at ys
picked_append test make n at [] ys e = let z : n ≡ at = omega (arith, e) in ap (λ (k : ℕ). picked test make k ys) z
picked_append {X} test make n at (x ∷ xs) ys e =
    pick (test x) make (n, x) (filter (λ (v : ℕ × X). test v.1) (enumerate_from (n + 1) xs)) (filter (λ (v : ℕ × X). test v.1) (enumerate_from (n + 1) (xs ++ ys))) (picked test make at ys)
    (picked_append test make (n + 1) at xs ys (omega (arith, e)))

at_front : (front : List (Option ℕ)) (k : ℕ) (o : Option ℕ) (others : List (Option ℕ)) → length front ≡ k → get_or (front ++ o ∷ others) k None ≡ o
at_front [] zero o others e = refl
at_front [] (suc k) o others e = absurd (omega (arith, e))
at_front (x ∷ front) zero o others e = absurd (omega (arith, e))
at_front (x ∷ front) (suc k) o others e = at_front front k o others (omega (arith, e))

module _ (numbers : List (Option ℕ)) (f : TermRow → List ℕ) (k : ℕ) (r : TermRow) (old new : List (ℕ × TermRow)) (same : renumbered numbers (map (hit_made f) old) ≡ map (hit_made f) new) where
  row_kept : (b : Bool) (n : ℕ) → get_or numbers k None ≡ Some n → renumbered numbers (map (hit_made f) (cond b ((k, r) ∷ old) old)) ≡ map (hit_made f) (cond b ((n, r) ∷ new) new)
  row_kept true n e = ap (λ (o : Option ℕ). with_number o (k, f r) (renumbered numbers (map (hit_made f) old))) e ∙ ap (λ (hs : List Hit). (n, f r) ∷ hs) same
  row_kept false n e = same

  row_dropped : (b : Bool) → get_or numbers k None ≡ None → renumbered numbers (map (hit_made f) (cond b ((k, r) ∷ old) old)) ≡ map (hit_made f) new
  row_dropped true e = ap (λ (o : Option ℕ). with_number o (k, f r) (renumbered numbers (map (hit_made f) old))) e ∙ same
  row_dropped false e = same

abbrev chosen : (TermRow → Bool) → ℕ → List TermRow → List (ℕ × TermRow)
chosen test n rows = filter (λ (v : ℕ × TermRow). test v.1) (enumerate_from n rows)

-- the hits of live rows are those of all rows, renumbered
picked_live : (test : TermRow → Bool) (f : TermRow → List ℕ) (front numbers : List (Option ℕ)) (k n : ℕ) (rows : List TermRow) (live : List Bool) → length front ≡ k → length live ≡ length rows → numbers ≡ front ++ numbers_from n live
    → renumbered numbers (picked test (hit_made f) k rows) ≡ picked test (hit_made f) n (live_terms rows live)
picked_live test f front numbers k n [] [] at long is = refl
picked_live test f front numbers k n [] (l ∷ live) at long is = absurd (omega (arith, long))
picked_live test f front numbers k n (r ∷ rows) [] at long is = absurd (omega (arith, long))
picked_live test f front numbers k n (r ∷ rows) (true ∷ live) at long is =
    row_kept numbers f k r (chosen test (k + 1) rows) (chosen test (n + 1) (live_terms rows live))
    (picked_live test f (front ++ Some n ∷ []) numbers (k + 1) (n + 1) rows live (one_longer front (Some n) k at) (omega (arith, long)) (is ∙ sym (append_assoc front (Some n ∷ []) (numbers_from (n + 1) live))))
    (test r) n (ap (λ (ns : List (Option ℕ)). get_or ns k None) is ∙ at_front front k (Some n) (numbers_from (n + 1) live) at)
  where
    one_longer : (front : List (Option ℕ)) (o : Option ℕ) (k : ℕ) → length front ≡ k → length (front ++ o ∷ []) ≡ k + 1
    one_longer [] o k e = omega (arith, e)
    one_longer (x ∷ front) o zero e = absurd (omega (arith, e))
    one_longer (x ∷ front) o (suc k) e = let below = one_longer front o k (omega (arith, e)) in omega (arith, below)
picked_live test f front numbers k n (r ∷ rows) (false ∷ live) at long is =
    row_dropped numbers f k r (chosen test (k + 1) rows) (chosen test n (live_terms rows live))
    (picked_live test f (front ++ None ∷ []) numbers (k + 1) n rows live (one_longer front None k at) (omega (arith, long)) (is ∙ sym (append_assoc front (None ∷ []) (numbers_from n live))))
    (test r) (ap (λ (ns : List (Option ℕ)). get_or ns k None) is ∙ at_front front k None (numbers_from n live) at)
  where
    one_longer : (front : List (Option ℕ)) (o : Option ℕ) (k : ℕ) → length front ≡ k → length (front ++ o ∷ []) ≡ k + 1
    one_longer [] o k e = omega (arith, e)
    one_longer (x ∷ front) o zero e = absurd (omega (arith, e))
    one_longer (x ∷ front) o (suc k) e = let below = one_longer front o k (omega (arith, e)) in omega (arith, below)

rows_with_joined : (field : ℕ) (term : List ℕ) (rows more : List TermRow) (live : List Bool) (numbers : List (Option ℕ)) → length live ≡ length more → numbers ≡ numbers_from (length rows) live
    → rows_with field term (rows ++ live_terms more live) ≡ rows_with field term rows ++ renumbered numbers (rows_with field term more)
rows_with_joined field term rows more live numbers long is =
    picked_append (has_term field term) (hit_made (term_positions field term)) 0 (length rows) rows (live_terms more live) (omega arith)
    ∙ ap (λ (hs : List Hit). rows_with field term rows ++ hs) (sym (picked_live (has_term field term) (term_positions field term) [] numbers 0 (length rows) more live refl long is))

renumbered-append : (numbers : List (Option ℕ)) (hs more : List Hit) → renumbered numbers (hs ++ more) ≡ renumbered numbers hs ++ renumbered numbers more
renumbered-append numbers [] more = refl
renumbered-append numbers (h ∷ hs) more = by (get_or numbers (row_of h) None) (renumbered-append numbers hs more)
  where
    by : (o : Option ℕ) → renumbered numbers (hs ++ more) ≡ renumbered numbers hs ++ renumbered numbers more → with_number o h (renumbered numbers (hs ++ more)) ≡ with_number o h (renumbered numbers hs) ++ renumbered numbers more
    by None e = e
    by (Some n) e = ap (λ (gs : List Hit). (n, positions_in h) ∷ gs) e

-- ---- the entries of a heading

abbrev hits_if : List ℕ → Entry → List Hit
hits_if q e = cond (bytes_eq (heading_of e) q) (hits_of e) []

if_same : (q : List ℕ) (e : Entry) → heading_of e ≡ q → hits_if q e ≡ hits_of e
if_same q e same = ap (λ (b : Bool). cond b (hits_of e) []) ((bytes_decides (heading_of e) q).1 same)

if_other : (q : List ℕ) (e : Entry) → bytes_eq (heading_of e) q ≡ false → hits_if q e ≡ []
if_other q e other = ap (λ (b : Bool). cond b (hits_of e) []) other

none_under : (q : List ℕ) (es : List Entry) → HasNoHeading es q → hits_under q es ≡ []
none_under q [] none = refl
none_under q (e ∷ es) none =
    flat_map-cons (hits_if q) e es ∙ ap (λ (hs : List Hit). hs ++ hits_under q es) (if_other q e (false_from_ne_true (bytes_eq (heading_of e) q) (λ t. none 0 (omega arith) ((bytes_decides (heading_of e) q).0 t))))
    ∙ none_under q es (λ i lt same. none (suc i) (omega (arith, lt)) same)

hits_under_are : (q : List ℕ) (hits : List Hit) (es : List Entry) → AllPairs IsBefore es → ((i : ℕ) → i < length es → heading_of (at_place es i) ≡ q → hits_of (at_place es i) ≡ hits) → (HasNoHeading es q → hits ≡ []) → hits_under q es ≡ hits
hits_under_are q hits [] ascend each none = sym (none (λ i lt same. absurd (omega (arith, lt))))
hits_under_are q hits (e ∷ es) ascend each none =
    by (bytes_eq (heading_of e) q) refl
    (λ t. hits_under_are q hits es (λ i j d lt within. ascend (suc i) (suc j) d (omega (arith, lt)) (omega (arith, within))) (λ i lt same. each (suc i) (omega (arith, lt)) same) (λ never. none (not_here t never)))
  where
    others_later : heading_of e ≡ q → HasNoHeading es q
    others_later here i lt same =
        let less : heading_order (heading_of e) (heading_of (at_place es i)) ≡ Less = ascend 0 (suc i) no_entry (omega arith) (omega (arith, lt)) in
        let tie : heading_order (heading_of e) (heading_of (at_place es i)) ≡ Equal = ap (heading_order (heading_of e)) (same ∙ sym here) ∙ tied_itself nat_list_cmp_total (heading_of e) in
        let bad = sym less ∙ tie in cc

    not_here : bytes_eq (heading_of e) q ≡ false → HasNoHeading es q → HasNoHeading (e ∷ es) q
    not_here t never zero lt same = let bad = sym ((bytes_decides (heading_of e) q).1 same) ∙ t in cc
    not_here t never (suc i) lt same = never i (omega (arith, lt)) same

    by : (b : Bool) → bytes_eq (heading_of e) q ≡ b → (bytes_eq (heading_of e) q ≡ false → hits_under q es ≡ hits) → hits_under q (e ∷ es) ≡ hits
    by true t rest =
        let here = (bytes_decides (heading_of e) q).0 t in
        flat_map-cons (hits_if q) e es ∙ ap (λ (hs : List Hit). hs ++ hits_under q es) (if_same q e here) ∙ ap (λ (hs : List Hit). hits_of e ++ hs) (none_under q es (others_later here)) ∙ append-nil (hits_of e) ∙ each 0 (omega arith) here
    by false t rest = flat_map-cons (hits_if q) e es ∙ ap (λ (hs : List Hit). hs ++ hits_under q es) (if_other q e t) ∙ rest t

-- the entries of rows have, under a heading, the rows that have the term
under_rows : (rows : List TermRow) (es : List Entry) (field : ℕ) (term : List ℕ) → field < 2 → AreEntriesOf rows es → AllPairs IsBefore es → hits_under (field ∷ term) es ≡ rows_with field term rows
under_rows rows es field term kind are ascend =
    hits_under_are (field ∷ term) (rows_with field term rows) es ascend (λ i lt same. ((are field term (hits_of (at_place es i))).0 (among es field term (hits_of (at_place es i)) i lt same refl)).hits_are) none
  where
    by : (b : Bool) → list_any (has_term field term) rows ≡ b → HasNoHeading es (field ∷ term) → rows_with field term rows ≡ []
    by true some never = absurd (not_among es field term never (rows_with field term rows) ((are field term (rows_with field term rows)).1 (record { kind = kind; some = some; hits_are = refl })))
    by false nobody never = picked_none (has_term field term) (hit_made (term_positions field term)) 0 rows nobody

    none : HasNoHeading es (field ∷ term) → rows_with field term rows ≡ []
    none never = by (list_any (has_term field term) rows) refl never

-- ---- the entries that are added

-- the first entries were added to what was found
abbrev pub HasJoined : (old : FoundTerms) (now : Terms) (es : List Entry) (place : ℕ) (numbers : List (Option ℕ)) → Type 0
HasJoined old now es place numbers =
    (rows : List TermRow) → Gathers old rows → (field : ℕ) (term : List ℕ) → field < 2 → get (slice_cmp nat_cmp) now (field ∷ term) ≡ some_hits (rows_with field term rows ++ renumbered numbers (hits_under (field ∷ term) (take place es)))

pub joined_none : (old : Terms) (es : List Entry) (numbers : List (Option ℕ)) → HasJoined old.entries old es 0 numbers
joined_none old es numbers rows g field term kind = g.at field term kind ∙ ap some_hits (sym (append-nil (rows_with field term rows)))

some_more : (had : List Hit) (h : Hit) (hs : List Hit) → Some (had ++ h ∷ hs) ≡ some_hits (had ++ h ∷ hs)
some_more [] h hs = refl
some_more (x ∷ had) h hs = refl

added_here : (old new : Terms) (q : List ℕ) (had more : List Hit) → AddsHitsTo old new q more → get (slice_cmp nat_cmp) old q ≡ some_hits had → get (slice_cmp nat_cmp) new q ≡ some_hits (had ++ more)
added_here old new q had [] same before = ap (λ (m : Terms). get (slice_cmp nat_cmp) m q) same ∙ before ∙ ap some_hits (sym (append-nil had))
added_here old new q had (h ∷ hs) u before = u.1 ∙ ap (λ (o : Option (List Hit)). Some (unwrap_or o [] ++ h ∷ hs)) before ∙ ap (λ (gs : List Hit). Some (gs ++ h ∷ hs)) (hits_back had) ∙ some_more had h hs

added_elsewhere : (old new : Terms) (heading q : List ℕ) (more : List Hit) → bytes_eq heading q ≡ false → AddsHitsTo old new heading more → get (slice_cmp nat_cmp) new q ≡ get (slice_cmp nat_cmp) old q
added_elsewhere old new heading q [] other same = ap (λ (m : Terms). get (slice_cmp nat_cmp) m q) same
added_elsewhere old new heading q (h ∷ hs) other u = u.2 q (apart heading q other)

under_more : (q : List ℕ) (es : List Entry) (place : ℕ) → place < length es → hits_under q (take (place + 1) es) ≡ hits_under q (take place es) ++ hits_if q (at_place es place)
under_more q es place lt =
    ap (hits_under q) (take_more es place no_entry lt) ∙ flat_map-append (hits_if q) (take place es) (at_place es place ∷ [])
    ∙ ap (λ (hs : List Hit). hits_under q (take place es) ++ hs) (flat_map-cons (hits_if q) (at_place es place) [] ∙ append-nil (hits_if q (at_place es place)))

pub joined_more : (old : FoundTerms) (now new : Terms) (es : List Entry) (place : ℕ) (numbers : List (Option ℕ)) → place < length es → HasJoined old now es place numbers
    → AddsHitsTo now new (heading_of (at_place es place)) (renumbered numbers (hits_of (at_place es place))) → HasJoined old new es (place + 1) numbers
joined_more old now new es place numbers lt so_far adds rows g field term kind =
    by (bytes_eq (heading_of e) q) refl
  where
    e : Entry
    e = at_place es place

    q : List ℕ
    q = field ∷ term

    had : List Hit
    had = rows_with field term rows ++ renumbered numbers (hits_under q (take place es))

    split : (hs : List Hit) → hits_if q e ≡ hs → had ++ renumbered numbers hs ≡ rows_with field term rows ++ renumbered numbers (hits_under q (take (place + 1) es))
    split hs is =
        append_assoc (rows_with field term rows) (renumbered numbers (hits_under q (take place es))) (renumbered numbers hs)
        ∙ ap (λ (gs : List Hit). rows_with field term rows ++ gs) (sym (renumbered-append numbers (hits_under q (take place es)) hs))
        ∙ ap (λ (gs : List Hit). rows_with field term rows ++ renumbered numbers (hits_under q (take place es) ++ gs)) (sym is)
        ∙ ap (λ (gs : List Hit). rows_with field term rows ++ renumbered numbers gs) (sym (under_more q es place lt))

    by : (b : Bool) → bytes_eq (heading_of e) q ≡ b → get (slice_cmp nat_cmp) new q ≡ some_hits (rows_with field term rows ++ renumbered numbers (hits_under q (take (place + 1) es)))
    by true t =
        let here = (bytes_decides (heading_of e) q).0 t in
        added_here now new q had (renumbered numbers (hits_of e)) (subst (λ (x : List ℕ). AddsHitsTo now new x (renumbered numbers (hits_of e))) here adds) (so_far rows g field term kind)
        ∙ ap some_hits (split (hits_of e) (if_same q e here))
    by false t =
        added_elsewhere now new (heading_of e) q (renumbered numbers (hits_of e)) t adds ∙ so_far rows g field term kind
        ∙ ap some_hits (sym (append-nil had) ∙ split [] (if_other q e t))

pub joined_all : (old : FoundTerms) (new : Terms) (es : List Entry) (place : ℕ) (numbers : List (Option ℕ)) → length es ≤ place → AllPairs IsBefore es → HasJoined old new es place numbers → JoinsEntries old new.entries es numbers
joined_all old new es place numbers end ascend all rows more live g are long is = record {
  at = λ field term kind.
      all rows g field term kind
      ∙ ap some_hits (ap (λ (xs : List Entry). rows_with field term rows ++ renumbered numbers (hits_under (field ∷ term) xs)) (take_all place es end)
      ∙ ap (λ (hs : List Hit). rows_with field term rows ++ renumbered numbers hs) (under_rows more es field term kind are ascend)
      ∙ sym (rows_with_joined field term rows more live numbers long is));
}
