-- What is found of rows makes the entries of the rows.
use Rattle.std.proofs.Common.{◌≡◌, ℕ, zero, suc, ◌+◌, ◌^◌, ◌<◌, ◌≤◌, Bool, true, false, cond, ◌||◌, List, [], ◌∷◌, ◌++◌, length, get_or, map, Option, Some, Bor, refl, sym, ap, subst, ◌∙◌, arith}
use Rattle.std.specs.Prelude.{IsTrue}
use Rattle.std.specs.List.{filter, list_any, enumerate_from, All, AllPairs}
use Rattle.std.specs.Str.{bytes_eq}
use Rattle.std.specs.Ordering.{nat_cmp}
use Rattle.std.specs.Cmp.Lexicographic.{slice_cmp, bytes_decides, nat_list_cmp_total}
use Rattle.std.specs.Map.{keys_of}
use Rattle.std.specs.BTreeMap.{BTreeMap, get, IsOrdered, is_at}
use Rattle.std.proofs.lemmas.List.{length-map, map-append, get_or-map}
use Rattle.std.proofs.lemmas.List.Elements.{All-head, All-tail, All-map, All-push, All-weaker, All-get_or}
use Rattle.std.proofs.lemmas.Option.{get_or_from_slice_get, slice_get-get_or, slice_get_within}
use Rattle.std.proofs.lemmas.Map.Text.{is_eq-slice_cmp}
use Rattle.std.specs.Iterator.{Yields}
use Rattle.std.specs.Map.Iter.{TakesFirst, deref_pair}
use Rattle.std.proofs.lemmas.Map.Iter.{btree_map_turn}
use Rattle.std.proofs.lemmas.Map.Keys.{Less-from_sorted}
use Rattle.std.proofs.lemmas.Map.Entries.{place_from_lookup, btree_map_get_place}
use Rattle.body_forms.specs.Format.{ChainFits}
use Rattle.body_forms.specs.Numbers.{u32_bytes, MayCome, above}
use Rattle.body_forms.specs.ItemTable.{IsItemTable}
use Rattle.body_forms.specs.TableParts.{ArePartsOf}
use Rattle.body_forms.proofs.WritingTables.{parts_more}
use Rattle.postings_plain.specs.declared.format.Format.{Format}
use Rattle.postings_plain.specs.declared.row.TermRow.{TermRow}
use Rattle.postings_plain.specs.Postings.{Hit, Entry, field_of, hits_of, entry, IsFileEntry, HitFits, HitsFit, PositionsFit, above_hit}
use Rattle.postings_plain.specs.Body.{heading_of, heading_order, IsBefore, HasEntry, SpellsPostings}
use Rattle.postings_plain.specs.Inverting.{has_term, term_positions, rows_with, HaveEntry, AreEntriesOf}
use Rattle.postings_plain.specs.Gathering.{Gathers, AreFew, some_hits}
use Rattle.postings_plain.proofs.GatheringLaws.{picked, picked_none}

-- ---- how many items are picked

le_pick : {X Y : Type 0} (b : Bool) (make : ℕ × X → Y) (z : ℕ × X) (rest : List (ℕ × X)) (n : ℕ) → length (map make rest) ≤ n → length (map make (cond b (z ∷ rest) rest)) ≤ n + 1
le_pick true make z rest n le = omega arith
le_pick false make z rest n le = omega arith

pub length-picked-le : {X Y : Type 0} (test : X → Bool) (make : ℕ × X → Y) (n : ℕ) (xs : List X) → length (picked test make n xs) ≤ length xs
length-picked-le test make n [] = omega arith
length-picked-le {X} test make n (x ∷ xs) =
    let le = le_pick (test x) make (n, x) (filter (λ (v : ℕ × X). test v.1) (enumerate_from (n + 1) xs)) (length xs) (length-picked-le test make (n + 1) xs) in
    omega (arith, le)

some_pick : {X Y : Type 0} (b c : Bool) (make : ℕ × X → Y) (z : ℕ × X) (rest : List (ℕ × X)) → (b || c) ≡ true → (c ≡ true → 0 < length (map make rest)) → 0 < length (map make (cond b (z ∷ rest) rest))
some_pick true c make z rest e later = omega arith
some_pick false c make z rest e later = later e

pub some_picked : {X Y : Type 0} (test : X → Bool) (make : ℕ × X → Y) (n : ℕ) (xs : List X) → list_any test xs ≡ true → 0 < length (picked test make n xs)
some_picked test make n [] e = absurd cc
some_picked {X} test make n (x ∷ xs) e =
    some_pick (test x) (list_any test xs) make (n, x) (filter (λ (v : ℕ × X). test v.1) (enumerate_from (n + 1) xs)) e (λ later. some_picked test make (n + 1) xs later)

by_cases : {X Y : Type 0} (test : X → Bool) (make : ℕ × X → Y) (n : ℕ) (xs : List X) (b : Bool) → list_any test xs ≡ b → 0 < length (picked test make n xs) → b ≡ true
by_cases test make n xs true e pos = refl
by_cases test make n xs false e pos = absurd (omega (arith, ap length (picked_none test make n xs e)))

pub any_from_picked : {X Y : Type 0} (test : X → Bool) (make : ℕ × X → Y) (n : ℕ) (xs : List X) → 0 < length (picked test make n xs) → list_any test xs ≡ true
any_from_picked test make n xs pos = by_cases test make n xs (list_any test xs) refl pos

-- ---- the hits of a term can be written

chain_pick : {X Y : Type 0} (Fits : ℕ → Y → Type 0) (next : Y → ℕ) (b : Bool) (make : ℕ × X → Y) (z : ℕ × X) (rest : List (ℕ × X)) (k : ℕ)
    → (b ≡ true → Fits k (make z) × ChainFits Fits next (next (make z)) (map make rest)) → ChainFits Fits next k (map make rest) → ChainFits Fits next k (map make (cond b (z ∷ rest) rest))
chain_pick Fits next true make z rest k here later = here refl
chain_pick Fits next false make z rest k here later = later

positions_ascend : (word : List ℕ) (k n : ℕ) (words : List (List ℕ)) → k ≤ n → n + length words ≤ 2 ^ 32 → ChainFits MayCome above k (picked (λ (w : List ℕ). bytes_eq w word) (λ (x : ℕ × List ℕ). x.0) n words)
positions_ascend word k n [] le few = tt
positions_ascend word k n (w ∷ words) le few =
    chain_pick MayCome above (bytes_eq w word) (λ (x : ℕ × List ℕ). x.0) (n, w) (filter (λ (v : ℕ × List ℕ). bytes_eq v.1 word) (enumerate_from (n + 1) words)) k
    (λ _. ((le, omega arith), positions_ascend word (n + 1) (n + 1) words (omega arith) (omega arith))) (positions_ascend word k (n + 1) words (omega arith) (omega arith))

positions_fit : (field : ℕ) (term : List ℕ) (row : TermRow) → length row.words < 2 ^ 32 → has_term field term row ≡ true → PositionsFit field (term_positions field term row)
positions_fit zero term row few e = refl
positions_fit (suc field) term row few e = (
  (
    some_picked (λ (w : List ℕ). bytes_eq w term) (λ (x : ℕ × List ℕ). x.0) 0 row.words e,
    omega (arith, length-picked-le (λ (w : List ℕ). bytes_eq w term) (λ (x : ℕ × List ℕ). x.0) 0 row.words, few),
  ),
  positions_ascend term 0 0 row.words (omega arith) (omega (arith, few)),
)

rows_chain : (field : ℕ) (term : List ℕ) (k n : ℕ) (rows : List TermRow) → k ≤ n → n + length rows ≤ 2 ^ 32 → All (λ (row : TermRow). length row.words < 2 ^ 32) rows
    → ChainFits (HitFits field) above_hit k (picked (has_term field term) (λ (x : ℕ × TermRow). (x.0, term_positions field term x.1)) n rows)
rows_chain field term k n [] le few words = tt
rows_chain field term k n (row ∷ rows) le few words =
    let later = All-tail (λ (row : TermRow). length row.words < 2 ^ 32) row rows words in
    chain_pick (HitFits field) above_hit (has_term field term row) (λ (x : ℕ × TermRow). (x.0, term_positions field term x.1)) (n, row) (filter (λ (v : ℕ × TermRow). has_term field term v.1) (enumerate_from (n + 1) rows)) k
    (λ e. (((le, omega arith), positions_fit field term row (All-head (λ (row : TermRow). length row.words < 2 ^ 32) row rows words) e), rows_chain field term (n + 1) (n + 1) rows (omega arith) (omega arith) later))
    (rows_chain field term k (n + 1) rows (omega arith) (omega arith) later)

pub hits_fit : (field : ℕ) (term : List ℕ) (rows : List TermRow) → AreFew rows → 0 < length (rows_with field term rows) → HitsFit field (rows_with field term rows)
hits_fit field term rows few pos = (
  (pos, omega (arith, length-picked-le {Y = Hit} (has_term field term) (λ (x : ℕ × TermRow). (x.0, term_positions field term x.1)) 0 rows, few.rows_few)),
  rows_chain field term 0 0 rows (omega arith) (omega (arith, few.rows_few)) few.words_few,
)

abbrev Found : Type 0
Found = BTreeMap (List ℕ) (List Hit)

-- hits that are found are some
hits_known : (hs hits : List Hit) → some_hits hs ≡ Some hits → (hs ≡ hits) × (0 < length hs)
hits_known [] hits e = absurd cc
hits_known (h ∷ hs) hits e = (cc, omega arith)

found_hits : (found : Found) (rows : List TermRow) (field : ℕ) (term : List ℕ) (hits : List Hit) → Gathers found.entries rows → field < 2 → get (slice_cmp nat_cmp) found (field ∷ term) ≡ Some hits
    → (rows_with field term rows ≡ hits) × (0 < length (rows_with field term rows))
found_hits found rows field term hits g lt e = hits_known (rows_with field term rows) hits (sym (g.at field term lt) ∙ e)

pub entry_fits : (found : Found) (rows : List TermRow) (heading : List ℕ) (field : ℕ) (term : List ℕ) (hits : List Hit) → Gathers found.entries rows → AreFew rows → get (slice_cmp nat_cmp) found heading ≡ Some hits
    → heading ≡ field ∷ term → field < 2 → HitsFit field hits
entry_fits found rows heading field term hits g few e both lt =
    let k = found_hits found rows field term hits g lt (ap (get (slice_cmp nat_cmp) found) (sym both) ∙ e) in
    subst (HitsFit field) k.0 (hits_fit field term rows few k.1)

-- the same at a turn of a walk over all that is found
pub turn_fits : (xs : List (Bor (List ℕ) × Bor (List Hit))) (s t u : List (List ℕ × List Hit)) (r : Option (Bor (List ℕ) × Bor (List Hit))) (heading : Bor (List ℕ)) (hits : Bor (List Hit)) → Yields (TakesFirst deref_pair) s xs t → r ≡ Some (heading, hits) → TakesFirst deref_pair t r u
    → (found : Found) → s ≡ found.entries → IsOrdered (slice_cmp nat_cmp) found → (rows : List TermRow) → Gathers found.entries rows → AreFew rows
    → (field : ℕ) (term : List ℕ) → heading.now ≡ field ∷ term → field < 2 → HitsFit field hits.now
turn_fits xs s t u r heading hits y is step found start ordered rows g few field term both lt =
    let turn = btree_map_turn deref_pair xs s t u r (heading, hits) y is step nat_list_cmp_total found start ordered in
    entry_fits found rows heading.now field term hits.now g few turn.1 both lt

-- ---- what has been written

-- the entry of what is found under a heading
abbrev pub entry_with : List ℕ → List Hit → Entry
entry_with [] hits = (0, ([], hits))
entry_with (field ∷ term) hits = (field, (term, hits))

-- the entries of all that is found
abbrev pub entries_with : List (List ℕ × List Hit) → List Entry
entries_with found = map (λ x. entry_with x.0 x.1) found

-- what is found under a heading makes an entry with that heading, and the entry can be written
pub record MakesEntry (format : Format) (found : List ℕ × List Hit) : Type 0 where
  pub heading : heading_of (entry_with found.0 found.1) ≡ found.0
  pub fits : IsFileEntry format (entry_with found.0 found.1)

-- the offsets and the area are those of the entries of what is found
pub record HasEntries (format : Format) (found : List (List ℕ × List Hit)) (offsets area : List ℕ) : Type 0 where
  pub parts : ArePartsOf (map (entry format) (entries_with found)) offsets area
  pub make : All (MakesEntry format) found

one_entry : (heading : List ℕ) (field : ℕ) (term : List ℕ) (hits : List Hit) → heading ≡ field ∷ term → entry_with heading hits ≡ (field, (term, hits))
one_entry heading field term hits e = ap (λ (h : List ℕ). entry_with h hits) e

pub entries_more : (format : Format) (found : List (List ℕ × List Hit)) (heading : List ℕ) (field : ℕ) (term : List ℕ) (hits : List Hit) (offsets area more_offsets more_area : List ℕ) → HasEntries format found offsets area → heading ≡ field ∷ term
    → IsFileEntry format (field, (term, hits)) → more_area ≡ area ++ entry format (field, (term, hits)) → length more_area < 2 ^ 32 → more_offsets ≡ offsets ++ u32_bytes (length more_area) → HasEntries format (found ++ (heading, hits) ∷ []) more_offsets more_area
entries_more format found heading field term hits offsets area more_offsets more_area has both fits e small f =
    let same = one_entry heading field term hits both in
    let items : map (entry format) (entries_with (found ++ (heading, hits) ∷ [])) ≡ map (entry format) (entries_with found) ++ entry format (field, (term, hits)) ∷ [] =
    ap (map (entry format)) (map-append (λ (x : List ℕ × List Hit). entry_with x.0 x.1) found ((heading, hits) ∷ [])) ∙ map-append (entry format) (entries_with found) (entry_with heading hits ∷ [])
    ∙ ap (λ (x : Entry). map (entry format) (entries_with found) ++ entry format x ∷ []) same in
    record {
      parts = subst (λ (x : List (List ℕ)). ArePartsOf x more_offsets more_area) (sym items) (parts_more (map (entry format) (entries_with found)) (entry format (field, (term, hits))) offsets area more_offsets more_area has.parts e small f);
      make = All-push (MakesEntry format) found (heading, hits) has.make (record { heading = ap heading_of same ∙ sym both; fits = subst (IsFileEntry format) (sym same) fits });
    }

-- ---- all that is found

hits_with : (heading : List ℕ) (hits : List Hit) → hits_of (entry_with heading hits) ≡ hits
hits_with [] hits = refl
hits_with (field ∷ term) hits = refl

abbrev at_key : Found → ℕ → List ℕ × List Hit
at_key found i = get_or found.entries i ([], [])

entry_at_key : (found : Found) (i : ℕ) (d : Entry) → i < length found.entries → get_or (entries_with found.entries) i d ≡ entry_with (at_key found i).0 (at_key found i).1
entry_at_key found i d lt = get_or-map (λ (x : List ℕ × List Hit). entry_with x.0 x.1) found.entries i ([], []) d lt

pub length-entries : (found : Found) → length (entries_with found.entries) ≡ length found.entries
length-entries found = length-map found.entries (λ (x : List ℕ × List Hit). entry_with x.0 x.1)

entry_is_had : (format : Format) (found : Found) (rows : List TermRow) → IsOrdered (slice_cmp nat_cmp) found → Gathers found.entries rows → All (MakesEntry format) found.entries → (field : ℕ) (term : List ℕ) (hits : List Hit)
    → HasEntry (entries_with found.entries) field term hits → HaveEntry rows field term hits
entry_is_had format found rows ordered g make field term hits has =
    let i = has.0 in
    let lt : i < length found.entries = omega (arith, has.1, length-entries found) in
    let x = at_key found i in
    let is : entry_with x.0 x.1 ≡ (field, (term, hits)) = sym (entry_at_key found i (field, (term, hits)) lt) ∙ has.2 in
    let m = All-get_or (MakesEntry format) found.entries i ([], []) lt make in
    let heading : x.0 ≡ field ∷ term = sym m.heading ∙ ap heading_of is in
    let same : x.1 ≡ hits = sym (hits_with x.0 x.1) ∙ ap hits_of is in
    let lookup : get (slice_cmp nat_cmp) found x.0 ≡ Some x.1 = btree_map_get_place nat_list_cmp_total found i x.0 x.1 ordered (slice_get-get_or found.entries i ([], []) lt) in
    let kind : field < 2 = subst (λ (e : Entry). field_of e < 2) is m.fits.kind in
    let k = found_hits found rows field term hits g kind (ap (get (slice_cmp nat_cmp) found) (sym heading) ∙ lookup ∙ ap (λ (hs : List Hit). Some hs) same) in
    record { kind = kind; some = any_from_picked (has_term field term) (λ (x : ℕ × TermRow). (x.0, term_positions field term x.1)) 0 rows k.1; hits_are = sym k.0 }

some_known : (hs : List Hit) → 0 < length hs → some_hits hs ≡ Some hs
some_known [] pos = absurd (omega arith)
some_known (h ∷ hs) pos = refl

entry_is_there : (found : Found) (rows : List TermRow) → Gathers found.entries rows → (field : ℕ) (term : List ℕ) (hits : List Hit) → HaveEntry rows field term hits → HasEntry (entries_with found.entries) field term hits
entry_is_there found rows g field term hits have =
    let pos = some_picked (has_term field term) (λ (x : ℕ × TermRow). (x.0, term_positions field term x.1)) 0 rows have.some in
    let lookup : get (slice_cmp nat_cmp) found (field ∷ term) ≡ Some (rows_with field term rows) = g.at field term have.kind ∙ some_known (rows_with field term rows) pos in
    let p = place_from_lookup (is_at (slice_cmp nat_cmp (field ∷ term))) found.entries (rows_with field term rows) lookup in
    let i = p.0 in
    let key : field ∷ term ≡ p.1 = (bytes_decides (field ∷ term) p.1).0 (sym (is_eq-slice_cmp (field ∷ term) p.1) ∙ p.3) in
    let lt : i < length found.entries = slice_get_within found.entries i (p.1, rows_with field term rows) p.2 in
    let here : at_key found i ≡ (p.1, rows_with field term rows) = get_or_from_slice_get found.entries i (p.1, rows_with field term rows) ([], []) p.2 in
    let is : get_or (entries_with found.entries) i (field, (term, hits)) ≡ (field, (term, hits)) =
    entry_at_key found i (field, (term, hits)) lt ∙ ap (λ (x : List ℕ × List Hit). entry_with x.0 x.1) here ∙ ap (λ (h : List ℕ). entry_with h (rows_with field term rows)) (sym key) ∙ ap (λ (hs : List Hit). (field, (term, hs))) (sym have.hits_are) in
    (i, omega (arith, lt, length-entries found), is)

pub entries_are : (format : Format) (found : Found) (rows : List TermRow) → IsOrdered (slice_cmp nat_cmp) found → Gathers found.entries rows → All (MakesEntry format) found.entries → AreEntriesOf rows (entries_with found.entries)
entries_are format found rows ordered g make = λ field term hits. (entry_is_had format found rows ordered g make field term hits, entry_is_there found rows g field term hits)

first_key : (rows : List TermRow) → 0 < length rows → (key : List ℕ) × IsTrue (list_any (has_term 0 key) rows)
first_key [] pos = absurd (omega arith)
first_key (row ∷ rows) pos = (row.key, ap (λ b. b || list_any (has_term 0 row.key) rows) ((bytes_decides row.key row.key).1 refl))

ascending : (format : Format) (found : Found) → IsOrdered (slice_cmp nat_cmp) found → All (MakesEntry format) found.entries → AllPairs IsBefore (entries_with found.entries)
ascending format found ordered make i j d lt small =
    let b : j < length found.entries = omega (arith, small, length-entries found) in
    let a : i < length found.entries = omega arith in
    let key : (k : ℕ) → k < length found.entries → heading_of (get_or (entries_with found.entries) k d) ≡ get_or (keys_of found.entries) k [] =
    λ k below. ap heading_of (entry_at_key found k d below) ∙ (All-get_or (MakesEntry format) found.entries k ([], []) below make).heading ∙ sym (get_or-map (λ (e : List ℕ × List Hit). e.0) found.entries k ([], []) [] below) in
    let less = Less-from_sorted (slice_cmp nat_cmp) (keys_of found.entries) i j [] ordered lt (omega (arith, b, length-map found.entries (λ (e : List ℕ × List Hit). e.0))) in
    ap (λ (h : List ℕ). heading_order h (heading_of (get_or (entries_with found.entries) j d))) (key i a) ∙ ap (λ (h : List ℕ). heading_order (get_or (keys_of found.entries) i []) h) (key j b) ∙ less

pub spelled : (format : Format) (found : Found) (rows : List TermRow) (body : List ℕ) → IsOrdered (slice_cmp nat_cmp) found → Gathers found.entries rows → All (MakesEntry format) found.entries → 0 < length rows
    → IsItemTable body (map (entry format) (entries_with found.entries)) → SpellsPostings format body (entries_with found.entries)
spelled format found rows body ordered g make pos table =
    let first = first_key rows pos in
    let there = entry_is_there found rows g 0 first.0 (rows_with 0 first.0 rows) (record { kind = omega arith; some = first.1; hits_are = refl }) in
    record {
      some = omega (arith, there.1);
      fit = All-map (IsFileEntry format) (λ (x : List ℕ × List Hit). entry_with x.0 x.1) found.entries (All-weaker (MakesEntry format) (λ (x : List ℕ × List Hit). IsFileEntry format (entry_with x.0 x.1)) (λ x m. m.fits) found.entries make);
      ascend = ascending format found ordered make;
      table = table;
    }
