-- The entries that rows have speak of each row: the greatest row in them is the last one.
use Rattle.std.proofs.Common.{◌≡◌, ℕ, ◌+◌, ◌-◌, ◌<◌, Bool, true, false, cond, ◌||◌, List, [], ◌∷◌, ◌++◌, length, get_or, take, refl, sym, ap, subst, ◌∙◌, arith}
use Rattle.std.specs.List.{All, Any, list_any}
use Rattle.std.specs.Str.{bytes_eq}
use Rattle.std.specs.Cmp.Lexicographic.{bytes_decides}
use Rattle.std.proofs.Math.Bool.{or-true}
use Rattle.std.proofs.Math.Seq.{get_or-append_seam}
use Rattle.std.proofs.lemmas.List.{length-append, get_or_default, take_more, take_all}
use Rattle.std.proofs.lemmas.List.Folds.{list_any-append}
use Rattle.postings_plain.specs.declared.row.TermRow.{TermRow}
use Rattle.postings_plain.specs.Postings.{Hit, row_of, Entry, field_of, term_of, hits_of}
use Rattle.postings_plain.specs.Body.{HasEntry, IsRowCount}
use Rattle.postings_plain.specs.Inverting.{has_term, rows_with, HaveEntry, AreEntriesOf}
use Rattle.postings_plain.proofs.GatheringLaws.{rows_with_more, rows_with_below}

-- ---- no hit is of a row past the last

hits_below : (rows : List TermRow) (e : Entry) → HaveEntry rows (field_of e) (term_of e) (hits_of e) → All (λ (h : Hit). row_of h < length rows) (hits_of e)
hits_below rows e have = subst (All (λ (h : Hit). row_of h < length rows)) (sym have.hits_are) (rows_with_below (field_of e) (term_of e) rows (length rows) refl)

all_below : (rows : List TermRow) (es : List Entry) → AreEntriesOf rows es → All (λ (e : Entry). All (λ (h : Hit). row_of h < length rows) (hits_of e)) es
all_below rows es are i d lt =
    let e : Entry = get_or es i d in
    let there : HasEntry es (field_of e) (term_of e) (hits_of e) = (i, lt, get_or_default es i e d lt) in
    hits_below rows e ((are (field_of e) (term_of e) (hits_of e)).0 there)

-- ---- the last row's key has a hit of it

abbrev Reaches : List Entry → ℕ → Type 0
Reaches es n = Any (λ (e : Entry). Any (λ (h : Hit). row_of h + 1 ≡ n) (hits_of e)) es

is_itself : (key : List ℕ) → bytes_eq key key ≡ true
is_itself key = (bytes_decides key key).1 refl

last_hit : (front : List TermRow) (row : TermRow) → rows_with 0 row.key (front ++ row ∷ []) ≡ rows_with 0 row.key front ++ (length front, []) ∷ []
last_hit front row =
    rows_with_more 0 row.key front row (length front) refl ∙ ap (λ (b : Bool). rows_with 0 row.key front ++ cond b ((length front, []) ∷ []) []) (is_itself row.key)

has_key : (front : List TermRow) (row : TermRow) → list_any (has_term 0 row.key) (front ++ row ∷ []) ≡ true
has_key front row =
    list_any-append (has_term 0 row.key) front (row ∷ []) ∙ ap (λ (b : Bool). list_any (has_term 0 row.key) front || (b || false)) (is_itself row.key) ∙ or-true (list_any (has_term 0 row.key) front)

last_of : (hs : List Hit) (h : Hit) (n : ℕ) → row_of h + 1 ≡ n → Any (λ (g : Hit). row_of g + 1 ≡ n) (hs ++ h ∷ [])
last_of hs h n e = (length hs, h, omega (arith, length-append hs (h ∷ [])), get_or-append_seam hs h [] h, e)

reached : (front : List TermRow) (row : TermRow) (es : List Entry) → AreEntriesOf (front ++ row ∷ []) es → Reaches es (length (front ++ row ∷ []))
reached front row es are =
    let hits = rows_with 0 row.key (front ++ row ∷ []) in
    let there : HasEntry es 0 row.key hits = (are 0 row.key hits).1 (record { kind = omega arith; some = has_key front row; hits_are = refl }) in
    let n = length (front ++ row ∷ []) in
    let last : Any (λ (h : Hit). row_of h + 1 ≡ n) hits =
    subst (Any (λ (h : Hit). row_of h + 1 ≡ n)) (sym (last_hit front row)) (last_of (rows_with 0 row.key front) (length front, []) n (omega (arith, length-append front (row ∷ [])))) in
    (there.0, (0, (row.key, hits)), there.1, there.2, last)

split : (rows front : List TermRow) (row : TermRow) (es : List Entry) → rows ≡ front ++ row ∷ [] → AreEntriesOf rows es → Reaches es (length rows)
split rows front row es e = subst (λ (rs : List TermRow). AreEntriesOf rs es → Reaches es (length rs)) (sym e) (reached front row es)

no_row : TermRow
no_row = record { key = []; words = [] }

-- the number of rows in the entries is that of the rows
pub row_count_of : (rows : List TermRow) (es : List Entry) → 0 < length rows → AreEntriesOf rows es → IsRowCount es (length rows)
row_count_of rows es some are =
    let m = length rows - 1 in
    let last : m < length rows = omega arith in
    let whole : rows ≡ take m rows ++ get_or rows m no_row ∷ [] = sym (take_all (m + 1) rows (omega arith)) ∙ take_more rows m no_row last in
    record { below = all_below rows es are; greatest = split rows (take m rows) (get_or rows m no_row) es whole are }
