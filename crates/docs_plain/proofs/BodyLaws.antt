-- Which bytes are the body of documents.
use Rattle.std.proofs.Common.{◌≡◌, ℕ, zero, suc, ◌+◌, ◌<◌, List, [], ◌∷◌, length, get_or, map, refl, sym, ap, subst, ◌∙◌, inl, inr, arith}
use Rattle.std.specs.Prelude.{IfSome, slice_get}
use Rattle.std.specs.List.{All}
use Rattle.std.proofs.lemmas.Bool.{cases_lt}
use Rattle.std.proofs.lemmas.List.{length-map}
use Rattle.nrt_base.proofs.Plain.{cons_from}
use Rattle.nrt_base.specs.declared.doc.Doc.{Doc}
use Rattle.body_forms.specs.ItemTable.{IsItemTable, items_in}
use Rattle.body_forms.proofs.TableTests.{items_in-is}
use Rattle.docs_plain.specs.Documents.{row, IsRow, SpellsDocuments}
use Rattle.docs_plain.specs.Rows.{doc_in, docs_in, IsRowOfSome}
use Rattle.docs_plain.proofs.RowLaws.{doc_in-is}

docs_back : (docs : List Doc) → All IsRow docs → map doc_in (map row docs) ≡ docs
docs_back [] h = refl
docs_back (doc ∷ docs) h = cons_from _ _ _ _ (doc_in-is (row doc) doc (h 0 doc (omega arith)) refl) (docs_back docs (λ k d lt. h (suc k) d (omega arith)))

-- a body is read as the documents that it spells
pub docs_in-is : (body : List ℕ) (docs : List Doc) → SpellsDocuments body docs → docs_in body ≡ docs
unfolding docs_in
docs_in-is body docs s = ap (map doc_in) (items_in-is body (map row docs) s.table) ∙ docs_back docs s.fit

pub reads_as_itself : (body : List ℕ) (docs : List Doc) → SpellsDocuments body docs → SpellsDocuments body (docs_in body)
reads_as_itself body docs s = subst (SpellsDocuments body) (sym (docs_in-is body docs s)) s

pub one_list : (body : List ℕ) (docs others : List Doc) → SpellsDocuments body docs → SpellsDocuments body others → docs ≡ others
one_list body docs others s t = sym (docs_in-is body docs s) ∙ docs_in-is body others t

pub one_body : (a b : List ℕ) (docs : List Doc) → SpellsDocuments a docs → SpellsDocuments b docs → a ≡ b
one_body a b docs s t = s.table.whole ∙ sym t.table.whole

-- the rows at the first n places of a table
abbrev pub AreRowsBelow : List ℕ → ℕ → Type 0
AreRowsBelow body n = (i : ℕ) → i < n → IsRowOfSome (get_or (items_in body) i [])

pub rows_more : (body : List ℕ) (n : ℕ) (item : List ℕ) → AreRowsBelow body n → item ≡ get_or (items_in body) n [] → IsRowOfSome item → AreRowsBelow body (n + 1)
rows_more body n item so_far same here i h =
    elim (cases_lt i n) [
      | inl lt ↦ so_far i lt
      | inr ge ↦ let k : n ≡ i = omega arith in subst (λ (j : ℕ). IsRowOfSome (get_or (items_in body) j [])) k (subst IsRowOfSome same here)
    ]

spelled_back : (items : List (List ℕ)) → ((i : ℕ) → i < length items → IsRowOfSome (get_or items i [])) → map row (map doc_in items) ≡ items
spelled_back [] h = refl
spelled_back (item ∷ items) h =
    let f = h 0 (omega arith) in
    cons_from _ _ _ _ (ap row (doc_in-is item f.0 f.1 f.2) ∙ sym f.2) (spelled_back items (λ i g. h (suc i) (omega arith)))

rows_fit : (items : List (List ℕ)) → ((i : ℕ) → i < length items → IsRowOfSome (get_or items i [])) → All IsRow (map doc_in items)
rows_fit [] h k d lt = absurd (omega arith)
rows_fit (item ∷ items) h zero d lt = let f = h 0 (omega arith) in subst IsRow (sym (doc_in-is item f.0 f.1 f.2)) f.1
rows_fit (item ∷ items) h (suc k) d lt = rows_fit items (λ i g. h (suc i) (omega arith)) k d (omega arith)

pub is_body : (body : List ℕ) (n : ℕ) → IsItemTable body (items_in body) → n ≡ length (items_in body) → 0 < n → AreRowsBelow body n → SpellsDocuments body (docs_in body)
unfolding docs_in
is_body body n t e pos rows =
    let all : (i : ℕ) → i < length (items_in body) → IsRowOfSome (get_or (items_in body) i []) = λ i h. rows i (omega arith) in
    record {
      some = omega (arith, length-map (items_in body) doc_in);
      fit = rows_fit (items_in body) all;
      table = subst (IsItemTable body) (sym (spelled_back (items_in body) all)) t;
    }

abbrev pub IsBody : List ℕ → Type 0
IsBody body = (docs : List Doc) × SpellsDocuments body docs

pub own_items : (body : List ℕ) → (items : List (List ℕ)) × IsItemTable body items → IsItemTable body (items_in body)
own_items body x = subst (IsItemTable body) (sym (items_in-is body x.0 x.1)) x.1

row_at : (docs : List Doc) (i : ℕ) → i < length docs → All IsRow docs → IsRowOfSome (get_or (map row docs) i [])
row_at [] i h all = absurd (omega arith)
row_at (doc ∷ docs) zero h all = (doc, all 0 doc (omega arith), refl)
row_at (doc ∷ docs) (suc i) h all = row_at docs i (omega arith) (λ k d lt. all (suc k) d (omega arith))

pub row_in : (body : List ℕ) (x : IsBody body) (i : ℕ) → i < length (items_in body) → IsRowOfSome (get_or (items_in body) i [])
row_in body x i h =
    let same = items_in-is body (map row x.0) x.1.table in
    subst (λ (items : List (List ℕ)). IsRowOfSome (get_or items i [])) (sym same) (row_at x.0 i (omega (arith, ap length same, length-map x.0 row)) x.1.fit)

pub some_in : (body : List ℕ) → IsBody body → 0 < length (items_in body)
some_in body x = omega (arith, ap length (items_in-is body (map row x.0) x.1.table), length-map x.0 row, x.1.some)

-- ---- the rows of a body

pub item_row : (body : List ℕ) (docs : List Doc) (i : ℕ) (item : List ℕ) → SpellsDocuments body docs → i < length docs → item ≡ get_or (map row docs) i [] → IsRowOfSome item
item_row body docs i item s h e = subst IsRowOfSome (sym e) (row_at docs i h s.fit)

pub item_place : (body : List ℕ) (docs : List Doc) (i : ℕ) → SpellsDocuments body docs → i < length docs → i < length (map row docs)
item_place body docs i s h = omega (arith, length-map docs row)

-- what is known of the parts of every document's row is known of the one at i
pub at_row : (docs : List Doc) (P : Doc → Type 0) (i : ℕ) (item : List ℕ) → All IsRow docs → i < length docs → item ≡ get_or (map row docs) i []
    → ((doc : Doc) → IsRow doc → item ≡ row doc → P doc) → IfSome (slice_get docs i) P
at_row [] P i item all h e each = absurd (omega arith)
at_row (doc ∷ docs) P zero item all h e each = each doc (all 0 doc (omega arith)) e
at_row (doc ∷ docs) P (suc i) item all h e each = at_row docs P i item (λ k d lt. all (suc k) d (omega arith)) (omega arith) e each
