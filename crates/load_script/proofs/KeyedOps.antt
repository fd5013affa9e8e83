-- Puts and deletes leave for each key what those of the key leave, in whatever turn the keys come.
use Rattle.std.proofs.Common.{◌≡◌, ℕ, ◌≤◌, ◌+◌, List, [], ◌∷◌, ◌&&◌, Bool, true, false, Option, Some, None, map, cond, filter, refl, ap, ◌∙◌, sym, arith}
use Rattle.std.specs.Prelude.{◌==◌, ◌%◌, bytes_eq, not, drop, if◌then◌else◌}
use Rattle.std.specs.List.{AllByRecursion, list_all}
use Rattle.std.specs.Ordering.{is_eq, is_lt}
use Rattle.std.specs.declared.cmp.Ordering.{Ordering}
use Rattle.std.specs.declared.cmp.Ordering.TheVariants.{Less, Equal, Greater}
use Rattle.std.specs.FinMap.Entries.{find, below_all, is_sorted, same_entries}
use Rattle.std.specs.Cmp.Lexicographic.{nat_list_cmp_total, texts_ties}
use Rattle.std.proofs.lemmas.Bool.{and_from, and_parts, false≢true, true≢false, eq-eqb}
use Rattle.std.proofs.lemmas.Float.{T_from_true}
use Rattle.std.proofs.lemmas.Map.Keys.{sorted_head, sorted_tail}
use Rattle.std.proofs.lemmas.Map.Lookups.{exact_bytes}
use Rattle.std.proofs.lemmas.Slice.Eq.{bytes_eq-Decides}
use Rattle.nrt_base.specs.declared.doc.Doc.{Doc}
use Rattle.documents.specs.declared.operation.Op.{Op}
use Rattle.documents.specs.declared.operation.Op.TheVariants.{Put, Delete, Drop}
use Rattle.documents.specs.Documents.{key_cmp, IsAscending, document_of, remaining, with_doc, after_op, after_ops, documents_after}
use Rattle.documents.proofs.DocumentLemmas.{documents_ascend}
use Rattle.script_text.specs.Refused.{value_of}
use Rattle.load_script.specs.Generated.{load_lane}

-- the operation puts or deletes, so it has a key
abbrev pub is_keyed : Op → Bool
is_keyed (Put doc) = true
is_keyed (Delete key) = true
is_keyed (Drop word) = false

-- the operation has this key
abbrev pub touches : List ℕ → Op → Bool
touches key (Put doc) = bytes_eq key doc.key
touches key (Delete other) = bytes_eq key other
touches key (Drop word) = false

-- the text that a key has among documents
abbrev text_at : List ℕ → List Doc → Option (List ℕ)
text_at key [] = None
text_at key (doc ∷ docs) = if bytes_eq key doc.key then Some doc.text else text_at key docs

-- the text that a key has after an operation
abbrev text_by : List ℕ → Op → Option (List ℕ) → Option (List ℕ)
text_by key (Put doc) old = if bytes_eq key doc.key then Some doc.text else old
text_by key (Delete other) old = if bytes_eq key other then None else old
text_by key (Drop word) old = old

abbrev texts_by : List ℕ → Option (List ℕ) → List Op → Option (List ℕ)
texts_by key text [] = text
texts_by key text (op ∷ ops) = texts_by key (text_by key op text) ops

same : (a b : List ℕ) → bytes_eq a b ≡ true → a ≡ b
same a b e = (bytes_eq-Decides a b).0 e

never : {P : Type 0} (a b : List ℕ) → bytes_eq a b ≡ false → a ≡ b → P
never a b e is = absurd (false≢true (sym e ∙ (bytes_eq-Decides a b).1 is))

text-removed : (key other : List ℕ) (docs : List Doc) → text_at key (remaining (Delete other) docs) ≡ (if bytes_eq key other then None else text_at key docs)
text-removed key other [] = none (bytes_eq key other)
  where
    none : (w : Bool) → ◌≡◌ {A = Option (List ℕ)} None (if w then None else None)
    none true = refl
    none false = refl
text-removed key other (d ∷ docs) = by_tests (bytes_eq other d.key) (bytes_eq key d.key) (bytes_eq key other) refl refl refl (text-removed key other docs)
  where
    by_tests : (t u w : Bool) → bytes_eq other d.key ≡ t → bytes_eq key d.key ≡ u → bytes_eq key other ≡ w
        → text_at key (remaining (Delete other) docs) ≡ (if bytes_eq key other then None else text_at key docs)
        → text_at key (remaining (Delete other) (d ∷ docs)) ≡ (if bytes_eq key other then None else text_at key (d ∷ docs))
    by_tests true true true e f g ih = rw (e, g) (ih ∙ rw g refl)
    by_tests true true false e f g ih = never key other g (same key d.key f ∙ sym (same other d.key e))
    by_tests true false true e f g ih = never key d.key f (same key other g ∙ same other d.key e)
    by_tests true false false e f g ih = rw (e, g, f) (ih ∙ rw g refl)
    by_tests false true true e f g ih = never other d.key e (sym (same key other g) ∙ same key d.key f)
    by_tests false true false e f g ih = rw (e, g, f) refl
    by_tests false false true e f g ih = rw (e, f, g) (ih ∙ rw g refl)
    by_tests false false false e f g ih = rw (e, f, g) (ih ∙ rw g refl)

not_equal : (o : Ordering) → is_lt o ≡ true → is_eq o ≡ false
not_equal Less e = refl
not_equal Equal e = absurd (false≢true e)
not_equal Greater e = refl

text-with : (key : List ℕ) (docs : List Doc) (doc : Doc) → text_at key (with_doc docs doc) ≡ (if bytes_eq key doc.key then Some doc.text else text_at key docs)
text-with key [] doc = refl
text-with key (d ∷ docs) doc = by_tests (is_lt (key_cmp d.key doc.key)) (bytes_eq key d.key) (bytes_eq key doc.key) refl refl refl (text-with key docs doc)
  where
    by_tests : (t u w : Bool) → is_lt (key_cmp d.key doc.key) ≡ t → bytes_eq key d.key ≡ u → bytes_eq key doc.key ≡ w
        → text_at key (with_doc docs doc) ≡ (if bytes_eq key doc.key then Some doc.text else text_at key docs)
        → text_at key (with_doc (d ∷ docs) doc) ≡ (if bytes_eq key doc.key then Some doc.text else text_at key (d ∷ docs))
    by_tests true true true e f g ih =
        never d.key doc.key (texts_ties d.key doc.key ∙ not_equal (key_cmp d.key doc.key) e) (sym (same key d.key f) ∙ same key doc.key g)
    by_tests true true false e f g ih = rw (e, f, g) refl
    by_tests true false true e f g ih = rw (e, f, g) (ih ∙ rw g refl)
    by_tests true false false e f g ih = rw (e, f, g) (ih ∙ rw g refl)
    by_tests false u w e f g ih = rw e refl

text-after : (key : List ℕ) (docs : List Doc) (op : Op) → is_keyed op ≡ true → text_at key (after_op docs op) ≡ text_by key op (text_at key docs)
text-after key docs (Put doc) keyed = text-with key (remaining (Put doc) docs) doc ∙ by_test (bytes_eq key doc.key) refl
  where
    by_test : (w : Bool) → bytes_eq key doc.key ≡ w
        → (if bytes_eq key doc.key then Some doc.text else text_at key (remaining (Delete doc.key) docs)) ≡ (if bytes_eq key doc.key then Some doc.text else text_at key docs)
    by_test true g = rw g refl
    by_test false g = rw g (text-removed key doc.key docs ∙ rw g refl)
text-after key docs (Delete other) keyed = text-removed key other docs
text-after key docs (Drop word) keyed = absurd (false≢true keyed)

text-after_all : (key : List ℕ) (docs : List Doc) (ops : List Op) → list_all is_keyed ops ≡ true → text_at key (after_ops docs ops) ≡ texts_by key (text_at key docs) ops
text-after_all key docs [] keyed = refl
text-after_all key docs (op ∷ ops) keyed =
    let parts = and_parts (is_keyed op) (list_all is_keyed ops) keyed in
    text-after_all key (after_op docs op) ops parts.1 ∙ ap (λ (t : Option (List ℕ)). texts_by key t ops) (text-after key docs op parts.0)

untouched : (key : List ℕ) (op : Op) (text : Option (List ℕ)) → touches key op ≡ false → text_by key op text ≡ text
untouched key (Put doc) text e = rw e refl
untouched key (Delete other) text e = rw e refl
untouched key (Drop word) text e = refl

-- the operations of other keys do nothing to a key
texts-touched : (key : List ℕ) (text : Option (List ℕ)) (ops : List Op) → texts_by key text ops ≡ texts_by key text (filter (touches key) ops)
texts-touched key text [] = refl
texts-touched key text (op ∷ ops) = by_test (touches key op) refl (λ t. texts-touched key t ops)
  where
    by_test : (t : Bool) → touches key op ≡ t → ((u : Option (List ℕ)) → texts_by key u ops ≡ texts_by key u (filter (touches key) ops)) → texts_by key (text_by key op text) ops ≡ texts_by key text (cond (touches key op) (op ∷ filter (touches key) ops) (filter (touches key) ops))
    by_test true e rest = rw e (rest (text_by key op text))
    by_test false e rest = rw e (ap (λ (t : Option (List ℕ)). texts_by key t ops) (untouched key op text e) ∙ rest text)

-- ---- documents that ascend are known by their texts

abbrev entries_of : List Doc → List (List ℕ × List ℕ)
entries_of docs = map (λ d. (d.key, d.text)) docs

above : (key : List ℕ) (docs : List Doc) → AllByRecursion (λ k. key_cmp key k ≡ Less) (map (λ d. d.key) docs) → below_all key_cmp key (entries_of docs) ≡ true
above key [] all = refl
above key (d ∷ docs) all = and_from (is_lt (key_cmp key d.key)) (below_all key_cmp key (entries_of docs)) (ap is_lt all.0) (above key docs all.1)

entries_sorted : (docs : List Doc) → IsAscending docs → is_sorted key_cmp (entries_of docs) ≡ true
entries_sorted [] ascends = refl
entries_sorted (d ∷ docs) ascends =
    let keys : List (List ℕ) = map (λ d. d.key) docs in
    and_from (below_all key_cmp d.key (entries_of docs)) (is_sorted key_cmp (entries_of docs)) (above d.key docs (sorted_head key_cmp d.key keys ascends)) (entries_sorted docs (sorted_tail key_cmp d.key keys ascends))

find_text : (q : List ℕ) (docs : List Doc) → find key_cmp q (entries_of docs) ≡ text_at q docs
find_text q [] = refl
find_text q (d ∷ docs) =
    ap (λ (b : Bool). cond b (Some d.text) (find key_cmp q (entries_of docs))) (sym (texts_ties q d.key))
    ∙ ap (λ (o : Option (List ℕ)). cond (bytes_eq q d.key) (Some d.text) o) (find_text q docs)

again : (docs : List Doc) → map document_of (entries_of docs) ≡ docs
again [] = refl
again (d ∷ docs) = ap (λ (ds : List Doc). d ∷ ds) (again docs)

same_docs : (xs ys : List Doc) → IsAscending xs → IsAscending ys → ((q : List ℕ) → text_at q xs ≡ text_at q ys) → xs ≡ ys
same_docs xs ys ascends rises alike =
    let each : (q : List ℕ) → find key_cmp q (entries_of xs) ≡ find key_cmp q (entries_of ys) = λ q. find_text q xs ∙ (alike q ∙ sym (find_text q ys)) in
    sym (again xs)
    ∙ (ap (map document_of)
    (same_entries key_cmp nat_list_cmp_total exact_bytes (entries_of xs) (entries_of ys) (T_from_true (is_sorted key_cmp (entries_of xs)) (entries_sorted xs ascends))
    (T_from_true (is_sorted key_cmp (entries_of ys)) (entries_sorted ys rises)) each)
    ∙ again ys)

-- where each key has its operations in one turn, the same documents are left
pub same_documents : (xs ys : List Op) → list_all is_keyed xs ≡ true → list_all is_keyed ys ≡ true → ((key : List ℕ) → filter (touches key) xs ≡ filter (touches key) ys)
    → documents_after xs ≡ documents_after ys
same_documents xs ys keyed too alike =
    same_docs (documents_after xs) (documents_after ys) (documents_ascend xs) (documents_ascend ys)
    (λ q. text-after_all q [] xs keyed ∙ (texts-touched q None xs ∙ (ap (texts_by q None) (alike q) ∙ (sym (texts-touched q None ys) ∙ sym (text-after_all q [] ys too)))))

-- ---- lanes that own keys

-- the lane of a key of the generated script: its number says it
abbrev pub owner_of : List ℕ → ℕ
owner_of key = load_lane (value_of (drop 1 key))

-- the lane of an operation
abbrev pub owner : Op → ℕ
owner (Put doc) = owner_of doc.key
owner (Delete key) = owner_of key
owner (Drop word) = 0

-- the operations of a lane
abbrev pub owned : ℕ → List Op → List Op
owned lane ops = filter (λ op. owner op == lane) ops

touched_owner : (key : List ℕ) (op : Op) → touches key op ≡ true → (owner op == owner_of key) ≡ true
touched_owner key (Put doc) e = eq-eqb (owner_of doc.key) (owner_of key) (ap owner_of (sym (same key doc.key e)))
touched_owner key (Delete other) e = eq-eqb (owner_of other) (owner_of key) (ap owner_of (sym (same key other e)))
touched_owner key (Drop word) e = absurd (false≢true e)

-- the operations of a key are among those of its lane
touched_owned : (key : List ℕ) (ops : List Op) → filter (touches key) ops ≡ filter (touches key) (owned (owner_of key) ops)
touched_owned key [] = refl
touched_owned key (op ∷ ops) = by_tests (touches key op) (owner op == owner_of key) refl refl (touched_owned key ops)
  where
    by_tests : (t u : Bool) → touches key op ≡ t → (owner op == owner_of key) ≡ u → filter (touches key) ops ≡ filter (touches key) (owned (owner_of key) ops)
        → filter (touches key) (op ∷ ops) ≡ filter (touches key) (owned (owner_of key) (op ∷ ops))
    by_tests true true e f ih = rw (f, e) (ap (λ (os : List Op). op ∷ os) ih)
    by_tests true false e f ih = absurd (true≢false (sym (touched_owner key op e) ∙ f))
    by_tests false true e f ih = rw (f, e) ih
    by_tests false false e f ih = rw (f, e) ih

-- where each lane has its operations in one turn, the same documents are left
pub same_by_lanes : (xs ys : List Op) → list_all is_keyed xs ≡ true → list_all is_keyed ys ≡ true
    → ((lane : ℕ) → 1 ≤ lane → lane ≤ 4 → owned lane xs ≡ owned lane ys) → documents_after xs ≡ documents_after ys
same_by_lanes xs ys keyed too alike =
    same_documents xs ys keyed too
    (λ key. touched_owned key xs ∙ (ap (filter (touches key)) (alike (owner_of key) (low (value_of (drop 1 key))) (high (value_of (drop 1 key)))) ∙ sym (touched_owned key ys)))
  where
    low : (v : ℕ) → 1 ≤ 1 + v % 4
    low v = omega arith

    high : (v : ℕ) → 1 + v % 4 ≤ 4
    high v = omega arith
