-- A map from keys to texts changes as the documents in it do, and documents stay in ascending order of key.
use Rattle.std.proofs.Common.{◌≡◌, ℕ, List, [], ◌∷◌, ◌++◌, ◌+◌, ◌<◌, ◌≤◌, Bool, true, false, suc, zero, length, take, get_or, map, cond, filter, refl, ap, ◌∙◌, sym, subst, arith, add-one}
use Rattle.std.specs.Prelude.{bytes_eq, not}
use Rattle.std.specs.Ordering.{match_ordering, is_eq, is_lt, ordering_reverse}
use Rattle.std.specs.declared.cmp.Ordering.{Ordering}
use Rattle.std.specs.declared.cmp.Ordering.TheVariants.{Less, Equal, Greater}
use Rattle.std.specs.Cmp.Lexicographic.{nat_list_cmp_total, texts_ties}
use Rattle.std.proofs.Math.Seq.{take-suc}
use Rattle.std.specs.BTreeMap.{insert_entry, is_at}
use Rattle.std.specs.Map.{keys_of, remove_entry}
use Rattle.std.specs.List.{AllByRecursion}
use Rattle.std.specs.List.Sorted.{IsStrictlySortedBy}
use Rattle.std.proofs.lemmas.Map.Keys.{sorted_head, sorted_tail}
use Rattle.std.proofs.lemmas.List.Sums.{length-filter, count_by-le-length}
use Rattle.std.proofs.lemmas.Map.Lookups.{exact_bytes}
use Rattle.nrt_base.specs.declared.doc.Doc.{Doc}
use Rattle.documents.specs.declared.operation.Op.{Op}
use Rattle.documents.specs.declared.operation.Op.TheVariants.{Put, Delete, Drop}
use Rattle.documents.specs.Documents.{key_cmp, IsAscending, document_of, removes, remaining, with_doc, after_op, after_ops, documents_after}

abbrev Entries : Type 0
Entries = List (List ℕ × List ℕ)

abbrev keys_in : List Doc → List (List ℕ)
keys_in docs = map (λ d. d.key) docs

-- each key is above this one
abbrev AreAbove : List ℕ → List Doc → Type 0
AreAbove key docs = AllByRecursion (λ k. key_cmp key k ≡ Less) (keys_in docs)

-- the other way round
greater : (a b : List ℕ) → key_cmp a b ≡ Less → key_cmp b a ≡ Greater
greater a b less = nat_list_cmp_total.antisymm b a ∙ ap ordering_reverse less

less : (a b : List ℕ) → key_cmp a b ≡ Greater → key_cmp b a ≡ Less
less a b greater = nat_list_cmp_total.antisymm b a ∙ ap ordering_reverse greater

above_all : (a b : List ℕ) (docs : List Doc) → key_cmp a b ≡ Less → AreAbove b docs → AreAbove a docs
above_all a b [] less all = tt
above_all a b (d ∷ docs) less all = (nat_list_cmp_total.trans a b d.key less all.0, above_all a b docs less all.1)

above_same : (a b : List ℕ) (docs : List Doc) → key_cmp a b ≡ Equal → AreAbove b docs → AreAbove a docs
above_same a b docs same above = subst (λ (k : List ℕ). AreAbove k docs) (sym (exact_bytes a b same)) above

tested : (key other : List ℕ) (o : Ordering) → key_cmp key other ≡ o → bytes_eq key other ≡ is_eq o
tested key other o is = texts_ties key other ∙ ap is_eq is

all_remain : (key : List ℕ) (docs : List Doc) → AreAbove key docs → remaining (Delete key) docs ≡ docs
all_remain key [] above = refl
all_remain key (d ∷ docs) above =
    rw (tested key d.key Less above.0) (ap (λ (ds : List Doc). d ∷ ds) (all_remain key docs above.1))

with_doc_first : (docs : List Doc) (doc : Doc) → AreAbove doc.key docs → with_doc docs doc ≡ doc ∷ docs
with_doc_first [] doc above = refl
with_doc_first (d ∷ docs) doc above = rw (greater doc.key d.key above.0) refl

put_first : (docs : List Doc) (doc : Doc) → AreAbove doc.key docs → after_op docs (Put doc) ≡ doc ∷ docs
put_first docs doc above =
    ap (λ (ds : List Doc). with_doc ds doc) (all_remain doc.key docs above) ∙ with_doc_first docs doc above

-- a put among ascending documents, by where its key stands to the first
put_step : (d : Doc) (docs : List Doc) (doc : Doc) (o : Ordering) → key_cmp doc.key d.key ≡ o → IsAscending (d ∷ docs)
    → after_op (d ∷ docs) (Put doc) ≡ match_ordering o (doc ∷ d ∷ docs) (doc ∷ docs) (d ∷ after_op docs (Put doc))
put_step d docs doc Less is ascending =
    put_first (d ∷ docs) doc (is, above_all doc.key d.key docs is (sorted_head key_cmp d.key (keys_in docs) ascending))
put_step d docs doc Equal is ascending =
    rw (tested doc.key d.key Equal is)
    (put_first docs doc (above_same doc.key d.key docs is (sorted_head key_cmp d.key (keys_in docs) ascending)))
put_step d docs doc Greater is ascending = rw (tested doc.key d.key Greater is, less doc.key d.key is) refl

insert_step : (e : List ℕ × List ℕ) (entries : Entries) (doc : Doc) (rest : Entries) (docs : List Doc) (o : Ordering)
    → key_cmp doc.key e.0 ≡ o → map document_of rest ≡ docs
    → map document_of (match_ordering o ((doc.key, doc.text) ∷ e ∷ entries) ((e.0, doc.text) ∷ entries) (e ∷ rest))
    ≡ match_ordering o (doc ∷ document_of e ∷ map document_of entries) (doc ∷ map document_of entries) (document_of e ∷ docs)
insert_step e entries doc rest docs Less is same = refl
insert_step e entries doc rest docs Equal is same =
    ap (λ (k : List ℕ). document_of (k, doc.text) ∷ map document_of entries) (sym (exact_bytes doc.key e.0 is))
insert_step e entries doc rest docs Greater is same = ap (λ (ds : List Doc). document_of e ∷ ds) same

insert_puts : (entries : Entries) (doc : Doc) → IsAscending (map document_of entries)
    → map document_of (insert_entry key_cmp entries doc.key doc.text) ≡ after_op (map document_of entries) (Put doc)
insert_puts [] doc ascending = refl
insert_puts (e ∷ entries) doc ascending =
    let docs = map document_of entries in
    insert_step e entries doc (insert_entry key_cmp entries doc.key doc.text) (after_op docs (Put doc)) (key_cmp doc.key e.0) refl
    (insert_puts entries doc (sorted_tail key_cmp e.0 (keys_in docs) ascending))
    ∙ sym (put_step (document_of e) docs doc (key_cmp doc.key e.0) refl ascending)

remove_step : (e : List ℕ × List ℕ) (entries rest : Entries) (key : List ℕ) (o : Ordering) → key_cmp key e.0 ≡ o
    → map document_of rest ≡ remaining (Delete key) (map document_of entries) → AreAbove e.0 (map document_of entries)
    → map document_of (cond (is_eq o) entries (e ∷ rest)) ≡ remaining (Delete key) (document_of e ∷ map document_of entries)
remove_step e entries rest key Less is same above = rw (tested key e.0 Less is) (ap (λ (ds : List Doc). document_of e ∷ ds) same)
remove_step e entries rest key Equal is same above =
    rw (tested key e.0 Equal is) (sym (all_remain key (map document_of entries) (above_same key e.0 (map document_of entries) is above)))
remove_step e entries rest key Greater is same above = rw (tested key e.0 Greater is) (ap (λ (ds : List Doc). document_of e ∷ ds) same)

remove_deletes : (entries : Entries) (key : List ℕ) → IsAscending (map document_of entries)
    → map document_of (remove_entry (is_at (key_cmp key)) entries) ≡ remaining (Delete key) (map document_of entries)
remove_deletes [] key ascending = refl
remove_deletes (e ∷ entries) key ascending =
    let docs = map document_of entries in
    remove_step e entries (remove_entry (is_at (key_cmp key)) entries) key (key_cmp key e.0) refl
    (remove_deletes entries key (sorted_tail key_cmp e.0 (keys_in docs) ascending)) (sorted_head key_cmp e.0 (keys_in docs) ascending)

keys_in-documents : (entries : Entries) → keys_in (map document_of entries) ≡ keys_of entries
keys_in-documents [] = refl
keys_in-documents (e ∷ entries) = ap (λ (ks : List (List ℕ)). e.0 ∷ ks) (keys_in-documents entries)

ordered_ascends : (entries : Entries) → IsStrictlySortedBy key_cmp (keys_of entries) → IsAscending (map document_of entries)
ordered_ascends entries ordered = subst (λ (ks : List (List ℕ)). IsStrictlySortedBy key_cmp ks) (sym (keys_in-documents entries)) ordered

-- a put
pub put_from_insert : (entries : Entries) (doc : Doc) → IsStrictlySortedBy key_cmp (keys_of entries)
    → map document_of (insert_entry key_cmp entries doc.key doc.text) ≡ after_op (map document_of entries) (Put doc)
put_from_insert entries doc ordered = insert_puts entries doc (ordered_ascends entries ordered)

-- a delete
pub delete_from_remove : (entries : Entries) (key : List ℕ) → IsStrictlySortedBy key_cmp (keys_of entries)
    → map document_of (remove_entry (is_at (key_cmp key)) entries) ≡ after_op (map document_of entries) (Delete key)
delete_from_remove entries key ordered = remove_deletes entries key (ordered_ascends entries ordered)

-- entries whose documents pass a test
pub documents_passing : (test : Doc → Bool) (entries : Entries)
    → map document_of (filter (λ e. test (document_of e)) entries) ≡ filter test (map document_of entries)
documents_passing test [] = refl
documents_passing test (e ∷ entries) =
    elim (test (document_of e)) as (λ b. map document_of (cond b (e ∷ filter (λ e. test (document_of e)) entries) (filter (λ e. test (document_of e)) entries)) ≡ cond b (document_of e ∷ filter test (map document_of entries)) (filter test (map document_of entries))) [
      | true ↦ ap (λ (ds : List Doc). document_of e ∷ ds) (documents_passing test entries)
      | false ↦ documents_passing test entries
    ]

-- each key is below this one
abbrev AreBelow : List Doc → List ℕ → Type 0
AreBelow docs key = AllByRecursion (λ d. key_cmp d.key key ≡ Less) docs

put_last : (docs : List Doc) (doc : Doc) → AreBelow docs doc.key → after_op docs (Put doc) ≡ docs ++ doc ∷ []
put_last [] doc below = refl
put_last (d ∷ docs) doc below =
    rw (tested doc.key d.key Greater (greater d.key doc.key below.0), below.0) (ap (λ (ds : List Doc). d ∷ ds) (put_last docs doc below.1))

above_at : (key : List ℕ) (docs : List Doc) (i : ℕ) (x : Doc) → AllByRecursion (λ k. key_cmp key k ≡ Less) (map (λ d. d.key) docs)
    → i < length docs → key_cmp key (get_or docs i x).key ≡ Less
above_at key [] i x all within = absurd (omega arith)
above_at key (d ∷ docs) zero x all within = all.0
above_at key (d ∷ docs) (suc i) x all within = above_at key docs i x all.1 (omega arith)

below_at : (docs : List Doc) (i : ℕ) (x : Doc) → IsAscending docs → i < length docs → AreBelow (take i docs) (get_or docs i x).key
below_at [] i x ascending within = absurd (omega arith)
below_at (d ∷ docs) zero x ascending within = tt
below_at (d ∷ docs) (suc i) x ascending within = (
  above_at d.key docs i x (sorted_head key_cmp d.key (map (λ d. d.key) docs) ascending) (omega arith),
  below_at docs i x (sorted_tail key_cmp d.key (map (λ d. d.key) docs) ascending) (omega arith),
)

-- the next document of an ascending list goes to the end
pub put_next : (docs : List Doc) (i : ℕ) (x : Doc) → IsAscending docs → i < length docs
    → after_op (take i docs) (Put (get_or docs i x)) ≡ take (i + 1) docs
put_next docs i x ascending within =
    put_last (take i docs) (get_or docs i x) (below_at docs i x ascending within) ∙ rw add-one (sym (take-suc docs i x within))

pub above_passing : (test : Doc → Bool) (key : List ℕ) (docs : List Doc) → AreAbove key docs → AreAbove key (filter test docs)
above_passing test key [] all = tt
above_passing test key (d ∷ docs) all =
    elim (test d) as (λ b. AreAbove key (cond b (d ∷ filter test docs) (filter test docs))) [
      | true ↦ (all.0, above_passing test key docs all.1)
      | false ↦ above_passing test key docs all.1
    ]

-- documents that pass a test are in the same order
pub ascending_passing : (test : Doc → Bool) (docs : List Doc) → IsAscending docs → IsAscending (filter test docs)
unfolding IsStrictlySortedBy
ascending_passing test [] ascending = tt
ascending_passing test (d ∷ docs) ascending =
    elim (test d) as (λ b. IsAscending (cond b (d ∷ filter test docs) (filter test docs))) [
      | true ↦ (above_passing test d.key docs ascending.0, ascending_passing test docs ascending.1)
      | false ↦ ascending_passing test docs ascending.1
    ]

pub above_with : (key : List ℕ) (docs : List Doc) (doc : Doc) → key_cmp key doc.key ≡ Less → AreAbove key docs → AreAbove key (with_doc docs doc)
above_with key [] doc less all = (less, tt)
above_with key (d ∷ docs) doc less all =
    elim (is_lt (key_cmp d.key doc.key)) as (λ b. AreAbove key (cond b (d ∷ with_doc docs doc) (doc ∷ d ∷ docs))) [
      | true ↦ (all.0, above_with key docs doc less all.1)
      | false ↦ (less, all)
    ]

put_ascends : (d : Doc) (docs : List Doc) (doc : Doc) (o : Ordering) → key_cmp doc.key d.key ≡ o → IsAscending (d ∷ docs)
    → IsAscending (after_op docs (Put doc)) → IsAscending (match_ordering o (doc ∷ d ∷ docs) (doc ∷ docs) (d ∷ after_op docs (Put doc)))
unfolding IsStrictlySortedBy
put_ascends d docs doc Less is ascending rest = ((is, above_all doc.key d.key docs is ascending.0), ascending)
put_ascends d docs doc Equal is ascending rest = (above_same doc.key d.key docs is ascending.0, ascending.1)
put_ascends d docs doc Greater is ascending rest =
    (above_with d.key (remaining (Put doc) docs) doc (less doc.key d.key is) (above_passing (λ e. not (removes (Put doc) e)) d.key docs ascending.0), rest)

pub ascending_put : (docs : List Doc) (doc : Doc) → IsAscending docs → IsAscending (after_op docs (Put doc))
unfolding IsStrictlySortedBy
ascending_put [] doc ascending = (tt, tt)
ascending_put (d ∷ docs) doc ascending =
    let o = key_cmp doc.key d.key in
    subst IsAscending (sym (put_step d docs doc o refl ascending)) (put_ascends d docs doc o refl ascending (ascending_put docs doc ascending.1))

pub ascending_after : (docs : List Doc) (op : Op) → IsAscending docs → IsAscending (after_op docs op)
ascending_after docs (Put doc) ascending = ascending_put docs doc ascending
ascending_after docs (Delete key) ascending = ascending_passing (λ d. not (removes (Delete key) d)) docs ascending
ascending_after docs (Drop word) ascending = ascending_passing (λ d. not (removes (Drop word) d)) docs ascending

pub ascending_after_all : (docs : List Doc) (ops : List Op) → IsAscending docs → IsAscending (after_ops docs ops)
ascending_after_all docs [] ascending = ascending
ascending_after_all docs (op ∷ ops) ascending = ascending_after_all (after_op docs op) ops (ascending_after docs op ascending)

nothing_ascends : IsAscending []
unfolding IsStrictlySortedBy
nothing_ascends = tt

-- the documents that operations leave ascend by key
pub documents_ascend : (ops : List Op) → IsAscending (documents_after ops)
documents_ascend ops = ascending_after_all [] ops nothing_ascends

after_ops_last : (docs : List Doc) (ops : List Op) (op : Op) → after_ops docs (ops ++ op ∷ []) ≡ after_op (after_ops docs ops) op
after_ops_last docs [] op = refl
after_ops_last docs (o ∷ ops) op = after_ops_last (after_op docs o) ops op

-- one more operation
pub documents_after_last : (ops : List Op) (op : Op) → documents_after (ops ++ op ∷ []) ≡ after_op (documents_after ops) op
documents_after_last ops op = after_ops_last [] ops op

few_pass : (test : Doc → Bool) (docs : List Doc) → length (filter test docs) ≤ length docs
few_pass test docs = omega (arith, length-filter test docs, count_by-le-length test docs)

length-with_doc : (docs : List Doc) (doc : Doc) → length (with_doc docs doc) ≡ length docs + 1
length-with_doc [] doc = refl
length-with_doc (d ∷ docs) doc =
    let rest = length-with_doc docs doc in
    elim (is_lt (key_cmp d.key doc.key)) as (λ b. length (cond b (d ∷ with_doc docs doc) (doc ∷ d ∷ docs)) ≡ length (d ∷ docs) + 1) [
      | true ↦ omega (arith, rest)
      | false ↦ omega arith
    ]

length-after_op-le : (docs : List Doc) (op : Op) → length (after_op docs op) ≤ length docs + 1
length-after_op-le docs (Put doc) = omega (arith, length-with_doc (remaining (Put doc) docs) doc, few_pass (λ d. not (removes (Put doc) d)) docs)
length-after_op-le docs (Delete key) = omega (arith, few_pass (λ d. not (removes (Delete key) d)) docs)
length-after_op-le docs (Drop word) = omega (arith, few_pass (λ d. not (removes (Drop word) d)) docs)

length-after_ops-le : (docs : List Doc) (ops : List Op) → length (after_ops docs ops) ≤ length docs + length ops
length-after_ops-le docs [] = omega arith
length-after_ops-le docs (op ∷ ops) = omega (arith, length-after_op-le docs op, length-after_ops-le (after_op docs op) ops)

-- operations leave no more documents than they are
pub length-documents_after-le : (ops : List Op) → length (documents_after ops) ≤ length ops
length-documents_after-le ops = omega (arith, length-after_ops-le [] ops)
