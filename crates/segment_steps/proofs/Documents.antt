-- Documents in any order, and what operations make of them.
use Rattle.std.proofs.Common.{◌≡◌, Bool, true, false, not, cond, List, [], ◌∷◌, ◌++◌, map, refl, sym, ap, subst, ◌∙◌}
use Rattle.std.specs.Prelude.{ℕ, ◌||◌}
use Rattle.std.specs.List.{filter, zip}
use Rattle.std.specs.List.Sorted.{IsPermutation}
use Rattle.std.specs.Str.{bytes_eq}
use Rattle.std.specs.Ordering.{is_eq, is_lt}
use Rattle.std.specs.declared.cmp.Ordering.TheVariants.{Less}
use Rattle.std.proofs.lemmas.List.{append-nil, append_assoc}
use Rattle.std.proofs.lemmas.List.Elements.{filter-append}
use Rattle.std.proofs.lemmas.List.Sorted.{IsPermutation-refl, IsPermutation-cons, IsPermutation-trans, IsPermutation-to_front}
use Rattle.std.proofs.lemmas.Map.Text.{is_eq-slice_cmp}
use Rattle.nrt_base.specs.declared.doc.Doc.{Doc}
use Rattle.documents.specs.declared.operation.Op.{Op}
use Rattle.documents.specs.declared.operation.Op.TheVariants.{Put, Delete, Drop}
use Rattle.documents.specs.Documents.{key_cmp, removes, remaining, with_doc, after_op, after_ops}
use Rattle.segment_steps.specs.Cut.{removed_by, puts_of, puts_live, lacking}
use Rattle.segment_steps.proofs.Bags.{turned, filter_permutation}

pub no_tie : (a b : List ℕ) → key_cmp a b ≡ Less → bytes_eq a b ≡ false
no_tie a b lt = sym (is_eq-slice_cmp a b) ∙ ap is_eq lt

-- a document in its place is one more document
with_is : (docs : List Doc) (doc : Doc) → IsPermutation (doc ∷ docs) (with_doc docs doc)
with_is [] doc = IsPermutation-refl (doc ∷ [])
with_is (d ∷ docs) doc =
    let more = with_is docs doc in
    elim (is_lt (key_cmp d.key doc.key)) as (λ b. IsPermutation (doc ∷ d ∷ docs) (cond b (d ∷ with_doc docs doc) (doc ∷ d ∷ docs))) [
      | true ↦ IsPermutation-trans (doc ∷ d ∷ docs) (d ∷ doc ∷ docs) (d ∷ with_doc docs doc) (turned doc d docs) (IsPermutation-cons d (doc ∷ docs) (with_doc docs doc) more)
      | false ↦ IsPermutation-refl (doc ∷ d ∷ docs)
    ]

-- ---- a cut

lacking_twice : (a b : Doc → Bool) (docs : List Doc) → lacking b (lacking a docs) ≡ lacking (λ d. a d || b d) docs
lacking_twice a b [] = refl
lacking_twice a b (d ∷ docs) = by_test (a d) refl (lacking_twice a b docs)
  where
    by_test : (t : Bool) → a d ≡ t → lacking b (lacking a docs) ≡ lacking (λ x. a x || b x) docs → lacking b (lacking a (d ∷ docs)) ≡ lacking (λ x. a x || b x) (d ∷ docs)
    by_test true e h = rw e h
    by_test false e h = rw e (ap (λ (ds : List Doc). cond (not (b d)) (d ∷ ds) ds) h)

lacking_none : (docs : List Doc) → lacking (λ d. false) docs ≡ docs
lacking_none [] = refl
lacking_none (d ∷ docs) = ap (λ (ds : List Doc). d ∷ ds) (lacking_none docs)

-- the documents of live rows
abbrev pub live_docs : List Doc → List Bool → List Doc
live_docs docs live = map (λ (x : Doc × Bool). x.0) (filter (λ (x : Doc × Bool). x.1) (zip docs live))

-- the documents that a cut's own puts leave
abbrev pub puts_left : List Op → List Doc
puts_left ops = live_docs (puts_of ops) (puts_live ops)

put_left : (doc : Doc) (ops : List Op) → lacking (removed_by ops) (doc ∷ []) ++ puts_left ops ≡ puts_left (Put doc ∷ ops)
put_left doc ops = by_test (removed_by ops doc) refl
  where
    by_test : (t : Bool) → removed_by ops doc ≡ t → lacking (removed_by ops) (doc ∷ []) ++ puts_left ops ≡ puts_left (Put doc ∷ ops)
    by_test true e = rw e refl
    by_test false e = rw e refl

put_first : (doc : Doc) (ops : List Op) (ds : List Doc)
    → lacking (removed_by ops) (remaining (Put doc) ds ++ doc ∷ []) ++ puts_left ops ≡ lacking (removed_by (Put doc ∷ ops)) ds ++ puts_left (Put doc ∷ ops)
put_first doc ops ds =
    ap (λ (xs : List Doc). xs ++ puts_left ops) (filter-append (λ (d : Doc). not (removed_by ops d)) (remaining (Put doc) ds) (doc ∷ []))
    ∙ ap (λ (xs : List Doc). (xs ++ lacking (removed_by ops) (doc ∷ [])) ++ puts_left ops) (lacking_twice (removes (Put doc)) (removed_by ops) ds)
    ∙ append_assoc (lacking (removed_by (Put doc ∷ ops)) ds) (lacking (removed_by ops) (doc ∷ [])) (puts_left ops)
    ∙ ap (λ (xs : List Doc). lacking (removed_by (Put doc ∷ ops)) ds ++ xs) (put_left doc ops)

-- what an operation leaves of documents in another order
moved_by : (op : Op) (ds docs : List Doc) → IsPermutation ds docs → IsPermutation (remaining op ds) (remaining op docs)
moved_by op ds docs moved = filter_permutation (λ (d : Doc). not (removes op d)) ds docs moved

moved_by_put : (doc : Doc) (ds docs : List Doc) → IsPermutation ds docs → IsPermutation (remaining (Put doc) ds ++ doc ∷ []) (after_op docs (Put doc))
moved_by_put doc ds docs moved =
    IsPermutation-trans (remaining (Put doc) ds ++ doc ∷ []) (doc ∷ remaining (Put doc) ds) (after_op docs (Put doc)) (IsPermutation-to_front (remaining (Put doc) ds) doc)
    (IsPermutation-trans (doc ∷ remaining (Put doc) ds) (doc ∷ remaining (Put doc) docs) (after_op docs (Put doc))
    (IsPermutation-cons doc (remaining (Put doc) ds) (remaining (Put doc) docs) (moved_by (Put doc) ds docs moved))
    (with_is (remaining (Put doc) docs) doc))

-- THE LAW OF A CUT: documents that it does not take away, and those that its own puts leave, are the documents after it.
pub after_cut_documents : (ops : List Op) (ds docs : List Doc) → IsPermutation ds docs → IsPermutation (lacking (removed_by ops) ds ++ puts_left ops) (after_ops docs ops)
after_cut_documents [] ds docs moved =
    subst (λ (xs : List Doc). IsPermutation xs docs) (sym (append-nil (lacking (λ d. false) ds) ∙ lacking_none ds)) moved
after_cut_documents (Put doc ∷ ops) ds docs moved =
    subst (λ (xs : List Doc). IsPermutation xs (after_ops (after_op docs (Put doc)) ops)) (put_first doc ops ds)
    (after_cut_documents ops (remaining (Put doc) ds ++ doc ∷ []) (after_op docs (Put doc)) (moved_by_put doc ds docs moved))
after_cut_documents (Delete key ∷ ops) ds docs moved =
    subst (λ (xs : List Doc). IsPermutation (xs ++ puts_left ops) (after_ops (remaining (Delete key) docs) ops)) (lacking_twice (removes (Delete key)) (removed_by ops) ds)
    (after_cut_documents ops (remaining (Delete key) ds) (remaining (Delete key) docs) (moved_by (Delete key) ds docs moved))
after_cut_documents (Drop word ∷ ops) ds docs moved =
    subst (λ (xs : List Doc). IsPermutation (xs ++ puts_left ops) (after_ops (remaining (Drop word) docs) ops)) (lacking_twice (removes (Drop word)) (removed_by ops) ds)
    (after_cut_documents ops (remaining (Drop word) ds) (remaining (Drop word) docs) (moved_by (Drop word) ds docs moved))
