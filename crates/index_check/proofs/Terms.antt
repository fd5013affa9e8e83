-- The terms of rows, made one after the other.
use Rattle.std.proofs.Common.{◌≡◌, ℕ, ◌+◌, ◌<◌, ◌≤◌, List, [], ◌∷◌, ◌++◌, length, get_or, take, map, refl, sym, ap, subst, ◌∙◌, arith}
use Rattle.std.specs.Prelude.{IfSome}
use Rattle.std.specs.List.{slice_get}
use Rattle.std.proofs.lemmas.List.{take_more, take_all}
use Rattle.std.proofs.lemmas.Option.{slice_get-get_or}
use Rattle.nrt_base.specs.declared.doc.Doc.{Doc}
use Rattle.postings_plain.specs.declared.row.TermRow.{TermRow}
use Rattle.seg_reader.specs.Sound.{term_row}

map-push : (docs : List Doc) (d : Doc) → map term_row (docs ++ d ∷ []) ≡ map term_row docs ++ term_row d ∷ []
map-push [] d = refl
map-push (x ∷ docs) d = ap (λ (ts : List TermRow). term_row x ∷ ts) (map-push docs d)

pub terms_more : (docs : List Doc) (i : ℕ) (old new : List TermRow) (t : TermRow) → i < length docs → IfSome (slice_get docs i) (λ doc. t ≡ term_row doc) → old ≡ map term_row (take i docs) → new ≡ old ++ t ∷ []
    → new ≡ map term_row (take (i + 1) docs)
terms_more docs i old new t lt is so_far put =
    let d : Doc = get_or docs i no_doc in
    let own : t ≡ term_row d = subst (λ o. IfSome o (λ doc. t ≡ term_row doc)) (slice_get-get_or docs i no_doc lt) is in
    put ∙ ap (λ (ts : List TermRow). ts ++ t ∷ []) so_far ∙ ap (λ (x : TermRow). map term_row (take i docs) ++ x ∷ []) own ∙ sym (map-push (take i docs) d) ∙ ap (map term_row) (sym (take_more docs i no_doc lt))
  where
    no_doc : Doc
    no_doc = record { key = []; text = [] }

pub all_terms : (docs : List Doc) (i : ℕ) (terms : List TermRow) → length docs ≤ i → terms ≡ map term_row (take i docs) → terms ≡ map term_row docs
all_terms docs i terms le so_far = so_far ∙ ap (map term_row) (take_all i docs le)

pub some_terms : (docs : List Doc) (terms : List TermRow) → terms ≡ map term_row docs → 0 < length docs → 0 < length terms
some_terms [] terms is some = absurd (omega (arith, some))
some_terms (d ∷ docs) terms is some = subst (λ (ts : List TermRow). 0 < length ts) (sym is) (omega arith)
