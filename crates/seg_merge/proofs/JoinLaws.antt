-- The postings of the live rows of inputs, joined input by input.
use Rattle.std.proofs.Common.{◌≡◌, ℕ, suc, ◌+◌, ◌<◌, Bool, true, false, cond, List, [], ◌∷◌, ◌++◌, length, map, drop, get_or, Option, Some, None, refl, sym, ap, subst, ◌∙◌, arith, append_assoc, drop-cons}
use Rattle.std.proofs.lemmas.List.{append-nil, map-append, length-map, length-append}
use Rattle.nrt_base.specs.declared.doc.Doc.{Doc}
use Rattle.seg_build.specs.Given.{live_rows, TermRow, FoundTerms, Gathers, numbers_from, live_terms, JoinsEntries, Shown, IsSound, term_row}
use Rattle.seg_build.proofs.Given.{live_rows-cons}
use Rattle.seg_merge.specs.Merging.{live_docs, all_live_docs, docs_by_input}
use Rattle.seg_merge.proofs.Gathering.{inputs_step}

-- ---- the numbers of an input's rows

numbers_step : (n at : ℕ) (live : List Bool) → at < length live
    → numbers_from n (drop at live) ≡ cond (get_or live at false) (Some n) None ∷ numbers_from (cond (get_or live at false) (n + 1) n) (drop (at + 1) live)
numbers_step n at live lt =
    let up : suc at ≡ at + 1 = omega arith in
    ap (numbers_from n) (drop-cons live at false lt) ∙ by_row (get_or live at false) (drop (suc at) live)
    ∙ ap (λ (k : ℕ). cond (get_or live at false) (Some n) None ∷ numbers_from (cond (get_or live at false) (n + 1) n) (drop k live)) up
  where
    by_row : (b : Bool) (ls : List Bool) → numbers_from n (b ∷ ls) ≡ cond b (Some n) None ∷ numbers_from (cond b (n + 1) n) ls
    by_row true ls = refl
    by_row false ls = refl

pub length-numbers_from : (n : ℕ) (live : List Bool) → length (numbers_from n live) ≡ length live
length-numbers_from n [] = refl
length-numbers_from n (true ∷ live) = omega (arith, length-numbers_from (n + 1) live)
length-numbers_from n (false ∷ live) = omega (arith, length-numbers_from n live)

-- one row more has its number
pub numbered : (at n next : ℕ) (live : List Bool) (b : Bool) (number : Option ℕ) (old new whole : List (Option ℕ)) → at < length live → b ≡ get_or live at false → number ≡ cond b (Some n) None → next ≡ cond b (n + 1) n
    → new ≡ old ++ number ∷ [] → old ++ numbers_from n (drop at live) ≡ whole → new ++ numbers_from next (drop (at + 1) live) ≡ whole
numbered at n next live b number old new whole lt is e f put so_far =
    ap (λ (xs : List (Option ℕ)). xs ++ numbers_from next (drop (at + 1) live)) put ∙ append_assoc old (number ∷ []) (numbers_from next (drop (at + 1) live))
    ∙ ap (λ (o : Option ℕ). old ++ o ∷ numbers_from next (drop (at + 1) live)) (e ∙ ap (λ (x : Bool). cond x (Some n) None) is)
    ∙ ap (λ (k : ℕ). old ++ cond (get_or live at false) (Some n) None ∷ numbers_from k (drop (at + 1) live)) (f ∙ ap (λ (x : Bool). cond x (n + 1) n) is)
    ∙ sym (ap (λ (xs : List (Option ℕ)). old ++ xs) (numbers_step n at live lt)) ∙ so_far

pub counted_on : (at n next total : ℕ) (live : List Bool) (b : Bool) → at < length live → b ≡ get_or live at false → next ≡ cond b (n + 1) n → n + live_rows (drop at live) ≡ total → next + live_rows (drop (at + 1) live) ≡ total
counted_on at n next total live b lt is f so_far =
    let up : suc at ≡ at + 1 = omega arith in
    let step = ap live_rows (drop-cons live at false lt) ∙ live_rows-cons (get_or live at false) (drop (suc at) live) ∙ ap (λ (k : ℕ). cond (get_or live at false) 1 0 + live_rows (drop k live)) up in
    by (get_or live at false) (f ∙ ap (λ (x : Bool). cond x (n + 1) n) is) step
  where
    by : (x : Bool) → next ≡ cond x (n + 1) n → live_rows (drop at live) ≡ cond x 1 0 + live_rows (drop (at + 1) live) → next + live_rows (drop (at + 1) live) ≡ total
    by true e step = omega (arith, e, step, so_far)
    by false e step = omega (arith, e, step, so_far)

-- ---- the rows of an input

live_docs_terms : (docs : List Doc) (live : List Bool) → live_terms (map term_row docs) live ≡ map term_row (live_docs docs live)
live_docs_terms [] live = refl
live_docs_terms (d ∷ docs) [] = refl
live_docs_terms (d ∷ docs) (true ∷ live) = ap (λ (rows : List TermRow). term_row d ∷ rows) (live_docs_terms docs live)
live_docs_terms (d ∷ docs) (false ∷ live) = live_docs_terms docs live

pub length-live_docs : (docs : List Doc) (live : List Bool) → length live ≡ length docs → length (live_docs docs live) ≡ live_rows live
length-live_docs [] [] long = refl
length-live_docs [] (l ∷ live) long = absurd (omega (arith, long))
length-live_docs (d ∷ docs) [] long = absurd (omega (arith, long))
length-live_docs (d ∷ docs) (true ∷ live) long = omega (arith, live_rows-cons true live, length-live_docs docs live (omega (arith, long)))
length-live_docs (d ∷ docs) (false ∷ live) long = omega (arith, live_rows-cons false live, length-live_docs docs live (omega (arith, long)))

-- ---- all inputs

-- the postings of the live rows of the first inputs are joined, and this is the number of the next row
pub record HasJoinedTo (inputs : List Shown) (lives : List (List Bool)) (at : ℕ) (joined : FoundTerms) (next : ℕ) : Type 0 where
  pub front : List Doc
  pub docs : front ++ all_live_docs (docs_by_input (drop at inputs)) (drop at lives) ≡ all_live_docs (docs_by_input inputs) lives
  pub gathers : Gathers joined (map term_row front)
  pub next_is : next ≡ length front

pub joined_no_input : (inputs : List Shown) (lives : List (List Bool)) (joined : FoundTerms) → Gathers joined [] → HasJoinedTo inputs lives 0 joined 0
joined_no_input inputs lives joined g = record { front = []; docs = refl; gathers = g; next_is = refl }

pub joined_input : (inputs : List Shown) (lives : List (List Bool)) (at : ℕ) (s : Shown) (l : List Bool) (old new : FoundTerms) (n next : ℕ) (numbers : List (Option ℕ)) → at < length inputs → at < length lives → s ≡ get_or inputs at s → l ≡ get_or lives at l
    → length l ≡ length s.docs → IsSound s → numbers ≡ numbers_from n l → next ≡ n + live_rows l → JoinsEntries old new s.entries numbers → HasJoinedTo inputs lives at old n → HasJoinedTo inputs lives (at + 1) new next
joined_input inputs lives at s l old new n next numbers li ll es el long sound is on joins has = record {
  front = has.front ++ live_docs s.docs l;
  docs =
      append_assoc has.front (live_docs s.docs l) (all_live_docs (docs_by_input (drop (at + 1) inputs)) (drop (at + 1) lives))
      ∙ sym (ap (λ (ds : List Doc). has.front ++ ds) (inputs_step inputs lives at s l li ll es el)) ∙ has.docs;
  gathers =
      let rows = length-map s.docs term_row in
      let count = length-map has.front term_row in
      subst (Gathers new) (ap (λ (ts : List TermRow). map term_row has.front ++ ts) (live_docs_terms s.docs l) ∙ sym (map-append term_row has.front (live_docs s.docs l)))
      (joins (map term_row has.front) (map term_row s.docs) l has.gathers sound.entries (omega (arith, long, rows)) (is ∙ ap (λ (k : ℕ). numbers_from k l) (has.next_is ∙ sym count)));
  next_is = omega (arith, on, has.next_is, length-append has.front (live_docs s.docs l), length-live_docs s.docs l long);
}

-- all inputs were joined
pub joined_each : (inputs : List Shown) (lives : List (List Bool)) (at : ℕ) (joined : FoundTerms) (next : ℕ) → drop at inputs ≡ [] → HasJoinedTo inputs lives at joined next → Gathers joined (map term_row (all_live_docs (docs_by_input inputs) lives))
joined_each inputs lives at joined next none has =
    subst (λ (ds : List Doc). Gathers joined (map term_row ds)) (sym (append-nil has.front) ∙ sym (ap (λ (ss : List Shown). has.front ++ all_live_docs (docs_by_input ss) (drop at lives)) none) ∙ has.docs) has.gathers
