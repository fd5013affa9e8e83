-- Rows that are gathered one after the other, and the merged segment of them.
use Rattle.std.proofs.Common.{◌≡◌, ℕ, zero, suc, ◌+◌, ◌<◌, Bool, true, false, cond, List, [], ◌∷◌, ◌++◌, length, get_or, drop, replicate, refl, sym, ap, subst, ◌∙◌, arith, drop-cons}
use Rattle.std.specs.List.{AllZip}
use Rattle.std.proofs.lemmas.List.{length-append}
use Rattle.nrt_base.specs.declared.doc.Doc.{Doc}
use Rattle.nrt_base.specs.declared.numbers.SegNo.{SegNo}
use Rattle.nrt_base.proofs.Plain.{moved_over}
use Rattle.seg_build.specs.Given.{Shown}
use Rattle.seg_build.specs.declared.files.SegFiles.{SegFiles}
use Rattle.seg_build.specs.Built.{record_of, IsBuilt}
use Rattle.seg_merge.specs.declared.task.RowFrom.{RowFrom}
use Rattle.seg_merge.specs.Merging.{live_docs, all_live_docs, row_from, origins_in, origins, docs_by_input, HasAsManyRows}

-- ---- the rows of one input

docs_step : (docs : List Doc) (live : List Bool) (at : ℕ) (d : Doc) → at < length docs → length live ≡ length docs
    → live_docs (drop at docs) (drop at live) ≡ cond (get_or live at false) (get_or docs at d ∷ []) [] ++ live_docs (drop (at + 1) docs) (drop (at + 1) live)
docs_step docs live at d lt long =
    let up : suc at ≡ at + 1 = omega arith in
    ap (λ (ds : List Doc). live_docs ds (drop at live)) (drop-cons docs at d lt) ∙ ap (live_docs (get_or docs at d ∷ drop (suc at) docs)) (drop-cons live at false (omega (arith, lt, long)))
    ∙ by_row (get_or live at false) (get_or docs at d) (drop (suc at) docs) (drop (suc at) live)
    ∙ ap (λ (n : ℕ). cond (get_or live at false) (get_or docs at d ∷ []) [] ++ live_docs (drop n docs) (drop n live)) up
  where
    by_row : (b : Bool) (x : Doc) (ds : List Doc) (ls : List Bool) → live_docs (x ∷ ds) (b ∷ ls) ≡ cond b (x ∷ []) [] ++ live_docs ds ls
    by_row true x ds ls = refl
    by_row false x ds ls = refl

from_step : (input : ℕ) (live : List Bool) (at : ℕ) → at < length live → origins_in input at (drop at live) ≡ cond (get_or live at false) (row_from input at ∷ []) [] ++ origins_in input (at + 1) (drop (at + 1) live)
from_step input live at lt =
    let up : suc at ≡ at + 1 = omega arith in
    ap (origins_in input at) (drop-cons live at false lt) ∙ by_row (get_or live at false) (drop (suc at) live) ∙ ap (λ (n : ℕ). cond (get_or live at false) (row_from input at ∷ []) [] ++ origins_in input (at + 1) (drop n live)) up
  where
    by_row : (b : Bool) (ls : List Bool) → origins_in input at (b ∷ ls) ≡ cond b (row_from input at ∷ []) [] ++ origins_in input (at + 1) ls
    by_row true ls = refl
    by_row false ls = refl

pub docs_taken : (docs : List Doc) (live : List Bool) (at : ℕ) (old new whole : List Doc) (b : Bool) → at < length docs → length live ≡ length docs → b ≡ get_or live at false → ((d : Doc) → new ≡ old ++ cond b (get_or docs at d ∷ []) [])
    → old ++ live_docs (drop at docs) (drop at live) ≡ whole → new ++ live_docs (drop (at + 1) docs) (drop (at + 1) live) ≡ whole
docs_taken docs live at old new whole b lt long is put so_far =
    moved_over old new (cond b (get_or docs at no_doc ∷ []) []) (live_docs (drop at docs) (drop at live)) (live_docs (drop (at + 1) docs) (drop (at + 1) live)) whole
    (docs_step docs live at no_doc lt long ∙ ap (λ (x : Bool). cond x (get_or docs at no_doc ∷ []) [] ++ live_docs (drop (at + 1) docs) (drop (at + 1) live)) (sym is)) so_far (put no_doc)
  where
    no_doc : Doc
    no_doc = record { key = []; text = [] }

pub from_taken : (input : ℕ) (live : List Bool) (at : ℕ) (old new whole : List RowFrom) (b : Bool) → at < length live → b ≡ get_or live at false → new ≡ old ++ cond b (row_from input at ∷ []) []
    → old ++ origins_in input at (drop at live) ≡ whole → new ++ origins_in input (at + 1) (drop (at + 1) live) ≡ whole
from_taken input live at old new whole b lt is put so_far =
    moved_over old new (cond b (row_from input at ∷ []) []) (origins_in input at (drop at live)) (origins_in input (at + 1) (drop (at + 1) live)) whole
    (from_step input live at lt ∙ ap (λ (x : Bool). cond x (row_from input at ∷ []) [] ++ origins_in input (at + 1) (drop (at + 1) live)) (sym is)) so_far put

-- ---- all inputs

pub inputs_step : (inputs : List Shown) (lives : List (List Bool)) (at : ℕ) (s : Shown) (l : List Bool) → at < length inputs → at < length lives → s ≡ get_or inputs at s → l ≡ get_or lives at l
    → all_live_docs (docs_by_input (drop at inputs)) (drop at lives) ≡ live_docs s.docs l ++ all_live_docs (docs_by_input (drop (at + 1) inputs)) (drop (at + 1) lives)
inputs_step inputs lives at s l li ll es el =
    let up : suc at ≡ at + 1 = omega arith in
    ap (λ (ss : List Shown). all_live_docs (docs_by_input ss) (drop at lives)) (drop-cons inputs at s li ∙ ap (λ (x : Shown). x ∷ drop (suc at) inputs) (sym es))
    ∙ ap (all_live_docs (s.docs ∷ docs_by_input (drop (suc at) inputs))) (drop-cons lives at l ll ∙ ap (λ (x : List Bool). x ∷ drop (suc at) lives) (sym el))
    ∙ ap (λ (n : ℕ). live_docs s.docs l ++ all_live_docs (docs_by_input (drop n inputs)) (drop n lives)) up

pub origins_step : (lives : List (List Bool)) (at : ℕ) (l : List Bool) → at < length lives → l ≡ get_or lives at l → origins at (drop at lives) ≡ origins_in at 0 l ++ origins (at + 1) (drop (at + 1) lives)
origins_step lives at l ll el =
    let up : suc at ≡ at + 1 = omega arith in
    ap (origins at) (drop-cons lives at l ll ∙ ap (λ (x : List Bool). x ∷ drop (suc at) lives) (sym el)) ∙ ap (λ (n : ℕ). origins_in at 0 l ++ origins (at + 1) (drop n lives)) up

pub many_lives : (inputs : List Shown) (lives : List (List Bool)) → AllZip HasAsManyRows inputs lives → length lives ≡ length inputs
many_lives [] [] all = refl
many_lives [] (l ∷ lives) all = absurd all
many_lives (s ∷ inputs) [] all = absurd all
many_lives (s ∷ inputs) (l ∷ lives) all = omega (arith, many_lives inputs lives all.1)

zipped_at : (inputs : List Shown) (lives : List (List Bool)) (i : ℕ) (s : Shown) (l : List Bool) → AllZip HasAsManyRows inputs lives → i < length inputs → HasAsManyRows (get_or inputs i s) (get_or lives i l)
zipped_at [] lives i s l all lt = absurd (omega (arith, lt))
zipped_at (x ∷ inputs) [] i s l all lt = absurd all
zipped_at (x ∷ inputs) (y ∷ lives) zero s l all lt = all.0
zipped_at (x ∷ inputs) (y ∷ lives) (suc i) s l all lt = zipped_at inputs lives i s l all.1 (omega (arith, lt))

pub its_rows : (inputs : List Shown) (lives : List (List Bool)) (i : ℕ) (s : Shown) (l : List Bool) → AllZip HasAsManyRows inputs lives → i < length inputs → s ≡ get_or inputs i s → l ≡ get_or lives i l → HasAsManyRows s l
its_rows inputs lives i s l all lt es el = subst (λ (x : Shown). HasAsManyRows x l) (sym es) (subst (HasAsManyRows (get_or inputs i s)) (sym el) (zipped_at inputs lives i s l all lt))

-- ---- as many rows as origins

one_many : (input row : ℕ) (docs : List Doc) (live : List Bool) → length live ≡ length docs → length (origins_in input row live) ≡ length (live_docs docs live)
one_many input row [] [] long = refl
one_many input row [] (l ∷ live) long = absurd (omega (arith, long))
one_many input row (d ∷ docs) [] long = absurd (omega (arith, long))
one_many input row (d ∷ docs) (true ∷ live) long = omega (arith, one_many input (row + 1) docs live (omega (arith, long)))
one_many input row (d ∷ docs) (false ∷ live) long = one_many input (row + 1) docs live (omega (arith, long))

all_many : (input : ℕ) (inputs : List Shown) (lives : List (List Bool)) → AllZip HasAsManyRows inputs lives → length (origins input lives) ≡ length (all_live_docs (docs_by_input inputs) lives)
all_many input [] [] all = refl
all_many input [] (l ∷ lives) all = absurd all
all_many input (s ∷ inputs) [] all = absurd all
all_many input (s ∷ inputs) (l ∷ lives) all =
    omega (arith, length-append (origins_in input 0 l) (origins (input + 1) lives), length-append (live_docs s.docs l) (all_live_docs (docs_by_input inputs) lives), one_many input 0 s.docs l all.0, all_many (input + 1) inputs lives all.1)

pub all_live : (inputs : List Shown) (lives : List (List Bool)) (docs : List Doc) (from : List RowFrom) (live : List Bool) → AllZip HasAsManyRows inputs lives → docs ≡ all_live_docs (docs_by_input inputs) lives → from ≡ origins 0 lives
    → live ≡ replicate (length docs) true → live ≡ replicate (length from) true
all_live inputs lives docs from live all rows is_from is =
    let many : length docs ≡ length from = omega (arith, ap length rows, ap length is_from, all_many 0 inputs lives all) in
    is ∙ ap (λ (m : ℕ). replicate m true) many

pub built_for : (seg : SegNo) (docs rows : List Doc) (live : List Bool) (built : SegFiles) → built.seg ≡ seg → built.live ≡ live → docs ≡ rows → IsBuilt (record_of seg live) built.files docs live → IsBuilt (record_of built.seg built.live) built.files rows built.live
built_for seg docs rows live built is_seg is_live same is =
    subst (λ (n : SegNo). IsBuilt (record_of n built.live) built.files rows built.live) (sym is_seg)
    (subst (λ (ls : List Bool). IsBuilt (record_of seg ls) built.files rows ls) (sym is_live) (subst (λ (ds : List Doc). IsBuilt (record_of seg live) built.files ds live) same is))
