-- The rows of a merged segment that are live later have the documents of the inputs' rows that are live then.
use Rattle.std.proofs.Common.{◌≡◌, ℕ, ◌+◌, ◌<◌, ◌≤◌, zero, suc, Bool, true, false, not, cond, List, [], ◌∷◌, ◌++◌, length, get_or, map, refl, sym, ap, subst, ◌∙◌, arith, add-one}
use Rattle.std.specs.List.{AllZip, AllByRecursion}
use Rattle.std.proofs.lemmas.List.{append_assoc, map-append, length-append, length-map, get_or-map, get_or_default}
use Rattle.std.proofs.Math.Seq.{get_or-append_seam}
use Rattle.nrt_base.specs.declared.doc.Doc.{Doc}
use Rattle.seg_merge.specs.declared.task.RowFrom.{RowFrom}
use Rattle.seg_merge.specs.Merging.{live_docs, all_live_docs, row_from, origins_in, origins, is_live_at, carried, IsWithin, AreAsLong}

-- of the rows that were noted, which are live
abbrev picks : (noted live : List Bool) → List Bool
picks [] live = []
picks (n ∷ noted) [] = []
picks (n ∷ noted) (l ∷ live) = cond n (l ∷ picks noted live) (picks noted live)

-- ---- one input

-- whether the rows that were noted are live, from this row on
abbrev values : (row : ℕ) (noted live : List Bool) → List Bool
values row [] live = []
values row (n ∷ noted) live = cond n (get_or live row false ∷ values (row + 1) noted live) (values (row + 1) noted live)

shift : (row : ℕ) (noted : List Bool) (l : Bool) (live : List Bool) → values (row + 1) noted (l ∷ live) ≡ values row noted live
shift row [] l live = refl
shift row (n ∷ noted) l live =
    let e : get_or (l ∷ live) (row + 1) false ≡ get_or live row false = rw add-one refl in
    let h = shift (row + 1) noted l live in
    cc

values_are : (noted live : List Bool) → IsWithin live noted → values 0 noted live ≡ picks noted live
values_are [] live is = refl
values_are (n ∷ noted) [] is = absurd is
values_are (n ∷ noted) (l ∷ live) is =
    let h = shift 0 noted l live ∙ values_are noted live is.1 in
    ap (λ (xs : List Bool). cond n (l ∷ xs) xs) h

origin_values : (input row : ℕ) (noted : List Bool) (lives : List (List Bool)) (live : List Bool) → get_or lives input [] ≡ live → carried (origins_in input row noted) lives ≡ values row noted live
origin_values input row [] lives live e = refl
origin_values input row (true ∷ noted) lives live e =
    let h = origin_values input (row + 1) noted lives live e in
    let v : is_live_at lives (row_from input row) ≡ get_or live row false = ap (λ (xs : List Bool). get_or xs row false) e in
    cc
origin_values input row (false ∷ noted) lives live e = origin_values input (row + 1) noted lives live e

picked : (docs : List Doc) (noted live : List Bool) → IsWithin live noted → live_docs (live_docs docs noted) (picks noted live) ≡ live_docs docs live
picked [] noted live is = refl
picked (d ∷ docs) [] [] is = refl
picked (d ∷ docs) [] (l ∷ live) is = absurd is
picked (d ∷ docs) (n ∷ noted) [] is = absurd is
picked (d ∷ docs) (true ∷ noted) (true ∷ live) is = ap (λ (ds : List Doc). d ∷ ds) (picked docs noted live is.1)
picked (d ∷ docs) (true ∷ noted) (false ∷ live) is = picked docs noted live is.1
picked (d ∷ docs) (false ∷ noted) (true ∷ live) is = let bad = is.0 refl in absurd cc
picked (d ∷ docs) (false ∷ noted) (false ∷ live) is = picked docs noted live is.1

as_many : (docs : List Doc) (noted live : List Bool) → length docs ≡ length noted → IsWithin live noted → length (live_docs docs noted) ≡ length (picks noted live)
as_many [] [] live long is = refl
as_many [] (n ∷ noted) live long is = absurd (omega (arith, long))
as_many (d ∷ docs) [] live long is = absurd (omega (arith, long))
as_many (d ∷ docs) (n ∷ noted) [] long is = absurd is
as_many (d ∷ docs) (true ∷ noted) (l ∷ live) long is = let h = as_many docs noted live (omega (arith, long)) is.1 in omega (arith, h)
as_many (d ∷ docs) (false ∷ noted) (l ∷ live) long is = as_many docs noted live (omega (arith, long)) is.1

side_by_side : (docs others : List Doc) (live rows : List Bool) → length docs ≡ length live → live_docs (docs ++ others) (live ++ rows) ≡ live_docs docs live ++ live_docs others rows
side_by_side [] others [] rows long = refl
side_by_side [] others (l ∷ live) rows long = absurd (omega (arith, long))
side_by_side (d ∷ docs) others [] rows long = absurd (omega (arith, long))
side_by_side (d ∷ docs) others (true ∷ live) rows long = ap (λ (ds : List Doc). d ∷ ds) (side_by_side docs others live rows (omega (arith, long)))
side_by_side (d ∷ docs) others (false ∷ live) rows long = side_by_side docs others live rows (omega (arith, long))

-- ---- all inputs

abbrev IsAsLong : List Doc → List Bool → Type 0
IsAsLong docs noted = length docs ≡ length noted

pub carried_from : (front : List (List Bool)) (inputs : List (List Doc)) (noted lives : List (List Bool)) (input : ℕ) → length front ≡ input → AllZip IsAsLong inputs noted → AllZip IsWithin lives noted
    → live_docs (all_live_docs inputs noted) (carried (origins input noted) (front ++ lives)) ≡ all_live_docs inputs lives
carried_from front [] [] lives input at long within = refl
carried_from front [] (n ∷ noted) lives input at long within = absurd long
carried_from front (docs ∷ inputs) [] lives input at long within = absurd long
carried_from front (docs ∷ inputs) (n ∷ noted) [] input at long within = absurd within
carried_from front (docs ∷ inputs) (n ∷ noted) (l ∷ lives) input at long within =
    let all = front ++ l ∷ lives in
    let mine = carried (origins_in input 0 n) all in
    let others = carried (origins (input + 1) noted) all in
    let there : get_or all input [] ≡ l = ap (λ (i : ℕ). get_or all i []) (sym at) ∙ get_or-append_seam front l lives [] in
    let first : mine ≡ picks n l = origin_values input 0 n all l there ∙ values_are n l within.0 in
    let whole : all ≡ (front ++ l ∷ []) ++ lives = sym (append_assoc front (l ∷ []) lives) in
    let rest : live_docs (all_live_docs inputs noted) others ≡ all_live_docs inputs lives =
    ap (λ (xs : List (List Bool)). live_docs (all_live_docs inputs noted) (carried (origins (input + 1) noted) xs)) whole
    ∙ carried_from (front ++ l ∷ []) inputs noted lives (input + 1) (omega (arith, at, length-append front (l ∷ []))) long.1 within.1 in
    ap (live_docs (live_docs docs n ++ all_live_docs inputs noted)) (map-append (is_live_at all) (origins_in input 0 n) (origins (input + 1) noted))
    ∙ side_by_side (live_docs docs n) (all_live_docs inputs noted) mine others (as_many docs n l long.0 within.0 ∙ sym (ap length first))
    ∙ ap (λ (ds : List Doc). ds ++ live_docs (all_live_docs inputs noted) others) (ap (live_docs (live_docs docs n)) first ∙ picked docs n l within.0)
    ∙ ap (λ (ds : List Doc). live_docs docs l ++ ds) rest

-- CARRYING: the merged rows that are live where they come from have the documents that are live there, input by input.
pub carried_documents : (inputs : List (List Doc)) (noted lives : List (List Bool)) → AllZip IsAsLong inputs noted → AllZip IsWithin lives noted
    → live_docs (all_live_docs inputs noted) (carried (origins 0 noted) lives) ≡ all_live_docs inputs lives
carried_documents inputs noted lives long within = carried_from [] inputs noted lives 0 refl long within

-- ---- the rows of a merged segment are marked dead one after the other

-- the rows that are dead where they come from
abbrev pub dead_of : List RowFrom → List (List Bool) → List Bool
dead_of from lives = map not (carried from lives)

pub IsInRange : List (List Bool) → RowFrom → Type 0
IsInRange lives from = (from.input < length lives) × (from.row < length (get_or lives from.input []))

abbrev AreAllInRange : List (List Bool) → List RowFrom → Type 0
AreAllInRange lives from = AllByRecursion (IsInRange lives) from

in_one : (lives : List (List Bool)) (input row : ℕ) (live : List Bool) → input < length lives → row + length live ≤ length (get_or lives input []) → AreAllInRange lives (origins_in input row live)
unfolding IsInRange
in_one lives input row [] there fits = tt
in_one lives input row (true ∷ live) there fits = ((there, omega (arith, fits)), in_one lives input (row + 1) live there (omega (arith, fits)))
in_one lives input row (false ∷ live) there fits = in_one lives input (row + 1) live there (omega (arith, fits))

both_in : (lives : List (List Bool)) (a b : List RowFrom) → AreAllInRange lives a → AreAllInRange lives b → AreAllInRange lives (a ++ b)
both_in lives [] b p q = q
both_in lives (x ∷ a) b p q = (p.0, both_in lives a b p.1 q)

all_in : (front : List (List Bool)) (noted lives : List (List Bool)) (input : ℕ) → length front ≡ input → AllZip AreAsLong lives noted → AreAllInRange (front ++ lives) (origins input noted)
all_in front [] lives input at long = tt
all_in front (n ∷ noted) [] input at long = absurd long
all_in front (n ∷ noted) (l ∷ lives) input at long =
    let all = front ++ l ∷ lives in
    let there : get_or all input [] ≡ l = ap (λ (i : ℕ). get_or all i []) (sym at) ∙ get_or-append_seam front l lives [] in
    let whole : all ≡ (front ++ l ∷ []) ++ lives = sym (append_assoc front (l ∷ []) lives) in
    both_in all (origins_in input 0 n) (origins (input + 1) noted)
    (in_one all input 0 n (omega (arith, at, length-append front (l ∷ lives))) (omega (arith, long.0, ap length there)))
    (subst (λ (xs : List (List Bool)). AreAllInRange xs (origins (input + 1) noted)) (sym whole) (all_in (front ++ l ∷ []) noted lives (input + 1) (omega (arith, at, length-append front (l ∷ []))) long.1))

at_place : (lives : List (List Bool)) (from : List RowFrom) (i : ℕ) (d : RowFrom) → AreAllInRange lives from → i < length from → IsInRange lives (get_or from i d)
at_place lives [] i d all lt = absurd (omega (arith, lt))
at_place lives (x ∷ from) zero d all lt = all.0
at_place lives (x ∷ from) (suc i) d all lt = at_place lives from i d all.1 (omega (arith, lt))

-- where a row comes from is a row of an input
pub place_in : (noted lives : List (List Bool)) (from slice : List RowFrom) (i : ℕ) (d : RowFrom) → from ≡ origins 0 noted → slice ≡ from → AllZip AreAsLong lives noted → i < length slice → IsInRange lives (get_or slice i d)
place_in noted lives from slice i d is same long lt =
    at_place lives slice i d (subst (AreAllInRange lives) (sym (same ∙ is)) (all_in [] noted lives 0 refl long)) lt

pub input_in : (lives : List (List Bool)) (from : RowFrom) → IsInRange lives from → from.input < length lives
unfolding IsInRange
input_in lives from is = is.0

pub row_in : (lives : List (List Bool)) (from : RowFrom) (l : List Bool) → IsInRange lives from → l ≡ get_or lives from.input l → from.row < length l
unfolding IsInRange
row_in lives from l is e =
    let there : l ≡ get_or lives from.input [] = e ∙ sym (get_or_default lives from.input [] l is.0) in
    omega (arith, is.1, ap length there)

pub twice_not : (live : List Bool) → map not (map not live) ≡ live
twice_not [] = refl
twice_not (true ∷ live) = ap (λ (ls : List Bool). true ∷ ls) (twice_not live)
twice_not (false ∷ live) = ap (λ (ls : List Bool). false ∷ ls) (twice_not live)

-- whether the row at a place is dead
pub dead_at : (from slice : List RowFrom) (lives : List (List Bool)) (i : ℕ) (d : RowFrom) (l : List Bool) (b : Bool) → slice ≡ from → i < length slice → IsInRange lives (get_or slice i d) → l ≡ get_or lives (get_or slice i d).input l
    → b ≡ get_or l (get_or slice i d).row false → get_or (dead_of from lives) i false ≡ not b
dead_at from slice lives i d l b same lt is el eb =
    let f = get_or slice i d in
    let there : l ≡ get_or lives f.input [] = el ∙ sym (get_or_default lives f.input [] l (input_in lives f is)) in
    let in_from : i < length from = subst (λ (xs : List RowFrom). i < length xs) same lt in
    get_or-map not (carried from lives) i true false (omega (arith, in_from, length-map from (is_live_at lives)))
    ∙ ap not (get_or-map (is_live_at lives) from i d true in_from ∙ ap (λ (xs : List RowFrom). is_live_at lives (get_or xs i d)) (sym same) ∙ ap (λ (xs : List Bool). get_or xs f.row false) (sym there) ∙ sym eb)
