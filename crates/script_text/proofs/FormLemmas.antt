-- A script that bytes spell is in form.
use Rattle.std.proofs.Common.{◌≡◌, ◌<◌, ◌≤◌, ◌+◌, ℕ, zero, suc, Bool, true, false, List, [], ◌∷◌, ◌++◌, map, filter, refl, ap, ◌∙◌, sym, subst, arith, append_assoc}
use Rattle.std.specs.Prelude.{◌&&◌, not, ◌==◌, nat_lt, ◌⊎◌, if◌then◌else◌}
use Rattle.std.proofs.Common.{inl, inr}
use Rattle.std.specs.List.{list_all, flat_map}
use Rattle.std.proofs.lemmas.List.{append-nil}
use Rattle.std.proofs.lemmas.List.Folds.{list_all-append}
use Rattle.std.proofs.lemmas.Bool.{and_from, and_parts}
use Rattle.std.proofs.lemmas.Bool.Decides.{nat_tests}
use Rattle.nrt_base.specs.Bytes.{is_between}
use Rattle.nrt_base.specs.declared.numbers.LaneNo.{LaneNo}
use Rattle.script_serving.specs.declared.script.Line.{Line}
use Rattle.script_serving.specs.declared.script.Script.{Script}
use Rattle.script_serving.specs.Lines.{lines_of_phase, lines_under}
use Rattle.script_serving.specs.Form.{is_command, is_under, are_apart, is_phase, are_ascending, are_distinct, IsInForm}
use Rattle.script_text.specs.Grammar.{Statement, statements_from, statements_of, lines_of_text, is_statement, SpellsPhases, SpellsLogged, SpellsBody, SpellsStatements, SpellsScript, of_lane, lane_entry, lanes_from, phase_of}

-- what holds of all lines holds of those that a test keeps
pub all_kept : (p q : Line → Bool) (lines : List Line) → list_all p lines ≡ true → list_all p (filter q lines) ≡ true
all_kept p q [] h = refl
all_kept p q (line ∷ lines) h = let k = and_parts (p line) (list_all p lines) h in by_test (q line) refl k.0 (all_kept p q lines k.1)
  where
    by_test : (t : Bool) → q line ≡ t → p line ≡ true → list_all p (filter q lines) ≡ true → list_all p (filter q (line ∷ lines)) ≡ true
    by_test true e f ih = rw e (and_from (p line) (list_all p (filter q lines)) f ih)
    by_test false e f ih = rw e ih

-- the lines under these lanes
abbrev pub under : List (LaneNo × List Line) → List Line
under lanes = flat_map (λ lane. lane.1) lanes

pub under_entry : (k : ℕ) (lines : List Line) (rest : List (LaneNo × List Line)) → under (lane_entry k lines ++ rest) ≡ lines ++ under rest
under_entry k [] rest = refl
under_entry k (line ∷ lines) rest = refl

all_under : (p : Line → Bool) (more k : ℕ) (lines : List Line) → list_all p lines ≡ true → list_all p (under (lanes_from more k lines)) ≡ true
all_under p zero k lines h = refl
all_under p (suc more) k lines h =
    ap (list_all p) (under_entry k (of_lane k lines) (lanes_from more (k + 1) lines))
    ∙ (list_all-append p (of_lane k lines) (under (lanes_from more (k + 1) lines))
    ∙ and_from (list_all p (of_lane k lines)) (list_all p (under (lanes_from more (k + 1) lines))) (all_kept p (λ line. line.at.lane.0 == k) lines h) (all_under p more (k + 1) lines h))

-- the lines of a phase are those of its statements
pub all_of_phase : (p : Line → Bool) (lines : List Line) → list_all p lines ≡ true → list_all p (lines_of_phase (phase_of lines)) ≡ true
all_of_phase p lines h = all_under p 8 1 lines h

-- the number of a line
abbrev pub number_of : Line → ℕ
number_of line = line.at.line.0

-- no line of these has the number of this one
abbrev is_apart : Line → List Line → Bool
is_apart line lines = list_all (λ other. not (number_of other == number_of line)) lines

-- no line of the first has the number of one of the second
abbrev are_apart_from : List Line → List Line → Bool
are_apart_from xs ys = list_all (λ x. is_apart x ys) xs

distinct-append : (xs ys : List Line) → are_distinct xs ≡ true → are_distinct ys ≡ true → are_apart_from xs ys ≡ true → are_distinct (xs ++ ys) ≡ true
distinct-append [] ys dx dy apart = dy
distinct-append (x ∷ xs) ys dx dy apart =
    let d = and_parts (is_apart x xs) (are_distinct xs) dx in
    let a = and_parts (is_apart x ys) (are_apart_from xs ys) apart in
    and_from (is_apart x (xs ++ ys)) (are_distinct (xs ++ ys))
    (list_all-append (λ other. not (number_of other == number_of x)) xs ys ∙ and_from (is_apart x xs) (is_apart x ys) d.0 a.0)
    (distinct-append xs ys d.1 dy a.1)

distinct_kept : (q : Line → Bool) (lines : List Line) → are_distinct lines ≡ true → are_distinct (filter q lines) ≡ true
distinct_kept q [] d = refl
distinct_kept q (line ∷ lines) d = let k = and_parts (is_apart line lines) (are_distinct lines) d in by_test (q line) refl k.0 (distinct_kept q lines k.1)
  where
    by_test : (t : Bool) → q line ≡ t → is_apart line lines ≡ true → are_distinct (filter q lines) ≡ true → are_distinct (filter q (line ∷ lines)) ≡ true
    by_test true e f ih = rw e (and_from (is_apart line (filter q lines)) (are_distinct (filter q lines)) (all_kept (λ other. not (number_of other == number_of line)) q lines f) ih)
    by_test false e f ih = rw e ih

-- a line that none of these equals in number equals none of them
turned : (line : Line) (xs : List Line) → is_apart line xs ≡ true → list_all (λ x. not (number_of line == number_of x)) xs ≡ true
turned line [] h = refl
turned line (x ∷ xs) h =
    let k = and_parts (not (number_of x == number_of line)) (is_apart line xs) h in
    let here : not (number_of line == number_of x) ≡ true = let f = k.0 in grind (arith, nat_tests) in
    and_from (not (number_of line == number_of x)) (list_all (λ x. not (number_of line == number_of x)) xs) here (turned line xs k.1)

apart_cons : (line : Line) (xs ys : List Line) → list_all (λ x. not (number_of line == number_of x)) xs ≡ true → are_apart_from xs ys ≡ true
    → are_apart_from xs (line ∷ ys) ≡ true
apart_cons line [] ys h a = refl
apart_cons line (x ∷ xs) ys h a =
    let k = and_parts (not (number_of line == number_of x)) (list_all (λ x. not (number_of line == number_of x)) xs) h in
    let b = and_parts (is_apart x ys) (are_apart_from xs ys) a in
    and_from (not (number_of line == number_of x) && is_apart x ys) (are_apart_from xs (line ∷ ys)) (and_from (not (number_of line == number_of x)) (is_apart x ys) k.0 b.0) (apart_cons line xs ys k.1 b.1)

-- the lines of two lanes are apart
lanes_apart : (j k : ℕ) (lines : List Line) → j < k → are_distinct lines ≡ true → are_apart_from (of_lane j lines) (of_lane k lines) ≡ true
lanes_apart j k [] h d = refl
lanes_apart j k (line ∷ lines) h d =
    by_tests (line.at.lane.0 == j) (line.at.lane.0 == k) refl refl (and_parts (is_apart line lines) (are_distinct lines) d).0
    (lanes_apart j k lines h (and_parts (is_apart line lines) (are_distinct lines) d).1)
  where
    taken : (m : ℕ) → line.at.lane.0 == m ≡ true → of_lane m (line ∷ lines) ≡ line ∷ of_lane m lines
    taken m e = rw e refl

    left_out : (m : ℕ) → line.at.lane.0 == m ≡ false → of_lane m (line ∷ lines) ≡ of_lane m lines
    left_out m e = rw e refl

    by_tests : (t u : Bool) → line.at.lane.0 == j ≡ t → line.at.lane.0 == k ≡ u → is_apart line lines ≡ true → are_apart_from (of_lane j lines) (of_lane k lines) ≡ true
        → are_apart_from (of_lane j (line ∷ lines)) (of_lane k (line ∷ lines)) ≡ true
    by_tests true true e f a ih = absurd (grind (arith, nat_tests))
    by_tests true false e f a ih =
        ap (λ (xs : List Line). are_apart_from xs (of_lane k (line ∷ lines))) (taken j e)
        ∙ (ap (are_apart_from (line ∷ of_lane j lines)) (left_out k f)
        ∙ and_from (is_apart line (of_lane k lines)) (are_apart_from (of_lane j lines) (of_lane k lines))
        (all_kept (λ other. not (number_of other == number_of line)) (λ x. x.at.lane.0 == k) lines a) ih)
    by_tests false true e f a ih =
        ap (λ (xs : List Line). are_apart_from xs (of_lane k (line ∷ lines))) (left_out j e)
        ∙ (ap (are_apart_from (of_lane j lines)) (taken k f)
        ∙ apart_cons line (of_lane j lines) (of_lane k lines) (all_kept (λ x. not (number_of line == number_of x)) (λ x. x.at.lane.0 == j) lines (turned line lines a)) ih)
    by_tests false false e f a ih =
        ap (λ (xs : List Line). are_apart_from xs (of_lane k (line ∷ lines))) (left_out j e) ∙ (ap (are_apart_from (of_lane j lines)) (left_out k f) ∙ ih)

apart-append : (xs ys zs : List Line) → are_apart_from xs ys ≡ true → are_apart_from xs zs ≡ true → are_apart_from xs (ys ++ zs) ≡ true
apart-append [] ys zs h g = refl
apart-append (x ∷ xs) ys zs h g =
    let a = and_parts (is_apart x ys) (are_apart_from xs ys) h in
    let b = and_parts (is_apart x zs) (are_apart_from xs zs) g in
    and_from (is_apart x (ys ++ zs)) (are_apart_from xs (ys ++ zs))
    (list_all-append (λ other. not (number_of other == number_of x)) ys zs ∙ and_from (is_apart x ys) (is_apart x zs) a.0 b.0) (apart-append xs ys zs a.1 b.1)

apart_nil : (xs : List Line) → are_apart_from xs [] ≡ true
apart_nil [] = refl
apart_nil (x ∷ xs) = apart_nil xs

lane_apart : (j more k : ℕ) (lines : List Line) → j < k → are_distinct lines ≡ true → are_apart_from (of_lane j lines) (under (lanes_from more k lines)) ≡ true
lane_apart j zero k lines h d = apart_nil (of_lane j lines)
lane_apart j (suc more) k lines h d =
    ap (are_apart_from (of_lane j lines)) (under_entry k (of_lane k lines) (lanes_from more (k + 1) lines))
    ∙ apart-append (of_lane j lines) (of_lane k lines) (under (lanes_from more (k + 1) lines)) (lanes_apart j k lines h d) (lane_apart j more (k + 1) lines (omega arith) d)

distinct_under : (more k : ℕ) (lines : List Line) → are_distinct lines ≡ true → are_distinct (under (lanes_from more k lines)) ≡ true
distinct_under zero k lines d = refl
distinct_under (suc more) k lines d =
    ap are_distinct (under_entry k (of_lane k lines) (lanes_from more (k + 1) lines))
    ∙ distinct-append (of_lane k lines) (under (lanes_from more (k + 1) lines)) (distinct_kept (λ line. line.at.lane.0 == k) lines d) (distinct_under more (k + 1) lines d)
    (lane_apart k more (k + 1) lines (omega arith) d)

-- the numbers ascend from this one on
abbrev pub AscendFrom : ℕ → List Line → Type 0
AscendFrom n [] = Unit {0}
AscendFrom n (line ∷ lines) = (n ≤ number_of line) × AscendFrom (number_of line + 1) lines

pub lower : (m n : ℕ) (lines : List Line) → m ≤ n → AscendFrom n lines → AscendFrom m lines
lower m n [] h a = tt
lower m n (line ∷ lines) h a = (omega (arith, a.0), a.1)

all_above : (n : ℕ) (lines : List Line) → AscendFrom (n + 1) lines → list_all (λ later. nat_lt n (number_of later)) lines ≡ true
all_above n [] a = refl
all_above n (line ∷ lines) a =
    let above : n + 1 ≤ number_of line = a.0 in
    let here : nat_lt n (number_of line) ≡ true = grind (arith, nat_tests) in
    and_from (nat_lt n (number_of line)) (list_all (λ later. nat_lt n (number_of later)) lines) here (all_above n lines (lower (n + 1) (number_of line + 1) lines (omega arith) a.1))

pub ascending : (n : ℕ) (lines : List Line) → AscendFrom n lines → are_ascending lines ≡ true
ascending n [] a = refl
ascending n (line ∷ lines) a =
    and_from (list_all (λ later. nat_lt (number_of line) (number_of later)) lines) (are_ascending lines) (all_above (number_of line) lines a.1) (ascending (number_of line + 1) lines a.1)

apart_above : (line : Line) (n : ℕ) (lines : List Line) → number_of line < n → AscendFrom n lines → is_apart line lines ≡ true
apart_above line n [] h a = refl
apart_above line n (other ∷ lines) h a =
    let above : n ≤ number_of other = a.0 in
    let here : not (number_of other == number_of line) ≡ true = grind (arith, nat_tests) in
    and_from (not (number_of other == number_of line)) (is_apart line lines) here (apart_above line (number_of other + 1) lines (omega arith) a.1)

distinct_from : (n : ℕ) (lines : List Line) → AscendFrom n lines → are_distinct lines ≡ true
distinct_from n [] a = refl
distinct_from n (line ∷ lines) a = and_from (is_apart line lines) (are_distinct lines) (apart_above line (number_of line + 1) lines (omega arith) a.1) (distinct_from (number_of line + 1) lines a.1)

-- the first of two lists, where and_from together ascend
pub front_from : (n : ℕ) (xs ys : List Line) → AscendFrom n (xs ++ ys) → AscendFrom n xs
front_from n [] ys a = tt
front_from n (x ∷ xs) ys a = (a.0, front_from (number_of x + 1) xs ys a.1)

pub back_from : (n : ℕ) (xs ys : List Line) → AscendFrom n (xs ++ ys) → AscendFrom n ys
back_from n [] ys a = a
back_from n (x ∷ xs) ys a = lower n (number_of x + 1) ys (omega (arith, a.0)) (back_from (number_of x + 1) xs ys a.1)

-- lines that a test keeps, before others
kept_from : (q : Line → Bool) (n : ℕ) (xs ys ys' : List Line) → ((m : ℕ) → AscendFrom m ys → AscendFrom m ys') → AscendFrom n (xs ++ ys) → AscendFrom n (filter q xs ++ ys')
kept_from q n [] ys ys' f a = f n a
kept_from q n (x ∷ xs) ys ys' f a = by_test (q x) refl (kept_from q (number_of x + 1) xs ys ys' f a.1)
  where
    by_test : (t : Bool) → q x ≡ t → AscendFrom (number_of x + 1) (filter q xs ++ ys') → AscendFrom n (filter q (x ∷ xs) ++ ys')
    by_test true e ih = rw e (a.0, ih)
    by_test false e ih = rw e (lower n (number_of x + 1) (filter q xs ++ ys') (omega (arith, a.0)) ih)

pub under-append : (lane : ℕ) (xs ys : List (LaneNo × List Line)) → lines_under lane (xs ++ ys) ≡ lines_under lane xs ++ lines_under lane ys
under-append lane [] ys = refl
under-append lane (x ∷ xs) ys = by_test (x.0.0 == lane) refl (under-append lane xs ys)
  where
    by_test : (t : Bool) → x.0.0 == lane ≡ t → lines_under lane (xs ++ ys) ≡ lines_under lane xs ++ lines_under lane ys
        → lines_under lane ((x ∷ xs) ++ ys) ≡ lines_under lane (x ∷ xs) ++ lines_under lane ys
    by_test true e ih = rw e (ap (λ (ls : List Line). x.1 ++ ls) ih ∙ sym (append_assoc x.1 (lines_under lane xs) (lines_under lane ys)))
    by_test false e ih = rw e ih

-- a lane before these has no lines under them
pub none_under : (lane more k : ℕ) (lines : List Line) → lane < k → lines_under lane (lanes_from more k lines) ≡ []
none_under lane zero k lines h = refl
none_under lane (suc more) k lines h =
    under-append lane (lane_entry k (of_lane k lines)) (lanes_from more (k + 1) lines) ∙ (ap (λ (ls : List Line). ls ++ lines_under lane (lanes_from more (k + 1) lines)) (entry (of_lane k lines)) ∙ none_under lane more (k + 1) lines (omega arith))
  where
    other : k == lane ≡ false
    other = grind (arith, nat_tests)

    entry : (ls : List Line) → lines_under lane (lane_entry k ls) ≡ []
    entry [] = refl
    entry (l ∷ ls) = rw other refl

-- the lines under a lane are its lines, or the lane is none of these
pub some_under : (lane more k : ℕ) (lines : List Line) → (lines_under lane (lanes_from more k lines) ≡ of_lane lane lines) ⊎ (lines_under lane (lanes_from more k lines) ≡ [])
some_under lane zero k lines = inr refl
some_under lane (suc more) k lines = by_test (k == lane) refl (some_under lane more (k + 1) lines)
  where
    split : lines_under lane (lanes_from (suc more) k lines) ≡ lines_under lane (lane_entry k (of_lane k lines)) ++ lines_under lane (lanes_from more (k + 1) lines)
    split = under-append lane (lane_entry k (of_lane k lines)) (lanes_from more (k + 1) lines)

    entry : (t : Bool) → k == lane ≡ t → (ls : List Line) → lines_under lane (lane_entry k ls) ≡ (if t then ls else [])
    entry true e [] = refl
    entry true e (l ∷ ls) = rw e (append-nil (l ∷ ls))
    entry false e [] = refl
    entry false e (l ∷ ls) = rw e refl

    by_test : (t : Bool) → k == lane ≡ t → (lines_under lane (lanes_from more (k + 1) lines) ≡ of_lane lane lines) ⊎ (lines_under lane (lanes_from more (k + 1) lines) ≡ [])
        → (lines_under lane (lanes_from (suc more) k lines) ≡ of_lane lane lines) ⊎ (lines_under lane (lanes_from (suc more) k lines) ≡ [])
    by_test true e ih =
        let same : k ≡ lane = grind (arith, nat_tests) in
        let none : lines_under lane (lanes_from more (k + 1) lines) ≡ [] = none_under lane more (k + 1) lines (omega arith) in
        inl (split ∙ (ap (λ (ls : List Line). ls ++ lines_under lane (lanes_from more (k + 1) lines)) (entry true e (of_lane k lines))
        ∙ (ap (λ (ls : List Line). of_lane k lines ++ ls) none ∙ (append-nil (of_lane k lines) ∙ ap (λ j. of_lane j lines) same))))
    by_test false e ih =
        let gone : lines_under lane (lanes_from (suc more) k lines) ≡ lines_under lane (lanes_from more (k + 1) lines) =
        split ∙ ap (λ (ls : List Line). ls ++ lines_under lane (lanes_from more (k + 1) lines)) (entry false e (of_lane k lines)) in
        told ih gone
      where
        told : (lines_under lane (lanes_from more (k + 1) lines) ≡ of_lane lane lines) ⊎ (lines_under lane (lanes_from more (k + 1) lines) ≡ [])
            → lines_under lane (lanes_from (suc more) k lines) ≡ lines_under lane (lanes_from more (k + 1) lines)
            → (lines_under lane (lanes_from (suc more) k lines) ≡ of_lane lane lines) ⊎ (lines_under lane (lanes_from (suc more) k lines) ≡ [])
        told (inl h) g = inl (g ∙ h)
        told (inr h) g = inr (g ∙ h)

-- the lines of a phase stand under their own lanes, which are apart
under_own : (more k : ℕ) (lines : List Line) → 1 ≤ k → k + more ≤ 9 → list_all is_under (lanes_from more k lines) ≡ true
under_own zero k lines low high = refl
under_own (suc more) k lines low high =
    list_all-append is_under (lane_entry k (of_lane k lines)) (lanes_from more (k + 1) lines)
    ∙ and_from (list_all is_under (lane_entry k (of_lane k lines))) (list_all is_under (lanes_from more (k + 1) lines))
    (entry (of_lane k lines) (own lines)) (under_own more (k + 1) lines (omega arith) (omega arith))
  where
    own : (lines : List Line) → list_all (λ line. line.at.lane.0 == k) (of_lane k lines) ≡ true
    own [] = refl
    own (line ∷ lines) = by_test (line.at.lane.0 == k) refl (own lines)
      where
        by_test : (t : Bool) → line.at.lane.0 == k ≡ t → list_all (λ l. l.at.lane.0 == k) (of_lane k lines) ≡ true → list_all (λ l. l.at.lane.0 == k) (of_lane k (line ∷ lines)) ≡ true
        by_test true e ih = rw e (rw e ih)
        by_test false e ih = rw e ih

    within : is_between 1 8 k ≡ true
    within = grind (arith, nat_tests)

    entry : (ls : List Line) → list_all (λ line. line.at.lane.0 == k) ls ≡ true → list_all is_under (lane_entry k ls) ≡ true
    entry [] h = refl
    entry (l ∷ ls) h = rw within (rw h refl)

-- the lanes from this one on are above those before
lanes_above : (j more k : ℕ) (lines : List Line) → j < k → list_all (λ other. not (other.0.0 == j)) (lanes_from more k lines) ≡ true
lanes_above j zero k lines h = refl
lanes_above j (suc more) k lines h =
    list_all-append (λ other. not (other.0.0 == j)) (lane_entry k (of_lane k lines)) (lanes_from more (k + 1) lines)
    ∙ and_from (list_all (λ other. not (other.0.0 == j)) (lane_entry k (of_lane k lines))) (list_all (λ other. not (other.0.0 == j)) (lanes_from more (k + 1) lines))
    (entry (of_lane k lines)) (lanes_above j more (k + 1) lines (omega arith))
  where
    other : not (k == j) ≡ true
    other = grind (arith, nat_tests)

    entry : (ls : List Line) → list_all (λ other. not (other.0.0 == j)) (lane_entry k ls) ≡ true
    entry [] = refl
    entry (l ∷ ls) = rw other refl

lanes_are_apart : (more k : ℕ) (lines : List Line) → are_apart (lanes_from more k lines) ≡ true
lanes_are_apart zero k lines = refl
lanes_are_apart (suc more) k lines = entry (of_lane k lines) (lanes_are_apart more (k + 1) lines)
  where
    entry : (ls : List Line) → are_apart (lanes_from more (k + 1) lines) ≡ true → are_apart (lane_entry k ls ++ lanes_from more (k + 1) lines) ≡ true
    entry [] ih = ih
    entry (l ∷ ls) ih =
        and_from (list_all (λ other. not (other.0.0 == k)) (lanes_from more (k + 1) lines)) (are_apart (lanes_from more (k + 1) lines)) (lanes_above k more (k + 1) lines (omega arith)) ih

phase_is : (lines : List Line) → is_phase (phase_of lines) ≡ true
phase_is lines = and_from (list_all is_under (lanes_from 8 1 lines)) (are_apart (lanes_from 8 1 lines)) (under_own 8 1 lines (omega arith) (omega arith)) (lanes_are_apart 8 1 lines)

pub phases_are : (phases : List (List Line)) → list_all is_phase (map phase_of phases) ≡ true
phases_are [] = refl
phases_are (lines ∷ phases) = and_from (is_phase (phase_of lines)) (list_all is_phase (map phase_of phases)) (phase_is lines) (phases_are phases)

-- the lines of all phases, in the order of the statements
abbrev pub all_lines : List (List Line) → List Line
all_lines [] = []
all_lines (lines ∷ phases) = lines ++ all_lines phases

-- the lines of a script whose phases are these
abbrev pub lines_of_phases : List (List Line) → List Line
lines_of_phases phases = flat_map lines_of_phase (map phase_of phases)

pub all_of_phases : (p : Line → Bool) (phases : List (List Line)) → list_all p (all_lines phases) ≡ true → list_all p (lines_of_phases phases) ≡ true
all_of_phases p [] h = refl
all_of_phases p (lines ∷ phases) h =
    let k = and_parts (list_all p lines) (list_all p (all_lines phases)) (sym (list_all-append p lines (all_lines phases)) ∙ h) in
    list_all-append p (lines_of_phase (phase_of lines)) (lines_of_phases phases)
    ∙ and_from (list_all p (lines_of_phase (phase_of lines))) (list_all p (lines_of_phases phases)) (all_of_phase p lines k.0) (all_of_phases p phases k.1)

-- a line before others, where all ascend, is apart from them
apart_later : (n : ℕ) (xs ys : List Line) → AscendFrom n (xs ++ ys) → are_apart_from xs ys ≡ true
apart_later n [] ys a = refl
apart_later n (x ∷ xs) ys a =
    and_from (is_apart x ys) (are_apart_from xs ys) (apart_above x (number_of x + 1) ys (omega arith) (back_from (number_of x + 1) xs ys a.1)) (apart_later (number_of x + 1) xs ys a.1)

-- what is apart from lines is so where and_from are put under lanes
apart_all : (xs : List Line) (phases : List (List Line)) → are_apart_from xs (all_lines phases) ≡ true → are_apart_from xs (lines_of_phases phases) ≡ true
apart_all [] phases h = refl
apart_all (x ∷ xs) phases h =
    let k = and_parts (is_apart x (all_lines phases)) (are_apart_from xs (all_lines phases)) h in
    and_from (is_apart x (lines_of_phases phases)) (are_apart_from xs (lines_of_phases phases)) (all_of_phases (λ other. not (number_of other == number_of x)) phases k.0) (apart_all xs phases k.1)

pub distinct_phases : (n : ℕ) (phases : List (List Line)) → AscendFrom n (all_lines phases) → are_distinct (lines_of_phases phases) ≡ true
distinct_phases n [] a = refl
distinct_phases n (lines ∷ phases) a =
    distinct-append (lines_of_phase (phase_of lines)) (lines_of_phases phases) (distinct_under 8 1 lines (distinct_from n lines (front_from n lines (all_lines phases) a)))
    (distinct_phases n phases (back_from n lines (all_lines phases) a))
    (all_of_phase (λ x. is_apart x (lines_of_phases phases)) lines (apart_all lines phases (apart_later n lines (all_lines phases) a)))

pub lane_ascends : (lane n : ℕ) (phases : List (List Line)) → AscendFrom n (all_lines phases) → AscendFrom n (flat_map (λ phase. lines_under lane phase.lanes) (map phase_of phases))
lane_ascends lane n [] a = a
lane_ascends lane n (lines ∷ phases) a = told (some_under lane 8 1 lines) (λ m b. lane_ascends lane m phases b)
  where
    told : (lines_under lane (lanes_from 8 1 lines) ≡ of_lane lane lines) ⊎ (lines_under lane (lanes_from 8 1 lines) ≡ [])
        → ((m : ℕ) → AscendFrom m (all_lines phases) → AscendFrom m (flat_map (λ phase. lines_under lane phase.lanes) (map phase_of phases)))
        → AscendFrom n (lines_under lane (lanes_from 8 1 lines) ++ flat_map (λ phase. lines_under lane phase.lanes) (map phase_of phases))
    told (inl e) f =
        subst (λ (ls : List Line). AscendFrom n (ls ++ flat_map (λ phase. lines_under lane phase.lanes) (map phase_of phases))) (sym e)
        (kept_from (λ line. line.at.lane.0 == lane) n lines (all_lines phases) (flat_map (λ phase. lines_under lane phase.lanes) (map phase_of phases)) f a)
    told (inr e) f =
        subst (λ (ls : List Line). AscendFrom n (ls ++ flat_map (λ phase. lines_under lane phase.lanes) (map phase_of phases))) (sym e)
        (f n (back_from n lines (all_lines phases) a))

-- the numbers of statements ascend from this one on
abbrev CountFrom : ℕ → List Statement → Type 0
CountFrom n [] = Unit {0}
CountFrom n (statement ∷ statements) = (n ≤ statement.number) × CountFrom (statement.number + 1) statements

lower_count : (m n : ℕ) (statements : List Statement) → m ≤ n → CountFrom n statements → CountFrom m statements
lower_count m n [] h c = tt
lower_count m n (statement ∷ statements) h c = (omega (arith, c.0), c.1)

statements_count : (n : ℕ) (lines : List (List ℕ)) → CountFrom n (statements_from n lines)
statements_count n [] = tt
statements_count n (line ∷ lines) = by_test (is_statement line) refl (statements_count (n + 1) lines)
  where
    by_test : (t : Bool) → is_statement line ≡ t → CountFrom (n + 1) (statements_from (n + 1) lines) → CountFrom n (statements_from n (line ∷ lines))
    by_test true e ih = rw e (omega arith, ih)
    by_test false e ih = rw e (lower_count n (n + 1) (statements_from (n + 1) lines) (omega arith) ih)

-- the lines that statements spell ascend, and their commands are in their ranges
spelled_lines : (size n : ℕ) (statements : List Statement) (phases : List (List Line)) → CountFrom n statements → SpellsPhases size statements phases
    → AscendFrom n (all_lines phases) × (list_all (λ line. is_command size line.command) (all_lines phases) ≡ true)
spelled_lines size n [] [] c s = absurd s
spelled_lines size n [] (phase ∷ []) c s = subst (λ (ls : List Line). AscendFrom n (ls ++ []) × (list_all (λ line. is_command size line.command) (ls ++ []) ≡ true)) (sym s) (tt, refl)
spelled_lines size n [] (phase ∷ next ∷ phases) c s = absurd s
spelled_lines size n (statement ∷ statements) [] c s = absurd s
spelled_lines size n (statement ∷ statements) ([] ∷ phases) c s =
    let ih = spelled_lines size (statement.number + 1) statements phases c.1 s.1 in
    (lower n (statement.number + 1) (all_lines phases) (omega (arith, c.0)) ih.0, ih.1)
spelled_lines size n (statement ∷ statements) ((line ∷ phase) ∷ phases) c s =
    let ih = spelled_lines size (statement.number + 1) statements (phase ∷ phases) c.1 s.1 in (
      (omega (arith, c.0, s.0.number), lower (number_of line + 1) (statement.number + 1) (phase ++ all_lines phases) (omega (arith, s.0.number)) ih.0),
      and_from (is_command size line.command) (list_all (λ l. is_command size l.command) (phase ++ all_lines phases)) s.0.ranges ih.1,
    )

-- the lines of these phases ascend from a number, and their commands are in their ranges
record HasLines (size n : ℕ) (phases : List (List Line)) : Type 0 where
  ascend : AscendFrom n (all_lines phases)
  ranges : list_all (λ line. is_command size line.command) (all_lines phases) ≡ true

no_lines : (size n : ℕ) (phases : List (List Line)) → phases ≡ [] ∷ [] → HasLines size n phases
no_lines size n phases e = subst (HasLines size n) (sym e) (record { ascend = tt; ranges = refl })

some_lines : (size n : ℕ) (statements : List Statement) (phases : List (List Line)) → CountFrom n statements → SpellsPhases size statements phases → HasLines size n phases
some_lines size n statements phases c s = let facts = spelled_lines size n statements phases c s in record { ascend = facts.0; ranges = facts.1 }

earlier_lines : (size m n : ℕ) (phases : List (List Line)) → m ≤ n → HasLines size n phases → HasLines size m phases
earlier_lines size m n phases le has = record { ascend = lower m n (all_lines phases) le has.ascend; ranges = has.ranges }

logged_lines : (size : ℕ) (log : Bool) (n : ℕ) (statements : List Statement) (phases : List (List Line)) → CountFrom n statements → SpellsLogged size log statements phases → HasLines size n phases
logged_lines size log n [] phases c s = no_lines size n phases s.1
logged_lines size log n (statement ∷ statements) phases c (inl s) =
    earlier_lines size n (statement.number + 1) phases (omega (arith, c.0)) (some_lines size (statement.number + 1) statements phases c.1 s.2)
logged_lines size log n (statement ∷ statements) phases c (inr s) = some_lines size n (statement ∷ statements) phases c s.1

body_lines : (size workers : ℕ) (log : Bool) (n : ℕ) (statements : List Statement) (phases : List (List Line)) → CountFrom n statements → SpellsBody size workers log statements phases
    → (workers ≤ 8) × HasLines size n phases
body_lines size workers log n [] phases c s = (omega (arith, s.0), logged_lines size log n [] phases c s.1)
body_lines size workers log n (statement ∷ statements) phases c (inl s) =
    (s.0.1, earlier_lines size n (statement.number + 1) phases (omega (arith, c.0)) (logged_lines size log (statement.number + 1) statements phases c.1 s.1))
body_lines size workers log n (statement ∷ statements) phases c (inr s) = (omega (arith, s.0), logged_lines size log n (statement ∷ statements) phases c s.1)

form_of_statements : (statements : List Statement) (script : Script) → CountFrom 1 statements → SpellsStatements statements script → IsInForm script
form_of_statements [] script c s = absurd s
form_of_statements (statement ∷ statements) script c s =
    let phases = s.1.0 in
    let facts = body_lines script.nodes script.workers script.log (statement.number + 1) statements phases c.1 s.1.1 in
    record {
      nodes = s.0.1;
      workers = facts.0;
      phases = ap (list_all is_phase) s.1.2 ∙ phases_are phases;
      commands = ap (λ ps. list_all (λ line. is_command script.nodes line.command) (flat_map lines_of_phase ps)) s.1.2 ∙ all_of_phases (λ line. is_command script.nodes line.command) phases facts.1.ranges;
      distinct = ap (λ ps. are_distinct (flat_map lines_of_phase ps)) s.1.2 ∙ distinct_phases (statement.number + 1) phases facts.1.ascend;
      ordered = λ lane.
          ap (λ ps. are_ascending (flat_map (λ phase. lines_under lane phase.lanes) ps)) s.1.2
          ∙ ascending (statement.number + 1) (flat_map (λ phase. lines_under lane phase.lanes) (map phase_of phases)) (lane_ascends lane (statement.number + 1) phases facts.1.ascend);
    }

-- a script that bytes spell is in form
pub spelled_in_form : (bytes : List ℕ) (script : Script) → SpellsScript bytes script → IsInForm script
spelled_in_form bytes script s = form_of_statements (statements_of bytes) script (statements_count 1 (lines_of_text bytes)) s.statements
