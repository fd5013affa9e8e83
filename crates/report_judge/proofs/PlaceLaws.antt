-- The places of lines stand for the lines, and the script's line of a number is the one that has it.
use Rattle.std.proofs.Common.{◌≡◌, ℕ, Bool, true, false, ◌&&◌, ◌||◌, ◌==◌, nat_eq, List, [], ◌∷◌, ◌++◌, map, length, get_or, drop, suc, ◌+◌, ◌<◌, Option, Some, None, refl, sym, ap, subst, ◌∙◌, append_assoc, arith}
use Rattle.std.specs.Prelude.{if◌then◌else◌}
use Rattle.std.specs.Option.{option_or}
use Rattle.std.specs.List.{flat_map, list_all, list_any}
use Rattle.std.proofs.lemmas.Bool.{and_parts, and_right, eqb-true}
use Rattle.std.proofs.lemmas.Bool.Decides.{nat_tests}
use Rattle.std.proofs.lemmas.Option.{none-some}
use Rattle.std.proofs.Math.Seq.{drop-cons}
use Rattle.nrt_base.specs.declared.numbers.At.{At}
use Rattle.nrt_base.specs.declared.numbers.LaneNo.{LaneNo}
use Rattle.history_tables.proofs.RowLemmas.{same_at_self}
use Rattle.history_rules.specs.Nodes.{Past}
use Rattle.history_rules.specs.Lines.{same_at, is_answered}
use Rattle.script_serving.specs.declared.script.Line.{Line}
use Rattle.script_serving.specs.declared.script.LineCommand.{LineCommand}
use Rattle.script_serving.specs.declared.script.Phase.{Phase}
use Rattle.script_serving.specs.declared.script.Script.{Script}
use Rattle.script_serving.specs.Form.{is_under, is_phase, IsInForm}
use Rattle.script_serving.specs.Lines.{lines_of, lines_of_phase, lines_under, lines_of_lane, command_at, has_line, all_answered, earlier_answered}
use Rattle.report_judge.specs.Judgements.{first_unanswered}
use Rattle.report_judge.specs.Places.{place_of, earlier_places, unanswered_place, line_numbered}

-- ---- places for lines

map-places : (xs ys : List Line) → map place_of (xs ++ ys) ≡ map place_of xs ++ map place_of ys
map-places [] ys = refl
map-places (x ∷ xs) ys = ap (λ (ps : List At). x.at ∷ ps) (map-places xs ys)

-- places of some lines, and those of the lines behind them
pub more_places : (out : List At) (xs ys : List Line) → (out ++ map place_of xs) ++ map place_of ys ≡ out ++ map place_of (xs ++ ys)
more_places out xs ys = append_assoc out (map place_of xs) (map place_of ys) ∙ ap (λ (ps : List At). out ++ ps) (sym (map-places xs ys))

pub earlier_is : (lines : List Line) (at : At) (past : Past) → earlier_places (map place_of lines) at past ≡ earlier_answered lines at past
earlier_is [] at past = refl
earlier_is (line ∷ lines) at past = ap (λ (b : Bool). if same_at line.at at then true else is_answered line.at past && b) (earlier_is lines at past)

pub unanswered_is : (lines : List Line) (past : Past) → unanswered_place (map place_of lines) past ≡ first_unanswered lines past
unanswered_is [] past = refl
unanswered_is (line ∷ lines) past = ap (λ (o : Option At). if is_answered line.at past then o else Some line.at) (unanswered_is lines past)

pub has_places : (lines : List Line) (at : At) → list_any (λ (place : At). same_at place at) (map place_of lines) ≡ has_line lines at
has_places [] at = refl
has_places (line ∷ lines) at = ap (λ (b : Bool). same_at line.at at || b) (has_places lines at)

pub all_places_are : (lines : List Line) (past : Past) → list_all (λ (place : At). is_answered place past) (map place_of lines) ≡ all_answered lines past
all_places_are [] past = refl
all_places_are (line ∷ lines) past = ap (λ (b : Bool). is_answered line.at past && b) (all_places_are lines past)

-- where no line lacks its reply, each has it
pub none_unanswered : (lines : List Line) (past : Past) → first_unanswered lines past ≡ None → all_answered lines past ≡ true
none_unanswered [] past h = refl
none_unanswered (line ∷ lines) past h = by_test (is_answered line.at past) refl (none_unanswered lines past)
  where
    by_test : (t : Bool) → is_answered line.at past ≡ t → (first_unanswered lines past ≡ None → all_answered lines past ≡ true) → all_answered (line ∷ lines) past ≡ true
    by_test true e ih = rw e (ih (rw e at h))
    by_test false e ih = absurd (none-some line.at (sym (rw e at h)))

-- ---- the line of a number

pub numbered-append : (n : ℕ) (xs ys : List Line) → line_numbered n (xs ++ ys) ≡ option_or (line_numbered n xs) (line_numbered n ys)
numbered-append n [] ys = refl
numbered-append n (x ∷ xs) ys = by_test (x.at.line.0 == n) (numbered-append n xs ys)
  where
    by_test : (t : Bool) → line_numbered n (xs ++ ys) ≡ option_or (line_numbered n xs) (line_numbered n ys) → (if t then Some x else line_numbered n (xs ++ ys)) ≡ option_or (if t then Some x else line_numbered n xs) (line_numbered n ys)
    by_test true ih = refl
    by_test false ih = ih

-- the front has the line
pub numbered_in_front : (n : ℕ) (xs ys : List Line) (line : Line) → line_numbered n xs ≡ Some line → line_numbered n (xs ++ ys) ≡ Some line
numbered_in_front n xs ys line h = numbered-append n xs ys ∙ ap (λ (o : Option Line). option_or o (line_numbered n ys)) h

-- the front has none
pub numbered_behind : (n : ℕ) (xs ys : List Line) → line_numbered n xs ≡ None → line_numbered n (xs ++ ys) ≡ line_numbered n ys
numbered_behind n xs ys h = numbered-append n xs ys ∙ ap (λ (o : Option Line). option_or o (line_numbered n ys)) h

-- lists of lines in a row, opened at a place
module _ {X : Type 0} (f : X → List Line) (xs : List X) (i : ℕ) (x : X) (low : i < length xs) (item : x ≡ get_or xs i x) where
  opened : flat_map f (drop i xs) ≡ f x ++ flat_map f (drop (i + 1) xs)
  opened =
      let next : suc i ≡ i + 1 = omega arith in
      ap (flat_map f) (drop-cons xs i x low ∙ ap (λ (y : X). y ∷ drop (suc i) xs) (sym item)) ∙ ap (λ (k : ℕ). f x ++ flat_map f (drop k xs)) next

  -- the places of one more list are put behind those before
  pub places_step : (old new whole : List At) → new ≡ old ++ map place_of (f x) → old ++ map place_of (flat_map f (drop i xs)) ≡ whole → new ++ map place_of (flat_map f (drop (i + 1) xs)) ≡ whole
  places_step old new whole made so_far =
      ap (λ (ps : List At). ps ++ map place_of (flat_map f (drop (i + 1) xs))) made
      ∙ more_places old (f x) (flat_map f (drop (i + 1) xs))
      ∙ ap (λ (lines : List Line). old ++ map place_of lines) (sym opened)
      ∙ so_far

-- of lists of lines in a row, this one has the line, or has none
pub numbered_here : {X : Type 0} (f : X → List Line) (n : ℕ) (xs : List X) (i : ℕ) (x : X) → i < length xs → x ≡ get_or xs i x → line_numbered n (flat_map f (drop i xs)) ≡ line_numbered n (flat_map f xs)
    → (line : Line) → Some line ≡ line_numbered n (f x) → Some line ≡ line_numbered n (flat_map f xs)
numbered_here f n xs i x low item so_far line found =
    sym (sym so_far ∙ ap (line_numbered n) (opened f xs i x low item) ∙ numbered_in_front n (f x) (flat_map f (drop (i + 1) xs)) line (sym found))

pub numbered_later : {X : Type 0} (f : X → List Line) (n : ℕ) (xs : List X) (i : ℕ) (x : X) → i < length xs → x ≡ get_or xs i x → line_numbered n (flat_map f (drop i xs)) ≡ line_numbered n (flat_map f xs)
    → None ≡ line_numbered n (f x) → line_numbered n (flat_map f (drop (i + 1) xs)) ≡ line_numbered n (flat_map f xs)
numbered_later f n xs i x low item so_far none =
    sym (numbered_behind n (f x) (flat_map f (drop (i + 1) xs)) (sym none)) ∙ sym (ap (line_numbered n) (opened f xs i x low item)) ∙ so_far

apart : (a b n : ℕ) → nat_eq a n ≡ false → b ≡ n → nat_eq a b ≡ false
apart a b n h e = grind (arith, nat_tests)

-- what the line of a number shows: it has the number, it stands there, and what it asks for is asked for there
pub record IsNumbered (n : ℕ) (lines : List Line) (line : Line) : Type 0 where
  pub number : line.at.line.0 ≡ n
  pub there : has_line lines line.at ≡ true
  pub command : command_at lines line.at ≡ Some line.command

pub numbered_is : (n : ℕ) (lines : List Line) (line : Line) → line_numbered n lines ≡ Some line → IsNumbered n lines line
numbered_is n [] line h = absurd (none-some line h)
numbered_is n (x ∷ xs) line h = by_test (x.at.line.0 == n) refl (numbered_is n xs line)
  where
    mine : (y : Line) → Some x ≡ Some y → (x.at.line.0 == n) ≡ true → IsNumbered n (x ∷ xs) y
    mine y e is =
        let same : x ≡ y = cc in
        subst (λ (z : Line). IsNumbered n (x ∷ xs) z) same (record {
          number = eqb-true x.at.line.0 n is;
          there = rw (same_at_self x.at) refl;
          command = rw (same_at_self x.at) refl;
        })

    by_test : (t : Bool) → (x.at.line.0 == n) ≡ t → (line_numbered n xs ≡ Some line → IsNumbered n xs line) → IsNumbered n (x ∷ xs) line
    by_test true e later = mine line (rw e at h) e
    by_test false e later =
        let ih : IsNumbered n xs line = later (rw e at h) in
        let other : same_at x.at line.at ≡ false = and_right (x.at.lane.0 == line.at.lane.0) (x.at.line.0 == line.at.line.0) (apart x.at.line.0 line.at.line.0 n e ih.number) in
        record { number = ih.number; there = rw other ih.there; command = rw other ih.command }

-- where no line has the number, none stands at a place of it
pub none_numbered : (n : ℕ) (lines : List Line) (at : At) → line_numbered n lines ≡ None → at.line.0 ≡ n → command_at lines at ≡ None
none_numbered n [] at h e = refl
none_numbered n (x ∷ xs) at h e = by_test (x.at.line.0 == n) refl (λ k. none_numbered n xs at k e)
  where
    by_test : (t : Bool) → (x.at.line.0 == n) ≡ t → (line_numbered n xs ≡ None → command_at xs at ≡ None) → command_at (x ∷ xs) at ≡ None
    by_test true is ih = absurd (none-some x (sym (rw is at h)))
    by_test false is ih =
        let other : same_at x.at at ≡ false = and_right (x.at.lane.0 == at.lane.0) (x.at.line.0 == at.line.0) (apart x.at.line.0 at.line.0 n is e) in
        rw other (ih (rw is at h))

-- where something is asked for, a line stands
pub stands_there : (lines : List Line) (at : At) → (command_at lines at ≡ None → ⊥) → has_line lines at ≡ true
stands_there [] at h = absurd (h refl)
stands_there (x ∷ xs) at h = by_test (same_at x.at at) refl (stands_there xs at)
  where
    by_test : (t : Bool) → same_at x.at at ≡ t → ((command_at xs at ≡ None → ⊥) → has_line xs at ≡ true) → has_line (x ∷ xs) at ≡ true
    by_test true e ih = rw e refl
    by_test false e ih = rw e (ih (rw e at h))

-- ---- a lane's lines are those of the script that stand under it

command-append : (xs ys : List Line) (at : At) → command_at (xs ++ ys) at ≡ option_or (command_at xs at) (command_at ys at)
command-append [] ys at = refl
command-append (x ∷ xs) ys at = by_test (same_at x.at at) (command-append xs ys at)
  where
    by_test : (t : Bool) → command_at (xs ++ ys) at ≡ option_or (command_at xs at) (command_at ys at) → (if t then Some x.command else command_at (xs ++ ys) at) ≡ option_or (if t then Some x.command else command_at xs at) (command_at ys at)
    by_test true ih = refl
    by_test false ih = ih

-- lines under another lane are none at this place
none_under : (lane : ℕ) (lines : List Line) (at : At) → list_all (λ (line : Line). line.at.lane.0 == lane) lines ≡ true → (lane == at.lane.0) ≡ false → command_at lines at ≡ None
none_under lane [] at h e = refl
none_under lane (x ∷ xs) at h e =
    let parts = and_parts (x.at.lane.0 == lane) (list_all (λ (line : Line). line.at.lane.0 == lane) xs) h in
    let other : (x.at.lane.0 == at.lane.0) ≡ false = elsewhere x.at.lane.0 lane at.lane.0 parts.0 e in
    let here : same_at x.at at ≡ false = rw other refl in
    rw here (none_under lane xs at parts.1 e)
  where
    elsewhere : (a b c : ℕ) → nat_eq a b ≡ true → nat_eq b c ≡ false → nat_eq a c ≡ false
    elsewhere a b c h k = grind (arith, nat_tests)

abbrev all_of : List (LaneNo × List Line) → List Line
all_of lanes = flat_map (λ (lane : LaneNo × List Line). lane.1) lanes

under_lane : (lanes : List (LaneNo × List Line)) (at : At) → list_all is_under lanes ≡ true → command_at (lines_under at.lane.0 lanes) at ≡ command_at (all_of lanes) at
under_lane [] at h = refl
under_lane (l ∷ lanes) at h =
    let parts = and_parts (is_under l) (list_all is_under lanes) h in
    let ih = under_lane lanes at parts.1 in
    by_test (l.0.0 == at.lane.0) refl parts.0 ih
  where
    by_test : (t : Bool) → (l.0.0 == at.lane.0) ≡ t → is_under l ≡ true → command_at (lines_under at.lane.0 lanes) at ≡ command_at (all_of lanes) at
        → command_at (lines_under at.lane.0 (l ∷ lanes)) at ≡ command_at (l.1 ++ all_of lanes) at
    by_test true e under ih =
        rw e (command-append l.1 (lines_under at.lane.0 lanes) at ∙ ap (λ (o : Option LineCommand). option_or (command_at l.1 at) o) ih ∙ sym (command-append l.1 (all_of lanes) at))
    by_test false e under ih =
        let own = (and_parts _ (list_all (λ (line : Line). line.at.lane.0 == l.0.0) l.1) under).1 in
        let none : command_at l.1 at ≡ None = none_under l.0.0 l.1 at own e in
        rw e (ih ∙ ap (λ (o : Option LineCommand). option_or o (command_at (all_of lanes) at)) (sym none) ∙ sym (command-append l.1 (all_of lanes) at))

under_phases : (phases : List Phase) (at : At) → list_all is_phase phases ≡ true
    → command_at (flat_map (λ (phase : Phase). lines_under at.lane.0 phase.lanes) phases) at ≡ command_at (flat_map lines_of_phase phases) at
under_phases [] at h = refl
under_phases (phase ∷ phases) at h =
    let parts = and_parts (is_phase phase) (list_all is_phase phases) h in
    let lanes = (and_parts (list_all is_under phase.lanes) _ parts.0).0 in
    let here = under_lane phase.lanes at lanes in
    let rest = under_phases phases at parts.1 in
    command-append (lines_under at.lane.0 phase.lanes) (flat_map (λ (p : Phase). lines_under at.lane.0 p.lanes) phases) at
    ∙ (ap (λ (o : Option LineCommand). option_or o (command_at (flat_map (λ (p : Phase). lines_under at.lane.0 p.lanes) phases) at)) here
    ∙ (ap (λ (o : Option LineCommand). option_or (command_at (lines_of_phase phase) at) o) rest
    ∙ sym (command-append (lines_of_phase phase) (flat_map lines_of_phase phases) at)))

-- what a line of a lane asks for is what the script's line at this place does
pub lane_command : (script : Script) (at : At) → IsInForm script → command_at (lines_of_lane at.lane.0 script) at ≡ command_at (lines_of script) at
lane_command script at form = under_phases script.phases at form.phases
