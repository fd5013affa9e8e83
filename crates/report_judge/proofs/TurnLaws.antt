-- What is noted of lanes and phases stays so, and says whose turn it is.
use Rattle.std.proofs.Common.{◌≡◌, ℕ, zero, suc, ◌+◌, ◌≤◌, Bool, true, false, ◌&&◌, ◌||◌, ◌==◌, List, [], ◌∷◌, map, take, drop, get_or, if◌then◌else◌, Some, refl, sym, ap, subst, ◌∙◌, arith}
use Rattle.std.specs.List.{slice_get, list_all, list_any}
use Rattle.std.specs.BTreeMap.{BTreeMap}
use Rattle.std.proofs.lemmas.Bool.{eqb-true, and_parts, and_from, or_right}
use Rattle.std.proofs.lemmas.List.Folds.{list_all_more}
use Rattle.std.proofs.lemmas.Option.{slice_get_within, get_or_from_slice_get}
use Rattle.nrt_base.specs.declared.numbers.At.{At}
use Rattle.history_rules.specs.declared.entry.Entry.{Entry}
use Rattle.history_rules.specs.Nodes.{Past}
use Rattle.history_rules.specs.Lines.{same_at, is_reply, is_answered}
use Rattle.script_serving.specs.declared.script.Line.{Line}
use Rattle.script_serving.specs.declared.script.Phase.{Phase}
use Rattle.script_serving.specs.declared.script.Script.{Script}
use Rattle.script_serving.specs.Lines.{lines_of_lane, lines_of_phase, has_line, all_answered, earlier_answered, earlier_phases_answered}
use Rattle.report_judge.specs.declared.turns.Turns.{Turns}
use Rattle.report_judge.specs.Places.{place_of, earlier_places}
use Rattle.report_judge.specs.Spots.{IsPhaseOf}
use Rattle.report_judge.specs.Turns.{lane_at, front_at, AreLanes, AreAnswered, ArePhasesAnswered, ShowsTurns}
use Rattle.report_judge.proofs.PlaceLaws.{earlier_is}

-- ---- what was answered stays so

-- what an entry leaves so of each item stays so of all
all_still : {X : Type 0} (p : Past → X → Bool) (past : Past) (e : Entry) → ((x : X) → p past x ≡ true → p (e ∷ past) x ≡ true) → (xs : List X) → list_all (p past) xs ≡ true → list_all (p (e ∷ past)) xs ≡ true
all_still p past e more [] h = refl
all_still p past e more (x ∷ xs) h =
    let parts = and_parts (p past x) (list_all (p past) xs) h in
    and_from (p (e ∷ past) x) (list_all (p (e ∷ past)) xs) (more x parts.0) (all_still p past e more xs parts.1)

still : (past : Past) (e : Entry) (at : At) → is_answered at past ≡ true → is_answered at (e ∷ past) ≡ true
still past e at h = or_right (is_reply e.event && same_at e.at at) (is_answered at past) h

pub turns_still : (script : Script) (past : Past) (e : Entry) (turns : Turns) → ShowsTurns script past turns → ShowsTurns script (e ∷ past) turns
turns_still script past e turns shows = record {
  lanes = shows.lanes;
  fronts = λ k. all_still (λ (before : Past) (place : At). is_answered place before) past e (still past e) (take (front_at turns.fronts k) (map place_of (lines_of_lane k script))) (shows.fronts k);
}

pub phases_still : (script : Script) (past : Past) (e : Entry) (passed : ℕ) → ArePhasesAnswered script past passed → ArePhasesAnswered script (e ∷ past) passed
phases_still script past e passed h =
    all_still (λ (before : Past) (phase : Phase). all_answered (lines_of_phase phase) before) past e
    (λ phase answered. all_still (λ (before : Past) (line : Line). is_answered line.at before) past e (λ line. still past e line.at) (lines_of_phase phase) answered)
    (take passed script.phases) h

-- ---- one more

-- one more of the first items passes the test
one_more : {X : Type 0} (p : X → Bool) (xs : List X) (k : ℕ) (x : X) → list_all p (take k xs) ≡ true → slice_get xs k ≡ Some x → p x ≡ true → list_all p (take (k + 1) xs) ≡ true
one_more p xs k x h there passes =
    let item : get_or xs k x ≡ x = get_or_from_slice_get xs k x x there in
    list_all_more p xs k x (slice_get_within xs k x there) ∙ and_from (list_all p (take k xs)) (p (get_or xs k x)) h (ap p item ∙ passes)

pub one_more_answered : (past : Past) (places : List At) (front : ℕ) (place : At) → AreAnswered past front places → slice_get places front ≡ Some place → is_answered place past ≡ true → AreAnswered past (front + 1) places
one_more_answered past places front place h there answered = one_more (λ (place : At). is_answered place past) places front place h there answered

pub one_more_phase : (script : Script) (past : Past) (passed : ℕ) (phase : Phase) → ArePhasesAnswered script past passed → slice_get script.phases passed ≡ Some phase → all_answered (lines_of_phase phase) past ≡ true
    → ArePhasesAnswered script past (passed + 1)
one_more_phase script past passed phase h there answered = one_more (λ (phase : Phase). all_answered (lines_of_phase phase) past) script.phases passed phase h there answered

pub one_more_lane : (script : Script) (old new : BTreeMap ℕ (List At)) (lane : ℕ) (made : List At) → AreLanes script old → made ≡ map place_of (lines_of_lane lane script)
    → ((k : ℕ) → lane_at new k ≡ (if lane == k then Some made else lane_at old k)) → AreLanes script new
one_more_lane script old new lane made are is noted = λ k places there. by_test k places there (lane == k) refl
  where
    by_test : (k : ℕ) (places : List At) → lane_at new k ≡ Some places → (t : Bool) → (lane == k) ≡ t → places ≡ map place_of (lines_of_lane k script)
    by_test k places there true same =
        let now : Some made ≡ Some places = sym (noted k ∙ ap (λ (b : Bool). if b then Some made else lane_at old k) same) ∙ there in
        let made_is : made ≡ places = cc in
        sym made_is ∙ (is ∙ ap (λ (n : ℕ). map place_of (lines_of_lane n script)) (eqb-true lane k same))
    by_test k places there false other = are k places (sym (noted k ∙ ap (λ (b : Bool). if b then Some made else lane_at old k) other) ∙ there)

-- a lane whose front was moved on
pub front_moved : (script : Script) (past : Past) (old new : Turns) (lane front : ℕ) (places : List At) → ShowsTurns script past old → new.lanes ≡ old.lanes → lane_at old.lanes lane ≡ Some places
    → (AreAnswered past (front_at old.fronts lane) places → AreAnswered past front places)
    → ((k : ℕ) → front_at new.fronts k ≡ (if lane == k then front else front_at old.fronts k)) → ShowsTurns script past new
front_moved script past old new lane front places shows same there moves noted = record {
  lanes = subst (AreLanes script) (sym same) shows.lanes;
  fronts = λ k. by_test k (lane == k) refl;
}
  where
    is : places ≡ map place_of (lines_of_lane lane script)
    is = shows.lanes lane places there

    moved : AreAnswered past front (map place_of (lines_of_lane lane script))
    moved = subst (AreAnswered past front) is (moves (subst (AreAnswered past (front_at old.fronts lane)) (sym is) (shows.fronts lane)))

    by_test : (k : ℕ) (t : Bool) → (lane == k) ≡ t → AreAnswered past (front_at new.fronts k) (map place_of (lines_of_lane k script))
    by_test k true same =
        let now : front_at new.fronts k ≡ front = noted k ∙ ap (λ (b : Bool). if b then front else front_at old.fronts k) same in
        subst (λ (n : ℕ). AreAnswered past n (map place_of (lines_of_lane k script))) (sym now)
        (subst (λ (n : ℕ). AreAnswered past front (map place_of (lines_of_lane n script))) (eqb-true lane k same) moved)
    by_test k false other =
        let now : front_at new.fronts k ≡ front_at old.fronts k = noted k ∙ ap (λ (b : Bool). if b then front else front_at old.fronts k) other in
        subst (λ (n : ℕ). AreAnswered past n (map place_of (lines_of_lane k script))) (sym now) (shows.fronts k)

-- ---- whose turn it is

-- where the first lines have their replies, a line is in its turn if it is one of them, or is in its turn behind them
passed : (places : List At) (at : At) (past : Past) (k : ℕ) → AreAnswered past k places
    → earlier_places places at past ≡ (earlier_places (drop k places) at past || list_any (λ (place : At). same_at place at) (take k places))
passed places at past zero h = sym (none (earlier_places places at past))
  where
    none : (b : Bool) → (b || false) ≡ b
    none true = refl
    none false = refl
passed [] at past (suc k) h = refl
passed (place ∷ places) at past (suc k) h =
    let parts = and_parts (is_answered place past) (list_all (λ (place : At). is_answered place past) (take k places)) h in
    by_test (same_at place at) refl parts.0 (passed places at past k parts.1)
  where
    by_test : (t : Bool) → same_at place at ≡ t → is_answered place past ≡ true
        → earlier_places places at past ≡ (earlier_places (drop k places) at past || list_any (λ (place : At). same_at place at) (take k places))
        → earlier_places (place ∷ places) at past ≡ (earlier_places (drop k places) at past || (same_at place at || list_any (λ (place : At). same_at place at) (take k places)))
    by_test true same answered rest = rw same (sym (or_right (earlier_places (drop k places) at past) true refl))
    by_test false other answered rest = rw other (rw answered rest)

module _ (script : Script) (past : Past) (at : At) where
  abbrev lines : List Line
  lines = lines_of_lane at.lane.0 script

  -- the places of the lane
  pub turn_whole : (places : List At) (early : Bool) → places ≡ map place_of (lines_of_lane at.lane.0 script) → early ≡ earlier_places places at past
      → early ≡ earlier_answered (lines_of_lane at.lane.0 script) at past
  turn_whole places early is found = found ∙ (ap (λ (ps : List At). earlier_places ps at past) is ∙ earlier_is lines at past)

  -- those behind the first ones, which have their replies, and these
  pub turn_behind : (turns : Turns) (places : List At) (front : ℕ) (early late : Bool) → ShowsTurns script past turns → Some places ≡ lane_at turns.lanes at.lane.0 → front ≡ front_at turns.fronts at.lane.0
      → early ≡ earlier_places (drop front places) at past → late ≡ list_any (λ (place : At). same_at place at) (take front places)
      → (early || late) ≡ earlier_answered (lines_of_lane at.lane.0 script) at past
  turn_behind turns places front early late shows there at_front found placed =
      let is : places ≡ map place_of lines = shows.lanes at.lane.0 places (sym there) in
      let answered : AreAnswered past front places =
      subst (AreAnswered past front) (sym is) (subst (λ (n : ℕ). AreAnswered past n (map place_of lines)) (sym at_front) (shows.fronts at.lane.0)) in
      ap (λ (b : Bool). b || late) found ∙ ap (λ (b : Bool). earlier_places (drop front places) at past || b) placed
      ∙ sym (passed places at past front answered) ∙ ap (λ (ps : List At). earlier_places ps at past) is ∙ earlier_is lines at past

  pub turn_early : (turns : Turns) (places : List At) (front : ℕ) → ShowsTurns script past turns → Some places ≡ lane_at turns.lanes at.lane.0 → front ≡ front_at turns.fronts at.lane.0
      → true ≡ earlier_places (drop front places) at past → true ≡ earlier_answered (lines_of_lane at.lane.0 script) at past
  turn_early turns places front shows there at_front found =
      turn_behind turns places front true (list_any (λ (place : At). same_at place at) (take front places)) shows there at_front found refl

-- a line of one of the first phases, or of the one behind them, is in its turn
phases_before : (phases : List Phase) (at : At) (past : Past) (k n : ℕ) (phase : Phase) → list_all (λ (phase : Phase). all_answered (lines_of_phase phase) past) (take k phases) ≡ true → n ≤ k
    → slice_get phases n ≡ Some phase → has_line (lines_of_phase phase) at ≡ true → earlier_phases_answered phases at past ≡ true
phases_before [] at past k n phase h low there has = absurd (cc)
phases_before (x ∷ phases) at past k zero phase h low there has =
    let same : x ≡ phase = cc in
    rw (ap (λ (p : Phase). has_line (lines_of_phase p) at) same ∙ has) refl
phases_before (x ∷ phases) at past zero (suc n) phase h low there has = absurd (omega (arith, low))
phases_before (x ∷ phases) at past (suc k) (suc n) phase h low there has =
    let parts = and_parts (all_answered (lines_of_phase x) past) (list_all (λ (phase : Phase). all_answered (lines_of_phase phase) past) (take k phases)) h in
    by_test (has_line (lines_of_phase x) at) refl parts.0 (phases_before phases at past k n phase parts.1 (omega (arith, low)) there has)
  where
    by_test : (t : Bool) → has_line (lines_of_phase x) at ≡ t → all_answered (lines_of_phase x) past ≡ true → earlier_phases_answered phases at past ≡ true → earlier_phases_answered (x ∷ phases) at past ≡ true
    by_test true e answered rest = rw e refl
    by_test false e answered rest = rw e (and_from (all_answered (lines_of_phase x) past) (earlier_phases_answered phases at past) answered rest)

pub phase_passed : (script : Script) (past : Past) (at : At) (k n : ℕ) → ArePhasesAnswered script past k → n ≤ k → IsPhaseOf script at n → true ≡ earlier_phases_answered script.phases at past
phase_passed script past at k n answered low of = sym (phases_before script.phases at past k n of.phase answered low of.there of.has)
