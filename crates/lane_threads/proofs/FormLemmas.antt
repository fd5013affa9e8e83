-- The lines of a script in form, by lanes and phases.
use Rattle.std.proofs.Common.{◌≡◌, ◌||◌, ◌==◌, ℕ, ◌<◌, Bool, true, false, List, [], ◌∷◌, ◌++◌, Some, None, Option, refl, ap, ◌∙◌, sym, subst, arith, inl, inr, if◌then◌else◌}
use Rattle.std.specs.Prelude.{nat_lt}
use Rattle.std.specs.List.{flat_map, list_all}
use Rattle.std.proofs.lemmas.List.Folds.{list_all-append}
use Rattle.std.proofs.lemmas.Bool.{and_parts, and_from, true≢false, false≢true}
use Rattle.std.proofs.lemmas.Bool.Decides.{nat_tests, eqb_tells}
use Rattle.history_tables.proofs.RowLemmas.{by_test}
use Rattle.nrt_base.specs.declared.numbers.At.{At}
use Rattle.nrt_base.specs.declared.numbers.LaneNo.{LaneNo}
use Rattle.nrt_base.specs.Bytes.{is_between}
use Rattle.history_rules.specs.Nodes.{Past}
use Rattle.history_rules.specs.Lines.{same_at, is_answered}
use Rattle.script_serving.specs.declared.script.Line.{Line}
use Rattle.script_serving.specs.declared.script.LineCommand.{LineCommand}
use Rattle.script_serving.specs.declared.script.Phase.{Phase}
use Rattle.script_serving.specs.Lines.{command_at, has_line, all_answered, lines_of_phase, lines_under}
use Rattle.script_serving.specs.Form.{is_under, is_phase, are_apart, are_ascending}
use Rattle.script_serving.proofs.ServingLemmas.{in_phase}
use Rattle.lane_threads.specs.Phases.{lines_in, lane_lines}
use Rattle.lane_threads.proofs.WalkLemmas.{lane_self}

-- ---- replies

pub answered-append : (xs ys : List Line) (past : Past) → all_answered xs past ≡ true → all_answered ys past ≡ true → all_answered (xs ++ ys) past ≡ true
answered-append xs ys past h k = list_all-append (λ (l : Line). is_answered l.at past) xs ys ∙ and_from _ _ h k

answered_parts : (xs ys : List Line) (past : Past) → all_answered (xs ++ ys) past ≡ true → (all_answered xs past ≡ true) × (all_answered ys past ≡ true)
answered_parts xs ys past h = and_parts _ _ (sym (list_all-append (λ (l : Line). is_answered l.at past) xs ys) ∙ h)

pub answered_front : (xs ys : List Line) (past : Past) → all_answered (xs ++ ys) past ≡ true → all_answered xs past ≡ true
answered_front xs ys past h = (answered_parts xs ys past h).0

pub answered_back : (xs ys : List Line) (past : Past) → all_answered (xs ++ ys) past ≡ true → all_answered ys past ≡ true
answered_back xs ys past h = (answered_parts xs ys past h).1

-- where each lane has its replies, the phase has

under_rest : (lane : ℕ) (l : LaneNo × List Line) (lanes : List (LaneNo × List Line)) (past : Past) → all_answered (lines_under lane (l ∷ lanes)) past ≡ true
    → all_answered (lines_under lane lanes) past ≡ true
under_rest lane l lanes past h = by_lane (l.0.0 == lane) h
  where
    by_lane : (b : Bool) → all_answered (if b then l.1 ++ lines_under lane lanes else lines_under lane lanes) past ≡ true → all_answered (lines_under lane lanes) past ≡ true
    by_lane true f = answered_back l.1 (lines_under lane lanes) past f
    by_lane false f = f

under_first : (l : LaneNo × List Line) (lanes : List (LaneNo × List Line)) (past : Past) → all_answered (lines_under l.0.0 (l ∷ lanes)) past ≡ true → all_answered l.1 past ≡ true
under_first l lanes past h =
    answered_front l.1 (lines_under l.0.0 lanes) past
    (subst (λ (b : Bool). all_answered (if b then l.1 ++ lines_under l.0.0 lanes else lines_under l.0.0 lanes) past ≡ true) (lane_self l.0.0) h)

phase_answered_lanes : (lanes : List (LaneNo × List Line)) (past : Past) → ((lane : ℕ) → all_answered (lines_under lane lanes) past ≡ true)
    → all_answered (flat_map (λ l. l.1) lanes) past ≡ true
phase_answered_lanes [] past h = refl
phase_answered_lanes (l ∷ lanes) past h =
    answered-append l.1 _ past (under_first l lanes past (h l.0.0)) (phase_answered_lanes lanes past (λ lane. under_rest lane l lanes past (h lane)))

pub phase_answered : (phase : Phase) (past : Past) → ((lane : ℕ) → all_answered (lines_under lane phase.lanes) past ≡ true) → all_answered (lines_of_phase phase) past ≡ true
phase_answered phase past h = phase_answered_lanes phase.lanes past h

-- only lanes 1 to 8 have lines
pub lane_without : (lane : ℕ) (lanes : List (LaneNo × List Line)) → list_all is_under lanes ≡ true → is_between 1 8 lane ≡ false → lines_under lane lanes ≡ []
lane_without lane [] h k = refl
lane_without lane (l ∷ lanes) h k =
    let parts = and_parts (is_under l) (list_all is_under lanes) h in
    let in_range : is_between 1 8 l.0.0 ≡ true = (and_parts (is_between 1 8 l.0.0) _ parts.0).0 in
    elim (eqb_tells l.0.0 lane) [
      | inl same ↦ absurd (true≢false (sym (subst (λ (n : ℕ). is_between 1 8 n ≡ true) same.1 in_range) ∙ k))
      | inr other ↦ ap (λ (b : Bool). if b then l.1 ++ lines_under lane lanes else lines_under lane lanes) other.0 ∙ lane_without lane lanes parts.1 k
    ]

-- ---- a command by lane

abbrev or_command : Option LineCommand → Option LineCommand → Option LineCommand
or_command (Some c) later = Some c
or_command None later = later

command-append : (xs ys : List Line) (at : At) → command_at (xs ++ ys) at ≡ or_command (command_at xs at) (command_at ys at)
command-append [] ys at = refl
command-append (x ∷ xs) ys at = by_line (same_at x.at at) (command-append xs ys at)
  where
    by_line : (b : Bool) → command_at (xs ++ ys) at ≡ or_command (command_at xs at) (command_at ys at)
        → (if b then Some x.command else command_at (xs ++ ys) at) ≡ or_command (if b then Some x.command else command_at xs at) (command_at ys at)
    by_line true ih = refl
    by_line false ih = ih

other_lane_lines : (lane : ℕ) (lines : List Line) (at : At) → list_all (λ line. line.at.lane.0 == lane) lines ≡ true → (lane == at.lane.0) ≡ false → command_at lines at ≡ None
other_lane_lines lane [] at h k = refl
other_lane_lines lane (l ∷ lines) at h k =
    let parts = and_parts (l.at.lane.0 == lane) (list_all (λ line. line.at.lane.0 == lane) lines) h in
    let here : (l.at.lane.0 == lane) ≡ true = parts.0 in
    let apart : same_at l.at at ≡ false = grind (arith, nat_tests) in
    ap (λ (b : Bool). if b then Some l.command else command_at lines at) apart ∙ other_lane_lines lane lines at parts.1 k

command_lanes : (lanes : List (LaneNo × List Line)) (at : At) → list_all is_under lanes ≡ true → command_at (flat_map (λ l. l.1) lanes) at ≡ command_at (lines_under at.lane.0 lanes) at
command_lanes [] at h = refl
command_lanes (l ∷ lanes) at h =
    let parts = and_parts (is_under l) (list_all is_under lanes) h in
    let ih = command_lanes lanes at parts.1 in
    let own : list_all (λ line. line.at.lane.0 == l.0.0) l.1 ≡ true = (and_parts (is_between 1 8 l.0.0) _ parts.0).1 in
    command-append l.1 (flat_map (λ l. l.1) lanes) at ∙ (ap (or_command (command_at l.1 at)) ih
    ∙ by_test (l.0.0 == at.lane.0) (λ b. or_command (command_at l.1 at) (command_at (lines_under at.lane.0 lanes) at)
    ≡ command_at (if b then l.1 ++ lines_under at.lane.0 lanes else lines_under at.lane.0 lanes) at)
    (λ same. sym (command-append l.1 (lines_under at.lane.0 lanes) at))
    (λ other. ap (λ (o : Option LineCommand). or_command o (command_at (lines_under at.lane.0 lanes) at)) (other_lane_lines l.0.0 l.1 at own other)))

-- the line at a place is that of its lane
pub command_of_lane : (phases : List Phase) (at : At) → list_all is_phase phases ≡ true → command_at (lines_in phases) at ≡ command_at (lane_lines at.lane.0 phases) at
command_of_lane [] at h = refl
command_of_lane (p ∷ phases) at h =
    let parts = and_parts (is_phase p) (list_all is_phase phases) h in
    let ih = command_of_lane phases at parts.1 in
    let here : list_all is_under p.lanes ≡ true = (and_parts (list_all is_under p.lanes) (are_apart p.lanes) parts.0).0 in
    command-append (lines_of_phase p) (lines_in phases) at
    ∙ (ap (or_command (command_at (lines_of_phase p) at)) ih
    ∙ (ap (λ (o : Option LineCommand). or_command o (command_at (lane_lines at.lane.0 phases) at)) (command_lanes p.lanes at here)
    ∙ sym (command-append (lines_under at.lane.0 p.lanes) (lane_lines at.lane.0 phases) at)))

-- ---- lines among lines

-- lines under a lane are lines of the phase
pub line_of_phase : (lane : ℕ) (phase : Phase) (at : At) → has_line (lines_under lane phase.lanes) at ≡ true → has_line (lines_of_phase phase) at ≡ true
line_of_phase lane phase at h = in_phase lane phase.lanes at h

-- ---- numbers ascend

all_below : (n : ℕ) (lines : List Line) (at : At) → list_all (λ later. nat_lt n later.at.line.0) lines ≡ true → has_line lines at ≡ true → n < at.line.0
all_below n [] at h k = absurd (false≢true k)
all_below n (l ∷ lines) at h k =
    let parts = and_parts (nat_lt n l.at.line.0) (list_all (λ later. nat_lt n later.at.line.0) lines) h in
    by_test (same_at l.at at) (λ b. (b || has_line lines at) ≡ true → n < at.line.0)
    (λ same f. let here : nat_lt n l.at.line.0 ≡ true = parts.0 in grind (arith, nat_tests))
    (λ other f. all_below n lines at parts.1 f)
    k

lower_apart : (a b : At) → a.line.0 < b.line.0 → same_at a b ≡ false
lower_apart a b h = grind (arith, nat_tests)

-- where numbers ascend, a line behind is none of those before
pub line_behind : (done rest : List Line) (at : At) → are_ascending (done ++ rest) ≡ true → has_line rest at ≡ true → has_line done at ≡ false
line_behind [] rest at h k = refl
line_behind (l ∷ done) rest at h k =
    let parts = and_parts (list_all (λ later. nat_lt l.at.line.0 later.at.line.0) (done ++ rest)) (are_ascending (done ++ rest)) h in
    let later = and_parts _ _ (sym (list_all-append (λ (x : Line). nat_lt l.at.line.0 x.at.line.0) done rest) ∙ parts.0) in
    let apart : same_at l.at at ≡ false = lower_apart l.at at (all_below l.at.line.0 rest at later.1 k) in
    rw (apart, line_behind done rest at parts.1 k) refl

pub ascending_back : (done rest : List Line) → are_ascending (done ++ rest) ≡ true → are_ascending rest ≡ true
ascending_back [] rest h = h
ascending_back (l ∷ done) rest h =
    ascending_back done rest (and_parts (list_all (λ later. nat_lt l.at.line.0 later.at.line.0) (done ++ rest)) (are_ascending (done ++ rest)) h).1

pub ascending_front : (xs ys : List Line) → are_ascending (xs ++ ys) ≡ true → are_ascending xs ≡ true
ascending_front [] ys h = refl
ascending_front (x ∷ xs) ys h =
    let parts = and_parts (list_all (λ later. nat_lt x.at.line.0 later.at.line.0) (xs ++ ys)) (are_ascending (xs ++ ys)) h in
    let later = and_parts _ _ (sym (list_all-append (λ (later : Line). nat_lt x.at.line.0 later.at.line.0) xs ys) ∙ parts.0) in
    and_from _ _ later.0 (ascending_front xs ys parts.1)

-- ---- each lane's replies are among those of the phases

under_answered : (lane : ℕ) (lanes : List (LaneNo × List Line)) (past : Past) → all_answered (flat_map (λ l. l.1) lanes) past ≡ true → all_answered (lines_under lane lanes) past ≡ true
under_answered lane [] past h = refl
under_answered lane (l ∷ lanes) past h =
    let parts = answered_parts l.1 (flat_map (λ (m : LaneNo × List Line). m.1) lanes) past h in
    by_lane (l.0.0 == lane) parts.0 (under_answered lane lanes past parts.1)
  where
    by_lane : (b : Bool) → all_answered l.1 past ≡ true → all_answered (lines_under lane lanes) past ≡ true
        → all_answered (if b then l.1 ++ lines_under lane lanes else lines_under lane lanes) past ≡ true
    by_lane true here rest = answered-append l.1 _ past here rest
    by_lane false here rest = rest

pub lane_answered : (lane : ℕ) (phases : List Phase) (past : Past) → all_answered (lines_in phases) past ≡ true → all_answered (lane_lines lane phases) past ≡ true
lane_answered lane [] past h = refl
lane_answered lane (p ∷ phases) past h =
    let parts = answered_parts (lines_of_phase p) (lines_in phases) past h in
    answered-append (lines_under lane p.lanes) _ past (under_answered lane p.lanes past parts.0) (lane_answered lane phases past parts.1)

-- ---- a lane's lines stand under it

own_under : (lane : ℕ) (lanes : List (LaneNo × List Line)) → list_all is_under lanes ≡ true → list_all (λ line. line.at.lane.0 == lane) (lines_under lane lanes) ≡ true
own_under lane [] h = refl
own_under lane (l ∷ lanes) h =
    let parts = and_parts (is_under l) (list_all is_under lanes) h in
    let rest = own_under lane lanes parts.1 in
    let own : list_all (λ line. line.at.lane.0 == l.0.0) l.1 ≡ true = (and_parts (is_between 1 8 l.0.0) _ parts.0).1 in
    elim (eqb_tells l.0.0 lane) [
      | inl same ↦
          let here : list_all (λ line. line.at.lane.0 == lane) l.1 ≡ true = subst (λ (n : ℕ). list_all (λ line. line.at.lane.0 == n) l.1 ≡ true) same.1 own in
          subst (λ (b : Bool). list_all (λ line. line.at.lane.0 == lane) (if b then l.1 ++ lines_under lane lanes else lines_under lane lanes) ≡ true) (sym same.0)
          (list_all-append (λ (line : Line). line.at.lane.0 == lane) l.1 (lines_under lane lanes) ∙ and_from _ _ here rest)
      | inr other ↦ subst (λ (b : Bool). list_all (λ line. line.at.lane.0 == lane) (if b then l.1 ++ lines_under lane lanes else lines_under lane lanes) ≡ true) (sym other.0) rest
    ]

pub under_owned : (lane : ℕ) (phase : Phase) → is_phase phase ≡ true → list_all (λ line. line.at.lane.0 == lane) (lines_under lane phase.lanes) ≡ true
under_owned lane phase h = own_under lane phase.lanes (and_parts (list_all is_under phase.lanes) (are_apart phase.lanes) h).0

pub lane_owned : (lane : ℕ) (phases : List Phase) → list_all is_phase phases ≡ true → list_all (λ line. line.at.lane.0 == lane) (lane_lines lane phases) ≡ true
lane_owned lane [] h = refl
lane_owned lane (p ∷ phases) h =
    let parts = and_parts (is_phase p) (list_all is_phase phases) h in
    list_all-append (λ (line : Line). line.at.lane.0 == lane) (lines_under lane p.lanes) (lane_lines lane phases)
    ∙ and_from _ _ (under_owned lane p parts.0) (lane_owned lane phases parts.1)
