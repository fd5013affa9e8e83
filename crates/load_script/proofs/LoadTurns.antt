-- What a history that serves the generated script shows of each of its entries.
use Rattle.std.proofs.Common.{◌≡◌, ℕ, zero, suc, ◌+◌, ◌-◌, ◌≤◌, ◌<◌, ◌^◌, List, [], ◌∷◌, ◌++◌, Bool, true, false, Option, Some, None, filter, refl, ap, ◌∙◌, sym, subst, arith, inl, inr, append-nil, if◌then◌else◌}
use Rattle.std.specs.Prelude.{◌⊎◌, ◌==◌, ◌%◌, nat_lt}
use Rattle.std.specs.List.{list_all}
use Rattle.std.proofs.lemmas.Bool.{false≢true, and_from, and_parts, eq-eqb, eqb-true}
use Rattle.std.proofs.lemmas.Bool.Decides.{nat_tests}
use Rattle.std.proofs.lemmas.List.Folds.{list_all-append}
use Rattle.std.proofs.lemmas.List.Elements.{filter-append}
use Rattle.std.proofs.lemmas.Option.{none-some, same_Some}
use Rattle.nrt_base.specs.declared.numbers.At.{At}
use Rattle.history_rules.specs.declared.cause.Cause.{Cause}
use Rattle.history_rules.specs.declared.entry.Entry.{Entry}
use Rattle.history_rules.specs.declared.entry.Event.{Event}
use Rattle.history_rules.specs.declared.entry.Event.TheVariants.{Accepted, Publishing, Copying, Settling, Opened, Merging, Crashed, Reopened, Promoted, Planned, Fault, Refused}
use Rattle.history_rules.specs.Nodes.{Past}
use Rattle.history_rules.specs.Lines.{same_at, is_answered, last_of_line}
use Rattle.history_rules.specs.Legal.{KeepsRule, IsLegalPast}
use Rattle.history_tables.proofs.RowLemmas.{same_at_is}
use Rattle.script_serving.specs.declared.script.Line.{Line}
use Rattle.script_serving.specs.declared.script.LineCommand.{LineCommand}
use Rattle.script_serving.specs.declared.script.LineCommand.TheVariants.{Put, Delete, Publish, Copy, Settle, Search, Merge}
use Rattle.script_serving.specs.Lines.{lines_under, lines_of_lane, command_at, earlier_answered}
use Rattle.script_serving.specs.Serves.{Begins, First, Follows, Suits, FitsTurn, ServesLanes}
use Rattle.script_serving.specs.Refusals.{refusal}
use Rattle.script_serving.proofs.LogLemmas.{unanswered}
use Rattle.script_text.specs.Grammar.{of_lane, lane_entry, lanes_from}
use Rattle.script_text.proofs.FormLemmas.{all_lines, under-append, none_under}
use Rattle.script_text.proofs.NumberLaws.{value_of-decimal}
use Rattle.load_script.specs.Generated.{load_lane, load_key, load_lines, load_commands, lines_numbered, generated_script}
use Rattle.load_script.specs.Totals.{operations_asked}
use Rattle.load_script.proofs.LoadForm.{last_of, phases_for, lines_all, commands_all, load_all}
use Rattle.load_script.proofs.KeyedOps.{is_keyed, owner, owner_of}
use Rattle.load_script.proofs.CalmPasts.{is_calm_event, IsCalm, calm_planned}

-- ---- the script

-- the lines of the script, in order
abbrev pub all_of : ℕ → List Line
all_of n = all_lines (phases_for n)

-- the commands that stand in the script
abbrev pub is_calm_command : LineCommand → Bool
is_calm_command (Put doc) = true
is_calm_command (Delete key) = true
is_calm_command Publish = true
is_calm_command (Copy n) = true
is_calm_command Settle = true
is_calm_command (Search n query) = true
is_calm_command (Merge factor) = true
is_calm_command command = false

pub calm_lines : (n : ℕ) → list_all (λ line. is_calm_command line.command) (all_of n) ≡ true
calm_lines n =
    let p : Line → Bool = λ line. is_calm_command line.command in
    let first : list_all p (load_lines n) ≡ true =
    load_all p n (λ i k low high. lines_all is_calm_command k (load_lane i) (load_commands i) (commands_all is_calm_command i refl (λ is. refl) refl refl (λ is. refl))) in
    list_all-append p (load_lines n) (last_of n ++ []) ∙ and_from (list_all p (load_lines n)) (list_all p (last_of n ++ [])) first refl

-- the operation that a command asks for is one of this lane
abbrev pub asks_for : ℕ → LineCommand → Bool
asks_for lane command = list_all (λ op. owner op == lane) (operations_asked command)

-- a line asks for an operation of its lane
abbrev pub is_owned : Line → Bool
is_owned line = asks_for line.at.lane.0 line.command

owned_numbered : (k lane : ℕ) (cs : List LineCommand) → list_all (asks_for lane) cs ≡ true → list_all is_owned (lines_numbered k lane cs) ≡ true
owned_numbered k lane [] all = refl
owned_numbered k lane (c ∷ cs) all =
    let parts = and_parts (asks_for lane c) (list_all (asks_for lane) cs) all in
    and_from (asks_for lane c) (list_all is_owned (lines_numbered (k + 1) lane cs)) parts.0 (owned_numbered (k + 1) lane cs parts.1)

key_owner : (i : ℕ) → i < 2 ^ 64 → owner_of (load_key i) ≡ load_lane i
key_owner i small = ap load_lane (value_of-decimal i small)

owned_turn : (i : ℕ) → 1 ≤ i → i ≤ 10000 → list_all (asks_for (load_lane i)) (load_commands i) ≡ true
owned_turn i low high =
    commands_all (asks_for (load_lane i)) i
    (and_from (owner_of (load_key i) == load_lane i) true (eq-eqb (owner_of (load_key i)) (load_lane i) (key_owner i (omega (arith, high)))) refl)
    (λ is. and_from (owner_of (load_key (i - 4)) == load_lane i) true (eq-eqb (owner_of (load_key (i - 4))) (load_lane i) (key_owner (i - 4) (omega (arith, high)) ∙ four_before is)) refl)
    refl refl (λ is. refl)
  where
    four_before : (i % 10 == 0) ≡ true → load_lane (i - 4) ≡ load_lane i
    four_before is = let ten : i % 10 ≡ 0 = eqb-true (i % 10) 0 is in omega (arith, ten, low)

pub owned_lines : (n : ℕ) → n ≤ 10000 → list_all is_owned (all_of n) ≡ true
owned_lines n few =
    let first : list_all is_owned (load_lines n) ≡ true =
    load_all is_owned n (λ i k low high. owned_numbered k (load_lane i) (load_commands i) (owned_turn i low (omega (arith, few, high)))) in
    list_all-append is_owned (load_lines n) (last_of n ++ []) ∙ and_from (list_all is_owned (load_lines n)) (list_all is_owned (last_of n ++ [])) first refl

pub keyed_asked : (c : LineCommand) → is_calm_command c ≡ true → list_all is_keyed (operations_asked c) ≡ true
keyed_asked (Put doc) calm = refl
keyed_asked (Delete key) calm = refl
keyed_asked Publish calm = refl
keyed_asked (Copy n) calm = refl
keyed_asked Settle calm = refl
keyed_asked (Search n query) calm = refl
keyed_asked (Merge factor) calm = refl
keyed_asked c calm = absurd (false≢true calm)

-- ---- lanes

under_is : (lane more k : ℕ) (lines : List Line) → k ≤ lane → lane < k + more → lines_under lane (lanes_from more k lines) ≡ of_lane lane lines
under_is lane zero k lines low high = absurd (omega (arith, low, high))
under_is lane (suc more) k lines low high =
    under-append lane (lane_entry k (of_lane k lines)) (lanes_from more (k + 1) lines) ∙ by_lane (k == lane) refl (λ above. under_is lane more (k + 1) lines above (omega (arith, high)))
  where
    here : (k == lane) ≡ true → (ls : List Line) → lines_under lane (lane_entry k ls) ≡ ls
    here e [] = refl
    here e (l ∷ ls) = rw e (append-nil (l ∷ ls))

    other : (k == lane) ≡ false → (ls : List Line) → lines_under lane (lane_entry k ls) ≡ []
    other e [] = refl
    other e (l ∷ ls) = rw e refl

    by_lane : (b : Bool) → (k == lane) ≡ b → (k + 1 ≤ lane → lines_under lane (lanes_from more (k + 1) lines) ≡ of_lane lane lines)
        → lines_under lane (lane_entry k (of_lane k lines)) ++ lines_under lane (lanes_from more (k + 1) lines) ≡ of_lane lane lines
    by_lane true e rest =
        let same : k ≡ lane = eqb-true k lane e in
        ap (λ (ls : List Line). ls ++ lines_under lane (lanes_from more (k + 1) lines)) (here e (of_lane k lines))
        ∙ (ap (λ (ls : List Line). of_lane k lines ++ ls) (none_under lane more (k + 1) lines (omega (arith, same)))
        ∙ (append-nil (of_lane k lines) ∙ ap (λ (j : ℕ). of_lane j lines) same))
    by_lane false e rest =
        let above : k + 1 ≤ lane = grind (arith, nat_tests) in
        ap (λ (ls : List Line). ls ++ lines_under lane (lanes_from more (k + 1) lines)) (other e (of_lane k lines)) ∙ rest above

under_above : (lane more k : ℕ) (lines : List Line) → k + more ≤ lane → lines_under lane (lanes_from more k lines) ≡ []
under_above lane zero k lines high = refl
under_above lane (suc more) k lines high =
    under-append lane (lane_entry k (of_lane k lines)) (lanes_from more (k + 1) lines)
    ∙ (ap (λ (ls : List Line). ls ++ lines_under lane (lanes_from more (k + 1) lines)) (none (of_lane k lines)) ∙ under_above lane more (k + 1) lines (omega (arith, high)))
  where
    other : (k == lane) ≡ false
    other = grind (arith, nat_tests, high)

    none : (ls : List Line) → lines_under lane (lane_entry k ls) ≡ []
    none [] = refl
    none (l ∷ ls) = rw other refl

pub lane_is : (n lane : ℕ) → 1 ≤ lane → lane ≤ 8 → lines_of_lane lane (generated_script n) ≡ of_lane lane (all_of n)
lane_is n lane low high =
    let first = load_lines n in
    let last = last_of n in
    let p : Line → Bool = λ line. line.at.lane.0 == lane in
    ap (λ (ls : List Line). ls ++ (lines_under lane (lanes_from 8 1 last) ++ [])) (under_is lane 8 1 first low (omega (arith, high)))
    ∙ (ap (λ (ls : List Line). of_lane lane first ++ (ls ++ [])) (under_is lane 8 1 last low (omega (arith, high)))
    ∙ sym (filter-append p first (last ++ []) ∙ ap (λ (ls : List Line). of_lane lane first ++ ls) (filter-append p last [])))

no_lane : (n lane : ℕ) → lines_under lane (lanes_from 8 1 (load_lines n)) ≡ [] → lines_under lane (lanes_from 8 1 (last_of n)) ≡ [] → lines_of_lane lane (generated_script n) ≡ []
no_lane n lane one two =
    ap (λ (ls : List Line). ls ++ (lines_under lane (lanes_from 8 1 (last_of n)) ++ [])) one ∙ ap (λ (ls : List Line). ls ++ []) two

-- a lane is one of 1 to 8, or has no line
lane_cases : (n lane : ℕ) → ((1 ≤ lane) × (lane ≤ 8)) ⊎ (lines_of_lane lane (generated_script n) ≡ [])
lane_cases n lane = by_tests (nat_lt lane 1) (nat_lt 8 lane) refl refl
  where
    by_tests : (s t : Bool) → nat_lt lane 1 ≡ s → nat_lt 8 lane ≡ t → ((1 ≤ lane) × (lane ≤ 8)) ⊎ (lines_of_lane lane (generated_script n) ≡ [])
    by_tests true t e f =
        let low : lane < 1 = grind (arith, nat_tests) in
        inr (no_lane n lane (none_under lane 8 1 (load_lines n) low) (none_under lane 8 1 (last_of n) low))
    by_tests false true e f =
        let high : 9 ≤ lane = grind (arith, nat_tests) in
        inr (no_lane n lane (under_above lane 8 1 (load_lines n) (omega (arith, high))) (under_above lane 8 1 (last_of n) (omega (arith, high))))
    by_tests false false e f = inl (grind (arith, nat_tests), grind (arith, nat_tests))

pub command_lane : (lines : List Line) (at : At) → command_at (of_lane at.lane.0 lines) at ≡ command_at lines at
command_lane [] at = refl
command_lane (l ∷ lines) at = by_lane (l.at.lane.0 == at.lane.0) refl (command_lane lines at)
  where
    by_lane : (b : Bool) → (l.at.lane.0 == at.lane.0) ≡ b → command_at (of_lane at.lane.0 lines) at ≡ command_at lines at → command_at (of_lane at.lane.0 (l ∷ lines)) at ≡ command_at (l ∷ lines) at
    by_lane true e ih =
        ap (λ (b : Bool). command_at (if b then l ∷ of_lane at.lane.0 lines else of_lane at.lane.0 lines) at) e
        ∙ ap (λ (o : Option LineCommand). if same_at l.at at then Some l.command else o) ih
    by_lane false e ih = rw e ih

-- the line at a place
pub record Found (p : Line → Bool) (at : At) (c : LineCommand) : Type 0 where
  pub line : Line
  pub place : line.at ≡ at
  pub asks : line.command ≡ c
  pub holds : p line ≡ true

pub found : (p : Line → Bool) (lines : List Line) (at : At) (c : LineCommand) → list_all p lines ≡ true → command_at lines at ≡ Some c → Found p at c
found p [] at c all is = absurd (none-some c is)
found p (l ∷ lines) at c all is = by_place (same_at l.at at) refl is (found p lines at c (and_parts (p l) (list_all p lines) all).1)
  where
    by_place : (b : Bool) → same_at l.at at ≡ b → (if b then Some l.command else command_at lines at) ≡ Some c → (command_at lines at ≡ Some c → Found p at c) → Found p at c
    by_place true e f ih = record { line = l; place = same_at_is l.at at e; asks = same_Some l.command c f; holds = (and_parts (p l) (list_all p lines) all).0 }
    by_place false e f ih = ih f

-- ---- entries

begins_calm : (c : LineCommand) (past : Past) (e : Event) → is_calm_command c ≡ true → Begins c past e → is_calm_event e ≡ true
begins_calm (Put doc) past (Accepted seq op) calm begins = refl
begins_calm (Put doc) past e calm begins = absurd begins
begins_calm (Delete key) past (Accepted seq op) calm begins = refl
begins_calm (Delete key) past e calm begins = absurd begins
begins_calm Publish past Publishing calm begins = refl
begins_calm Publish past e calm begins = absurd begins
begins_calm (Copy n) past (Copying m v) calm begins = refl
begins_calm (Copy n) past e calm begins = absurd begins
begins_calm Settle past (Settling v) calm begins = refl
begins_calm Settle past e calm begins = absurd begins
begins_calm (Search n query) past (Opened m t v) calm begins = refl
begins_calm (Search n query) past e calm begins = absurd begins
begins_calm (Merge factor) past (Merging seg) calm begins = refl
begins_calm (Merge factor) past e calm begins = absurd begins
begins_calm c past e calm begins = absurd (false≢true calm)

first_calm : (c : LineCommand) (at : At) (past : Past) (cause : Option Cause) (e : Event) → is_calm_command c ≡ true → First c at past cause e → is_calm_event e ≡ true
first_calm c at past (Some cause) e calm first = ap is_calm_event first
first_calm c at past None (Refused cause) calm first = refl
first_calm c at past None e calm first = begins_calm c past e calm first

follows_calm : (c : LineCommand) (last e : Event) → Follows c last e → is_calm_event e ≡ true
follows_calm c last (Crashed m) follows = absurd follows
follows_calm c last (Reopened m v) follows = absurd follows
follows_calm c last (Promoted m g f v) follows = absurd follows
follows_calm c last (Planned m plan) follows = absurd follows
follows_calm c last (Fault m kind) follows = absurd follows
follows_calm c last e follows = refl

suits_calm : (c : LineCommand) (at : At) (past : Past) (last : Option Event) (e : Event) → is_calm_command c ≡ true → Suits c at past last e → is_calm_event e ≡ true
suits_calm c at past None e calm suits = first_calm c at past (refusal c at.lane.0 past) e calm suits
suits_calm c at past (Some last) e calm suits = follows_calm c last e suits.1

turn_calm : (size : ℕ) (c : LineCommand) (lines : List Line) (at : At) (past : Past) (e : Event) → is_calm_command c ≡ true → IsCalm past → KeepsRule size past at e
    → FitsTurn lines past at (Some c) e → is_calm_event e ≡ true
turn_calm size c lines at past (Fault m kind) calm quiet keeps fits = absurd (false≢true (sym (calm_planned m.0 kind past quiet) ∙ keeps.planned))
turn_calm size c lines at past e calm quiet keeps fits = suits_calm c at past (last_of_line at past) e calm fits.0

fits_suits : (c : LineCommand) (lines : List Line) (at : At) (past : Past) (e : Event) → is_calm_event e ≡ true → FitsTurn lines past at (Some c) e
    → Suits c at past (last_of_line at past) e × (earlier_answered lines at past ≡ true)
fits_suits c lines at past (Fault m kind) calm fits = absurd (false≢true calm)
fits_suits c lines at past e calm fits = fits

-- the entry is one that a line of the script asks for, in its turn
pub record Turn (n : ℕ) (past : Past) (e : Entry) : Type 0 where
  pub command : LineCommand
  pub there : command_at (all_of n) e.at ≡ Some command
  pub low : 1 ≤ e.at.lane.0
  pub high : e.at.lane.0 ≤ 8
  pub fits : FitsTurn (of_lane e.at.lane.0 (all_of n)) past e.at (Some command) e.event

pub turn_of : (n : ℕ) (past : Past) (e : Entry) → ServesLanes (generated_script n) (e ∷ past) → Turn n past e
turn_of n past e serves = by_lane (lane_cases n e.at.lane.0)
  where
    by_command : (found : Option LineCommand) → command_at (all_of n) e.at ≡ found → 1 ≤ e.at.lane.0 → e.at.lane.0 ≤ 8
        → FitsTurn (of_lane e.at.lane.0 (all_of n)) past e.at found e.event → Turn n past e
    by_command None there low high fits = absurd fits
    by_command (Some c) there low high fits = record { command = c; there = there; low = low; high = high; fits = fits }

    by_lane : ((1 ≤ e.at.lane.0) × (e.at.lane.0 ≤ 8)) ⊎ (lines_of_lane e.at.lane.0 (generated_script n) ≡ []) → Turn n past e
    by_lane (inl within) =
        let fits : FitsTurn (of_lane e.at.lane.0 (all_of n)) past e.at (command_at (of_lane e.at.lane.0 (all_of n)) e.at) e.event =
        subst (λ (ls : List Line). FitsTurn ls past e.at (command_at ls e.at) e.event) (lane_is n e.at.lane.0 within.0 within.1) serves.0 in
        by_command (command_at (all_of n) e.at) refl within.0 within.1
        (subst (λ (o : Option LineCommand). FitsTurn (of_lane e.at.lane.0 (all_of n)) past e.at o e.event) (command_lane (all_of n) e.at) fits)
    by_lane (inr none) = absurd (subst (λ (ls : List Line). FitsTurn ls past e.at (command_at ls e.at) e.event) none serves.0)

pub command_calm : (n : ℕ) (at : At) (c : LineCommand) → command_at (all_of n) at ≡ Some c → is_calm_command c ≡ true
command_calm n at c there = let line = found (λ line. is_calm_command line.command) (all_of n) at c (calm_lines n) there in ap is_calm_command (sym line.asks) ∙ line.holds

-- no node crashes while the script is served, and no fault is planned
pub serves_calm : (n size : ℕ) (past : Past) → IsLegalPast size past → ServesLanes (generated_script n) past → IsCalm past
serves_calm n size [] legal serves = tt
serves_calm n size (e ∷ past) legal serves =
    let before = serves_calm n size past legal.1 serves.1 in
    let turn = turn_of n past e serves in
    (turn_calm size turn.command (of_lane e.at.lane.0 (all_of n)) e.at past e.event (command_calm n e.at turn.command turn.there) before legal.0 turn.fits, before)

-- ---- replies

-- the entry's line has no reply before it
pub turn_open : (c : LineCommand) (at : At) (past : Past) (e : Event) → Suits c at past (last_of_line at past) e → is_answered at past ≡ false
turn_open c at past e suits = by_last (last_of_line at past) refl suits
  where
    by_last : (last : Option Event) → last_of_line at past ≡ last → Suits c at past last e → is_answered at past ≡ false
    by_last None is s = unanswered at past is
    by_last (Some event) is s = s.0

pub turn_suits : (n : ℕ) (past : Past) (e : Entry) → is_calm_event e.event ≡ true → (turn : Turn n past e)
    → Suits turn.command e.at past (last_of_line e.at past) e.event × (earlier_answered (of_lane e.at.lane.0 (all_of n)) e.at past ≡ true)
turn_suits n past e calm turn = fits_suits turn.command (of_lane e.at.lane.0 (all_of n)) e.at past e.event calm turn.fits
