-- How far each lane has come: its answered lines, and the operations that they asked for; behind the join the documents of the script are written.
use Rattle.std.proofs.Common.{◌≡◌, ℕ, zero, suc, ◌+◌, ◌≤◌, ◌<◌, List, [], ◌∷◌, ◌++◌, ◌&&◌, ◌||◌, Bool, true, false, Option, Some, None, length, filter, refl, ap, ◌∙◌, sym, subst, arith, append_assoc, append-nil, if◌then◌else◌}
use Rattle.std.specs.Prelude.{◌==◌, not, is_none}
use Rattle.std.specs.List.{list_all, flat_map}
use Rattle.std.proofs.lemmas.Bool.{false≢true, true≢false, and_from, and_parts, or_left, or_right, eqb-true, eq-eqb, and_right}
use Rattle.std.proofs.lemmas.Bool.Decides.{nat_tests}
use Rattle.std.proofs.lemmas.Grind.{flat_map-append}
use Rattle.std.proofs.lemmas.List.Folds.{list_all-append}
use Rattle.std.proofs.lemmas.List.Elements.{filter-append}
use Rattle.std.proofs.lemmas.Option.{none-some, same_Some}
use Rattle.history_tables.proofs.RowLemmas.{same_at_self, same_at_is}
use Rattle.nrt_base.specs.declared.numbers.At.{At}
use Rattle.documents.specs.declared.operation.Op.{Op}
use Rattle.documents.specs.declared.operation.Op.TheVariants.{Put as PutOp, Delete as DeleteOp}
use Rattle.documents.specs.Documents.{documents_after}
use Rattle.nrt_base.specs.declared.doc.Doc.{Doc}
use Rattle.history_rules.specs.declared.cause.Cause.{Cause}
use Rattle.history_rules.specs.declared.cause.Cause.TheVariants.{NoPrimary}
use Rattle.history_rules.specs.declared.entry.Entry.{Entry}
use Rattle.history_rules.specs.declared.entry.Event.{Event}
use Rattle.history_rules.specs.declared.entry.Event.TheVariants.{Accepted, Promoted, Fault, Refused}
use Rattle.history_rules.specs.Nodes.{Past}
use Rattle.history_rules.specs.Lines.{same_at, is_reply, is_answered, last_of_line}
use Rattle.history_rules.specs.Points.{operations_written}
use Rattle.history_rules.specs.Legal.{IsLegalPast}
use Rattle.history_rules.specs.Steps.{accepted_ops_by}
use Rattle.script_serving.specs.declared.script.Line.{Line}
use Rattle.script_serving.specs.declared.script.LineCommand.{LineCommand}
use Rattle.script_serving.specs.declared.script.LineCommand.TheVariants.{Put, Delete, Drop, Merge}
use Rattle.script_serving.specs.Lines.{lines_of, lines_of_phase, command_at, has_line, earlier_answered, earlier_phases_answered}
use Rattle.script_serving.specs.Serves.{Begins, First, Follows, Suits, ServesLanes, ServesPhases, is_merge_fault}
use Rattle.script_serving.specs.Refusals.{when, without_primary, refusal}
use Rattle.script_text.specs.Grammar.{of_lane, lanes_from, phase_of}
use Rattle.script_text.proofs.FormLemmas.{all_kept, all_of_phase, under, under_entry, number_of, AscendFrom, lower, back_from}
use Rattle.load_script.specs.Generated.{load_lines, generated_script}
use Rattle.load_script.specs.Totals.{operations_asked, operations_of_lines, load_documents}
use Rattle.load_script.proofs.LoadForm.{CountUp, load_count, last_of, both_ascend}
use Rattle.load_script.proofs.KeyedOps.{is_keyed, owner, owned, same_by_lanes}
use Rattle.load_script.proofs.CalmPasts.{is_calm_event, IsCalm, calm_primary, calm_written_next}
use Rattle.load_script.proofs.LoadTurns.{all_of, is_calm_command, calm_lines, asks_for, is_owned, owned_lines, keyed_asked, found, command_lane, Turn, turn_of, command_calm, serves_calm, turn_open, turn_suits}

-- ---- lists

pub all_more : {X : Type 0} (p q : X → Bool) → ((x : X) → p x ≡ true → q x ≡ true) → (xs : List X) → list_all p xs ≡ true → list_all q xs ≡ true
all_more p q more [] all = refl
all_more p q more (x ∷ xs) all = let parts = and_parts (p x) (list_all p xs) all in and_from (q x) (list_all q xs) (more x parts.0) (all_more p q more xs parts.1)

all_both : {X : Type 0} (p q r : X → Bool) → ((x : X) → p x ≡ true → q x ≡ true → r x ≡ true) → (xs : List X) → list_all p xs ≡ true → list_all q xs ≡ true → list_all r xs ≡ true
all_both p q r both [] one two = refl
all_both p q r both (x ∷ xs) one two =
    let ps = and_parts (p x) (list_all p xs) one in
    let qs = and_parts (q x) (list_all q xs) two in
    and_from (r x) (list_all r xs) (both x ps.0 qs.0) (all_both p q r both xs ps.1 qs.1)

pub all_parts : {X : Type 0} (p : X → Bool) (xs ys : List X) → list_all p (xs ++ ys) ≡ true → (list_all p xs ≡ true) × (list_all p ys ≡ true)
all_parts p xs ys all = and_parts (list_all p xs) (list_all p ys) (sym (list_all-append p xs ys) ∙ all)

own_lines : (lane : ℕ) (lines : List Line) → list_all (λ l. l.at.lane.0 == lane) (of_lane lane lines) ≡ true
own_lines lane [] = refl
own_lines lane (l ∷ lines) = by_lane (l.at.lane.0 == lane) refl (own_lines lane lines)
  where
    by_lane : (b : Bool) → (l.at.lane.0 == lane) ≡ b → list_all (λ m. m.at.lane.0 == lane) (of_lane lane lines) ≡ true → list_all (λ m. m.at.lane.0 == lane) (of_lane lane (l ∷ lines)) ≡ true
    by_lane true e ih = rw e (rw e ih)
    by_lane false e ih = rw e ih

kept_ascend : (lane m : ℕ) (lines : List Line) → AscendFrom m lines → AscendFrom m (of_lane lane lines)
kept_ascend lane m [] ascends = tt
kept_ascend lane m (l ∷ lines) ascends = by_lane (l.at.lane.0 == lane) refl (kept_ascend lane (number_of l + 1) lines ascends.1)
  where
    by_lane : (b : Bool) → (l.at.lane.0 == lane) ≡ b → AscendFrom (number_of l + 1) (of_lane lane lines) → AscendFrom m (of_lane lane (l ∷ lines))
    by_lane true e ih = rw e (ascends.0, ih)
    by_lane false e ih = rw e (lower m (number_of l + 1) (of_lane lane lines) (omega (arith, ascends.0)) ih)

-- ---- what an entry accepts

abbrev pub accepted_of : Event → List Op
accepted_of (Accepted seq op) = op ∷ []
accepted_of e = []

accepted_step : (e : Event) (ops : List Op) → is_calm_event e ≡ true → accepted_ops_by e ops ≡ ops ++ accepted_of e
accepted_step (Accepted seq op) ops calm = refl
accepted_step (Promoted m g f v) ops calm = absurd (false≢true calm)
accepted_step e ops calm = sym (append-nil ops)

written_grows : (e : Entry) (past : Past) → is_calm_event e.event ≡ true → operations_written (e ∷ past) ≡ operations_written past ++ accepted_of e.event
written_grows e past calm = calm_written_next e past calm ∙ accepted_step e.event (operations_written past) calm

pub with_primary : (past : Past) → IsCalm past → without_primary past ≡ None
with_primary past calm = ap (λ p. when (is_none p) NoPrimary) (calm_primary past calm)

first_put : (doc : Doc) (at : At) (past : Past) (cause : Option Cause) (e : Event) → cause ≡ None → First (Put doc) at past cause e → accepted_of e ≡ (if is_reply e then PutOp doc ∷ [] else [])
first_put doc at past (Some x) e none first = absurd (none-some x (sym none))
first_put doc at past None (Refused x) none first = absurd (false≢true first)
first_put doc at past None (Accepted seq op) none first = ap (λ (o : Op). o ∷ []) first
first_put doc at past None e none first = absurd first

follows_put : (doc : Doc) (last e : Event) → Follows (Put doc) last e → accepted_of e ≡ (if is_reply e then PutOp doc ∷ [] else [])
follows_put doc last (Refused x) follows = absurd (false≢true follows)
follows_put doc last e follows = absurd follows

suits_put : (doc : Doc) (at : At) (past : Past) (last : Option Event) (e : Event) → refusal (Put doc) at.lane.0 past ≡ None → Suits (Put doc) at past last e
    → accepted_of e ≡ (if is_reply e then PutOp doc ∷ [] else [])
suits_put doc at past None e none suits = first_put doc at past (refusal (Put doc) at.lane.0 past) e none suits
suits_put doc at past (Some last) e none suits = follows_put doc last e suits.1

first_delete : (key : List ℕ) (at : At) (past : Past) (cause : Option Cause) (e : Event) → cause ≡ None → First (Delete key) at past cause e → accepted_of e ≡ (if is_reply e then DeleteOp key ∷ [] else [])
first_delete key at past (Some x) e none first = absurd (none-some x (sym none))
first_delete key at past None (Refused x) none first = absurd (false≢true first)
first_delete key at past None (Accepted seq op) none first = ap (λ (o : Op). o ∷ []) first
first_delete key at past None e none first = absurd first

follows_delete : (key : List ℕ) (last e : Event) → Follows (Delete key) last e → accepted_of e ≡ (if is_reply e then DeleteOp key ∷ [] else [])
follows_delete key last (Refused x) follows = absurd (false≢true follows)
follows_delete key last e follows = absurd follows

suits_delete : (key : List ℕ) (at : At) (past : Past) (last : Option Event) (e : Event) → refusal (Delete key) at.lane.0 past ≡ None → Suits (Delete key) at past last e
    → accepted_of e ≡ (if is_reply e then DeleteOp key ∷ [] else [])
suits_delete key at past None e none suits = first_delete key at past (refusal (Delete key) at.lane.0 past) e none suits
suits_delete key at past (Some last) e none suits = follows_delete key last e suits.1

begins_no : (c : LineCommand) (past : Past) (seq : ℕ) (op : Op) → operations_asked c ≡ [] → Begins c past (Accepted seq op) → ⊥
begins_no (Put doc) past seq op none begins = cons_nil (PutOp doc) none
  where
    cons_nil : (o : Op) → o ∷ [] ≡ [] → ⊥
    cons_nil o e = cc
begins_no (Delete key) past seq op none begins = cons_nil (DeleteOp key) none
  where
    cons_nil : (o : Op) → o ∷ [] ≡ [] → ⊥
    cons_nil o e = cc
begins_no (Drop word) past seq op none begins = cons_nil (operations_asked (Drop word)) none refl
  where
    cons_nil : (os : List Op) → os ≡ [] → os ≡ operations_asked (Drop word) → ⊥
    cons_nil os e f = let bad : operations_asked (Drop word) ≡ [] = sym f ∙ e in cc
begins_no c past seq op none begins = begins

first_no : (c : LineCommand) (at : At) (past : Past) (cause : Option Cause) (seq : ℕ) (op : Op) → operations_asked c ≡ [] → First c at past cause (Accepted seq op) → ⊥
first_no c at past (Some x) seq op none first = cc
first_no c at past None seq op none first = begins_no c past seq op none first

suits_no : (c : LineCommand) (at : At) (past : Past) (last : Option Event) (seq : ℕ) (op : Op) → operations_asked c ≡ [] → Suits c at past last (Accepted seq op) → ⊥
suits_no c at past None seq op none suits = first_no c at past (refusal c at.lane.0 past) seq op none suits
suits_no c at past (Some last) seq op none suits = suits.1

either_none : (b : Bool) → ◌≡◌ {A = List Op} [] (if b then [] else [])
either_none true = refl
either_none false = refl

suits_other : (c : LineCommand) (at : At) (past : Past) (last : Option Event) (e : Event) → operations_asked c ≡ [] → Suits c at past last e
    → accepted_of e ≡ (if is_reply e then operations_asked c else [])
suits_other c at past last (Accepted seq op) none suits = absurd (suits_no c at past last seq op none suits)
suits_other c at past last e none suits = subst (λ (os : List Op). [] ≡ (if is_reply e then os else [])) (sym none) (either_none (is_reply e))

-- a reply accepts what its line asks for, and no other entry accepts anything
pub accepts : (c : LineCommand) (at : At) (past : Past) (e : Event) → is_calm_command c ≡ true → IsCalm past → Suits c at past (last_of_line at past) e
    → accepted_of e ≡ (if is_reply e then operations_asked c else [])
accepts (Put doc) at past e calm quiet suits = suits_put doc at past (last_of_line at past) e (with_primary past quiet) suits
accepts (Delete key) at past e calm quiet suits = suits_delete key at past (last_of_line at past) e (with_primary past quiet) suits
accepts (Drop word) at past e calm quiet suits = absurd (false≢true calm)
accepts c at past e calm quiet suits = suits_other c at past (last_of_line at past) e refl suits

-- ---- the operations of a lane

owned_asked : (lane m : ℕ) (ops : List Op) → list_all (λ op. owner op == m) ops ≡ true → owned lane ops ≡ (if m == lane then ops else [])
owned_asked lane m [] all = either_none (m == lane)
owned_asked lane m (op ∷ ops) all =
    let parts = and_parts (owner op == m) (list_all (λ o. owner o == m) ops) all in
    let same : owner op ≡ m = eqb-true (owner op) m parts.0 in
    by_lane (m == lane) refl (ap (λ (k : ℕ). k == lane) same) (owned_asked lane m ops parts.1)
  where
    by_lane : (b : Bool) → (m == lane) ≡ b → (owner op == lane) ≡ (m == lane) → owned lane ops ≡ (if m == lane then ops else []) → owned lane (op ∷ ops) ≡ (if m == lane then op ∷ ops else [])
    by_lane true e f ih = let here : (owner op == lane) ≡ true = f ∙ e in rw (here, e) (ap (λ (os : List Op). op ∷ os) (ih ∙ rw e refl))
    by_lane false e f ih = let here : (owner op == lane) ≡ false = f ∙ e in rw (here, e) (ih ∙ rw e refl)

-- lines that ask for operations of their lanes
owned_of_lines : (lane : ℕ) (lines : List Line) → list_all is_owned lines ≡ true → operations_of_lines (of_lane lane lines) ≡ owned lane (operations_of_lines lines)
owned_of_lines lane [] all = refl
owned_of_lines lane (l ∷ lines) all =
    let parts = and_parts (is_owned l) (list_all is_owned lines) all in
    by_lane (l.at.lane.0 == lane) refl (owned_asked lane l.at.lane.0 (operations_asked l.command) parts.0) (owned_of_lines lane lines parts.1)
    ∙ sym (filter-append (λ op. owner op == lane) (operations_asked l.command) (operations_of_lines lines))
  where
    by_lane : (b : Bool) → (l.at.lane.0 == lane) ≡ b → owned lane (operations_asked l.command) ≡ (if l.at.lane.0 == lane then operations_asked l.command else [])
        → operations_of_lines (of_lane lane lines) ≡ owned lane (operations_of_lines lines)
        → operations_of_lines (of_lane lane (l ∷ lines)) ≡ owned lane (operations_asked l.command) ++ owned lane (operations_of_lines lines)
    by_lane true e f ih =
        let here : owned lane (operations_asked l.command) ≡ operations_asked l.command = f ∙ rw e refl in
        rw e (ap (λ (os : List Op). operations_asked l.command ++ os) ih ∙ ap (λ (os : List Op). os ++ owned lane (operations_of_lines lines)) (sym here))
    by_lane false e f ih =
        let here : owned lane (operations_asked l.command) ≡ [] = f ∙ rw e refl in
        rw e (ih ∙ ap (λ (os : List Op). os ++ owned lane (operations_of_lines lines)) (sym here))

-- ---- how far a lane has come

pub record Split (n lane : ℕ) (past : Past) : Type 0 where
  pub done : List Line
  pub rest : List Line
  pub whole : of_lane lane (all_of n) ≡ done ++ rest
  pub answered : list_all (λ l. is_answered l.at past) done ≡ true
  pub left : list_all (λ l. not (is_answered l.at past)) rest ≡ true
  pub ops : owned lane (operations_written past) ≡ operations_of_lines done

-- the first line that is left is the one at this place
record Head (at : At) (c : LineCommand) (rest : List Line) : Type 0 where
  line : Line
  others : List Line
  is : rest ≡ line ∷ others
  place : line.at ≡ at
  asks : line.command ≡ c

not_both : {P : Type 0} (b : Bool) → not b ≡ true → b ≡ true → P
not_both true h g = absurd (false≢true h)
not_both false h g = absurd (false≢true g)

head_of : (done rest : List Line) (at : At) (past : Past) (c : LineCommand) → list_all (λ l. is_answered l.at past) done ≡ true → list_all (λ l. not (is_answered l.at past)) rest ≡ true
    → earlier_answered (done ++ rest) at past ≡ true → is_answered at past ≡ false → command_at (done ++ rest) at ≡ Some c → Head at c rest
head_of [] [] at past c answered left earlier fresh there = absurd (none-some c there)
head_of [] (l ∷ rest) at past c answered left earlier fresh there = by_place (same_at l.at at) refl earlier there
  where
    by_place : (b : Bool) → same_at l.at at ≡ b → (if b then true else is_answered l.at past && earlier_answered rest at past) ≡ true
        → (if b then Some l.command else command_at rest at) ≡ Some c → Head at c (l ∷ rest)
    by_place true e f g = record { line = l; others = rest; is = refl; place = same_at_is l.at at e; asks = same_Some l.command c g }
    by_place false e f g =
        not_both (is_answered l.at past) (and_parts (not (is_answered l.at past)) (list_all (λ m. not (is_answered m.at past)) rest) left).0
        (and_parts (is_answered l.at past) (earlier_answered rest at past) f).0
head_of (d ∷ done) rest at past c answered left earlier fresh there =
    let parts = and_parts (is_answered d.at past) (list_all (λ m. is_answered m.at past) done) answered in
    by_place (same_at d.at at) refl earlier there parts.0 (head_of done rest at past c parts.1 left)
  where
    by_place : (b : Bool) → same_at d.at at ≡ b → (if b then true else is_answered d.at past && earlier_answered (done ++ rest) at past) ≡ true
        → (if b then Some d.command else command_at (done ++ rest) at) ≡ Some c → is_answered d.at past ≡ true
        → (earlier_answered (done ++ rest) at past ≡ true → is_answered at past ≡ false → command_at (done ++ rest) at ≡ Some c → Head at c rest) → Head at c rest
    by_place true e f g met ih = absurd (true≢false (sym met ∙ (ap (λ (a : At). is_answered a past) (same_at_is d.at at e) ∙ fresh)))
    by_place false e f g met ih = ih (and_parts (is_answered d.at past) (earlier_answered (done ++ rest) at past) f).1 fresh g

stays_open : (x b : Bool) → x ≡ false → not b ≡ true → not (x || b) ≡ true
stays_open true b e h = absurd (true≢false e)
stays_open false b e h = h

module _ (n : ℕ) (few : n ≤ 10000) (past : Past) (e : Entry) (quiet : IsCalm past) (calm : is_calm_event e.event ≡ true) (turn : Turn n past e) where
  asked : asks_for e.at.lane.0 turn.command ≡ true
  asked =
      let line = found is_owned (all_of n) e.at turn.command (owned_lines n few) turn.there in
      subst (λ (a : At). asks_for a.lane.0 turn.command ≡ true) line.place (subst (λ (c : LineCommand). asks_for line.line.at.lane.0 c ≡ true) line.asks line.holds)

  suits : Suits turn.command e.at past (last_of_line e.at past) e.event × (earlier_answered (of_lane e.at.lane.0 (all_of n)) e.at past ≡ true)
  suits = turn_suits n past e calm turn

  gained : accepted_of e.event ≡ (if is_reply e.event then operations_asked turn.command else [])
  gained = accepts turn.command e.at past e.event (command_calm n e.at turn.command turn.there) quiet suits.0

  still_answered : (lines : List Line) → list_all (λ l. is_answered l.at past) lines ≡ true → list_all (λ l. is_answered l.at (e ∷ past)) lines ≡ true
  still_answered lines answered =
      all_more (λ l. is_answered l.at past) (λ l. is_answered l.at (e ∷ past)) (λ l h. or_right (is_reply e.event && same_at e.at l.at) (is_answered l.at past) h) lines answered

  -- no line of the lane gets its reply
  aside : (lane : ℕ) (split : Split n lane past) → ((l : Line) → (l.at.lane.0 == lane) ≡ true → (is_reply e.event && same_at e.at l.at) ≡ false) → owned lane (accepted_of e.event) ≡ []
      → Split n lane (e ∷ past)
  aside lane split other none =
      let own : list_all (λ (l : Line). l.at.lane.0 == lane) split.rest ≡ true =
      (all_parts (λ (l : Line). l.at.lane.0 == lane) split.done split.rest (subst (λ (ls : List Line). list_all (λ l. l.at.lane.0 == lane) ls ≡ true) split.whole (own_lines lane (all_of n)))).1 in
      record {
        done = split.done;
        rest = split.rest;
        whole = split.whole;
        answered = still_answered split.done split.answered;
        left = all_both (λ l. l.at.lane.0 == lane) (λ l. not (is_answered l.at past)) (λ l. not (is_answered l.at (e ∷ past)))
            (λ l mine fresh. stays_open (is_reply e.event && same_at e.at l.at) (is_answered l.at past) (other l mine) fresh) split.rest own split.left;
        ops = ap (owned lane) (written_grows e past calm)
            ∙ (filter-append (λ op. owner op == lane) (operations_written past) (accepted_of e.event)
            ∙ (ap (λ (os : List Op). owned lane (operations_written past) ++ os) none ∙ (append-nil (owned lane (operations_written past)) ∙ split.ops)));
      }

  behind_open : (m : ℕ) (lines : List Line) → AscendFrom m lines → e.at.line.0 < m → list_all (λ l. not (is_answered l.at past)) lines ≡ true
      → list_all (λ l. not (is_answered l.at (e ∷ past))) lines ≡ true
  behind_open m [] ascends low left = refl
  behind_open m (l ∷ lines) ascends low left =
      let parts = and_parts (not (is_answered l.at past)) (list_all (λ k. not (is_answered k.at past)) lines) left in
      let above : m ≤ number_of l = ascends.0 in
      let apart : same_at e.at l.at ≡ false = lower_apart e.at l.at (omega (arith, low, above)) in
      and_from (not (is_answered l.at (e ∷ past))) (list_all (λ k. not (is_answered k.at (e ∷ past))) lines)
      (stays_open (is_reply e.event && same_at e.at l.at) (is_answered l.at past) (and_right (is_reply e.event) (same_at e.at l.at) apart) parts.0)
      (behind_open (number_of l + 1) lines ascends.1 (omega (arith, low, above)) parts.1)
    where
      lower_apart : (a b : At) → a.line.0 < b.line.0 → same_at a b ≡ false
      lower_apart a b h = grind (arith, nat_tests)

  -- the next line of the lane gets its reply
  answers : is_reply e.event ≡ true → Split n e.at.lane.0 past → Split n e.at.lane.0 (e ∷ past)
  answers reply split =
      let lane = e.at.lane.0 in
      let earlier : earlier_answered (split.done ++ split.rest) e.at past ≡ true = subst (λ (ls : List Line). earlier_answered ls e.at past ≡ true) split.whole suits.1 in
      let there : command_at (split.done ++ split.rest) e.at ≡ Some turn.command =
      subst (λ (ls : List Line). command_at ls e.at ≡ Some turn.command) split.whole (command_lane (all_of n) e.at ∙ turn.there) in
      let fresh : is_answered e.at past ≡ false = turn_open turn.command e.at past e.event suits.0 in
      let head = head_of split.done split.rest e.at past turn.command split.answered split.left earlier fresh there in
      let ascends : AscendFrom 3 (split.done ++ split.rest) = subst (AscendFrom 3) split.whole (kept_ascend lane 3 (all_of n) (both_ascend n)) in
      let from : AscendFrom 3 (head.line ∷ head.others) = subst (AscendFrom 3) head.is (back_from 3 split.done split.rest ascends) in
      let left : list_all (λ l. not (is_answered l.at past)) (head.line ∷ head.others) ≡ true = subst (λ (ls : List Line). list_all (λ l. not (is_answered l.at past)) ls ≡ true) head.is split.left in
      let number : number_of head.line ≡ e.at.line.0 = ap (λ (a : At). a.line.0) head.place in
      let now : is_answered head.line.at (e ∷ past) ≡ true =
      or_left (is_reply e.event && same_at e.at head.line.at) (is_answered head.line.at past)
      (and_from (is_reply e.event) (same_at e.at head.line.at) reply (ap (same_at e.at) head.place ∙ same_at_self e.at)) in
      let mine : owned lane (accepted_of e.event) ≡ operations_asked head.line.command =
      ap (owned lane) (gained ∙ ap (λ (b : Bool). if b then operations_asked turn.command else []) reply)
      ∙ (owned_asked lane lane (operations_asked turn.command) asked ∙ (ap (λ (b : Bool). if b then operations_asked turn.command else []) (eq-eqb lane lane refl) ∙ ap operations_asked (sym head.asks))) in
      record {
        done = split.done ++ head.line ∷ [];
        rest = head.others;
        whole = split.whole ∙ (ap (λ (ls : List Line). split.done ++ ls) head.is ∙ sym (append_assoc split.done (head.line ∷ []) head.others));
        answered = list_all-append (λ l. is_answered l.at (e ∷ past)) split.done (head.line ∷ [])
            ∙ and_from (list_all (λ l. is_answered l.at (e ∷ past)) split.done) (list_all (λ l. is_answered l.at (e ∷ past)) (head.line ∷ []))
            (still_answered split.done split.answered) (and_from (is_answered head.line.at (e ∷ past)) true now refl);
        left = behind_open (number_of head.line + 1) head.others from.1 (omega (arith, number)) (and_parts (not (is_answered head.line.at past)) (list_all (λ l. not (is_answered l.at past)) head.others) left).1;
        ops = ap (owned lane) (written_grows e past calm)
            ∙ (filter-append (λ op. owner op == lane) (operations_written past) (accepted_of e.event)
            ∙ (ap (λ (os : List Op). owned lane (operations_written past) ++ os) mine
            ∙ (ap (λ (os : List Op). os ++ operations_asked head.line.command) split.ops
            ∙ (ap (λ (os : List Op). operations_of_lines split.done ++ os) (sym (append-nil (operations_asked head.line.command)))
            ∙ sym (flat_map-append (λ (l : Line). operations_asked l.command) split.done (head.line ∷ []))))));
      }

  split_next : (lane : ℕ) → Split n lane past → Split n lane (e ∷ past)
  split_next lane split = by_tests (is_reply e.event) (e.at.lane.0 == lane) refl refl
    where
      by_tests : (r s : Bool) → is_reply e.event ≡ r → (e.at.lane.0 == lane) ≡ s → Split n lane (e ∷ past)
      by_tests false s f g = aside lane split (λ l mine. ap (λ (b : Bool). b && same_at e.at l.at) f) (ap (owned lane) (gained ∙ ap (λ (b : Bool). if b then operations_asked turn.command else []) f))
      by_tests true false f g =
          aside lane split (λ l mine. and_right (is_reply e.event) (same_at e.at l.at) (other_lane e.at l.at g mine))
          (ap (owned lane) (gained ∙ ap (λ (b : Bool). if b then operations_asked turn.command else []) f) ∙ (owned_asked lane e.at.lane.0 (operations_asked turn.command) asked ∙ ap (λ (b : Bool). if b then operations_asked turn.command else []) g))
        where
          other_lane : (a b : At) → (a.lane.0 == lane) ≡ false → (b.lane.0 == lane) ≡ true → same_at a b ≡ false
          other_lane a b other mine = grind (arith, nat_tests)
      by_tests true true f g =
          let same : e.at.lane.0 ≡ lane = eqb-true e.at.lane.0 lane g in
          subst (λ (k : ℕ). Split n k past → Split n k (e ∷ past)) same (answers f) split

none_answered : (lines : List Line) → list_all (λ l. not (is_answered l.at [])) lines ≡ true
none_answered [] = refl
none_answered (l ∷ lines) = none_answered lines

pub split_of : (n size : ℕ) (past : Past) → n ≤ 10000 → IsLegalPast size past → ServesLanes (generated_script n) past → (lane : ℕ) → Split n lane past
split_of n size [] few legal serves lane =
    record { done = []; rest = of_lane lane (all_of n); whole = refl; answered = refl; left = none_answered (of_lane lane (all_of n)); ops = refl }
split_of n size (e ∷ past) few legal serves lane =
    let calm = serves_calm n size (e ∷ past) legal serves in
    split_next n few past e calm.1 calm.0 (turn_of n past e serves) lane (split_of n size past few legal.1 serves.1 lane)

-- ---- behind the join

-- the command asks for no operation
abbrev is_idle : LineCommand → Bool
is_idle (Put doc) = false
is_idle (Delete key) = false
is_idle (Drop word) = false
is_idle command = true

idle_asks : (c : LineCommand) → is_idle c ≡ true → operations_asked c ≡ []
idle_asks (Put doc) idle = absurd (false≢true idle)
idle_asks (Delete key) idle = absurd (false≢true idle)
idle_asks (Drop word) idle = absurd (false≢true idle)
idle_asks c idle = refl

idle_lines : (lines : List Line) → list_all (λ l. is_idle l.command) lines ≡ true → operations_of_lines lines ≡ []
idle_lines [] all = refl
idle_lines (l ∷ lines) all =
    let parts = and_parts (is_idle l.command) (list_all (λ k. is_idle k.command) lines) all in
    ap (λ (os : List Op). os ++ operations_of_lines lines) (idle_asks l.command parts.0) ∙ idle_lines lines parts.1

or_idle : (a b : Bool) → not a ≡ true → (a || b) ≡ true → b ≡ true
or_idle true b h g = absurd (false≢true h)
or_idle false b h g = g

lane_full : (n lane : ℕ) (past : Past) → n ≤ 10000 → Split n lane past → list_all (λ l. is_answered l.at past) (of_lane lane (load_lines n)) ≡ true
    → owned lane (operations_written past) ≡ owned lane (operations_of_lines (load_lines n))
lane_full n lane past few split first =
    let q : Line → Bool = λ l. is_answered l.at past || is_idle l.command in
    let one : list_all q (of_lane lane (load_lines n)) ≡ true = all_more (λ l. is_answered l.at past) q (λ l h. or_left (is_answered l.at past) (is_idle l.command) h) (of_lane lane (load_lines n)) first in
    let two : list_all q (of_lane lane (last_of n ++ [])) ≡ true =
    all_more (λ l. is_idle l.command) q (λ l h. or_right (is_answered l.at past) (is_idle l.command) h) (of_lane lane (last_of n ++ []))
    (all_kept (λ l. is_idle l.command) (λ l. l.at.lane.0 == lane) (last_of n ++ []) refl) in
    let seam : of_lane lane (all_of n) ≡ of_lane lane (load_lines n) ++ of_lane lane (last_of n ++ []) = filter-append (λ (l : Line). l.at.lane.0 == lane) (load_lines n) (last_of n ++ []) in
    let both : list_all q (split.done ++ split.rest) ≡ true =
    ap (list_all q) (sym split.whole ∙ seam)
    ∙ (list_all-append q (of_lane lane (load_lines n)) (of_lane lane (last_of n ++ []))
    ∙ and_from (list_all q (of_lane lane (load_lines n))) (list_all q (of_lane lane (last_of n ++ []))) one two) in
    let idle : list_all (λ (l : Line). is_idle l.command) split.rest ≡ true =
    all_both (λ l. not (is_answered l.at past)) q (λ l. is_idle l.command) (λ l fresh either. or_idle (is_answered l.at past) (is_idle l.command) fresh either) split.rest split.left
    (all_parts q split.done split.rest both).1 in
    let none : operations_of_lines split.rest ≡ [] = idle_lines split.rest idle in
    let whole : operations_of_lines (of_lane lane (all_of n)) ≡ operations_of_lines split.done =
    ap operations_of_lines split.whole
    ∙ (flat_map-append (λ (l : Line). operations_asked l.command) split.done split.rest
    ∙ (ap (λ (os : List Op). operations_of_lines split.done ++ os) none ∙ append-nil (operations_of_lines split.done))) in
    let asked_for : operations_of_lines (all_of n) ≡ operations_of_lines (load_lines n) =
    flat_map-append (λ (l : Line). operations_asked l.command) (load_lines n) (last_of n ++ []) ∙ append-nil (operations_of_lines (load_lines n)) in
    split.ops ∙ (sym whole ∙ (owned_of_lines lane (all_of n) (owned_lines n few) ∙ ap (owned lane) asked_for))

lines_keyed : (lines : List Line) → list_all (λ l. is_calm_command l.command) lines ≡ true → list_all is_keyed (operations_of_lines lines) ≡ true
lines_keyed [] all = refl
lines_keyed (l ∷ lines) all =
    let parts = and_parts (is_calm_command l.command) (list_all (λ k. is_calm_command k.command) lines) all in
    list_all-append is_keyed (operations_asked l.command) (operations_of_lines lines)
    ∙ and_from (list_all is_keyed (operations_asked l.command)) (list_all is_keyed (operations_of_lines lines)) (keyed_asked l.command parts.0) (lines_keyed lines parts.1)

written_keyed : (n size : ℕ) (past : Past) → IsLegalPast size past → ServesLanes (generated_script n) past → list_all is_keyed (operations_written past) ≡ true
written_keyed n size [] legal serves = refl
written_keyed n size (e ∷ past) legal serves =
    let calm = serves_calm n size (e ∷ past) legal serves in
    let turn = turn_of n past e serves in
    let suits = turn_suits n past e calm.0 turn in
    let known = command_calm n e.at turn.command turn.there in
    let gained : accepted_of e.event ≡ (if is_reply e.event then operations_asked turn.command else []) = accepts turn.command e.at past e.event known calm.1 suits.0 in
    ap (list_all is_keyed) (written_grows e past calm.0)
    ∙ (list_all-append is_keyed (operations_written past) (accepted_of e.event)
    ∙ and_from (list_all is_keyed (operations_written past)) (list_all is_keyed (accepted_of e.event)) (written_keyed n size past legal.1 serves.1)
    (ap (list_all is_keyed) gained ∙ by_reply (operations_asked turn.command) (is_reply e.event) (keyed_asked turn.command known)))
  where
    by_reply : (ops : List Op) (b : Bool) → list_all is_keyed ops ≡ true → list_all is_keyed (if b then ops else []) ≡ true
    by_reply ops true keyed = keyed
    by_reply ops false keyed = refl

-- where the lines before the join have their replies, what is written leaves the documents of the script
pub documents_written : (n size : ℕ) (past : Past) → n ≤ 10000 → IsLegalPast size past → ServesLanes (generated_script n) past
    → ((lane : ℕ) → 1 ≤ lane → lane ≤ 8 → list_all (λ l. is_answered l.at past) (of_lane lane (load_lines n)) ≡ true)
    → documents_after (operations_written past) ≡ load_documents n
documents_written n size past few legal serves first =
    same_by_lanes (operations_written past) (operations_of_lines (load_lines n)) (written_keyed n size past legal serves)
    (lines_keyed (load_lines n) (all_parts (λ l. is_calm_command l.command) (load_lines n) (last_of n ++ []) (calm_lines n)).0)
    (λ lane low high. lane_full n lane past few (split_of n size past few legal serves lane) (first lane low (omega (arith, high))))

-- ---- phases

pub under_has : (p : Line → Bool) (lane more k : ℕ) (lines : List Line) → k ≤ lane → lane < k + more → list_all p (under (lanes_from more k lines)) ≡ true → list_all p (of_lane lane lines) ≡ true
under_has p lane zero k lines low high all = absurd (omega (arith, low, high))
under_has p lane (suc more) k lines low high all =
    let parts = all_parts p (of_lane k lines) (under (lanes_from more (k + 1) lines)) (ap (list_all p) (sym (under_entry k (of_lane k lines) (lanes_from more (k + 1) lines))) ∙ all) in
    by_lane (k == lane) refl parts.0 (λ above. under_has p lane more (k + 1) lines above (omega (arith, high)) parts.1)
  where
    by_lane : (b : Bool) → (k == lane) ≡ b → list_all p (of_lane k lines) ≡ true → (k + 1 ≤ lane → list_all p (of_lane lane lines) ≡ true) → list_all p (of_lane lane lines) ≡ true
    by_lane true e here rest = subst (λ (j : ℕ). list_all p (of_lane j lines) ≡ true) (eqb-true k lane e) here
    by_lane false e here rest =
        let above : k + 1 ≤ lane = grind (arith, nat_tests) in
        rest above

pub below : (m : ℕ) (lines : List Line) (at : At) → CountUp m lines → m + length lines ≤ at.line.0 → list_all (λ l. not (same_at l.at at)) lines ≡ true
below m [] at count high = refl
below m (l ∷ lines) at count high =
    let number : l.at.line.0 ≡ m = count.0 in
    let apart : same_at l.at at ≡ false = lower_apart l.at at (omega (arith, number, high)) in
    and_from (not (same_at l.at at)) (list_all (λ k. not (same_at k.at at)) lines) (ap not apart) (below (m + 1) lines at count.1 (omega (arith, high)))
  where
    lower_apart : (a b : At) → a.line.0 < b.line.0 → same_at a b ≡ false
    lower_apart a b h = grind (arith, nat_tests)

none_there : (lines : List Line) (at : At) → list_all (λ l. not (same_at l.at at)) lines ≡ true → has_line lines at ≡ false
none_there [] at all = refl
none_there (l ∷ lines) at all = by_place (same_at l.at at) all (none_there lines at)
  where
    by_place : (b : Bool) → (not b && list_all (λ k. not (same_at k.at at)) lines) ≡ true → (list_all (λ k. not (same_at k.at at)) lines ≡ true → has_line lines at ≡ false)
        → (b || has_line lines at) ≡ false
    by_place true h ih = absurd (false≢true h)
    by_place false h ih = ih h

merge_fault_calm : (c : Option LineCommand) (e : Event) → is_calm_event e ≡ true → is_merge_fault c e ≡ false
merge_fault_calm None e calm = refl
merge_fault_calm (Some (Merge factor)) (Fault m kind) calm = absurd (false≢true calm)
merge_fault_calm (Some (Merge factor)) e calm = refl
merge_fault_calm (Some c) e calm = refl

-- an entry of a line behind the join comes after the replies of those before
pub first_answered : (n : ℕ) (e : Entry) (past : Past) → ServesPhases (lines_of (generated_script n)) (generated_script n).phases (e ∷ past) → is_calm_event e.event ≡ true
    → 4 + length (load_lines n) ≤ e.at.line.0 → (lane : ℕ) → 1 ≤ lane → lane ≤ 8 → list_all (λ l. is_answered l.at past) (of_lane lane (load_lines n)) ≡ true
first_answered n e past serves calm behind lane low high =
    let phase : List Line = lines_of_phase (phase_of (load_lines n)) in
    let none : has_line phase e.at ≡ false =
    none_there phase e.at (all_of_phase (λ l. not (same_at l.at e.at)) (load_lines n) (below 3 (load_lines n) e.at (load_count n) (omega (arith, behind)))) in
    let earlier : earlier_phases_answered (generated_script n).phases e.at past ≡ true =
    ap (λ (b : Bool). b || earlier_phases_answered (generated_script n).phases e.at past) (sym (merge_fault_calm (command_at (lines_of (generated_script n)) e.at) e.event calm)) ∙ serves.0 in
    let both = ap (λ (b : Bool). if b then true else list_all (λ (l : Line). is_answered l.at past) phase && earlier_phases_answered (phase_of (last_of n) ∷ []) e.at past) (sym none) ∙ earlier in
    under_has (λ l. is_answered l.at past) lane 8 1 (load_lines n) low (omega (arith, high))
    (and_parts (list_all (λ (l : Line). is_answered l.at past) phase) (earlier_phases_answered (phase_of (last_of n) ∷ []) e.at past) both).0
