-- The lines behind the join: each comes after those before it, and after all before the join.
use Rattle.std.proofs.Common.{◌≡◌, ℕ, zero, suc, ◌+◌, ◌≤◌, ◌<◌, List, [], ◌∷◌, ◌++◌, ◌&&◌, ◌||◌, Bool, true, false, Option, Some, None, length, filter, refl, ap, ◌∙◌, sym, subst, arith, inl, inr, if◌then◌else◌}
use Rattle.std.specs.Prelude.{◌⊎◌, ◌==◌, not, slice_get}
use Rattle.std.specs.List.{list_all}
use Rattle.std.proofs.lemmas.Bool.{false≢true, true≢false, and_from, and_parts, or_right, eq-eqb, eqb-true}
use Rattle.std.proofs.lemmas.Bool.Decides.{nat_tests}
use Rattle.std.proofs.lemmas.List.Folds.{list_all-append}
use Rattle.std.proofs.lemmas.List.Elements.{filter-append}
use Rattle.std.proofs.lemmas.Option.{none-some, same_Some}
use Rattle.history_tables.proofs.RowLemmas.{same_at_is}
use Rattle.nrt_base.specs.declared.numbers.At.{At}
use Rattle.history_rules.specs.declared.cause.Cause.{Cause}
use Rattle.history_rules.specs.declared.entry.Entry.{Entry}
use Rattle.history_rules.specs.declared.entry.Event.{Event}
use Rattle.history_rules.specs.declared.entry.Event.TheVariants.{Accepted, Publishing, Published, Copying, Settling, Opened, Merging, Promoted, Fault, Refused}
use Rattle.history_rules.specs.Nodes.{Past, newest_version}
use Rattle.history_rules.specs.Lines.{same_at, is_start, is_reply, is_answered, last_of_line, start_entry, before_start}
use Rattle.history_rules.specs.Legal.{IsLegalPast}
use Rattle.history_rules.specs.Steps.{newest_by}
use Rattle.history_rules.proofs.PastLemmas.{legal_before}
use Rattle.script_serving.specs.declared.script.Line.{Line}
use Rattle.script_serving.specs.declared.script.LineCommand.{LineCommand}
use Rattle.script_serving.specs.declared.script.LineCommand.TheVariants.{Put, Delete, Publish, Copy, Settle, Search, Merge}
use Rattle.script_serving.specs.Lines.{lines_of, command_at, earlier_answered}
use Rattle.script_serving.specs.Serves.{Begins, First, Suits, ServesLanes, ServesPhases}
use Rattle.script_serving.specs.Refusals.{refusal}
use Rattle.script_text.specs.Grammar.{of_lane}
use Rattle.script_text.proofs.FormLemmas.{all_kept}
use Rattle.load_script.specs.Generated.{load_lines, lines_numbered, last_commands, generated_script}
use Rattle.load_script.specs.Totals.{place_behind}
use Rattle.load_script.proofs.LoadForm.{load_count, last_of}
use Rattle.load_script.proofs.CalmPasts.{is_calm_event, IsCalm}
use Rattle.load_script.proofs.LoadTurns.{all_of, is_calm_command, found, command_lane, Turn, turn_of, command_calm, serves_calm, turn_open, turn_suits}
use Rattle.load_script.proofs.LaneSplits.{all_more, below, first_answered}
use Rattle.load_script.proofs.FewNames.{published_by}

-- ---- a legal past that serves the script

pub record Known (n : ℕ) (past : Past) : Type 0 where
  pub legal : IsLegalPast 3 past
  pub lanes : ServesLanes (generated_script n) past
  pub phases : ServesPhases (lines_of (generated_script n)) (generated_script n).phases past

lanes_before : (n : ℕ) (newer past : Past) → ServesLanes (generated_script n) (newer ++ past) → ServesLanes (generated_script n) past
lanes_before n [] past serves = serves
lanes_before n (e ∷ newer) past serves = lanes_before n newer past serves.1

phases_before : (n : ℕ) (newer past : Past) → ServesPhases (lines_of (generated_script n)) (generated_script n).phases (newer ++ past)
    → ServesPhases (lines_of (generated_script n)) (generated_script n).phases past
phases_before n [] past serves = serves
phases_before n (e ∷ newer) past serves = phases_before n newer past serves.1

pub known_before : (n : ℕ) (newer past : Past) → Known n (newer ++ past) → Known n past
known_before n newer past known =
    record { legal = legal_before 3 newer past known.legal; lanes = lanes_before n newer past known.lanes; phases = phases_before n newer past known.phases }

pub known_calm : (n : ℕ) (past : Past) → Known n past → IsCalm past
known_calm n past known = serves_calm n 3 past known.legal known.lanes

-- a past in which a line has its reply, and what stood before it
pub record Replied (at : At) (past : Past) : Type 0 where
  pub newer : Past
  pub event : Event
  pub older : Past
  pub is : past ≡ newer ++ record { at = at; event = event } ∷ older
  pub reply : is_reply event ≡ true

pub at_is : (a b : At) → same_at a b ≡ true → (e : Event) → ◌≡◌ {A = Entry} (record { at = a; event = e }) (record { at = b; event = e })
at_is a b same e = ap (λ (x : At). record { at = x; event = e }) (same_at_is a b same)

pub replied : (at : At) (past : Past) → is_answered at past ≡ true → Replied at past
replied at [] is = absurd (false≢true is)
replied at (e ∷ past) is = by_test (is_reply e.event && same_at e.at at) refl is (replied at past)
  where
    by_test : (b : Bool) → (is_reply e.event && same_at e.at at) ≡ b → (b || is_answered at past) ≡ true → (is_answered at past ≡ true → Replied at past) → Replied at (e ∷ past)
    by_test true f g ih =
        let parts = and_parts (is_reply e.event) (same_at e.at at) f in
        record { newer = []; event = e.event; older = past; is = ap (λ (x : Entry). x ∷ past) (at_is e.at at parts.1 e.event); reply = parts.0 }
    by_test false f g ih =
        let before = ih g in
        record { newer = e ∷ before.newer; event = before.event; older = before.older; is = ap (λ (p : Past). e ∷ p) before.is; reply = before.reply }

-- a past in which a line has started, and what stood before it
pub record Started (at : At) (begun : Event) (past : Past) : Type 0 where
  pub newer : Past
  pub older : Past
  pub is : past ≡ newer ++ record { at = at; event = begun } ∷ older
  pub before : before_start at past ≡ older
  pub start : is_start begun ≡ true

pub started_at : (at : At) (begun : Event) (past : Past) → start_entry at past ≡ Some begun → Started at begun past
started_at at begun [] is = absurd (none-some begun is)
started_at at begun (e ∷ past) is = by_test (is_start e.event && same_at e.at at) refl is (started_at at begun past)
  where
    by_test : (b : Bool) → (is_start e.event && same_at e.at at) ≡ b → (if b then Some e.event else start_entry at past) ≡ Some begun
        → (start_entry at past ≡ Some begun → Started at begun past) → Started at begun (e ∷ past)
    by_test true f g ih =
        let parts = and_parts (is_start e.event) (same_at e.at at) f in
        let event : e.event ≡ begun = same_Some e.event begun g in
        record {
          newer = [];
          older = past;
          is = ap (λ (x : Entry). x ∷ past) (at_is e.at at parts.1 e.event) ∙ ap (λ (x : Event). record { at = at; event = x } ∷ past) event;
          before = ap (λ (b : Bool). if b then past else before_start at past) f;
          start = ap is_start (sym event) ∙ parts.0;
        }
    by_test false f g ih =
        let before = ih g in
        record {
          newer = e ∷ before.newer;
          older = before.older;
          is = ap (λ (p : Past). e ∷ p) before.is;
          before = ap (λ (b : Bool). if b then past else before_start at past) f ∙ before.before;
          start = before.start;
        }

-- ---- the lines behind the join

command-behind : (xs ys : List Line) (at : At) → list_all (λ l. not (same_at l.at at)) xs ≡ true → command_at (xs ++ ys) at ≡ command_at ys at
command-behind [] ys at none = refl
command-behind (x ∷ xs) ys at none = by_place (same_at x.at at) none (command-behind xs ys at)
  where
    by_place : (b : Bool) → (not b && list_all (λ l. not (same_at l.at at)) xs) ≡ true → (list_all (λ l. not (same_at l.at at)) xs ≡ true → command_at (xs ++ ys) at ≡ command_at ys at)
        → (if b then Some x.command else command_at (xs ++ ys) at) ≡ command_at ys at
    by_place true h ih = absurd (false≢true h)
    by_place false h ih = ih h

earlier-behind : (xs ys : List Line) (at : At) (past : Past) → list_all (λ l. not (same_at l.at at)) xs ≡ true → earlier_answered (xs ++ ys) at past ≡ true → earlier_answered ys at past ≡ true
earlier-behind [] ys at past none earlier = earlier
earlier-behind (x ∷ xs) ys at past none earlier = by_place (same_at x.at at) none earlier (earlier-behind xs ys at past)
  where
    by_place : (b : Bool) → (not b && list_all (λ l. not (same_at l.at at)) xs) ≡ true → (if b then true else is_answered x.at past && earlier_answered (xs ++ ys) at past) ≡ true
        → (list_all (λ l. not (same_at l.at at)) xs ≡ true → earlier_answered (xs ++ ys) at past ≡ true → earlier_answered ys at past ≡ true) → earlier_answered ys at past ≡ true
    by_place true h f ih = absurd (false≢true h)
    by_place false h f ih = ih h (and_parts (is_answered x.at past) (earlier_answered (xs ++ ys) at past) f).1

-- the place of a line of lane 1
abbrev pub place : ℕ → At
place k = record { lane = record { 0 = 1 }; line = record { 0 = k } }

apart_below : (k m : ℕ) → k < m → same_at (place k) (place m) ≡ false
apart_below k m low = grind (arith, nat_tests)

-- the i-th command of lines that are numbered from k on
command_numbered : (cs : List LineCommand) (rest : List Line) (k m i : ℕ) (c : LineCommand) → m ≡ k + i → slice_get cs i ≡ Some c → command_at (lines_numbered k 1 cs ++ rest) (place m) ≡ Some c
command_numbered [] rest k m i c is there = absurd (none-some c there)
command_numbered (d ∷ cs) rest k m zero c is there =
    let same : same_at (place k) (place m) ≡ true = and_from true (k == m) refl (eq-eqb k m (omega (arith, is))) in
    ap (λ (b : Bool). if b then Some d else command_at (lines_numbered (k + 1) 1 cs ++ rest) (place m)) same ∙ there
command_numbered (d ∷ cs) rest k m (suc i) c is there =
    ap (λ (b : Bool). if b then Some d else command_at (lines_numbered (k + 1) 1 cs ++ rest) (place m)) (apart_below k m (omega (arith, is)))
    ∙ command_numbered cs rest (k + 1) m i c (omega (arith, is)) there

-- the lines before have their replies
earlier_numbered : (cs : List LineCommand) (rest : List Line) (k m j : ℕ) (past : Past) → k ≤ j → j < m → j < k + length cs → earlier_answered (lines_numbered k 1 cs ++ rest) (place m) past ≡ true
    → is_answered (place j) past ≡ true
earlier_numbered [] rest k m j past low near high earlier = absurd (omega (arith, low, high))
earlier_numbered (d ∷ cs) rest k m j past low near high earlier =
    let parts = and_parts (is_answered (place k) past) (earlier_answered (lines_numbered (k + 1) 1 cs ++ rest) (place m) past)
    (ap (λ (b : Bool). if b then true else is_answered (place k) past && earlier_answered (lines_numbered (k + 1) 1 cs ++ rest) (place m) past) (sym (apart_below k m (omega (arith, low, near)))) ∙ earlier) in
    by_number (k == j) refl parts.0 (λ above. earlier_numbered cs rest (k + 1) m j past above near (omega (arith, high)) parts.1)
  where
    by_number : (b : Bool) → (k == j) ≡ b → is_answered (place k) past ≡ true → (k + 1 ≤ j → is_answered (place j) past ≡ true) → is_answered (place j) past ≡ true
    by_number true e here rest_of = subst (λ (i : ℕ). is_answered (place i) past ≡ true) (eqb-true k j e) here
    by_number false e here rest_of = let above : k + 1 ≤ j = grind (arith, nat_tests) in rest_of above

none_before : (n k : ℕ) → list_all (λ l. not (same_at l.at (place_behind n k))) (load_lines n) ≡ true
none_before n k = below 3 (load_lines n) (place_behind n k) (load_count n) (omega arith)

-- the command of the k-th line behind the join
pub command_behind : (n k : ℕ) (c : LineCommand) → slice_get last_commands k ≡ Some c → command_at (all_of n) (place_behind n k) ≡ Some c
command_behind n k c there =
    command-behind (load_lines n) (last_of n ++ []) (place_behind n k) (none_before n k)
    ∙ command_numbered last_commands [] (4 + length (load_lines n)) (4 + length (load_lines n) + k) k c refl there

-- an earlier line behind the join has its reply
pub earlier_behind : (n j k : ℕ) (past : Past) → j < k → j < 6 → earlier_answered (of_lane 1 (all_of n)) (place_behind n k) past ≡ true → is_answered (place_behind n j) past ≡ true
earlier_behind n j k past near low earlier =
    let lane : Line → Bool = λ l. l.at.lane.0 == 1 in
    let seam : of_lane 1 (all_of n) ≡ of_lane 1 (load_lines n) ++ of_lane 1 (last_of n ++ []) = filter-append lane (load_lines n) (last_of n ++ []) in
    let none : list_all (λ l. not (same_at l.at (place_behind n k))) (of_lane 1 (load_lines n)) ≡ true = all_kept (λ l. not (same_at l.at (place_behind n k))) lane (load_lines n) (none_before n k) in
    earlier_numbered last_commands [] (4 + length (load_lines n)) (4 + length (load_lines n) + k) (4 + length (load_lines n) + j) past (omega arith) (omega (arith, near)) (omega (arith, low))
    (earlier-behind (of_lane 1 (load_lines n)) (of_lane 1 (last_of n ++ [])) (place_behind n k) past none (subst (λ (ls : List Line). earlier_answered ls (place_behind n k) past ≡ true) seam earlier))

-- an entry of the k-th line behind the join
pub record Behind (n k : ℕ) (c : LineCommand) (past : Past) (e : Event) : Type 0 where
  pub suits : Suits c (place_behind n k) past (last_of_line (place_behind n k) past) e
  pub unmet : is_answered (place_behind n k) past ≡ false
  pub earlier : (j : ℕ) → j < k → j < 6 → is_answered (place_behind n j) past ≡ true
  pub first : (lane : ℕ) → 1 ≤ lane → lane ≤ 8 → list_all (λ l. is_answered l.at past) (of_lane lane (load_lines n)) ≡ true
  pub calm : is_calm_event e ≡ true

pub behind : (n k : ℕ) (c : LineCommand) (past : Past) (e : Event) → slice_get last_commands k ≡ Some c → Known n (record { at = place_behind n k; event = e } ∷ past) → Behind n k c past e
behind n k c past e there known =
    let entry : Entry = record { at = place_behind n k; event = e } in
    let calm = (known_calm n (entry ∷ past) known).0 in
    let turn = turn_of n past entry known.lanes in
    let both = turn_suits n past entry calm turn in
    let same : turn.command ≡ c = same_Some turn.command c (sym turn.there ∙ command_behind n k c there) in
    let suits = subst (λ (d : LineCommand). Suits d (place_behind n k) past (last_of_line (place_behind n k) past) e) same both.0 in
    record {
      suits = suits;
      unmet = turn_open c (place_behind n k) past e suits;
      earlier = λ j near low. earlier_behind n j k past near low both.1;
      first = first_answered n entry past known.phases calm (omega arith);
      calm = calm;
    }

-- ---- no publish is left

abbrev is_publish : LineCommand → Bool
is_publish Publish = true
is_publish command = false

-- each line that publishes has its reply
pub record IsLate (n : ℕ) (past : Past) : Type 0 where
  pub late : (lane : ℕ) → 1 ≤ lane → lane ≤ 8 → list_all (λ l. not (is_publish l.command) || is_answered l.at past) (of_lane lane (all_of n)) ≡ true

pub late_of : (n : ℕ) (past : Past) → ((lane : ℕ) → 1 ≤ lane → lane ≤ 8 → list_all (λ l. is_answered l.at past) (of_lane lane (load_lines n)) ≡ true)
    → is_answered (place_behind n 0) past ≡ true → IsLate n past
late_of n past first answered =
    let q : Line → Bool = λ l. not (is_publish l.command) || is_answered l.at past in
    let last : list_all q (last_of n ++ []) ≡ true = and_from (is_answered (place (4 + length (load_lines n))) past) true (published answered) refl in
    record {
      late = λ lane low high.
          ap (list_all q) (filter-append (λ (l : Line). l.at.lane.0 == lane) (load_lines n) (last_of n ++ []))
          ∙ (list_all-append q (of_lane lane (load_lines n)) (of_lane lane (last_of n ++ []))
          ∙ and_from (list_all q (of_lane lane (load_lines n))) (list_all q (of_lane lane (last_of n ++ [])))
          (all_more (λ l. is_answered l.at past) q (λ l h. or_right (not (is_publish l.command)) (is_answered l.at past) h) (of_lane lane (load_lines n)) (first lane low high))
          (all_kept q (λ l. l.at.lane.0 == lane) (last_of n ++ []) last));
    }
  where
    published : is_answered (place_behind n 0) past ≡ true → is_answered (place (4 + length (load_lines n))) past ≡ true
    published h = let same : 4 + length (load_lines n) + 0 ≡ 4 + length (load_lines n) = omega arith in subst (λ (k : ℕ). is_answered (place k) past ≡ true) same h

-- it is so where a line behind the publish behind the join has an entry
pub late_behind : (n k : ℕ) (c : LineCommand) (past : Past) (e : Event) → 1 ≤ k → Behind n k c past e → IsLate n past
late_behind n k c past e low has = late_of n past has.first (has.earlier 0 (omega (arith, low)) (omega arith))

pub late_more : (n : ℕ) (past : Past) (e : Entry) → IsLate n past → IsLate n (e ∷ past)
late_more n past e late =
    record {
      late = λ lane low high.
          all_more (λ l. not (is_publish l.command) || is_answered l.at past) (λ l. not (is_publish l.command) || is_answered l.at (e ∷ past))
          (λ l h. more (not (is_publish l.command)) (is_reply e.event && same_at e.at l.at) (is_answered l.at past) h) (of_lane lane (all_of n)) (late.late lane low high);
    }
  where
    more : (p r a : Bool) → (p || a) ≡ true → (p || (r || a)) ≡ true
    more true r a h = refl
    more false true a h = refl
    more false false a h = h

newest_step : (n : ℕ) (past : Past) (at : At) (e : Event) (v : ℕ) → IsLate n past → is_calm_event e ≡ true → Turn n past (record { at = at; event = e }) → newest_by e v ≡ v
newest_step n past at (Published g w) v late calm turn =
    let entry : Entry = record { at = at; event = Published g w } in
    let suits = turn_suits n past entry calm turn in
    let is : turn.command ≡ Publish = published_by turn.command at past (last_of_line at past) g w suits.0 in
    let unmet : is_answered at past ≡ false = turn_open turn.command at past (Published g w) suits.0 in
    let line = found (λ l. not (is_publish l.command) || is_answered l.at past) (of_lane at.lane.0 (all_of n)) at turn.command (late.late at.lane.0 turn.low turn.high) (command_lane (all_of n) at ∙ turn.there) in
    let answered : is_answered at past ≡ true =
    ap (λ (a : At). is_answered a past) (sym line.place) ∙ (ap (λ (c : LineCommand). not (is_publish c) || is_answered line.line.at past) (sym (line.asks ∙ is)) ∙ line.holds) in
    absurd (true≢false (sym answered ∙ unmet))
newest_step n past at (Promoted m g f w) v late calm turn = absurd (false≢true calm)
newest_step n past at e v late calm turn = refl

late_all : (n : ℕ) (newer past : Past) → IsLate n past → IsLate n (newer ++ past)
late_all n [] past late = late
late_all n (e ∷ newer) past late = late_more n (newer ++ past) e (late_all n newer past late)

-- from then on the newest version stays
pub newest_stays : (n : ℕ) (newer past : Past) → Known n (newer ++ past) → IsLate n past → newest_version (newer ++ past) ≡ newest_version past
newest_stays n [] past known late = refl
newest_stays n (e ∷ newer) past known late =
    newest_step n (newer ++ past) e.at e.event (newest_version (newer ++ past)) (late_all n newer past late) (known_calm n (e ∷ (newer ++ past)) known).0 (turn_of n (newer ++ past) e known.lanes)
    ∙ newest_stays n newer past (known_before n (e ∷ []) (newer ++ past) known) late

-- ---- starts

begins_start : (c : LineCommand) (past : Past) (e : Event) → is_calm_command c ≡ true → Begins c past e → (is_start e ≡ true) ⊎ (is_reply e ≡ true)
begins_start (Put doc) past (Accepted seq op) calm begins = inr refl
begins_start (Put doc) past e calm begins = absurd begins
begins_start (Delete key) past (Accepted seq op) calm begins = inr refl
begins_start (Delete key) past e calm begins = absurd begins
begins_start Publish past Publishing calm begins = inl refl
begins_start Publish past e calm begins = absurd begins
begins_start (Copy n) past (Copying m v) calm begins = inl refl
begins_start (Copy n) past e calm begins = absurd begins
begins_start Settle past (Settling v) calm begins = inl refl
begins_start Settle past e calm begins = absurd begins
begins_start (Search n query) past (Opened m t v) calm begins = inl (eq-eqb t.0 0 begins.1)
begins_start (Search n query) past e calm begins = absurd begins
begins_start (Merge factor) past (Merging seg) calm begins = inr refl
begins_start (Merge factor) past e calm begins = absurd begins
begins_start c past e calm begins = absurd (false≢true calm)

first_start : (c : LineCommand) (at : At) (past : Past) (cause : Option Cause) (e : Event) → is_calm_command c ≡ true → First c at past cause e → (is_start e ≡ true) ⊎ (is_reply e ≡ true)
first_start c at past (Some x) e calm first = inr (ap is_reply first)
first_start c at past None (Refused x) calm first = inr refl
first_start c at past None e calm first = begins_start c past e calm first

or_off : (r b a : Bool) → (r && b || a) ≡ false → a ≡ false
or_off true true a h = absurd (true≢false h)
or_off true false a h = h
or_off false b a h = h

start_off : (s b : Bool) (e : Event) (o : Option Event) → (if s && b then Some e else o) ≡ None → ((s && b) ≡ false) × (o ≡ None)
start_off true true e o h = absurd (none-some e (sym h))
start_off true false e o h = (refl, h)
start_off false b e o h = (refl, h)

-- the first entry of a line starts or answers it
starts : (n : ℕ) (past : Past) (e : Entry) → Known n (e ∷ past) → last_of_line e.at past ≡ None → (is_start e.event ≡ true) ⊎ (is_reply e.event ≡ true)
starts n past e known none =
    let turn = turn_of n past e known.lanes in
    let suits = turn_suits n past e (known_calm n (e ∷ past) known).0 turn in
    first_start turn.command e.at past (refusal turn.command e.at.lane.0 past) e.event (command_calm n e.at turn.command turn.there)
    (subst (λ (l : Option Event). Suits turn.command e.at past l e.event) none suits.0)

-- a line with an entry has its reply or its start
pub has_start : (n : ℕ) (at : At) (past : Past) (x : Event) → Known n past → last_of_line at past ≡ Some x → is_answered at past ≡ false → start_entry at past ≡ None → ⊥
has_start n at [] x known last unmet none = none-some x last
has_start n at (e ∷ past) x known last unmet none = by_place (same_at e.at at) refl last unmet none (λ y. has_start n at past y (known_before n (e ∷ []) past known))
  where
    none_of : (o : Option Event) → last_of_line at past ≡ o → same_at e.at at ≡ true → (is_start e.event && true) ≡ false → (is_reply e.event && true || is_answered at past) ≡ false
        → start_entry at past ≡ None → ((y : Event) → last_of_line at past ≡ Some y → is_answered at past ≡ false → start_entry at past ≡ None → ⊥) → ⊥
    none_of (Some y) is same off g h ih = ih y is (or_off (is_reply e.event) true (is_answered at past) g) h
    none_of None is same off g h ih =
        elim (starts n past e known (ap (λ (a : At). last_of_line a past) (same_at_is e.at at same) ∙ is)) [
          | inl start ↦ true≢false (sym (ap (λ (b : Bool). b && true) start) ∙ off)
          | inr reply ↦ true≢false (sym (ap (λ (b : Bool). b && true || is_answered at past) reply) ∙ g)
        ]

    by_place : (b : Bool) → same_at e.at at ≡ b → ◌≡◌ {A = Option Event} (if b then (elim e.event [ Fault m kind ↦ last_of_line at past | event ↦ Some event ]) else last_of_line at past) (Some x)
        → (is_reply e.event && b || is_answered at past) ≡ false → (if is_start e.event && b then Some e.event else start_entry at past) ≡ None
        → ((y : Event) → last_of_line at past ≡ Some y → is_answered at past ≡ false → start_entry at past ≡ None → ⊥) → ⊥
    by_place true same f g h ih =
        let parts = start_off (is_start e.event) true e.event (start_entry at past) h in
        none_of (last_of_line at past) refl same parts.0 g parts.1 ih
    by_place false same f g h ih =
        ih x f (or_off (is_reply e.event) false (is_answered at past) g) (start_off (is_start e.event) false e.event (start_entry at past) h).1
