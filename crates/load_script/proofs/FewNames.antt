-- The script publishes and merges seldom: there are never too many segments, and never too few names.
use Rattle.std.proofs.Common.{◌≡◌, ℕ, zero, suc, ◌+◌, ◌≤◌, ◌<◌, List, [], ◌∷◌, ◌++◌, ◌&&◌, ◌||◌, Bool, true, false, Option, Some, None, length, refl, ap, ◌∙◌, subst, arith, if◌then◌else◌}
use Rattle.std.specs.Prelude.{◌==◌, ◌%◌, ◌/◌, ◌-◌, nat_le, nat_lt, is_some}
use Rattle.std.proofs.lemmas.Bool.{false≢true, and_from, and_parts, or_left, or_right}
use Rattle.std.proofs.lemmas.Bool.Decides.{nat_tests}
use Rattle.std.proofs.lemmas.Option.{none-some, same_Some}
use Rattle.history_tables.proofs.RowLemmas.{same_at_self, same_at_is}
use Rattle.nrt_base.specs.declared.numbers.At.{At}
use Rattle.nrt_base.specs.declared.numbers.Gen.{Gen}
use Rattle.nrt_base.specs.declared.numbers.Version.{Version}
use Rattle.history_rules.specs.declared.cause.Cause.{Cause}
use Rattle.history_rules.specs.declared.entry.Entry.{Entry}
use Rattle.history_rules.specs.declared.entry.Event.{Event}
use Rattle.history_rules.specs.declared.entry.Event.TheVariants.{Publishing, Published, Promoted, Merging, Fault}
use Rattle.history_rules.specs.Nodes.{Past, newest_version}
use Rattle.history_rules.specs.Lines.{same_at, is_reply, is_answered, last_of_line, before_start}
use Rattle.history_rules.specs.Points.{cut_has_put, names_drawn, documents_at}
use Rattle.history_rules.specs.Tasks.{merge_count}
use Rattle.history_rules.specs.Legal.{IsLegalPast}
use Rattle.script_serving.specs.declared.script.Line.{Line}
use Rattle.script_serving.specs.declared.script.LineCommand.{LineCommand}
use Rattle.script_serving.specs.declared.script.LineCommand.TheVariants.{Put, Delete, Publish, Copy, Merge}
use Rattle.script_serving.specs.Lines.{command_at}
use Rattle.script_serving.specs.Serves.{Begins, First, Follows, Suits, ServesLanes}
use Rattle.script_serving.specs.Refusals.{refusal, put_publishes, may_be_full, names_are_spent}
use Rattle.load_script.specs.Generated.{load_lane, load_key, at_multiple, load_commands, load_lines, lines_numbered, generated_script}
use Rattle.load_script.proofs.LoadForm.{last_of}
use Rattle.load_script.proofs.LoadCounts.{load_length}
use Rattle.load_script.proofs.CalmPasts.{is_calm_event}
use Rattle.load_script.proofs.LoadTurns.{all_of, Turn, turn_of, turn_open, turn_suits, serves_calm}

-- ---- how many pass a test

abbrev tally : {X : Type 0} → (X → Bool) → List X → ℕ
tally p [] = 0
tally p (x ∷ xs) = (if p x then 1 else 0) + tally p xs

one_le : (a b : Bool) → (a ≡ true → b ≡ true) → (if a then 1 else 0) ≤ (if b then 1 else 0)
one_le true true h = omega arith
one_le true false h = absurd (false≢true (h refl))
one_le false true h = omega arith
one_le false false h = omega arith

one_low : (a : Bool) → (if a then 1 else 0) ≤ 1
one_low true = omega arith
one_low false = omega arith

tally_grows : {X : Type 0} (p q : X → Bool) → ((x : X) → p x ≡ true → q x ≡ true) → (xs : List X) → tally p xs ≤ tally q xs
tally_grows p q more [] = omega arith
tally_grows p q more (x ∷ xs) =
    let here = one_le (p x) (q x) (more x) in
    let rest = tally_grows p q more xs in
    omega (arith, here, rest)

tally_low : {X : Type 0} (p : X → Bool) (xs : List X) → tally p xs ≤ length xs
tally_low p [] = omega arith
tally_low p (x ∷ xs) = let here = one_low (p x) in let rest = tally_low p xs in omega (arith, here, rest)

tally-append : {X : Type 0} (p : X → Bool) (xs ys : List X) → tally p (xs ++ ys) ≡ tally p xs + tally p ys
tally-append p [] ys = omega arith
tally-append p (x ∷ xs) ys = let rest = tally-append p xs ys in omega (arith, rest)

-- where the line at a place passes, and did not before, more lines pass
tally_rises : (p q : Line → Bool) → ((l : Line) → p l ≡ true → q l ≡ true) → (lines : List Line) (at : At) (c : LineCommand)
    → ((l : Line) → l.at ≡ at → l.command ≡ c → (p l ≡ false) × (q l ≡ true)) → command_at lines at ≡ Some c → tally p lines + 1 ≤ tally q lines
tally_rises p q more [] at c new there = absurd (none-some c there)
tally_rises p q more (l ∷ lines) at c new there = by_place (same_at l.at at) refl there (tally_rises p q more lines at c new)
  where
    by_place : (b : Bool) → same_at l.at at ≡ b → (if b then Some l.command else command_at lines at) ≡ Some c → (command_at lines at ≡ Some c → tally p lines + 1 ≤ tally q lines)
        → tally p (l ∷ lines) + 1 ≤ tally q (l ∷ lines)
    by_place true e f ih =
        let both = new l (same_at_is l.at at e) (same_Some l.command c f) in
        let rest = tally_grows p q more lines in
        let first : ◌≡◌ {A = ℕ} (if p l then 1 else 0) 0 = ap (λ (b : Bool). if b then 1 else 0) both.0 in
        let second : ◌≡◌ {A = ℕ} (if q l then 1 else 0) 1 = ap (λ (b : Bool). if b then 1 else 0) both.1 in
        omega (arith, rest, first, second)
    by_place false e f ih =
        let here = one_le (p l) (q l) (more l) in
        let rest = ih f in
        omega (arith, here, rest)

-- ---- the script's publishes

abbrev is_publish : LineCommand → Bool
is_publish Publish = true
is_publish command = false

tally_numbered : (p : LineCommand → Bool) (k lane : ℕ) (cs : List LineCommand) → tally (λ l. p l.command) (lines_numbered k lane cs) ≡ tally p cs
tally_numbered p k lane [] = refl
tally_numbered p k lane (c ∷ cs) = let rest = tally_numbered p (k + 1) lane cs in omega (arith, rest)

no_publish : (k i : ℕ) (c : LineCommand) → is_publish c ≡ false → tally is_publish (at_multiple k i c) ≡ 0
no_publish k i c is = by_test (i % k == 0)
  where
    by_test : (b : Bool) → tally is_publish (if b then c ∷ [] else []) ≡ 0
    by_test true = ap (λ (b : Bool). (if b then 1 else 0) + 0) is
    by_test false = refl

publish_turn : (i : ℕ) → tally is_publish (at_multiple 50 (suc i) Publish) + i / 50 ≡ suc i / 50
publish_turn i = by_test (suc i % 50 == 0) refl
  where
    by_test : (b : Bool) → suc i % 50 == 0 ≡ b → tally is_publish (if b then Publish ∷ [] else []) + i / 50 ≡ suc i / 50
    by_test true e = grind (arith, nat_tests)
    by_test false e = grind (arith, nat_tests)

turn_publishes : (i : ℕ) → tally is_publish (load_commands (suc i)) + i / 50 ≡ suc i / 50
turn_publishes i =
    let deletes : List LineCommand = at_multiple 10 (suc i) (Delete (load_key (suc i - 4))) in
    let publishes : List LineCommand = at_multiple 50 (suc i) Publish in
    let copies : List LineCommand = at_multiple 100 (suc i) (Copy (record { 0 = 2 })) in
    let merges : List LineCommand = at_multiple 200 (suc i) (Merge 4) in
    let one = tally-append is_publish deletes (publishes ++ (copies ++ merges)) in
    let two = tally-append is_publish publishes (copies ++ merges) in
    let three = tally-append is_publish copies merges in
    let d = no_publish 10 (suc i) (Delete (load_key (suc i - 4))) refl in
    let p = publish_turn i in
    let c = no_publish 100 (suc i) (Copy (record { 0 = 2 })) refl in
    let m = no_publish 200 (suc i) (Merge 4) refl in
    let whole : tally is_publish (load_commands (suc i)) ≡ 0 + tally is_publish (deletes ++ (publishes ++ (copies ++ merges))) = refl in
    omega (arith, one, two, three, d, p, c, m, whole)

load_publishes : (n : ℕ) → tally (λ l. is_publish l.command) (load_lines n) ≡ n / 50
load_publishes zero = refl
load_publishes (suc i) =
    let lines : List Line = lines_numbered (3 + length (load_lines i)) (load_lane (suc i)) (load_commands (suc i)) in
    let whole = tally-append (λ (l : Line). is_publish l.command) (load_lines i) lines in
    let more = tally_numbered is_publish (3 + length (load_lines i)) (load_lane (suc i)) (load_commands (suc i)) in
    let turn = turn_publishes i in
    let before = load_publishes i in
    omega (arith, whole, more, turn, before)

all_publishes : (n : ℕ) → tally (λ l. is_publish l.command) (all_of n) ≡ n / 50 + 1
all_publishes n =
    let whole = tally-append (λ (l : Line). is_publish l.command) (load_lines n) (last_of n ++ []) in
    let last : tally (λ (l : Line). is_publish l.command) (last_of n ++ []) ≡ 1 = refl in
    let first = load_publishes n in
    omega (arith, whole, last, first)

-- ---- publishes of a history

follows_published : (c : LineCommand) (last e : Event) (g : Gen) (w : Version) → e ≡ Published g w → Follows c last e → c ≡ Publish
follows_published Publish last e g w is follows = refl
follows_published c last e g w is follows = absurd (other (subst (Follows c last) is follows))
  where
    other : Follows c last (Published g w) → ⊥
    other f = f

begins_published : (c : LineCommand) (past : Past) (g : Gen) (w : Version) → Begins c past (Published g w) → ⊥
begins_published (Put doc) past g w begins = begins
begins_published c past g w begins = begins

first_published : (c : LineCommand) (at : At) (past : Past) (cause : Option Cause) (g : Gen) (w : Version) → First c at past cause (Published g w) → ⊥
first_published c at past (Some x) g w first = cc
first_published c at past None g w first = begins_published c past g w first

-- a publish is published by a line that publishes
pub published_by : (c : LineCommand) (at : At) (past : Past) (last : Option Event) (g : Gen) (w : Version) → Suits c at past last (Published g w) → c ≡ Publish
published_by c at past None g w suits = absurd (first_published c at past (refusal c at.lane.0 past) g w suits)
published_by c at past (Some last) g w suits = follows_published c last (Published g w) g w refl suits.1

abbrev has_published : Past → Line → Bool
has_published past l = is_publish l.command && is_answered l.at past

answered_more : (past : Past) (e : Entry) (l : Line) → has_published past l ≡ true → has_published (e ∷ past) l ≡ true
answered_more past e l is =
    let parts = and_parts (is_publish l.command) (is_answered l.at past) is in
    and_from (is_publish l.command) (is_answered l.at (e ∷ past)) parts.0 (or_right (is_reply e.event && same_at e.at l.at) (is_answered l.at past) parts.1)

put_le : (b : Bool) (k m n : ℕ) → k ≤ m → m + 1 ≤ n → (if b then k + 1 else k) ≤ n
put_le true k m n low high = omega (arith, low, high)
put_le false k m n low high = omega (arith, low, high)

publishes_step : (n : ℕ) (past : Past) (at : At) (e : Event) → is_calm_event e ≡ true → Turn n past (record { at = at; event = e }) → put_publishes past ≤ tally (has_published past) (all_of n)
    → put_publishes (record { at = at; event = e } ∷ past) ≤ tally (has_published (record { at = at; event = e } ∷ past)) (all_of n)
publishes_step n past at (Published g w) calm turn low =
    let entry : Entry = record { at = at; event = Published g w } in
    let suits = turn_suits n past entry calm turn in
    let is : turn.command ≡ Publish = published_by turn.command at past (last_of_line at past) g w suits.0 in
    let fresh : is_answered at past ≡ false = turn_open turn.command at past (Published g w) suits.0 in
    let rise = tally_rises (has_published past) (has_published (entry ∷ past)) (answered_more past entry) (all_of n) at turn.command
    (λ l place asks. (
      ap (λ (b : Bool). is_publish l.command && b) (ap (λ (a : At). is_answered a past) place ∙ fresh) ∙ and_no (is_publish l.command),
      and_from (is_publish l.command) (is_answered l.at (entry ∷ past)) (ap is_publish (asks ∙ is))
          (or_left (same_at at l.at) (is_answered l.at past) (ap (same_at at) place ∙ same_at_self at)),
    )) turn.there in
    put_le (cut_has_put (before_start at past)) (put_publishes past) (tally (has_published past) (all_of n)) (tally (has_published (entry ∷ past)) (all_of n)) low rise
  where
    and_no : (b : Bool) → (b && false) ≡ false
    and_no true = refl
    and_no false = refl
publishes_step n past at e calm turn low =
    let entry : Entry = record { at = at; event = e } in
    let more = tally_grows (has_published past) (has_published (entry ∷ past)) (answered_more past entry) (all_of n) in
    omega (arith, low, more)

publishes_low : (n size : ℕ) (past : Past) → IsLegalPast size past → ServesLanes (generated_script n) past → put_publishes past ≤ tally (has_published past) (all_of n)
publishes_low n size [] legal serves = omega arith
publishes_low n size (e ∷ past) legal serves =
    publishes_step n past e.at e.event (serves_calm n size (e ∷ past) legal serves).0 (turn_of n past e serves) (publishes_low n size past legal.1 serves.1)

-- there are never so many segments that one more is too many
pub never_full : (n size : ℕ) (past : Past) → n ≤ 10000 → IsLegalPast size past → ServesLanes (generated_script n) past → may_be_full past ≡ false
never_full n size past few legal serves =
    let some = publishes_low n size past legal serves in
    let each = tally_grows (has_published past) (λ l. is_publish l.command) (λ l is. (and_parts (is_publish l.command) (is_answered l.at past) is).0) (all_of n) in
    let whole = all_publishes n in
    let low : put_publishes past < 256 = omega (arith, few, some, each, whole) in
    let test : nat_le 256 (put_publishes past) ≡ false = grind (arith, nat_tests) in
    ap (λ (b : Bool). b && (nat_lt 0 (merge_count past) || nat_le 256 (length (documents_at past (newest_version past))))) test

-- ---- names

abbrev is_begun : Past → Line → Bool
is_begun past l = is_some (last_of_line l.at past)

abbrev last_by : Event → Option Event → Option Event
last_by e last = elim e [ Fault n kind ↦ last | event ↦ Some event ]

begun_by : (e : Event) (same : Bool) (last : Option Event) → is_some last ≡ true → is_some (if same then last_by e last else last) ≡ true
begun_by (Fault n kind) true last is = is
begun_by e true last is = refl
begun_by e false last is = is

begun_more : (past : Past) (e : Entry) (l : Line) → is_begun past l ≡ true → is_begun (e ∷ past) l ≡ true
begun_more past e l is = begun_by e.event (same_at e.at l.at) (last_of_line l.at past) is

-- the event draws a name, where it draws one
abbrev draws : Event → Bool
draws Publishing = true
draws (Merging seg) = true
draws e = false

follows_draws : (c : LineCommand) (last e : Event) → draws e ≡ true → Follows c last e → ⊥
follows_draws c last Publishing is follows = follows
follows_draws c last (Merging seg) is follows = follows
follows_draws c last e is follows = absurd (false≢true is)

-- a name is drawn by the first entry of a line
first_entry : (c : LineCommand) (at : At) (past : Past) (e : Event) → draws e ≡ true → Suits c at past (last_of_line at past) e → last_of_line at past ≡ None
first_entry c at past e is suits = by_last (last_of_line at past) refl suits
  where
    by_last : (last : Option Event) → last_of_line at past ≡ last → Suits c at past last e → last_of_line at past ≡ None
    by_last None same s = same
    by_last (Some x) same s = absurd (follows_draws c x e is s.1)

begins_line : (e : Event) (last : Option Event) → draws e ≡ true → is_some (last_by e last) ≡ true
begins_line (Fault n kind) last is = absurd (false≢true is)
begins_line e last is = refl

drawn_rise : (n : ℕ) (past : Past) (at : At) (e : Event) → is_calm_event e ≡ true → draws e ≡ true → Turn n past (record { at = at; event = e })
    → tally (is_begun past) (all_of n) + 1 ≤ tally (is_begun (record { at = at; event = e } ∷ past)) (all_of n)
drawn_rise n past at e calm is turn =
    let entry : Entry = record { at = at; event = e } in
    let suits = turn_suits n past entry calm turn in
    let none : last_of_line at past ≡ None = first_entry turn.command at past e is suits.0 in
    tally_rises (is_begun past) (is_begun (entry ∷ past)) (begun_more past entry) (all_of n) at turn.command
    (λ l place asks. (
      ap is_some (ap (λ (a : At). last_of_line a past) place ∙ none),
      ap (λ (b : Bool). is_some (if b then last_by e (last_of_line l.at past) else last_of_line l.at past)) (ap (same_at at) place ∙ same_at_self at) ∙ begins_line e (last_of_line l.at past) is,
    )) turn.there

names_step : (n : ℕ) (past : Past) (at : At) (e : Event) → is_calm_event e ≡ true → Turn n past (record { at = at; event = e }) → names_drawn past ≤ tally (is_begun past) (all_of n)
    → names_drawn (record { at = at; event = e } ∷ past) ≤ tally (is_begun (record { at = at; event = e } ∷ past)) (all_of n)
names_step n past at Publishing calm turn low =
    put_le (cut_has_put past) (names_drawn past) (tally (is_begun past) (all_of n)) (tally (is_begun (record { at = at; event = Publishing } ∷ past)) (all_of n)) low
    (drawn_rise n past at Publishing calm refl turn)
names_step n past at (Merging seg) calm turn low = let rise = drawn_rise n past at (Merging seg) calm refl turn in omega (arith, low, rise)
names_step n past at (Promoted m g f w) calm turn low = absurd (false≢true calm)
names_step n past at e calm turn low =
    let entry : Entry = record { at = at; event = e } in
    let more = tally_grows (is_begun past) (is_begun (entry ∷ past)) (begun_more past entry) (all_of n) in
    omega (arith, low, more)

names_low : (n size : ℕ) (past : Past) → IsLegalPast size past → ServesLanes (generated_script n) past → names_drawn past ≤ tally (is_begun past) (all_of n)
names_low n size [] legal serves = omega arith
names_low n size (e ∷ past) legal serves =
    names_step n past e.at e.event (serves_calm n size (e ∷ past) legal serves).0 (turn_of n past e serves) (names_low n size past legal.1 serves.1)

length-all_of : (n : ℕ) → length (all_of n) ≡ length (load_lines n) + 6
length-all_of n = length-seam (load_lines n) (last_of n ++ []) refl
  where
    length-seam : (xs ys : List Line) → length ys ≡ 6 → length (xs ++ ys) ≡ length xs + 6
    length-seam [] ys e = e
    length-seam (x ∷ xs) ys e = let rest = length-seam xs ys e in omega (arith, rest)

-- the names of the generation are never spent
pub never_spent : (n size : ℕ) (past : Past) → n ≤ 10000 → IsLegalPast size past → ServesLanes (generated_script n) past → names_are_spent past ≡ false
never_spent n size past few legal serves =
    let some = names_low n size past legal serves in
    let each = tally_low (is_begun past) (all_of n) in
    let whole = length-all_of n in
    let lines = load_length n in
    let low : names_drawn past < 1679616 = omega (arith, few, some, each, whole, lines) in
    grind (arith, nat_tests)
