-- One more entry keeps what is known of each line.
use Rattle.std.proofs.Common.{◌≡◌, ◌==◌, ◌≤◌, ℕ, [], ◌+◌, ◌∷◌, length, Bool, true, false, true≢false, ◌&&◌, ◌||◌, not, nat_lt, if◌then◌else◌, Option, Some, unwrap_or, refl, ap, sym, subst, ◌∙◌, arith}
use Rattle.std.specs.BTreeMap.{BTreeMap}
use Rattle.std.specs.Ordering.{is_eq}
use Rattle.std.proofs.Math.Bool.{and-true, and-false}
use Rattle.std.proofs.lemmas.Bool.Decides.{nat_tests}
use Rattle.nrt_base.specs.declared.numbers.At.{At}
use Rattle.history_rules.specs.declared.entry.Entry.{Entry}
use Rattle.history_rules.specs.declared.entry.Event.{Event}
use Rattle.history_rules.specs.declared.entry.Event.TheVariants.{Switched, Fault}
use Rattle.history_rules.specs.Nodes.{Past}
use Rattle.history_rules.specs.Lines.{same_at, is_start, is_reply, is_answered, before_start}
use Rattle.history_rules.specs.Points.{operations_of_generation}
use Rattle.history_rules.specs.Faults.{is_of_disk, has_met_fault, has_file_fault}
use Rattle.history_book.specs.Steps.{highest_by}
use Rattle.history_tables.proofs.RowLemmas.{same_at_self, same_at_is}
use Rattle.known_past.specs.declared.lines.KnownLine.{KnownLine}
use Rattle.known_past.specs.Lines.{line_cmp, is_fault, start_place, reply_place, line_after, line_known, LineIsKnown}

pub is_eq-line_cmp : (a b : At) → is_eq (line_cmp (a.lane.0, a.line.0) (b.lane.0, b.line.0)) ≡ same_at a b
is_eq-line_cmp a b = grind (arith, nat_tests)

pub unwrap_or-if : {X : Type 0} (b : Bool) (x none : X) (old : Option X) → unwrap_or (if b then Some x else old) none ≡ (if b then x else unwrap_or old none)
unwrap_or-if true x none old = refl
unwrap_or-if false x none old = refl

-- an event that neither switches nor fails is a reply where it starts no line
pub reply_unless : (e : Event) → ((n : _) (v : _) → e ≡ Switched n v → ⊥) → ((n : _) (kind : _) → e ≡ Fault n kind → ⊥) → not (is_start e) ≡ is_reply e
reply_unless (Switched n v) switch fault = absurd (switch n v refl)
reply_unless (Fault n kind) switch fault = absurd (fault n kind refl)
reply_unless e switch fault = refl

abbrev met_by : Event → Bool
met_by e = elim e [ Fault m met ↦ true && true | _ ↦ false ]

failed_by : (e : Event) (b : Bool) → (is_fault e || b) ≡ ((met_by e && true) || b)
failed_by (Fault n kind) b = refl
failed_by e b = refl

accepted_by : (b : Bool) (now start : Past) (count line : ℕ) → count ≡ length (operations_of_generation now) → line ≡ length (operations_of_generation start)
    → (if b then count else line) ≡ length (operations_of_generation (if b && true then now else start))
accepted_by true now start count line here there = here
accepted_by false now start count line here there = there

module _ (past : Past) (e : Entry) (count : ℕ) (counted : count ≡ length (operations_of_generation past)) (line : KnownLine) where
  -- what the entry is to its own line
  own_line : LineIsKnown past e.at line → LineIsKnown (e ∷ past) e.at (line_after e.event (length past) count line)
  own_line h = record {
    newest = rw (same_at_self e.at) (ap (λ (k : Option ℕ). if is_fault e.event then k else Some (length past)) h.newest);
    start = rw (same_at_self e.at) (ap (λ (k : Option ℕ). if is_start e.event then Some (length past) else k) h.start
        ∙ ap (λ (b : Bool). if b then Some (length past) else start_place e.at past) (sym (and-true (is_start e.event))));
    accepted = rw (same_at_self e.at) (accepted_by (is_start e.event) past (before_start e.at past) count line.accepted counted h.accepted);
    highest = rw (same_at_self e.at) (ap (λ (k : ℕ). if is_start e.event then 0 else highest_by e.event k) h.highest);
    replied = rw (same_at_self e.at) (ap (λ (k : ℕ). if is_reply e.event then length past + 1 else k) h.replied
        ∙ ap (λ (b : Bool). if b then length past + 1 else reply_place e.at past) (sym (and-true (is_reply e.event))));
    failed = rw (same_at_self e.at) (ap (λ (b : Bool). is_fault e.event || b) h.failed ∙ failed_by e.event (has_met_fault e.at past));
  }

  -- it is nothing to another line
  other_line : (at : At) → same_at e.at at ≡ false → LineIsKnown past at line → LineIsKnown (e ∷ past) at line
  other_line at other h = record {
    newest = rw other h.newest;
    start = rw other (h.start ∙ no_start (is_start e.event));
    accepted = rw other (h.accepted ∙ ap (λ (start : Past). length (operations_of_generation start)) (no_before (is_start e.event)));
    highest = rw other h.highest;
    replied = rw other (h.replied ∙ no_reply (is_reply e.event));
    failed = rw other (h.failed ∙ sym (ap (λ (b : Bool). b || has_met_fault at past) (and-false (met_by e.event))));
  }
    where
      no_start : (b : Bool) → start_place at past ≡ (if b && false then Some (length past) else start_place at past)
      no_start true = refl
      no_start false = refl

      no_reply : (b : Bool) → reply_place at past ≡ (if b && false then length past + 1 else reply_place at past)
      no_reply true = refl
      no_reply false = refl

      no_before : (b : Bool) → before_start at past ≡ (if b && false then past else before_start at past)
      no_before true = refl
      no_before false = refl

-- what is known of each line after one more entry
pub lines_next : (past : Past) (e : Entry) (count : ℕ) (old new : BTreeMap (ℕ × ℕ) KnownLine) → count ≡ length (operations_of_generation past)
    → ((at : At) → LineIsKnown past at (line_known old at))
    → ((at : At) → line_known new at ≡ (if same_at e.at at then line_after e.event (length past) count (line_known old e.at) else line_known old at))
    → (at : At) → LineIsKnown (e ∷ past) at (line_known new at)
lines_next past e count old new counted known noted at = by_test (same_at e.at at) refl
  where
    after : KnownLine
    after = line_after e.event (length past) count (line_known old e.at)

    by_test : (t : Bool) → same_at e.at at ≡ t → LineIsKnown (e ∷ past) at (line_known new at)
    by_test true same =
        let now : line_known new at ≡ after = noted at ∙ ap (λ (b : Bool). if b then after else line_known old at) same in
        let here : e.at ≡ at = same_at_is e.at at same in
        let own : LineIsKnown (e ∷ past) e.at after = own_line past e count counted (line_known old e.at) (known e.at) in
        subst (LineIsKnown (e ∷ past) at) (sym now) (subst (λ (a : At). LineIsKnown (e ∷ past) a after) here own)
    by_test false other =
        let now : line_known new at ≡ line_known old at = noted at ∙ ap (λ (b : Bool). if b then after else line_known old at) other in
        subst (LineIsKnown (e ∷ past) at) (sym now) (other_line past e count counted (line_known old at) at other (known at))

-- a line that has met no fault has met none in a file
pub spared_file : (n : ℕ) (at : At) (past : Past) → has_met_fault at past ≡ false → false ≡ has_file_fault n at past
spared_file n at [] spared = refl
spared_file n at (e ∷ past) spared = by_event e.event (same_at e.at at) spared (spared_file n at past)
  where
    by_event : (event : Event) (same : Bool) → ((met_by event && same) || has_met_fault at past) ≡ false → (has_met_fault at past ≡ false → false ≡ has_file_fault n at past)
        → false ≡ ((elim event [ Fault m met ↦ (m.0 == n) && not (is_of_disk met) | _ ↦ false ] && same) || has_file_fault n at past)
    by_event (Fault m kind) true none more = absurd (true≢false none)
    by_event (Fault m kind) false none more = more none ∙ sym (ap (λ (b : Bool). b || has_file_fault n at past) (and-false ((m.0 == n) && not (is_of_disk kind))))
    by_event e same none more = more none

pub reply_low : (at : At) (past : Past) → reply_place at past ≤ length past
reply_low at [] = omega arith
reply_low at (e ∷ past) = let low = reply_low at past in
    elim (is_reply e.event && same_at e.at at) as (λ b. (if b then length past + 1 else reply_place at past) ≤ length (e ∷ past)) [ true ↦ omega arith | false ↦ omega (arith, low) ]

-- a line has its reply where it has a newest one
pub has_reply : (at : At) (past : Past) → nat_lt 0 (reply_place at past) ≡ is_answered at past
has_reply at [] = refl
has_reply at (e ∷ past) = by_test (is_reply e.event && same_at e.at at) (has_reply at past)
  where
    by_test : (b : Bool) → nat_lt 0 (reply_place at past) ≡ is_answered at past → nat_lt 0 (if b then length past + 1 else reply_place at past) ≡ (b || is_answered at past)
    by_test true was = grind (arith, nat_tests)
    by_test false was = was

pub answered_by : (past : Past) (at : At) (replied : ℕ) → replied ≡ reply_place at past → nat_lt 0 replied ≡ is_answered at past
answered_by past at replied is = ap (nat_lt 0) is ∙ has_reply at past
