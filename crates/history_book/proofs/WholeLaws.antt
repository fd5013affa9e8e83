-- A line has met since its start all faults in files that it met.
use Rattle.std.proofs.Common.{◌≡◌, ◌≢◌, ◌≤◌, ◌+◌, ◌++◌, ◌==◌, ◌&&◌, ◌||◌, ℕ, Bool, true, false, true≢false, List, [], ◌∷◌, Option, Some, None, drop, length, length-append, reverse, refl, sym, ap, ◌∙◌, subst, arith, if◌then◌else◌}
use Rattle.std.proofs.Math.Bool.{and-true, and-false, or-false}
use Rattle.std.proofs.Math.Seq.{drop-append_seam}
use Rattle.std.proofs.lemmas.Bool.{and_parts, or_parts}
use Rattle.std.proofs.lemmas.List.{reverse-append, reverse-reverse, length-reverse}
use Rattle.std.proofs.lemmas.List.Folds.{list_any-append}
use Rattle.std.specs.Prelude.{not}
use Rattle.std.specs.List.{list_any}
use Rattle.nrt_base.specs.declared.numbers.At.{At}
use Rattle.history_rules.specs.declared.entry.Entry.{Entry}
use Rattle.history_rules.specs.declared.entry.Event.{Event}
use Rattle.history_rules.specs.declared.entry.Event.TheVariants.{Merging, Fault}
use Rattle.history_rules.specs.Nodes.{Past}
use Rattle.history_rules.specs.Lines.{same_at, is_start, is_reply, is_answered, last_of_line, start_entry, before_start}
use Rattle.history_rules.specs.Faults.{has_file_fault, has_met_fault, is_of_disk}
use Rattle.history_rules.specs.Rules.{copies_to, is_merging, fetches_at}
use Rattle.history_rules.specs.Legal.{KeepsRule, IsLegalPast}
use Rattle.history_rules.proofs.AnyLemmas.{none_more}
use Rattle.history_rules.proofs.PastLemmas.{legal_before}
use Rattle.history_tables.proofs.RowLemmas.{same_at_is}
use Rattle.history_tables.specs.Begins.{open_line}
use Rattle.history_book.proofs.LineLaws.{open_none}
use Rattle.history_book.specs.Steps.{last_by}
use Rattle.history_book.specs.Turns.{StartsOnce, IsUnbegun, AreInTurn}

-- a line that has no reply is no merge
unmerging : (at : At) (past : Past) → is_answered at past ≡ false → is_merging (last_of_line at past) ≡ false
unmerging at [] none = refl
unmerging at (e ∷ past) none =
    let parts = or_parts (is_reply e.event && same_at e.at at) (is_answered at past) none in
    by (same_at e.at at) e.event parts.0 (unmerging at past parts.1)
  where
    last : (x : Event) (old : Option Event) → is_reply x ≡ false → is_merging old ≡ false → is_merging (last_by x old) ≡ false
    last (Merging seg) old no_reply was = absurd (true≢false no_reply)
    last (Fault n kind) old no_reply was = was
    last x old no_reply was = refl

    by : (s : Bool) (x : Event) → (is_reply x && s) ≡ false → is_merging (last_of_line at past) ≡ false
        → is_merging (if s then last_by x (last_of_line at past) else last_of_line at past) ≡ false
    by true x no_reply was = last x (last_of_line at past) (sym (and-true (is_reply x)) ∙ no_reply) was
    by false x no_reply was = was

unstarted : (b : Bool) (x : Event) (old : Option Event) → (if b then Some x else old) ≡ None → old ≡ None
unstarted true x old none = absurd (cc)
unstarted false x old none = none

quiet : (c m r p : Bool) → c ≡ false → m ≡ false → (c || (m && r && p)) ≡ false
quiet true m r p none calm = absurd (true≢false none)
quiet false true r p none calm = absurd (true≢false calm)
quiet false false r p none calm = refl

-- no file is fetched for it either
fetches_none : (size n : ℕ) (at : At) (past : Past) (begun : Option Event) → start_entry at past ≡ begun → begun ≡ None → is_answered at past ≡ false → fetches_at size at past n ≡ false
fetches_none size n at past begun is none replied = quiet (copies_to size (before_start at past) (start_entry at past) n) (is_merging (last_of_line at past)) _ _
    (ap (λ (o : Option Event). copies_to size (before_start at past) o n) (is ∙ none)) (unmerging at past replied)

no_file : (b k f : Bool) → f ≡ false → (k || f) ≡ true → ((b && not k) && true) ≡ false
no_file true true f none some = refl
no_file false true f none some = refl
no_file b false f none some = absurd (true≢false (sym some ∙ none))

-- a line that has neither started nor its reply has met no fault in a file
unhurt : (size n : ℕ) (at : At) (past : Past) → IsLegalPast size past → start_entry at past ≡ None → is_answered at past ≡ false → has_file_fault n at past ≡ false
unhurt size n at [] legal begun replied = refl
unhurt size n at (e ∷ past) legal begun replied = both (hurts e.event (same_at e.at at) refl legal.0) (unhurt size n at past legal.1 before parts.1)
  where
    parts : ((is_reply e.event && same_at e.at at) ≡ false) × (is_answered at past ≡ false)
    parts = or_parts (is_reply e.event && same_at e.at at) (is_answered at past) replied

    before : start_entry at past ≡ None
    before = unstarted (is_start e.event && same_at e.at at) e.event (start_entry at past) begun

    hurts : (x : Event) (s : Bool) → same_at e.at at ≡ s → KeepsRule size past e.at x
        → (elim x [ Fault m met ↦ (m.0 == n) && not (is_of_disk met) | _ ↦ false ] && s) ≡ false
    hurts (Fault m met) true here keeps = no_file (m.0 == n) (is_of_disk met) (fetches_at size at past m.0) (fetches_none size m.0 at past (start_entry at past) refl before parts.1)
        (subst (λ (a : At). (is_of_disk met || fetches_at size a past m.0) ≡ true) (same_at_is e.at at here) keeps.fetched)
    hurts (Fault m met) false here keeps = and-false ((m.0 == n) && not (is_of_disk met))
    hurts x s here keeps = refl

    both : {a b : Bool} → a ≡ false → b ≡ false → (a || b) ≡ false
    both {a} {b} one two = ap (λ (c : Bool). c || b) one ∙ two

-- a line that has started: its start entry stands between, and before that the line had neither started nor its reply
record StartsBehind (at : At) (past : Past) : Type 0 where
  newer : Past
  is : past ≡ newer ++ before_start at past
  unbegun : IsUnbegun at (before_start at past)

behind_step : (at : At) (e : Entry) (past : Past) (s : Bool) → (is_start e.event && same_at e.at at) ≡ s → StartsOnce (is_start e.event) e.at past
    → (start_entry at past ≢ None → StartsBehind at past) → (if s then Some e.event else start_entry at past) ≢ None → StartsBehind at (e ∷ past)
behind_step at e past true here once was some =
    let parts = and_parts (is_start e.event) (same_at e.at at) here in
    let start : before_start at (e ∷ past) ≡ past = ap (λ (b : Bool). if b then past else before_start at past) here in
    record {
      newer = e ∷ [];
      is = ap (λ (p : Past). e ∷ p) (sym start);
      unbegun = subst (IsUnbegun at) (sym start)
          (subst (λ (a : At). IsUnbegun a past) (same_at_is e.at at parts.1) (subst (λ (b : Bool). StartsOnce b e.at past) parts.0 once));
    }
behind_step at e past false here once was some =
    let older = was some in
    let start : before_start at (e ∷ past) ≡ before_start at past = ap (λ (b : Bool). if b then past else before_start at past) here in
    record {
      newer = e ∷ older.newer;
      is = ap (λ (p : Past). e ∷ p) (older.is ∙ ap (λ (p : Past). older.newer ++ p) (sym start));
      unbegun = subst (IsUnbegun at) (sym start) older.unbegun;
    }

starts_behind : (at : At) (past : Past) → AreInTurn past → start_entry at past ≢ None → StartsBehind at past
starts_behind at [] turns some = absurd (some refl)
starts_behind at (e ∷ past) turns some = behind_step at e past (is_start e.event && same_at e.at at) refl turns.0.once (starts_behind at past turns.1) some

-- the entries behind those before the start
newer_is : (newer start : Past) (entries : List Entry) → reverse entries ≡ newer ++ start → reverse (drop (length start) entries) ≡ newer
newer_is newer start entries is =
    let all : entries ≡ reverse start ++ reverse newer = sym (reverse-reverse entries) ∙ ap reverse is ∙ reverse-append newer start in
    let rest : drop (length start) entries ≡ reverse newer = ap (drop (length start)) all
    ∙ ap (λ (k : ℕ). drop k (reverse start ++ reverse newer)) (sym (length-reverse start)) ∙ drop-append_seam (reverse start) (reverse newer) in
    ap reverse rest ∙ reverse-reverse newer

module _ (size : ℕ) (at : At) (past : Past) (entries : List Entry) (is : reverse entries ≡ past) (legal : IsLegalPast size past) (turns : AreInTurn past)
    (line : open_line at past ≢ None) (k : ℕ) (before : k ≡ length (before_start at past)) where
  behind : StartsBehind at past
  behind = starts_behind at past turns (λ none. line (open_none at past none))

  newer_now : reverse (drop k entries) ≡ behind.newer
  newer_now = ap (λ (i : ℕ). reverse (drop i entries)) before ∙ newer_is behind.newer (before_start at past) entries (is ∙ behind.is)

  -- the faults in files since the start are all of the line
  pub faults_since : (n : ℕ) → has_file_fault n at (reverse (drop k entries)) ≡ has_file_fault n at past
  faults_since n = ap (has_file_fault n at) newer_now ∙ sym (ap (has_file_fault n at) behind.is ∙ all)
    where
      hurts : Entry → Bool
      hurts e = elim e.event [ Fault m met ↦ (m.0 == n) && not (is_of_disk met) | _ ↦ false ] && same_at e.at at

      none : has_file_fault n at (before_start at past) ≡ false
      none = unhurt size n at (before_start at past) (legal_before size behind.newer (before_start at past) (subst (IsLegalPast size) behind.is legal))
          behind.unbegun.begun behind.unbegun.replied

      all : has_file_fault n at (behind.newer ++ before_start at past) ≡ has_file_fault n at behind.newer
      all = list_any-append hurts behind.newer (before_start at past) ∙ ap (λ (b : Bool). has_file_fault n at behind.newer || b) none ∙ or-false (has_file_fault n at behind.newer)

  pub starts_within : k ≤ length entries
  starts_within =
      let long : length past ≡ length (behind.newer ++ before_start at past) = ap length behind.is in
      let parts : length (behind.newer ++ before_start at past) ≡ length behind.newer + length (before_start at past) = length-append behind.newer (before_start at past) in
      let same : length (reverse entries) ≡ length entries = length-reverse entries in
      let whole : length (reverse entries) ≡ length past = ap length is in
      omega (arith, long, parts, same, whole, before)

-- a line that met no fault met none in a file
pub spared_whole : (n : ℕ) (at : At) (past : Past) → has_met_fault at past ≡ false → has_file_fault n at past ≡ false
spared_whole n at past none = none_more
    (λ e. elim e.event [ Fault m met ↦ true && true | _ ↦ false ] && same_at e.at at)
    (λ e. elim e.event [ Fault m met ↦ (m.0 == n) && not (is_of_disk met) | _ ↦ false ] && same_at e.at at)
    (λ e hurt. by_event e.event (same_at e.at at) hurt) past none
  where
    by_event : (x : Event) (s : Bool) → (elim x [ Fault m met ↦ (m.0 == n) && not (is_of_disk met) | _ ↦ false ] && s) ≡ true
        → (elim x [ Fault m met ↦ true && true | _ ↦ false ] && s) ≡ true
    by_event (Fault m met) s hurt = (and_parts ((m.0 == n) && not (is_of_disk met)) s hurt).1
    by_event x s hurt = hurt
