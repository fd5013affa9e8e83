-- A line whose newest entry is its start: it is open, has switched nothing, and its publish or commit is in flight while its node has not crashed.
use Rattle.std.proofs.Common.{◌≡◌, ◌≢◌, ◌≤◌, ◌+◌, ◌&&◌, ◌==◌, ℕ, Bool, true, false, true≢false, [], ◌∷◌, Some, None, Option, length, refl, ap, ◌∙◌, sym, subst, arith, if◌then◌else◌}
use Rattle.std.specs.Prelude.{nat_lt}
use Rattle.std.proofs.lemmas.Bool.{eqb-true, eq-eqb}
use Rattle.nrt_base.specs.declared.numbers.At.{At}
use Rattle.nrt_base.specs.declared.numbers.NodeNo.{NodeNo}
use Rattle.nrt_base.specs.declared.numbers.Version.{Version}
use Rattle.history_rules.specs.declared.entry.Entry.{Entry}
use Rattle.history_rules.specs.declared.entry.Event.{Event}
use Rattle.history_rules.specs.declared.entry.Event.TheVariants.{Publishing, Copying, Settling, Opened, Asking, Committing, Crashed, Fault}
use Rattle.history_rules.specs.Nodes.{Past, is_at, primary_of, primary_crashes, crashes}
use Rattle.history_rules.specs.Lines.{same_at, is_start, is_reply, last_of_line, start_entry, before_start, without_at, publish_in_flight, commit_in_flight, is_free_for, has_switched, highest_switched}
use Rattle.history_rules.specs.Points.{operations_of_generation}
use Rattle.history_rules.specs.Steps.{crashes_by, commit_by}
use Rattle.history_book.specs.Steps.{primary_crashes_by, publish_by, last_by, highest_by}
use Rattle.history_rules.specs.Legal.{KeepsRule, IsLegalPast}
use Rattle.history_tables.specs.Begins.{begun_by, open_line}
use Rattle.history_tables.specs.declared.lines.BegunLine.{BegunLine}
use Rattle.history_book.specs.Laws.{LastStarted}
use Rattle.history_tables.proofs.RowLemmas.{by_test, same_at_is}
use Rattle.history_rules.proofs.NodeLemmas.{crashes_rise}
use Rattle.history_book.proofs.ReignLaws.{node_crashes_rise, source_crashes_rise, primary_crashes_rise}

-- an event that starts a line is remembered
start_open : (e : Event) (before accepted : ℕ) (old : Option BegunLine) → is_start e ≡ true → begun_by e before accepted old ≢ None
start_open Publishing before accepted old is = λ none. absurd (cc)
start_open (Copying n v) before accepted old is = λ none. absurd (cc)
start_open (Settling v) before accepted old is = λ none. absurd (cc)
start_open (Asking n t v) before accepted old is = λ none. absurd (cc)
start_open (Committing n v) before accepted old is = λ none. absurd (cc)
start_open (Opened n t v) before accepted old is = λ none. absurd (let h = rw is at none in cc)
start_open e before accepted old is = absurd (true≢false (sym is))

-- what an entry of the line does
last_mine : (x e : Event) (past : Past) (at : At) → is_start e ≡ true → last_by x (last_of_line at past) ≡ Some e
    → (last_of_line at past ≡ Some e → LastStarted (start_entry at past) (has_switched at past) (open_line at past) e)
    → LastStarted (if is_start x then Some x else start_entry at past) (nat_lt 0 (if is_start x then 0 else highest_by x (highest_switched at past)))
    (begun_by x (length past) (length (operations_of_generation past)) (open_line at past)) e
last_mine (Fault n k) e past at start is was = was is
last_mine x e past at start is was = let same : x ≡ e = cc in
    subst (λ (y : Event). LastStarted (if is_start y then Some y else start_entry at past) (nat_lt 0 (if is_start y then 0 else highest_by y (highest_switched at past))) (begun_by y (length past) (length (operations_of_generation past)) (open_line at past)) e) (sym same)
    (rw start (record { entry = refl; unswitched = refl; is_open = start_open e (length past) (length (operations_of_generation past)) (open_line at past) start }))

last_step : (x : Entry) (e : Event) (past : Past) (at : At) (s : Bool) → is_start e ≡ true
    → (last_of_line at past ≡ Some e → LastStarted (start_entry at past) (has_switched at past) (open_line at past) e)
    → (if s then last_by x.event (last_of_line at past) else last_of_line at past) ≡ Some e
    → LastStarted (if is_start x.event && s then Some x.event else start_entry at past)
    (nat_lt 0 (if s then (if is_start x.event then 0 else highest_by x.event (highest_switched at past)) else highest_switched at past))
    (if s then begun_by x.event (length past) (length (operations_of_generation past)) (open_line at past) else open_line at past) e
last_step x e past at true start was is = tests (is_start x.event) (last_mine x.event e past at start is was)
  where
    tests : (b : Bool) → LastStarted (if b then Some x.event else start_entry at past) (nat_lt 0 (if b then 0 else highest_by x.event (highest_switched at past))) (begun_by x.event (length past) (length (operations_of_generation past)) (open_line at past)) e
        → LastStarted (if b && true then Some x.event else start_entry at past) (nat_lt 0 (if b then 0 else highest_by x.event (highest_switched at past))) (begun_by x.event (length past) (length (operations_of_generation past)) (open_line at past)) e
    tests true m = m
    tests false m = m
last_step x e past at false start was is = tests (is_start x.event)
  where
    tests : (b : Bool) → LastStarted (if b && false then Some x.event else start_entry at past) (nat_lt 0 (highest_switched at past)) (open_line at past) e
    tests true = was is
    tests false = was is

-- a line whose newest entry but faults is its start is open
pub last_started : (at : At) (past : Past) (e : Event) → is_start e ≡ true → last_of_line at past ≡ Some e → LastStarted (start_entry at past) (has_switched at past) (open_line at past) e
last_started at [] e start is = absurd (cc)
last_started at (x ∷ past) e start is = last_step x e past at (same_at x.at at) start (last_started at past e start) is

kept_line : (at' at : At) → same_at at' at ≡ false → without_at at' (Some at) ≡ Some at
kept_line at' at apart = rw apart refl

publish_kept : (size : ℕ) (past : Past) (x : At) (e : Event) (at : At) → same_at x at ≡ false → KeepsRule size past x e → publish_in_flight past ≡ Some at
    → primary_crashes_by e (primary_of past) (primary_crashes past) ≡ primary_crashes past → publish_by x e (primary_of past) (publish_in_flight past) ≡ Some at
publish_kept size past x Publishing at apart keeps is same = absurd (true≢false (sym keeps.alone ∙ (ap (is_free_for x) is ∙ apart)))
publish_kept size past x (Crashed m) at apart keeps is same = crash (is_at (primary_of past) m.0) same
  where
    crash : (b : Bool) → (if b then primary_crashes past + 1 else primary_crashes past) ≡ primary_crashes past → (if b then None else without_at x (publish_in_flight past)) ≡ Some at
    crash true more = absurd (omega arith)
    crash false more = ap (without_at x) is ∙ kept_line x at apart
publish_kept size past x e at apart keeps is same = reply (is_reply e)
  where
    reply : (b : Bool) → (if b then without_at x (publish_in_flight past) else publish_in_flight past) ≡ Some at
    reply true = ap (without_at x) is ∙ kept_line x at apart
    reply false = is

pub before_apart : (e : Entry) (past : Past) (at : At) → same_at e.at at ≡ false → before_start at (e ∷ past) ≡ before_start at past
before_apart e past at apart = ap (λ (b : Bool). if is_start e.event && b then past else before_start at past) apart
    ∙ elim (is_start e.event) as (λ b. (if b && false then past else before_start at past) ≡ before_start at past) [ true ↦ refl | false ↦ refl ]

publish_mine : (past : Past) (x at : At) (e : Event) → same_at x at ≡ true → last_by e (last_of_line at past) ≡ Some Publishing
    → primary_crashes_by e (primary_of past) (primary_crashes past) ≡ primary_crashes (if is_start e && same_at x at then past else before_start at past)
    → (last_of_line at past ≡ Some Publishing → primary_crashes past ≡ primary_crashes (before_start at past) → publish_in_flight past ≡ Some at)
    → publish_by x e (primary_of past) (publish_in_flight past) ≡ Some at
publish_mine past x at Publishing here is alive was = ap Some (same_at_is x at here)
publish_mine past x at (Fault n k) here is alive was = was is alive
publish_mine past x at e here is alive was = absurd (cc)

publish_other : (size : ℕ) (past : Past) (e : Entry) (at : At) → same_at e.at at ≡ false → KeepsRule size past e.at e.event → last_of_line at past ≡ Some Publishing
    → primary_crashes (e ∷ past) ≡ primary_crashes (before_start at (e ∷ past))
    → (last_of_line at past ≡ Some Publishing → primary_crashes past ≡ primary_crashes (before_start at past) → publish_in_flight past ≡ Some at)
    → publish_in_flight (e ∷ past) ≡ Some at
publish_other size past e at apart keeps is same was =
    let alive : primary_crashes_by e.event (primary_of past) (primary_crashes past) ≡ primary_crashes (before_start at past) = same ∙ ap primary_crashes (before_apart e past at apart) in
    let rise = primary_crashes_rise e.event (primary_of past) (primary_crashes past) in
    let low = source_crashes_rise at past in
    let old : primary_crashes past ≡ primary_crashes (before_start at past) = omega arith in
    publish_kept size past e.at e.event at apart keeps (was is old) (alive ∙ sym old)

-- a publish that has started is in flight while its primary has not crashed
pub publish_open : (size : ℕ) (at : At) (past : Past) → IsLegalPast size past → last_of_line at past ≡ Some Publishing
    → primary_crashes past ≡ primary_crashes (before_start at past) → publish_in_flight past ≡ Some at
publish_open size at [] legal is same = absurd (cc)
publish_open size at (e ∷ past) legal is same =
    by_test (same_at e.at at) (λ s. same_at e.at at ≡ s → (if s then last_by e.event (last_of_line at past) else last_of_line at past) ≡ Some Publishing → publish_in_flight (e ∷ past) ≡ Some at)
    (λ here q got. publish_mine past e.at at e.event here got same (publish_open size at past legal.1))
    (λ apart q got. publish_other size past e at apart legal.0 got same (publish_open size at past legal.1))
    refl is

pub commit_kept : (size : ℕ) (n : NodeNo) (past : Past) (x : At) (e : Event) (at : At) → same_at x at ≡ false → KeepsRule size past x e → commit_in_flight n.0 past ≡ Some at
    → crashes_by n.0 e (crashes n.0 past) ≡ crashes n.0 past → commit_by n.0 x e (commit_in_flight n.0 past) ≡ Some at
commit_kept size n past x (Committing m w) at apart keeps is same = commits (m.0 == n.0) refl
  where
    commits : (b : Bool) → (m.0 == n.0) ≡ b → (if b then Some x else commit_in_flight n.0 past) ≡ Some at
    commits true here =
        let free : is_free_for x (commit_in_flight n.0 past) ≡ true = subst (λ (k : ℕ). is_free_for x (commit_in_flight k past) ≡ true) (eqb-true m.0 n.0 here) keeps.alone in
        absurd (true≢false (sym free ∙ (ap (is_free_for x) is ∙ apart)))
    commits false here = is
commit_kept size n past x (Crashed m) at apart keeps is same = crash (m.0 == n.0) same
  where
    crash : (b : Bool) → (if b then crashes n.0 past + 1 else crashes n.0 past) ≡ crashes n.0 past → (if b then None else without_at x (commit_in_flight n.0 past)) ≡ Some at
    crash true more = absurd (omega arith)
    crash false more = ap (without_at x) is ∙ kept_line x at apart
commit_kept size n past x e at apart keeps is same = reply (is_reply e)
  where
    reply : (b : Bool) → (if b then without_at x (commit_in_flight n.0 past) else commit_in_flight n.0 past) ≡ Some at
    reply true = ap (without_at x) is ∙ kept_line x at apart
    reply false = is

commit_mine : (n : NodeNo) (v : Version) (past : Past) (x at : At) (e : Event) → same_at x at ≡ true → last_by e (last_of_line at past) ≡ Some (Committing n v)
    → crashes_by n.0 e (crashes n.0 past) ≡ crashes n.0 (if is_start e && same_at x at then past else before_start at past)
    → (last_of_line at past ≡ Some (Committing n v) → crashes n.0 past ≡ crashes n.0 (before_start at past) → commit_in_flight n.0 past ≡ Some at)
    → commit_by n.0 x e (commit_in_flight n.0 past) ≡ Some at
commit_mine n v past x at (Committing m w) here is alive was =
    let node : m ≡ n = cc in
    let test : (m.0 == n.0) ≡ true = ap (λ (k : NodeNo). k.0 == n.0) node ∙ eq-eqb n.0 n.0 refl in
    rw test (ap Some (same_at_is x at here))
commit_mine n v past x at (Fault m k) here is alive was = was is alive
commit_mine n v past x at e here is alive was = absurd (cc)

commit_other : (size : ℕ) (n : NodeNo) (v : Version) (past : Past) (e : Entry) (at : At) → same_at e.at at ≡ false → KeepsRule size past e.at e.event → last_of_line at past ≡ Some (Committing n v)
    → crashes n.0 (e ∷ past) ≡ crashes n.0 (before_start at (e ∷ past))
    → (last_of_line at past ≡ Some (Committing n v) → crashes n.0 past ≡ crashes n.0 (before_start at past) → commit_in_flight n.0 past ≡ Some at)
    → commit_in_flight n.0 (e ∷ past) ≡ Some at
commit_other size n v past e at apart keeps is same was =
    let alive : crashes_by n.0 e.event (crashes n.0 past) ≡ crashes n.0 (before_start at past) = same ∙ ap (crashes n.0) (before_apart e past at apart) in
    let rise : crashes n.0 past ≤ crashes_by n.0 e.event (crashes n.0 past) = crashes_rise n.0 past e in
    let low = node_crashes_rise n.0 at past in
    let old : crashes n.0 past ≡ crashes n.0 (before_start at past) = omega arith in
    commit_kept size n past e.at e.event at apart keeps (was is old) (alive ∙ sym old)

-- a commit that has started is in flight while its node has not crashed
pub commit_open : (size : ℕ) (n : NodeNo) (v : Version) (at : At) (past : Past) → IsLegalPast size past → last_of_line at past ≡ Some (Committing n v)
    → crashes n.0 past ≡ crashes n.0 (before_start at past) → commit_in_flight n.0 past ≡ Some at
commit_open size n v at [] legal is same = absurd (cc)
commit_open size n v at (e ∷ past) legal is same =
    by_test (same_at e.at at) (λ s. same_at e.at at ≡ s → (if s then last_by e.event (last_of_line at past) else last_of_line at past) ≡ Some (Committing n v) → commit_in_flight n.0 (e ∷ past) ≡ Some at)
    (λ here q got. commit_mine n v past e.at at e.event here got same (commit_open size n v at past legal.1))
    (λ apart q got. commit_other size n v past e at apart legal.0 got same (commit_open size n v at past legal.1))
    refl is
