-- What a reopening may find of the commit in flight: the version of its start, and where the node is stuck, what it searches.
use Rattle.std.proofs.Common.{◌≡◌, ◌≢◌, ◌≤◌, ◌&&◌, ◌||◌, ◌==◌, ⊎_elim, ℕ, Bool, true, false, true≢false, List, [], ◌∷◌, Some, None, Option, length, refl, ap, ◌∙◌, sym, subst, arith, if◌then◌else◌}
use Rattle.std.specs.Prelude.{not}
use Rattle.std.specs.List.{list_any}
use Rattle.std.proofs.lemmas.Bool.{eqb-true, eq-eqb}
use Rattle.nrt_base.specs.declared.numbers.At.{At}
use Rattle.nrt_base.specs.declared.numbers.NodeNo.{NodeNo}
use Rattle.nrt_base.specs.declared.numbers.Version.{Version}
use Rattle.history_rules.specs.declared.cause.Cause.{Cause}
use Rattle.history_rules.specs.declared.cause.Cause.TheVariants.{DiskFault}
use Rattle.history_rules.specs.declared.entry.Entry.{Entry}
use Rattle.history_rules.specs.declared.entry.Event.{Event}
use Rattle.history_rules.specs.declared.entry.Event.TheVariants.{Publishing, Published, Copying, Switched, Settling, Opened, Asking, Committing, Committed, Crashed, Reopened, Promoted, Fault, Refused}
use Rattle.history_rules.specs.Nodes.{Past, is_at, primary_of, is_running, crashes, version_of}
use Rattle.history_rules.specs.Lines.{same_at, is_start, is_reply, start_entry, before_start, without_at, commit_in_flight}
use Rattle.history_rules.specs.Commits.{is_disk_fault, starts_commit, is_stuck, late_commit, more_by, reopenable_versions}
use Rattle.history_rules.specs.Points.{operations_of_generation}
use Rattle.history_rules.specs.Rules.{MayRefuseLine}
use Rattle.history_rules.specs.Legal.{KeepsRule, IsLegalPast}
use Rattle.history_rules.specs.Steps.{is_running_by, crashes_by, commit_by}
use Rattle.history_rules.proofs.NodeLemmas.{crashes_rise}
use Rattle.history_rules.proofs.CommitLemmas.{more_found}
use Rattle.history_tables.proofs.RowLemmas.{by_test, same_at_self, same_at_is}
use Rattle.history_tables.specs.Begins.{begin, begun_by, open_line}
use Rattle.history_tables.specs.declared.lines.Start.TheVariants.{Searching as SearchStart}
use Rattle.history_book.specs.Turns.{StartsOnce, InTurn, AreInTurn}
use Rattle.history_book.specs.Laws.{may_find, CommitFound}
use Rattle.history_book.proofs.LineLaws.{without_some, fresh_apart}
use Rattle.history_book.proofs.OpenLaws.{before_apart, commit_kept}
use Rattle.history_book.proofs.ReignLaws.{node_crashes_rise}

-- no commit of a node that is down is in flight
down_step : (size : ℕ) (n : ℕ) (past : Past) (at : At) (e : Event) → KeepsRule size past at e → (is_running n past ≡ false → commit_in_flight n past ≡ None)
    → is_running_by n e (is_running n past) ≡ false → commit_by n at e (commit_in_flight n past) ≡ None
down_step size n past at (Committing m v) keeps was down = commits (m.0 == n) refl
  where
    commits : (b : Bool) → (m.0 == n) ≡ b → (if b then Some at else commit_in_flight n past) ≡ None
    commits true here = absurd (true≢false (sym (subst (λ (k : ℕ). is_running k past ≡ true) (eqb-true m.0 n here) keeps.running) ∙ down))
    commits false here = was down
down_step size n past at (Crashed m) keeps was down = crash (m.0 == n) down
  where
    crash : (b : Bool) → (if b then false else is_running n past) ≡ false → (if b then None else without_at at (commit_in_flight n past)) ≡ None
    crash true down = refl
    crash false down = ap (without_at at) (was down)
down_step size n past at (Reopened m v) keeps was down = reopens (m.0 == n) down
  where
    reopens : (b : Bool) → (if b then true else is_running n past) ≡ false → without_at at (commit_in_flight n past) ≡ None
    reopens true up = absurd (true≢false up)
    reopens false down = ap (without_at at) (was down)
down_step size n past at e keeps was down = reply (is_reply e)
  where
    reply : (b : Bool) → (if b then without_at at (commit_in_flight n past) else commit_in_flight n past) ≡ None
    reply true = ap (without_at at) (was down)
    reply false = was down

pub down_none : (size : ℕ) (n : ℕ) (past : Past) → IsLegalPast size past → is_running n past ≡ false → commit_in_flight n past ≡ None
down_none size n [] legal down = refl
down_none size n (e ∷ past) legal down = down_step size n past e.at e.event legal.0 (down_none size n past legal.1) down

-- an open line that started as a commit is the one in flight, while its node has not crashed
open_mine : (n : NodeNo) (v : Version) (past : Past) (x at : At) (e : Event) → same_at x at ≡ true
    → (if is_start e && same_at x at then Some e else start_entry at past) ≡ Some (Committing n v)
    → begun_by e (length past) (length (operations_of_generation past)) (open_line at past) ≢ None
    → crashes_by n.0 e (crashes n.0 past) ≡ crashes n.0 (if is_start e && same_at x at then past else before_start at past)
    → (start_entry at past ≡ Some (Committing n v) → open_line at past ≢ None → crashes n.0 past ≡ crashes n.0 (before_start at past) → commit_in_flight n.0 past ≡ Some at)
    → commit_by n.0 x e (commit_in_flight n.0 past) ≡ Some at
open_mine n v past x at (Committing m w) here is line alive was =
    let mine : Some (Committing m w) ≡ Some (Committing n v) = ap (λ (s : Bool). if s then Some (Committing m w) else start_entry at past) (sym here) ∙ is in
    let node : m ≡ n = cc in
    let test : (m.0 == n.0) ≡ true = ap (λ (k : NodeNo). k.0 == n.0) node ∙ eq-eqb n.0 n.0 refl in
    ap (λ (b : Bool). if b then Some x else commit_in_flight n.0 past) test ∙ ap Some (same_at_is x at here)
open_mine n v past x at (Switched m w) here is line alive was = was is line alive
open_mine n v past x at (Fault m k) here is line alive was = was is line alive
open_mine n v past x at Publishing here is line alive was = let mine : Some Publishing ≡ Some (Committing n v) = ap (λ (s : Bool). if s then Some Publishing else start_entry at past) (sym here) ∙ is in absurd (cc)
open_mine n v past x at (Copying m w) here is line alive was = let mine : Some (Copying m w) ≡ Some (Committing n v) = ap (λ (s : Bool). if s then Some (Copying m w) else start_entry at past) (sym here) ∙ is in absurd (cc)
open_mine n v past x at (Settling w) here is line alive was = let mine : Some (Settling w) ≡ Some (Committing n v) = ap (λ (s : Bool). if s then Some (Settling w) else start_entry at past) (sym here) ∙ is in absurd (cc)
open_mine n v past x at (Asking m t w) here is line alive was = let mine : Some (Asking m t w) ≡ Some (Committing n v) = ap (λ (s : Bool). if s then Some (Asking m t w) else start_entry at past) (sym here) ∙ is in absurd (cc)
open_mine n v past x at (Opened m t w) here is line alive was = opens (t.0 == 0) refl
  where
    opens : (z : Bool) → (t.0 == 0) ≡ z → (if not z then without_at x (commit_in_flight n.0 past) else commit_in_flight n.0 past) ≡ Some at
    opens true zero =
        let mine : Some (Opened m t w) ≡ Some (Committing n v) = ap (λ (z : Bool). if z && true then Some (Opened m t w) else start_entry at past) (sym zero)
        ∙ (ap (λ (s : Bool). if (t.0 == 0) && s then Some (Opened m t w) else start_entry at past) (sym here) ∙ is) in
        absurd (cc)
    opens false zero = absurd (line (ap (λ (z : Bool). begin (if z then Some (SearchStart m w) else None) (length past) (length (operations_of_generation past))) zero))
open_mine n v past x at e here is line alive was = absurd (line refl)

open_other : (size : ℕ) (n : NodeNo) (v : Version) (past : Past) (e : Entry) (at : At) → same_at e.at at ≡ false → KeepsRule size past e.at e.event
    → start_entry at past ≡ Some (Committing n v) → open_line at past ≢ None → crashes n.0 (e ∷ past) ≡ crashes n.0 (before_start at (e ∷ past))
    → (start_entry at past ≡ Some (Committing n v) → open_line at past ≢ None → crashes n.0 past ≡ crashes n.0 (before_start at past) → commit_in_flight n.0 past ≡ Some at)
    → commit_in_flight n.0 (e ∷ past) ≡ Some at
open_other size n v past e at apart keeps is line same was =
    let alive : crashes_by n.0 e.event (crashes n.0 past) ≡ crashes n.0 (before_start at past) = same ∙ ap (crashes n.0) (before_apart e past at apart) in
    let rise : crashes n.0 past ≤ crashes_by n.0 e.event (crashes n.0 past) = crashes_rise n.0 past e in
    let low = node_crashes_rise n.0 at past in
    let old : crashes n.0 past ≡ crashes n.0 (before_start at past) = omega arith in
    commit_kept size n past e.at e.event at apart keeps (was is line old) (alive ∙ sym old)

open_flies : (size : ℕ) (n : NodeNo) (v : Version) (at : At) (past : Past) → IsLegalPast size past → start_entry at past ≡ Some (Committing n v) → open_line at past ≢ None
    → crashes n.0 past ≡ crashes n.0 (before_start at past) → commit_in_flight n.0 past ≡ Some at
open_flies size n v at [] legal is line same = absurd (cc)
open_flies size n v at (e ∷ past) legal is line same =
    by_test (same_at e.at at)
    (λ s. same_at e.at at ≡ s → (if is_start e.event && s then Some e.event else start_entry at past) ≡ Some (Committing n v)
    → (if s then begun_by e.event (length past) (length (operations_of_generation past)) (open_line at past) else open_line at past) ≢ None → commit_in_flight n.0 (e ∷ past) ≡ Some at)
    (λ here q got opens. open_mine n v past e.at at e.event here is opens same (open_flies size n v at past legal.1))
    (λ apart q got opens. open_other size n v past e at apart legal.0 (no_start (is_start e.event) got) opens same (open_flies size n v at past legal.1))
    refl is line
  where
    no_start : (b : Bool) → (if b && false then Some e.event else start_entry at past) ≡ Some (Committing n v) → start_entry at past ≡ Some (Committing n v)
    no_start true got = got
    no_start false got = got

-- the start of a line that has started, after an entry of another line
pub start_apart : (past : Past) (x : At) (e : Event) (at : At) → same_at x at ≡ false → start_entry at (record { at = x; event = e } ∷ past) ≡ start_entry at past
start_apart past x e at apart = ap (λ (s : Bool). if is_start e && s then Some e else start_entry at past) apart ∙ no_start (is_start e)
  where
    no_start : (b : Bool) → (if b && false then Some e else start_entry at past) ≡ start_entry at past
    no_start true = refl
    no_start false = refl

-- what goes on for a commit in flight
found_on : (past : Past) (x : At) (e : Event) (n : NodeNo) (at : At) → CommitFound past n at → start_entry at (record { at = x; event = e } ∷ past) ≡ start_entry at past
    → ((u : ℕ) → may_find n.0 u past ≡ true → may_find n.0 u (record { at = x; event = e } ∷ past) ≡ true)
    → (is_stuck n.0 (record { at = x; event = e } ∷ past) ≡ true → may_find n.0 (version_of n.0 (record { at = x; event = e } ∷ past)) (record { at = x; event = e } ∷ past) ≡ true)
    → CommitFound (record { at = x; event = e } ∷ past) n at
found_on past x e n at was entry grows late = record { version = was.version; entry = entry ∙ was.entry; found = grows was.version.0 was.found; late = late }

head_found : (w : ℕ) (old : List ℕ) → list_any (λ k. k == w) (w ∷ old) ≡ true
head_found w old = rw (eq-eqb w w refl) refl

-- a node that moves to a version while its commit is in flight
moved : (past : Past) (x : At) (e : Event) (n : NodeNo) (at : At) (w : ℕ) (b : Bool) → CommitFound past n at → start_entry at (record { at = x; event = e } ∷ past) ≡ start_entry at past
    → commit_in_flight n.0 past ≡ Some at
    → reopenable_versions n.0 (record { at = x; event = e } ∷ past) ≡ (if b then more_by (late_commit n.0 past) w (reopenable_versions n.0 past) else reopenable_versions n.0 past)
    → version_of n.0 (record { at = x; event = e } ∷ past) ≡ (if b then w else version_of n.0 past)
    → is_stuck n.0 (record { at = x; event = e } ∷ past) ≡ is_stuck n.0 past
    → CommitFound (record { at = x; event = e } ∷ past) n at
moved past x e n at w true was entry flight versions version stuck = found_on past x e n at was entry
    (λ u found. ap (λ (vs : List ℕ). list_any (λ k. k == u) vs) versions ∙ more_found (late_commit n.0 past) w u (reopenable_versions n.0 past) found)
    (λ is.
    let late : late_commit n.0 past ≡ Some at = ap (λ (s : Bool). if s then commit_in_flight n.0 past else None) (sym stuck ∙ is) ∙ flight in
    let all : reopenable_versions n.0 (record { at = x; event = e } ∷ past) ≡ w ∷ reopenable_versions n.0 past = versions ∙ ap (λ (o : Option At). more_by o w (reopenable_versions n.0 past)) late in
    ap (λ (k : ℕ). list_any (λ j. j == k) (reopenable_versions n.0 (record { at = x; event = e } ∷ past))) version
    ∙ (ap (λ (vs : List ℕ). list_any (λ j. j == w) vs) all ∙ head_found w (reopenable_versions n.0 past)))
moved past x e n at w false was entry flight versions version stuck = found_on past x e n at was entry
    (λ u found. ap (λ (vs : List ℕ). list_any (λ k. k == u) vs) versions ∙ found)
    (λ is. ap (λ (k : ℕ). list_any (λ j. j == k) (reopenable_versions n.0 (record { at = x; event = e } ∷ past))) version
    ∙ (ap (λ (vs : List ℕ). list_any (λ j. j == version_of n.0 past) vs) versions ∙ was.late (sym stuck ∙ is)))

-- a line that is refused for a fault of a disk had no commit at a node where another line's is in flight
unstuck : (size : ℕ) (past : Past) (x at : At) (cause : Cause) (n : NodeNo) → KeepsRule size past x (Refused cause) → InTurn past x (Refused cause) → IsLegalPast size past
    → commit_in_flight n.0 past ≡ Some at → same_at x at ≡ false → (is_disk_fault cause && starts_commit n.0 (start_entry x past)) ≡ false
unstuck size past x at cause n keeps turn legal flight apart = disk cause keeps (start_entry x past) refl
  where
    line : (v : Version) → MayRefuseLine size past x (Some (Committing n v)) DiskFault → start_entry x past ≡ Some (Committing n v) → ⊥
    line v rule started =
        let opens : open_line x past ≢ None = ⊎_elim (λ none. absurd (let both : Some (Committing n v) ≡ None = sym started ∙ none in cc)) (λ opens. opens) turn.flight in
        let alive : crashes n.0 past ≡ crashes n.0 (before_start x past) = survived (crashes n.0 past == crashes n.0 (before_start x past)) refl rule.lost in
        let mine : Some at ≡ Some x = sym flight ∙ open_flies size n v x past legal started opens alive in
        let same : at ≡ x = cc in
        true≢false (sym (same_at_self x) ∙ subst (λ (a : At). same_at x a ≡ false) same apart)
      where
        survived : (b : Bool) → (crashes n.0 past == crashes n.0 (before_start x past)) ≡ b → false ≡ not b → crashes n.0 past ≡ crashes n.0 (before_start x past)
        survived true is lost = eqb-true (crashes n.0 past) (crashes n.0 (before_start x past)) is
        survived false is lost = absurd (true≢false (sym lost))

    node : (m : NodeNo) (v : Version) (b : Bool) → (m.0 == n.0) ≡ b → MayRefuseLine size past x (Some (Committing m v)) DiskFault → start_entry x past ≡ Some (Committing m v) → b ≡ false
    node m v false is rule started = refl
    node m v true is rule started = absurd (line v
        (subst (λ (k : NodeNo). MayRefuseLine size past x (Some (Committing k v)) DiskFault) same rule)
        (started ∙ ap (λ (k : NodeNo). Some (Committing k v)) same))
      where
        same : m ≡ n
        same = λ i. record { 0 = eqb-true m.0 n.0 is i }

    begun : (s : Option Event) → MayRefuseLine size past x s DiskFault → start_entry x past ≡ s → starts_commit n.0 s ≡ false
    begun (Some (Committing m v)) rule started = node m v (m.0 == n.0) refl rule started
    begun s rule started = refl

    disk : (c : Cause) → MayRefuseLine size past x (start_entry x past) c → (s : Option Event) → start_entry x past ≡ s → (is_disk_fault c && starts_commit n.0 (start_entry x past)) ≡ false
    disk DiskFault rule s is = ap (λ (o : Option Event). starts_commit n.0 o) is ∙ begun s (subst (λ (o : Option Event). MayRefuseLine size past x o DiskFault) is rule) is
    disk c rule s is = refl

found_step : (size : ℕ) (past : Past) (x : At) (e : Event) (n : NodeNo) (at : At) → KeepsRule size past x e → InTurn past x e → IsLegalPast size past
    → (commit_in_flight n.0 past ≡ Some at → CommitFound past n at)
    → commit_by n.0 x e (commit_in_flight n.0 past) ≡ Some at → CommitFound (record { at = x; event = e } ∷ past) n at
found_step size past x (Committing m v) n at keeps turn legal was is = commits (m.0 == n.0) refl is
  where
    commits : (b : Bool) → (m.0 == n.0) ≡ b → (if b then Some x else commit_in_flight n.0 past) ≡ Some at → CommitFound (record { at = x; event = Committing m v } ∷ past) n at
    commits true here got =
        let mine : x ≡ at = cc in
        let node : m ≡ n = λ i. record { 0 = eqb-true m.0 n.0 here i } in
        subst (λ (a : At). CommitFound (record { at = x; event = Committing m v } ∷ past) n a) mine
        (subst (λ (k : NodeNo). CommitFound (record { at = x; event = Committing m v } ∷ past) k x) node
        (record {
          version = v;
          entry = ap (λ (s : Bool). if s then Some (Committing m v) else start_entry x past) (same_at_self x);
          found = top;
          late = λ stuck. ap (λ (k : ℕ). list_any (λ j. j == k) (if m.0 == m.0 then v.0 ∷ reopenable_versions m.0 past else reopenable_versions m.0 past)) (sym keeps.searched) ∙ top;
        }))
      where
        top : list_any (λ j. j == v.0) (if m.0 == m.0 then v.0 ∷ reopenable_versions m.0 past else reopenable_versions m.0 past) ≡ true
        top = ap (λ (s : Bool). list_any (λ j. j == v.0) (if s then v.0 ∷ reopenable_versions m.0 past else reopenable_versions m.0 past)) (eq-eqb m.0 m.0 refl) ∙ head_found v.0 (reopenable_versions m.0 past)
    commits false here got =
        let w = was got in
        found_on past x (Committing m v) n at w (start_apart past x (Committing m v) at (fresh_apart past x at (Committing n w.version) turn.once.begun w.entry))
        (λ u found. ap (λ (s : Bool). list_any (λ j. j == u) (if s then v.0 ∷ reopenable_versions n.0 past else reopenable_versions n.0 past)) here ∙ found)
        (λ stuck. ap (λ (s : Bool). list_any (λ j. j == version_of n.0 past) (if s then v.0 ∷ reopenable_versions n.0 past else reopenable_versions n.0 past)) here ∙ w.late stuck)
found_step size past x (Committed m v) n at keeps turn legal was is = commits (m.0 == n.0) refl
  where
    old : (commit_in_flight n.0 past ≡ Some at) × (same_at x at ≡ false)
    old = without_some x at (commit_in_flight n.0 past) is

    commits : (b : Bool) → (m.0 == n.0) ≡ b → CommitFound (record { at = x; event = Committed m v } ∷ past) n at
    commits true here =
        let mine : commit_in_flight n.0 past ≡ Some x = subst (λ (k : ℕ). commit_in_flight k past ≡ Some x) (eqb-true m.0 n.0 here) turn.flight in
        let both : Some at ≡ Some x = sym old.0 ∙ mine in
        let same : at ≡ x = cc in
        absurd (true≢false (sym (same_at_self x) ∙ subst (λ (a : At). same_at x a ≡ false) same old.1))
    commits false here =
        let w = was old.0 in
        found_on past x (Committed m v) n at w (start_apart past x (Committed m v) at old.1)
        (λ u found. ap (λ (s : Bool). list_any (λ j. j == u) (if s then v.0 ∷ [] else reopenable_versions n.0 past)) here ∙ found)
        (λ stuck. ap (λ (s : Bool). list_any (λ j. j == version_of n.0 past) (if s then v.0 ∷ [] else reopenable_versions n.0 past)) here
        ∙ w.late (ap (λ (s : Bool). if s then false else is_stuck n.0 past) (sym here) ∙ stuck))
found_step size past x (Reopened m v) n at keeps turn legal was is = reopens (m.0 == n.0) refl
  where
    old : (commit_in_flight n.0 past ≡ Some at) × (same_at x at ≡ false)
    old = without_some x at (commit_in_flight n.0 past) is

    reopens : (b : Bool) → (m.0 == n.0) ≡ b → CommitFound (record { at = x; event = Reopened m v } ∷ past) n at
    reopens true here =
        let none : commit_in_flight n.0 past ≡ None = down_none size n.0 past legal (subst (λ (k : ℕ). is_running k past ≡ false) (eqb-true m.0 n.0 here) keeps.down) in
        let both : Some at ≡ None = sym old.0 ∙ none in absurd (cc)
    reopens false here =
        let w = was old.0 in
        found_on past x (Reopened m v) n at w (start_apart past x (Reopened m v) at old.1)
        (λ u found. ap (λ (s : Bool). list_any (λ j. j == u) (if s then v.0 ∷ [] else reopenable_versions n.0 past)) here ∙ found)
        (λ stuck. ap (λ (s : Bool). list_any (λ j. j == (if s then v.0 else version_of n.0 past)) (if s then v.0 ∷ [] else reopenable_versions n.0 past)) here
        ∙ w.late (ap (λ (s : Bool). if s then false else is_stuck n.0 past) (sym here) ∙ stuck))
found_step size past x (Crashed m) n at keeps turn legal was is = crash (m.0 == n.0) is
  where
    crash : (b : Bool) → (if b then None else without_at x (commit_in_flight n.0 past)) ≡ Some at → CommitFound (record { at = x; event = Crashed m } ∷ past) n at
    crash true none = absurd (cc)
    crash false got =
        let old = without_some x at (commit_in_flight n.0 past) got in
        let w = was old.0 in found_on past x (Crashed m) n at w (start_apart past x (Crashed m) at old.1) (λ u found. found) w.late
found_step size past x (Published g v) n at keeps turn legal was is =
    let old = without_some x at (commit_in_flight n.0 past) is in
    moved past x (Published g v) n at v.0 (is_at (primary_of past) n.0) (was old.0) (start_apart past x (Published g v) at old.1) old.0 refl refl refl
found_step size past x (Promoted m g f v) n at keeps turn legal was is =
    let old = without_some x at (commit_in_flight n.0 past) is in
    moved past x (Promoted m g f v) n at v.0 (m.0 == n.0) (was old.0) (start_apart past x (Promoted m g f v) at old.1) old.0 refl refl refl
found_step size past x (Switched m v) n at keeps turn legal was is = moved past x (Switched m v) n at v.0 (m.0 == n.0) (was is) refl is refl refl refl
found_step size past x (Fault m k) n at keeps turn legal was is = let w = was is in found_on past x (Fault m k) n at w refl (λ u found. found) w.late
found_step size past x (Refused cause) n at keeps turn legal was is =
    let old = without_some x at (commit_in_flight n.0 past) is in
    let w = was old.0 in
    found_on past x (Refused cause) n at w (start_apart past x (Refused cause) at old.1) (λ u found. found)
    (λ stuck. w.late (ap (λ (b : Bool). b || is_stuck n.0 past) (sym (unstuck size past x at cause n keeps turn legal old.0 old.1)) ∙ stuck))
found_step size past x Publishing n at keeps turn legal was is = let w = was is in
    found_on past x Publishing n at w (start_apart past x Publishing at (fresh_apart past x at (Committing n w.version) turn.once.begun w.entry)) (λ u found. found) w.late
found_step size past x (Copying m v) n at keeps turn legal was is = let w = was is in
    found_on past x (Copying m v) n at w (start_apart past x (Copying m v) at (fresh_apart past x at (Committing n w.version) turn.once.begun w.entry)) (λ u found. found) w.late
found_step size past x (Settling v) n at keeps turn legal was is = let w = was is in
    found_on past x (Settling v) n at w (start_apart past x (Settling v) at (fresh_apart past x at (Committing n w.version) turn.once.begun w.entry)) (λ u found. found) w.late
found_step size past x (Asking m t v) n at keeps turn legal was is = let w = was is in
    found_on past x (Asking m t v) n at w (start_apart past x (Asking m t v) at (fresh_apart past x at (Committing n w.version) turn.once.begun w.entry)) (λ u found. found) w.late
found_step size past x (Opened m t v) n at keeps turn legal was is = opens (t.0 == 0) is turn.once
  where
    on : CommitFound past n at → same_at x at ≡ false → CommitFound (record { at = x; event = Opened m t v } ∷ past) n at
    on w apart = found_on past x (Opened m t v) n at w (start_apart past x (Opened m t v) at apart) (λ u found. found) w.late

    opens : (z : Bool) → (if not z then without_at x (commit_in_flight n.0 past) else commit_in_flight n.0 past) ≡ Some at → StartsOnce z x past
        → CommitFound (record { at = x; event = Opened m t v } ∷ past) n at
    opens true same once = let w = was same in on w (fresh_apart past x at (Committing n w.version) once.begun w.entry)
    opens false same once = let old = without_some x at (commit_in_flight n.0 past) same in on (was old.0) old.1
found_step size past x e n at keeps turn legal was is =
    let old = without_some x at (commit_in_flight n.0 past) is in
    let w = was old.0 in found_on past x e n at w (start_apart past x e at old.1) (λ u found. found) w.late

-- what a reopening may find of the commit in flight
pub commit_found : (size : ℕ) (past : Past) (n : NodeNo) (at : At) → IsLegalPast size past → AreInTurn past → commit_in_flight n.0 past ≡ Some at → CommitFound past n at
commit_found size [] n at legal turns is = absurd (cc)
commit_found size (e ∷ past) n at legal turns is = found_step size past e.at e.event n at legal.0 turns.0 legal.1 (λ older. commit_found size past n at legal.1 turns.1 older) is
