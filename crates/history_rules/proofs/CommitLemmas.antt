-- The version at which a node of a legal history reopens: its last commit, or a later one that was begun.
use Rattle.std.proofs.Common.{◌≡◌, ◌≤◌, ◌<◌, ◌+◌, ◌==◌, ◌||◌, ◌&&◌, ◌⊎◌, ⊎_elim, inl, inr, ℕ, List, [], ◌∷◌, Bool, true, false, true≢false, Option, Some, None, if◌then◌else◌, refl, sym, ap, ◌∙◌, subst, arith}
use Rattle.std.proofs.lemmas.Bool.{eqb-true, eq-eqb, or_cases, or_right}
use Rattle.std.specs.List.{list_any}
use Rattle.nrt_base.specs.declared.numbers.At.{At}
use Rattle.history_rules.specs.declared.entry.Event.{Event}
use Rattle.history_rules.specs.declared.entry.Event.TheVariants.{Published, Switched, Committing, Committed, Crashed, Reopened, Promoted}
use Rattle.history_rules.specs.Nodes.{Past, is_at, primary_of, is_running, crashes, version_of, newest_version}
use Rattle.history_rules.specs.Lines.{same_at, is_start, start_entry, before_start, commit_in_flight}
use Rattle.history_rules.specs.Commits.{base_by, base_version, starts_commit, is_stuck, late_commit, more_by, reopenable_versions, was_searched_since}
use Rattle.history_rules.specs.Legal.{KeepsRule, IsLegalPast}
use Rattle.history_rules.specs.Steps.{is_running_by, version_by, reopenable_by}
use Rattle.history_rules.specs.Laws.{is_some_line, was_searched_in_commit, IsLeftByCommits}
use Rattle.history_rules.proofs.PastLemmas.{point_low}
use Rattle.history_rules.proofs.NodeLemmas.{known, in_one, in_more, crashes_rise, runs_on, rises_step}

started_running : (size : ℕ) (past : Past) (at : At) (e : Event) (n : ℕ) → KeepsRule size past at e → starts_commit n (Some e) ≡ true → is_running_by n e (is_running n past) ≡ true
started_running size past at (Committing m w) n keeps started = subst (λ (k : ℕ). is_running k past ≡ true) (eqb-true m.0 n started) keeps.running
started_running size past at e n keeps started = absurd (true≢false (sym started))

crashes_since : (at : At) (n : ℕ) (past : Past) → crashes n (before_start at past) ≤ crashes n past
crashes_since at n [] = omega arith
crashes_since at n (e ∷ past) =
    let before = crashes_since at n past in
    let rise = crashes_rise n past e in
    elim (is_start e.event && same_at e.at at) as (λ b. crashes n (if b then past else before_start at past) ≤ crashes n (e ∷ past)) [
      | true ↦ rise
      | false ↦ omega (arith, before, rise)
    ]

-- from a commit's start on its node runs, and searches no less than it did
pub record CommitRuns (at : At) (n : ℕ) (past : Past) : Type 0 where
  pub running : is_running n past ≡ true
  pub low : (v : ℕ) → was_searched_since at n v past ≡ true → v ≤ version_of n past

commit_runs : (size : ℕ) (at : At) (n : ℕ) (past : Past) → IsLegalPast size past → starts_commit n (start_entry at past) ≡ true
    → crashes n past ≡ crashes n (before_start at past) → CommitRuns at n past
commit_runs size at n [] legal started same = absurd (true≢false (sym started))
commit_runs size at n (e ∷ past) legal started same =
    since (is_start e.event && same_at e.at at) refl started same (λ begun alive. commit_runs size at n past legal.1 begun alive)
  where
    now_or : (v : ℕ) (b : Bool) → (is_start e.event && same_at e.at at) ≡ b → was_searched_since at n v (e ∷ past) ≡ true
        → (version_of n (e ∷ past) ≡ v) ⊎ ((if b then false else was_searched_since at n v past) ≡ true)
    now_or v b is found =
        let found' : ((version_of n (e ∷ past) == v) || (if b then false else was_searched_since at n v past)) ≡ true =
        ap (λ (c : Bool). (version_of n (e ∷ past) == v) || (if c then false else was_searched_since at n v past)) (sym is) ∙ found in
        ⊎_elim (λ same. inl (eqb-true (version_of n (e ∷ past)) v same)) (λ old. inr old) (or_cases (version_of n (e ∷ past) == v) _ found')

    since : (b : Bool) → (is_start e.event && same_at e.at at) ≡ b → starts_commit n (if b then Some e.event else start_entry at past) ≡ true
        → crashes n (e ∷ past) ≡ crashes n (if b then past else before_start at past)
        → (starts_commit n (start_entry at past) ≡ true → crashes n past ≡ crashes n (before_start at past) → CommitRuns at n past)
        → CommitRuns at n (e ∷ past)
    since true is started same earlier = record {
      running = started_running size past e.at e.event n legal.0 started;
      low = λ v found. ⊎_elim (λ now. omega arith) (λ none. absurd (true≢false (sym none))) (now_or v true is found);
    }
    since false is started same earlier =
        let rise = crashes_rise n past e in
        let since_rise = crashes_since at n past in
        let before = earlier started (omega arith) in
        let still : crashes n (e ∷ past) ≡ crashes n past = omega arith in
        let up = rises_step size past e.at e.event n legal.0 legal.1 before.running in
        record {
          running = runs_on n past e.event before.running still;
          low = λ v found. ⊎_elim (λ now. omega arith) (λ old. omega (arith, before.low v old, up)) (now_or v false is found);
        }

pub more_found : (flight : Option At) (w base : ℕ) (old : List ℕ) → list_any (λ u. u == base) old ≡ true → list_any (λ u. u == base) (more_by flight w old) ≡ true
more_found None w base old found = found
more_found (Some a) w base old found = or_right (w == base) _ found

-- the base version is one at which the node may reopen
base_step : (n : ℕ) (e : Event) (base : ℕ) (past : Past) (old : List ℕ) → list_any (λ w. w == base) old ≡ true
    → list_any (λ w. w == base_by n e base) (reopenable_by n e (primary_of past) (late_commit n past) old) ≡ true
base_step n (Committed m w) base past old found =
    elim (m.0 == n) as (λ b. list_any (λ u. u == (if b then w.0 else base)) (if b then w.0 ∷ [] else old) ≡ true) [ true ↦ rw (eq-eqb w.0 w.0 refl) refl | false ↦ found ]
base_step n (Reopened m w) base past old found =
    elim (m.0 == n) as (λ b. list_any (λ u. u == (if b then w.0 else base)) (if b then w.0 ∷ [] else old) ≡ true) [ true ↦ rw (eq-eqb w.0 w.0 refl) refl | false ↦ found ]
base_step n (Committing m w) base past old found =
    elim (m.0 == n) as (λ b. list_any (λ u. u == base) (if b then w.0 ∷ old else old) ≡ true) [ true ↦ or_right (w.0 == base) _ found | false ↦ found ]
base_step n (Published g w) base past old found =
    elim (is_at (primary_of past) n) as (λ b. list_any (λ u. u == base) (if b then more_by (late_commit n past) w.0 old else old) ≡ true) [
      | true ↦ more_found (late_commit n past) w.0 base old found
      | false ↦ found
    ]
base_step n (Switched m w) base past old found =
    elim (m.0 == n) as (λ b. list_any (λ u. u == base) (if b then more_by (late_commit n past) w.0 old else old) ≡ true) [
      | true ↦ more_found (late_commit n past) w.0 base old found
      | false ↦ found
    ]
base_step n (Promoted m g f w) base past old found =
    elim (m.0 == n) as (λ b. list_any (λ u. u == base) (if b then more_by (late_commit n past) w.0 old else old) ≡ true) [
      | true ↦ more_found (late_commit n past) w.0 base old found
      | false ↦ found
    ]
base_step n e base past old found = found

base_reopenable : (n : ℕ) (past : Past) → list_any (λ w. w == base_version n past) (reopenable_versions n past) ≡ true
base_reopenable n [] = refl
base_reopenable n (e ∷ past) = base_step n e.event (base_version n past) past (reopenable_versions n past) (base_reopenable n past)

base_low : (size : ℕ) (past : Past) (n : ℕ) → IsLegalPast size past → base_version n past ≤ newest_version past
base_low size past n legal = point_low past (base_version n past) ((known size past legal).reopenable n (base_version n past) (base_reopenable n past))

-- a running node searches no less than its base version, and no version at which it may reopen is lower
pub record Low (past : Past) (n : ℕ) : Type 0 where
  pub running : is_running n past ≡ true → base_version n past ≤ version_of n past
  pub reopenable : (v : ℕ) → list_any (λ w. w == v) (reopenable_versions n past) ≡ true → base_version n past ≤ v

running_step : (size : ℕ) (past : Past) (at : At) (e : Event) (n : ℕ) → KeepsRule size past at e → IsLegalPast size past → Low past n
    → is_running_by n e (is_running n past) ≡ true → base_by n e (base_version n past) ≤ version_by n (primary_of past) e (version_of n past)
running_step size past at (Committed m w) n keeps legal low runs = commit (m.0 == n) refl
  where
    commit : (b : Bool) → (m.0 == n) ≡ b → (if b then w.0 else base_version n past) ≤ version_of n past
    commit true is =
        subst (λ (k : ℕ). w.0 ≤ version_of k past) (eqb-true m.0 n is)
        ((commit_runs size at m.0 past legal keeps.started keeps.survives.node).low w.0 keeps.searched)
    commit false is = low.running runs
running_step size past at (Reopened m w) n keeps legal low runs = reopen (m.0 == n) runs
  where
    reopen : (b : Bool) → (if b then true else is_running n past) ≡ true → (if b then w.0 else base_version n past) ≤ (if b then w.0 else version_of n past)
    reopen true runs = omega arith
    reopen false runs = low.running runs
running_step size past at (Published g w) n keeps legal low runs =
    let next : w.0 ≡ newest_version past + 1 = keeps.next in
    let base = base_low size past n legal in
    elim (is_at (primary_of past) n) as (λ b. base_version n past ≤ (if b then w.0 else version_of n past)) [ true ↦ omega arith | false ↦ low.running runs ]
running_step size past at (Switched m w) n keeps legal low runs =
    let up = rises_step size past at (Switched m w) n keeps legal runs in
    let old = low.running runs in
    omega (arith, old, up)
running_step size past at (Promoted m g f w) n keeps legal low runs =
    let up = rises_step size past at (Promoted m g f w) n keeps legal runs in
    let old = low.running runs in
    omega (arith, old, up)
running_step size past at (Crashed m) n keeps legal low runs = crash (m.0 == n) runs
  where
    crash : (b : Bool) → (if b then false else is_running n past) ≡ true → base_version n past ≤ version_of n past
    crash true none = absurd (true≢false (sym none))
    crash false runs = low.running runs
running_step size past at e n keeps legal low runs = low.running runs

-- where one version more is high, so is each
more_low : (flight : Option At) (w v base : ℕ) (old : List ℕ) → base ≤ w → (list_any (λ u. u == v) old ≡ true → base ≤ v)
    → list_any (λ u. u == v) (more_by flight w old) ≡ true → base ≤ v
more_low flight w v base old high low found =
    ⊎_elim (λ same. let is = eqb-true w v same in omega arith) low (in_more flight w v old found)

reopenable_step : (size : ℕ) (past : Past) (at : At) (e : Event) (n v : ℕ) → KeepsRule size past at e → IsLegalPast size past → Low past n
    → list_any (λ u. u == v) (reopenable_by n e (primary_of past) (late_commit n past) (reopenable_versions n past)) ≡ true
    → base_by n e (base_version n past) ≤ v
reopenable_step size past at (Committed m w) n v keeps legal low found = commit (m.0 == n) found
  where
    commit : (b : Bool) → list_any (λ u. u == v) (if b then w.0 ∷ [] else reopenable_versions n past) ≡ true → (if b then w.0 else base_version n past) ≤ v
    commit true found = let is = in_one w.0 v found in omega arith
    commit false found = low.reopenable v found
reopenable_step size past at (Reopened m w) n v keeps legal low found = reopen (m.0 == n) found
  where
    reopen : (b : Bool) → list_any (λ u. u == v) (if b then w.0 ∷ [] else reopenable_versions n past) ≡ true → (if b then w.0 else base_version n past) ≤ v
    reopen true found = let is = in_one w.0 v found in omega arith
    reopen false found = low.reopenable v found
reopenable_step size past at (Committing m w) n v keeps legal low found = start (m.0 == n) refl found
  where
    start : (b : Bool) → (m.0 == n) ≡ b → list_any (λ u. u == v) (if b then w.0 ∷ reopenable_versions n past else reopenable_versions n past) ≡ true → base_version n past ≤ v
    start true is found =
        let node = eqb-true m.0 n is in
        let searched : w.0 ≡ version_of n past = keeps.searched ∙ ap (λ (k : ℕ). version_of k past) node in
        let runs = low.running (subst (λ (k : ℕ). is_running k past ≡ true) node keeps.running) in
        more_low (Some at) w.0 v (base_version n past) (reopenable_versions n past) (omega arith) (low.reopenable v) found
    start false is found = low.reopenable v found
reopenable_step size past at (Published g w) n v keeps legal low found = publish (is_at (primary_of past) n) found
  where
    publish : (b : Bool) → list_any (λ u. u == v) (if b then more_by (late_commit n past) w.0 (reopenable_versions n past) else reopenable_versions n past) ≡ true → base_version n past ≤ v
    publish true found =
        let next : w.0 ≡ newest_version past + 1 = keeps.next in
        let base = base_low size past n legal in
        more_low (late_commit n past) w.0 v (base_version n past) (reopenable_versions n past) (omega arith) (low.reopenable v) found
    publish false found = low.reopenable v found
reopenable_step size past at (Switched m w) n v keeps legal low found = switch (m.0 == n) refl found
  where
    switch : (b : Bool) → (m.0 == n) ≡ b → list_any (λ u. u == v) (if b then more_by (late_commit n past) w.0 (reopenable_versions n past) else reopenable_versions n past) ≡ true → base_version n past ≤ v
    switch true is found =
        let node = eqb-true m.0 n is in
        let above : version_of n past < w.0 = subst (λ (k : ℕ). version_of k past < w.0) node keeps.above in
        let runs = low.running (subst (λ (k : ℕ). is_running k past ≡ true) node keeps.replica.running) in
        more_low (late_commit n past) w.0 v (base_version n past) (reopenable_versions n past) (omega arith) (low.reopenable v) found
    switch false is found = low.reopenable v found
reopenable_step size past at (Promoted m g f w) n v keeps legal low found = promote (m.0 == n) found
  where
    promote : (b : Bool) → list_any (λ u. u == v) (if b then more_by (late_commit n past) w.0 (reopenable_versions n past) else reopenable_versions n past) ≡ true → base_version n past ≤ v
    promote true found =
        let above : w.0 ≡ f.0 + 1 = keeps.above in
        let high : newest_version past ≤ f.0 = keeps.high in
        let base = base_low size past n legal in
        more_low (late_commit n past) w.0 v (base_version n past) (reopenable_versions n past) (omega arith) (low.reopenable v) found
    promote false found = low.reopenable v found
reopenable_step size past at e n v keeps legal low found = low.reopenable v found

low_opening : (n : ℕ) → Low [] n
low_opening n = record { running = λ runs. omega arith; reopenable = λ v found. let is = in_one 1 v found in omega arith }

low : (size : ℕ) (past : Past) (n : ℕ) → IsLegalPast size past → Low past n
low size [] n legal = low_opening n
low size (e ∷ past) n legal =
    let before = low size past n legal.1 in
    record {
      running = running_step size past e.at e.event n legal.0 legal.1 before;
      reopenable = λ v found. reopenable_step size past e.at e.event n v legal.0 legal.1 before found;
    }

-- what is searched now, while a commit is in flight
searched_now : (flying : Bool) (now v : ℕ) (rest : Bool) → flying ≡ true → now ≡ v → ((flying && (now == v)) || rest) ≡ true
searched_now flying now v rest is same =
    let this : (flying && (now == v)) ≡ true = rw (is, same) (eq-eqb v v refl) in rw this refl

still : {P : Type 0} (now was : Bool) → P ⊎ (was ≡ true) → P ⊎ ((now || was) ≡ true)
still now was (inl p) = inl p
still now was (inr is) = inr (or_right now was is)

in_flight_or : (flight : Option At) (w v : ℕ) (old : List ℕ) → list_any (λ u. u == v) (more_by flight w old) ≡ true
    → ((is_some_line flight ≡ true) × (w ≡ v)) ⊎ (list_any (λ u. u == v) old ≡ true)
in_flight_or None w v old found = inr found
in_flight_or (Some at) w v old found = ⊎_elim (λ same. inl (refl, eqb-true w v same)) (λ older. inr older) (or_cases (w == v) _ found)

-- a late commit is in flight
late_flies : (stuck : Bool) (flight : Option At) → is_some_line (if stuck then flight else None) ≡ true → is_some_line flight ≡ true
late_flies true flight is = is
late_flies false flight is = absurd (true≢false (sym is))

-- a version that the node searches from now on
made : (stuck : Bool) (flight : Option At) (w v : ℕ) (after b : Bool) (now base : ℕ) (old : List ℕ) (was : Bool)
    → (list_any (λ u. u == v) old ≡ true → (v ≡ base) ⊎ (was ≡ true))
    → list_any (λ u. u == v) (if b then more_by (if stuck then flight else None) w old else old) ≡ true
    → (v ≡ base) ⊎ ((((is_some_line flight || after) && ((if b then w else now) == v)) || was) ≡ true)
made stuck flight w v after true now base old was origin found =
    ⊎_elim
    (λ new. inr (searched_now (is_some_line flight || after) w v was (ap (λ (x : Bool). x || after) (late_flies stuck flight new.0)) new.1))
    (λ older. still _ was (origin older))
    (in_flight_or (if stuck then flight else None) w v old found)
made stuck flight w v after false now base old was origin found = still _ was (origin found)

origin_step : (size : ℕ) (past : Past) (at : At) (e : Event) (n v : ℕ) → KeepsRule size past at e
    → (list_any (λ u. u == v) (reopenable_versions n past) ≡ true → (v ≡ base_version n past) ⊎ (was_searched_in_commit n v past ≡ true))
    → list_any (λ u. u == v) (reopenable_by n e (primary_of past) (late_commit n past) (reopenable_versions n past)) ≡ true
    → (v ≡ base_by n e (base_version n past)) ⊎ (was_searched_in_commit n v (record { at = at; event = e } ∷ past) ≡ true)
origin_step size past at (Committed m w) n v keeps origin found = settle _ (m.0 == n) found
  where
    settle : (now b : Bool) → list_any (λ u. u == v) (if b then w.0 ∷ [] else reopenable_versions n past) ≡ true
        → (v ≡ (if b then w.0 else base_version n past)) ⊎ ((if b then false else (now || was_searched_in_commit n v past)) ≡ true)
    settle now true found = inl (sym (in_one w.0 v found))
    settle now false found = still now _ (origin found)
origin_step size past at (Reopened m w) n v keeps origin found = settle _ (m.0 == n) found
  where
    settle : (now b : Bool) → list_any (λ u. u == v) (if b then w.0 ∷ [] else reopenable_versions n past) ≡ true
        → (v ≡ (if b then w.0 else base_version n past)) ⊎ ((if b then false else (now || was_searched_in_commit n v past)) ≡ true)
    settle now true found = inl (sym (in_one w.0 v found))
    settle now false found = still now _ (origin found)
origin_step size past at (Committing m w) n v keeps origin found = begin (m.0 == n) refl found
  where
    begin : (b : Bool) → (m.0 == n) ≡ b → list_any (λ u. u == v) (if b then w.0 ∷ reopenable_versions n past else reopenable_versions n past) ≡ true
        → (v ≡ base_version n past) ⊎ ((((is_some_line (commit_in_flight n past) || is_some_line (if b then Some at else commit_in_flight n past))
        && (version_of n past == v)) || was_searched_in_commit n v past) ≡ true)
    begin true is found =
        let searched : version_of n past ≡ w.0 = ap (λ (k : ℕ). version_of k past) (sym (eqb-true m.0 n is)) ∙ sym keeps.searched in
        ⊎_elim
        (λ same. inr (searched_now (is_some_line (commit_in_flight n past) || true) (version_of n past) v (was_searched_in_commit n v past) (or_right _ true refl) (searched ∙ eqb-true w.0 v same)))
        (λ old. still _ _ (origin old))
        (or_cases (w.0 == v) _ found)
    begin false is found = still _ _ (origin found)
origin_step size past at (Published g w) n v keeps origin found = made (is_stuck n past) (commit_in_flight n past) w.0 v _ (is_at (primary_of past) n) (version_of n past) (base_version n past) (reopenable_versions n past) (was_searched_in_commit n v past) origin found
origin_step size past at (Switched m w) n v keeps origin found = made (is_stuck n past) (commit_in_flight n past) w.0 v _ (m.0 == n) (version_of n past) (base_version n past) (reopenable_versions n past) (was_searched_in_commit n v past) origin found
origin_step size past at (Promoted m g f w) n v keeps origin found = made (is_stuck n past) (commit_in_flight n past) w.0 v _ (m.0 == n) (version_of n past) (base_version n past) (reopenable_versions n past) (was_searched_in_commit n v past) origin found
origin_step size past at e n v keeps origin found = still _ _ (origin found)

origin : (size : ℕ) (past : Past) (n v : ℕ) → IsLegalPast size past → list_any (λ u. u == v) (reopenable_versions n past) ≡ true
    → (v ≡ base_version n past) ⊎ (was_searched_in_commit n v past ≡ true)
origin size [] n v legal found = inl (sym (in_one 1 v found))
origin size (e ∷ past) n v legal found = origin_step size past e.at e.event n v legal.0 (λ older. origin size past n v legal.1 older) found

-- what the rule of a reopening comes to
pub left_by_commits : (size : ℕ) (past : Past) (n v : ℕ) → IsLegalPast size past → list_any (λ u. u == v) (reopenable_versions n past) ≡ true
    → IsLeftByCommits past n v
left_by_commits size past n v legal found = record {
  origin = origin size past n v legal found;
  low = (low size past n legal).reopenable v found;
  point = (known size past legal).reopenable n v found;
}
