-- What a node of a legal history searches, and at which versions it may reopen.
use Rattle.std.proofs.Common.{◌≡◌, ◌≤◌, ◌<◌, ◌+◌, ◌==◌, ◌&&◌, ◌⊎◌, ⊎_elim, inr, ℕ, List, [], ◌∷◌, ◌++◌, Bool, true, false, true≢false, Option, Some, None, if◌then◌else◌, refl, sym, ◌∙◌, subst, arith}
use Rattle.std.proofs.lemmas.Bool.{eqb-true, eq-eqb, or_cases}
use Rattle.std.specs.List.{list_any}
use Rattle.nrt_base.specs.declared.numbers.At.{At}
use Rattle.nrt_base.specs.declared.numbers.NodeNo.{NodeNo}
use Rattle.history_rules.specs.declared.entry.Entry.{Entry}
use Rattle.history_rules.specs.declared.entry.Event.{Event}
use Rattle.history_rules.specs.declared.entry.Event.TheVariants.{Published, Switched, Committing, Committed, Crashed, Reopened, Promoted}
use Rattle.history_rules.specs.Nodes.{Past, is_at, primary_of, is_running, crashes, version_of, newest_version, is_point}
use Rattle.history_rules.specs.Lines.{same_at, is_start}
use Rattle.history_rules.specs.Commits.{late_commit, more_by, reopenable_versions, was_searched_since}
use Rattle.history_rules.specs.Legal.{KeepsRule, IsLegalPast}
use Rattle.history_rules.specs.Steps.{is_running_by, crashes_by, version_by, is_point_by, reopenable_by}
use Rattle.history_rules.proofs.PastLemmas.{point_stays, point_low, made_point}

-- each version that is searched, or may be reopened at, is a point
pub record Known (past : Past) : Type 0 where
  pub version : (n : ℕ) → is_point (version_of n past) past ≡ true
  pub reopenable : (n v : ℕ) → list_any (λ w. w == v) (reopenable_versions n past) ≡ true → is_point v past ≡ true
  pub searched : (at : At) (n v : ℕ) → was_searched_since at n v past ≡ true → is_point v past ≡ true

-- a choice of two points is one
point_if : (b : Bool) (w v : ℕ) (past : Past) → (b ≡ true → is_point w past ≡ true) → is_point v past ≡ true → is_point (if b then w else v) past ≡ true
point_if true w v past new old = new refl
point_if false w v past new old = old

-- the version that a point just made has
new_point : (w v : ℕ) (b : Bool) → (w == v) ≡ true → (if w == v then true else b) ≡ true
new_point w v b same = rw same refl

known_version : (size : ℕ) (past : Past) (at : At) (e : Event) (n : ℕ) → KeepsRule size past at e → Known past
    → is_point (version_by n (primary_of past) e (version_of n past)) (record { at = at; event = e } ∷ past) ≡ true
known_version size past at (Published g w) n keeps known =
    point_if (is_at (primary_of past) n) w.0 (version_of n past) (record { at = at; event = Published g w } ∷ past)
    (λ is. new_point w.0 w.0 (is_point w.0 past) (eq-eqb w.0 w.0 refl)) (point_stays past (record { at = at; event = Published g w }) (version_of n past) (known.version n))
known_version size past at (Switched m w) n keeps known =
    point_if (m.0 == n) w.0 (version_of n past) past (λ is. made_point past w.0 keeps.made) (known.version n)
known_version size past at (Promoted m g f w) n keeps known =
    point_if (m.0 == n) w.0 (version_of n past) (record { at = at; event = Promoted m g f w } ∷ past)
    (λ is. new_point w.0 w.0 (is_point w.0 past) (eq-eqb w.0 w.0 refl)) (point_stays past (record { at = at; event = Promoted m g f w }) (version_of n past) (known.version n))
known_version size past at (Reopened m w) n keeps known =
    point_if (m.0 == n) w.0 (version_of n past) past (λ is. known.reopenable m.0 w.0 keeps.found) (known.version n)
known_version size past at e n keeps known = known.version n

-- one version more, or not
pub in_more : (flight : Option At) (w v : ℕ) (old : List ℕ) → list_any (λ u. u == v) (more_by flight w old) ≡ true
    → ((w == v) ≡ true) ⊎ (list_any (λ u. u == v) old ≡ true)
in_more None w v old found = inr found
in_more (Some a) w v old found = or_cases _ _ found

pub in_one : (w v : ℕ) → list_any (λ u. u == v) (w ∷ []) ≡ true → w ≡ v
in_one w v found = ⊎_elim (λ same. eqb-true w v same) (λ none. absurd (true≢false (sym none))) (or_cases (w == v) false found)

known_reopenable : (size : ℕ) (past : Past) (at : At) (e : Event) (n v : ℕ) → KeepsRule size past at e → Known past
    → list_any (λ u. u == v) (reopenable_by n e (primary_of past) (late_commit n past) (reopenable_versions n past)) ≡ true
    → is_point_by v e (is_point v past) ≡ true
known_reopenable size past at (Committed m w) n v keeps known found = commit (m.0 == n) found
  where
    commit : (b : Bool) → list_any (λ u. u == v) (if b then w.0 ∷ [] else reopenable_versions n past) ≡ true → is_point v past ≡ true
    commit true found = subst (λ (u : ℕ). is_point u past ≡ true) (in_one w.0 v found) (known.searched at m.0 w.0 keeps.searched)
    commit false found = known.reopenable n v found
known_reopenable size past at (Reopened m w) n v keeps known found = reopen (m.0 == n) found
  where
    reopen : (b : Bool) → list_any (λ u. u == v) (if b then w.0 ∷ [] else reopenable_versions n past) ≡ true → is_point v past ≡ true
    reopen true found = subst (λ (u : ℕ). is_point u past ≡ true) (in_one w.0 v found) (known.reopenable m.0 w.0 keeps.found)
    reopen false found = known.reopenable n v found
known_reopenable size past at (Committing m w) n v keeps known found = start (m.0 == n) found
  where
    start : (b : Bool) → list_any (λ u. u == v) (if b then w.0 ∷ reopenable_versions n past else reopenable_versions n past) ≡ true → is_point v past ≡ true
    start true found =
        ⊎_elim (λ same. subst (λ (u : ℕ). is_point u past ≡ true) (sym keeps.searched ∙ eqb-true w.0 v same) (known.version m.0)) (λ old. known.reopenable n v old) (or_cases (w.0 == v) _ found)
    start false found = known.reopenable n v found
known_reopenable size past at (Published g w) n v keeps known found = publish (is_at (primary_of past) n) found
  where
    publish : (b : Bool) → list_any (λ u. u == v) (if b then more_by (late_commit n past) w.0 (reopenable_versions n past) else reopenable_versions n past) ≡ true
        → (if w.0 == v then true else is_point v past) ≡ true
    publish true found =
        ⊎_elim (λ same. new_point w.0 v (is_point v past) same) (λ old. point_stays past (record { at = at; event = Published g w }) v (known.reopenable n v old)) (in_more (late_commit n past) w.0 v (reopenable_versions n past) found)
    publish false found = point_stays past (record { at = at; event = Published g w }) v (known.reopenable n v found)
known_reopenable size past at (Switched m w) n v keeps known found = switch (m.0 == n) found
  where
    switch : (b : Bool) → list_any (λ u. u == v) (if b then more_by (late_commit n past) w.0 (reopenable_versions n past) else reopenable_versions n past) ≡ true
        → is_point v past ≡ true
    switch true found =
        ⊎_elim (λ same. subst (λ (u : ℕ). is_point u past ≡ true) (eqb-true w.0 v same) (made_point past w.0 keeps.made)) (λ old. known.reopenable n v old) (in_more (late_commit n past) w.0 v (reopenable_versions n past) found)
    switch false found = known.reopenable n v found
known_reopenable size past at (Promoted m g f w) n v keeps known found = promote (m.0 == n) found
  where
    promote : (b : Bool) → list_any (λ u. u == v) (if b then more_by (late_commit n past) w.0 (reopenable_versions n past) else reopenable_versions n past) ≡ true
        → (if w.0 == v then true else is_point v past) ≡ true
    promote true found =
        ⊎_elim (λ same. new_point w.0 v (is_point v past) same) (λ old. point_stays past (record { at = at; event = Promoted m g f w }) v (known.reopenable n v old)) (in_more (late_commit n past) w.0 v (reopenable_versions n past) found)
    promote false found = point_stays past (record { at = at; event = Promoted m g f w }) v (known.reopenable n v found)
known_reopenable size past at e n v keeps known found = known.reopenable n v found

known_searched : (past : Past) (e : Entry) (at : At) (n v : ℕ) → Known past → is_point (version_of n (e ∷ past)) (e ∷ past) ≡ true
    → was_searched_since at n v (e ∷ past) ≡ true → is_point v (e ∷ past) ≡ true
known_searched past e at n v known now found =
    ⊎_elim
    (λ same. subst (λ (u : ℕ). is_point u (e ∷ past) ≡ true) (eqb-true (version_of n (e ∷ past)) v same) now)
    (λ old. point_stays past e v (known.searched at n v (before (is_start e.event && same_at e.at at) old)))
    (or_cases _ _ found)
  where
    before : (b : Bool) → (if b then false else was_searched_since at n v past) ≡ true → was_searched_since at n v past ≡ true
    before true none = absurd (true≢false (sym none))
    before false old = old

known_opening : Known []
known_opening = record {
  version = λ n. refl;
  reopenable = λ n v found. rw (sym (in_one 1 v found)) refl;
  searched = λ at n v none. absurd (true≢false (sym none));
}

pub known : (size : ℕ) (past : Past) → IsLegalPast size past → Known past
known size [] legal = known_opening
known size (e ∷ past) legal =
    let before = known size past legal.1 in
    record {
      version = λ n. known_version size past e.at e.event n legal.0 before;
      reopenable = λ n v found. known_reopenable size past e.at e.event n v legal.0 before found;
      searched = λ at n v found. known_searched past e at n v before (known_version size past e.at e.event n legal.0 before) found;
    }

-- no node searches a version above the newest
pub version_low : (size : ℕ) (past : Past) (n : ℕ) → IsLegalPast size past → version_of n past ≤ newest_version past
version_low size past n legal = point_low past (version_of n past) ((known size past legal).version n)

crashes_rise_step : (n k : ℕ) (e : Event) → k ≤ crashes_by n e k
crashes_rise_step n k (Crashed m) = elim (m.0 == n) as (λ b. k ≤ (if b then k + 1 else k)) [ true ↦ omega arith | false ↦ omega arith ]
crashes_rise_step n k e = omega arith

pub crashes_rise : (n : ℕ) (past : Past) (e : Entry) → crashes n past ≤ crashes n (e ∷ past)
crashes_rise n past e = crashes_rise_step n (crashes n past) e.event

crash_adds : (n : ℕ) (m : NodeNo) (k : ℕ) → crashes_by n (Crashed m) k ≡ k → (m.0 == n) ≡ false
crash_adds n m k same = adds (m.0 == n) same
  where
    adds : (b : Bool) → (if b then k + 1 else k) ≡ k → b ≡ false
    adds true same = absurd (omega arith)
    adds false same = refl

pub runs_on : (n : ℕ) (past : Past) (e : Event) → is_running n past ≡ true → crashes_by n e (crashes n past) ≡ crashes n past
    → is_running_by n e (is_running n past) ≡ true
runs_on n past (Crashed m) runs same = rw (crash_adds n m (crashes n past) same) runs
runs_on n past (Reopened m w) runs same = elim (m.0 == n) as (λ b. (if b then true else is_running n past) ≡ true) [ true ↦ refl | false ↦ runs ]
runs_on n past e runs same = runs

-- a choice of a higher version and the same is no lower
raised : (b : Bool) (w v : ℕ) → (b ≡ true → v ≤ w) → v ≤ (if b then w else v)
raised true w v high = high refl
raised false w v high = omega arith

pub rises_step : (size : ℕ) (past : Past) (at : At) (e : Event) (n : ℕ) → KeepsRule size past at e → IsLegalPast size past → is_running n past ≡ true
    → version_of n past ≤ version_by n (primary_of past) e (version_of n past)
rises_step size past at (Published g w) n keeps legal runs =
    let next : w.0 ≡ newest_version past + 1 = keeps.next in
    let low = version_low size past n legal in
    raised (is_at (primary_of past) n) w.0 (version_of n past) (λ is. omega arith)
rises_step size past at (Switched m w) n keeps legal runs =
    raised (m.0 == n) w.0 (version_of n past)
    (λ is. let above : version_of n past < w.0 = subst (λ (k : ℕ). version_of k past < w.0) (eqb-true m.0 n is) keeps.above in omega arith)
rises_step size past at (Promoted m g f w) n keeps legal runs =
    let above : w.0 ≡ f.0 + 1 = keeps.above in
    let high : newest_version past ≤ f.0 = keeps.high in
    let low = version_low size past n legal in
    raised (m.0 == n) w.0 (version_of n past) (λ is. omega arith)
rises_step size past at (Reopened m w) n keeps legal runs =
    raised (m.0 == n) w.0 (version_of n past)
    (λ is. absurd (true≢false (sym (subst (λ (k : ℕ). is_running k past ≡ true) (sym (eqb-true m.0 n is)) runs) ∙ keeps.down)))
rises_step size past at e n keeps legal runs = omega arith

-- from a place at which a node ran, to a later one before its next crash
pub record RunsOn (n : ℕ) (past later : Past) : Type 0 where
  pub running : is_running n later ≡ true
  pub version : version_of n past ≤ version_of n later

pub runs_through : (size n : ℕ) (more past : Past) → IsLegalPast size (more ++ past) → is_running n past ≡ true
    → crashes n (more ++ past) ≤ crashes n past → RunsOn n past (more ++ past)
runs_through size n [] past legal runs same = record { running = runs; version = omega arith }
runs_through size n (e ∷ more) past legal runs same =
    let rise = crashes_rise n (more ++ past) e in
    let before = runs_through size n more past legal.1 runs (omega arith) in
    let low = crashes_fall more past in
    let still : crashes_by n e.event (crashes n (more ++ past)) ≡ crashes n (more ++ past) = omega arith in
    let up = rises_step size (more ++ past) e.at e.event n legal.0 legal.1 before.running in
    record {
      running = runs_on n (more ++ past) e.event before.running still;
      version = omega (arith, before.version, up);
    }
  where
    crashes_fall : (es older : Past) → crashes n older ≤ crashes n (es ++ older)
    crashes_fall [] older = omega arith
    crashes_fall (x ∷ es) older = omega (arith, crashes_fall es older, crashes_rise n (es ++ older) x)
