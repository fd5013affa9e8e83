-- What holds of every past, and of every legal one.
use Rattle.std.proofs.Common.{◌≡◌, ◌≤◌, ◌<◌, ◌+◌, ◌==◌, ℕ, List, [], ◌∷◌, ◌++◌, Bool, true, false, true≢false, Option, Some, None, if◌then◌else◌, length, take, drop, get_or, reverse, max, refl, sym, ap, ◌∙◌, subst, arith, add-one}
use Rattle.std.proofs.Math.Seq.{take-suc}
use Rattle.std.proofs.lemmas.Bool.{eqb-true, eq-eqb}
use Rattle.std.proofs.lemmas.Bool.Decides.{nat_tests}
use Rattle.std.proofs.lemmas.List.{take-append-drop, reverse-append}
use Rattle.nrt_base.specs.declared.numbers.At.{At}
use Rattle.nrt_base.specs.declared.numbers.NodeNo.{NodeNo}
use Rattle.history_rules.specs.declared.entry.Entry.{Entry}
use Rattle.history_rules.specs.declared.entry.Event.{Event}
use Rattle.history_rules.specs.declared.entry.Event.TheVariants.{Published, Switched, Crashed, Reopened, Promoted}
use Rattle.history_rules.specs.Nodes.{Past, is_at, primary_of, primary_by, is_running, version_of, newest_version, is_made_in_generation, is_point}
use Rattle.history_rules.specs.Legal.{KeepsRule, IsLegalPast}
use Rattle.history_rules.specs.Steps.{is_running_by, version_by, newest_by, is_made_by, is_point_by}

-- what stood before an entry of a legal past was legal
pub legal_before : (size : ℕ) (newer past : Past) → IsLegalPast size (newer ++ past) → IsLegalPast size past
legal_before size [] past legal = legal
legal_before size (e ∷ newer) past legal = legal_before size newer past legal.1

-- one entry more
pub past_next : (entries : List Entry) (i : ℕ) (e : Entry) → i < length entries → e ≡ get_or entries i e
    → reverse (take (i + 1) entries) ≡ e ∷ reverse (take i entries)
past_next entries i e within is =
    let next : take (i + 1) entries ≡ take i entries ++ e ∷ [] =
    rw add-one (take-suc entries i e within ∙ ap (λ (x : Entry). take i entries ++ x ∷ []) (sym is)) in
    ap reverse next ∙ reverse-append (take i entries) (e ∷ [])

-- an entry of a legal history keeps its rule over the entries before it
pub keeps_at : (size : ℕ) (entries : List Entry) (i : ℕ) (e : Entry) → IsLegalPast size (reverse entries) → i < length entries
    → e ≡ get_or entries i e → KeepsRule size (reverse (take i entries)) e.at e.event
keeps_at size entries i e legal within is =
    let split : reverse (drop (i + 1) entries) ++ reverse (take (i + 1) entries) ≡ reverse entries =
    sym (reverse-append (take (i + 1) entries) (drop (i + 1) entries)) ∙ ap reverse (take-append-drop (i + 1) entries) in
    let before = legal_before size (reverse (drop (i + 1) entries)) (reverse (take (i + 1) entries))
    (subst (IsLegalPast size) (sym split) legal) in
    (subst (IsLegalPast size) (past_next entries i e within is) before).0

-- where the primary is one node, another is another
at_other : (p : Option NodeNo) (m n : ℕ) → is_at p m ≡ false → is_at p n ≡ true → (m == n) ≡ false
at_other None m n other here = absurd (true≢false (sym here))
at_other (Some q) m n other here = grind (arith, nat_tests)

primary_runs_step : (size : ℕ) (past : Past) (at : At) (e : Event) (n : ℕ) → KeepsRule size past at e
    → (is_at (primary_of past) n ≡ true → is_running n past ≡ true)
    → is_at (primary_by e (primary_of past)) n ≡ true → is_running_by n e (is_running n past) ≡ true
primary_runs_step size past at (Crashed m) n keeps runs here = crash (is_at (primary_of past) m.0) refl here
  where
    crash : (b : Bool) → is_at (primary_of past) m.0 ≡ b → is_at (if b then None else primary_of past) n ≡ true
        → (if m.0 == n then false else is_running n past) ≡ true
    crash true is none = absurd (true≢false (sym none))
    crash false is here = rw (at_other (primary_of past) m.0 n is here) (runs here)
primary_runs_step size past at (Promoted m g f w) n keeps runs here =
    subst (λ (k : ℕ). is_running k past ≡ true) (eqb-true m.0 n here) keeps.running
primary_runs_step size past at (Reopened m w) n keeps runs here = reopen (m.0 == n)
  where
    reopen : (b : Bool) → (if b then true else is_running n past) ≡ true
    reopen true = refl
    reopen false = runs here
primary_runs_step size past at e n keeps runs here = runs here

-- the primary runs
pub primary_runs : (size : ℕ) (past : Past) (n : ℕ) → IsLegalPast size past → is_at (primary_of past) n ≡ true → is_running n past ≡ true
primary_runs size [] n legal here = refl
primary_runs size (e ∷ past) n legal here =
    primary_runs_step size past e.at e.event n legal.0 (primary_runs size past n legal.1) here

version_primary_step : (size : ℕ) (past : Past) (at : At) (e : Event) (n : ℕ) → IsLegalPast size past → KeepsRule size past at e
    → (is_at (primary_of past) n ≡ true → version_of n past ≡ newest_version past)
    → is_at (primary_by e (primary_of past)) n ≡ true → version_by n (primary_of past) e (version_of n past) ≡ newest_by e (newest_version past)
version_primary_step size past at (Published g w) n legal keeps same here =
    let next : w.0 ≡ newest_version past + 1 = keeps.next in rw here (omega arith)
version_primary_step size past at (Switched m w) n legal keeps same here =
    rw (at_other (primary_of past) m.0 n keeps.replica.other here) (same here)
version_primary_step size past at (Promoted m g f w) n legal keeps same here =
    let above : w.0 ≡ f.0 + 1 = keeps.above in
    let high : newest_version past ≤ f.0 = keeps.high in
    rw here (omega arith)
version_primary_step size past at (Reopened m w) n legal keeps same here = reopen (m.0 == n) refl
  where
    reopen : (b : Bool) → (m.0 == n) ≡ b → (if b then w.0 else version_of n past) ≡ newest_version past
    reopen true is =
        absurd (true≢false (sym (subst (λ (k : ℕ). is_running k past ≡ true) (sym (eqb-true m.0 n is)) (primary_runs size past n legal here)) ∙ keeps.down))
    reopen false is = same here
version_primary_step size past at (Crashed m) n legal keeps same here = crash (is_at (primary_of past) m.0) here
  where
    crash : (b : Bool) → is_at (if b then None else primary_of past) n ≡ true → version_of n past ≡ newest_version past
    crash true none = absurd (true≢false (sym none))
    crash false here = same here
version_primary_step size past at e n legal keeps same here = same here

-- the running primary searches the newest version
pub version_primary : (size : ℕ) (past : Past) (n : ℕ) → IsLegalPast size past → is_at (primary_of past) n ≡ true
    → version_of n past ≡ newest_version past
version_primary size [] n legal here = refl
version_primary size (e ∷ past) n legal here =
    version_primary_step size past e.at e.event n legal.1 legal.0 (version_primary size past n legal.1) here

newest_made_step : (size : ℕ) (past : Past) (at : At) (e : Event) → KeepsRule size past at e
    → (1 < newest_version past → is_made_in_generation (newest_version past) past ≡ true)
    → 1 < newest_by e (newest_version past) → is_made_by (newest_by e (newest_version past)) e (is_made_in_generation (newest_by e (newest_version past)) past) ≡ true
newest_made_step size past at (Published g w) keeps made more =
    let next : w.0 ≡ newest_version past + 1 = keeps.next in
    let same : max (newest_version past) w.0 ≡ w.0 = omega arith in
    rw (same, eq-eqb w.0 w.0 refl) refl
newest_made_step size past at (Promoted m g f w) keeps made more =
    let above : w.0 ≡ f.0 + 1 = keeps.above in
    let high : newest_version past ≤ f.0 = keeps.high in
    let same : max (newest_version past) w.0 ≡ w.0 = omega arith in
    rw (same, eq-eqb w.0 w.0 refl) refl
newest_made_step size past at e keeps made more = made more

-- the newest version was made in the present generation, but for the opening point
pub newest_made : (size : ℕ) (past : Past) → IsLegalPast size past → 1 < newest_version past
    → is_made_in_generation (newest_version past) past ≡ true
newest_made size [] legal more = absurd (omega arith)
newest_made size (e ∷ past) legal more = newest_made_step size past e.at e.event legal.0 (newest_made size past legal.1) more

point_step : (past : Past) (e : Event) (v : ℕ) → is_point v past ≡ true → is_point_by v e (is_point v past) ≡ true
point_step past (Published g w) v point = elim (w.0 == v) as (λ b. (if b then true else is_point v past) ≡ true) [ true ↦ refl | false ↦ point ]
point_step past (Promoted m g f w) v point = elim (w.0 == v) as (λ b. (if b then true else is_point v past) ≡ true) [ true ↦ refl | false ↦ point ]
point_step past e v point = point

-- a point stays one
pub point_stays : (past : Past) (e : Entry) (v : ℕ) → is_point v past ≡ true → is_point v (e ∷ past) ≡ true
point_stays past e v point = point_step past e.event v point

point_low_step : (past : Past) (e : Event) (v : ℕ) → (is_point v past ≡ true → v ≤ newest_version past)
    → is_point_by v e (is_point v past) ≡ true → v ≤ newest_by e (newest_version past)
point_low_step past (Published g w) v low point = made (w.0 == v) refl point
  where
    made : (b : Bool) → (w.0 == v) ≡ b → (if b then true else is_point v past) ≡ true → v ≤ max (newest_version past) w.0
    made true is point = let same = eqb-true w.0 v is in omega arith
    made false is point = let old = low point in omega (arith, old)
point_low_step past (Promoted m g f w) v low point = made (w.0 == v) refl point
  where
    made : (b : Bool) → (w.0 == v) ≡ b → (if b then true else is_point v past) ≡ true → v ≤ max (newest_version past) w.0
    made true is point = let same = eqb-true w.0 v is in omega arith
    made false is point = let old = low point in omega (arith, old)
point_low_step past e v low point = low point

-- no point is above the newest version
pub point_low : (past : Past) (v : ℕ) → is_point v past ≡ true → v ≤ newest_version past
point_low [] v point = let same = eqb-true v 1 point in omega arith
point_low (e ∷ past) v point = point_low_step past e.event v (point_low past v) point

made_step : (past : Past) (e : Event) (v : ℕ) → (is_made_in_generation v past ≡ true → is_point v past ≡ true)
    → is_made_by v e (is_made_in_generation v past) ≡ true → is_point_by v e (is_point v past) ≡ true
made_step past (Published g w) v point made = by_test (w.0 == v) made
  where
    by_test : (b : Bool) → (if b then true else is_made_in_generation v past) ≡ true → (if b then true else is_point v past) ≡ true
    by_test true made = refl
    by_test false made = point made
made_step past (Promoted m g f w) v point made = rw made refl
made_step past e v point made = point made

-- what was made in the present generation is a point
pub made_point : (past : Past) (v : ℕ) → is_made_in_generation v past ≡ true → is_point v past ≡ true
made_point [] v made = absurd (true≢false (sym made))
made_point (e ∷ past) v made = made_step past e.event v (made_point past v) made
