-- No copy is above the newest version.
use Rattle.std.proofs.Common.{◌≡◌, ◌≤◌, ◌<◌, ◌+◌, ◌&&◌, ◌||◌, ◌==◌, ℕ, Bool, true, false, [], ◌∷◌, Some, None, max, refl, ap, ◌∙◌, arith, if◌then◌else◌}
use Rattle.std.proofs.lemmas.Bool.Decides.{nat_tests}
use Rattle.nrt_base.specs.declared.numbers.At.{At}
use Rattle.history_rules.specs.declared.entry.Event.{Event}
use Rattle.history_rules.specs.declared.entry.Event.TheVariants.{Published, Copying, Crashed, Promoted}
use Rattle.history_rules.specs.Nodes.{Past, is_at, primary_of, newest_version}
use Rattle.history_rules.specs.Lines.{is_reply, without_at, copy_in_flight}
use Rattle.history_rules.specs.Legal.{KeepsRule, IsLegalPast}
use Rattle.history_rules.specs.Steps.{newest_by, copy_by}
use Rattle.history_tables.specs.WorkRows.{IsUncopied, KnowsNewest}

copy_step : (size n v : ℕ) (past : Past) (at : At) (e : Event) → KeepsRule size past at e → newest_by e (newest_version past) < v
    → (newest_version past < v → copy_in_flight n v past ≡ None) → copy_by n v at e (primary_of past) (copy_in_flight n v past) ≡ None
copy_step size n v past at (Copying m w) keeps high was = begins (m.0 == n) (apart keeps.newest high) (was high)
  where
    apart : w.0 ≡ newest_version past → newest_version past < v → (w.0 == v) ≡ false
    apart newest above = grind (arith, nat_tests)

    begins : (b : Bool) → (w.0 == v) ≡ false → copy_in_flight n v past ≡ None → (if b && (w.0 == v) then Some at else copy_in_flight n v past) ≡ None
    begins true other none = rw other none
    begins false other none = none
copy_step size n v past at (Crashed m) keeps high was = crash ((m.0 == n) || is_at (primary_of past) m.0) (was high)
  where
    crash : (b : Bool) → copy_in_flight n v past ≡ None → (if b then None else without_at at (copy_in_flight n v past)) ≡ None
    crash true none = refl
    crash false none = ap (without_at at) none
copy_step size n v past at (Published g w) keeps high was = ap (without_at at) (was (omega arith))
copy_step size n v past at (Promoted m g f w) keeps high was = ap (without_at at) (was (omega arith))
copy_step size n v past at e keeps high was = replies (is_reply e) (was high)
  where
    replies : (b : Bool) → copy_in_flight n v past ≡ None → (if b then without_at at (copy_in_flight n v past) else copy_in_flight n v past) ≡ None
    replies true none = ap (without_at at) none
    replies false none = none

-- no copy of a version above the newest is in flight
pub copy_low : (size n v : ℕ) (past : Past) → IsLegalPast size past → newest_version past < v → copy_in_flight n v past ≡ None
copy_low size n v [] legal high = refl
copy_low size n v (e ∷ past) legal high = copy_step size n v past e.at e.event legal.0 high (copy_low size n v past legal.1)

-- no copy of a version that is made is in flight
uncopied : (size n v : ℕ) (past : Past) (at : At) → IsLegalPast size past → newest_version past < v → IsUncopied n at past v
uncopied size n v past at legal high =
    ap (λ (k : ℕ). without_at at (copy_in_flight n k past)) (top (newest_version past) high) ∙ ap (without_at at) (copy_low size n v past legal high)
  where
    top : (k : ℕ) → k < v → max k v ≡ v
    top k high = omega arith

-- the rules of points and copies say what is newest
pub knows_newest : (size : ℕ) (past : Past) (at : At) (e : Event) (n : ℕ) → KeepsRule size past at e → IsLegalPast size past → KnowsNewest n at past e
knows_newest size past at (Published g v) n keeps legal =
    let next : v.0 ≡ newest_version past + 1 = keeps.next in uncopied size n v.0 past at legal (omega arith)
knows_newest size past at (Promoted m g f v) n keeps legal =
    let next : v.0 ≡ f.0 + 1 = keeps.above in
    let high : newest_version past ≤ f.0 = keeps.high in uncopied size n v.0 past at legal (omega arith)
knows_newest size past at (Copying m v) n keeps legal = keeps.newest
knows_newest size past at e n keeps legal = tt
