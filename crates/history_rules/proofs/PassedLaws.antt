-- What becomes of a copy that passed.
use Rattle.std.proofs.Common.{◌≡◌, ◌≤◌, ◌||◌, ◌&&◌, ◌==◌, ℕ, [], ◌∷◌, Bool, true, false, true≢false, refl, sym, arith}
use Rattle.std.proofs.lemmas.Bool.{and_left, eq-eqb, or_from}
use Rattle.std.proofs.lemmas.Bool.Decides.{nat_tests}
use Rattle.std.specs.Prelude.{not, nat_lt}
use Rattle.nrt_base.specs.declared.numbers.At.{At}
use Rattle.history_rules.specs.declared.cause.Cause.TheVariants.{DiskFault}
use Rattle.history_rules.specs.declared.entry.Event.{Event}
use Rattle.history_rules.specs.declared.entry.Event.TheVariants.{Published, Promoted, Copying, Refused}
use Rattle.history_rules.specs.Nodes.{Past, newest_version}
use Rattle.history_rules.specs.Lines.{same_at}
use Rattle.history_rules.specs.Commits.{is_disk_fault, is_refused_by_disk, passes}
use Rattle.history_rules.specs.Legal.{KeepsRule, IsLegalPast}
use Rattle.history_rules.proofs.AnyLemmas.{none_more}
use Rattle.history_rules.specs.Passed.{starts_above, StaysUnpassed, NewestIsUnpassed, RefusedAtOnce}

-- where more lines are refused fewer pass
weaker : (b r c : Bool) → (b && not (r || c)) ≡ true → (b && not c) ≡ true
weaker true true c so = absurd (true≢false (sym so))
weaker true false c so = so
weaker false r c so = so

gone : (b s c : Bool) → s ≡ true → (b && not (s || c)) ≡ false
gone true true c is = refl
gone false true c is = refl
gone b false c is = absurd (true≢false (sym is))

pub stays_unpassed : StaysUnpassed
stays_unpassed n v past e other none = or_from
    (starts_above n v e.event && not (is_refused_by_disk e.at (e ∷ past))) (passes n v (e ∷ past) past)
    (and_left (starts_above n v e.event) (not (is_refused_by_disk e.at (e ∷ past))) other)
    (none_more (λ x. starts_above n v x.event && not (is_refused_by_disk x.at past)) (λ x. starts_above n v x.event && not (is_refused_by_disk x.at (e ∷ past)))
    (λ x so. weaker (starts_above n v x.event) (elim e.event [ Refused cause ↦ is_disk_fault cause | _ ↦ false ] && same_at e.at x.at) (is_refused_by_disk x.at past) so) past none)

above_none : (size n v : ℕ) (past : Past) (at : At) (e : Event) → KeepsRule size past at e → newest_version past ≤ v → starts_above n v e ≡ false
above_none size n v past at (Copying m w) keeps high = let is : w.0 ≡ newest_version past = keeps.newest in low (m.0 == n) is
  where
    low : (b : Bool) → w.0 ≡ newest_version past → (b && nat_lt v w.0) ≡ false
    low true is = grind (arith, nat_tests)
    low false is = refl
above_none size n v past at e keeps high = refl

-- no entry lowers the newest version
pub newest_more : (past : Past) (at : At) (e : Event) → newest_version past ≤ newest_version (record { at = at; event = e } ∷ past)
newest_more past at (Published g w) = omega arith
newest_more past at (Promoted m g f w) = omega arith
newest_more past at e = omega arith

low_none : (size n v : ℕ) (all past : Past) → IsLegalPast size past → newest_version past ≤ v → passes n v all past ≡ false
low_none size n v all [] legal high = refl
low_none size n v all (e ∷ past) legal high =
    let before : newest_version past ≤ v = let up = newest_more past e.at e.event in omega (arith, up, high) in
    or_from (starts_above n v e.event && not (is_refused_by_disk e.at all)) (passes n v all past)
    (and_left (starts_above n v e.event) (not (is_refused_by_disk e.at all)) (above_none size n v past e.at e.event legal.0 before))
    (low_none size n v all past legal.1 before)

pub newest_is_unpassed : NewestIsUnpassed
newest_is_unpassed size n v past legal high = low_none size n v past past legal high

pub refused_at_once : RefusedAtOnce
refused_at_once n v past at m w none =
    let all : Past = record { at = at; event = Refused DiskFault } ∷ record { at = at; event = Copying m w } ∷ past in
    let itself : same_at at at ≡ true = rw (eq-eqb at.lane.0 at.lane.0 refl, eq-eqb at.line.0 at.line.0 refl) refl in
    or_from (((m.0 == n) && nat_lt v w.0) && not (same_at at at || is_refused_by_disk at past)) (passes n v all past)
    (gone ((m.0 == n) && nat_lt v w.0) (same_at at at) (is_refused_by_disk at past) itself)
    (none_more (λ x. starts_above n v x.event && not (is_refused_by_disk x.at past)) (λ x. starts_above n v x.event && not (is_refused_by_disk x.at all))
    (λ x so. weaker (starts_above n v x.event) (same_at at x.at) (is_refused_by_disk x.at past) so) past none)
