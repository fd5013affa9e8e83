-- What a line that promotes a node finds of the log.
use Rattle.std.proofs.Common.{◌≡◌, ◌≤◌, ◌<◌, ◌^◌, ◌+◌, ℕ, Bool, true, false, true≢false, ◌∷◌, Some, None, Option, refl, sym, subst, arith}
use Rattle.std.specs.Prelude.{not, is_some, nat_le, nat_lt, Result, Ok, Err}
use Rattle.std.specs.Option.{option_or}
use Rattle.std.proofs.lemmas.Bool.Decides.{nat_tests}
use Rattle.std.proofs.lemmas.Bool.{not-false}
use Rattle.nrt_base.specs.declared.numbers.At.{At}
use Rattle.nrt_base.specs.declared.numbers.NodeNo.{NodeNo}
use Rattle.nrt_base.specs.declared.numbers.Version.{Version}
use Rattle.history_rules.specs.declared.cause.Cause.{Cause}
use Rattle.history_rules.specs.declared.cause.Cause.TheVariants.{Down, PrimaryUp, ForceHigh, ForceLow}
use Rattle.history_rules.specs.declared.entry.Event.{Event}
use Rattle.history_rules.specs.declared.entry.Event.TheVariants.{Promoted, Refused}
use Rattle.history_rules.specs.Nodes.{Past, primary_of, is_running, generation_of, newest_version}
use Rattle.history_rules.specs.Commits.{is_disk_fault}
use Rattle.history_book.specs.Log.{Log, printed, shown}
use Rattle.script_serving.specs.declared.script.Force.{Force}
use Rattle.script_serving.specs.declared.script.LineCommand.TheVariants.{Promote}
use Rattle.script_serving.specs.Refusals.{when, forced_version, refusal}
use Rattle.cluster_state.specs.Run.{Run, IsNow}
use Rattle.cluster_state.specs.GivesUp.{met_log}
use Rattle.cluster_state.specs.Calls.{by_refusal}
use Rattle.cluster_recovery.specs.PromoteCalls.{promote_event, ForcesAbove}

-- ---- the first cause of the row

-- where no cause holds
first_none : (b : Bool) (cause : Cause) (o : Option Cause) → option_or (when b cause) o ≡ None → (b ≡ false) × (o ≡ None)
first_none true cause o is = absurd (cc)
first_none false cause o is = (refl, is)

last_none : (b : Bool) (cause : Cause) → when b cause ≡ None → b ≡ false
last_none true cause is = absurd (cc)
last_none false cause is = refl

-- a cause that holds is one of the two
calm_first : (b : Bool) (first : Cause) (o : Option Cause) → is_disk_fault first ≡ false → ((cause : Cause) → o ≡ Some cause → is_disk_fault cause ≡ false)
    → (cause : Cause) → option_or (when b first) o ≡ Some cause → is_disk_fault cause ≡ false
calm_first true first o calm others cause is = let same : first ≡ cause = cc in subst (λ (c : Cause). is_disk_fault c ≡ false) same calm
calm_first false first o calm others cause is = others cause is

calm_last : (b : Bool) (held cause : Cause) → is_disk_fault held ≡ false → when b held ≡ Some cause → is_disk_fault cause ≡ false
calm_last true held cause calm is = let same : held ≡ cause = cc in subst (λ (c : Cause). is_disk_fault c ≡ false) same calm
calm_last false held cause calm is = absurd (cc)

none_by : (o : Option NodeNo) → is_some o ≡ false → o ≡ None
none_by None is = refl
none_by (Some x) is = absurd (true≢false is)

below_by : (a b : ℕ) → nat_le a b ≡ false → b < a
below_by a b is = grind (arith, nat_tests)

above_by : (a b : ℕ) → nat_lt a b ≡ false → b ≤ a
above_by a b is = grind (arith, nat_tests)

module _ (n : NodeNo) (force : Force) (past : Past) where
  abbrev IsDown : Bool
  IsDown = not (is_running n.0 past)

  abbrev IsUp : Bool
  IsUp = is_some (primary_of past)

  abbrev IsHigh : Bool
  IsHigh = nat_le (2 ^ 62) (forced_version force past)

  abbrev IsLow : Bool
  IsLow = nat_lt (forced_version force past) (newest_version past)

  abbrev below : Cause
  below = ForceLow (record { 0 = newest_version past })

  -- it is no fault of a disk
  pub refused_calm : (cause : Cause) → refusal (Promote n force) 0 past ≡ Some cause → is_disk_fault cause ≡ false
  refused_calm =
      calm_first IsDown Down (option_or (when IsUp PrimaryUp) (option_or (when IsHigh ForceHigh) (when IsLow below))) refl
      (calm_first IsUp PrimaryUp (option_or (when IsHigh ForceHigh) (when IsLow below)) refl
      (calm_first IsHigh ForceHigh (when IsLow below) refl (λ cause is. calm_last IsLow below cause refl is)))

  -- it is not refused: the node runs, no primary does, and the forced version is in its bounds
  pub record IsForced (forced : Version) : Type 0 where
    pub none : refusal (Promote n force) 0 past ≡ None
    pub is : forced.0 ≡ forced_version force past
    pub up : is_running n.0 past ≡ true
    pub vacant : primary_of past ≡ None
    pub low : forced.0 < 2 ^ 62
    pub high : newest_version past ≤ forced.0

  forced_by : (forced : Version) → refusal (Promote n force) 0 past ≡ None → forced.0 ≡ forced_version force past → IsForced forced
  forced_by forced none is =
      let first = first_none IsDown Down (option_or (when IsUp PrimaryUp) (option_or (when IsHigh ForceHigh) (when IsLow below))) none in
      let second = first_none IsUp PrimaryUp (option_or (when IsHigh ForceHigh) (when IsLow below)) first.1 in
      let third = first_none IsHigh ForceHigh (when IsLow below) second.1 in
      record {
        none = none;
        is = is;
        up = not-false (is_running n.0 past) first.0;
        vacant = none_by (primary_of past) second.0;
        low = subst (λ (x : ℕ). x < 2 ^ 62) (sym is) (below_by (2 ^ 62) (forced_version force past) third.0);
        high = subst (λ (x : ℕ). newest_version past ≤ x) (sym is) (above_by (forced_version force past) (newest_version past) (last_none IsLow below third.1));
      }

-- ---- in the terms of a call, whose book has this log

module _ (n : NodeNo) (force : Force) (log l : Log) (r : Result Version Cause) (same : l ≡ log) (above : ForcesAbove n force (printed l) r) where
  pub is_refused : (cause : Cause) → r ≡ Err cause → refusal (Promote n force) 0 (printed log) ≡ Some cause
  is_refused cause is = subst (λ (x : Log). refusal (Promote n force) 0 (printed x) ≡ Some cause) same (subst (ForcesAbove n force (printed l)) is above)

  pub is_forced : (forced : Version) → r ≡ Ok forced → IsForced n force (printed log) forced
  is_forced forced is =
      subst (λ (x : Log). IsForced n force (printed x) forced) same
      (let told : ForcesAbove n force (printed l) (Ok forced) = subst (ForcesAbove n force (printed l)) is above in forced_by n force (printed l) forced told.0 told.1)

module _ (at : At) (n : NodeNo) (force : Force) (old new : Run) where
  -- what the line does where it is not refused
  abbrev promotion : ℕ → Event
  promotion forced = Promoted n (record { 0 = generation_of (printed old.log) + 1 }) (record { 0 = forced }) (record { 0 = forced + 1 })

  abbrev Adds : Event → Type 0
  Adds e = IsNow old new (shown at e ∷ met_log at old new)

  pub unpromoted : (cause : Cause) → refusal (Promote n force) 0 (printed old.log) ≡ Some cause → Adds (Refused cause) → Adds (promote_event at.lane.0 n force (printed old.log))
  unpromoted cause is now = subst (λ (o : Option Cause). Adds (by_refusal o (promotion (forced_version force (printed old.log))))) (sym is) now

  pub promoted : (forced : Version) → IsForced n force (printed old.log) forced → Adds (promotion forced.0) → Adds (promote_event at.lane.0 n force (printed old.log))
  promoted forced is now =
      subst (λ (o : Option Cause). Adds (by_refusal o (promotion (forced_version force (printed old.log))))) (sym is.none) (subst (λ (x : ℕ). Adds (promotion x)) is.is now)
