-- What a publish has that is not refused for its cut.
use Rattle.std.proofs.Common.{◌≡◌, ◌≢◌, ◌<◌, ◌&&◌, ◌==◌, ◌⊎◌, inl, inr, ℕ, zero, suc, Bool, true, false, true≢false, Some, None, Option, length, refl, sym, arith}
use Rattle.std.specs.Prelude.{not}
use Rattle.std.specs.Option.{option_or}
use Rattle.std.proofs.lemmas.Bool.{eq-eqb}
use Rattle.nrt_base.specs.SegNumbers.{segments_of_generation}
use Rattle.history_rules.specs.declared.cause.Cause.{Cause}
use Rattle.history_rules.specs.declared.cause.Cause.TheVariants.{Nothing, NamesSpent}
use Rattle.history_rules.specs.Nodes.{Past}
use Rattle.history_rules.specs.Points.{cut_of, cut_has_put, names_drawn}
use Rattle.script_serving.specs.Refusals.{when, names_are_spent}
use Rattle.cluster_state.specs.Calls.{cut_refusal}

-- an operation, or a cut-over
pub cut_some : (cut : Bool) (past : Past) → cut_refusal cut past ≡ None → (0 < length (cut_of past)) ⊎ (cut ≡ true)
cut_some cut past none = by cut (length (cut_of past)) (when (cut_has_put past && names_are_spent past) NamesSpent) none
  where
    by : (b : Bool) (n : ℕ) (more : Option Cause) → option_or (when ((n == 0) && not b) Nothing) more ≡ None → (0 < n) ⊎ (b ≡ true)
    by true n more none = inr refl
    by false zero more none = absurd (cc)
    by false (suc n) more none = inl (omega arith)

-- a name, where it has a put
pub cut_names : (cut : Bool) (past : Past) → cut_refusal cut past ≡ None → cut_has_put past ≡ true → names_drawn past ≢ segments_of_generation
cut_names cut past none put spent = no ((length (cut_of past) == 0) && not cut) (cut_has_put past) (names_are_spent past) none put (eq-eqb (names_drawn past) segments_of_generation spent)
  where
    no : (z q s : Bool) → option_or (when z Nothing) (when (q && s) NamesSpent) ≡ None → q ≡ true → s ≡ true → ⊥
    no true q s none put spent = absurd (cc)
    no false true true none put spent = absurd (cc)
    no false true false none put spent = true≢false (sym spent)
    no false false s none put spent = true≢false (sym put)
