use Rattle.std.proofs.Common.{◌≡◌, ◌∷◌, [], ℕ, take}
use Rattle.std.specs.Prelude.{map}
use Rattle.copy_state.specs.States.{meta_names}
use Rattle.node_tests.proofs.takeovers.state_of.Given as goal

abbrev pub invariant-loop-letter : goal.invariant-loop-letter
invariant-loop-letter l = meta_names l.files ≡ map (λ (b : ℕ). b ∷ []) (take l.letter-index l.letters)
