use Rattle.std.proofs.Common.{sym, subst, arith, ℕ, List}
use Rattle.file_names.specs.Base36.{SpellsBase36}
use Rattle.file_names.proofs.Base36Lemmas.{base36_spells}
use Rattle.file_names.proofs.radix.base36.Goals as goal

pub returns-clause-spelled : goal.returns-clause-spelled
returns-clause-spelled c = subst (λ (x : List ℕ). SpellsBase36 x c.args.n) (sym c.of.ensures) (base36_spells c.args.n (omega arith))
