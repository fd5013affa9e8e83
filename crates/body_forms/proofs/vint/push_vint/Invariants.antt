use Rattle.body_forms.proofs.VIntLemmas.{Goes}
use Rattle.body_forms.proofs.vint.push_vint.Given as goal

abbrev pub invariant-loop-high : goal.invariant-loop-high
invariant-loop-high l = Goes l.n l.form l.len l.high

abbrev pub decreases-loop-high : goal.decreases-loop-high
decreases-loop-high l = l.high
