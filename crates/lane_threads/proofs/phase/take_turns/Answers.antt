use Rattle.std.proofs.Common.{◌∙◌, sym, arith}
use Rattle.std.proofs.lemmas.Bool.{eqb-true}
use Rattle.lane_threads.proofs.phase.take_turns.Goals as goal

pub returns-then-is_empty-clause-workers : goal.returns-then-is_empty-clause-workers
returns-then-is_empty-clause-workers g c = λ i d lt. let none = eqb-true _ _ (sym c.is_empty.ensures ∙ c.if-is_empty.true) in absurd (omega (arith, none, lt))

pub returns-clause-lanes : goal.returns-clause-lanes
returns-clause-lanes g c = λ i d lt. let h = c.beside.ensures.first.each i d lt in grind (arith, h)

pub returns-clause-workers : goal.returns-clause-workers
returns-clause-workers g c = λ i d lt. let h = c.beside.ensures.last.each i d lt in grind (arith, h)
