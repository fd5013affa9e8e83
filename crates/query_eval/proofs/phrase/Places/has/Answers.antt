use Rattle.query_eval.proofs.ReaderLemmas.{reading_start, more_next, stops_next, stops_none}
use Rattle.query_eval.proofs.phrase.Places.has.Goals as goal

pub loop-self-init : goal.loop-self-init
loop-self-init c = reading_start c.args.place _ c.args.self.now c.self.invariant c.self.view_is

pub returns-then-from-place-clause-answer : goal.returns-then-from-place-clause-answer
returns-then-from-place-clause-answer c =
    rw c.from-then-from-place.ensures (stops_next c.args.place c.in-Some.next c.loop-self.self-inside.next c.loop-self.self-inside.rest c.args.self.now c.loop-self.invariant c.in-Some.is (rw c.from.ensures at c.if-from-place.true))

pub loop-self-preserved : goal.loop-self-preserved
loop-self-preserved c =
    more_next c.args.place c.in-Some.next c.loop-self.self-inside.next c.next-self-inside.result c.loop-self.self-inside.rest c.next-self-inside.new.self c.args.self.now c.loop-self.invariant
    c.in-Some.is (rw c.from.ensures at c.if-from-place.false) c.next-self-inside.ensures.steps

pub returns-clause-answer : goal.returns-clause-answer
returns-clause-answer c = stops_none c.args.place c.loop-self.self-inside.next c.loop-self.self-inside.rest c.args.self.now c.loop-self.invariant c.in_default.is
