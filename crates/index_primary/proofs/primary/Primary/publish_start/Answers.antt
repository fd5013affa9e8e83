use Rattle.std.proofs.Common.{length, ap, arith, ◌≡◌, List, Option, Some, None, Result, Ok, Bool, true, refl}
use Rattle.documents.specs.declared.operation.Op.{Op}
use Rattle.index_primary.specs.Held.{drawn_to}
use Rattle.index_primary.proofs.StepFiles.{start_draws, idle_draws}
use Rattle.index_primary.proofs.PublishStarts.{primary_starts}
use Rattle.index_primary.proofs.primary.Primary.publish_start.Goals as goal

judged : {E : Type 0} (r : Result (Option Bool) E) (o : Option Bool) (b : Bool) → r ≡ Ok o → o ≡ Some b → b ≡ true → r ≡ Ok (Some true)
judged r o b a c d = cc

pub invariant_of-self-2 : goal.invariant_of-self-2
invariant_of-self-2 g c =
    let is = judged c.judge.result c.in-Ok-Some.field-0 c.in-Ok-Some.has_put c.in-Ok-Some.is c.in-Ok-Some.field-0-is c.if-not-has_put.false in
    primary_starts g.D.Dir.cells c.self.inside.parts (length c.as_slice-count.result.now) c.self.invariant (rw (← c.self.view_is) at c.requires.none)
    (let e : length c.as_slice-count.result.now ≡ length c.self.inside.parts.waiting = ap (λ (ops : List Op). length ops) c.as_slice-count.ensures in omega (arith, e))
    (c.judge.ensures.counter is) (c.judge.ensures.few is)

pub returns-clause-whole : goal.returns-clause-whole
returns-clause-whole g c =
    let is = judged c.judge.result c.in-Ok-Some.field-0 c.in-Ok-Some.has_put c.in-Ok-Some.is c.in-Ok-Some.field-0-is c.if-not-has_put.false in
    primary_starts g.D.Dir.cells c.self.inside.parts (length c.as_slice-count.result.now) c.self.invariant (rw (← c.self.view_is) at c.requires.none)
    (let e : length c.as_slice-count.result.now ≡ length c.self.inside.parts.waiting = ap (λ (ops : List Op). length ops) c.as_slice-count.ensures in omega (arith, e))
    (c.judge.ensures.counter is) (c.judge.ensures.few is)

pub returns-then-not-has_put-clause-drawn : goal.returns-then-not-has_put-clause-drawn
returns-then-not-has_put-clause-drawn g c = rw (← c.self.view_is)
    (idle_draws c.self.inside.parts (record { seg = None; count = length c.as_slice-count.result.now }) (rw (← c.self.view_is) at c.requires.none) refl)

pub returns-clause-drawn : goal.returns-clause-drawn
returns-clause-drawn g c = rw (← c.self.view_is)
    (let p = c.self.inside.parts in
    start_draws p (record { seg = Some (record { 0 = drawn_to p.infos }); count = length c.as_slice-count.result.now }) (rw (← c.self.view_is) at c.requires.none) refl)
