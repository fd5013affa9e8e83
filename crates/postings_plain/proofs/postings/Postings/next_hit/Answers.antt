use Rattle.std.proofs.Common.{arith}
use Rattle.nrt_base.proofs.Plain.{false_never}
use Rattle.postings_plain.proofs.BlockPassing.{passes_none, passes_block, not_none, next_is_within, begins_of, runs_out, takes_first, takes_none}
use Rattle.postings_plain.proofs.postings.Postings.next_hit.Goals as goal

pub loop-self-init : goal.loop-self-init
loop-self-init c =
    let a = c.self.inside in
    passes_none a.field a.count a.least a.rest.now 0 c.args.self.now a.next c.self.invariant.0 c.self.invariant.1 c.self.view_is c.self.invariant.2

pub count_hit-requires : goal.count_hit-requires
count_hit-requires c = c.loop-self.invariant.below

pub unreachable-requires : goal.unreachable-requires
unreachable-requires c =
    let a = c.loop-self.self-inside in
    let f = c.in-None.ensures in
    not_none a.field a.count a.least a.rest.now 0 c.args.self.now a.next c.loop-self-test.true c.loop-self.invariant f.value

pub following-self-inside-requires : goal.following-self-inside-requires
following-self-inside-requires c =
    let a = c.loop-self.self-inside in
    let r = c.is_reached.ensures.0 c.if-is_reached.true in
    let b = begins_of a.field a.count a.least a.rest.now 0 c.args.self.now a.next c.loop-self.invariant r.there in
    (a.field, b.0, b.1, r.there)

pub loop-self-preserved : goal.loop-self-preserved
loop-self-preserved c =
    let a = c.loop-self.self-inside in
    let r = c.is_reached.ensures.0 c.if-is_reached.true in
    let f = c.following-self-inside.ensures in
    passes_block a.field a.count a.least a.rest.now 0 c.args.self.now a.next c.following-self-inside.result r (λ hs b. f.begins a.field hs b) (λ hs b. f.below a.field hs b) c.loop-self.invariant

pub loop-self-smaller : goal.loop-self-smaller
loop-self-smaller c =
    let a = c.loop-self.self-inside in
    let r = c.is_reached.ensures.0 c.if-is_reached.true in
    omega (arith, c.following-self-inside.ensures.fewer, next_is_within a.field a.count a.least a.rest.now 0 c.args.self.now a.next c.loop-self.invariant r.there)

pub invariant_of-self-in-Some : goal.invariant_of-self-in-Some
invariant_of-self-in-Some c =
    let a = c.loop-self.self-inside in
    let f = c.in-Some.ensures in
    let t =
    takes_first a.field a.count a.least a.rest.now c.args.self.now a.next c.in-Some.row c.in-Some.count f.value.0 c.in-Some.after.now c.loop-self-test.true f.value.1 f.value.2
    (λ reached. false_never c.is_reached.result c.if-is_reached.false (c.is_reached.ensures.1 reached)) c.loop-self.invariant in
    rw c.from.ensures (omega (arith, f.below), t.read, t.ahead)

pub returns-in-Some : goal.returns-in-Some
returns-in-Some c =
    let a = c.loop-self.self-inside in
    let f = c.in-Some.ensures in
    let t =
    takes_first a.field a.count a.least a.rest.now c.args.self.now a.next c.in-Some.row c.in-Some.count f.value.0 c.in-Some.after.now c.loop-self-test.true f.value.1 f.value.2
    (λ reached. false_never c.is_reached.result c.if-is_reached.false (c.is_reached.ensures.1 reached)) c.loop-self.invariant in
    rw c.from.ensures (record { answer = t.first; left = t.left; above = t.above })

pub invariant_of-self : goal.invariant_of-self
invariant_of-self c =
    let a = c.loop-self.self-inside in
    let e = runs_out a.field a.count a.least a.rest.now 0 c.args.self.now a.next (omega arith) c.loop-self.invariant in
    (c.loop-self.invariant.below, e.read, e.ahead)

pub returns : goal.returns
returns c =
    let a = c.loop-self.self-inside in
    let t = takes_none a.field a.count a.least a.rest.now c.args.self.now a.next (omega arith) c.loop-self.invariant in
    record { answer = t.first; left = t.left; above = tt }
