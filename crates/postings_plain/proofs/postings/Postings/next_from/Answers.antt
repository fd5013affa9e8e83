use Rattle.std.proofs.Common.{arith}
use Rattle.nrt_base.proofs.Plain.{false_never}
use Rattle.postings_plain.proofs.Passing.{whole_ascends, least_from, none_from}
use Rattle.postings_plain.proofs.BlockPassing.{passes_none, passes_one, passes_block, not_none, next_is_within, begins_of, stops, runs_out}
use Rattle.postings_plain.proofs.postings.Postings.next_from.Goals as goal

pub loop-self-init : goal.loop-self-init
loop-self-init c =
    let a = c.self.inside in
    passes_none a.field a.count a.least a.rest.now c.args.row c.args.self.now a.next c.self.invariant.0 c.self.invariant.1 c.self.view_is c.self.invariant.2

pub skip_hit-requires : goal.skip_hit-requires
skip_hit-requires c = c.loop-self.invariant.below

pub loop-self-preserved : goal.loop-self-preserved
loop-self-preserved c =
    let a = c.loop-self.self-inside in
    let f = c.in-Some.ensures in
    rw c.from.ensures (passes_one a.field a.count a.least a.rest.now c.args.row c.args.self.now a.next c.in-Some.found f.value.0 c.in-Some.after.now
    c.loop-self-test.true c.if-found-row.false f.below f.value.1 (λ reached. false_never c.is_reached.result c.if-is_reached.false (c.is_reached.ensures.1 reached)) c.loop-self.invariant)

pub unreachable-requires : goal.unreachable-requires
unreachable-requires c =
    let a = c.loop-self.self-inside in
    let f = c.in-None.ensures in
    not_none a.field a.count a.least a.rest.now c.args.row c.args.self.now a.next c.loop-self-test.true c.loop-self.invariant f.value

pub invariant_of-self-then-found-row : goal.invariant_of-self-then-found-row
invariant_of-self-then-found-row c =
    let a = c.loop-self.self-inside in
    let f = c.in-Some.ensures in
    let e = stops a.field a.count a.least a.rest.now c.args.row c.args.self.now a.next c.in-Some.found f.value.0 c.in-Some.after.now c.loop-self-test.true c.if-found-row.true f.value.1 c.loop-self.invariant in
    (c.loop-self.invariant.below, e.read, e.ahead)

pub returns-then-found-row : goal.returns-then-found-row
returns-then-found-row c =
    let b = c.self.inside in
    let a = c.loop-self.self-inside in
    let f = c.in-Some.ensures in
    let e = stops a.field a.count a.least a.rest.now c.args.row c.args.self.now a.next c.in-Some.found f.value.0 c.in-Some.after.now c.loop-self-test.true c.if-found-row.true f.value.1 c.loop-self.invariant in
    let up = whole_ascends b.field b.count b.least b.rest.now c.args.self.now c.self.invariant.1 c.self.view_is in
    record { left = e.left; answer = e.first; found = least_from c.args.row b.least c.in-Some.found c.args.self.now up e.first; none = tt }

pub invariant_of-self : goal.invariant_of-self
invariant_of-self c =
    let a = c.loop-self.self-inside in
    let e = runs_out a.field a.count a.least a.rest.now c.args.row c.args.self.now a.next (omega arith) c.loop-self.invariant in
    (c.loop-self.invariant.below, e.read, e.ahead)

pub returns : goal.returns
returns c =
    let a = c.loop-self.self-inside in
    let e = runs_out a.field a.count a.least a.rest.now c.args.row c.args.self.now a.next (omega arith) c.loop-self.invariant in
    record { left = e.left; answer = e.first; found = tt; none = none_from c.args.row c.args.self.now e.first }

pub following-self-inside-requires : goal.following-self-inside-requires
following-self-inside-requires c =
    let a = c.loop-self.self-inside in
    let r = c.is_reached.ensures.0 c.if-is_reached.true in
    let b = begins_of a.field a.count a.least a.rest.now c.args.row c.args.self.now a.next c.loop-self.invariant r.there in
    (a.field, b.0, b.1, r.there)

pub loop-self-preserved-then-is_reached : goal.loop-self-preserved-then-is_reached
loop-self-preserved-then-is_reached c =
    let a = c.loop-self.self-inside in
    let r = c.is_reached.ensures.0 c.if-is_reached.true in
    let f = c.following-self-inside.ensures in
    passes_block a.field a.count a.least a.rest.now c.args.row c.args.self.now a.next c.following-self-inside.result r (λ hs b. f.begins a.field hs b) (λ hs b. f.below a.field hs b) c.loop-self.invariant

pub loop-self-smaller-then-is_reached : goal.loop-self-smaller-then-is_reached
loop-self-smaller-then-is_reached c =
    let a = c.loop-self.self-inside in
    let r = c.is_reached.ensures.0 c.if-is_reached.true in
    omega (arith, c.following-self-inside.ensures.fewer, next_is_within a.field a.count a.least a.rest.now c.args.row c.args.self.now a.next c.loop-self.invariant r.there)
