use Rattle.std.proofs.Common.{◌+◌, arith, List, refl, sym, subst, false}
use Rattle.history_book.specs.declared.inner.Mark.{Mark}
use Rattle.lane_threads.specs.declared.lane.Lane.{Lane}
use Rattle.lane_threads.specs.Lanes.{IsCrewMade}
use Rattle.lane_threads.proofs.Seatings.{crew_on, crew_splits}
use Rattle.lane_threads.proofs.seating.make_crew.Goals as goal

pub split-seat-requires-clause-first : goal.split-seat-requires-clause-first
split-seat-requires-clause-first g c = crew_splits c.args.lock.now c.loop-k.k c.loop-k.hub c.loop-k.lanes.items c.loop-k.invariant (let t = c.loop-k-test.true in let w = c.requires.workers in omega arith)

pub loop-k-preserved : goal.loop-k-preserved
loop-k-preserved g c =
    let x : Lane g.row.T.Denot Mark g.T.Grows = record { seat = c.split-seat.result; number = record { 0 = c.loop-k.k + 1 }; failed = false } in
    subst (λ (items : List (Lane g.row.T.Denot Mark g.T.Grows)). IsCrewMade c.args.lock.now (c.loop-k.k + 1) c.split-seat.new.seat items) (sym c.in_ok-push.ensures.items)
    (crew_on c.args.lock.now c.loop-k.k c.loop-k.hub c.split-seat.new.seat c.loop-k.lanes.items x c.loop-k.invariant c.split-seat.ensures.counted c.split-seat.ensures.new refl)
