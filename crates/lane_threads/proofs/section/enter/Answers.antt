use Rattle.std.proofs.Common.{refl, sym, subst}
use Rattle.lane_threads.specs.Seats.{HasEntered}
use Rattle.lane_threads.proofs.SeatLemmas.{has_entered}
use Rattle.lane_threads.proofs.section.enter.Goals as goal

pub returns-clause-entered : goal.returns-clause-entered
returns-clause-entered g c =
    let f = c.lock-held.ensures in
    let run = c.lock-held.result in
    subst (λ (x : g.row.T.Denot). HasEntered c.args.setup.log c.args.lock.now c.args.at c.args.seat.now c.lock-held.new.seat (g.T.LaneRun.log x)) (sym c.holds_running.ensures.same)
    (has_entered g.met.T.LaneRun.named c.args.setup.log c.args.lock.now c.args.at c.args.seat.now c.lock-held.new.seat (g.T.Grows.history run) (g.T.LaneRun.log run) (g.met.T.LaneRun.in_order run) c.requires
    f.same f.inside f.room f.seen f.found (c.if-not-holds_running.ensures.settled refl))
