use Rattle.std.proofs.Common.{◌≡◌, ◌++◌, ◌∙◌, sym, subst, Bool, List, length, arith}
use denote.Exit.{yes}
use denote.Param.Send.{param_sync, arg_sync}
use Rattle.history_book.specs.declared.inner.Mark.{Mark}
use Rattle.lane_threads.specs.declared.lane.Lane.{Lane}
use Rattle.lane_threads.specs.Parts.{HasHeard, IsIdleLane, MayRunPart, TakesTurn}
use Rattle.lane_threads.specs.Lanes.{EachLane, EachChange}
use Rattle.lane_threads.proofs.Crews.{each_idle, crew_did}
use Rattle.lane_threads.proofs.HeardLanes.{idle_after, all_heard, included_before}
use Rattle.lane_threads.proofs.Places.{each_of_first, each_of_second, parts_changed, length-parts}
use Rattle.lane_threads.proofs.phase.run_phase.Goals as goal

pub take_turns-requires-sync-P : goal.take_turns-requires-sync-P
take_turns-requires-sync-P g c κs within = param_sync _ _ (arg_sync _ yes _ c.phase_is_shared.ensures)

pub take_turns-requires-clause-lanes : goal.take_turns-requires-clause-lanes
take_turns-requires-clause-lanes g c = λ κs lives.
    let may = MayRunPart (g.Q.RunsLines.set_up c.args.runner.now).log c.args.lock.now (g.Q.RunsLines.runs c.args.runner.now) c.args.phase.now in
    each_of_first may _ _ (subst (EachLane may) c.split_at_mut-first.ensures.value
    (subst (λ (b : Bool). EachLane (MayRunPart b c.args.lock.now (g.Q.RunsLines.runs c.args.runner.now) c.args.phase.now) c.args.lanes.now) (sym c.requires.logged) c.requires.may))

pub take_turns-requires-clause-workers : goal.take_turns-requires-clause-workers
take_turns-requires-clause-workers g c = λ κs lives.
    let may = MayRunPart (g.Q.RunsLines.set_up c.args.runner.now).log c.args.lock.now (g.Q.RunsLines.runs c.args.runner.now) c.args.phase.now in
    each_of_second may _ _ (subst (EachLane may) c.split_at_mut-first.ensures.value
    (subst (λ (b : Bool). EachLane (MayRunPart b c.args.lock.now (g.Q.RunsLines.runs c.args.runner.now) c.args.phase.now) c.args.lanes.now) (sym c.requires.logged) c.requires.may))

pub do_left-requires-clause-some : goal.do_left-requires-clause-some
do_left-requires-clause-some g c =
    let count = (subst (λ (ls : List (Lane g.row.T.Denot Mark g.T.Grows)). length (c.take_turns.new.lanes ++ c.take_turns.new.workers) ≡ length ls) (sym c.split_at_mut-first.ensures.value) (length-parts _ _ c.take_turns.new.lanes c.take_turns.new.workers c.take_turns.ensures.length c.take_turns.ensures.rest)) in
    let lanes = c.requires.crew.lanes in
    omega (arith, count, lanes)

pub do_left-requires-clause-idle : goal.do_left-requires-clause-idle
do_left-requires-clause-idle g c =
    let mid = (c.take_turns.new.lanes ++ c.take_turns.new.workers) in
    let turn = TakesTurn (g.Q.RunsLines.set_up c.args.runner.now).log c.args.lock.now c.args.phase.now in
    let count = (subst (λ (ls : List (Lane g.row.T.Denot Mark g.T.Grows)). length (c.take_turns.new.lanes ++ c.take_turns.new.workers) ≡ length ls) (sym c.split_at_mut-first.ensures.value) (length-parts _ _ c.take_turns.new.lanes c.take_turns.new.workers c.take_turns.ensures.length c.take_turns.ensures.rest)) in
    let ran = subst (λ (ls : List (Lane g.row.T.Denot Mark g.T.Grows)). EachChange turn ls (c.take_turns.new.lanes ++ c.take_turns.new.workers)) (sym c.split_at_mut-first.ensures.value)
    (parts_changed turn _ _ c.take_turns.new.lanes c.take_turns.new.workers c.take_turns.ensures.length c.take_turns.ensures.lanes c.take_turns.ensures.workers) in
    each_idle (g.Q.RunsLines.set_up c.args.runner.now).log c.args.lock.now c.args.phase.now c.args.lanes.now mid mid count ran (c.any_failed.ensures c.if-any_failed.false)

pub tell_all-requires-clause-idle : goal.tell_all-requires-clause-idle
tell_all-requires-clause-idle g c =
    subst (λ (b : Bool). EachLane (IsIdleLane b c.args.lock.now) c.do_left.new.lanes) c.requires.logged
    (idle_after (g.Q.RunsLines.set_up c.args.runner.now).log c.args.lock.now (c.take_turns.new.lanes ++ c.take_turns.new.workers) c.do_left.new.lanes c.in_ok-do_left.ensures.length c.in_ok-do_left.ensures.heard)

pub returns : goal.returns
returns g c =
    let logged = c.args.logged in
    let lock = c.args.lock.now in
    let mid = (c.take_turns.new.lanes ++ c.take_turns.new.workers) in
    let left = c.do_left.new.lanes in
    let new = c.tell_all.new.lanes in
    let turn = TakesTurn (g.Q.RunsLines.set_up c.args.runner.now).log lock c.args.phase.now in
    let both = (subst (λ (ls : List (Lane g.row.T.Denot Mark g.T.Grows)). length (c.take_turns.new.lanes ++ c.take_turns.new.workers) ≡ length ls) (sym c.split_at_mut-first.ensures.value) (length-parts _ _ c.take_turns.new.lanes c.take_turns.new.workers c.take_turns.ensures.length c.take_turns.ensures.rest)) in
    let ran = subst (λ (ls : List (Lane g.row.T.Denot Mark g.T.Grows)). EachChange turn ls (c.take_turns.new.lanes ++ c.take_turns.new.workers)) (sym c.split_at_mut-first.ensures.value)
    (parts_changed turn _ _ c.take_turns.new.lanes c.take_turns.new.workers c.take_turns.ensures.length c.take_turns.ensures.lanes c.take_turns.ensures.workers) in
    let turns = subst (λ (b : Bool). EachChange (TakesTurn b lock c.args.phase.now) c.args.lanes.now mid) c.requires.logged ran in
    let heard = subst (λ (b : Bool). EachChange (HasHeard b lock) mid left) c.requires.logged c.in_ok-do_left.ensures.heard in
    let count = c.in_ok-do_left.ensures.length in
    crew_did logged lock c.args.phase.now c.args.lanes.now mid new both turns (c.any_failed.ensures c.if-any_failed.false) c.requires.phase c.requires.crew (c.tell_all.ensures.length ∙ count)
    (all_heard logged lock mid left new c.args.hub.now count heard c.tell_all.ensures.heard) (included_before logged lock mid left new count heard c.tell_all.ensures.all)
    c.args.hub.now c.tell_all.new.hub c.tell_all.ensures.splits c.tell_all.ensures.hub
