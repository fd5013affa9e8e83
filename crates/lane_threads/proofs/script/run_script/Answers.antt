use Rattle.std.proofs.Common.{◌≡◌, ℕ, ◌+◌, ◌<◌, List, refl, ap, sym, subst, ◌∙◌, reverse, length, get_or, arith}
use Rattle.script_serving.specs.declared.script.Phase.{Phase}
use Rattle.history_book.specs.declared.inner.Mark.{Mark}
use Rattle.lane_threads.specs.declared.lane.Lane.{Lane}
use Rattle.lane_threads.specs.Parts.{MayRunPart}
use Rattle.lane_threads.specs.Lanes.{AreCrew, EachLane, CrewDoesPhase, ArePhasesDone}
use Rattle.lane_threads.proofs.Crews.{may_run, phases_on}
use Rattle.lane_threads.proofs.PhaseLemmas.{phase_form}
use Rattle.lane_threads.proofs.ScriptLemmas.{form_of}
use Rattle.lane_threads.proofs.Seatings.{crew_first, crew_ready, joined_first}
use Rattle.lane_threads.proofs.Endings.{script_left, none_left, first_left, phases_back}
use Rattle.lane_threads.proofs.script.run_script.Goals as goal

pub new-requires : goal.new-requires
new-requires g c = c.log_is_history.ensures ∙ ap reverse c.requires.new

pub make_crew-requires-clause-workers : goal.make_crew-requires-clause-workers
make_crew-requires-clause-workers g c = c.requires.form.workers

pub make_crew-requires-clause-made : goal.make_crew-requires-clause-made
make_crew-requires-clause-made g c = crew_first c.in_ok-lock.lock c.in_ok-lock.hub c.in_ok-lock.ensures

pub loop-phase-init : goal.loop-phase-init
loop-phase-init g c = (
  crew_ready c.in_ok-lock.lock c.args.script.now.log (8 + c.args.script.now.workers) c.args.script.now.phases c.make_crew.new.hub c.in_ok-lanes.lanes.items c.in_ok-lanes.ensures (omega arith),
  omega arith,
)

pub run_phase-requires-clause-phase : goal.run_phase-requires-clause-phase
run_phase-requires-clause-phase g c = λ κs lives. phase_form c.args.script.now.log 1 c.args.script.now.phases (form_of c.args.script.now c.requires.form) c.loop-phase.phase-index c.phase-item.result (subst (λ (ps : List Phase). c.phase-item.result ≡ get_or ps c.loop-phase.phase-index c.phase-item.result) c.as_slice-phase-items.ensures c.phase-item.is) (subst (λ (ps : List Phase). c.loop-phase.phase-index < length ps) c.as_slice-phase-items.ensures c.loop-phase-test.true)

pub run_phase-requires-clause-crew : goal.run_phase-requires-clause-crew
run_phase-requires-clause-crew g c = λ κs lives. subst AreCrew (sym c.as_mut_slice.ensures.value) c.loop-phase.invariant.0.crew

pub run_phase-requires-clause-hub : goal.run_phase-requires-clause-hub
run_phase-requires-clause-hub g c = λ κs lives. c.loop-phase.invariant.0.hub

pub run_phase-requires-clause-may : goal.run_phase-requires-clause-may
run_phase-requires-clause-may g c = λ κs lives.
    subst (EachLane (MayRunPart c.args.script.now.log c.in_ok-lock.lock (g.Q.RunsLines.runs c.args.runner.now) c.phase-item.result)) (sym c.as_mut_slice.ensures.value)
    (may_run c.args.script.now.log c.in_ok-lock.lock _ c.args.script.now.phases (form_of c.args.script.now c.requires.form) c.loop-phase.phase-index c.phase-item.result (subst (λ (ps : List Phase). c.phase-item.result ≡ get_or ps c.loop-phase.phase-index c.phase-item.result) c.as_slice-phase-items.ensures c.phase-item.is) (subst (λ (ps : List Phase). c.loop-phase.phase-index < length ps) c.as_slice-phase-items.ensures c.loop-phase-test.true) (g.Q.RunsLines.runs c.args.runner.now) c.requires.runs
    c.loop-phase.hub c.loop-phase.lanes.items c.loop-phase.invariant.0)

pub loop-phase-preserved : goal.loop-phase-preserved
loop-phase-preserved g c = (
  phases_back c.args.script.now.log c.in_ok-lock.lock c.args.script.now.phases (c.loop-phase.phase-index + 1) _ _ c.run_phase.new.hub c.run_phase.new.lanes _ (sym c.as_mut_slice.ensures.len ∙ (ap length c.as_mut_slice.ensures.value ∙ c.loop-phase.invariant.0.count))
      (phases_on c.args.script.now.log c.in_ok-lock.lock _ c.args.script.now.phases (form_of c.args.script.now c.requires.form) c.loop-phase.phase-index c.phase-item.result (subst (λ (ps : List Phase). c.phase-item.result ≡ get_or ps c.loop-phase.phase-index c.phase-item.result) c.as_slice-phase-items.ensures c.phase-item.is) (subst (λ (ps : List Phase). c.loop-phase.phase-index < length ps) c.as_slice-phase-items.ensures c.loop-phase-test.true) c.loop-phase.hub c.run_phase.new.hub c.loop-phase.lanes.items c.run_phase.new.lanes c.loop-phase.invariant.0
      (subst (λ (ls : List (Lane g.row.T.Denot Mark g.T.Grows)). CrewDoesPhase c.args.script.now.log c.in_ok-lock.lock c.phase-item.result c.loop-phase.hub c.run_phase.new.hub ls c.run_phase.new.lanes) c.as_mut_slice.ensures.value c.in_ok-run_phase.ensures)),
  let within = subst (λ (ps : List Phase). c.loop-phase.phase-index < length ps) c.as_slice-phase-items.ensures c.loop-phase-test.true in omega (arith, within),
)

pub disband-requires : goal.disband-requires
disband-requires g c =
    joined_first c.in_ok-lock.lock c.args.script.now.log _ c.args.script.now.phases c.loop-phase.phase-index c.loop-phase.hub c.loop-phase.lanes.items c.loop-phase.invariant.0

pub close-left-requires-clause-last : goal.close-left-requires-clause-last
close-left-requires-clause-last g c = (c.disband.ensures.hub.free, (let e = c.disband.ensures.room in omega arith))

pub returns-clause-serves : goal.returns-clause-serves
returns-clause-serves g c =
    let left = c.close-left.result in
    let end : c.loop-phase.phase-index ≡ length c.args.script.now.phases = (let last = c.loop-phase-test.false in let count = ap length c.as_slice-phase-items.ensures in let within = c.loop-phase.invariant.1 in omega (arith, last, count, within)) in
    let all = subst (λ (k : ℕ). ArePhasesDone c.args.script.now.log c.in_ok-lock.lock (length c.in_ok-lanes.lanes.items) c.args.script.now.phases k c.loop-phase.hub c.loop-phase.lanes.items) end c.loop-phase.invariant.0 in
    script_left c.names_are_seats.ensures c.in_ok-lock.lock c.args.script.now (length c.in_ok-lanes.lanes.items) c.loop-phase.hub c.disband.new.hub c.loop-phase.lanes.items (g.T.LaneRun.log left) all c.disband.ensures
    (g.T.Grows.history left) c.log_is_history-2.ensures c.close-left.ensures (c.if-not-is_whole.ensures.settled refl) c.requires.form

pub returns-clause-none : goal.returns-clause-none
returns-clause-none g c =
    let left = c.close-left.result in
    let end : c.loop-phase.phase-index ≡ length c.args.script.now.phases = (let last = c.loop-phase-test.false in let count = ap length c.as_slice-phase-items.ensures in let within = c.loop-phase.invariant.1 in omega (arith, last, count, within)) in
    let all = subst (λ (k : ℕ). ArePhasesDone c.args.script.now.log c.in_ok-lock.lock (length c.in_ok-lanes.lanes.items) c.args.script.now.phases k c.loop-phase.hub c.loop-phase.lanes.items) end c.loop-phase.invariant.0 in
    none_left c.names_are_seats.ensures c.in_ok-lock.lock c.args.script.now (length c.in_ok-lanes.lanes.items) c.loop-phase.hub c.disband.new.hub c.loop-phase.lanes.items (g.T.LaneRun.log left) all c.disband.ensures
    (g.T.Grows.history left) c.log_is_history-2.ensures c.close-left.ensures (c.if-not-is_whole.ensures.settled refl) c.requires.form

pub returns-clause-first : goal.returns-clause-first
returns-clause-first g c =
    let left = c.close-left.result in
    let end : c.loop-phase.phase-index ≡ length c.args.script.now.phases = (let last = c.loop-phase-test.false in let count = ap length c.as_slice-phase-items.ensures in let within = c.loop-phase.invariant.1 in omega (arith, last, count, within)) in
    let all = subst (λ (k : ℕ). ArePhasesDone c.args.script.now.log c.in_ok-lock.lock (length c.in_ok-lanes.lanes.items) c.args.script.now.phases k c.loop-phase.hub c.loop-phase.lanes.items) end c.loop-phase.invariant.0 in
    first_left c.names_are_seats.ensures c.in_ok-lock.lock c.args.script.now (length c.in_ok-lanes.lanes.items) c.loop-phase.hub c.disband.new.hub c.loop-phase.lanes.items (g.T.LaneRun.log left) all c.disband.ensures
    (g.T.Grows.history left) c.log_is_history-2.ensures c.close-left.ensures (c.if-not-is_whole.ensures.settled refl) c.requires.form
