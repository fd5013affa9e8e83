use Rattle.std.proofs.Common.{ℕ, sym, subst}
use Rattle.lane_threads.proofs.LineLemmas.{going_first, going_on, line_lane, line_fresh, lines_ran}
use Rattle.history_book.specs.Log.{printed}
use Rattle.lane_threads.specs.Seats.{log_seen, IsLaneSeat}
use Rattle.script_serving.specs.declared.script.Line.{Line}
use Rattle.lane_threads.proofs.Parts.{line_passes}
use Rattle.lane_threads.proofs.part.run_lines.Goals as goal

pub loop-line-init : goal.loop-line-init
loop-line-init g c =
    (c.requires.seat, going_first (g.Q.RunsLines.set_up c.args.runner.now).log c.args.lane.0 c.args.lines.now (log_seen c.args.seat.now) c.requires.seat.faults c.requires.fresh)

pub run_line-requires-clause-seat : goal.run_line-requires-clause-seat
run_line-requires-clause-seat g c =
    let logged = (g.Q.RunsLines.set_up c.args.runner.now).log in
    subst (λ (n : ℕ). IsLaneSeat logged c.args.lock.now n c.loop-line.seat)
    (sym (line_lane logged c.args.lane.0 c.args.lines.now c.loop-line.line-index c.line-item.result c.line-item.is c.loop-line-test.true c.requires.part)) c.loop-line.invariant.0

pub run_line-requires-clause-runs : goal.run_line-requires-clause-runs
run_line-requires-clause-runs g c =
    line_passes (λ (line : Line). g.Q.RunsLines.runs c.args.runner.now line.command) c.args.lines.now c.loop-line.line-index c.line-item.result c.line-item.is c.loop-line-test.true c.requires.runs

pub run_line-requires-clause-fresh : goal.run_line-requires-clause-fresh
run_line-requires-clause-fresh g c =
    line_fresh (g.Q.RunsLines.set_up c.args.runner.now).log c.args.lane.0 c.args.lines.now c.loop-line.line-index c.line-item.result c.line-item.is c.loop-line-test.true (printed (log_seen c.loop-line.seat))
    c.loop-line.invariant.1.fresh

pub loop-line-preserved : goal.loop-line-preserved
loop-line-preserved g c =
    let logged = (g.Q.RunsLines.set_up c.args.runner.now).log in
    let here = line_lane logged c.args.lane.0 c.args.lines.now c.loop-line.line-index c.line-item.result c.line-item.is c.loop-line-test.true c.requires.part in
    let ended = c.in_ok-run_line.ensures in (
      subst (λ (n : ℕ). IsLaneSeat logged c.args.lock.now n c.run_line.new.seat) here ended.seat,
      going_on logged c.args.lane.0 c.args.lines.now c.loop-line.line-index c.line-item.result c.line-item.is c.loop-line-test.true (log_seen c.args.seat.now) (log_seen c.loop-line.seat) (log_seen c.run_line.new.seat)
          c.requires.part c.loop-line.invariant.1 ended.ran,
    )

pub returns : goal.returns
returns g c =
    record {
      seat = c.loop-line.invariant.0;
      ran = lines_ran (g.Q.RunsLines.set_up c.args.runner.now).log c.args.lane.0 c.args.lines.now c.loop-line.line-index (log_seen c.args.seat.now) (log_seen c.loop-line.seat) c.loop-line-test.false c.loop-line.invariant.1;
    }
