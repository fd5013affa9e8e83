use Rattle.std.proofs.Common.{◌∙◌, true, sym, subst}
use Rattle.history_book.specs.Log.{Log}
use Rattle.script_serving.specs.declared.script.LineCommand.TheVariants.{Promote}
use Rattle.lane_threads.specs.Owes.{GoesByLine}
use Rattle.cluster_site.proofs.Replays.{on_err, replays_next, replays_all}
use Rattle.cluster_site.proofs.replaying.replay.Goals as goal

pub loop-entry-preserved : goal.loop-entry-preserved
loop-entry-preserved g c = record {
  running = c.in_ok-accept_one.ensures.ok.running;
  nodes = c.in_ok-accept_one.ensures.ok.nodes ∙ c.loop-entry.invariant.nodes;
  rest = c.in_ok-accept_one.ensures.rest ∙ c.loop-entry.invariant.rest;
  replays = replays_next c.args.at c.args.cluster.now.log c.loop-entry.cluster.log c.accept_one.new.cluster.log c.args.records.now c.loop-entry.entry-index c.entry-item.result c.loop-entry-test.true c.entry-item.is c.loop-entry.invariant.replays
      c.in_ok-accept_one.ensures.ok.log;
}

pub accept_one-requires-clause-may : goal.accept_one-requires-clause-may
accept_one-requires-clause-may g c = c.loop-entry.invariant.replays.may

pub returns-clause-done : goal.returns-clause-done
returns-clause-done g c = replays_all c.args.at c.args.cluster.now.log c.loop-entry.cluster.log c.args.records.now c.loop-entry.entry-index c.loop-entry-test.false c.loop-entry.invariant.replays

pub returns-in_err-accept_one-clause-goes : goal.returns-in_err-accept_one-clause-goes
returns-in_err-accept_one-clause-goes g c =
    on_err c.from_residual.result
    (λ n force. subst (λ (l : Log). GoesByLine true (Promote n force) c.args.at c.args.cluster.now.log l) (sym c.in_err-accept_one.ensures.err.log) (c.loop-entry.invariant.replays.goes n force))
