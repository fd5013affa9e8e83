use Rattle.index_primary.proofs.Choosing.{chosen_more}
use Rattle.index_primary.proofs.merge_starts.chosen.Goals as goal

pub loop-entry-preserved : goal.loop-entry-preserved
loop-entry-preserved c = chosen_more c.args.inputs.now c.args.records.now c.loop-entry.entry-index (record { seg = record { 0 = 0 }; rows = 0; live_gen = 0; live = 0 }) c.loop-entry.found c.push_chosen.new.found
    c.loop-entry-test.true c.loop-entry.invariant c.in_ok-push_chosen.ensures
