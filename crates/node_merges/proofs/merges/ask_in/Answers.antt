use Rattle.node_merges.specs.MergeChanges.{AsksMerge}
use Rattle.node_merges.proofs.MergeSteps.{primary_moved}
use Rattle.node_merges.proofs.merges.ask_in.Goals as goal

pub returns : goal.returns
returns g c = primary_moved (λ q r. AsksMerge g.D.Dir.cells c.args.factor q r c.merge_start-asked.result) c.args.places.now.items c.take_primary-primary.new.places.items c.put.new.places.items c.args.p.0 _ _ _ c.requires.slot
    c.take_primary-primary.ensures.count c.take_primary-primary.ensures.places c.put.ensures.count c.put.ensures.places c.take_primary-primary.ensures.place
    (record {
      answers = c.merge_start-asked.ensures.answers;
      fit = c.merge_start-asked.ensures.fit;
      stays = c.merge_start-asked.ensures.stays;
      no_new = c.merge_start-asked.ensures.no_new;
      drawn = c.merge_start-asked.ensures.drawn;
      whole = c.merge_start-asked.ensures.whole;
    })
