use Rattle.node_merges.specs.MergeChanges.{ReadiesMerge, GivesUpMerge}
use Rattle.node_merges.proofs.MergeSteps.{primary_went}
use Rattle.node_merges.proofs.merges.ready_in.Goals as goal

pub take_primary-primary-requires-clause-slot : goal.take_primary-primary-requires-clause-slot
take_primary-primary-requires-clause-slot g c = c.requires.slot

pub take_primary-primary-requires-clause-there : goal.take_primary-primary-requires-clause-there
take_primary-primary-requires-clause-there g c = c.requires.primary

pub ready-readied-requires : goal.ready-readied-requires
ready-readied-requires g c = c.requires.may _ _ c.take_primary-primary.ensures.place

pub returns : goal.returns
returns g c = primary_went (λ state. ReadiesMerge g.D.Dir.cells c.args.merged state) (GivesUpMerge g.D.Dir.cells c.args.merged.files.seg (λ states. states)) c.ready-readied.result c.args.places.now.items c.take_primary-primary.new.places.items c.put.new.places.items c.args.p.0 _ _ _ c.requires.slot
    c.take_primary-primary.ensures.count c.take_primary-primary.ensures.places c.put.ensures.count c.put.ensures.places c.take_primary-primary.ensures.place c.ready-readied.ensures
