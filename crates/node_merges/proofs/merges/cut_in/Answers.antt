use Rattle.index_primary.specs.States.{out_of, states_without}
use Rattle.node_merges.specs.MergeChanges.{CutsMerge, GivesUpMerge}
use Rattle.node_merges.proofs.MergeSteps.{primary_went}
use Rattle.node_merges.proofs.merges.cut_in.Goals as goal

pub cut_over-cut-requires : goal.cut_over-cut-requires
cut_over-cut-requires g c = c.requires.may _ _ c.take_primary-primary.ensures.place

pub returns : goal.returns
returns g c = primary_went (λ done. CutsMerge g.D.Dir.cells c.args.seg c.args.state) (GivesUpMerge g.D.Dir.cells c.args.seg (states_without (out_of c.args.state))) c.cut_over-cut.result c.args.places.now.items c.take_primary-primary.new.places.items c.put.new.places.items c.args.p.0 _ _ _ c.requires.slot
    c.take_primary-primary.ensures.count c.take_primary-primary.ensures.places c.put.ensures.count c.put.ensures.places c.take_primary-primary.ensures.place c.cut_over-cut.ensures
