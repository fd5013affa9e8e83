use Rattle.std.proofs.Common.{◌∙◌}
use Rattle.replica_node.proofs.Merging.{found_in}
use Rattle.replica_node.proofs.merges.RunningCopies.copy.Goals as goal

pub returns : goal.returns
returns c = c.copy_at_place.ensures ∙ found_in c.args.number c.as_slice-items.result.now c.args.self.now c.place_of-at.result (c.as_slice-items.ensures.value ∙ c.self.view_is) c.place_of-at.ensures
