use Rattle.searcher_switch.proofs.Carry.{node_images}
use Rattle.searcher_switch.proofs.laws.images.Goals as goal

pub returns : goal.returns
returns c = node_images
