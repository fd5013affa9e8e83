use Rattle.searcher_switch.proofs.Standing.{images_stand}
use Rattle.searcher_switch.proofs.laws.images_stand.Goals as goal

pub returns : goal.returns
returns c = λ cells holdings others book node. images_stand cells holdings book node.sound
