use Rattle.commit_steps.proofs.Beginning.{new_sound}
use Rattle.commit_steps.proofs.stage.CommitBook.new.Goals as goal

pub returns-clause-sound : goal.returns-clause-sound
returns-clause-sound c cells holdings images = new_sound cells holdings c.args.next c.requires images
