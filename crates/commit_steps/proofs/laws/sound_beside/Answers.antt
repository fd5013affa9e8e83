use Rattle.commit_steps.proofs.Beside.{sound_beside, sound_images}
use Rattle.commit_steps.proofs.laws.sound_beside.Goals as goal

pub returns-clause-sound : goal.returns-clause-sound
returns-clause-sound c = sound_beside

pub returns-clause-images : goal.returns-clause-images
returns-clause-images c book holdings cells = sound_images cells holdings book
