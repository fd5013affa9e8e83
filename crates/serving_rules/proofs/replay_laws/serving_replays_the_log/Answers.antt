use Rattle.serving_rules.proofs.ReplayLemmas.{served_replays}
use Rattle.serving_rules.proofs.replay_laws.serving_replays_the_log.Goals as goal

pub returns : goal.returns
returns c = served_replays c.args.script.now c.args.h.now c.requires.log c.requires.serves
