use Rattle.serving_rules.proofs.PlainServingLaws.{serves_plainly}
use Rattle.serving_rules.proofs.plain_laws.is_plain_serving.Goals as goal

pub returns : goal.returns
returns c = serves_plainly c.args.script.now c.args.h.now c.requires.form c.requires.serves
