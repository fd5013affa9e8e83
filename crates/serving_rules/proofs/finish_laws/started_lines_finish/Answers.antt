use Rattle.serving_rules.proofs.FinishLemmas.{unharmed_lines_finish, faults_were_met}
use Rattle.serving_rules.proofs.finish_laws.started_lines_finish.Goals as goal

pub returns-clause-finish : goal.returns-clause-finish
returns-clause-finish c = unharmed_lines_finish c.args.script.now c.args.h.now c.requires.legal c.requires.serves

pub returns-clause-faults : goal.returns-clause-faults
returns-clause-faults c = faults_were_met c.args.script.now c.args.h.now c.requires.legal c.requires.serves
