use Rattle.script_text.proofs.HeaderLemmas.{answer_in_form, script_is_answered, refusal_is_answered}
use Rattle.script_text.proofs.parse.parse_script.Goals as goal

pub returns-clause-form : goal.returns-clause-form
returns-clause-form c = answer_in_form c.args.bytes.now c.answer.result c.answer.ensures

pub returns-clause-each_script : goal.returns-clause-each_script
returns-clause-each_script c = λ script. script_is_answered c.args.bytes.now c.answer.result script c.answer.ensures

pub returns-clause-each_refusal : goal.returns-clause-each_refusal
returns-clause-each_refusal c = λ n cause. refusal_is_answered c.args.bytes.now c.answer.result n cause c.answer.ensures
