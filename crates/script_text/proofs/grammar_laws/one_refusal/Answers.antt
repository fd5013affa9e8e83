use Rattle.script_text.proofs.RefusalLaws.{one_refusal}
use Rattle.script_text.proofs.grammar_laws.one_refusal.Goals as goal

pub returns : goal.returns
returns c = one_refusal
