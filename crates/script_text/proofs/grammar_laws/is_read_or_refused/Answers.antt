use Rattle.script_text.proofs.RefusalLaws.{never_both}
use Rattle.script_text.proofs.grammar_laws.is_read_or_refused.Goals as goal

pub returns : goal.returns
returns c = never_both
