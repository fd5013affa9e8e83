use Rattle.script_text.proofs.WordLemmas.{rest_is_text}
use Rattle.script_text.proofs.command.read_doc.Goals as goal

pub new-requires-2 : goal.new-requires-2
new-requires-2 c = rest_is_text c.args.line.now c.rest_behind-text.result.now c.requires.printable c.rest_behind-text.ensures c.if-text-gt-LONGEST_TEXT.false
