use Rattle.std.proofs.Common.{arith}
use Rattle.std.proofs.lemmas.Grind.{common_steps}
use Rattle.script_text.proofs.WordLemmas.{rest_shorter}
use Rattle.script_text.proofs.words.next_word.Goals as goal

pub returns-clause-shorter : goal.returns-clause-shorter
returns-clause-shorter c =
    rest_shorter c.args.line.now c.without_spaces-line.result.now c.word_len-len.result c.without_spaces-line.ensures c.word_len-len.ensures (grind (arith, common_steps))
