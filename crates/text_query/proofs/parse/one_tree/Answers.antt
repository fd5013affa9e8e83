use Rattle.std.proofs.Common.{sym, ◌∙◌}
use Rattle.text_query.specs.Tokens.{tokens_of, kinds_of}
use Rattle.text_query.proofs.AnswerLemmas.{reads_only}
use Rattle.text_query.proofs.parse.one_tree.Goals as goal

pub returns : goal.returns
returns c = λ text first second a b.
    let tokens = kinds_of (tokens_of text) in
    reads_only tokens first a ∙ sym (reads_only tokens second b)
