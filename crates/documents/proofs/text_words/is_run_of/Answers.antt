use Rattle.documents.proofs.WordLemmas.{run_is_word}
use Rattle.documents.proofs.text_words.is_run_of.Goals as goal

pub returns : goal.returns
returns c =
    run_is_word c.eq_ignore_ascii_case.result c.args.run.now c.args.word.now c.eq_ignore_ascii_case.ensures.test c.requires
