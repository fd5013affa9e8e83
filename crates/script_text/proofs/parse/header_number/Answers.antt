use Rattle.std.proofs.Common.{sym, ◌∙◌, arith}
use Rattle.script_text.specs.Grammar.{words_in}
use Rattle.script_text.proofs.HeaderLemmas.{header_number_is}
use Rattle.script_text.proofs.parse.header_number.Goals as goal

pub returns-in-Some-number_u8 : goal.returns-in-Some-number_u8
returns-in-Some-number_u8 c =
    header_number_is c.args.low c.args.high (omega (arith, c.ranges.high.fits)) (words_in c.args.rest.now) c.in-Some.word.now (words_in c.in-Some.others.now) c.in-Some-number_u8.number
    c.in-Some.ensures.words (omega (arith, c.if-word_count-gt0.false, c.word_count.ensures)) (sym c.number_u8.ensures ∙ c.in-Some-number_u8.is)
