use Rattle.std.proofs.Common.{ap, sym, ◌∙◌, arith, bit_xor}
use Rattle.codec_frame.specs.Register.{taken_in}
use Rattle.codec_frame.proofs.Triples.{wide_alone, word_passed, words_leave, last_taken}
use Rattle.codec_frame.proofs.crc.take_in_triples.Goals as goal

pub triples-init : goal.triples-init
triples-init c = record { whole = ap (λ x. taken_in x c.args.bytes.now) (wide_alone c.args.register); none = λ h. wide_alone c.args.register }

pub triples-preserved : goal.triples-preserved
triples-preserved c =
    let one = c.split_at.ensures in
    let two = c.split_at-in-triples.ensures in
    let three = c.split_at-in-triples-2.ensures in
    let long = c.triples-test.true in
    let left = words_leave c.triples.left.now _ _ _ long one.back two.back three.back in
    let behind = left.0 in
    record {
      whole = word_passed c.triples.third _ _ _ _ _ _ left.1 three.front three.back c.take_in_and_pass-third.ensures
          ∙ word_passed c.triples.second c.triples.third _ _ _ _ _ (omega (arith, behind)) two.front two.back c.take_in_and_pass-second.ensures
          ∙ word_passed c.triples.first c.triples.second c.triples.third _ c.triples.left.now _ _ (omega (arith, long)) one.front one.back c.take_in_and_pass-first.ensures
          ∙ c.triples.invariant.whole;
      none = λ h. absurd (let short = left.2 in omega (arith, h, short));
    }

pub returns-then-left-lt16 : goal.returns-then-left-lt16
returns-then-left-lt16 c = ap (λ x. taken_in x c.triples.left.now) (sym (c.triples.invariant.none c.if-left-lt16.true)) ∙ c.triples.invariant.whole

pub returns : goal.returns
returns c =
    let one = c.split_at-2.ensures in
    let two = c.split_at-3.ensures in
    last_taken c.triples.first c.triples.second c.triples.third _ _ c.triples.left.now _ _ _ _ c.if-left-lt16.false one.front one.back two.front two.back (ap (λ x. bit_xor x c.triples.second) c.take_in_word.ensures)
    c.take_in_word-2.ensures
    ∙ c.triples.invariant.whole
