use Rattle.std.proofs.Common.{◌≡◌, ℕ, List, ap, sym, subst, ◌∙◌, arith, bit_xor}
use Rattle.std.proofs.lemmas.Nat.{xor_comm}
use Rattle.codec_frame.specs.Bytes.{AreBytes}
use Rattle.codec_frame.specs.Division.{IsCrc, crc_of}
use Rattle.codec_frame.specs.Register.{taken_in}
use Rattle.codec_frame.proofs.Triples.{word_taken}
use Rattle.codec_frame.proofs.Remainder.{crc_of-register, crc_is_remainder, crc_is_the_only}
use Rattle.codec_frame.proofs.crc.crc32.Goals as goal

pub words-preserved : goal.words-preserved
words-preserved c =
    word_taken c.words.register c.take_in_word-register.result c.words.left.now c.split_at.result.0.now c.split_at.result.1.now c.split_at.ensures.front c.split_at.ensures.back c.take_in_word-register.ensures
    ∙ c.words.invariant

-- the register at the end, inverted
inverted : (bytes : List ℕ) (register rest : ℕ) → AreBytes bytes → rest ≡ register → register ≡ taken_in 0xffffffff bytes → bit_xor rest 0xffffffff ≡ crc_of bytes
inverted bytes register rest fits e h = xor_comm rest 0xffffffff ∙ ap (bit_xor 0xffffffff) (e ∙ h) ∙ sym (crc_of-register bytes fits)

pub returns-clause-value : goal.returns-clause-value
returns-clause-value c = inverted c.args.bytes.now _ _ (λ i. omega (arith, c.type_inv.bytes i)) c.take_in_rest.ensures c.words.invariant

pub returns-clause-division : goal.returns-clause-division
returns-clause-division c =
    let fits : AreBytes c.args.bytes.now = λ i. omega (arith, c.type_inv.bytes i) in
    subst (IsCrc c.args.bytes.now) (sym (inverted c.args.bytes.now _ _ fits c.take_in_rest.ensures c.words.invariant)) (crc_is_remainder c.args.bytes.now fits)

pub returns-clause-only : goal.returns-clause-only
returns-clause-only c =
    let fits : AreBytes c.args.bytes.now = λ i. omega (arith, c.type_inv.bytes i) in
    λ x h. crc_is_the_only c.args.bytes.now x fits h ∙ sym (inverted c.args.bytes.now _ _ fits c.take_in_rest.ensures c.words.invariant)
