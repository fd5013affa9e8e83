use Rattle.std.specs.Int.{w64}
use Rattle.std.proofs.lemmas.Nat.Bits.{bit_at_set_same, bit_at_set_other}
use Rattle.query_eval.proofs.window.set_bit.Goals as goal

pub returns : goal.returns
returns c = record {
  here = bit_at_set_same w64 c.args.marks.now c.args.place c.requires;
  others = λ i apart. bit_at_set_other w64 c.args.marks.now c.args.place c.requires i apart;
}
