use Rattle.std.proofs.Common.{◌≡◌, ◌∙◌, ap, arith, None, Some, Err}
use Rattle.codec_frame.specs.Bytes.{AreBytes}
use Rattle.copy_state.specs.Meta.{meta_fault}
use Rattle.replica_opening.proofs.known.meta_told.Goals as goal

pub unreachable-requires : goal.unreachable-requires
unreachable-requires c =
    let fits : AreBytes c.args.bytes.now = λ i. omega (arith, c.type_inv.bytes i) in
    let told : meta_fault c.args.bytes.now ≡ Some c.in-Err-Frame.field-0-0 = (c.read_meta.ensures.fault c.in-Err-Frame.field-0-0).0 (c.in-Err-Frame.is ∙ ap Err c.in-Err-Frame.field-0-is) in
    let none : meta_fault c.args.bytes.now ≡ None = c.requires fits in
    cc
