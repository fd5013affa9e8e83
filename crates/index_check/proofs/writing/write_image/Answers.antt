use Rattle.std.proofs.Common.{arith, refl, length}
use Rattle.index_check.proofs.Format.{image_written}
use Rattle.index_check.proofs.writing.write_image.Goals as goal

pub returns : goal.returns
returns c =
    let n = c.in_ok-push_u32.ensures in
    let p = c.in_ok-push_files.ensures in
    image_written c.args.files.now c.new-out.result.items c.push_u32.new.out.items c.push_files.new.out.items (length c.args.files.now) c.new-out.ensures.items n.ok p.bytes refl (omega arith) p.fit c.requires.ascending
