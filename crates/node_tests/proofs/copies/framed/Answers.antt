use Rattle.std.proofs.Common.{refl, subst}
use Rattle.codec_frame.specs.Bytes.{AreBytes}
use Rattle.node_tests.proofs.Copying.{made_footer}
use Rattle.node_tests.proofs.copies.framed.Goals as goal

pub returns : goal.returns
returns c =
    made_footer c.new-out.result.items c.write_index_header.new.out.items c.extend_from_slice.new.self.items c.write_footer.new.out.items c.in_ok-file.file c.args.body.now _
    c.new-out.ensures.items c.in_ok-write_index_header.ensures.ok c.in_ok-extend_from_slice.ensures.items c.in_ok-write_footer.ensures.ok c.in_ok-file.ensures.ok refl
    (subst AreBytes c.as_slice.ensures c.fits.ensures)
