use Rattle.codec_frame.proofs.FrameLaws.{framed-length, framed_header, framed_footer}
use Rattle.codec_frame.proofs.laws.framed_fields.Goals as goal

pub returns : goal.returns
returns c want small version id body bytes fits f =
    record {
      header = framed_header want version id body bytes small f;
      footer = framed_footer want version id body bytes fits f;
      whole = framed-length want version id body bytes f;
    }
