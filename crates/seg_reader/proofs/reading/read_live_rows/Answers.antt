use Rattle.std.proofs.Common.{◌∙◌, ap, Err, arith}
use Rattle.codec_frame.specs.Bytes.{AreBytes}
use Rattle.seg_reader.proofs.Files.{LiveAnswers, live_file_read, live_file_refused, no_memory_for_live}
use Rattle.seg_reader.proofs.reading.read_live_rows.Goals as goal

pub returns-in-Ok : goal.returns-in-Ok
returns-in-Ok c =
    let k : LiveAnswers c.args.id.now c.args.record.now.live_gen c.args.bytes.now c.read_live.result = c.read_live.ensures in
    live_file_read c.args.record.now c.args.id.now c.args.bytes.now c.read_live.result c.requires k c.in-Ok.live c.in-Ok.is

pub returns-in-Err-File : goal.returns-in-Err-File
returns-in-Err-File c =
    let k : LiveAnswers c.args.id.now c.args.record.now.live_gen c.args.bytes.now c.read_live.result = c.read_live.ensures in
    let fits : AreBytes c.args.bytes.now = λ i. omega (arith, c.type_inv.bytes i) in
    live_file_refused c.args.record.now c.args.id.now c.args.bytes.now c.read_live.result c.requires k c.in-Err-File.fault fits (c.in-Err-File.is ∙ ap Err c.in-Err-File.field-0-is)

pub returns-in-Err-Memory : goal.returns-in-Err-Memory
returns-in-Err-Memory c =
    let k : LiveAnswers c.args.id.now c.args.record.now.live_gen c.args.bytes.now c.read_live.result = c.read_live.ensures in
    no_memory_for_live c.args.record.now c.args.id.now c.args.bytes.now c.read_live.result c.requires k (c.in-Err-Memory.is ∙ ap Err c.in-Err-Memory.field-0-is)
