use Rattle.std.proofs.Common.{Some, Err, ap, sym, ◌∙◌}
use Rattle.disk_model.specs.Disk.{reads_of}
use Rattle.trans_log.proofs.LogFound.{refused_at, never_refused, refused_told}
use Rattle.trans_log.proofs.opening.read_record.Goals as goal

pub returns-in-Err-File-clause-err : goal.returns-in-Err-File-clause-err
returns-in-Err-File-clause-err g c =
    refused_at (reads_of (g.D.Dir.cells c.args.dir.now)) c.args.number c.log_name-name.result c.deref.result.now c.decode.result c.in-Err-File.fault c.log_name-name.ensures
    (c.in-Ok.ensures.bytes ∙ ap Some (sym c.deref.ensures)) (c.in-Err-File.is ∙ ap Err c.in-Err-File.field-0-is) c.decode.ensures.answer

pub returns-in-Err-File-clause-whole : goal.returns-in-Err-File-clause-whole
returns-in-Err-File-clause-whole g c r has =
    never_refused (reads_of (g.D.Dir.cells c.args.dir.now)) c.args.number r c.deref.result.now c.decode.result c.in-Err-File.fault
    (ap (reads_of (g.D.Dir.cells c.args.dir.now)) (sym c.log_name-name.ensures) ∙ c.in-Ok.ensures.bytes ∙ ap Some (sym c.deref.ensures)) has c.decode.ensures.whole (c.in-Err-File.is ∙ ap Err c.in-Err-File.field-0-is)

pub returns-in-Err-File-clause-refused : goal.returns-in-Err-File-clause-refused
returns-in-Err-File-clause-refused g c q f h =
    refused_told (reads_of (g.D.Dir.cells c.args.dir.now)) c.args.number c.log_name-name.result q c.deref.result.now c.decode.result c.in-Err-File.fault f c.log_name-name.ensures
    (ap (reads_of (g.D.Dir.cells c.args.dir.now)) (sym c.log_name-name.ensures) ∙ c.in-Ok.ensures.bytes ∙ ap Some (sym c.deref.ensures)) (c.in-Err-File.is ∙ ap Err c.in-Err-File.field-0-is) c.decode.ensures.answer h
