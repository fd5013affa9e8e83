use Rattle.std.proofs.Common.{Some, sym, ap, ◌∙◌}
use Rattle.disk_model.specs.Disk.{reads_of}
use Rattle.commit_steps.proofs.Recovered.{loaded_infos, loaded_fault}
use Rattle.commit_steps.proofs.recovery.load_infos.Goals as goal

pub returns-in-Ok-decode-clause-loaded : goal.returns-in-Ok-decode-clause-loaded
returns-in-Ok-decode-clause-loaded g c =
    loaded_infos (reads_of (g.D.Dir.cells c.args.dir.now)) c.args.number c.commit_name-name.result c.deref.result.now c.requires c.commit_name-name.ensures.name
    (c.in-Ok.ensures.bytes ∙ ap Some (sym c.deref.ensures)) c.in-Ok-decode.infos c.in-Ok-decode.ensures.value c.in-Ok-decode.ensures.frame c.in-Ok-decode.ensures.each_value

pub returns-in-Err-File-clause-loaded : goal.returns-in-Err-File-clause-loaded
returns-in-Err-File-clause-loaded g c =
    loaded_fault (reads_of (g.D.Dir.cells c.args.dir.now)) c.args.number c.commit_name-name.result c.deref.result.now c.requires c.commit_name-name.ensures.name
    (c.in-Ok.ensures.bytes ∙ ap Some (sym c.deref.ensures)) c.in-Err-File.field-0 c.in-Err-File.fault c.in-Err-File.field-0-is
    c.in-Err-File.ensures.frame c.in-Err-File.ensures.each_value c.in-Err-File.ensures.each_body
