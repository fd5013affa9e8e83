use Rattle.std.proofs.Common.{ap, ◌∙◌}
use Rattle.disk_model.specs.Disk.{Cells}
use Rattle.trans_log.specs.Logs.{dir_answer_of}
use Rattle.trans_log.proofs.LogFound.{removed_others}
use Rattle.file_names.proofs.NameReading.{not_none}
use Rattle.trans_log.proofs.opening.remove_pending.Goals as goal

pub returns-in_default-clause-here : goal.returns-in_default-clause-here
returns-in_default-clause-here g c m h = absurd (not_none m (c.in_default.ensures.all m h))

pub returns-clause-others : goal.returns-clause-others
returns-clause-others g c q never =
    ap (λ (cs : Cells). cs q) c.remove_file.ensures.cells ∙ removed_others (g.D.Dir.cells c.args.dir.now) c.args.name.now c.in-Some.field-0 c.in-Some.ensures.some (dir_answer_of c.remove_file.result) q never
