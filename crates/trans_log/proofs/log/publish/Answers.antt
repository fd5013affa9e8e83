use Rattle.std.proofs.Common.{Result, Err, rules, refl, ap, ◌∙◌}
use Rattle.disk_model.specs.Disk.{after_sync_names}
use Rattle.disk_model.specs.declared.dir.DirFault.{DirFault}
use Rattle.trans_log.proofs.Appending.{rename_refused, names_refused, names_synced}
use Rattle.trans_log.specs.Logs.{dir_answer_of}
use Rattle.trans_log.proofs.Calm.{calm_stays, only_memory}
use Rattle.trans_log.proofs.log.publish.Goals as goal

pub returns-in_err-rename_record-clause-appends : goal.returns-in_err-rename_record-clause-appends
returns-in_err-rename_record-clause-appends g c r w =
    rename_refused (g.D.Dir.cells c.args.dir.now) c.args.number r w c.from_residual.result (search rules) (g.D.Dir.cells c.rename_record.new.dir) (dir_answer_of c.rename_record.result) c.rename_record.ensures.cells

pub returns-in-Ok-clause-appends : goal.returns-in-Ok-clause-appends
returns-in-Ok-clause-appends g c r w =
    names_synced (g.D.Dir.cells c.args.dir.now) c.args.number r w (g.D.Dir.cells c.sync_names.new.self) (g.D.Dir.cells c.rename_record.new.dir) c.in_ok-rename_record.ensures.cells
    (c.sync_names.ensures.cells ∙ ap (λ (r : Result (Unit {0}) DirFault). after_sync_names (g.D.Dir.cells c.rename_record.new.dir) r) c.in-Ok.is)

pub returns-in-Err-clause-appends : goal.returns-in-Err-clause-appends
returns-in-Err-clause-appends g c r w =
    names_refused (g.D.Dir.cells c.args.dir.now) c.args.number r w (Err c.refusal.result) refl (g.D.Dir.cells c.sync_names.new.self) (g.D.Dir.cells c.rename_record.new.dir) c.in_ok-rename_record.ensures.cells
    (c.sync_names.ensures.cells ∙ ap (λ (r : Result (Unit {0}) DirFault). after_sync_names (g.D.Dir.cells c.rename_record.new.dir) r) c.in-Err.is)

pub returns-in-Ok-clause-calm : goal.returns-in-Ok-clause-calm
returns-in-Ok-clause-calm g c = λ none. calm_stays _ _ c.sync_names.result c.sync_names.ensures.plans (c.rename_record.ensures.calm none)

pub returns-in-Err-clause-calm : goal.returns-in-Err-clause-calm
returns-in-Err-clause-calm g c = λ none. calm_stays _ _ c.sync_names.result c.sync_names.ensures.plans (c.rename_record.ensures.calm none)

pub returns-in-Err-clause-only : goal.returns-in-Err-clause-only
returns-in-Err-clause-only g c = λ none. only_memory _ _ c.sync_names.result c.in-Err.fault c.refusal.result _ c.sync_names.ensures.plans c.in-Err.is c.refusal.ensures.memory refl (c.rename_record.ensures.calm none)
