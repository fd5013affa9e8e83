use Rattle.std.proofs.Common.{refl, ◌≡◌, Result, Err, sym, ap, ◌∙◌}
use Rattle.disk_model.specs.Disk.{Name, Cells, after_rename}
use Rattle.disk_model.specs.declared.dir.DirFault.{DirFault}
use Rattle.trans_log.specs.Names.{log_name_of, pending_log_name_of}
use Rattle.trans_log.specs.Logs.{dir_answer_of}
use Rattle.trans_log.proofs.Calm.{calm_stays, only_memory}
use Rattle.trans_log.proofs.log.rename_record.Goals as goal

renamed : (before after : Cells) (p l from to : Name) (a b : Result (Unit {0}) DirFault) → after ≡ after_rename before p l a → p ≡ from → l ≡ to → b ≡ a → after ≡ after_rename before from to b
renamed before after p l from to a b e f g h =
    e ∙ ap (λ (x : Name). after_rename before x l a) f ∙ ap (λ (x : Name). after_rename before from x a) g ∙ ap (after_rename before from to) (sym h)

pub returns-in-Err-clause-cells : goal.returns-in-Err-clause-cells
returns-in-Err-clause-cells g c =
    renamed (g.D.Dir.cells c.args.dir.now) (g.D.Dir.cells c.rename.new.self) c.pending_log_name.result c.log_name.result (pending_log_name_of c.args.number) (log_name_of c.args.number)
    (Err c.in-Err.fault) (dir_answer_of (Err c.refusal.result)) c.in-Err.ensures.cells c.pending_log_name.ensures c.log_name.ensures c.refusal.ensures.answer

pub returns-in-Ok-clause-calm : goal.returns-in-Ok-clause-calm
returns-in-Ok-clause-calm g c = λ none. calm_stays _ _ c.rename.result c.rename.ensures.plans none

pub returns-in-Err-clause-calm : goal.returns-in-Err-clause-calm
returns-in-Err-clause-calm g c = λ none. calm_stays _ _ c.rename.result c.rename.ensures.plans none

pub returns-in-Err-clause-only : goal.returns-in-Err-clause-only
returns-in-Err-clause-only g c = λ none. only_memory _ _ c.rename.result c.in-Err.fault c.refusal.result _ c.rename.ensures.plans c.in-Err.is c.refusal.ensures.memory refl none
