use Rattle.std.proofs.Common.{rules, arith, ap, ◌∙◌, List, ◌++◌, ◌∷◌, []}
use Rattle.trans_log.specs.declared.record.LogOp.{LogOp}
use Rattle.trans_log.proofs.Appending.{refused_log, done_log, open_log, images_of_safe}
use Rattle.trans_log.proofs.log.TransLog.append.Goals as goal

pub returns-in_err-append_file-clause-safe : goal.returns-in_err-append_file-clause-safe
returns-in_err-append_file-clause-safe g c =
    refused_log (g.D.Dir.cells c.args.self.now.dir) (g.D.Dir.cells c.append_file.new.dir) c.args.self.now.records.items c.reserve.new.self.items c.args.entry.now _ c.append_file.result c.from_residual-in_err-append_file.result
    (omega (arith, c.len.ensures, c.requires.few)) (omega (arith, c.len.ensures, c.requires.few)) c.reserve.ensures.items (search rules) c.append_file.ensures.appends

pub returns-in_err-append_file-clause-images : goal.returns-in_err-append_file-clause-images
returns-in_err-append_file-clause-images g c safe = images_of_safe _ _ _ (returns-in_err-append_file-clause-safe g c safe)

pub returns-clause-log : goal.returns-clause-log
returns-clause-log g c =
    open_log (g.D.Dir.cells c.args.self.now.dir) (g.D.Dir.cells c.append_file.new.dir) c.args.self.now.records.items c.push_reserved.new.self.items c.args.entry.now c.in_ok-copy.copy _ c.append_file.result c.in_ok-append_file.field-0 c.in_ok-append_file.was
    (omega (arith, c.len.ensures, c.requires.few)) (omega (arith, c.len.ensures, c.requires.few)) (c.push_reserved.ensures.items ∙ ap (λ (rs : List LogOp). rs ++ c.in_ok-copy.copy ∷ []) c.reserve.ensures.items) c.in_ok-copy.ensures c.append_file.ensures.appends c.requires.log

pub returns-clause-safe : goal.returns-clause-safe
returns-clause-safe g c =
    done_log (g.D.Dir.cells c.args.self.now.dir) (g.D.Dir.cells c.append_file.new.dir) c.args.self.now.records.items c.push_reserved.new.self.items c.args.entry.now c.in_ok-copy.copy _ c.append_file.result c.in_ok-append_file.field-0 c.in_ok-append_file.was
    (omega (arith, c.len.ensures, c.requires.few)) (omega (arith, c.len.ensures, c.requires.few)) (c.push_reserved.ensures.items ∙ ap (λ (rs : List LogOp). rs ++ c.in_ok-copy.copy ∷ []) c.reserve.ensures.items) c.in_ok-copy.ensures c.append_file.ensures.appends

pub returns-clause-images : goal.returns-clause-images
returns-clause-images g c safe = images_of_safe _ _ _ (returns-clause-safe g c safe)
