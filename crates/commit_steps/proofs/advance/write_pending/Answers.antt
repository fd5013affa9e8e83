use Rattle.std.proofs.Common.{◌≡◌, ◌∙◌, ap, sym, subst, false, ◌+◌, ◌∷◌, []}
use Rattle.disk_model.specs.Disk.{Name}
use Rattle.file_deleter.specs.Holdings.{count_of, is_due, times}
use Rattle.commit_steps.proofs.Advancing.{synced_goes, synced_stops}
use Rattle.commit_steps.proofs.advance.write_pending.Goals as goal

pub written-requires-clause-free : goal.written-requires-clause-free
written-requires-clause-free g c = subst (λ (n : Name). count_of c.args.files.now n ≡ 0) (sym c.pending_name-name.ensures.name) c.requires.stands.pending.unheld

pub written-requires-clause-clear : goal.written-requires-clause-clear
written-requires-clause-clear g c = subst (λ (n : Name). is_due c.args.files.now n ≡ false) (sym c.pending_name-name.ensures.name) c.requires.stands.pending.clear

pub returns-in-Ok-clause-advances : goal.returns-in-Ok-clause-advances
returns-in-Ok-clause-advances g c =
    synced_goes (g.D.Dir.cells c.args.dir.now) (g.D.Dir.cells c.write_pending.new.dir) c.args.files.now c.args.state c.requires.stands c.written.new.self c.in-Ok.written c.in-Ok.ensures.ok c.in-Ok.ensures.cells
    (λ q. c.written.ensures.counts q ∙ ap (λ (n : Name). count_of c.args.files.now q + times (n ∷ []) q) c.pending_name-name.ensures.name) c.written.ensures.due

pub returns-in-Err-clause-advances : goal.returns-in-Err-clause-advances
returns-in-Err-clause-advances g c =
    synced_stops (g.D.Dir.cells c.args.dir.now) (g.D.Dir.cells c.write_pending.new.dir) c.args.files.now c.args.state c.requires.stands c.in-Err.stopped c.in-Err.ensures.err c.in-Err.ensures.cells
