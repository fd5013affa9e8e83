use Rattle.std.proofs.Common.{◌≡◌, ap, subst, arith}
use Rattle.disk_model.specs.Disk.{Name}
use Rattle.file_deleter.specs.Holdings.{count_of}
use Rattle.file_deleter.specs.Moves.{RenamesCount}
use Rattle.commit_steps.specs.Flights.{pending_name, own_name}
use Rattle.commit_steps.proofs.Advancing.{named_goes, named_stops}
use Rattle.commit_steps.proofs.advance.rename.Goals as goal

pub renamed-requires-clause-counted : goal.renamed-requires-clause-counted
renamed-requires-clause-counted g c =
    let e : count_of c.args.files.now c.pending_name-pending.result ≡ count_of c.args.files.now (pending_name c.args.state.0.commit) = ap (count_of c.args.files.now) c.pending_name-pending.ensures.name in
    omega (arith, e, c.requires.stands.once)

pub returns-in-Ok-clause-advances : goal.returns-in-Ok-clause-advances
returns-in-Ok-clause-advances g c =
    named_goes (g.D.Dir.cells c.args.dir.now) (g.D.Dir.cells c.rename.new.dir) c.args.files.now c.args.state c.requires.stands c.renamed.new.self c.in-Ok.renamed c.in-Ok.ensures.ok c.in-Ok.ensures.cells
    (subst (λ (n : Name). RenamesCount n (own_name c.args.state.0.commit) c.args.files.now c.renamed.new.self) c.pending_name-pending.ensures.name
    (subst (λ (n : Name). RenamesCount c.pending_name-pending.result n c.args.files.now c.renamed.new.self) c.commit_name-own.ensures.name c.renamed.ensures.moves))
    c.renamed.ensures.due

pub returns-in-Err-clause-advances : goal.returns-in-Err-clause-advances
returns-in-Err-clause-advances g c =
    named_stops (g.D.Dir.cells c.args.dir.now) (g.D.Dir.cells c.rename.new.dir) c.args.files.now c.args.state c.requires.stands c.in-Err.stopped c.in-Err.ensures.err c.in-Err.ensures.cells
