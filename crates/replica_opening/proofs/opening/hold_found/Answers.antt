use Rattle.std.proofs.Common.{◌≡◌, ◌∙◌, ap, sym, List}
use Rattle.disk_model.specs.Disk.{Name, is_among}
use Rattle.replica_opening.proofs.Openings.{taken}
use Rattle.replica_opening.proofs.opening.hold_found.Goals as goal

pub held_of-requires-clause-listed : goal.held_of-requires-clause-listed
held_of-requires-clause-listed g c q = ap (λ (ns : List Name). is_among ns q) c.as_slice.ensures ∙ c.requires.listed q

pub returns : goal.returns
returns g c =
    taken (g.D.Dir.cells c.args.dir.now) c.args.found c.args.listed c.as_slice.result.now c.in-Ok.held.0 c.in-Ok.held.1 c.as_slice.ensures c.requires.listed c.requires.found c.in-Ok.ensures.counted
    c.in-Ok.ensures.point c.in-Ok.ensures.tickets
