use Rattle.std.proofs.Common.{◌≡◌, ◌∙◌, ap, sym, List, is_some}
use Rattle.disk_model.specs.Disk.{Name, is_among, reads_of}
use Rattle.replica_opening.proofs.Openings.{nothing_found}
use Rattle.replica_opening.proofs.Clearings.{opened_empty}
use Rattle.replica_opening.proofs.opening.open_empty.Goals as goal

pub hold_found-requires-clause-found : goal.hold_found-requires-clause-found
hold_found-requires-clause-found g c = nothing_found (reads_of (g.D.Dir.cells c.args.dir.now)) c.opening_point-found.result c.opening_point-found.ensures (λ q commit. c.requires q)

pub hold_found-requires-clause-listed : goal.hold_found-requires-clause-listed
hold_found-requires-clause-listed g c q = ap (λ (ns : List Name). is_among ns q) c.new.ensures ∙ sym (ap is_some (c.requires q))

pub returns : goal.returns
returns g c = opened_empty (g.D.Dir.cells c.args.dir.now) c.in_ok-taken.taken c.in_ok-taken.ensures c.requires
