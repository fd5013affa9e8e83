use Rattle.std.proofs.Common.{sym, subst}
use Rattle.commit_steps.specs.Book.{shown_by}
use Rattle.searcher_switch.specs.Standing.{ImagesStand}
use Rattle.searcher_switch.proofs.Standing.{images_stand}
use Rattle.replica_node.specs.declared.parts.ReplicaParts.{ReplicaParts}
use Rattle.replica_node.specs.Replica.{AreStanding}
use Rattle.replica_node.proofs.replica.Replica.images.Goals as goal

pub returns : goal.returns
returns g c =
    let p = c.self.inside.parts in
    let standing : AreStanding g.D.Dir.cells p = subst (λ (x : ReplicaParts g.row.D.Denot). AreStanding g.D.Dir.cells x) (sym c.self.view_is) c.requires in
    subst (λ (x : ReplicaParts g.row.D.Denot). ImagesStand (g.D.Dir.cells x.dir) x.commits.last (shown_by x.commits.stage)) c.self.view_is
    (images_stand (g.D.Dir.cells p.dir) p.files p.commits c.self.invariant.node.sound standing.commits)
