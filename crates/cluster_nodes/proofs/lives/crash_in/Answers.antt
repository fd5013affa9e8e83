use Rattle.std.proofs.Common.{◌≡◌, subst}
use Rattle.std.specs.Prelude.{OnOk}
use Rattle.disk_model.specs.Disk.{HasCrashed, restarted}
use Rattle.disk_model.specs.Faults.{ended}
use Rattle.cluster_nodes.proofs.CrashedPlaces.{crashed_in, left_in}
use Rattle.cluster_nodes.proofs.lives.crash_in.Goals as goal

pub returns-clause-crashes : goal.returns-clause-crashes
returns-clause-crashes g c = crashed_in g.D.Dir.cells c.crash-crashed.result c.args.places.now.items c.take-node.new.places.items c.put.new.places.items c.args.n.0 c.take-node.result c.crash-crashed.new.self c.new-held.result
    c.take-node.ensures.place c.new-held.ensures.items c.take-node.ensures.count c.take-node.ensures.places c.put.ensures.count c.put.ensures.places
    (subst (λ d. OnOk c.crash-crashed.result (HasCrashed (g.D.Dir.cells d) (g.D.Dir.cells c.crash-crashed.new.self))) c.dir_in-dir.ensures c.crash-crashed.ensures.image)

pub returns-clause-plans : goal.returns-clause-plans
returns-clause-plans g c = left_in (λ before after. g.D.FaultDir.planned after ≡ ended (g.D.FaultDir.planned before)) c.crash-crashed.result c.args.places.now.items c.take-node.new.places.items
    c.put.new.places.items c.args.n.0 c.take-node.result c.crash-crashed.new.self c.new-held.result c.take-node.ensures.place c.put.ensures.places
    (subst (λ d. OnOk c.crash-crashed.result (g.D.FaultDir.planned c.crash-crashed.new.self ≡ ended (g.D.FaultDir.planned d))) c.dir_in-dir.ensures c.crash-crashed.ensures.plans)

pub returns-clause-picked : goal.returns-clause-picked
returns-clause-picked g c = left_in (λ before after. g.D.Dir.cells after ≡ restarted (g.D.FaultDir.leaves before c.args.pick)) c.crash-crashed.result c.args.places.now.items
    c.take-node.new.places.items c.put.new.places.items c.args.n.0 c.take-node.result c.crash-crashed.new.self c.new-held.result c.take-node.ensures.place c.put.ensures.places
    (subst (λ d. OnOk c.crash-crashed.result (g.D.Dir.cells c.crash-crashed.new.self ≡ restarted (g.D.FaultDir.leaves d c.args.pick))) c.dir_in-dir.ensures c.crash-crashed.ensures.picked)
