use Rattle.std.proofs.Common.{ap, get_or}
use Rattle.copy_job.specs.Jobs.{Job}
use Rattle.replica_node.specs.Moving.{PartComes}
use Rattle.replica_node.proofs.Merging.{set_here}
use Rattle.replica_node.proofs.merges.arrive_at.Goals as goal

pub returns-clause-copy : goal.returns-clause-copy
returns-clause-copy g c =
    set_here (λ k now. PartComes k now c.args.part.name c.args.part.bytes c.args.files.now c.arrived-result.new.files (g.D.Dir.cells c.args.dir.now) (g.D.Dir.cells c.arrived-result.new.dir) c.arrived-result.result)
    c.args.copies.now c.args.at (get_or c.args.copies.now c.args.at c.index-copies-at.result) c.arrived-result.new.self c.index-copies-at-2.result c.requires.within (ap (λ (x : Job). get_or c.args.copies.now c.args.at x) c.index-copies-at.is)
    (λ is. record { is = is; ok = c.arrived-result.ensures.ok; err = c.arrived-result.ensures.err; reads = c.arrived-result.ensures.reads; moves = c.arrived-result.ensures.moves }) c.told.ensures
