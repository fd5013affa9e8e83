use Rattle.std.proofs.Common.{subst, sym}
use Rattle.disk_model.specs.Disk.{Cells, reads_of}
use Rattle.replica_node.specs.Sources.{IsSourced}
use Rattle.node_tests.proofs.Running.{just_sourced}
use Rattle.node_tests.proofs.finishing.copy_files.Goals as goal

pub returns : goal.returns
returns g c =
    let source = reads_of (g.S.Dir.cells c.args.source.now) in
    record {
      sourced =
          subst (λ (x : Cells). IsSourced (reads_of x) g.D.Dir.cells c.fetch_files.new.replica) (sym c.fetch_files.ensures.cells)
          (c.in_ok-fetch_files.ensures.sourced (c.begin_files.ensures.sourced source (just_sourced g.D.Dir.cells c.args.replica.now c.requires source (c.in_ok-check_empty.ensures source))));
    }
