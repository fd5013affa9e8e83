use Rattle.std.proofs.Common.{List, ℕ, arith}
use Rattle.index_primary.proofs.LoadCounts.{one_fails, one_made, stopped_at}
use Rattle.index_primary.proofs.states.meta_of.Goals as goal

pub returns-in-Err-clause-calls : goal.returns-in-Err-clause-calls
returns-in-Err-clause-calls g c = one_fails (List ℕ) (g.D.Dir.plans c.args.dir.now) (g.D.Dir.plans c.load.new.self) c.in-Err.fault c.in-Err.ensures.plans

pub returns-in-Ok-meta_told-clause-calls : goal.returns-in-Ok-meta_told-clause-calls
returns-in-Ok-meta_told-clause-calls g c = one_made (g.D.Dir.plans c.args.dir.now) (g.D.Dir.plans c.load.new.self) c.in-Ok.bytes c.in-Ok.ensures.plans

pub returns-clause-calls : goal.returns-clause-calls
returns-clause-calls g c =
    stopped_at 1 1 (g.D.Dir.plans c.args.dir.now) (g.D.Dir.plans c.load.new.self) (omega arith) (one_made (g.D.Dir.plans c.args.dir.now) (g.D.Dir.plans c.load.new.self) c.in-Ok.bytes c.in-Ok.ensures.plans)
