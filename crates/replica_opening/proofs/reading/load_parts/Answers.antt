use Rattle.std.proofs.Common.{◌∙◌, refl, arith}
use Rattle.replica_opening.proofs.Segments.{there_along}
use Rattle.replica_opening.proofs.reading.load_parts.Goals as goal

pub load-requires-2 : goal.load-requires-2
load-requires-2 g c = there_along (g.D.Dir.cells c.args.dir.now) (g.D.Dir.cells c.load.new.dir) _ _ c.load.ensures.cells c.part_name-2.ensures.name (c.requires _ (1, omega arith, refl))

pub load-requires-3 : goal.load-requires-3
load-requires-3 g c = there_along (g.D.Dir.cells c.args.dir.now) (g.D.Dir.cells c.load-2.new.dir) _ _ (c.load-2.ensures.cells ∙ c.load.ensures.cells) c.part_name-3.ensures.name (c.requires _ (2, omega arith, refl))
