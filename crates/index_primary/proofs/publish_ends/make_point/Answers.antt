use Rattle.searcher_switch.proofs.Appearing.{only_then_none}
use Rattle.index_primary.specs.Held.{IsOwnFile}
use Rattle.index_primary.specs.Primary.{loose_of}
use Rattle.index_primary.proofs.Publishing.{rose_later}
use Rattle.index_primary.proofs.publish_ends.make_point.Goals as goal

pub returns-in-Ok-clause-appears : goal.returns-in-Ok-clause-appears
returns-in-Ok-clause-appears g c =
    let p = c.args.parts.now in
    only_then_none (IsOwnFile p.infos (loose_of p)) (g.D.Dir.cells p.dir) (g.D.Dir.cells c.write.new.parts.dir) (g.D.Dir.cells c.place.new.parts.dir) c.in-Ok.ensures.appears c.place.ensures.appears

pub returns-in-Ok-clause-twice : goal.returns-in-Ok-clause-twice
returns-in-Ok-clause-twice g c some = rose_later (g.D.Dir.faults c.args.parts.now.dir) (g.D.Dir.faults c.write.new.parts.dir) (g.D.Dir.faults c.place.new.parts.dir) c.in-Ok.ensures.later (c.place.ensures.twice some)
