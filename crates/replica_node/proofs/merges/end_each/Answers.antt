use Rattle.std.proofs.Common.{◌∙◌, ◌++◌, ap, arith, Option}
use Rattle.std.specs.Option.{option_to_list}
use Rattle.copy_job.specs.Jobs.{Job}
use Rattle.replica_node.proofs.Merging.{copies_left, copies_ended}
use Rattle.replica_node.proofs.merges.end_each.Goals as goal

pub end-requires : goal.end-requires
end-requires g c = copies_left c.args.copies.now.items c.loop-copy.copies.items c.pop.new.self.items c.in-Some.copy c.args.files.now c.loop-copy.files (g.D.Dir.cells c.args.dir.now) (g.D.Dir.cells c.loop-copy.dir) (c.pop.ensures.items ∙ ap (λ (o : Option Job). c.pop.new.self.items ++ option_to_list o) c.in-Some.is) c.loop-copy.invariant.moves c.requires

pub loop-copy-preserved : goal.loop-copy-preserved
loop-copy-preserved g c = record {
  moves = copies_ended c.args.copies.now.items c.loop-copy.copies.items c.pop.new.self.items c.in-Some.copy c.args.files.now c.loop-copy.files c.end.new.files (g.D.Dir.cells c.args.dir.now) (g.D.Dir.cells c.loop-copy.dir) (g.D.Dir.cells c.end.new.dir)
      (c.pop.ensures.items ∙ ap (λ (o : Option Job). c.pop.new.self.items ++ option_to_list o) c.in-Some.is) c.loop-copy.invariant.moves c.end.ensures.lets_go;
  later = omega (arith, c.loop-copy.invariant.later, c.end.ensures.later);
}
