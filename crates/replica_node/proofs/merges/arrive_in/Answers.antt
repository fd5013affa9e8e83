use Rattle.std.proofs.Common.{subst, sym, Option}
use Rattle.std.specs.Prelude.{IfSome}
use Rattle.copy_job.specs.Jobs.{Job}
use Rattle.replica_node.specs.Merges.{CanTakePart}
use Rattle.replica_node.specs.Moving.{PartComes}
use Rattle.replica_node.proofs.Merging.{item_is, within_slice, change_in}
use Rattle.replica_node.proofs.merges.arrive_in.Goals as goal

pub arrive_at-requires-clause-within : goal.arrive_at-requires-clause-within
arrive_at-requires-clause-within g c = within_slice c.args.number c.args.copies.now.items c.as_mut_slice.result.now c.as_slice.result.now c.place_of-at.result c.as_mut_slice.ensures.value c.as_slice.ensures.value c.place_of-at.ensures c.requires.runs

pub arrive_at-requires-clause-takes : goal.arrive_at-requires-clause-takes
arrive_at-requires-clause-takes g c =
    subst (λ (o : Option Job). IfSome o (CanTakePart c.args.part c.args.files.now)) (sym (item_is c.args.number c.args.copies.now.items c.as_mut_slice.result.now c.as_slice.result.now c.place_of-at.result c.as_mut_slice.ensures.value c.as_slice.ensures.value c.place_of-at.ensures)) c.requires.takes

pub returns-clause-copy : goal.returns-clause-copy
returns-clause-copy g c =
    change_in c.args.number c.args.copies.now.items c.as_mut_slice.result.now c.as_slice.result.now c.place_of-at.result c.as_mut_slice.ensures.value c.as_slice.ensures.value c.place_of-at.ensures
    (λ k now. PartComes k now c.args.part.name c.args.part.bytes c.args.files.now c.arrive_at.new.files (g.D.Dir.cells c.args.dir.now) (g.D.Dir.cells c.arrive_at.new.dir) c.arrive_at.result) c.args.copies.now.len c.arrive_at.new.copies c.as_mut_slice.ensures.len
    c.arrive_at.ensures.copy
