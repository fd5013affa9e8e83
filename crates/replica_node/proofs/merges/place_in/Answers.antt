use Rattle.std.proofs.Common.{subst, sym, Option}
use Rattle.std.specs.Prelude.{IfSome}
use Rattle.copy_job.specs.Parts.{ArePlaceable}
use Rattle.copy_job.specs.Jobs.{Job}
use Rattle.replica_node.specs.Moving.{PartsPlaced}
use Rattle.replica_node.proofs.Merging.{item_is, within_slice, change_in}
use Rattle.replica_node.proofs.merges.place_in.Goals as goal

pub place_at-requires-clause-within : goal.place_at-requires-clause-within
place_at-requires-clause-within g c = within_slice c.args.number c.args.copies.now.items c.as_mut_slice.result.now c.as_slice.result.now c.place_of-at.result c.as_mut_slice.ensures.value c.as_slice.ensures.value c.place_of-at.ensures c.requires.runs

pub place_at-requires-clause-placeable : goal.place_at-requires-clause-placeable
place_at-requires-clause-placeable g c =
    subst (λ (o : Option Job). IfSome o (λ k. ArePlaceable c.args.files.now k.parts)) (sym (item_is c.args.number c.args.copies.now.items c.as_mut_slice.result.now c.as_slice.result.now c.place_of-at.result c.as_mut_slice.ensures.value c.as_slice.ensures.value c.place_of-at.ensures)) c.requires.placeable

pub returns-clause-copy : goal.returns-clause-copy
returns-clause-copy g c =
    change_in c.args.number c.args.copies.now.items c.as_mut_slice.result.now c.as_slice.result.now c.place_of-at.result c.as_mut_slice.ensures.value c.as_slice.ensures.value c.place_of-at.ensures
    (λ k now. PartsPlaced k now c.args.files.now c.place_at.new.files (g.D.Dir.cells c.args.dir.now) (g.D.Dir.cells c.place_at.new.dir) c.place_at.result) c.args.copies.now.len c.place_at.new.copies c.as_mut_slice.ensures.len
    c.place_at.ensures.copy
