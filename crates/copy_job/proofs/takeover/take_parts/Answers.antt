use Rattle.std.proofs.Common.{◌-◌, ◌∙◌, ap, arith, length, take, length-append, length-take}
use Rattle.copy_job.specs.Parts.{present_names}
use Rattle.copy_job.proofs.Naming.{length-present_names}
use Rattle.copy_job.proofs.Taking.{room_next, took_more}
use Rattle.copy_job.proofs.takeover.take_parts.Goals as goal

pub take_or_leave-kept-requires-clause-parts_room : goal.take_or_leave-kept-requires-clause-parts_room
take_or_leave-kept-requires-clause-parts_room c is_wanted =
    let room = room_next c.args.wants.missing.now c.args.wants.had.now c.args.wants.wanted.now c.args.older.now c.loop-part.part-index c.part-item.result c.loop-part-test.true c.part-item.is
    c.requires.once c.loop-part.parts.items c.loop-part.invariant.took.parts_are c.is_wanted-wanted.result c.is_wanted-wanted.ensures is_wanted in
    omega (arith, room, c.requires.parts_room, c.loop-part.invariant.parts_capacity)

pub take_or_leave-kept-requires-clause-names_room : goal.take_or_leave-kept-requires-clause-names_room
take_or_leave-kept-requires-clause-names_room c is_wanted =
    let room = room_next c.args.wants.missing.now c.args.wants.had.now c.args.wants.wanted.now c.args.older.now c.loop-part.part-index c.part-item.result c.loop-part-test.true c.part-item.is
    c.requires.once c.loop-part.parts.items c.loop-part.invariant.took.parts_are c.is_wanted-wanted.result c.is_wanted-wanted.ensures is_wanted in
    omega (arith, room, c.requires.names_room, c.loop-part.invariant.names_capacity, ap length c.loop-part.invariant.took.names_are, length-append c.args.names.now.items (present_names c.loop-part.parts.items), length-present_names c.loop-part.parts.items)

pub loop-part-preserved : goal.loop-part-preserved
loop-part-preserved c =
    let first = length c.args.others.now.items - length c.args.older.now in
    let was = c.loop-part.invariant.took in
    record {
      took = took_more c.args.wants.missing.now c.args.wants.had.now c.args.wants.wanted.now c.args.older.now c.loop-part.part-index c.part-item.result c.loop-part-test.true c.part-item.is
          c.args.names.now.items (take first c.args.others.now.items) c.loop-part.parts.items c.take_or_leave-kept.new.parts.items c.loop-part.names.items c.take_or_leave-kept.new.names.items c.loop-part.others.items c.take_or_leave-kept.new.others.items
          c.loop-part.kept c.take_or_leave-kept.result c.is_wanted-wanted.result c.is_wanted-wanted.ensures
          (omega (arith, was.kept_is, length-take c.loop-part.part-index c.args.older.now, c.loop-part-test.true, length-take first c.args.others.now.items, c.loop-part.invariant.long, c.requires.long)) was c.take_or_leave-kept.ensures.goes;
      long = c.take_or_leave-kept.ensures.long ∙ c.loop-part.invariant.long;
      parts_capacity = omega (arith, c.take_or_leave-kept.ensures.parts_capacity, c.loop-part.invariant.parts_capacity);
      names_capacity = omega (arith, c.take_or_leave-kept.ensures.names_capacity, c.loop-part.invariant.names_capacity);
    }
