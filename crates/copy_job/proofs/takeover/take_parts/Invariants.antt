use Rattle.std.proofs.Common.{◌≡◌, ◌≤◌, ◌-◌, length, take}
use Rattle.std.specs.Vec.{vec_capacity}
use Rattle.copy_job.proofs.Taking.{Took}
use Rattle.copy_job.proofs.takeover.take_parts.Given as goal

-- the parts so far were taken over, or their names are to be given back
abbrev pub invariant-loop-part : goal.invariant-loop-part
invariant-loop-part l = record {
  took : Took l.wants.missing.now l.wants.had.now l.wants.wanted.now (take l.part-index l.older) l.initial.names.items (take (length l.initial.others.items - length l.older) l.initial.others.items)
      l.parts.items l.names.items l.others.items l.kept;
  long : length l.others.items ≡ length l.initial.others.items;
  parts_capacity : vec_capacity l.initial.parts ≤ vec_capacity l.parts;
  names_capacity : vec_capacity l.initial.names ≤ vec_capacity l.names;
}
