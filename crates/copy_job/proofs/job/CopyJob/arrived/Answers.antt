use Rattle.std.proofs.Common.{◌<◌, sym, subst, arith}
use Rattle.file_deleter.specs.Holdings.{times}
use Rattle.copy_job.specs.declared.part.JobPart.{JobPart}
use Rattle.copy_job.specs.Jobs.{Job}
use Rattle.copy_job.proofs.Kept.{short_missing, job_arrived, part_added, moves_added, has_room, room_left, one_longer, names_suffice, length-names}
use Rattle.copy_job.proofs.job.CopyJob.arrived.Goals as goal

pub temp_name-requires : goal.temp_name-requires
temp_name-requires g c = short_missing _ c.args.part.name c.self.invariant.1 (subst (λ (j : Job). 0 < times j.missing c.args.part.name) (sym c.self.view_is) c.requires.missing)

pub put_part-requires-clause-parts_room : goal.put_part-requires-clause-parts_room
put_part-requires-clause-parts_room g c = has_room c.self.inside.missing.items c.args.part.name _ _ (subst (λ (j : Job). 0 < times j.missing c.args.part.name) (sym c.self.view_is) c.requires.missing) c.self.invariant.2

pub put_part-requires-clause-names_room : goal.put_part-requires-clause-names_room
put_part-requires-clause-names_room g c = has_room c.self.inside.missing.items c.args.part.name _ _ (subst (λ (j : Job). 0 < times j.missing c.args.part.name) (sym c.self.view_is) c.requires.missing) c.self.invariant.3

pub put_part-requires-clause-long : goal.put_part-requires-clause-long
put_part-requires-clause-long g c = names_suffice c.self.inside.names.items c.self.inside.reused c.self.inside.parts.items c.self.invariant.0

pub invariant_of-self : goal.invariant_of-self
invariant_of-self g c =
    let part : JobPart = record { own = c.args.part.name; now = c.temp_name.result } in
    let some : 0 < times c.self.inside.missing.items c.args.part.name = subst (λ (j : Job). 0 < times j.missing c.args.part.name) (sym c.self.view_is) c.requires.missing in
    let names = c.put_part.ensures.names c.self.inside.reused c.self.invariant.0 in
    let longer = one_longer part c.self.inside.parts.items c.put_part.new.parts.items c.put_part.ensures.parts in (
      names,
      job_arrived _ part c.strike.new.names.items c.put_part.new.parts.items c.self.invariant.1 some c.strike.ensures c.put_part.ensures.parts,
      room_left c.self.inside.missing.items c.strike.new.names.items c.args.part.name _ _ _ _ some c.strike.ensures longer c.put_part.ensures.parts_capacity c.self.invariant.2,
      room_left c.self.inside.missing.items c.strike.new.names.items c.args.part.name _ _ _ _ some c.strike.ensures
          (omega (arith, longer, length-names c.self.inside.names.items c.self.inside.reused c.self.inside.parts.items c.self.invariant.0, length-names c.put_part.new.names.items c.self.inside.reused c.put_part.new.parts.items names))
          c.put_part.ensures.names_capacity c.self.invariant.3,
    )

pub returns-in-Ok-clause-ok : goal.returns-in-Ok-clause-ok
returns-in-Ok-clause-ok g c =
    part_added _ c.args.self.now c.args.part.name c.temp_name.result c.strike.new.names.items c.put_part.new.parts.items c.self.view_is c.temp_name.ensures c.strike.ensures c.put_part.ensures.parts

pub returns-in-Ok-clause-moves : goal.returns-in-Ok-clause-moves
returns-in-Ok-clause-moves g c =
    moves_added _ c.args.self.now c.in-Ok.field-0 c.args.part.bytes c.args.files.now c.create.new.self _ _ c.put_part.new.parts.items c.strike.new.names.items c.args.part.name c.temp_name.result
    c.self.view_is c.temp_name.ensures c.in-Ok.ensures.creates c.put_part.ensures.parts
