use Rattle.std.proofs.Common.{arith}
use Rattle.copy_job.proofs.Kept.{names_suffice, own_placed, job_placed, length-names}
use Rattle.copy_job.proofs.job.CopyJob.place.Goals as goal

pub place-requires-clause-names : goal.place-requires-clause-names
place-requires-clause-names g c = names_suffice c.self.inside.names.items c.self.inside.reused c.self.inside.parts.items c.self.invariant.0

pub invariant_of-self : goal.invariant_of-self
invariant_of-self g c =
    let names = c.place.ensures.names c.self.inside.reused c.self.invariant.0 in
    let was = length-names c.self.inside.names.items c.self.inside.reused c.self.inside.parts.items c.self.invariant.0 in
    let now = length-names c.place.new.names.items c.self.inside.reused c.place.new.parts.items names in (
      names,
      job_placed _ c.place.new.parts.items (own_placed c.place.result _ _ _ _ c.self.inside.parts.items c.place.new.parts.items c.place.ensures.ok c.place.ensures.err) c.self.invariant.1,
      omega (arith, was, now, c.place.ensures.long, c.place.ensures.parts_capacity, c.self.invariant.2),
      omega (arith, c.place.ensures.long, c.place.ensures.names_capacity, c.self.invariant.3),
    )
