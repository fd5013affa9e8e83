use Rattle.std.proofs.Common.{◌≡◌, ◌+◌, ◌-◌, length, refl, rules}
use Rattle.std.specs.Prelude.{insert}
use Rattle.copy_job.proofs.Naming.{names_put}
use Rattle.copy_job.proofs.part.put_part.Goals as goal

pub returns-clause-names : goal.returns-clause-names
returns-clause-names c front was =
    let put : c.insert.new.self.items ≡ insert c.args.names.now.items (length c.as_slice-2.result.now - length c.as_slice-3.result.now + c.parts_below-place.result) c.args.part.now = search rules in
    let parts : c.insert-2.new.self.items ≡ insert c.args.parts.now.items c.parts_below-place.result c.args.part = search rules in
    names_put c.args.names.now.items c.insert.new.self.items front c.as_slice-2.result.now c.args.parts.now.items c.insert-2.new.self.items c.as_slice-3.result.now c.parts_below-place.result (length c.as_slice-2.result.now - length c.as_slice-3.result.now) c.args.part
    c.as_slice-2.ensures.value c.as_slice-3.ensures.value refl put parts was
