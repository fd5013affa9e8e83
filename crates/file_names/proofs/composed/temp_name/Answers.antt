use Rattle.std.proofs.Common.{◌≡◌, rules, ap, ◌∙◌, arith}
use Rattle.file_names.specs.Names.{is_file_name}
use Rattle.file_names.specs.Names.{temp_name_of}
use Rattle.file_names.proofs.NameLaws.{temp_name_is}
use Rattle.file_names.proofs.composed.temp_name.Goals as goal

pub finish-requires : goal.finish-requires
finish-requires c =
    let same : c.push-4.new.self ≡ temp_name_of c.args.name.now c.args.job = search rules in
    ap is_file_name same ∙ temp_name_is c.args.name.now c.args.job c.as_slice.ensures.kind c.requires (omega arith)
