use Rattle.std.proofs.Common.{◌≡◌, rules, ap, ◌∙◌, arith, length}
use Rattle.file_names.specs.Names.{is_file_name}
use Rattle.file_names.specs.Names.{part_name_of}
use Rattle.file_names.proofs.NameLaws.{part_name_is, length-part_name-le}
use Rattle.file_names.proofs.composed.part_name.Goals as goal

pub finish-requires : goal.finish-requires
finish-requires c =
    let same : c.push-3.new.self ≡ part_name_of c.args.seg.0 c.args.part = search rules in
    ap is_file_name same ∙ part_name_is c.args.seg.0 c.args.part (omega arith)

pub returns-clause-len : goal.returns-clause-len
returns-clause-len c =
    let same : c.push-3.new.self ≡ part_name_of c.args.seg.0 c.args.part = search rules in
    omega (arith, length-part_name-le c.args.seg.0 c.args.part (omega arith), ap length (c.finish.ensures ∙ same))
