use Rattle.std.proofs.Common.{◌≡◌, rules, ap, ◌∙◌, arith, length}
use Rattle.file_names.specs.Names.{is_file_name}
use Rattle.file_names.specs.Names.{live_name_of}
use Rattle.file_names.proofs.NameLaws.{live_name_is, length-live_name-le}
use Rattle.file_names.proofs.composed.live_name.Goals as goal

pub finish-requires : goal.finish-requires
finish-requires c =
    let same : c.push-5.new.self ≡ live_name_of c.args.seg.0 c.args.live_gen = search rules in
    ap is_file_name same ∙ live_name_is c.args.seg.0 c.args.live_gen (omega arith) (omega arith)

pub returns-clause-len : goal.returns-clause-len
returns-clause-len c =
    let same : c.push-5.new.self ≡ live_name_of c.args.seg.0 c.args.live_gen = search rules in
    omega (arith, length-live_name-le c.args.seg.0 c.args.live_gen (omega arith) (omega arith), ap length (c.finish.ensures ∙ same))
