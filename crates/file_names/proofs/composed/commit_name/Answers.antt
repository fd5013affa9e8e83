use Rattle.std.proofs.Common.{◌≡◌, rules, ap, ◌∙◌, arith}
use Rattle.file_names.specs.Names.{is_file_name}
use Rattle.file_names.specs.Names.{commit_name_of}
use Rattle.file_names.proofs.NameLaws.{commit_name_is}
use Rattle.file_names.proofs.composed.commit_name.Goals as goal

pub finish-requires : goal.finish-requires
finish-requires c =
    let same : c.push-2.new.self ≡ commit_name_of c.args.n = search rules in
    ap is_file_name same ∙ commit_name_is c.args.n (omega arith)
