use Rattle.std.proofs.Common.{◌≡◌, drop}
use Rattle.std.specs.List.{list_all}
use Rattle.file_names.specs.Names.{is_file_name}
use Rattle.serving_rules.proofs.printable.names_fit.Given as goal

abbrev pub invariant-loop-name : goal.invariant-loop-name
invariant-loop-name l = list_all is_file_name (drop l.name-index l.names) ≡ list_all is_file_name l.names
