use Rattle.std.proofs.Common.{◌≡◌, true, take}
use Rattle.std.specs.List.{list_all}
use Rattle.file_names.specs.Names.{is_file_name}
use Rattle.report_reading.proofs.widths.names_are_narrow.Given as goal

abbrev pub invariant-loop-name : goal.invariant-loop-name
invariant-loop-name l = list_all is_file_name (take l.name-index l.names) ≡ true
