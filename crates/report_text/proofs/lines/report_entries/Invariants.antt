use Rattle.std.proofs.Common.{◌≡◌, ◌++◌, drop}
use Rattle.std.specs.List.{flat_map}
use Rattle.report_text.specs.Texts.{text_of_entry}
use Rattle.report_text.proofs.lines.report_entries.Given as goal

abbrev pub invariant-loop-entry : goal.invariant-loop-entry
invariant-loop-entry l = l.out.items ++ flat_map text_of_entry (drop l.entry-index l.entries) ≡ flat_map text_of_entry l.entries
