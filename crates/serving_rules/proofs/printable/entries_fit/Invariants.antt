use Rattle.std.proofs.Common.{drop}
use Rattle.report_text.specs.Printed.{AllFit}
use Rattle.serving_rules.proofs.printable.entries_fit.Given as goal

abbrev pub invariant-loop-entry : goal.invariant-loop-entry
invariant-loop-entry l = AllFit (drop l.entry-index l.entry-items) → AllFit l.h.entries
