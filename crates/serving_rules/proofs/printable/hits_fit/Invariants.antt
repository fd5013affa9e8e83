use Rattle.std.proofs.Common.{◌≡◌, drop}
use Rattle.std.specs.List.{list_all}
use Rattle.report_text.specs.Printed.{hit_fits}
use Rattle.serving_rules.proofs.printable.hits_fit.Given as goal

abbrev pub invariant-loop-hit : goal.invariant-loop-hit
invariant-loop-hit l = list_all hit_fits (drop l.hit-index l.hits) ≡ list_all hit_fits l.hits
