use Rattle.std.proofs.Common.{◌≡◌, true, take}
use Rattle.std.specs.List.{list_all}
use Rattle.report_reading.specs.Widths.{hit_is_narrow}
use Rattle.report_reading.proofs.widths.hits_are_narrow.Given as goal

abbrev pub invariant-loop-hit : goal.invariant-loop-hit
invariant-loop-hit l = list_all hit_is_narrow (take l.hit-index l.hits) ≡ true
