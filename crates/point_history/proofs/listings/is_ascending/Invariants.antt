use Rattle.std.proofs.Common.{◌≡◌, ◌-◌, drop}
use Rattle.file_names.specs.Names.{is_ascending}
use Rattle.point_history.proofs.listings.is_ascending.Given as goal

abbrev pub invariant-loop-i : goal.invariant-loop-i
invariant-loop-i l = is_ascending (drop (l.i - 1) l.names) ≡ is_ascending l.names
