use Rattle.std.proofs.Common.{◌≡◌, ◌≤◌, ◌*◌, length}
use Rattle.load_script.specs.Generated.{load_lines}
use Rattle.load_script.proofs.whole.generated.Given as goal

abbrev pub invariant-loop-i : goal.invariant-loop-i
invariant-loop-i l = record { lines : l.lines.items ≡ load_lines l.i; few : length l.lines.items ≤ 5 * l.i }
