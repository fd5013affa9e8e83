use Rattle.std.proofs.Common.{◌≡◌, ◌++◌}
use Rattle.std.specs.List.{flat_map, range_with_len}
use Rattle.run_picture.specs.Picture.{heading_text}
use Rattle.run_picture.proofs.rows.push_headings.Given as goal

abbrev pub invariant-loop-next : goal.invariant-loop-next
invariant-loop-next l = l.out.items ≡ l.fn.out.items ++ flat_map (heading_text l.width) (range_with_len 1 l.next)
