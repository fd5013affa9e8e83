use Rattle.std.proofs.Common.{◌≡◌, map, []}
use Rattle.std.specs.List.{range_with_len}
use Rattle.run_drawing.specs.Scenes.{band_of}
use Rattle.run_drawing.proofs.scene.first_bands.Given as goal

abbrev pub invariant-loop-next : goal.invariant-loop-next
invariant-loop-next l = l.bands.items ≡ map (band_of []) (range_with_len 1 l.next)
