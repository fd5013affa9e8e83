use Rattle.std.proofs.Common.{◌≡◌, ◌++◌, map, take, drop}
use Rattle.run_drawing.specs.Scenes.{band_by}
use Rattle.run_drawing.proofs.scene.step_bands.Given as goal

abbrev pub invariant-loop-i : goal.invariant-loop-i
invariant-loop-i l =
    l.bands.items ≡ map (band_by l.event l.primary l.place) (take l.i l.fn.bands.items) ++ drop l.i l.fn.bands.items
