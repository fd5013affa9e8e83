use Rattle.std.proofs.Common.{◌≡◌, ◌++◌, drop}
use Rattle.std.specs.List.{flat_map}
use Rattle.run_drawing.specs.Drawing.{band_text}
use Rattle.run_drawing.proofs.bands.push_bands.Given as goal

abbrev pub invariant-loop-band : goal.invariant-loop-band
invariant-loop-band l =
    l.out.items ++ flat_map (band_text l.page l.heads l.place) (drop l.band-index l.bands)
    ≡ l.fn.out.items ++ flat_map (band_text l.page l.heads l.place) l.bands
