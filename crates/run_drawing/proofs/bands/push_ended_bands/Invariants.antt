use Rattle.std.proofs.Common.{◌≡◌, ◌++◌, drop}
use Rattle.std.specs.List.{flat_map}
use Rattle.run_drawing.specs.Drawing.{ended_band}
use Rattle.run_drawing.proofs.bands.push_ended_bands.Given as goal

abbrev pub invariant-loop-band : goal.invariant-loop-band
invariant-loop-band l =
    l.out.items ++ flat_map (ended_band l.page l.event l.heads l.place) (drop l.band-index l.bands)
    ≡ l.fn.out.items ++ flat_map (ended_band l.page l.event l.heads l.place) l.bands
