use Rattle.std.proofs.Common.{◌<◌, ◌∙◌, ap, length, rules}
use Rattle.std.proofs.Math.ListN.{set}
use Rattle.std.proofs.lemmas.List.Edits.{map_over_more}
use Rattle.run_drawing.specs.declared.scene.Band.{Band}
use Rattle.run_drawing.specs.Scenes.{band_by}
use Rattle.run_drawing.proofs.scene.step_bands.Goals as goal

pub loop-i-preserved : goal.loop-i-preserved
loop-i-preserved c =
    let within : c.loop-i.i < length c.args.bands.now.items = search rules in
    ap (λ (band : Band). set c.loop-i.bands.items c.loop-i.i band) c.after.ensures
    ∙ map_over_more (band_by c.args.event.now c.args.primary c.args.place) c.args.bands.now.items c.loop-i.bands.items c.loop-i.i c.index.result.now within c.loop-i.invariant c.index.ensures
