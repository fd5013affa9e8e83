use Rattle.std.proofs.Common.{rules}
use Rattle.std.specs.Prelude.{not}
use Rattle.std.proofs.lemmas.Fn.{filter_same}
use Rattle.run_drawing.specs.Scenes.{is_over}
use Rattle.run_drawing.specs.declared.scene.OpenBar.{OpenBar}
use Rattle.run_drawing.proofs.scene.end_bars.Goals as goal

pub returns : goal.returns
returns c = filter_same _ (λ (bar : OpenBar). not (is_over c.args.entry.now bar)) _ (λ x b g h. search rules) _ _ c.retain.ensures.filtered
