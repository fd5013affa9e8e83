use Rattle.std.proofs.Common.{◌<◌, ◌∙◌, ap, length, rules}
use Rattle.std.proofs.Math.ListN.{set}
use Rattle.std.proofs.lemmas.List.Edits.{map_over_more}
use Rattle.run_picture.specs.declared.shown.NodeView.{NodeView}
use Rattle.run_picture.specs.Views.{view_by}
use Rattle.run_picture.proofs.shown.step_views.Goals as goal

pub loop-i-preserved : goal.loop-i-preserved
loop-i-preserved c =
    let within : c.loop-i.i < length c.args.views.now.items = search rules in
    ap (λ (view : NodeView). set c.loop-i.views.items c.loop-i.i view) c.after.ensures
    ∙ map_over_more (view_by c.args.event.now c.args.primary) c.args.views.now.items c.loop-i.views.items c.loop-i.i c.index.result.now within c.loop-i.invariant c.index.ensures
