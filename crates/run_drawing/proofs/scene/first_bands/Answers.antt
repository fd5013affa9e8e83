use Rattle.std.proofs.Common.{◌∷◌, ◌++◌, ◌+◌, ◌∙◌, [], sym, arith}
use Rattle.std.proofs.lemmas.List.FromFn.{map-range_with_len_more}
use Rattle.run_drawing.specs.Scenes.{band_of}
use Rattle.run_drawing.proofs.scene.first_bands.Goals as goal

pub loop-next-preserved : goal.loop-next-preserved
loop-next-preserved c =
    c.in_ok-push.ensures.items ∙ (λ i. c.loop-next.invariant i ++ c.first.ensures i ∷ [])
    ∙ sym (map-range_with_len_more (band_of []) 1 c.loop-next.next (c.loop-next.next + 1) (omega arith))
