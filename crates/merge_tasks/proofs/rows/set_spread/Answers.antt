use Rattle.std.proofs.Common.{◌∙◌, ap, List}
use Rattle.merge_tasks.specs.declared.tasks.OpenMerge.{OpenMerge}
use Rattle.merge_tasks.specs.Board.{merge_at}
use Rattle.merge_tasks.proofs.BoardRows.{row_written}
use Rattle.merge_tasks.proofs.rows.set_spread.Goals as goal

pub returns : goal.returns
returns c = row_written c.args.rows.now.items c.args.seg.0 c.place_of-at.result c.index_mut.result.now _ c.args.spread c.requires (c.place_of-at.ensures ∙ ap (λ (l : List OpenMerge). merge_at c.args.seg.0 l) c.as_slice.ensures.value) c.index_mut.ensures.value
