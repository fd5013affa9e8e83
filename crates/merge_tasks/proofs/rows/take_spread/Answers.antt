use Rattle.std.proofs.Common.{◌∙◌, ap, sym, List, Option}
use Rattle.merge_tasks.specs.declared.tasks.OpenMerge.{OpenMerge}
use Rattle.merge_tasks.specs.declared.tasks.Spread.{Spread}
use Rattle.merge_tasks.specs.Board.{merge_at, spread_at, with_spread}
use Rattle.merge_tasks.proofs.BoardRows.{row_read, row_written}
use Rattle.merge_tasks.proofs.rows.take_spread.Goals as goal

pub returns-clause-spread : goal.returns-clause-spread
returns-clause-spread c = c.take.ensures.value ∙ sym (ap spread_at (row_read c.args.rows.now.items c.args.seg.0 c.place_of-at.result c.index_mut.result.now _ c.requires (c.place_of-at.ensures ∙ ap (λ (l : List OpenMerge). merge_at c.args.seg.0 l) c.as_slice.ensures.value) c.index_mut.ensures.value))

pub returns-clause-rows : goal.returns-clause-rows
returns-clause-rows c = row_written c.args.rows.now.items c.args.seg.0 c.place_of-at.result c.index_mut.result.now _ c.take.new.self c.requires (c.place_of-at.ensures ∙ ap (λ (l : List OpenMerge). merge_at c.args.seg.0 l) c.as_slice.ensures.value) c.index_mut.ensures.value
    ∙ ap (λ (s : Option Spread). with_spread c.args.seg.0 s c.args.rows.now.items) c.take.ensures.after
