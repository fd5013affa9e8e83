use Rattle.std.proofs.Common.{◌≡◌, ◌∙◌, sym, ap, subst, Some, Option, List}
use Rattle.std.specs.Prelude.{IsSome}
use Rattle.merge_tasks.specs.declared.tasks.OpenMerge.{OpenMerge}
use Rattle.merge_tasks.specs.declared.tasks.Spread.{Spread}
use Rattle.merge_tasks.specs.declared.tasks.Sent.{Sent}
use Rattle.merge_tasks.specs.Board.{Board, open_merge, spread_at, with_spread, all_sent}
use Rattle.merge_tasks.proofs.BoardRows.{taken_open, all_rows}
use Rattle.merge_tasks.proofs.board.Tasks.post.Goals as goal

pub set_spread-requires : goal.set_spread-requires
set_spread-requires c = taken_open c.self.inside.rows.items c.take_spread.new.rows.items c.args.seg.0 (subst (λ (b : Board). IsSome (spread_at (open_merge c.args.seg.0 b.rows))) (sym c.self.view_is) c.requires) c.take_spread.ensures.rows

pub returns-clause-rows : goal.returns-clause-rows
returns-clause-rows c = all_rows c.self.inside.rows.items c.take_spread.new.rows.items c.set_spread.new.rows.items c.args.seg.0 c.in-Some.spread c.take_spread.ensures.rows c.in-Some.ensures.spread c.set_spread.ensures
    ∙ ap (λ (b : Board). with_spread c.args.seg.0 (all_sent (spread_at (open_merge c.args.seg.0 b.rows))) b.rows) c.self.view_is
