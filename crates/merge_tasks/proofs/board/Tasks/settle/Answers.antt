use Rattle.std.proofs.Common.{◌≡◌, ◌∙◌, sym, ap, subst, Some, Option, List}
use Rattle.std.specs.Prelude.{IsSome}
use Rattle.merge_tasks.specs.declared.tasks.OpenMerge.{OpenMerge}
use Rattle.merge_tasks.specs.declared.tasks.Spread.{Spread}
use Rattle.merge_tasks.specs.declared.tasks.Sent.{Sent}
use Rattle.merge_tasks.specs.Board.{Board, open_merge, spread_at, with_spread, without_sent, sent_less}
use Rattle.merge_tasks.proofs.BoardRows.{taken_open, settled_rows}
use Rattle.merge_tasks.proofs.board.Tasks.settle.Goals as goal

pub set_spread-requires : goal.set_spread-requires
set_spread-requires c = taken_open c.self.inside.rows.items c.take_spread.new.rows.items c.args.seg.0 (subst (λ (b : Board). IsSome (spread_at (open_merge c.args.seg.0 b.rows))) (sym c.self.view_is) c.requires) c.take_spread.ensures.rows

pub returns-clause-rows : goal.returns-clause-rows
returns-clause-rows c = settled_rows c.self.inside.rows.items c.take_spread.new.rows.items c.set_spread.new.rows.items c.args.seg.0 c.args.n.0 c.args.job c.in-Some.spread c.from_vec-left.result c.take_spread.ensures.rows c.in-Some.ensures.spread
    (c.from_vec-left.ensures ∙ c.leave_sent.ensures ∙ ap (λ (l : List Sent). without_sent c.args.n.0 c.args.job l) c.into_vec-left.ensures) c.set_spread.ensures
    ∙ ap (λ (b : Board). with_spread c.args.seg.0 (sent_less c.args.n.0 c.args.job (spread_at (open_merge c.args.seg.0 b.rows))) b.rows) c.self.view_is
