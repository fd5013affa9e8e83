use Rattle.std.proofs.Common.{◌≡◌, ℕ, ◌<◌, ◌≤◌, false, Option, sym, subst, ◌∙◌, arith}
use Rattle.std.specs.Prelude.{IfNone}
use Rattle.query_eval.specs.Cursor.{answers, rank_in}
use Rattle.query_eval.proofs.WindowLemmas.{seeking_start, seeking_more, seeking_found, seeking_none, seeking_past}
use Rattle.query_eval.proofs.cursor.next_start.Goals as goal

pub bounds-init : goal.bounds-init
bounds-init c = seeking_start (answers c.args.cursor.now) (rank_in c.args.cursor.now) c.args.row

pub bounds-preserved : goal.bounds-preserved
bounds-preserved c =
    seeking_more (answers c.args.cursor.now) (answers c.bounds.cursor) (answers c.bound_of.new.cursor) (rank_in c.args.cursor.now) (rank_in c.bounds.cursor) (rank_in c.bound_of.new.cursor)
    c.args.row c.bounds.least c.in_ok-bound.bound c.bounds.invariant c.in_ok-bound.ensures.bound

pub bounds-smaller : goal.bounds-smaller
bounds-smaller c =
    let up = c.in_ok-bound.ensures.bound.bound.0 in
    let other = c.if-bound-least.false in
    let more = c.bounds-test.true in
    omega (arith, up, other, more)

pub returns-then-bound-least-clause-start : goal.returns-then-bound-least-clause-start
returns-then-bound-least-clause-start c =
    seeking_found (answers c.args.cursor.now) (answers c.bounds.cursor) (rank_in c.args.cursor.now) (rank_in c.bounds.cursor) c.args.row c.args.rows c.bounds.least c.bounds.invariant c.bounds-test.true

pub returns-then-bound-least-clause-answers : goal.returns-then-bound-least-clause-answers
returns-then-bound-least-clause-answers c = λ x le. c.in_ok-bound.ensures.bound.rows_stay x le ∙ c.bounds.invariant.stays x le

pub returns-then-bound-least-clause-ranks : goal.returns-then-bound-least-clause-ranks
returns-then-bound-least-clause-ranks c = λ x le. c.in_ok-bound.ensures.bound.times_stay x le ∙ c.bounds.invariant.ranks_stay x le

pub returns-in_err-bound-clause-none : goal.returns-in_err-bound-clause-none
returns-in_err-bound-clause-none c =
    subst (λ (o : Option ℕ). IfNone o ((x : ℕ) → c.args.row ≤ x → x < c.args.rows → answers c.args.cursor.now x ≡ false)) (sym c.from_residual.ensures)
    (seeking_none (answers c.args.cursor.now) (answers c.bounds.cursor) (rank_in c.args.cursor.now) (rank_in c.bounds.cursor) c.args.row c.args.rows c.bounds.least c.bounds.invariant c.in_err-bound.ensures.bound.bound)

pub returns-clause-none : goal.returns-clause-none
returns-clause-none c =
    seeking_past (answers c.args.cursor.now) (answers c.bounds.cursor) (rank_in c.args.cursor.now) (rank_in c.bounds.cursor) c.args.row c.args.rows c.bounds.least c.bounds.invariant c.bounds-test.false
