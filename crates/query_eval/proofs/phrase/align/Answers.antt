use Rattle.std.proofs.Common.{ℕ, Option, sym, subst}
use Rattle.query_eval.specs.Phrases.{AreAligned}
use Rattle.query_eval.proofs.PhraseLemmas.{aligning_start, aligning_more, aligned_none, aligned_found}
use Rattle.query_eval.proofs.phrase.align.Goals as goal

pub loop-found-init : goal.loop-found-init
loop-found-init c = aligning_start c.args.words.now c.args.row

pub returns-in_err-found-clause-found : goal.returns-in_err-found-clause-found
returns-in_err-found-clause-found c =
    subst (λ (o : Option ℕ). AreAligned c.args.words.now c.pass.new.words c.args.row o) (sym c.from_residual.ensures)
    (aligned_none c.args.words.now c.loop-found.words c.pass.new.words c.args.row c.loop-found.least c.loop-found.invariant c.in_err-found.ensures.found)

pub returns-then-found-least-clause-found : goal.returns-then-found-least-clause-found
returns-then-found-least-clause-found c =
    aligned_found c.args.words.now c.loop-found.words c.pass.new.words c.args.row c.loop-found.least c.in_ok-found.found c.loop-found.invariant c.in_ok-found.ensures.found c.in_ok-found.ensures.fewer
    c.if-found-least.true

pub loop-found-preserved : goal.loop-found-preserved
loop-found-preserved c =
    aligning_more c.args.words.now c.loop-found.words c.pass.new.words c.args.row c.loop-found.least c.in_ok-found.found c.loop-found.invariant c.in_ok-found.ensures.found c.in_ok-found.ensures.fewer
