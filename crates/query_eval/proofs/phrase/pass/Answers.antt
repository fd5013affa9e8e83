use Rattle.std.proofs.Common.{ℕ, ◌+◌, Option, get_or, set, refl, sym, ap, subst, arith}
use Rattle.query_eval.specs.Phrases.{IsPass}
use Rattle.query_eval.proofs.PassLemmas.{pass_start, pass_more, pass_none, pass_fewer, pass_found_fewer}
use Rattle.query_eval.proofs.phrase.pass.Goals as goal

pub loop-word-init : goal.loop-word-init
loop-word-init c = pass_start c.args.words.now c.args.row

pub returns-in_err-at-clause-found : goal.returns-in_err-at-clause-found
returns-in_err-at-clause-found c =
    subst (λ (o : Option ℕ). IsPass c.args.words.now (set c.loop-word.words c.loop-word.word-index c.next_from.new.self) c.args.row o) (sym c.from_residual.ensures)
    (pass_none c.loop-word.word-index c.args.words.now c.loop-word.words c.args.row c.loop-word.at (get_or c.loop-word.words c.loop-word.word-index c.word-item.result) c.loop-word.invariant (omega arith) (ap (get_or c.loop-word.words c.loop-word.word-index) c.word-item.is) c.in_err-at.ensures.none)

pub returns-in_err-at-clause-fewer : goal.returns-in_err-at-clause-fewer
returns-in_err-at-clause-fewer c =
    pass_fewer c.loop-word.word-index c.args.words.now c.loop-word.words c.args.row c.loop-word.at (get_or c.loop-word.words c.loop-word.word-index c.word-item.result) c.next_from.new.self c.loop-word.invariant (omega arith) (ap (get_or c.loop-word.words c.loop-word.word-index) c.word-item.is) c.next_from.ensures.left

pub loop-word-preserved : goal.loop-word-preserved
loop-word-preserved c =
    pass_more c.loop-word.word-index (c.loop-word.word-index + 1) c.args.words.now c.loop-word.words c.args.row c.loop-word.at c.in_ok-at.at (get_or c.loop-word.words c.loop-word.word-index c.word-item.result) c.next_from.new.self
    c.loop-word.invariant (omega arith) (ap (get_or c.loop-word.words c.loop-word.word-index) c.word-item.is) refl c.next_from.ensures.left c.in_ok-at.ensures.found (sym c.in_ok-at.ensures.answer)

pub returns-clause-fewer : goal.returns-clause-fewer
returns-clause-fewer c = pass_found_fewer c.loop-word.word-index c.args.words.now c.loop-word.words c.args.row c.loop-word.at c.loop-word.invariant
