use Rattle.std.proofs.Common.{◌+◌, ◌-◌, refl, arith}
use Rattle.query_eval.proofs.PhraseLemmas.{phrase_start, phrase_counted, phrase_none, phrase_beyond, phrase_last}
use Rattle.query_eval.proofs.window.mark_phrase.Goals as goal

pub aligned-init : goal.aligned-init
aligned-init c = (omega arith, phrase_start c.args.start c.args.words.now c.args.times.now)

pub overflow_sub-place : goal.overflow_sub-place
overflow_sub-place c = let from = c.aligned.invariant.1.from in let up = c.in-Some.ensures.found.0 in omega (arith, from, up)

pub returns-then-place-ge64 : goal.returns-then-place-ge64
returns-then-place-ge64 c =
    let far = c.if-place-ge64.true in
    phrase_beyond c.args.start c.aligned.row c.in-Some.found c.args.words.now c.aligned.words c.align.new.words c.args.times.now c.aligned.times c.aligned.marks c.aligned.invariant.1 c.in-Some.ensures.found
    c.in-Some.ensures.fewer (omega (arith, far)) c.aligned.invariant.0

pub aligned-preserved : goal.aligned-preserved
aligned-preserved c =
    let near = c.if-place-ge64.false in (
      omega (arith, near),
      phrase_counted c.args.start c.aligned.row c.in-Some.found c.count_here-count.result (c.in-Some.found - c.args.start) c.in-Some-checked_add.next c.args.words.now c.aligned.words c.align.new.words
          c.count_here-count.new.words c.args.times.now c.aligned.times c.mark_row.new.times c.aligned.marks c.mark_row.new.marks c.aligned.invariant.1 c.in-Some.ensures.found c.in-Some.ensures.fewer
          c.count_here-count.ensures.times c.count_here-count.ensures.same refl c.mark_row.ensures (omega arith),
    )

pub returns : goal.returns
returns c =
    phrase_none c.args.start c.aligned.row c.args.words.now c.aligned.words c.align.new.words c.args.times.now c.aligned.times c.aligned.marks c.aligned.invariant.1 c.in_default.ensures.found c.in_default.ensures.fewer
    c.aligned.invariant.0

pub returns-in-None : goal.returns-in-None
returns-in-None c =
    let near = c.if-place-ge64.false in
    phrase_last c.args.start (c.in-Some.found + 1) c.args.words.now c.count_here-count.new.words c.args.times.now c.mark_row.new.times c.mark_row.new.marks
    (phrase_counted c.args.start c.aligned.row c.in-Some.found c.count_here-count.result (c.in-Some.found - c.args.start) (c.in-Some.found + 1) c.args.words.now c.aligned.words c.align.new.words
    c.count_here-count.new.words c.args.times.now c.aligned.times c.mark_row.new.times c.aligned.marks c.mark_row.new.marks c.aligned.invariant.1 c.in-Some.ensures.found c.in-Some.ensures.fewer
    c.count_here-count.ensures.times c.count_here-count.ensures.same refl c.mark_row.ensures refl) (omega arith) (omega (arith, near))
