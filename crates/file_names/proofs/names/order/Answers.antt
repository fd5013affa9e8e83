use Rattle.std.proofs.Common.{ℕ, List, [], drop, sym, ap, ◌∙◌, arith}
use Rattle.std.specs.Ordering.{nat_cmp}
use Rattle.std.specs.Cmp.Lexicographic.{slice_cmp}
use Rattle.std.proofs.lemmas.List.{drop_all}
use Rattle.file_names.proofs.WordLemmas.{word_decides, word_passes}
use Rattle.file_names.proofs.names.order.Goals as goal

pub word-first-requires : goal.word-first-requires
word-first-requires c = omega (arith, c.words-test.true, c.words.invariant.1)

pub word-second-requires : goal.word-second-requires
word-second-requires c = omega (arith, c.words-test.true, c.words.invariant.1)

pub words-preserved : goal.words-preserved
words-preserved c = (
  omega (arith, c.words-test.true, c.words.invariant.1),
  omega (arith, c.words.invariant.1),
  word_passes c.words.at c.args.a.now c.args.b.now (c.told-a ∙ sym c.told-b) c.fits-a c.fits-b c.word-first.result c.word-second.result c.word-first.ensures c.word-second.ensures c.if-first-second.false
      c.words.invariant.2,
)

pub returns-then-first-second : goal.returns-then-first-second
returns-then-first-second c =
    word_decides c.words.at c.args.a.now c.args.b.now (c.told-a ∙ sym c.told-b) c.fits-a c.fits-b c.word-first.result c.word-second.result c.cmp.result c.word-first.ensures c.word-second.ensures c.if-first-second.true
    c.cmp.ensures c.words.invariant.2

pub returns : goal.returns
returns c =
    sym (c.words.invariant.2 ∙ ap (λ (xs : List ℕ). slice_cmp nat_cmp xs (drop c.words.at c.args.b.now)) (drop_all c.words.at c.args.a.now (omega (arith, c.words-test.false)))
    ∙ ap (slice_cmp nat_cmp []) (drop_all c.words.at c.args.b.now (omega (arith, c.words-test.false))))
