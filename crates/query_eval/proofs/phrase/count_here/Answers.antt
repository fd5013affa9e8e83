use Rattle.std.proofs.Common.{refl, ◌∙◌, arith}
use Rattle.query_eval.proofs.ReaderLemmas.{first_counts}
use Rattle.query_eval.proofs.phrase.count_here.Goals as goal

pub loop-place-init : goal.loop-place-init
loop-place-init c = record {
  same = refl;
  counted = let start = first_counts c.args.words.now c.in-Some.first.now c.into_iter-place-iterator.result c.in-Some.ensures.value (c.into_iter-place-iterator.ensures.into_iter_gives ∙ c.positions-place-items.ensures.value) in omega (arith, start);
}
