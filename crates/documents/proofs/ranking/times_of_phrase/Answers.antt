use Rattle.std.proofs.Common.{arith}
use Rattle.documents.proofs.RankLemmas.{one_place}
use Rattle.documents.proofs.ranking.times_of_phrase.Goals as goal
use Rattle.documents.proofs.ranking.times_of_phrase.Goals.{then-starts_with, else-starts_with}

pub loop-i-preserved : goal.loop-i-preserved
loop-i-preserved c =
    let place = one_place c.args.phrase.now c.args.words.now c.loop-i.i c.loop-i.times c.if-starts_with.times _ c.starts_with.result c.loop-i-test.true c.starts_with.ensures.value in
    let told = c.loop-i.invariant.told in
    let few = c.loop-i.invariant.few in
    elim c.if-starts_with.branch [
      | then-starts_with w ↦ record { told = place (rw w.if-starts_with.true w.times-is) told; few = omega (arith, few, w.times-is) }
      | else-starts_with w ↦ record { told = place (rw w.if-starts_with.false (omega (arith, w.times-is))) told; few = omega (arith, few, w.times-is) }
    ]
