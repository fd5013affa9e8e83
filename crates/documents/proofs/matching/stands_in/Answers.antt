use Rattle.std.proofs.Common.{◌∙◌, sym}
use Rattle.documents.proofs.MatchingLemmas.{stands_behind}
use Rattle.documents.proofs.matching.stands_in.Goals as goal

pub loop-i-preserved : goal.loop-i-preserved
loop-i-preserved c =
    stands_behind c.args.phrase.now c.args.words.now c.loop-i.i c.loop-i-test.true (sym c.starts_with.ensures.value ∙ c.if-starts_with.false)
    ∙ c.loop-i.invariant
