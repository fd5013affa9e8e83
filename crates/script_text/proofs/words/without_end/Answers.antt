use Rattle.std.proofs.Common.{◌≡◌, ◌++◌, ◌∷◌, [], ◌∙◌}
use Rattle.script_text.proofs.WordLemmas.{cut_at, kept_at}
use Rattle.script_text.proofs.words.without_end.Goals as goal

pub loop-last-preserved : goal.loop-last-preserved
loop-last-preserved c =
    let split : c.loop-last.left.now ≡ c.in-Some.front.now ++ (c.in-Some.last.now ∷ []) = c.in-Some.ensures.cases.0 in
    cut_at c.loop-last.left.now c.in-Some.front.now c.in-Some.last.now split c.if-last-ne32.false ∙ c.loop-last.invariant

pub returns-then-last-ne32 : goal.returns-then-last-ne32
returns-then-last-ne32 c =
    let split : c.loop-last.left.now ≡ c.in-Some.front.now ++ (c.in-Some.last.now ∷ []) = c.in-Some.ensures.cases.0 in
    kept_at c.loop-last.left.now c.in-Some.front.now c.in-Some.last.now split c.if-last-ne32.true ∙ c.loop-last.invariant
