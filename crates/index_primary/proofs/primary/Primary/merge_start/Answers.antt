use Rattle.std.proofs.Common.{Option, refl, subst}
use Rattle.std.specs.Prelude.{MatchOption}
use Rattle.merge_choice.specs.Choice.{HasNoRange}
use Rattle.segment_steps.specs.declared.starting.MergeStart.{MergeStart}
use Rattle.index_primary.specs.StartCalls.{merge_sizes, IsChosen}
use Rattle.index_primary.proofs.primary.Primary.merge_start.Goals as goal

pub returns-in-Ok-None-clause-answers : goal.returns-in-Ok-None-clause-answers
returns-in-Ok-None-clause-answers g c = rw (← c.self.view_is)
    ((subst (λ (o : Option MergeStart). MatchOption o (HasNoRange c.args.factor (merge_sizes c.self.inside.parts)) (IsChosen c.args.factor c.self.inside.parts)) c.in-Ok-None.field-0-is c.in-Ok-None.ensures, refl))

pub begin-requires-clause-start : goal.begin-requires-clause-start
begin-requires-clause-start g c = subst (λ (o : Option MergeStart). MatchOption o (HasNoRange c.args.factor (merge_sizes c.self.inside.parts)) (IsChosen c.args.factor c.self.inside.parts)) c.in-Ok-Some.field-0-is c.in-Ok-Some.ensures

pub returns-then-self-eq-OF_GENERATION-clause-answers : goal.returns-then-self-eq-OF_GENERATION-clause-answers
returns-then-self-eq-OF_GENERATION-clause-answers g c = rw (← c.self.view_is)
    (let start = subst (λ (o : Option MergeStart). MatchOption o (HasNoRange c.args.factor (merge_sizes c.self.inside.parts)) (IsChosen c.args.factor c.self.inside.parts)) c.in-Ok-Some.field-0-is c.in-Ok-Some.ensures in
    ((start.from, start.first), c.if-self-eq-OF_GENERATION.true, refl))

pub returns-clause-answers : goal.returns-clause-answers
returns-clause-answers g c = rw (← c.self.view_is)
    (c.in-Ok.ensures.starts)
