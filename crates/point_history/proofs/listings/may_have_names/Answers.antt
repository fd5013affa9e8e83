use Rattle.std.proofs.Common.{◌≡◌, take, reverse, refl, subst, sym, ◌∙◌, arith}
use Rattle.std.specs.List.{All}
use Rattle.std.proofs.lemmas.List.{take_all}
use Rattle.std.proofs.lemmas.List.Elements.{All-more}
use Rattle.history_rules.specs.Rules.{MayHaveName}
use Rattle.point_history.proofs.listings.may_have_names.Goals as goal

pub returns-then-not-may_have_name : goal.returns-then-not-may_have_name
returns-then-not-may_have_name c =
    let P = MayHaveName (reverse c.args.entries.now) in
    (λ h. absurd cc, λ all. sym c.if-not-may_have_name.true ∙ c.may_have_name.ensures.1 (subst P (sym c.name-item.is) (all c.loop-name.name-index c.name-item.result c.loop-name-test.true)))

pub loop-name-preserved : goal.loop-name-preserved
loop-name-preserved c =
    let P = MayHaveName (reverse c.args.entries.now) in
    All-more P c.args.names.now c.loop-name.name-index c.name-item.result c.loop-name-test.true c.loop-name.invariant
    (subst P c.name-item.is (c.may_have_name.ensures.0 c.if-not-may_have_name.false))

pub returns : goal.returns
returns c =
    let P = MayHaveName (reverse c.args.entries.now) in
    let whole : take c.loop-name.name-index c.args.names.now ≡ c.args.names.now = take_all c.loop-name.name-index c.args.names.now (omega arith) in
    (λ h. subst (All P) whole c.loop-name.invariant, λ h. refl)
