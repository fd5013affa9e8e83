use Rattle.std.proofs.Common.{◌≡◌, subst, sym, reverse}
use Rattle.script_serving.specs.declared.script.LineCommand.{LineCommand}
use Rattle.script_serving.specs.Refusals.{may_be_refused}
use Rattle.serving_rules.proofs.refusals.may_be_refused.Goals as goal

pub returns-in-Publish : goal.returns-in-Publish
returns-in-Publish c =
    subst (λ (command : LineCommand). c.may_refuse_publish.result ≡ may_be_refused command c.args.at (reverse c.args.entries.now) c.args.cause.now)
    (sym c.in-Publish.is) (c.may_refuse_publish.ensures c.args.at)

pub returns-in-Merge : goal.returns-in-Merge
returns-in-Merge c =
    subst (λ (command : LineCommand). c.may_refuse_merge.result ≡ may_be_refused command c.args.at (reverse c.args.entries.now) c.args.cause.now)
    (sym c.in-Merge.is) (c.may_refuse_merge.ensures c.in-Merge.field-0 c.args.at)
