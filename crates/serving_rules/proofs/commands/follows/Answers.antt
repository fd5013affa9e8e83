use Rattle.std.proofs.Common.{subst, sym, IsTrue, ◌↔◌}
use Rattle.script_serving.specs.declared.script.LineCommand.{LineCommand}
use Rattle.script_serving.specs.Serves.{Follows}
use Rattle.serving_rules.proofs.commands.follows.Goals as goal

pub returns-in-Publish : goal.returns-in-Publish
returns-in-Publish c =
    subst (λ (command : LineCommand). IsTrue c.follows_publish.result ↔ Follows command c.args.last.now c.args.event.now) (sym c.in-Publish.is) (c.follows_publish.ensures c.args.last.now)

pub returns-in-Settle : goal.returns-in-Settle
returns-in-Settle c =
    subst (λ (command : LineCommand). IsTrue c.follows_settle.result ↔ Follows command c.args.last.now c.args.event.now) (sym c.in-Settle.is) (c.follows_settle.ensures c.args.last.now)

pub returns-in-Search : goal.returns-in-Search
returns-in-Search c =
    subst (λ (command : LineCommand). IsTrue c.follows_search.result ↔ Follows command c.args.last.now c.args.event.now) (sym c.in-Search.is) (c.follows_search.ensures c.args.last.now)

pub returns-in-Ask : goal.returns-in-Ask
returns-in-Ask c =
    subst (λ (command : LineCommand). IsTrue c.follows_ask.result ↔ Follows command c.args.last.now c.args.event.now) (sym c.in-Ask.is) (c.follows_ask.ensures c.args.last.now)

pub returns-in-Commit : goal.returns-in-Commit
returns-in-Commit c =
    subst (λ (command : LineCommand). IsTrue c.follows_commit.result ↔ Follows command c.args.last.now c.args.event.now) (sym c.in-Commit.is) (c.follows_commit.ensures c.args.last.now)
