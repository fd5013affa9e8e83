use Rattle.std.proofs.Common.{subst, sym, reverse, IsTrue, ◌↔◌}
use Rattle.script_serving.specs.declared.script.LineCommand.{LineCommand}
use Rattle.script_serving.specs.Serves.{Begins}
use Rattle.serving_rules.proofs.commands.begins.Goals as goal

pub returns-in-Put : goal.returns-in-Put
returns-in-Put c =
    subst (λ (command : LineCommand). IsTrue c.is_put_begun.result ↔ Begins command (reverse c.args.entries.now) c.args.event.now) (sym c.in-Put.is) (c.is_put_begun.ensures (reverse c.args.entries.now))

pub returns-in-Delete : goal.returns-in-Delete
returns-in-Delete c =
    subst (λ (command : LineCommand). IsTrue c.is_delete_begun.result ↔ Begins command (reverse c.args.entries.now) c.args.event.now) (sym c.in-Delete.is) (c.is_delete_begun.ensures (reverse c.args.entries.now))

pub returns-in-Drop : goal.returns-in-Drop
returns-in-Drop c =
    subst (λ (command : LineCommand). IsTrue c.is_drop_begun.result ↔ Begins command (reverse c.args.entries.now) c.args.event.now) (sym c.in-Drop.is) (c.is_drop_begun.ensures (reverse c.args.entries.now))

pub returns-in-Publish : goal.returns-in-Publish
returns-in-Publish c =
    subst (λ (command : LineCommand). IsTrue c.is_publish_begun.result ↔ Begins command (reverse c.args.entries.now) c.args.event.now) (sym c.in-Publish.is) (c.is_publish_begun.ensures (reverse c.args.entries.now))

pub returns-in-Copy : goal.returns-in-Copy
returns-in-Copy c =
    subst (λ (command : LineCommand). IsTrue c.is_copy_begun.result ↔ Begins command (reverse c.args.entries.now) c.args.event.now) (sym c.in-Copy.is) (c.is_copy_begun.ensures (reverse c.args.entries.now))

pub returns-in-Settle : goal.returns-in-Settle
returns-in-Settle c =
    subst (λ (command : LineCommand). IsTrue c.is_settle_begun.result ↔ Begins command (reverse c.args.entries.now) c.args.event.now) (sym c.in-Settle.is) (c.is_settle_begun.ensures (reverse c.args.entries.now))

pub returns-in-Search : goal.returns-in-Search
returns-in-Search c =
    subst (λ (command : LineCommand). IsTrue c.is_search_begun.result ↔ Begins command (reverse c.args.entries.now) c.args.event.now) (sym c.in-Search.is) (c.is_search_begun.ensures (reverse c.args.entries.now) c.in-Search.field-1)

pub returns-in-Open : goal.returns-in-Open
returns-in-Open c =
    subst (λ (command : LineCommand). IsTrue c.is_open_begun.result ↔ Begins command (reverse c.args.entries.now) c.args.event.now) (sym c.in-Open.is) (c.is_open_begun.ensures (reverse c.args.entries.now))

pub returns-in-Ask : goal.returns-in-Ask
returns-in-Ask c =
    subst (λ (command : LineCommand). IsTrue c.is_ask_begun.result ↔ Begins command (reverse c.args.entries.now) c.args.event.now) (sym c.in-Ask.is) (c.is_ask_begun.ensures (reverse c.args.entries.now) c.in-Ask.field-1)

pub returns-in-Close : goal.returns-in-Close
returns-in-Close c =
    subst (λ (command : LineCommand). IsTrue c.is_close_begun.result ↔ Begins command (reverse c.args.entries.now) c.args.event.now) (sym c.in-Close.is) (c.is_close_begun.ensures (reverse c.args.entries.now))

pub returns-in-Commit : goal.returns-in-Commit
returns-in-Commit c =
    subst (λ (command : LineCommand). IsTrue c.is_commit_begun.result ↔ Begins command (reverse c.args.entries.now) c.args.event.now) (sym c.in-Commit.is) (c.is_commit_begun.ensures (reverse c.args.entries.now))

pub returns-in-Crash : goal.returns-in-Crash
returns-in-Crash c =
    subst (λ (command : LineCommand). IsTrue c.is_crash_begun.result ↔ Begins command (reverse c.args.entries.now) c.args.event.now) (sym c.in-Crash.is) (c.is_crash_begun.ensures (reverse c.args.entries.now) c.in-Crash.field-1)

pub returns-in-Reopen : goal.returns-in-Reopen
returns-in-Reopen c =
    subst (λ (command : LineCommand). IsTrue c.is_reopening_begun.result ↔ Begins command (reverse c.args.entries.now) c.args.event.now) (sym c.in-Reopen.is) (c.is_reopening_begun.ensures (reverse c.args.entries.now))

pub returns-in-Drain : goal.returns-in-Drain
returns-in-Drain c =
    subst (λ (command : LineCommand). IsTrue c.is_drain_begun.result ↔ Begins command (reverse c.args.entries.now) c.args.event.now) (sym c.in-Drain.is) (c.is_drain_begun.ensures (reverse c.args.entries.now))

pub returns-in-Files : goal.returns-in-Files
returns-in-Files c =
    subst (λ (command : LineCommand). IsTrue c.is_listing_begun.result ↔ Begins command (reverse c.args.entries.now) c.args.event.now) (sym c.in-Files.is) (c.is_listing_begun.ensures (reverse c.args.entries.now))

pub returns-in-Fault : goal.returns-in-Fault
returns-in-Fault c =
    subst (λ (command : LineCommand). IsTrue c.is_plan_begun.result ↔ Begins command (reverse c.args.entries.now) c.args.event.now) (sym c.in-Fault.is) (c.is_plan_begun.ensures (reverse c.args.entries.now))
