use Rattle.node_tests.proofs.Unmade.{seen_started}
use Rattle.node_tests.proofs.calls.merge_start.Goals as goal

pub returns-in_ok-push-in-Ok-Some : goal.returns-in_ok-push-in-Ok-Some
returns-in_ok-push-in-Ok-Some g c = seen_started c.args.primary.now c.merge_start.new.self c.args.seen.now c.requires.seen c.args.factor c.in-Ok-Some.task c.push.new.self
    (rw c.in-Ok-Some.field-0-is at c.in-Ok-Some.ensures.answers) (rw c.in-Ok-Some.field-0-is at c.in-Ok-Some.ensures.fit) c.in_ok-push-in-Ok-Some.ensures.ok
