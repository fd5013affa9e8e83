use Rattle.node_tests.proofs.Seeing.{task_sound}
use Rattle.node_tests.proofs.calls.publish.Goals as goal

pub flush-requires-clause-sound : goal.flush-requires-clause-sound
flush-requires-clause-sound g c =
    task_sound g.D.Dir.cells c.args.primary.now _ _ (rw c.in-Ok-Some.field-0-is at c.in-Ok-Some.ensures.task) (rw c.in-Ok-Some.field-0-is at c.in-Ok-Some.ensures.next) c.in-Ok-Some.ensures.whole
