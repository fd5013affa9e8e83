-- What a lane knows of a commit that was handed out to it.
use Rattle.std.specs.Prelude.{◌≡◌, Some}
use Rattle.nrt_base.specs.declared.numbers.At.{At}
use Rattle.nrt_base.specs.declared.numbers.NodeNo.{NodeNo}
use Rattle.history_rules.specs.declared.entry.Event.TheVariants.{Committing}
use Rattle.history_rules.specs.Lines.{last_of_line}
use Rattle.history_book.specs.Log.{Log, printed}
use Rattle.cluster_nodes.specs.declared.tasks.CommitTask.{CommitTask}

-- the line has begun this commit
abbrev pub HasBegunCommit : At → CommitTask → Log → Type 0
HasBegunCommit at task log = last_of_line at (printed log) ≡ Some (Committing task.node task.version)

-- the line has begun a commit of this node
pub record IsCommitting (at : At) (n : NodeNo) (task : CommitTask) (log : Log) : Type 0 where
  pub node : task.node ≡ n
  pub begun : HasBegunCommit at task log
