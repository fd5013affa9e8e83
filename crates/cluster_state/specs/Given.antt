-- The words of the crates below that this crate gives on to those above.
pub use Rattle.cluster_nodes.specs.declared.tasks.CommitTask.{CommitTask}
pub use Rattle.cluster_nodes.specs.declared.tasks.CopyTask.{CopyTask}
pub use Rattle.cluster_nodes.specs.declared.tasks.FileTask.{FileTask}
pub use Rattle.cluster_nodes.specs.declared.tasks.SettleTask.{SettleTask}
