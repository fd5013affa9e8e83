-- The words of the crates below that this crate gives on to those above.
pub use Rattle.index_primary.specs.StartCalls.{AnswersMerge, IsFitTask, merge_sizes}
pub use Rattle.index_primary.specs.CutOverCalls.{IsCutOver, IsFilledMerge, KeepsDocuments}
pub use Rattle.index_primary.specs.MergeCalls.{IsMadeFor, IsReadied}
pub use Rattle.replica_node.specs.Settling.{SettlesCopy}
pub use Rattle.replica_node.specs.Overlapping.{copies_beside, overlaps}
pub use Rattle.replica_node.specs.Running.{running_job, with_job, without_job}
pub use Rattle.replica_node.specs.Jobs.{running_point, stopped_job, job_seen}
