-- The words of the crates below that this crate gives on to those above.
pub use Rattle.cluster_merges.specs.MergePaths.{EndsBuild, IsMergedOut, TakesTask}
pub use Rattle.cluster_merges.specs.MergesKept.{KeepsBuilt, KeepsButCopies, KeepsButCut, KeepsButSizes, KeepsButTasks, KeepsCopyTurn}
pub use Rattle.cluster_merges.specs.TaskCalls.{CutTurns, DrainTurns, MergeLine, PartTurns, PrecopyTurns}
pub use Rattle.cluster_recovery.specs.Crashes.{CrashTells}
pub use Rattle.cluster_recovery.specs.Planning.{PlansFault}
pub use Rattle.cluster_recovery.specs.PromoteCalls.{promote_event}
pub use Rattle.cluster_recovery.specs.Promotions.{PromoteTells}
