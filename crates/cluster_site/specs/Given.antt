-- The words of the crates below that this crate gives on to those above.
pub use Rattle.cluster_core.specs.Doing.{AsksFor, IsBegunAtWork, IsBegunBy, IsReplied, IsRepliedAtDone, writing_command}
