-- A file of which not all arrived is not whole.
use Rattle.std.proofs.Common.{◌≡◌, ◌≢◌, ◌∙◌, Err, sym}
use Rattle.copy_job.specs.declared.fault.JobFault.{JobFault}
use Rattle.copy_job.specs.declared.fault.JobFault.TheVariants.{Memory, LinkFailed, Damaged, DirFailed, NameClash}
use Rattle.link_model.specs.declared.fate.Fate.TheVariants.{Whole, Fail, Damage}
use Rattle.cluster_nodes.specs.declared.tasks.FileTask.{FileTask}
use Rattle.cluster_state.specs.DueFaults.{ArrivesBy}

pub not_whole : (file : FileTask) (fault : JobFault) → ArrivesBy file (Err fault) → file.fate ≢ Whole
not_whole file Memory is whole = is
not_whole file LinkFailed is whole = let same : Fail ≡ Whole = sym is ∙ whole in cc
not_whole file (Damaged name want found) is whole = let same : Damage is.0.0 ≡ Whole = sym is.0.1 ∙ whole in cc
not_whole file DirFailed is whole = is
not_whole file (NameClash name ours theirs) is whole = is
