-- The faults that the next file handed out to a node meets, the entries by which a file is handed out, and what arrives of it.
use Rattle.std.specs.Prelude.{ℕ, ◌≡◌, ◌≢◌, ◌==◌, ◌∷◌, Bool, true, false, Some, Result, Ok, Err, ⊤}
use Rattle.nrt_base.specs.declared.numbers.At.{At}
use Rattle.disk_model.specs.Disk.{Name}
use Rattle.history_rules.specs.declared.cause.Cause.{Cause}
use Rattle.history_rules.specs.declared.cause.Cause.TheVariants.{DiskFault, LinkFault, Damaged}
use Rattle.history_rules.specs.declared.cause.FaultKind.TheVariants.{Link, Damage}
use Rattle.history_rules.specs.Nodes.{Past}
use Rattle.history_rules.specs.Faults.{has_damage, has_fault, same_kind}
use Rattle.history_tables.specs.declared.jobs.Job.{Job}
use Rattle.link_model.specs.declared.fate.Fate.{Fate}
use Rattle.link_model.specs.declared.fate.Fate.TheVariants.{Whole, Fail, Damage as DamageFate}
use Rattle.copy_job.specs.Copying.{IsPartOf}
use Rattle.copy_job.specs.declared.copying.Part.{Part}
use Rattle.copy_job.specs.declared.fault.JobFault.{JobFault}
use Rattle.copy_job.specs.declared.fault.JobFault.TheVariants.{LinkFailed, Damaged as DamagedFile}
use Rattle.history_book.specs.declared.inner.Inner.TheVariants.{FileOut}
use Rattle.history_book.specs.Log.{Log, kept}
use Rattle.cluster_nodes.specs.declared.tasks.FileTask.{FileTask}
use Rattle.merge_tasks.specs.Fates.{file_plans}
use Rattle.cluster_state.specs.Met.{fault_on}

-- the log with the faults in front that the next file handed out to a node meets, of a line or of a task of its merge: its link fails
-- where that is due, and it is damaged where that is due
abbrev pub with_due : Bool → At → ℕ → Log → Log
with_due task at n log =
    fault_on ((file_plans n log).damage == 1) task at n Damage
    (fault_on ((file_plans n log).link == 1) task at n Link log)

-- the line has met what makes this of a file for its node: a fault of the link, or a damage and none of the link
abbrev pub MeetsFate : Fate → At → ℕ → Past → Type 0
MeetsFate Whole at n past = ⊤
MeetsFate Fail at n past = has_fault (λ m. m == n) (same_kind Link) at past ≡ true
MeetsFate (DamageFate byte) at n past = has_damage (λ m. m == n) at past ≡ true

-- why a line is refused whose file does not come in: for what became of the file, and where it is whole for the disk of its node
abbrev pub fate_cause : Fate → Name → Cause
fate_cause Whole name = DiskFault
fate_cause Fail name = LinkFault
fate_cause (DamageFate byte) name = Damaged name

-- a file was handed out to the job of a line, behind the faults that it meets
abbrev pub handed_log : Job → FileTask → Log → Log
handed_log job file log = kept (FileOut job.at.line job.node job.number file.name file.source file.fate (Some job.at)) ∷ with_due false job.at job.node.0 log

-- what arrives of a file: all of it, where it is whole; or the link failed; or it was damaged, and its checksum is another than its metadata says
abbrev pub ArrivesBy : FileTask → Result Part JobFault → Type 0
ArrivesBy file (Ok part) = (file.fate ≡ Whole) × IsPartOf file.name file.source file.meta part
ArrivesBy file (Err LinkFailed) = file.fate ≡ Fail
ArrivesBy file (Err (DamagedFile name want found)) = ((byte : ℕ) × (file.fate ≡ DamageFate byte)) × (name ≡ file.name) × (found ≢ want)
ArrivesBy file (Err fault) = ⊥
