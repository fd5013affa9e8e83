-- What a primary's refusals are as faults of its directory, which plans count.
use Rattle.std.specs.Prelude.{Result, Ok, Err}
use Rattle.disk_model.specs.declared.dir.DirFault.{DirFault}
use Rattle.disk_model.specs.declared.dir.DirFault.TheVariants.{Memory as DirMemory, Missing, Exists, Failed as DirFailed}
use Rattle.index_primary.specs.declared.parts.PrimaryFault.{PrimaryFault}
use Rattle.index_primary.specs.declared.parts.PrimaryFault.TheVariants.{Memory, Failed}

-- the answer of a primary, as one of its directory
abbrev pub disk_answer : {T : Type 0} → Result T PrimaryFault → Result (Unit {0}) DirFault
disk_answer (Ok x) = Ok tt
disk_answer (Err Memory) = Err DirMemory
disk_answer (Err Failed) = Err DirFailed

-- how a primary refuses where its directory does
abbrev pub load_refusal : DirFault → PrimaryFault
load_refusal DirFailed = Failed
load_refusal DirMemory = Memory
load_refusal Missing = Memory
load_refusal Exists = Memory
