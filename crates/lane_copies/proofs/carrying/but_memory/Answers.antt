use Rattle.std.proofs.Common.{◌≡◌, ◌∙◌, sym}
use Rattle.copy_job.specs.declared.fault.JobFault.TheVariants.{Memory, LinkFailed, Damaged, DirFailed, NameClash}
use Rattle.lane_copies.proofs.carrying.but_memory.Goals as goal

pub returns-in-LinkFailed-clause-other : goal.returns-in-LinkFailed-clause-other
returns-in-LinkFailed-clause-other c = λ memory. let same : LinkFailed ≡ Memory = sym c.in-LinkFailed.is ∙ memory in cc

pub returns-in-Damaged-clause-other : goal.returns-in-Damaged-clause-other
returns-in-Damaged-clause-other c = λ memory. let same : Damaged c.in-Damaged.name c.in-Damaged.want c.in-Damaged.found ≡ Memory = sym c.in-Damaged.is ∙ memory in cc

pub returns-in-DirFailed-clause-other : goal.returns-in-DirFailed-clause-other
returns-in-DirFailed-clause-other c = λ memory. let same : DirFailed ≡ Memory = sym c.in-DirFailed.is ∙ memory in cc

pub returns-in-NameClash-clause-other : goal.returns-in-NameClash-clause-other
returns-in-NameClash-clause-other c = λ memory. let same : NameClash c.in-NameClash.name c.in-NameClash.ours c.in-NameClash.theirs ≡ Memory = sym c.in-NameClash.is ∙ memory in cc
