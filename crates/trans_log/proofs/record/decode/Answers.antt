use Rattle.std.proofs.Common.{ℕ, List, subst, arith}
use Rattle.body_forms.specs.File.{IsFileAnswer}
use Rattle.body_forms.specs.declared.read_fault.ReadFault.TheVariants.{File}
use Rattle.trans_log.specs.Records.{SpellsRecord, log_wanted}
use Rattle.trans_log.proofs.FileLaws.{whole_file}
use Rattle.trans_log.proofs.record.decode.Goals as goal

pub returns-clause-answer : goal.returns-clause-answer
returns-clause-answer c = subst (λ (i : List ℕ). IsFileAnswer SpellsRecord (log_wanted i) (λ _. i) File c.args.bytes.now c.read.result) c.id_of.ensures c.read.ensures

pub returns-clause-whole : goal.returns-clause-whole
returns-clause-whole c r file = whole_file c.args.number c.args.bytes.now c.read.result r (λ i. omega (arith, c.type_inv.bytes i)) (returns-clause-answer c) file
