use borrow.Enum.Total.{values_d}
use Rattle.std.proofs.Common.{subst, sym}
use Rattle.replica_opening.specs.contracts.reading.LoadFault.{enum}
use Rattle.seg_reader.specs.declared.parts.SegFault.TheVariants.{Memory as SegMemory}
use Rattle.replica_opening.specs.Opening.{IsCutOffOr}
use Rattle.replica_opening.specs.Reading.{IsReadCutOff, IsReadCutOffOr}
use Rattle.replica_opening.specs.declared.fault.StartFault.TheVariants.{Segment}
use Rattle.replica_opening.specs.declared.reading.LoadFault.{LoadFault}
use Rattle.replica_opening.proofs.Segments.{next_refused}
use Rattle.replica_opening.proofs.opening.read_next.Goals as goal

pub returns-clause-shown : goal.returns-clause-shown
returns-clause-shown g c shown is = subst IsReadCutOff c.in-Err-Refused.field-0-is (c.in-Err-Refused.ensures.shown shown is)

pub returns-clause-refused : goal.returns-clause-refused
returns-clause-refused g c fault h =
    subst (λ (why : LoadFault). IsCutOffOr (Segment c.args.record.now.seg fault) (Segment c.args.record.now.seg ((values_d enum 2 (SegMemory, tt) why).0)))
    (sym c.in-Err-Refused.field-0-is)
    (next_refused c.args.record.now.seg fault c.in-Err-Refused.fault (subst (IsReadCutOffOr fault) c.in-Err-Refused.field-0-is (c.in-Err-Refused.ensures.refused fault h)))
