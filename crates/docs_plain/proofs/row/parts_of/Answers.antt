use Rattle.docs_plain.proofs.RowLaws.{parts_are, string_is_there}
use Rattle.docs_plain.proofs.row.parts_of.Goals as goal

pub unreachable-requires : goal.unreachable-requires
unreachable-requires c = let e = c.in-None.ensures in string_is_there c.args.item.now c.requires e

pub returns : goal.returns
returns c =
    let e = c.in-Some.ensures in
    record {
      key = λ doc fit same. (parts_are c.args.item.now c.in-Some.parts.0.now c.in-Some.parts.1.now doc fit same e).0;
      text = λ doc fit same. (parts_are c.args.item.now c.in-Some.parts.0.now c.in-Some.parts.1.now doc fit same e).1;
    }
