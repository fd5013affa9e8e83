use Rattle.std.proofs.Common.{◌≡◌, map, IsTrue}
use Rattle.nrt_base.specs.Bytes.{is_text}
use Rattle.docs_plain.specs.Documents.{row}
use Rattle.docs_plain.proofs.BodyLaws.{item_row, at_row}
use Rattle.docs_plain.proofs.file.DocsFile.text.Goals as goal

pub parts_of-requires : goal.parts_of-requires
parts_of-requires c = item_row c.body.result.now c.args.self.now c.args.row c.item_at.result.now c.body.ensures c.requires (c.item_at.ensures (map row c.args.self.now) c.body.ensures.table)

pub returns : goal.returns
returns c =
    let is = c.item_at.ensures (map row c.args.self.now) c.body.ensures.table in
    record {
      value = at_row c.args.self.now (λ doc. c.parts_of.result.1.now ≡ doc.text) c.args.row c.item_at.result.now c.body.ensures.fit c.requires is c.parts_of.ensures.text;
      kind = at_row c.args.self.now (λ doc. IsTrue (is_text doc.text)) c.args.row c.item_at.result.now c.body.ensures.fit c.requires is (λ doc fit e. fit.text);
    }
