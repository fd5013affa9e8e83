use Rattle.std.proofs.Common.{◌∙◌}
use Rattle.std.proofs.lemmas.List.{length-map}
use Rattle.postings_plain.specs.Postings.{entry}
use Rattle.postings_plain.proofs.file.PostFile.terms.Goals as goal

pub item_count-requires : goal.item_count-requires
item_count-requires c = (_, c.body-body.ensures.table)

pub returns : goal.returns
returns c =
    let s = c.body-body.ensures in
    record { count = c.item_count.ensures _ s.table ∙ length-map c.args.self.now.entries (entry c.args.self.now.format); ascend = s.ascend }
