use Rattle.std.proofs.Common.{◌<◌, ◌∙◌, arith, length}
use Rattle.postings_plain.specs.Reading.{no_entry, at_place}
use Rattle.postings_plain.proofs.Finding.{entry_at_place, same_size, keys_alike}
use Rattle.postings_plain.proofs.find.compare_at.Goals as goal

pub heading_in-other-requires : goal.heading_in-other-requires
heading_in-other-requires c =
    let format = c.requires.0 in
    let es = c.requires.1 in
    let p = c.requires.2 in
    (format, (at_place es c.args.place, p.fit c.args.place no_entry c.requires.3, c.item_at.ensures _ p.table ∙ entry_at_place format es c.args.place c.requires.3))

pub returns : goal.returns
returns c = λ format es p.
    let lt : c.args.place < length es = omega (arith, same_size c.args.body.now format c.requires.0 es c.requires.1 p c.requires.2, c.requires.3) in
    let e = at_place es c.args.place in
    let fit = p.fit c.args.place no_entry lt in
    let same = c.item_at.ensures _ p.table ∙ entry_at_place format es c.args.place lt in
    c.compare_headings.ensures ∙ keys_alike _ e.0 _ e.1.0 c.args.field c.args.term.now (c.heading_in-other.ensures.field format e fit same) (c.heading_in-other.ensures.term format e fit same)
