use Rattle.std.proofs.Common.{ap, ◌∙◌}
use Rattle.postings_plain.specs.Reading.{hits_or_none}
use Rattle.postings_plain.proofs.Passing.{is_read}
use Rattle.postings_plain.proofs.Finding.{field_read, field_is_there, term_is_there, rows_after}
use Rattle.postings_plain.proofs.BodyLaws.{rows_are_there, rows_read}
use Rattle.postings_plain.proofs.postings.Postings.of_entry.Goals as goal

pub unreachable-requires-in-None : goal.unreachable-requires-in-None
unreachable-requires-in-None c =
    let r = c.in-None.ensures in
    field_is_there c.args.format c.args.item.now c.requires.0 c.requires.1 c.requires.2 r

pub unreachable-requires-in-None-term_of : goal.unreachable-requires-in-None-term_of
unreachable-requires-in-None-term_of c =
    let r = c.in-Some.ensures in
    let s = c.in-None-term_of.ensures in
    let f = field_read c.args.format c.args.item.now c.requires.0 c.in-Some.field c.in-Some.rest.now c.requires.1 c.requires.2 r in
    term_is_there c.args.format c.in-Some.rest.now c.requires.0 c.requires.1 f.1 s

pub unreachable-requires : goal.unreachable-requires
unreachable-requires c =
    let r = c.in-Some.ensures in
    let s = c.in-Some-term_of.ensures in
    let t = c.in-None-positive_of.ensures in
    let f = field_read c.args.format c.args.item.now c.requires.0 c.in-Some.field c.in-Some.rest.now c.requires.1 c.requires.2 r in
    let g = rows_after c.args.format c.in-Some.rest.now c.requires.0 c.in-Some-term_of.field-0-0.now c.in-Some-term_of.rest.now c.requires.1 f.1 s in
    rows_are_there c.args.format c.in-Some-term_of.rest.now c.requires.0 c.requires.1 g t

pub counted-requires : goal.counted-requires
counted-requires c =
    let r = c.in-Some.ensures in
    let s = c.in-Some-term_of.ensures in
    let t = c.in-Some-positive_of.ensures in
    let f = field_read c.args.format c.args.item.now c.requires.0 c.in-Some.field c.in-Some.rest.now c.requires.1 c.requires.2 r in
    let g = rows_after c.args.format c.in-Some.rest.now c.requires.0 c.in-Some-term_of.field-0-0.now c.in-Some-term_of.rest.now c.requires.1 f.1 s in
    is_read _ _ _ (rows_read c.args.format c.in-Some-term_of.rest.now c.in-Some-positive_of.rest.now c.requires.0 c.in-Some.field c.in-Some-positive_of.count c.requires.1 f.0 g t)

pub returns : goal.returns
returns c = λ e fit same.
    let r = c.in-Some.ensures in
    let s = c.in-Some-term_of.ensures in
    let t = c.in-Some-positive_of.ensures in
    let f = field_read c.args.format c.args.item.now e c.in-Some.field c.in-Some.rest.now fit same r in
    let g = rows_after c.args.format c.in-Some.rest.now e c.in-Some-term_of.field-0-0.now c.in-Some-term_of.rest.now fit f.1 s in
    c.counted.ensures ∙ ap hits_or_none (rows_read c.args.format c.in-Some-term_of.rest.now c.in-Some-positive_of.rest.now e c.in-Some.field c.in-Some-positive_of.count fit f.0 g t)
