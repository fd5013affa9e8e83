use Rattle.postings_plain.proofs.Finding.{field_read, field_is_there, term_read, term_is_there}
use Rattle.postings_plain.proofs.find.heading_in.Goals as goal

pub unreachable-requires-in-None : goal.unreachable-requires-in-None
unreachable-requires-in-None c =
    let r = c.in-None.ensures in
    field_is_there c.requires.0 c.args.item.now c.requires.1.0 c.requires.1.1 c.requires.1.2 r

pub unreachable-requires : goal.unreachable-requires
unreachable-requires c =
    let r = c.in-Some.ensures in
    let s = c.in-None-term_of.ensures in
    let f = field_read c.requires.0 c.args.item.now c.requires.1.0 c.in-Some.field c.in-Some.rest.now c.requires.1.1 c.requires.1.2 r in
    term_is_there c.requires.0 c.in-Some.rest.now c.requires.1.0 c.requires.1.1 f.1 s

pub returns : goal.returns
returns c =
    let r = c.in-Some.ensures in
    let t = c.in-Some-term_of.ensures in
    record {
      field = λ format e fit same. (field_read format c.args.item.now e c.in-Some.field c.in-Some.rest.now fit same r).0;
      term = λ format e fit same.
          let f = field_read format c.args.item.now e c.in-Some.field c.in-Some.rest.now fit same r in
          term_read format c.in-Some.rest.now e c.in-Some-term_of.term.now c.in-Some-term_of.field-0-1.now fit f.1 t;
    }
