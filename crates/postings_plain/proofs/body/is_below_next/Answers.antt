use Rattle.std.proofs.Common.{◌+◌, ◌<◌, ◌∙◌, sym, ap, arith, length}
use Rattle.postings_plain.specs.Body.{heading_of, heading_order}
use Rattle.postings_plain.specs.Reading.{entry_of}
use Rattle.postings_plain.proofs.Judging.{less_iff, keys_are, same_items, entry_of-is}
use Rattle.postings_plain.proofs.body.is_below_next.Goals as goal

pub returns : goal.returns
returns c = λ format items t all.
    let r = c.requires.table in
    let lt : c.args.place + 1 < length items = omega (arith, same_items c.args.body.now items r.1 t r.2, r.4) in
    let d = all c.args.place (omega arith) in
    let e = all (c.args.place + 1) lt in
    let first = c.item_at.ensures items t ∙ d.2 in
    let second = c.item_at-2.ensures items t ∙ e.2 in
    let here = entry_of-is format items c.args.place d.0 d.1 d.2 in
    let there = entry_of-is format items (c.args.place + 1) e.0 e.1 e.2 in
    less_iff c.compare_headings.result (heading_order (heading_of (entry_of format items c.args.place)) (heading_of (entry_of format items (c.args.place + 1)))) c.is_lt.result c.is_lt.ensures
    (c.compare_headings.ensures ∙ keys_are _ _ _ _ d.0 e.0 (c.heading_in-field.ensures.field format d.0 d.1 first) (c.heading_in-field.ensures.term format d.0 d.1 first) (c.heading_in-next_field.ensures.field format e.0 e.1 second) (c.heading_in-next_field.ensures.term format e.0 e.1 second) ∙ ap (λ x. heading_order (heading_of x) (heading_of e.0)) (sym here) ∙ ap (λ x. heading_order (heading_of (entry_of format items c.args.place)) (heading_of x)) (sym there))

pub heading_in-field-requires : goal.heading_in-field-requires
heading_in-field-requires c =
    let r = c.requires.table in
    let d = r.3 c.args.place (omega (arith, r.4)) in
    (r.0, (d.0, d.1, c.item_at.ensures r.1 r.2 ∙ d.2))

pub heading_in-next_field-requires : goal.heading_in-next_field-requires
heading_in-next_field-requires c =
    let r = c.requires.table in
    let d = r.3 (c.args.place + 1) r.4 in
    (r.0, (d.0, d.1, c.item_at-2.ensures r.1 r.2 ∙ d.2))
