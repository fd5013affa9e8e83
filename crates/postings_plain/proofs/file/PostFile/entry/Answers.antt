use Rattle.std.proofs.Common.{◌∙◌, arith, ap, sym, subst}
use Rattle.std.proofs.lemmas.List.{length-map}
use Rattle.postings_plain.specs.declared.format.Format.{Format}
use Rattle.postings_plain.specs.Postings.{entry}
use Rattle.postings_plain.specs.Body.{FormattedEntries, SpellsPostings}
use Rattle.postings_plain.specs.Reading.{no_entry, at_place}
use Rattle.postings_plain.proofs.Finding.{entry_at_place, same_entry}
use Rattle.postings_plain.proofs.file.PostFile.entry.Goals as goal

pub item_at-item-requires : goal.item_at-item-requires
item_at-item-requires c =
    let s = c.body-body.ensures in
    let long = length-map c.args.self.now.entries (entry c.args.self.now.format) in
    (_, s.table, omega (arith, long, c.requires))

pub heading_in-field-requires : goal.heading_in-field-requires
heading_in-field-requires c =
    let s = c.body-body.ensures in
    let es = c.args.self.now.entries in
    (c.args.self.now.format, (at_place es c.args.place, s.fit c.args.place no_entry c.requires, c.item_at-item.ensures _ s.table ∙ entry_at_place c.args.self.now.format es c.args.place c.requires))

pub of_entry-requires : goal.of_entry-requires
of_entry-requires c =
    let format = c.self.inside.format in
    let es = c.args.self.now.entries in
    let s = subst (λ (f : Format). SpellsPostings f c.body-body.result.now es) (ap (λ (x : FormattedEntries). x.format) (sym c.self.view_is)) c.body-body.ensures in
    (at_place es c.args.place, s.fit c.args.place no_entry c.requires, c.item_at-item.ensures _ s.table ∙ entry_at_place format es c.args.place c.requires)

pub returns : goal.returns
returns c =
    let format = c.self.inside.format in
    let es = c.args.self.now.entries in
    let e = at_place es c.args.place in
    let p = c.body-body.ensures in
    let fit = p.fit c.args.place no_entry c.requires in
    let same = c.item_at-item.ensures _ p.table ∙ entry_at_place c.args.self.now.format es c.args.place c.requires in
    let s = subst (λ (f : Format). SpellsPostings f c.body-body.result.now es) (ap (λ (x : FormattedEntries). x.format) (sym c.self.view_is)) c.body-body.ensures in
    let hits = c.of_entry.ensures e (s.fit c.args.place no_entry c.requires) (c.item_at-item.ensures _ s.table ∙ entry_at_place format es c.args.place c.requires) in
    record {
      value = same_entry e _ _ _ (c.heading_in-field.ensures.field c.args.self.now.format e fit same) (c.heading_in-field.ensures.term c.args.self.now.format e fit same) hits;
      fit = fit;
    }
