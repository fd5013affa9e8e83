use Rattle.std.proofs.Common.{◌∙◌, ap, sym, subst}
use Rattle.postings_plain.specs.declared.format.Format.{Format}
use Rattle.postings_plain.specs.Body.{FormattedEntries, SpellsPostings}
use Rattle.postings_plain.specs.Reading.{no_entry, at_place}
use Rattle.postings_plain.proofs.Finding.{entry_at_place, not_among, among, found_fit}
use Rattle.postings_plain.proofs.file.PostFile.find.Goals as goal

pub returns-in_err-place-clause-found : goal.returns-in_err-place-clause-found
returns-in_err-place-clause-found c =
    let never = c.in_err-place.ensures c.args.self.now.format c.args.self.now.entries c.body-body.ensures in
    rw c.from_residual.ensures (not_among c.args.self.now.entries c.args.field c.args.term.now never)

pub of_entry-requires : goal.of_entry-requires
of_entry-requires c =
    let format = c.self.inside.format in
    let es = c.args.self.now.entries in
    let s = subst (λ (f : Format). SpellsPostings f c.body-body.result.now es) (ap (λ (x : FormattedEntries). x.format) (sym c.self.view_is)) c.body-body.ensures in
    let x = c.in_ok-place.ensures format es s in
    (at_place es c.in_ok-place.place, s.fit c.in_ok-place.place no_entry x.0, c.item_at.ensures _ s.table ∙ entry_at_place format es c.in_ok-place.place x.0)

pub returns : goal.returns
returns c =
    let format = c.self.inside.format in
    let es = c.args.self.now.entries in
    let s = subst (λ (f : Format). SpellsPostings f c.body-body.result.now es) (ap (λ (x : FormattedEntries). x.format) (sym c.self.view_is)) c.body-body.ensures in
    let x = c.in_ok-place.ensures format es s in
    let fit = s.fit c.in_ok-place.place no_entry x.0 in
    let same = c.of_entry.ensures (at_place es c.in_ok-place.place) fit (c.item_at.ensures _ s.table ∙ entry_at_place format es c.in_ok-place.place x.0) in
    record {
      found = among es c.args.field c.args.term.now c.of_entry.result c.in_ok-place.place x.0 x.1 same;
      fit = found_fit format es c.args.field c.args.term.now c.of_entry.result c.in_ok-place.place x.1 same fit;
    }
