use Rattle.std.proofs.Common.{◌∷◌, ◌++◌, [], ℕ, List, length, subst, sym, ap, ◌∙◌, map, ◌<◌, ◌^◌}
use Rattle.std.specs.Map.Iter.{deref_pair}
use Rattle.std.proofs.lemmas.List.{map-append, length-map}
use Rattle.std.proofs.lemmas.Map.Iter.{iter_end}
use Rattle.body_forms.specs.TableParts.{ArePartsOf}
use Rattle.body_forms.specs.Numbers.{u32_bytes}
use Rattle.postings_plain.specs.Postings.{Hit, HitsFit, SkipsFit, IsFileEntry, entry}
use Rattle.postings_plain.proofs.FoundEntries.{entries_with, HasEntries, turn_fits, entries_more, entries_are, spelled, length-entries}
use Rattle.postings_plain.proofs.encoding.push_body.Goals as goal

pub push_entry-requires : goal.push_entry-requires
push_entry-requires c =
    let e = c.parts-field.ensures in
    record {
      term = e.few;
      hits = subst (HitsFit c.parts-field.result.0) (sym c.as_slice.ensures)
          (turn_fits c.loop-term.yielded c.into_iter-term-iterator.result c.loop-term.term-iterator c.next.new.self c.next.result c.in-Some.term c.in-Some.hits c.loop-term.yielded_by c.in-Some.is c.next.ensures.steps
          c.args.found.now c.into_iter-term-iterator.ensures.into_iter_gives.0 c.len-count.ensures.ordered c.requires.0 c.requires.1 c.requires.2 c.parts-field.result.0 c.parts-field.result.1.now e.both e.field);
    }

pub loop-term-preserved : goal.loop-term-preserved
loop-term-preserved c =
    let e = c.parts-field.ensures in
    let written = c.in_ok-push_entry.ensures in
    let end = c.in_ok-push_end-2.ensures in
    let fits = turn_fits c.loop-term.yielded c.into_iter-term-iterator.result c.loop-term.term-iterator c.next.new.self c.next.result c.in-Some.term c.in-Some.hits c.loop-term.yielded_by c.in-Some.is c.next.ensures.steps
    c.args.found.now c.into_iter-term-iterator.ensures.into_iter_gives.0 c.len-count.ensures.ordered c.requires.0 c.requires.1 c.requires.2 c.parts-field.result.0 c.parts-field.result.1.now e.both e.field in
    let is_entry : IsFileEntry c.args.format (c.parts-field.result.0, (c.parts-field.result.1.now, c.in-Some.hits.now)) =
    record { kind = e.field; term_fits = (e.some, e.few); hits_fit = fits; skips_fit = subst (SkipsFit c.args.format c.parts-field.result.0) c.as_slice.ensures written.skips_fit } in
    let area = c.deref-in-loop-term.ensures.value in
    record {
      can = tt;
      finite = tt;
      has = subst (λ (xs : List (List ℕ × List Hit)). HasEntries c.args.format xs c.push_end-in-loop-term.new.offsets.items c.push_entry.new.out.items) (sym (map-append deref_pair c.loop-term.yielded ((c.in-Some.term, c.in-Some.hits) ∷ [])))
          (entries_more c.args.format (map deref_pair c.loop-term.yielded) c.in-Some.term.now c.parts-field.result.0 c.parts-field.result.1.now c.in-Some.hits.now c.loop-term.offsets.items c.loop-term.area.items c.push_end-in-loop-term.new.offsets.items c.push_entry.new.out.items
          c.loop-term.invariant.has e.both is_entry (written.added ∙ ap (λ (hs : List Hit). c.loop-term.area.items ++ entry c.args.format (c.parts-field.result.0, (c.parts-field.result.1.now, hs))) c.as_slice.ensures)
          (subst (λ (x : List ℕ). length x < 2 ^ 32) area end.small) (end.end ∙ ap (λ (x : List ℕ). c.loop-term.offsets.items ++ u32_bytes (length x)) area));
    }

pub returns : goal.returns
returns c = λ rows g few pos.
    let whole = iter_end deref_pair c.args.found.now.entries c.loop-term.yielded c.into_iter-term-iterator.result c.loop-term.term-iterator c.next.new.self c.next.result c.into_iter-term-iterator.ensures.into_iter_gives.0 c.loop-term.yielded_by c.in-None.is c.next.ensures.steps in
    let has = subst (λ (xs : List (List ℕ × List Hit)). HasEntries c.args.format xs c.loop-term.offsets.items c.loop-term.area.items) whole.0 c.loop-term.invariant.has in
    let make = has.make in
    let table = c.in_ok-push_table.ensures in
    let found = c.args.found.now.entries in
    let items = map (entry c.args.format) (entries_with found) in
    let parts : ArePartsOf items c.deref-2.result.now c.deref-3.result.now =
    subst (λ (x : List ℕ). ArePartsOf items x c.deref-3.result.now) (sym c.deref-2.ensures.value) (subst (λ (x : List ℕ). ArePartsOf items c.loop-term.offsets.items x) (sym c.deref-3.ensures.value) has.parts) in
    let t = table.ok items (length-map (entries_with found) (entry c.args.format) ∙ length-entries c.args.found.now ∙ sym c.len-count.ensures.len) parts in
    record {
      body = t.table;
      added = t.added;
      spelled = record {
        small = t.small;
        entries = entries_with found;
        are = entries_are c.args.format c.args.found.now rows c.len-count.ensures.ordered g make;
        spelled = spelled c.args.format c.args.found.now rows t.table c.len-count.ensures.ordered g make pos t.is_table;
      };
    }
