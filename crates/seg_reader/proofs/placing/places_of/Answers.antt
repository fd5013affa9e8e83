use Rattle.std.proofs.Common.{◌≡◌, ◌+◌, ℕ, ◌∷◌, length, drop, sym, ap, subst, ◌∙◌, arith}
use Rattle.seg_reader.specs.Placing.{GivesPlace}
use Rattle.postings_plain.specs.Body.{heading_of}
use Rattle.postings_plain.specs.Reading.{at_place}
use Rattle.seg_reader.proofs.Placed.{IsByEntries, by_more, placing, whole}
use Rattle.seg_reader.proofs.placing.places_of.Goals as goal

pub returns-then-field-ne-KEY-clause-order : goal.returns-then-field-ne-KEY-clause-order
returns-then-field-ne-KEY-clause-order c =
    let count = c.terms-entry-end.ensures.count in
    placing c.args.post.now.entries c.args.docs.now c.loop-entry.entry c.loop-entry.places.items c.terms-entry-end.ensures.ascend (omega (arith, count)) c.loop-entry.invariant.1

pub loop-entry-preserved : goal.loop-entry-preserved
loop-entry-preserved c =
    let zero : c.entry-field.result.0 ≡ 0 = c.if-field-ne-KEY.false in
    let heading : heading_of (at_place c.args.post.now.entries c.loop-entry.entry) ≡ 0 ∷ c.entry-field.result.1.now =
    ap heading_of (sym c.entry-field.ensures.value) ∙ ap (λ (f : ℕ). f ∷ c.entry-field.result.1.now) zero in
    let rows = c.place_rows.ensures.rows in
    let before = c.loop-entry.invariant.0 in
    let len = c.as_mut_slice.ensures.len in
    let value : c.as_mut_slice.result.now ≡ c.loop-entry.places.items = c.as_mut_slice.ensures.value in
    let items : length c.as_mut_slice.result.now ≡ length c.loop-entry.places.items = ap length value in
    let gives : GivesPlace c.args.docs.now c.entry-field.result.1.now (c.loop-entry.entry + 1) c.as_mut_slice.result.now c.place_rows.new.places = c.place_rows.ensures.gives in
    let same = whole c.loop-entry.places.len c.place_rows.new.places (drop (length c.place_rows.new.places) c.loop-entry.places.items) (omega (arith, rows, before, len, items)) in (
      ap length (sym same) ∙ rows,
      subst (IsByEntries c.args.post.now.entries c.args.docs.now (c.loop-entry.entry + 1)) same
          (by_more c.args.post.now.entries c.args.docs.now c.loop-entry.entry c.entry-field.result.1.now c.as_mut_slice.result.now c.place_rows.new.places heading
          (subst (IsByEntries c.args.post.now.entries c.args.docs.now c.loop-entry.entry) (sym value) c.loop-entry.invariant.1) gives),
    )

pub returns-clause-order : goal.returns-clause-order
returns-clause-order c =
    let count = c.terms-entry-end.ensures.count in
    placing c.args.post.now.entries c.args.docs.now c.loop-entry.entry c.loop-entry.places.items c.terms-entry-end.ensures.ascend (omega (arith, count)) c.loop-entry.invariant.1
