use Rattle.std.proofs.Common.{◌≡◌, refl, ap, ◌∙◌}
use Rattle.postings_plain.specs.Rows.{from_row}
use Rattle.query_eval.specs.Rows.{with_first}
use Rattle.query_eval.proofs.WordRowLemmas.{row_moved, moved_ascend}
use Rattle.query_eval.proofs.word.WordRows.move_to.Goals as goal

pub invariant_of-self : goal.invariant_of-self
invariant_of-self c =
    let seen : c.deref_mut.result.now ≡ c.self.inside.behind.value = cc (c.deref_mut.ensures.value) in
    let again : c.deref_mut-in-Some.result.now ≡ c.next_from.new.self = cc (c.deref_mut-in-Some.ensures.value) in
    let moved : c.deref_mut-in-Some.result.now ≡ from_row c.args.row c.self.inside.behind.value = again ∙ c.next_from.ensures.left ∙ ap (from_row c.args.row) seen in
    moved_ascend c.args.row (with_first c.self.inside.first c.self.inside.behind.value) (with_first c.next_hit-self-inside.result c.next_hit-self-inside.new.self)
    (row_moved c.args.row (c.in-Some.first, c.in-Some.field-0-1) (with_first c.self.inside.first c.self.inside.behind.value) c.self.inside.behind.value c.deref_mut-in-Some.result.now c.next_hit-self-inside.new.self
    c.self.inside.first c.next_hit-self-inside.result refl c.in-Some.is c.if-first-row.true moved c.next_hit-self-inside.ensures.answer c.next_hit-self-inside.ensures.left) c.self.invariant

pub returns-in-Some : goal.returns-in-Some
returns-in-Some c =
    let seen : c.deref_mut.result.now ≡ c.self.inside.behind.value = cc (c.deref_mut.ensures.value) in
    let again : c.deref_mut-in-Some.result.now ≡ c.next_from.new.self = cc (c.deref_mut-in-Some.ensures.value) in
    let moved : c.deref_mut-in-Some.result.now ≡ from_row c.args.row c.self.inside.behind.value = again ∙ c.next_from.ensures.left ∙ ap (from_row c.args.row) seen in
    row_moved c.args.row (c.in-Some.first, c.in-Some.field-0-1) c.args.self.now c.self.inside.behind.value c.deref_mut-in-Some.result.now c.next_hit-self-inside.new.self c.self.inside.first
    c.next_hit-self-inside.result c.self.view_is c.in-Some.is c.if-first-row.true moved c.next_hit-self-inside.ensures.answer c.next_hit-self-inside.ensures.left
