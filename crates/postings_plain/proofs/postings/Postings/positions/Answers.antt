use Rattle.std.proofs.Common.{arith, ◌∙◌, ap, sym}
use Rattle.postings_plain.specs.Rows.{first_positions}
use Rattle.postings_plain.specs.Reading.{hits_or_none}
use Rattle.postings_plain.proofs.Passing.{was_read, rows_at}
use Rattle.postings_plain.proofs.PlaceLaws.{first_row_places, none_ascend, word_places}
use Rattle.postings_plain.proofs.postings.Postings.positions.Goals as goal

pub counted-requires : goal.counted-requires
counted-requires c =
    let a = c.self.inside in
    let d = c.in-Some.ensures in
    let w = was_read (rows_at a.field a.count a.least a.rest.now) c.self.invariant.1 in
    let p = first_row_places a.field a.count a.least a.rest.now w.0 w.1 c.in-Some.field-0-0 c.in-Some.after.now (omega arith) w.2 d.value in
    (first_positions w.0, p.left, word_places a.field c.in-Some.after.now w.0 (omega arith) p)

pub returns-then-self-eq0-clause-ascend : goal.returns-then-self-eq0-clause-ascend
returns-then-self-eq0-clause-ascend c = none_ascend c.none.result c.none.ensures

pub returns-clause-value : goal.returns-clause-value
returns-clause-value c =
    let a = c.self.inside in
    let d = c.in-Some.ensures in
    let w = was_read (rows_at a.field a.count a.least a.rest.now) c.self.invariant.1 in
    let p = first_row_places a.field a.count a.least a.rest.now w.0 w.1 c.in-Some.field-0-0 c.in-Some.after.now (omega arith) w.2 d.value in
    c.counted.ensures.value (first_positions w.0) p.left (word_places a.field c.in-Some.after.now w.0 (omega arith) p) ∙ ap first_positions (sym (ap hits_or_none w.2) ∙ c.self.view_is)
