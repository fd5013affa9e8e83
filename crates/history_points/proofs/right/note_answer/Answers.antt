use Rattle.std.proofs.Common.{reverse, take, ap, sym}
use Rattle.std.proofs.lemmas.Result.{on_ok_weaker}
use Rattle.history_rules.specs.declared.entry.Entry.{Entry}
use Rattle.history_points.proofs.RightLaws.{request_point, told_next}
use Rattle.history_points.proofs.right.note_answer.Goals as goal

pub go_to-requires-clause-point : goal.go_to-requires-clause-point
go_to-requires-clause-point c = request_point c.args.entries.now c.args.request c.requires.request

pub returns-in-Some-clause-told : goal.returns-in-Some-clause-told
returns-in-Some-clause-told c =
    let right = rw c.in-Some.is at c.in_ok-right.ensures.right in
    on_ok_weaker c.set_told.result
    (λ noted. told_next c.args.entries.now c.args.told.now c.set_told.new.told c.args.request.at c.in-Some.right _ c.index-entries-request.result c.requires.told
    c.requires.request.within c.index-entries-request.is (ap (λ (e : Entry). e.event) (sym c.index-entries-request.is)) (right (reverse (take c.args.request.at c.args.entries.now)) c.in_ok-go_to.ensures.point) noted)
    c.set_told.ensures
