use Rattle.std.proofs.Common.{◌≡◌, ◌-◌, ap, length, ◌∙◌, List, get_or}
use Rattle.postings_plain.specs.Postings.{Hit}
use Rattle.postings_plain.proofs.Gaining.{gains_in_last}
use Rattle.postings_plain.proofs.hits.TermHits.push_place.Goals as goal

pub returns-in_ok-push : goal.returns-in_ok-push
returns-in_ok-push c =
    let written = c.in_ok-push.ensures in
    let same = c.self.view_is in
    let ends = c.ends_in_row.ensures.0 c.if-ends_in_row.true in
    let at : c.len-last.result - 1 ≡ length c.args.self.now - 1 = ap (λ n. n - 1) (c.len-last.ensures ∙ c.self.inside.hits.ok.0 ∙ ap length same) in
    let is : c.index_mut-hit.result.now ≡ get_or c.args.self.now (c.len-last.result - 1) c.index_mut-hit.result.now = c.index_mut-hit.ensures.value ∙ ap (λ (x : List Hit). get_or x (c.len-last.result - 1) c.index_mut-hit.result.now) same in
    rw same (gains_in_last c.args.self.now c.args.row c.args.place (c.len-last.result - 1) c.index_mut-hit.result.now c.push.new.self ends at is written)
