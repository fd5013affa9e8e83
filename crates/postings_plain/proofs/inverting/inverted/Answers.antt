use Rattle.std.proofs.Common.{◌≡◌, ◌++◌, ◌∷◌, [], length, take, ◌+◌, ◌<◌, ◌^◌, subst, sym, ap, ◌∙◌, arith}
use Rattle.std.proofs.lemmas.List.{take_more, length-take}
use Rattle.std.proofs.lemmas.List.Elements.{All-more}
use Rattle.postings_plain.specs.declared.row.TermRow.{TermRow}
use Rattle.postings_plain.specs.Gathering.{Gathers}
use Rattle.postings_plain.proofs.inverting.inverted.Goals as goal

pub loop-number-preserved : goal.loop-number-preserved
loop-number-preserved c =
    let e = c.in_ok-add_row.ensures in
    let rows = c.args.rows.now in
    let n = c.loop-number.number in
    let row = c.index-rows-number.result in
    let more : take (n + 1) rows ≡ take n rows ++ row ∷ [] = take_more rows n row c.loop-number-test.true ∙ ap (λ (x : TermRow). take n rows ++ x ∷ []) (sym c.index-rows-number.is) in
    record {
      gathers = subst (Gathers c.add_row.new.found.entries) (sym more) (e.gathers (take n rows) (omega (arith, length-take n rows)) c.loop-number.invariant.gathers);
      few = All-more (λ (row : TermRow). length row.words < 2 ^ 32) rows n row c.loop-number-test.true c.loop-number.invariant.few (subst (λ (x : TermRow). length x.words < 2 ^ 32) c.index-rows-number.is e.few);
    }
