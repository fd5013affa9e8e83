use Rattle.std.proofs.Common.{◌∷◌, ◌+◌, ℕ, ap, reverse, take}
use Rattle.run_picture.specs.Views.{ShowsPlace}
use Rattle.run_picture.proofs.ViewLemmas.{rows_next, shows_next}
use Rattle.run_picture.proofs.rows.push_rows.Goals as goal

pub loop-entry-preserved : goal.loop-entry-preserved
loop-entry-preserved c =
    let i = c.loop-entry.entry-index in
    let entries = c.args.entries.now in
    let e = c.entry-item.result in
    let view = c.step.new.self in
    let shows : ShowsPlace c.args.size (e ∷ reverse (take i entries)) view = c.step.ensures c.args.size (reverse (take i entries)) c.loop-entry.invariant.shows in
    record {
      shows = shows_next c.args.size entries i e view c.loop-entry-test.true c.entry-item.is shows;
      place = ap (λ (k : ℕ). k + 1) c.loop-entry.invariant.place;
      text =
          rows_next c.args.width c.args.size entries i c.loop-entry.place e c.args.out.now.items c.loop-entry.out.items _ c.as_slice.result.now view
          c.loop-entry-test.true c.entry-item.is c.loop-entry.invariant.place shows c.as_slice.ensures.value c.loop-entry.invariant.text c.in_ok-push_row.ensures;
    }
