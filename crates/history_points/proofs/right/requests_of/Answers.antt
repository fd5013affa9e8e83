use Rattle.std.proofs.Common.{◌≡◌, ◌+◌, ◌∷◌, take, reverse, sym, subst}
use Rattle.history_rules.specs.Nodes.{Past}
use Rattle.history_rules.proofs.PastLemmas.{past_next}
use Rattle.known_past.specs.Known.{IsKnown}
use Rattle.history_points.specs.AskedPoints.{ArePlacesOfPoints}
use Rattle.history_points.proofs.right.requests_of.Goals as goal

pub loop-at-preserved : goal.loop-at-preserved
loop-at-preserved c =
    let entries = c.args.entries.now in
    let at = c.loop-at.at in
    let entry = c.index-entries-at.result in
    let next : reverse (take (at + 1) entries) ≡ entry ∷ reverse (take at entries) = past_next entries at entry c.loop-at-test.true c.index-entries-at.is in
    record {
      known = subst (λ (past : Past). IsKnown past c.in_ok-known.known) (sym next) c.in_ok-known.ensures;
      places = subst (λ (past : Past). ArePlacesOfPoints past c.note_point.new.places) (sym next) c.in_ok-note_point.ensures;
      requests = c.in_ok-note_request.ensures;
    }
