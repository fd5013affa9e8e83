use Rattle.std.proofs.Common.{ap, ◌∙◌, subst, length, ℕ, List, arith}
use Rattle.std.proofs.IntoIterSteps.{All-taken}
use Rattle.history_rules.specs.Nodes.{IsNode}
use Rattle.std.specs.Prelude.{IsSomeAnd}
use Rattle.cluster_state.specs.Starting.{IsEmptyDir, OpensPlace}
use Rattle.cluster_nodes.specs.Places.{place_of}
use Rattle.cluster_recovery.proofs.FirstPlaces.{given_has, more_count, more_each}
use Rattle.cluster_recovery.proofs.starting.first_places.Goals as goal

pub loop-dir-init : goal.loop-dir-init
loop-dir-init g c = record { count = ap length c.new-places.ensures.items; each = λ n node. absurd (omega (arith, node.0, node.1)) }

pub first_place-requires : goal.first_place-requires
first_place-requires g c =
    let it = c.into_iter-dir-iterator in
    record {
      empty = given_has (λ dir. IsEmptyDir (g.D.Dir.cells dir)) c.args.dirs.items it.result c.loop-dir.dir-iterator c.next.new.self c.loop-dir.yielded c.in-Some.dir it.ensures.into_iter_gives.0 c.loop-dir.yielded_by c.in-Some.ensures.steps.0 c.requires;
    }

pub loop-dir-preserved : goal.loop-dir-preserved
loop-dir-preserved g c = record {
  count = more_count g.D.Dir.cells c.loop-dir.places.items c.push.new.self.items c.loop-dir.yielded c.in-Some.dir c.in_ok-place.place c.in_ok-push.ensures.items c.loop-dir.invariant.count;
  each = more_each g.D.Dir.cells c.loop-dir.places.items c.push.new.self.items c.loop-dir.yielded c.in-Some.dir c.in_ok-place.place _ c.in_ok-push.ensures.items c.loop-dir.invariant.count c.loop-dir.invariant.each
      c.in_ok-place.ensures (omega (arith, c.len.ensures, c.loop-dir.places.ok.0));
}

pub returns-clause-count : goal.returns-clause-count
returns-clause-count g c =
    let it = c.into_iter-dir-iterator in
    c.loop-dir.invariant.count ∙ ap length (All-taken it.result c.loop-dir.yielded (c.next.new.self, (c.loop-dir.dir-iterator, c.loop-dir.yielded_by, c.in-None.ensures.steps)) ∙ it.ensures.into_iter_gives.0)

pub returns-clause-each : goal.returns-clause-each
returns-clause-each g c =
    let it = c.into_iter-dir-iterator in
    subst (λ (ds : List g.row.D.Denot). (n : ℕ) → IsNode (length ds) n → IsSomeAnd (place_of c.loop-dir.places.items n) (OpensPlace g.D.Dir.cells n))
    (All-taken it.result c.loop-dir.yielded (c.next.new.self, (c.loop-dir.dir-iterator, c.loop-dir.yielded_by, c.in-None.ensures.steps)) ∙ it.ensures.into_iter_gives.0) c.loop-dir.invariant.each
