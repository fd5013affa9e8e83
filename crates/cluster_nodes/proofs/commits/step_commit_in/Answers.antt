use Rattle.std.proofs.Common.{◌≡◌, Bool, None, subst}
use Rattle.std.specs.Prelude.{IsSome}
use Rattle.cluster_nodes.specs.Commits.{AltersCommits, StepsBook, KeepsBook}
use Rattle.cluster_nodes.specs.Went.{ByWent}
use Rattle.cluster_nodes.proofs.Taking.{moved_one}
use Rattle.cluster_nodes.proofs.CommitPlaces.{stage_here, some_here}
use Rattle.cluster_nodes.proofs.commits.step_commit_in.Goals as goal

pub take-place-requires-clause-there : goal.take-place-requires-clause-there
take-place-requires-clause-there g c = some_here g.D.Dir.cells IsSome _ c.requires.in_flight

pub step_at-stepped-requires : goal.step_at-stepped-requires
step_at-stepped-requires g c = stage_here g.D.Dir.cells IsSome _ c.take-place.result c.take-place.ensures.place c.requires.in_flight

pub returns-in-Done : goal.returns-in-Done
returns-in-Done g c = record {
  place = c.take-place.result;
  there = c.take-place.ensures.place;
  node = c.step_at-stepped.new.node;
  moves = moved_one _ _ _ c.args.n.0 _ c.take-place.ensures.count c.take-place.ensures.places c.put.ensures.count c.put.ensures.places;
  alters = subst (ByWent (λ (done : Bool). AltersCommits (StepsBook done) g.D.Dir.cells c.take-place.result.node c.step_at-stepped.new.node)
      (AltersCommits KeepsBook g.D.Dir.cells c.take-place.result.node c.step_at-stepped.new.node)) c.in-Done.is c.in_ok-done.ensures;
}

pub returns-in-Failed : goal.returns-in-Failed
returns-in-Failed g c = record {
  place = c.take-place.result;
  there = c.take-place.ensures.place;
  node = c.step_at-stepped.new.node;
  moves = moved_one _ _ _ c.args.n.0 _ c.take-place.ensures.count c.take-place.ensures.places c.put.ensures.count c.put.ensures.places;
  alters = subst (ByWent (λ (done : Bool). AltersCommits (StepsBook done) g.D.Dir.cells c.take-place.result.node c.step_at-stepped.new.node)
      (AltersCommits KeepsBook g.D.Dir.cells c.take-place.result.node c.step_at-stepped.new.node)) c.in-Failed.is c.in_ok-done.ensures;
}
