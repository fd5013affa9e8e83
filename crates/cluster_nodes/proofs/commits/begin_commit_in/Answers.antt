use Rattle.std.proofs.Common.{◌≡◌, None}
use Rattle.std.specs.Prelude.{IsSome}
use Rattle.cluster_nodes.proofs.Taking.{moved_one}
use Rattle.cluster_nodes.proofs.CommitPlaces.{stage_here, some_here}
use Rattle.cluster_nodes.proofs.commits.begin_commit_in.Goals as goal

pub take-place-requires-clause-there : goal.take-place-requires-clause-there
take-place-requires-clause-there g c = some_here g.D.Dir.cells (λ stage. stage ≡ None) _ c.requires.none

pub begin_at-begun-requires : goal.begin_at-begun-requires
begin_at-begun-requires g c = stage_here g.D.Dir.cells (λ stage. stage ≡ None) _ c.take-place.result c.take-place.ensures.place c.requires.none

pub returns : goal.returns
returns g c = record {
  place = c.take-place.result;
  there = c.take-place.ensures.place;
  node = c.begin_at-begun.new.node;
  moves = moved_one _ _ _ c.args.n.0 _ c.take-place.ensures.count c.take-place.ensures.places c.put.ensures.count c.put.ensures.places;
  alters = c.in_ok-begun.ensures;
}
