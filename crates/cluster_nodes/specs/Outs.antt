-- The copy states that running jobs were begun with, each of which is out at the primary.
use Rattle.std.specs.Prelude.{ℕ, zero, suc, ◌+◌, List, [], ◌∷◌, Option, Some, None, if◌then◌else◌}
use Rattle.index_primary.specs.declared.states.Out.{Out}
use Rattle.index_primary.specs.States.{out_of, same_out}
use Rattle.replica_node.specs.declared.job.PointJob.{PointJob}
use Rattle.cluster_nodes.specs.declared.nodes.Node.TheVariants.{Primary, Replica, Down}
use Rattle.cluster_nodes.specs.declared.nodes.NodePlace.{NodePlace}
use Rattle.cluster_nodes.specs.Places.{place_of}

-- the state that a job was begun with, where there is one that runs
abbrev pub want_of : Option PointJob → Option Out
want_of None = None
want_of (Some j) = if j.stopped then None else Some (out_of j.copy.want)

-- one where the state is like it
abbrev pub one_like : Out → Option Out → ℕ
one_like s None = 0
one_like s (Some t) = if same_out s t then 1 else 0

-- how many of these states are like it
abbrev pub states_like : Out → List Out → ℕ
states_like s [] = 0
states_like s (t ∷ ts) = one_like s (Some t) + states_like s ts

module _ {D : Type 0} where
  -- the state that the job of a node was begun with
  abbrev pub want_at : Option (NodePlace D) → Option Out
  want_at None = None
  want_at (Some place) = elim place.node [ Primary p ↦ None | Replica r ↦ want_of r.job | Down d ↦ None ]

  -- how many jobs of the first nodes were begun with a state like it
  abbrev pub jobs_like : List (Option (NodePlace D)) → Out → ℕ → ℕ
  jobs_like places s zero = 0
  jobs_like places s (suc k) = jobs_like places s k + one_like s (want_at (place_of places (suc k)))
