-- The files of the jobs that copy points to nodes, as callers see them.
use Rattle.std.specs.Prelude.{ℕ, List, [], map, Option, Some, None}
use Rattle.copy_job.specs.Parts.{own_names}
use Rattle.replica_node.specs.declared.job.PointJob.{PointJob}
use Rattle.cluster_nodes.specs.declared.nodes.Node.TheVariants.{Primary, Replica, Down}
use Rattle.cluster_nodes.specs.declared.nodes.NodePlace.{NodePlace}
use Rattle.cluster_state.specs.Run.{JobFiles, no_files}

-- those of a job, where there is one, at a node that has seen this generation
abbrev pub job_files : ℕ → Option PointJob → JobFiles
job_files seen None = record { seen = seen; missing = []; brought = [] }
job_files seen (Some j) = record { seen = seen; missing = j.copy.missing; brought = own_names j.copy.parts }

module _ {D : Type 0} where
  -- those of the job of the node in a place
  abbrev pub place_files : Option (NodePlace D) → JobFiles
  place_files None = no_files
  place_files (Some place) = elim place.node [ Primary p ↦ no_files | Replica r ↦ job_files r.seen.0 r.job | Down d ↦ no_files ]

  -- the same of each node, in order
  abbrev pub jobs_in : List (Option (NodePlace D)) → List JobFiles
  jobs_in places = map place_files places
