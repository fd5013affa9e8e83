-- What callers are told beside the log of a cluster of which a node was promoted.
use Rattle.std.specs.Prelude.{ℕ, ◌≡◌, false, List, [], map, Option, Some, None, Vec}
use Rattle.std.specs.Global.{Global}
use Rattle.disk_model.specs.Disk.{Cells}
use Rattle.segment_steps.specs.Starting.{size_by}
use Rattle.index_primary.specs.declared.parts.PrimaryParts.{PrimaryParts}
use Rattle.history_rules.specs.declared.cause.Cause.{Cause}
use Rattle.cluster_nodes.specs.declared.held.HeldTicket.{HeldTicket}
use Rattle.cluster_nodes.specs.declared.nodes.Node.TheVariants.{Primary}
use Rattle.cluster_nodes.specs.declared.nodes.NodePlace.{NodePlace}
use Rattle.cluster_nodes.specs.Places.{place_of}
use Rattle.cluster_state.specs.Keeping.{TellsSameOfOthers}
use Rattle.cluster_state.specs.Met.{ClusterStands}
use Rattle.cluster_state.specs.Run.{Run, no_files, files_at, merged_at, names_at, plans_at}

-- nodes stand in their places as this cluster shows them, the primary is at this one, and the sizes that callers are told are those of the segments
-- from which it writes, none of which a merge holds
pub record HasSizesOf {D : Type 0} (cells : D → Cells) (n : ℕ) (r : Run) : Type 0 where
  pub places : List (Option (NodePlace D))
  pub stands : ClusterStands cells r.nodes places r.rest.cut r.rest.tasks r.log
  pub primary : PrimaryParts D
  pub held : Vec HeldTicket Global
  pub there : place_of places n ≡ Some (record { node = Primary primary; held = held })
  pub sizes : r.rest.sizes ≡ map (size_by []) primary.infos.segs

-- A node was promoted: no merge was cut over since its point, whose segments have the sizes that are told. It has no job, and no copy of a merged
-- segment runs at any node. The calls that commits still need, its own among them, and the tasks of merges are as before; so are, of each other
-- node, the files of its job, what is planned for its disk and was met, and the names of its files.
pub record PromotesRest {D : Type 0} (cells : D → Cells) (n : ℕ) (old new : Run) : Type 0 where
  pub rest : new.rest ≡ record old.rest { sizes = new.rest.sizes; jobs = new.rest.jobs; plans = new.rest.plans; names = new.rest.names }
  pub cut : new.rest.cut ≡ false
  pub sizes : HasSizesOf cells n new
  pub here : files_at n new ≡ no_files
  pub copies : (m : ℕ) → merged_at m new ≡ []
  pub files : TellsSameOfOthers files_at n old new
  pub plans : TellsSameOfOthers plans_at n old new
  pub names : TellsSameOfOthers names_at n old new

-- what callers are told beside the log, behind a line that promotes a node, by why it is refused: where it is, all is as before
abbrev pub PromoteTells : {D : Type 0} → (D → Cells) → Option Cause → ℕ → Run → Run → Type 0
PromoteTells cells None n old new = PromotesRest cells n old new
PromoteTells cells (Some cause) n old new = new.rest ≡ old.rest
