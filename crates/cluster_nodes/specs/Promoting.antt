-- What a promotion makes of a replica, and of its place.
use Rattle.std.specs.Prelude.{ℕ, ◌≡◌, ◌≤◌, ◌<◌, ◌+◌, ◌^◌, false, List, [], Option, Some, None, Vec}
use Rattle.std.specs.Global.{Global}
use Rattle.nrt_base.specs.declared.numbers.Gen.{Gen}
use Rattle.nrt_base.specs.declared.numbers.Version.{Version}
use Rattle.disk_model.specs.Disk.{Name, Content, Cells}
use Rattle.searcher_switch.specs.Appearing.{NoneAppears}
use Rattle.index_primary.specs.declared.parts.PrimaryParts.{PrimaryParts}
use Rattle.index_primary.specs.Primary.{IsPrimary}
use Rattle.index_primary.specs.Held.{AreUndrawn, AreNumbered}
use Rattle.replica_node.specs.declared.parts.ReplicaParts.{ReplicaParts}
use Rattle.replica_node.specs.Replica.{IsWholeReplica, AreStanding}
use Rattle.replica_node.specs.Sources.{HeldReadAs, IsSourced}
use Rattle.promotion.specs.Generations.{promoted_infos}
use Rattle.cluster_nodes.specs.declared.held.HeldTicket.{HeldTicket}
use Rattle.cluster_nodes.specs.declared.nodes.Node.TheVariants.{Primary, Replica}
use Rattle.cluster_nodes.specs.declared.nodes.NodePlace.{NodePlace}
use Rattle.cluster_nodes.specs.Places.{place_of, IsSlot}
use Rattle.cluster_nodes.specs.JobChanges.{HasReplica}
use Rattle.cluster_nodes.specs.JobPlaces.{IsReplicaAt, MovesOne}

module _ {D : Type 0} where
  -- The replica can become the primary of this generation: it is whole, its point and its commits are of documents, the generation is above
  -- that of its point, no version that it searched is above the forced one, and it holds no file of a name that the generation may give.
  pub record CanPromote (cells : D → Cells) (generation : Gen) (forced : Version) (r : ReplicaParts D) : Type 0 where
    pub whole : IsWholeReplica cells r
    pub standing : AreStanding cells r
    pub newer : r.infos.generation.0 < generation.0
    pub above : r.infos.version.0 ≤ forced.0
    pub low : forced.0 < 2 ^ 62
    pub numbered : AreNumbered (promoted_infos r.infos generation forced) []
    pub undrawn : AreUndrawn r.files (promoted_infos r.infos generation forced) [] []

  -- The primary that the replica became: it searches the segments and writes from them on, at one version above the forced one, has the open
  -- tickets and the commits of the replica, and did nothing yet. What it holds reads as at the source where the replica's files did.
  pub record PromotesTo (cells : D → Cells) (generation : Gen) (forced : Version) (r : ReplicaParts D) (p : PrimaryParts D) : Type 0 where
    pub whole : IsPrimary cells p
    pub infos : p.infos ≡ promoted_infos r.infos generation forced
    pub point_infos : p.point_infos ≡ p.infos
    pub segs : p.segs ≡ r.searchers.point.readers
    pub readers : p.searchers.point.readers ≡ r.searchers.point.readers
    pub version : p.searchers.point.version.0 ≡ forced.0 + 1
    pub tickets : p.searchers.tickets ≡ r.searchers.tickets
    pub commits : p.commits ≡ r.commits
    pub states : p.states ≡ []
    pub merges : p.merges ≡ []
    pub waiting : p.waiting ≡ []
    pub accepted : p.accepted ≡ 0
    pub publish : p.publish ≡ None
    pub has_cut_over : p.has_cut_over ≡ false
    pub held : (source : Name → Content) → IsSourced source cells r → HeldReadAs source (cells p.dir) p.files
    pub appears : NoneAppears (cells r.dir) (cells p.dir)

  -- such a replica stands in this place
  pub record CanPromoteIn (cells : D → Cells) (generation : Gen) (forced : Version) (n : ℕ) (places : List (Option (NodePlace D))) : Type 0 where
    pub slot : IsSlot places n
    pub replica : HasReplica (place_of places n)
    pub can : (r : ReplicaParts D) (held : Vec HeldTicket Global) → place_of places n ≡ Some (record { node = Replica r; held = held }) → CanPromote cells generation forced r

  -- the primary that it became stands there now; the tickets that are held stay held
  pub record PromotesIn (cells : D → Cells) (generation : Gen) (forced : Version) (n : ℕ) (old new : List (Option (NodePlace D))) : Type 0 where
    pub at : IsReplicaAt old n
    pub primary : PrimaryParts D
    pub moves : MovesOne n (record { node = Primary primary; held = at.held }) old new
    pub becomes : PromotesTo cells generation forced at.parts primary
