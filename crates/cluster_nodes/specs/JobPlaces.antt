-- Jobs in the terms of places: what stands at the primary's and at a replica's, and what a job's beginning, steps and end make of them.
use Rattle.std.specs.Prelude.{ℕ, ◌≡◌, ◌≤◌, ◌<◌, ◌==◌, false, true, List, [], Option, Some, IsSome, IfSome, length, if◌then◌else◌, Vec}
use Rattle.std.specs.Global.{Global}
use Rattle.disk_model.specs.Disk.{Name, Cells, reads_of}
use Rattle.file_deleter.specs.Holdings.{times}
use Rattle.searcher_switch.specs.Standing.{StandsForSome}
use Rattle.replica_node.specs.declared.parts.ReplicaParts.{ReplicaParts}
use Rattle.copy_state.specs.declared.meta.FileMetaData.{FileMetaData}
use Rattle.copy_state.specs.States.{meta_in}
use Rattle.copy_job.specs.declared.copying.Part.{Part}
use Rattle.copy_job.specs.Jobs.{reads_under}
use Rattle.index_primary.specs.declared.parts.PrimaryParts.{PrimaryParts}
use Rattle.index_primary.specs.States.{state_names, is_out}
use Rattle.cluster_nodes.specs.declared.held.HeldTicket.{HeldTicket}
use Rattle.cluster_nodes.specs.declared.nodes.Node.TheVariants.{Primary, Replica}
use Rattle.cluster_nodes.specs.declared.nodes.NodePlace.{NodePlace}
use Rattle.cluster_nodes.specs.Places.{place_of, IsSlot, HasPrimary}
use Rattle.replica_node.specs.Jobs.{running_point}
use Rattle.cluster_nodes.specs.Outs.{want_of}
use Rattle.cluster_nodes.specs.JobChanges.{HasReplica, AltersStates, BeginsAt, FinishesAt, StopsFor, TakesPart}

module _ {D : Type 0} where
  -- the primary stands in this place
  pub record IsPrimaryAt (places : List (Option (NodePlace D))) (p : ℕ) : Type 0 where
    pub slot : IsSlot places p
    pub parts : PrimaryParts D
    pub held : Vec HeldTicket Global
    pub there : place_of places p ≡ Some (record { node = Primary parts; held = held })

  -- a replica stands in this place
  pub record IsReplicaAt (places : List (Option (NodePlace D))) (n : ℕ) : Type 0 where
    pub slot : IsSlot places n
    pub parts : ReplicaParts D
    pub held : Vec HeldTicket Global
    pub there : place_of places n ≡ Some (record { node = Replica parts; held = held })

  -- the primary and a replica stand in these two
  pub record AreBoth (places : List (Option (NodePlace D))) (p n : ℕ) : Type 0 where
    pub primary : IsPrimaryAt places p
    pub replica : IsReplicaAt places n
    pub apart : (p == n) ≡ false

  -- these stand there now, and all others as before
  pub record MovesBoth (p n : ℕ) (x y : NodePlace D) (old new : List (Option (NodePlace D))) : Type 0 where
    pub count : length new ≡ length old
    pub there : (m : ℕ) → place_of new m ≡ (if n == m then Some y else if p == m then Some x else place_of old m)

  -- this stands there now, and all others as before
  pub record MovesOne (n : ℕ) (x : NodePlace D) (old new : List (Option (NodePlace D))) : Type 0 where
    pub count : length new ≡ length old
    pub there : (m : ℕ) → place_of new m ≡ (if n == m then Some x else place_of old m)

  -- a job can begin, by these values of the two: the replica is behind the primary's point and has seen no later generation, and the
  -- state of an older job is out
  pub record MayBegin (q : PrimaryParts D) (r : ReplicaParts D) : Type 0 where
    pub behind : r.searchers.point.version.0 < q.point_infos.version.0
    pub seen : r.seen.0 ≤ q.point_infos.generation.0
    pub out : IfSome (want_of r.job) (λ s. is_out s q.states ≡ true)

  -- the primary and a replica stand in these two places
  pub record StandThere (p n : ℕ) (places : List (Option (NodePlace D))) : Type 0 where
    pub slot_primary : IsSlot places p
    pub slot_replica : IsSlot places n
    pub apart : (p == n) ≡ false
    pub primary : HasPrimary (place_of places p)
    pub replica : HasReplica (place_of places n)

  -- whatever stands there, it is so
  abbrev pub HoldsOfBoth : (PrimaryParts D → ReplicaParts D → Type 0) → ℕ → ℕ → List (Option (NodePlace D)) → Type 0
  HoldsOfBoth P p n places = (q : PrimaryParts D) (r : ReplicaParts D) (primary_held held : Vec HeldTicket Global)
      → place_of places p ≡ Some (record { node = Primary q; held = primary_held }) → place_of places n ≡ Some (record { node = Replica r; held = held }) → P q r

  -- a job can begin at a replica
  pub record CanBegin (p n : ℕ) (places : List (Option (NodePlace D))) : Type 0 where
    pub stand : StandThere p n places
    pub may : HoldsOfBoth MayBegin p n places

  -- it began, with this number
  pub record BeginsIn (cells : D → Cells) (p n number : ℕ) (old new : List (Option (NodePlace D))) : Type 0 where
    pub both : AreBoth old p n
    pub primary : PrimaryParts D
    pub replica : ReplicaParts D
    pub moves : MovesBoth p n (record { node = Primary primary; held = both.primary.held }) (record { node = Replica replica; held = both.replica.held }) old new
    pub begins : BeginsAt cells number both.primary.parts primary both.replica.parts replica

  -- the primary is as before, but for its directory and its counts
  pub record AltersIn (cells : D → Cells) (p : ℕ) (old new : List (Option (NodePlace D))) : Type 0 where
    pub at : IsPrimaryAt old p
    pub primary : PrimaryParts D
    pub moves : MovesOne p (record { node = Primary primary; held = at.held }) old new
    pub alters : AltersStates cells at.parts primary
    pub states : primary.states ≡ at.parts.states

  -- the job of the replica runs, and its copy state is out
  pub record MayStop (q : PrimaryParts D) (r : ReplicaParts D) : Type 0 where
    pub some : IsSome (running_point r.job)
    pub out : IfSome (want_of r.job) (λ s. is_out s q.states ≡ true)

  -- the same of what stands there
  pub record CanStop (p n : ℕ) (places : List (Option (NodePlace D))) : Type 0 where
    pub stand : StandThere p n places
    pub may : HoldsOfBoth MayStop p n places

  -- the job was stopped, at most while this part was written, and its state was given back
  pub record StopsIn (cells : D → Cells) (part : Option Part) (p n : ℕ) (old new : List (Option (NodePlace D))) : Type 0 where
    pub both : AreBoth old p n
    pub primary : PrimaryParts D
    pub replica : ReplicaParts D
    pub moves : MovesBoth p n (record { node = Primary primary; held = both.primary.held }) (record { node = Replica replica; held = both.replica.held }) old new
    pub stops : StopsFor cells part both.primary.parts primary both.replica.parts replica

  -- the job of the replica, which runs, can end: nothing is missing, and its files read as those of some documents
  pub record MayFinish (cells : D → Cells) (q : PrimaryParts D) (r : ReplicaParts D) : Type 0 where
    pub some : IsSome (running_point r.job)
    pub complete : IfSome (running_point r.job) (λ j. j.copy.missing ≡ [])
    pub standing : IfSome (running_point r.job) (λ j. StandsForSome (reads_under j.copy.parts (reads_of (cells r.dir))) j.infos)
    pub out : IfSome (want_of r.job) (λ s. is_out s q.states ≡ true)

  -- the same of what stands there
  pub record CanFinish (cells : D → Cells) (p n : ℕ) (places : List (Option (NodePlace D))) : Type 0 where
    pub stand : StandThere p n places
    pub may : HoldsOfBoth (MayFinish cells) p n places

  -- it has ended
  pub record FinishesIn (cells : D → Cells) (p n : ℕ) (old new : List (Option (NodePlace D))) : Type 0 where
    pub both : AreBoth old p n
    pub primary : PrimaryParts D
    pub replica : ReplicaParts D
    pub moves : MovesBoth p n (record { node = Primary primary; held = both.primary.held }) (record { node = Replica replica; held = both.replica.held }) old new
    pub finishes : IfSome (running_point both.replica.parts.job) (λ j. FinishesAt cells j both.primary.parts primary both.replica.parts replica)

  -- a copy state that is out names the file
  pub record CanRead (p : ℕ) (name : Name) (places : List (Option (NodePlace D))) : Type 0 where
    pub slot : IsSlot places p
    pub primary : HasPrimary (place_of places p)
    pub out : (q : PrimaryParts D) (held : Vec HeldTicket Global) → place_of places p ≡ Some (record { node = Primary q; held = held }) → 0 < times (state_names q.states) name

  -- its bytes were read
  pub record ReadsIn (cells : D → Cells) (p : ℕ) (name : Name) (bytes : List ℕ) (old new : List (Option (NodePlace D))) : Type 0 where
    pub at : IsPrimaryAt old p
    pub primary : PrimaryParts D
    pub moves : MovesOne p (record { node = Primary primary; held = at.held }) old new
    pub alters : AltersStates cells at.parts primary
    pub states : primary.states ≡ at.parts.states
    pub there : (cells at.parts.dir name).now ≡ Some bytes

  -- a replica's job, which runs, can take a part, of the metadata that is wanted of it
  pub record CanTake (n : ℕ) (part : Part) (places : List (Option (NodePlace D))) : Type 0 where
    pub slot : IsSlot places n
    pub replica : HasReplica (place_of places n)
    pub some : (r : ReplicaParts D) (held : Vec HeldTicket Global) → place_of places n ≡ Some (record { node = Replica r; held = held }) → IsSome (running_point r.job)
    pub wanted : (r : ReplicaParts D) (held : Vec HeldTicket Global) → place_of places n ≡ Some (record { node = Replica r; held = held })
        → IfSome (running_point r.job) (λ j. (meta : FileMetaData) → meta_in j.copy.want.files part.name ≡ Some meta → meta ≡ part.meta)

  -- it took it, or did not lack it
  pub record TakesIn (cells : D → Cells) (n : ℕ) (part : Part) (old new : List (Option (NodePlace D))) : Type 0 where
    pub at : IsReplicaAt old n
    pub replica : ReplicaParts D
    pub moves : MovesOne n (record { node = Replica replica; held = at.held }) old new
    pub takes : TakesPart cells part at.parts replica
