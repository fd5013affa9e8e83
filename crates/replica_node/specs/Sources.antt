-- What a replica's files read, beside what they read at a source.
use Rattle.std.specs.Prelude.{◌≡◌, ◌⊎◌, ◌<◌, Option, IfSome, IsSomeAnd, Some}
use Rattle.std.specs.List.{AllByRecursion}
use Rattle.disk_model.specs.Disk.{Name, Content, Cells, reads_of}
use Rattle.file_deleter.specs.Holdings.{Holdings, count_of, times}
use Rattle.copy_state.specs.declared.state.CopyState.{CopyState}
use Rattle.copy_state.specs.States.{meta_names}
use Rattle.copy_job.specs.Jobs.{Job, reads_under}
use Rattle.copy_job.specs.Parts.{placed_to}
use Rattle.std.specs.Prelude.{ℕ, Bool}
use Rattle.replica_opening.specs.Known.{IsLasting}
use Rattle.replica_node.specs.declared.job.PointJob.{PointJob}
use Rattle.replica_node.specs.declared.parts.ReplicaParts.{ReplicaParts}
use Rattle.replica_node.specs.declared.taking.NodeParts.{NodeParts}

-- what the job has of its files reads as at the source
pub record CopiesFrom (source reads : Name → Content) (j : Job) : Type 0 where
  pub each : (q : Name) → 0 < times (meta_names j.want.files) q → times j.missing q ≡ 0 → reads_under j.parts reads q ≡ source q

-- the job wants a file of this name
abbrev pub IsWantedName : Option PointJob → Name → Type 0
IsWantedName job q = IsSomeAnd job (λ j. 0 < times (meta_names j.copy.want.files) q)

-- each file of a segment that is held reads as at the source
pub record HeldReadAs (source : Name → Content) (cells : Cells) (holdings : Holdings) : Type 0 where
  pub each : (q : Name) → IsLasting q → 0 < count_of holdings q → (cells q).now ≡ source q

module _ {D : Type 0} where
  -- each file of a segment that the replica holds, and each that its job has, reads as at the source
  pub record IsSourced (source : Name → Content) (cells : D → Cells) (p : ReplicaParts D) : Type 0 where
    pub held : HeldReadAs source (cells p.dir) p.files
    pub job : IfSome p.job (λ j. CopiesFrom source (reads_of (cells p.dir)) j.copy)
    pub merges : AllByRecursion (CopiesFrom source (reads_of (cells p.dir))) p.copies.running

  -- where it was so, it is so
  abbrev pub KeepsSource : (D → Cells) → ReplicaParts D → ReplicaParts D → Type 0
  KeepsSource cells old new = (source : Name → Content) → IsSourced source cells old → IsSourced source cells new

  -- what is held was held before, or is wanted by the job
  abbrev pub HoldsOnly : ReplicaParts D → ReplicaParts D → Type 0
  HoldsOnly old new = (q : Name) → IsLasting q → 0 < count_of new.files q → (0 < count_of old.files q) ⊎ IsWantedName old.job q

  -- what is held was held before, or is a file of the state
  abbrev pub HoldsOnlyWanted : CopyState → ReplicaParts D → ReplicaParts D → Type 0
  HoldsOnlyWanted state old new = (q : Name) → IsLasting q → 0 < count_of new.files q → (0 < count_of old.files q) ⊎ (0 < times (meta_names state.files) q)

  -- the point is as before, and so is the job, but that its first parts have their own names, and that it may be stopped
  pub record IsStillCopying (old new : ReplicaParts D) (j : PointJob) : Type 0 where
    pub searchers : new.searchers ≡ old.searchers
    pub infos : new.infos ≡ old.infos
    pub segs : new.segs ≡ old.segs
    pub copies : new.copies ≡ old.copies
    pub placed : ℕ
    pub halted : Bool
    pub job : new.job ≡ Some (record j { copy = record j.copy { parts = placed_to placed j.copy.parts }; stopped = halted })

  -- the node searches, committed and can read what the replica did
  pub record IsTakenApart (p : ReplicaParts D) (n : NodeParts D) : Type 0 where
    pub searchers : n.searchers ≡ p.searchers
    pub commits : n.commits ≡ p.commits
    pub infos : n.infos ≡ p.infos
    pub segs : n.segs ≡ p.segs
