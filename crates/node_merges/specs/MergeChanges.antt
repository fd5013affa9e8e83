-- What the steps of a merge make of the primary and of the replicas to which its files are copied.
use Rattle.std.specs.Prelude.{ℕ, ◌≡◌, ◌≢◌, ◌≤◌, ◌<◌, ◌+◌, ◌⊎◌, ◌++◌, ◌∷◌, [], true, false, Bool, List, Option, Some, None, Result, IsSome, IsSomeAnd, IfSome, IfOk}
use Rattle.std.specs.List.{All, AllByRecursion}
use Rattle.nrt_base.specs.declared.numbers.SegNo.{SegNo}
use Rattle.disk_model.specs.Disk.{Name, Content, Cells, reads_of, same}
use Rattle.file_deleter.specs.Holdings.{Holdings, times}
use Rattle.file_names.specs.Names.{part_name_of, temp_name_of}
use Rattle.file_names.specs.declared.composed.SegPart.TheVariants.{Docs}
use Rattle.searcher_switch.specs.Appearing.{NoneAppears, AppearsOnly}
use Rattle.copy_state.specs.declared.state.CopyState.{CopyState}
use Rattle.copy_state.specs.declared.meta.FileMetaData.{FileMetaData}
use Rattle.copy_state.specs.States.{meta_names, meta_in, IsCopyState}
use Rattle.copy_job.specs.declared.copying.Part.{Part}
use Rattle.copy_job.specs.Jobs.{Job, reads_under}
use Rattle.seg_merge.specs.declared.task.MergeTask.{MergeTask}
use Rattle.seg_merge.specs.declared.task.Merged.{Merged}
use Rattle.index_primary.specs.declared.parts.PrimaryParts.{PrimaryParts}
use Rattle.index_primary.specs.declared.parts.PublishFault.{PublishFault}
use Rattle.index_primary.specs.declared.states.Out.{Out}
use Rattle.index_primary.specs.Cut.{last_number}
use Rattle.index_primary.specs.Merges.{merges_without}
use Rattle.index_primary.specs.Held.{IsOwnFile}
use Rattle.index_primary.specs.States.{out_of, is_out, states_without, IsStateOf}
use Rattle.index_primary.specs.Written.{names_of, ReadsSo}
use Rattle.index_primary.specs.Primary.{IsPrimary, KeepsHeldBytes, loose_of}
use Rattle.index_primary.specs.Calls.{FillsUndrawn, DrawsOnly, HoldsNoNew}
use Rattle.cluster_nodes.specs.Given.{AnswersMerge, IsFitTask, IsReadied, IsFilledMerge, IsCutOver, KeepsDocuments, SettlesCopy}
use Rattle.cluster_nodes.specs.JobChanges.{IsNextToFetch}
use Rattle.replica_node.specs.declared.parts.ReplicaParts.{ReplicaParts}
use Rattle.replica_node.specs.Merges.{copy_at, copies_with, copies_without, copies_seen, IsSegmentState, SharesNone}
use Rattle.replica_node.specs.Jobs.{merge_job_on, job_seen, running_point}
use Rattle.replica_node.specs.Replica.{IsWholeReplica, AreStanding}
use Rattle.replica_node.specs.Sources.{IsSourced, KeepsSource}
use Rattle.node_merges.specs.declared.copies.CopyStep.{CopyStep}
use Rattle.node_merges.specs.declared.copies.CopyStep.TheVariants.{Gone, Waits, Complete, Wants}

-- the first file that the job wants is that of the stored documents of this segment
abbrev pub is_copy_of : ℕ → Job → Bool
is_copy_of seg j = elim j.want.files [ [] ↦ false | f ∷ fs ↦ same f.0 (part_name_of seg Docs) ]

-- the name is of a file that the copy of this number wants, or the temporary name of one that it lacks
abbrev pub IsNameOfCopy : ℕ → Job → Name → Type 0
IsNameOfCopy number c q = (0 < times (meta_names c.want.files) q) ⊎ ((x : Name) × (0 < times c.missing x) × (q ≡ temp_name_of x number))

module _ {D : Type 0} where
  -- ---- the primary

  -- A merge was asked for, and started or not: the primary wrote nothing, and holds no other file than before.
  pub record AsksMerge (cells : D → Cells) (factor : ℕ) (old new : PrimaryParts D) (result : Result (Option MergeTask) PublishFault) : Type 0 where
    pub answers : AnswersMerge factor old new result
    pub fit : IfOk result (λ task. IfSome task IsFitTask)
    pub stays : KeepsHeldBytes cells old new
    pub no_new : HoldsNoNew old new
    pub drawn : DrawsOnly old new
    pub whole : IsPrimary cells new

  -- The files of the merged segment are written, and a copy state that names them is out.
  pub record ReadiesMerge (cells : D → Cells) (merged : Merged) (state : CopyState) (old new : PrimaryParts D) : Type 0 where
    pub of_merged : IsStateOf (reads_of (cells new.dir)) old.point_infos (names_of merged.files.files) (last_number old.commits) old.completed state
    pub copy : IsCopyState state
    pub states : new.states ≡ old.states ++ out_of state ∷ []
    pub merges : IsReadied merged old new
    pub written : All (ReadsSo (cells new.dir)) merged.files.files
    pub others : new ≡ record old { dir = new.dir; files = new.files; states = new.states; merges = new.merges }
    pub stays : KeepsHeldBytes cells old new
    pub fresh : FillsUndrawn old new
    pub drawn : DrawsOnly old new
    pub appears : AppearsOnly (IsOwnFile old.infos (loose_of old)) (cells old.dir) (cells new.dir)
    pub whole : IsPrimary cells new

  -- The merge can be cut over: its files are written, no publish is in flight, and its copy state is out.
  pub record MayCut (seg : SegNo) (state : CopyState) (p : PrimaryParts D) : Type 0 where
    pub ready : IsFilledMerge p seg
    pub calm : p.publish ≡ None
    pub out : is_out (out_of state) p.states ≡ true

  -- The merge was cut over, and its copy state was given back.
  pub record CutsMerge (cells : D → Cells) (seg : SegNo) (state : CopyState) (old new : PrimaryParts D) : Type 0 where
    pub cut : IsCutOver seg old new
    pub documents : KeepsDocuments old new
    pub states : new.states ≡ states_without (out_of state) old.states
    pub others : new ≡ record old {
      dir = new.dir;
      files = new.files;
      infos = new.infos;
      segs = new.segs;
      names = new.names;
      states = new.states;
      merges = new.merges;
      has_cut_over = new.has_cut_over;
      completed = new.completed;
    }
    pub stays : KeepsHeldBytes cells old new
    pub fresh : FillsUndrawn old new
    pub drawn : DrawsOnly old new
    pub appears : AppearsOnly (IsOwnFile old.infos (loose_of old)) (cells old.dir) (cells new.dir)
    pub whole : IsPrimary cells new

  -- The disk failed: the merge has ended, and these copy states are out still. The primary holds nothing more, and what came to stand has names
  -- of its own segments.
  pub record GivesUpMerge (cells : D → Cells) (seg : SegNo) (still : List Out → List Out) (old new : PrimaryParts D) : Type 0 where
    pub merges : new.merges ≡ merges_without seg.0 old.merges
    pub states : new.states ≡ still old.states
    pub others : new ≡ record old { dir = new.dir; files = new.files; states = new.states; merges = new.merges }
    pub stays : KeepsHeldBytes cells old new
    pub no_new : HoldsNoNew old new
    pub drawn : DrawsOnly old new
    pub appears : AppearsOnly (IsOwnFile old.infos (loose_of old)) (cells old.dir) (cells new.dir)
    pub whole : IsPrimary cells new

  -- ---- a replica

  -- The state of a merged segment can be copied to a replica: it saw no later generation, and no job, no copy and no pending file shares a name
  -- with it.
  pub record MaySend (state : CopyState) (r : ReplicaParts D) : Type 0 where
    pub seen : r.seen.0 ≤ state.primary_gen.0
    pub segment : IsSegmentState state
    pub job : IfSome r.job (λ j. SharesNone (meta_names j.copy.want.files) (meta_names state.files))
    pub copies : AllByRecursion (λ c. SharesNone (meta_names c.want.files) (meta_names state.files)) r.copies.running
    pub pending : SharesNone (meta_names r.copies.pending.files) (meta_names state.files)

  -- A copy of it began under this number; what a higher generation ended, a stopped job among it, has ended before.
  pub record SendsMerged (cells : D → Cells) (state : CopyState) (number : ℕ) (old new : ReplicaParts D) : Type 0 where
    pub next : number ≡ old.jobs + 1
    pub jobs : new.jobs ≡ old.jobs + 1
    pub seen : new.seen ≡ state.primary_gen
    pub holdings : Holdings
    pub copies : new.copies ≡ record (copies_seen old.seen.0 state.primary_gen.0 old.copies) {
      running = (copies_seen old.seen.0 state.primary_gen.0 old.copies).running ++ merge_job_on number state holdings ∷ [];
    }
    pub job : new.job ≡ job_seen old.seen.0 state.primary_gen.0 old.job
    pub others : new ≡ record old { dir = new.dir; files = new.files; seen = new.seen; jobs = new.jobs; job = new.job; copies = new.copies }
    pub whole : IsWholeReplica cells new
    pub standing : AreStanding cells old → AreStanding cells new
    pub sourced : KeepsSource cells old new
    pub appears : NoneAppears (cells old.dir) (cells new.dir)

  -- what is next to do for the copy of this number, where it is of this segment
  abbrev pub IsStepOf : ℕ → ℕ → ReplicaParts D → CopyStep → Type 0
  IsStepOf seg number r Gone = (c : Job) → copy_at number r.copies.running ≡ Some c → is_copy_of seg c ≡ false
  IsStepOf seg number r Complete = IsSomeAnd (copy_at number r.copies.running) (λ c. (is_copy_of seg c ≡ true) × (c.missing ≡ []))
  IsStepOf seg number r Waits = IsSomeAnd (copy_at number r.copies.running) (λ c. (is_copy_of seg c ≡ true) × (c.missing ≢ [])) × IsSome (running_point r.job)
  IsStepOf seg number r (Wants q meta) = IsSomeAnd (copy_at number r.copies.running) (λ c. (is_copy_of seg c ≡ true) × IsNextToFetch c (Some (q, meta))) × (running_point r.job ≡ None)

  -- The copy of this number runs, and wants this part with the part's metadata if it wants it.
  pub record MayTakeMerged (number : ℕ) (part : Part) (r : ReplicaParts D) : Type 0 where
    pub runs : IsSome (copy_at number r.copies.running)
    pub wanted : IfSome (copy_at number r.copies.running) (λ c. (meta : FileMetaData) → meta_in c.want.files part.name ≡ Some meta → meta ≡ part.meta)

  -- The part is in, or the copy did not lack it: only that copy was changed, which is of the same copy state; what appears is the part's temporary
  -- name, where it lacked it.
  pub record TakesMerged (cells : D → Cells) (number : ℕ) (part : Part) (old new : ReplicaParts D) : Type 0 where
    pub others : new ≡ record old { dir = new.dir; files = new.files; copies = new.copies }
    pub pending : new.copies.pending ≡ old.copies.pending
    pub copies : IfSome (copy_at number old.copies.running) (λ c. IsSomeAnd (copy_at number new.copies.running) (λ d. (d.want ≡ c.want) × (new.copies.running ≡ copies_with number d old.copies.running)))
    pub whole : IsWholeReplica cells new
    pub standing : AreStanding cells old → AreStanding cells new
    pub sourced : (source : Name → Content) → source part.name ≡ Some part.bytes → IsSourced source cells old → IsSourced source cells new
    pub appears : IfSome (copy_at number old.copies.running) (λ c. AppearsOnly (λ q. (0 < times c.missing part.name) × (q ≡ temp_name_of part.name number)) (cells old.dir) (cells new.dir))

  -- The copy of this number runs, and misses nothing.
  pub record MaySettle (number : ℕ) (r : ReplicaParts D) : Type 0 where
    pub runs : IsSome (copy_at number r.copies.running)
    pub complete : IfSome (copy_at number r.copies.running) (λ c. c.missing ≡ [])

  -- The copy has ended, and its files are pending.
  pub record SettlesMerged (cells : D → Cells) (number : ℕ) (old new : ReplicaParts D) : Type 0 where
    pub others : new ≡ record old { dir = new.dir; files = new.files; copies = new.copies; known = new.known }
    pub settles : IfSome (copy_at number old.copies.running) (λ c. SettlesCopy number c old new)
    pub whole : IsWholeReplica cells new
    pub standing : AreStanding cells old → AreStanding cells new
    pub sourced : KeepsSource cells old new
    pub appears : IfSome (copy_at number old.copies.running) (λ c. AppearsOnly (λ q. 0 < times (meta_names c.want.files) q) (cells old.dir) (cells new.dir))

  -- The disk failed: the copy has ended, and what it had was given back; files read on as they are at a source that reads so, and what
  -- appears has names of the copy.
  pub record LosesMerged (cells : D → Cells) (Reads : (Name → Content) → Type 0) (number : ℕ) (old new : ReplicaParts D) : Type 0 where
    pub others : new ≡ record old { dir = new.dir; files = new.files; copies = new.copies; known = new.known }
    pub copies : new.copies ≡ record old.copies { running = copies_without number old.copies.running }
    pub whole : IsWholeReplica cells new
    pub standing : AreStanding cells old → AreStanding cells new
    pub sourced : (source : Name → Content) → Reads source → IsSourced source cells old → IsSourced source cells new
    pub appears : IfSome (copy_at number old.copies.running) (λ c. AppearsOnly (IsNameOfCopy number c) (cells old.dir) (cells new.dir))

  -- The copy has ended, and what it had was given back.
  pub record DropsMerged (cells : D → Cells) (number : ℕ) (old new : ReplicaParts D) : Type 0 where
    pub others : new ≡ record old { dir = new.dir; files = new.files; copies = new.copies }
    pub copies : new.copies ≡ record old.copies { running = copies_without number old.copies.running }
    pub whole : IsWholeReplica cells new
    pub standing : AreStanding cells old → AreStanding cells new
    pub sourced : KeepsSource cells old new
    pub appears : NoneAppears (cells old.dir) (cells new.dir)
