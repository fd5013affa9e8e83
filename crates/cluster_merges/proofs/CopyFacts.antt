-- What is known of the copies that run where a merge is copied, and of what is next to do for one.
use Rattle.std.proofs.Common.{◌≡◌, ◌≢◌, ◌≤◌, ◌<◌, ◌==◌, ◌&&◌, if◌then◌else◌, ℕ, Bool, true, false, true≢false, List, [], ◌∷◌, map, length, Some, None, Option, Vec, Global, is_some, refl, ap, ◌∙◌, sym, subst, arith}
use Rattle.std.specs.Prelude.{IfSome, IsSome, IsSomeAnd, ⊤}
use Rattle.std.proofs.lemmas.Bool.{eq-eqb}
use Rattle.nrt_base.specs.declared.numbers.NodeNo.{NodeNo}
use Rattle.disk_model.specs.Disk.{Name, Content, Cells, same}
use Rattle.file_deleter.specs.Holdings.{times}
use Rattle.file_names.specs.Names.{part_name_of}
use Rattle.file_names.specs.declared.composed.SegPart.TheVariants.{Docs}
use Rattle.codec_frame.specs.Bytes.{AreBytes}
use Rattle.codec_frame.specs.Checking.{HasFooter}
use Rattle.copy_state.specs.declared.meta.FileMetaData.{FileMetaData}
use Rattle.copy_state.specs.declared.state.CopyState.{CopyState}
use Rattle.copy_state.specs.States.{meta_names, meta_in}
use Rattle.copy_state.specs.Meta.{IsMetaOf}
use Rattle.copy_state.proofs.MetaLaws.{one_meta}
use Rattle.copy_job.specs.Jobs.{Job}
use Rattle.index_primary.specs.declared.parts.PrimaryParts.{PrimaryParts}
use Rattle.replica_opening.specs.Known.{HasMeta}
use Rattle.replica_node.specs.declared.job.PointJob.{PointJob}
use Rattle.replica_node.specs.Jobs.{running_point}
use Rattle.replica_node.specs.declared.parts.ReplicaParts.{ReplicaParts}
use Rattle.replica_node.specs.Merges.{copy_at}
use Rattle.replica_node.specs.Replica.{IsWholeReplica}
use Rattle.replica_node.proofs.Metas.{meta_some}
use Rattle.history_rules.specs.Nodes.{IsNode, is_at, primary_of}
use Rattle.history_rules.specs.Points.{IsDrawnFile}
use Rattle.history_tables.specs.declared.jobs.Job.{Job as LineJob}
use Rattle.history_book.specs.Log.{Log, printed}
use Rattle.history_book.specs.Jobs.{job_at}
use Rattle.merge_tasks.specs.Merging.{Sheet, merge_on}
use Rattle.merge_tasks.specs.declared.tasks.Spread.{Spread}
use Rattle.merge_tasks.specs.Board.{Board, open_merge, spread_at, has_copy_task, TasksShow}
use Rattle.merge_tasks.proofs.BoardRows.{some_open}
use Rattle.cluster_nodes.specs.declared.held.HeldTicket.{HeldTicket}
use Rattle.cluster_nodes.specs.declared.nodes.Node.{Node}
use Rattle.cluster_nodes.specs.declared.nodes.Node.TheVariants.{Primary, Replica, Down}
use Rattle.cluster_nodes.specs.declared.nodes.NodePlace.{NodePlace}
use Rattle.cluster_nodes.specs.Places.{place_of, IsSlot}
use Rattle.cluster_nodes.specs.Outs.{jobs_like}
use Rattle.cluster_nodes.specs.JobChanges.{HasReplica, IsNextToFetch}
use Rattle.cluster_nodes.specs.JobPlaces.{CanRead, ReadsIn}
use Rattle.node_merges.specs.declared.copies.CopyStep.{CopyStep}
use Rattle.node_merges.specs.declared.copies.CopyStep.TheVariants.{Gone, Waits, Complete, Wants}
use Rattle.node_merges.specs.MergeChanges.{is_copy_of, IsStepOf, MaySettle}
use Rattle.node_merges.specs.MergePlaces.{IsReplicaIn, IsStepAt}
use Rattle.cluster_state.specs.Run.{is_docs_of, misses_file}
use Rattle.cluster_state.specs.MergedCopies.{told_copy, place_copies}
use Rattle.cluster_state.specs.State.{PlaceShows}
use Rattle.cluster_state.specs.Files.{JobShows, NodeFiles}
use Rattle.cluster_state.specs.Merging.{AreSentCopies, PrimaryMerges, NodeMerges}
use Rattle.cluster_state.proofs.Frames.{some_at, slot_of}
use Rattle.cluster_state.proofs.FileFrames.{Both, both_of}
use Rattle.cluster_state.proofs.FileJobs.{primary_here, point_goes}
use Rattle.cluster_merges.specs.Running.{AllShown}
use Rattle.cluster_merges.proofs.CutPaths.{merge_stays}
use Rattle.cluster_merges.proofs.AtPrimary.{primary_in_place}
use Rattle.cluster_merges.proofs.WrittenMerges.{IsWrittenMerge, meta_of_bytes, state_lasts, state_meta, state_drawn, state_footer, copy_is, rest_counted, written_merge, state_named}
use Rattle.cluster_merges.proofs.EndedCopies.{IsCopyGone}

-- what is written of a row whose copy has a task
pub spread_some : (o : Option Spread) (n job : ℕ) → has_copy_task n job o ≡ true → IsSome o
spread_some None n job is = absurd (true≢false (sym is))
spread_some (Some s) n job is = refl

-- a copy of which nothing is missing can be settled
complete_runs : (seg : ℕ) (o : Option Job) → IsSomeAnd o (λ c. (is_copy_of seg c ≡ true) × (c.missing ≡ [])) → IsSome o × IfSome o (λ c. c.missing ≡ [])
complete_runs seg None is = absurd is
complete_runs seg (Some c) is = (refl, is.1)

-- the log shows a job where one runs at the replica
job_shown : (source : Name → Content) (log : Log) (n : ℕ) (o : Option LineJob) (j : Option PointJob) → JobShows source log n o j → IsSome (running_point j) → IsSome o
job_shown source log n None None shows some = absurd (true≢false (sym some))
job_shown source log n None (Some j) shows some = absurd (true≢false (sym some ∙ ap (λ (b : Bool). is_some (if b then None else Some j)) shows.stopped))
job_shown source log n (Some job) j shows some = refl

-- and none where none runs
none_shown : (source : Name → Content) (log : Log) (n : ℕ) (o : Option LineJob) (j : Option PointJob) → JobShows source log n o j → running_point j ≡ None → o ≡ None
none_shown source log n None j shows none = refl
none_shown source log n (Some job) None shows none = absurd shows
none_shown source log n (Some job) (Some j) shows none = absurd (true≢false (ap is_some (sym (point_goes j shows.runs) ∙ none)))

-- the log has the merge of a copy in flight
pub copy_on : (size : ℕ) (log : Log) (board : Board) (seg n job : ℕ) → TasksShow size log board → has_copy_task n job (spread_at (open_merge seg board.rows)) ≡ true → merge_on seg log ≢ None
copy_on size log board seg n job tasks has = merge_stays size log board seg tasks (some_open board.rows seg (spread_some (spread_at (open_merge seg board.rows)) n job has))

some_at_least : (o : Option Job) (P : Job → Type 0) → IsSomeAnd o P → IsSome o
some_at_least None P none = absurd none
some_at_least (Some c) P is = refl

-- ---- whether a copy misses a file

abbrev is_short : List Name → Bool
is_short [] = false
is_short (q ∷ qs) = true

short_some : (missing : List Name) → missing ≢ [] → is_short missing ≡ true
short_some [] some = absurd (some refl)
short_some (q ∷ qs) some = refl

short_told : (missing : List Name) → elim missing [ [] ↦ false | q ∷ qs ↦ true ] ≡ is_short missing
short_told [] = refl
short_told (q ∷ qs) = refl

docs_told : (seg : ℕ) (files : List (Name × FileMetaData)) → is_docs_of seg (elim files [ [] ↦ None | f ∷ fs ↦ Some f.0 ]) ≡ elim files [ [] ↦ false | f ∷ fs ↦ same f.0 (part_name_of seg Docs) ]
docs_told seg [] = refl
docs_told seg (f ∷ fs) = refl

-- the copy of this segment misses a file
abbrev copy_short : ℕ → Option Job → Bool
copy_short seg None = false
copy_short seg (Some c) = is_copy_of seg c && is_short c.missing

misses_told : (seg number : ℕ) (copies : List Job) → misses_file seg number (map told_copy copies) ≡ copy_short seg (copy_at number copies)
misses_told seg number [] = refl
misses_told seg number (c ∷ copies) = by (c.number == number) (misses_told seg number copies)
  where
    by : (t : Bool) → misses_file seg number (map told_copy copies) ≡ copy_short seg (copy_at number copies)
        → (if t then is_docs_of seg (told_copy c).first && (told_copy c).misses else misses_file seg number (map told_copy copies)) ≡ copy_short seg (if t then Some c else copy_at number copies)
    by true rest = λ i. docs_told seg c.want.files i && short_told c.missing i
    by false rest = rest

-- what is to be done is to fetch a file, or to wait with that
abbrev is_fetch : CopyStep → Bool
is_fetch Gone = false
is_fetch Complete = false
is_fetch Waits = true
is_fetch (Wants q meta) = true

gone_misses : (seg : ℕ) (o : Option Job) → ((c : Job) → o ≡ Some c → is_copy_of seg c ≡ false) → copy_short seg o ≡ false
gone_misses seg None other = refl
gone_misses seg (Some c) other = ap (λ (t : Bool). t && is_short c.missing) (other c refl)

short_copy : (seg : ℕ) (o : Option Job) (t : Bool) (P : Job → Type 0) → ((c : Job) → P c → is_short c.missing ≡ t) → IsSomeAnd o (λ c. (is_copy_of seg c ≡ true) × P c) → copy_short seg o ≡ t
short_copy seg None t P tells is = absurd is
short_copy seg (Some c) t P tells is = ap (λ (b : Bool). b && is_short c.missing) is.0 ∙ tells c is.1

module _ {D : Type 0} where
  -- a copy misses a file exactly where one is to be fetched
  step_misses : (seg number : ℕ) (step : CopyStep) (r : ReplicaParts D) → IsStepOf seg number r step → copy_short seg (copy_at number r.copies.running) ≡ is_fetch step
  step_misses seg number Gone r is = gone_misses seg (copy_at number r.copies.running) is
  step_misses seg number Complete r is = short_copy seg (copy_at number r.copies.running) false (λ (c : Job). c.missing ≡ []) (λ c none. ap is_short none) is
  step_misses seg number Waits r is = short_copy seg (copy_at number r.copies.running) true (λ (c : Job). c.missing ≢ []) (λ c some. short_some c.missing some) is.0
  step_misses seg number (Wants q meta) r is =
      short_copy seg (copy_at number r.copies.running) true (λ (c : Job). IsNextToFetch c (Some (q, meta))) (λ c next. ap is_short next.1) is.0

  pub place_misses : (seg number : ℕ) (step : CopyStep) (o : Option (NodePlace D)) → IsStepAt seg number o step → misses_file seg number (place_copies o) ≡ is_fetch step
  place_misses seg number step None is = sym (ap is_fetch is)
  place_misses seg number step (Some place) is = of_node place.node place.held is
    where
      of_node : (x : Node D) (held : Vec HeldTicket Global) → IsStepAt seg number (Some (record { node = x; held = held })) step → misses_file seg number (place_copies (Some (record { node = x; held = held }))) ≡ is_fetch step
      of_node (Primary p) held is = sym (ap is_fetch is)
      of_node (Replica r) held is = misses_told seg number r.copies.running ∙ step_misses seg number step r is
      of_node (Down d) held is = sym (ap is_fetch is)

module _ {D : Type 0} where
  -- more than nothing is to be done at replicas alone
  pub step_replica : (seg number : ℕ) (step : CopyStep) (o : Option (NodePlace D)) → (step ≡ Gone → ⊥) → IsStepAt seg number o step → HasReplica o
  step_replica seg number step None some is = absurd (some is)
  step_replica seg number step (Some place) some is = of_node place.node place.held is
    where
      of_node : (x : Node D) (held : Vec HeldTicket Global) → IsStepAt seg number (Some (record { node = x; held = held })) step → HasReplica (Some (record { node = x; held = held }))
      of_node (Primary p) held is = absurd (some is)
      of_node (Replica r) held is = tt
      of_node (Down d) held is = absurd (some is)

  -- what is to be done for the copy at the replica that is there
  pub step_here : (places : List (Option (NodePlace D))) (n seg number : ℕ) (step : CopyStep) (r : ReplicaParts D) (held : Vec HeldTicket Global) → place_of places n ≡ Some (record { node = Replica r; held = held })
      → IsStepAt seg number (place_of places n) step → IsStepOf seg number r step
  step_here places n seg number step r held there is = subst (λ (o : Option (NodePlace D)). IsStepAt seg number o step) there is

  -- so it is of what stands there, where that is a replica
  abbrev OfReplica : (ReplicaParts D → Type 0) → Node D → Type 0
  OfReplica P (Primary p) = ⊤
  OfReplica P (Replica r) = P r
  OfReplica P (Down d) = ⊤

  -- one replica stands there
  pub at_replica : (P : ReplicaParts D → Type 0) (places : List (Option (NodePlace D))) (n : ℕ) (r s : ReplicaParts D) (held kept : Vec HeldTicket Global) → place_of places n ≡ Some (record { node = Replica r; held = held }) → place_of places n ≡ Some (record { node = Replica s; held = kept }) → P r → P s
  at_replica P places n r s held kept there here is = some_at (λ (z : NodePlace D). OfReplica P z.node) (Some (record { node = Replica r; held = held })) (record { node = Replica s; held = kept }) (sym there ∙ here) is

pub not_complete : Complete ≡ Gone → ⊥
not_complete e = absurd (cc)

pub not_waits : Waits ≡ Gone → ⊥
not_waits e = absurd (cc)

pub not_wants : (q : Name) (meta : FileMetaData) → Wants q meta ≡ Gone → ⊥
not_wants q meta e = absurd (cc)

module _ {D : Type 0} (cells : D → Cells) (b : Sheet) (board : Board) (places : List (Option (NodePlace D))) (all : AllShown cells b board places) where
  pub slot_here : (n : ℕ) → IsNode b.nodes n → IsSlot places n
  slot_here n node = slot_of cells b.log b.nodes n places node all.0

  pub whole_here : (n : ℕ) (r : ReplicaParts D) (held : Vec HeldTicket Global) → IsNode b.nodes n → place_of places n ≡ Some (record { node = Replica r; held = held }) → IsWholeReplica cells r
  whole_here n r held node there = (some_at (PlaceShows cells b.log n) (place_of places n) (record { node = Replica r; held = held }) there (all.0.each n node)).node_shows.whole

  pub sent_here : (n : ℕ) (r : ReplicaParts D) (held : Vec HeldTicket Global) → IsNode b.nodes n → place_of places n ≡ Some (record { node = Replica r; held = held }) → AreSentCopies board.rows n r.copies.running
  sent_here n r held node there =
      some_at (λ (z : NodePlace D). NodeMerges b.log b.cut (λ o. jobs_like places o b.nodes) board.rows n z.node) (place_of places n) (record { node = Replica r; held = held }) there (all.2.each n node)

  -- a copy waits while the log shows a job at its node
  pub job_runs : (n seg number : ℕ) → IsNode b.nodes n → IsStepAt seg number (place_of places n) Waits → IsSome (job_at n b.log)
  job_runs n seg number node is = by (place_of places n) is (all.1.each n node)
    where
      of_node : (x : Node D) (held : Vec HeldTicket Global) → IsStepAt seg number (Some (record { node = x; held = held })) Waits → NodeFiles all.1.source cells b.log (λ o. jobs_like places o b.nodes) n x → IsSome (job_at n b.log)
      of_node (Primary p) held step files = absurd (not_waits step)
      of_node (Replica r) held step files = job_shown all.1.source b.log n (job_at n b.log) r.job files.job step.1
      of_node (Down d) held step files = absurd (not_waits step)

      by : (o : Option (NodePlace D)) → IsStepAt seg number o Waits → IsSomeAnd o (λ z. NodeFiles all.1.source cells b.log (λ o. jobs_like places o b.nodes) n z.node) → IsSome (job_at n b.log)
      by None step files = absurd files
      by (Some z) step files = of_node z.node z.held step files

  -- a file is to be fetched while the log shows none
  pub no_job : (n seg number : ℕ) (q : Name) (meta : FileMetaData) → IsNode b.nodes n → IsStepAt seg number (place_of places n) (Wants q meta) → job_at n b.log ≡ None
  no_job n seg number q meta node is = by (place_of places n) is (all.1.each n node)
    where
      of_node : (x : Node D) (held : Vec HeldTicket Global) → IsStepAt seg number (Some (record { node = x; held = held })) (Wants q meta) → NodeFiles all.1.source cells b.log (λ o. jobs_like places o b.nodes) n x → job_at n b.log ≡ None
      of_node (Primary p) held step files = absurd (not_wants q meta step)
      of_node (Replica r) held step files = none_shown all.1.source b.log n (job_at n b.log) r.job files.job step.1
      of_node (Down d) held step files = absurd (not_wants q meta step)

      by : (o : Option (NodePlace D)) → IsStepAt seg number o (Wants q meta) → IsSomeAnd o (λ z. NodeFiles all.1.source cells b.log (λ o. jobs_like places o b.nodes) n z.node) → job_at n b.log ≡ None
      by None step files = absurd files
      by (Some z) step files = of_node z.node z.held step files

  -- a copy of which nothing is missing can be settled
  pub may_settle : (n seg number : ℕ) → IsNode b.nodes n → IsStepAt seg number (place_of places n) Complete → IsReplicaIn (MaySettle number) n places
  may_settle n seg number node is = record {
    slot = slot_here n node;
    replica = step_replica seg number Complete (place_of places n) not_complete is;
    may = λ r held there. let both = complete_runs seg (copy_at number r.copies.running) (step_here places n seg number Complete r held there is) in record { runs = both.0; complete = both.1 };
  }

  -- a copy that misses a file runs, and can be ended where nothing changed there
  pub may_drop : (n seg number : ℕ) (q : Name) (meta : FileMetaData) (mid : List (Option (NodePlace D))) → IsNode b.nodes n → length mid ≡ length places → place_of mid n ≡ place_of places n → IsStepAt seg number (place_of places n) (Wants q meta)
      → IsReplicaIn (λ r. IsSome (copy_at number r.copies.running)) n mid
  may_drop n seg number q meta mid node count same is = record {
    slot = let slot = slot_here n node in (slot.0, subst (λ (k : ℕ). n ≤ k) (sym count) slot.1);
    replica = subst HasReplica (sym same) (step_replica seg number (Wants q meta) (place_of places n) (not_wants q meta) is);
    may = λ r held there. some_at_least (copy_at number r.copies.running) (λ c. (is_copy_of seg c ≡ true) × IsNextToFetch c (Some (q, meta))) (step_here places n seg number (Wants q meta) r held (sym same ∙ there) is).0;
  }

  module _ (p : NodeNo) (node_p : IsNode b.nodes p.0) (primary : primary_of (printed b.log) ≡ Some p) where
    is_primary : is_at (primary_of (printed b.log)) p.0 ≡ true
    is_primary = ap (λ (o : Option NodeNo). is_at o p.0) primary ∙ eq-eqb p.0 p.0 refl

    merges_at : (q : PrimaryParts D) (held : Vec HeldTicket Global) → place_of places p.0 ≡ Some (record { node = Primary q; held = held }) → PrimaryMerges b.log b.cut (λ o. jobs_like places o b.nodes) board.rows q
    merges_at q held there = some_at (λ (z : NodePlace D). NodeMerges b.log b.cut (λ o. jobs_like places o b.nodes) board.rows p.0 z.node) (place_of places p.0) (record { node = Primary q; held = held }) there (all.2.each p.0 node_p)

    -- the files of a row
    pub written_here : (seg : ℕ) (s : Spread) → spread_at (open_merge seg board.rows) ≡ Some s → IsWrittenMerge all.1.source seg s
    written_here seg s there =
        let here = primary_here cells b.log b.nodes p.0 places all.0 all.1 node_p is_primary in
        written_merge cells all.1.source b.log b.cut (λ o. jobs_like places o b.nodes) board.rows seg s here.at.parts here.shows.node_shows.whole here.files.held (merges_at here.at.parts here.at.held here.at.there) there

    -- a copy that runs, and the merge of whose files it is
    pub record CopyHere (c : Job) : Type 0 where
      pub seg : ℕ
      pub spread : Spread
      pub row : spread_at (open_merge seg board.rows) ≡ Some spread
      pub want : c.want ≡ spread.state
      pub written : IsWrittenMerge all.1.source seg spread

    pub copy_here : (n number : ℕ) (r : ReplicaParts D) (held : Vec HeldTicket Global) (c : Job) → IsNode b.nodes n → place_of places n ≡ Some (record { node = Replica r; held = held }) → copy_at number r.copies.running ≡ Some c → CopyHere c
    copy_here n number r held c node there at =
        let was = sent_here n r held node there number c at in
        record { seg = was.seg; spread = was.spread; row = was.row; want = was.want; written = written_here was.seg was.spread was.row }

    -- its files are drawn
    pub copy_drawn : (c : Job) → CopyHere c → (q : Name) → 0 < times (meta_names c.want.files) q → IsDrawnFile (printed b.log) q
    copy_drawn c here q some =
        state_drawn all.1.source here.seg here.spread here.written (printed b.log) all.1.drawn q (subst (λ (state : CopyState). 0 < times (meta_names state.files) q) here.want some)

    -- and have their metadata at the source
    pub copy_meta : (c : Job) → CopyHere c → (q : Name) (meta : FileMetaData) → meta_in c.want.files q ≡ Some meta → HasMeta all.1.source q meta
    copy_meta c here q meta is = state_meta all.1.source here.seg here.spread here.written q meta (subst (λ (state : CopyState). meta_in state.files q ≡ Some meta) here.want is)

    -- where nothing is to be done for it, no copy of the merge runs
    pub copy_gone : (n seg number : ℕ) → IsStepAt seg number (place_of places n) Gone → IsCopyGone cells seg n number board.rows places
    copy_gone n seg number is s there r held at_place c at want =
        true≢false (sym (copy_is all.1.source seg s (written_here seg s there) c want) ∙ step_here places n seg number Gone r held at_place is c at)

    -- ---- a file that it misses

    -- the copy that misses it, which wants it with this metadata
    pub record NextOfCopy (q : Name) (meta : FileMetaData) : Type 0 where
      pub copy : Job
      pub here : CopyHere copy
      pub listed : meta_in copy.want.files q ≡ Some meta

    pub next_file : (n seg number : ℕ) (q : Name) (meta : FileMetaData) → IsNode b.nodes n → IsStepAt seg number (place_of places n) (Wants q meta) → NextOfCopy q meta
    next_file n seg number q meta node is = by (place_of places n) refl is
      where
        of_copy : (r : ReplicaParts D) (held : Vec HeldTicket Global) → place_of places n ≡ Some (record { node = Replica r; held = held }) → (o : Option Job) → copy_at number r.copies.running ≡ o
            → IsSomeAnd o (λ c. (is_copy_of seg c ≡ true) × IsNextToFetch c (Some (q, meta))) → NextOfCopy q meta
        of_copy r held there None at none = absurd none
        of_copy r held there (Some c) at next = record { copy = c; here = copy_here n number r held c node there at; listed = next.1.2 }

        of_node : (x : Node D) (held : Vec HeldTicket Global) → place_of places n ≡ Some (record { node = x; held = held }) → IsStepAt seg number (Some (record { node = x; held = held })) (Wants q meta) → NextOfCopy q meta
        of_node (Primary z) held there step = absurd (not_wants q meta step)
        of_node (Replica r) held there step = of_copy r held there (copy_at number r.copies.running) refl step.0
        of_node (Down d) held there step = absurd (not_wants q meta step)

        by : (o : Option (NodePlace D)) → place_of places n ≡ o → IsStepAt seg number o (Wants q meta) → NextOfCopy q meta
        by None there step = absurd (not_wants q meta step)
        by (Some z) there step = of_node z.node z.held there step

    -- the primary can read it
    pub may_read : (q : Name) (meta : FileMetaData) → NextOfCopy q meta → CanRead p.0 q places
    may_read q meta next = record {
      slot = slot_here p.0 node_p;
      primary = primary_in_place cells b.log b.nodes p.0 places is_primary node_p all.0;
      out = λ z held there. state_named cells b.log b.cut (λ o. jobs_like places o b.nodes) board.rows next.here.seg next.here.spread z q meta (merges_at z held there) next.here.row
          (subst (λ (state : CopyState). meta_in state.files q ≡ Some meta) next.here.want next.listed);
    }

    -- what it reads is what the name means
    pub read_means : (q : Name) (meta : FileMetaData) (bytes : List ℕ) (new : List (Option (NodePlace D))) → NextOfCopy q meta → ReadsIn cells p.0 q bytes places new → all.1.source q ≡ Some bytes
    read_means q meta bytes new next read =
        let both = some_at (Both cells all.1.source b.log (λ o. jobs_like places o b.nodes) p.0) (place_of places p.0) (record { node = Primary read.at.parts; held = read.at.held }) read.at.there (both_of cells b.log b.nodes places all.0 all.1 p.0 node_p) in
        let named = (may_read q meta next).out read.at.parts read.at.held read.at.there in
        let lasts = state_lasts all.1.source next.here.seg next.here.spread next.here.written q (meta_some next.here.spread.state.files q meta (subst (λ (state : CopyState). meta_in state.files q ≡ Some meta) next.here.want next.listed)) in
        sym (both.1.held.each q lasts (rest_counted cells read.at.parts q both.0.node_shows.whole (omega (arith, named)))) ∙ read.there

    -- and of its metadata
    pub read_meta : (q : Name) (meta : FileMetaData) (bytes : List ℕ) → NextOfCopy q meta → all.1.source q ≡ Some bytes → IsMetaOf bytes meta
    read_meta q meta bytes next is =
        let has = copy_meta next.copy next.here q meta next.listed in
        subst (λ (x : List ℕ). IsMetaOf x meta) (meta_of_bytes all.1.source q meta bytes has is) has.meta_is

    -- and ends in a footer
    pub read_footer : (q : Name) (meta : FileMetaData) (bytes : List ℕ) → NextOfCopy q meta → all.1.source q ≡ Some bytes → AreBytes bytes → HasFooter bytes
    read_footer q meta bytes next is fits =
        state_footer all.1.source next.here.seg next.here.spread next.here.written q bytes
        (meta_some next.here.spread.state.files q meta (subst (λ (state : CopyState). meta_in state.files q ≡ Some meta) next.here.want next.listed)) is fits

    -- what was handed out to it has the metadata that is wanted
    pub carried_meta : (q : Name) (meta other : FileMetaData) (bytes : List ℕ) (c : Job) → CopyHere c → all.1.source q ≡ Some bytes → IsMetaOf bytes other → meta_in c.want.files q ≡ Some meta → meta ≡ other
    carried_meta q meta other bytes c here is other_is listed =
        let has = copy_meta c here q meta listed in
        one_meta bytes meta other (subst (λ (x : List ℕ). IsMetaOf x meta) (meta_of_bytes all.1.source q meta bytes has is) has.meta_is) other_is
