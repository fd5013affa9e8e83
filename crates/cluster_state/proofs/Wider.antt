-- What files mean, where names get a meaning that had none.
use Rattle.std.proofs.Common.{◌≡◌, ◌≤◌, ◌<◌, ℕ, zero, suc, Bool, true, false, true≢false, List, [], ◌∷◌, Some, None, Option, is_some, refl, ap, ◌∙◌, sym, subst, arith, if◌then◌else◌}
use Rattle.std.specs.Prelude.{IfSome, nat_lt}
use Rattle.std.specs.List.{All, AllZip, AllByRecursion}
use Rattle.std.specs.Option.{option_or}
use Rattle.std.proofs.lemmas.List.Elements.{All-contains}
use Rattle.std.proofs.lemmas.Bool.{lt-ltb}
use Rattle.nrt_base.specs.declared.doc.Doc.{Doc}
use Rattle.disk_model.specs.Disk.{Name, Content, Cells, reads_of}
use Rattle.file_deleter.specs.Holdings.{Holdings, count_of}
use Rattle.file_deleter.proofs.Keeping.{known_counted}
use Rattle.segment_infos.specs.declared.infos.Infos.{Infos}
use Rattle.segment_infos.specs.declared.infos.SegRecord.{SegRecord}
use Rattle.seg_reader.specs.Shown.{Shown}
use Rattle.seg_reader.specs.Stands.{IsLiveFileIn, IsSegmentIn, StandsFor}
use Rattle.copy_state.specs.declared.meta.FileMetaData.{FileMetaData}
use Rattle.copy_state.specs.States.{meta_in}
use Rattle.copy_job.specs.Jobs.{Job as CopyingJob}
use Rattle.index_primary.specs.declared.parts.PrimaryParts.{PrimaryParts}
use Rattle.index_primary.specs.declared.states.Out.{Out}
use Rattle.index_primary.specs.Primary.{IsPrimary}
use Rattle.replica_node.specs.Given.{IsLasting, HasMeta}
use Rattle.replica_node.specs.declared.job.PointJob.{PointJob}
use Rattle.replica_node.specs.declared.parts.ReplicaParts.{ReplicaParts}
use Rattle.replica_node.specs.Replica.{IsWholeReplica, HasMetas, IsMergeCopy}
use Rattle.replica_node.specs.Sources.{CopiesFrom, HeldReadAs, IsSourced}
use Rattle.replica_node.proofs.Metas.{listed_meta, some_meta}
use Rattle.history_rules.specs.Nodes.{Past}
use Rattle.history_rules.specs.Points.{documents_at}
use Rattle.history_tables.specs.declared.jobs.Job.{Job}
use Rattle.history_book.specs.Log.{Log, printed}
use Rattle.cluster_nodes.specs.Outs.{states_like}
use Rattle.cluster_state.specs.Files.{CopyShows, JobShows, PrimaryFiles}
use Rattle.cluster_state.specs.Disks.{IsPastPoint, PointsStay}
use Rattle.cluster_nodes.specs.KeptFiles.{KeepsPrimaryFiles, FillsPrimaryFiles}
use Rattle.cluster_state.proofs.Points.{point_stays}

-- what stands there stands there still
abbrev pub Extends : (Name → Content) → (Name → Content) → Type 0
Extends source wider = (q : Name) (bytes : List ℕ) → source q ≡ Some bytes → wider q ≡ Some bytes

-- the same of what is there under a name
pub some_wider : (source wider : Name → Content) (q : Name) → Extends source wider → is_some (source q) ≡ true → wider q ≡ source q
some_wider source wider q more there = go (source q) refl there
  where
    go : (o : Content) → source q ≡ o → is_some o ≡ true → wider q ≡ source q
    go None is none = absurd (true≢false (sym none))
    go (Some bytes) is some = more q bytes is ∙ sym is

-- ---- documents

live_wider : (source wider : Name → Content) (r : SegRecord) (live : Option (List ℕ)) → Extends source wider → IsLiveFileIn source r live → IsLiveFileIn wider r live
live_wider source wider r None more was = was
live_wider source wider r (Some bytes) more was = (was.0, more _ bytes was.1)

segment_wider : (source wider : Name → Content) (r : SegRecord) (shown : Shown) → Extends source wider → IsSegmentIn source r shown → IsSegmentIn wider r shown
segment_wider source wider r shown more was = record {
  parts = was.parts;
  files = record {
    docs = more _ was.parts.docs was.files.docs;
    post = more _ was.parts.post was.files.post;
    info = more _ was.parts.info was.files.info;
    live = live_wider source wider r was.parts.live more was.files.live;
  };
  segment = was.segment;
  live = was.live;
}

segments_wider : (source wider : Name → Content) (records : List SegRecord) (segs : List Shown) → Extends source wider → AllZip (IsSegmentIn source) records segs → AllZip (IsSegmentIn wider) records segs
segments_wider source wider [] [] more was = tt
segments_wider source wider [] (s ∷ ss) more was = absurd was
segments_wider source wider (r ∷ rs) [] more was = absurd was
segments_wider source wider (r ∷ rs) (s ∷ ss) more was = (segment_wider source wider r s more was.0, segments_wider source wider rs ss more was.1)

pub stands_wider : (source wider : Name → Content) (infos : Infos) (docs : List Doc) → Extends source wider → StandsFor source infos docs → StandsFor wider infos docs
stands_wider source wider infos docs more was = record {
  segs = was.segs;
  stands = record { each = segments_wider source wider infos.segs was.segs more was.stands.each; stand = was.stands.stand };
}

-- a point of the history
pub point_wider : (source wider : Name → Content) (past : Past) (infos : Infos) → Extends source wider → IsPastPoint source past infos → IsPastPoint wider past infos
point_wider source wider past infos more was = record {
  known = was.known;
  generation = was.generation;
  stands = stands_wider source wider infos (documents_at past infos.version.0) more was.stands;
  writable = was.writable;
}

-- ---- metadata

pub metas_wider : (source wider : Name → Content) (files : List (Name × FileMetaData)) → Extends source wider → All (λ f. HasMeta source f.0 f.1) files → All (λ f. HasMeta wider f.0 f.1) files
metas_wider source wider files more was = λ i d lt. let h = was i d lt in record { bytes = h.bytes; there = more _ h.bytes h.there; meta_is = h.meta_is }

pub meta_at_source : (source : Name → Content) (files : List (Name × FileMetaData)) (q : Name) (meta : FileMetaData) → All (λ f. HasMeta source f.0 f.1) files → meta_in files q ≡ Some meta → HasMeta source q meta
meta_at_source source files q meta all is = All-contains (λ (f : Name × FileMetaData). HasMeta source f.0 f.1) files (q, meta) all (listed_meta files q meta is)

-- ---- a replica

module _ {D : Type 0} (cells : D → Cells) (source wider : Name → Content) (more : Extends source wider) where
  held_wider : (r : ReplicaParts D) → IsWholeReplica cells r → HeldReadAs source (cells r.dir) r.files → HeldReadAs wider (cells r.dir) r.files
  held_wider r whole was = record {
    each = λ q lasting counted.
        let is = was.each q lasting counted in
        let there : is_some (source q) ≡ true = ap is_some (sym is) ∙ (whole.node.whole.names q ∙ known_counted r.files q counted) in
        is ∙ sym (some_wider source wider q more there);
  }

  copies_wider : (reads : Name → Content) (j : CopyingJob) → HasMetas reads j → CopiesFrom source reads j → CopiesFrom wider reads j
  copies_wider reads j has was = record {
    each = λ q wanted here.
        let is = was.each q wanted here in
        let meta = some_meta j.want.files q wanted in
        let h = has.each q meta.0 meta.1 here in
        is ∙ sym (some_wider source wider q more (ap is_some (sym is ∙ h.there)));
  }

  job_wider : (reads : Name → Content) (o : Option PointJob) → IfSome o (λ j. HasMetas reads j.copy) → IfSome o (λ j. CopiesFrom source reads j.copy) → IfSome o (λ j. CopiesFrom wider reads j.copy)
  job_wider reads None has was = was
  job_wider reads (Some j) has was = copies_wider reads j.copy has was

  merges_wider : (at : Cells) (holdings : Holdings) (jobs : ℕ) (cs : List CopyingJob) → AllByRecursion (IsMergeCopy at holdings jobs) cs → AllByRecursion (CopiesFrom source (reads_of at)) cs → AllByRecursion (CopiesFrom wider (reads_of at)) cs
  merges_wider at holdings jobs [] are was = was
  merges_wider at holdings jobs (c ∷ cs) are was = (copies_wider (reads_of at) c are.0.copied was.0, merges_wider at holdings jobs cs are.1 was.1)

  pub sourced_wider : (r : ReplicaParts D) → IsWholeReplica cells r → IsSourced source cells r → IsSourced wider cells r
  sourced_wider r whole was = record {
    held = held_wider r whole was.held;
    job = job_wider (reads_of (cells r.dir)) r.job whole.copied was.job;
    merges = merges_wider (cells r.dir) r.files r.jobs r.copies.running whole.merges.each was.merges;
  }

-- what the log shows of a job
copy_wider : (source wider : Name → Content) (log : Log) (n : ℕ) (job : Job) (j : PointJob) → Extends source wider → CopyShows source log n job j → CopyShows wider log n job j
copy_wider source wider log n job j more was = record {
  runs = was.runs;
  number = was.number;
  version = was.version;
  point = point_wider source wider (printed log) j.infos more was.point;
  latest = was.latest;
  begun = was.begun;
  behind = was.behind;
  metas = metas_wider source wider j.copy.want.files more was.metas;
  handed = λ q bytes out. more q bytes (was.handed q bytes out);
}

pub shows_wider : (source wider : Name → Content) (log : Log) (n : ℕ) (o : Option Job) (p : Option PointJob) → Extends source wider → JobShows source log n o p → JobShows wider log n o p
shows_wider source wider log n None None more was = was
shows_wider source wider log n None (Some j) more was = record { stopped = was.stopped; metas = metas_wider source wider j.copy.want.files more was.metas }
shows_wider source wider log n (Some job) None more was = was
shows_wider source wider log n (Some job) (Some j) more was = copy_wider source wider log n job j more was

-- ---- the primary

-- what a name means, or what now stands there of a file that is held
abbrev pub widened : (Name → Content) → Cells → Holdings → Name → Content
widened source cells holdings q = option_or (source q) (if nat_lt 0 (count_of holdings q) then (cells q).now else None)

pub widened_more : (source : Name → Content) (cells : Cells) (holdings : Holdings) → Extends source (widened source cells holdings)
widened_more source cells holdings q bytes is = ap (λ (o : Content). option_or o (if nat_lt 0 (count_of holdings q) then (cells q).now else None)) is

pub test_none : (k : ℕ) → k ≡ 0 → nat_lt 0 k ≡ false
test_none k none = ap (nat_lt 0) none

module _ {D : Type 0} (cells : D → Cells) (source : Name → Content) where
  -- an entry that it does not move, while jobs are counted anew
  pub primary_stays : (past now : Past) (jobs count : Out → ℕ) (p : PrimaryParts D) → PointsStay past now → ((s : Out) → count s ≤ jobs s) → PrimaryFiles source cells past jobs p → PrimaryFiles source cells now count p
  primary_stays past now jobs count p stay fewer was = record {
    held = was.held;
    unwritten = was.unwritten;
    point = point_stays source past now p.point_infos stay was.point;
    generation = was.generation;
    outs = λ s. omega (arith, fewer s, was.outs s);
  }

  -- calls that hold no new file
  pub primary_kept : (past : Past) (jobs now : Out → ℕ) (p q : PrimaryParts D) → KeepsPrimaryFiles cells p q → ((s : Out) → now s ≤ states_like s q.states) → PrimaryFiles source cells past jobs p → PrimaryFiles source cells past now q
  primary_kept past jobs now p q keeps outs was = record {
    held = record { each = λ name lasting counted. held name lasting counted (count_of p.files name) refl };
    unwritten = λ name undrawn. was.unwritten name (keeps.drawn.each name undrawn);
    point = subst (λ (i : Infos). IsPastPoint source past i) (sym keeps.point) was.point;
    generation = ap (λ (i : Infos). i.generation) keeps.point ∙ (was.generation ∙ sym keeps.generation);
    outs = outs;
  }
    where
      held : (name : Name) → IsLasting name → 0 < count_of q.files name → (k : ℕ) → count_of p.files name ≡ k → (cells q.dir name).now ≡ source name
      held name lasting counted zero is = absurd (let none = keeps.no_new.each name is in omega (arith, none, counted))
      held name lasting counted (suc k) is =
          let before : 0 < count_of p.files name = omega (arith, is) in
          keeps.stays.held name before counted ∙ was.held.each name lasting before

  -- a call that fills files which were not written yet
  pub primary_filled : (past now : Past) (jobs : Out → ℕ) (p q : PrimaryParts D) → FillsPrimaryFiles cells p q → IsPrimary cells q
      → (HeldReadAs (widened source (cells q.dir) q.files) (cells q.dir) q.files → IsPastPoint (widened source (cells q.dir) q.files) now q.point_infos) → PrimaryFiles source cells past jobs p
      → PrimaryFiles (widened source (cells q.dir) q.files) cells now jobs q
  primary_filled past now jobs p q fills whole point was = record {
    held = held_now;
    point = point held_now;
    unwritten = λ name undrawn.
        let none : source name ≡ None = was.unwritten name (fills.drawn.each name undrawn) in
        let free : count_of q.files name ≡ 0 = whole.undrawn.each name undrawn in
        ap (λ (o : Content). option_or o (if nat_lt 0 (count_of q.files name) then (cells q.dir name).now else None)) none
        ∙ ap (λ (b : Bool). if b then (cells q.dir name).now else None) (test_none (count_of q.files name) free);
    generation = ap (λ (i : Infos). i.generation) fills.point;
    outs = λ s. subst (λ (ts : List Out). jobs s ≤ states_like s ts) (sym fills.states) (was.outs s);
  }
    where
      held : (name : Name) → IsLasting name → 0 < count_of q.files name → (k : ℕ) → count_of p.files name ≡ k → (cells q.dir name).now ≡ widened source (cells q.dir) q.files name
      held name lasting counted zero is =
          let none : source name ≡ None = was.unwritten name (fills.fresh.each name is counted) in
          sym (ap (λ (o : Content). option_or o (if nat_lt 0 (count_of q.files name) then (cells q.dir name).now else None)) none
          ∙ ap (λ (b : Bool). if b then (cells q.dir name).now else None) (lt-ltb 0 (count_of q.files name) counted))
      held name lasting counted (suc k) is =
          let before : 0 < count_of p.files name = omega (arith, is) in
          let now : (cells q.dir name).now ≡ source name = fills.stays.held name before counted ∙ was.held.each name lasting before in
          let there : is_some (source name) ≡ true = ap is_some (sym now) ∙ (whole.node.whole.names name ∙ known_counted q.files name counted) in
          now ∙ sym (some_wider source (widened source (cells q.dir) q.files) name (widened_more source (cells q.dir) q.files) there)

      held_now : HeldReadAs (widened source (cells q.dir) q.files) (cells q.dir) q.files
      held_now = record { each = λ name lasting counted. held name lasting counted (count_of p.files name) refl }
