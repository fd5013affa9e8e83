-- What is known of the files of a replica, and what they read at a source, over calls beside its copies.
use Rattle.std.proofs.Common.{◌≡◌, ◌<◌, ◌≤◌, ◌^◌, ℕ, List, ◌++◌, Option, Some, None, refl, sym, ap, subst, ◌∙◌, arith, inl}
use Rattle.std.specs.Prelude.{IfSome}
use Rattle.std.specs.List.{AllByRecursion}
use Rattle.file_names.specs.Names.{temp_name_of}
use Rattle.disk_model.specs.Disk.{Name, Content, Cells, reads_of}
use Rattle.file_deleter.specs.Holdings.{Holdings, count_of, times}
use Rattle.file_deleter.proofs.NameLemmas.{times-append}
use Rattle.searcher_switch.specs.Node.{KeepsBytes}
use Rattle.searcher_switch.specs.Searching.{searcher_names}
use Rattle.copy_state.specs.declared.meta.FileMetaData.{FileMetaData}
use Rattle.copy_state.specs.States.{meta_names, meta_in}
use Rattle.copy_job.specs.Jobs.{Job, IsJob, job_names, reads_under}
use Rattle.replica_opening.specs.Known.{HasMeta, KnowsFile, KnowsHeld, IsLasting}
use Rattle.replica_node.specs.declared.job.PointJob.{PointJob}
use Rattle.replica_node.specs.declared.merges.MergeCopies.{MergeCopies}
use Rattle.replica_node.specs.declared.parts.ReplicaParts.{ReplicaParts}
use Rattle.replica_node.specs.Merges.{running_names, copies_names, copied_names}
use Rattle.replica_node.specs.Sources.{CopiesFrom, HeldReadAs, KeepsSource, HoldsOnly}
use Rattle.replica_node.specs.Replica.{IsWholeReplica, IsJobAbove, HasMetas, IsMergeCopy, AreMergeCopies, names_of_job, copying_names}
use Rattle.replica_node.proofs.Beside.{temporary_count}
use Rattle.replica_node.proofs.Carried.{HeldReads, JobReads, HoldsNoOther, held_along, job_along, was_held}
use Rattle.replica_node.proofs.Cores.{IsCore}
use Rattle.replica_node.proofs.Merging.{all_map, all_both, all_held}
use Rattle.replica_node.proofs.Metas.{meta_some}
use Rattle.replica_node.proofs.Segments.{segment_infos, segment_files}
use Rattle.replica_node.proofs.Sparing.{SparesJob, waits_spared, copied_lasts}

-- ---- as what reads
-- what reads has the metadata that is known
abbrev pub Knows : List (Name × FileMetaData) → Name → Content → Type 0
Knows known q content = KnowsFile (λ name. content) known q

-- what reads has the metadata that is wanted
abbrev pub HasWanted : List (Name × FileMetaData) → Name → Content → Type 0
HasWanted files q content = (meta : FileMetaData) → meta_in files q ≡ Some meta → HasMeta (λ name. content) q meta

-- what reads is what reads at the source
abbrev pub Matches : (Name → Content) → Name → Content → Type 0
Matches source q content = content ≡ source q

pub meta_here : (reads other : Name → Content) (q x : Name) (meta : FileMetaData) → reads q ≡ other x → HasMeta other x meta → HasMeta reads q meta
meta_here reads other q x meta same h = record { bytes = h.bytes; there = same ∙ h.there; meta_is = h.meta_is }

pub knows_reads : (cells : Cells) (holdings : Holdings) (known : List (Name × FileMetaData)) → KnowsHeld (reads_of cells) holdings known → HeldReads (Knows known) cells holdings
knows_reads cells holdings known h = record { each = λ q lasting some. let k = h.each q lasting some in record { meta = k.meta; known_is = k.known_is; has = meta_here (λ name. (cells q).now) (reads_of cells) q q k.meta refl k.has } }

pub reads_known : (cells : Cells) (holdings : Holdings) (known : List (Name × FileMetaData)) → HeldReads (Knows known) cells holdings → KnowsHeld (reads_of cells) holdings known
reads_known cells holdings known h = record { each = λ q lasting some. let k = h.each q lasting some in record { meta = k.meta; known_is = k.known_is; has = meta_here (reads_of cells) (λ name. (cells q).now) q q k.meta refl k.has } }

pub metas_reads : (cells : Cells) (j : Job) → HasMetas (reads_of cells) j → JobReads (HasWanted j.want.files) cells j
metas_reads cells j h = record { each = λ q wanted here meta e. meta_here _ (reads_under j.parts (reads_of cells)) q q meta refl (h.each q meta e here) }

pub reads_metas : (cells : Cells) (j : Job) → JobReads (HasWanted j.want.files) cells j → HasMetas (reads_of cells) j
reads_metas cells j h = record { each = λ q meta e here. meta_here (reads_under j.parts (reads_of cells)) _ q q meta refl (h.each q (meta_some j.want.files q meta e) here meta e) }

pub as_reads : (source : Name → Content) (cells : Cells) (holdings : Holdings) → HeldReadAs source cells holdings → HeldReads (Matches source) cells holdings
as_reads source cells holdings h = record { each = h.each }

pub reads_as : (source : Name → Content) (cells : Cells) (holdings : Holdings) → HeldReads (Matches source) cells holdings → HeldReadAs source cells holdings
reads_as source cells holdings h = record { each = h.each }

pub copies_reads : (source : Name → Content) (cells : Cells) (j : Job) → CopiesFrom source (reads_of cells) j → JobReads (Matches source) cells j
copies_reads source cells j h = record { each = h.each }

pub reads_copies : (source : Name → Content) (cells : Cells) (j : Job) → JobReads (Matches source) cells j → CopiesFrom source (reads_of cells) j
reads_copies source cells j h = record { each = h.each }

-- ---- a replica is a core, and more
pub core_of : {D : Type 0} (cells : D → Cells) (p : ReplicaParts D) → IsWholeReplica cells p → IsCore cells p
core_of cells p is = record { node = is.node; point = is.point; spelled = is.spelled; lasting = is.lasting; newer = is.newer; waits = is.waits }

pub whole_of : {D : Type 0} (cells : D → Cells) (p : ReplicaParts D) → IsCore cells p → p.segs ≡ p.searchers.point.readers → KnowsHeld (reads_of (cells p.dir)) p.files p.known → IfSome p.job (λ j. HasMetas (reads_of (cells p.dir)) j.copy)
    → p.jobs < 2 ^ 63 → AreMergeCopies (cells p.dir) p.files p.jobs p.job p.copies → IsWholeReplica cells p
whole_of cells p is segs known copied few merges = record {
  node = is.node;
  point = is.point;
  spelled = is.spelled;
  lasting = is.lasting;
  newer = is.newer;
  waits = is.waits;
  segs = segs;
  known = known;
  copied = copied;
  few = few;
  merges = merges;
}

-- ---- merge copies beside a call
pub merge_spared : (a b : Cells) (old new : Holdings) (jobs more : ℕ) (c : Job) → jobs ≤ more → SparesJob c old new a b → IsMergeCopy a old jobs c → IsMergeCopy b new more c
merge_spared a b old new jobs more c le s m = record {
  kind = m.kind;
  copy = m.copy;
  segment = m.segment;
  given = omega (arith, le, m.given);
  waits = waits_spared c old new a b s m.waits;
  copied = reads_metas b c (job_along (HasWanted c.want.files) a b c m.copy s.bytes (metas_reads a c m.copied));
}

pub source_spared : (source : Name → Content) (a b : Cells) (c : Job) → IsJob c → ((q : Name) → 0 < times (job_names c) q → (b q).now ≡ (a q).now) → CopiesFrom source (reads_of a) c → CopiesFrom source (reads_of b) c
source_spared source a b c is bytes h = reads_copies source b c (job_along (Matches source) a b c is bytes (copies_reads source a c h))

pub merge_lasts : (cells : Cells) (holdings : Holdings) (jobs : ℕ) (c : Job) → IsMergeCopy cells holdings jobs c → (q : Name) → 0 < times (copied_names c) q → IsLasting q
merge_lasts cells holdings jobs c m = copied_lasts (segment_infos m.segment.seg) c m.copy (segment_files c.want m.segment m.copy.state.files.ascending)

-- ---- calls beside the job
-- the names of a copy read the same where what is held does
pub copy_still : {D : Type 0} (cells : D → Cells) (p now : ReplicaParts D) → IsCore cells p → IsCore cells now → KeepsBytes p.files now.files (cells p.dir) (cells now.dir) → (c : Job)
    → ((q : Name) → times (job_names c) q ≤ times (copying_names p) q) → ((q : Name) → times (job_names c) q ≤ times (copying_names now) q)
    → (q : Name) → 0 < times (job_names c) q → (cells now.dir q).now ≡ (cells p.dir q).now
copy_still cells p now is after stays c had has q some =
    stays.held q (omega (arith, some, had q, is.node.counts q, times-append (searcher_names p.searchers) (copying_names p) q)) (omega (arith, some, has q, after.node.counts q, times-append (searcher_names now.searchers) (copying_names now) q))

-- what a job holds is held by the copies
pub job_within : {D : Type 0} (p : ReplicaParts D) (j : PointJob) → p.job ≡ Some j → (q : Name) → times (job_names j.copy) q ≤ times (copying_names p) q
job_within p j e q =
    let had : times (names_of_job p.job) q ≡ times (job_names j.copy) q = ap (λ (o : Option PointJob). times (names_of_job o) q) e in
    omega (arith, had, times-append (names_of_job p.job) (copies_names p.copies) q)

pub running_within : {D : Type 0} (p : ReplicaParts D) (q : Name) → times (running_names p.copies.running) q ≤ times (copying_names p) q
running_within p q = omega (arith, times-append (names_of_job p.job) (copies_names p.copies) q, times-append (running_names p.copies.running) (meta_names p.copies.pending.files) q)

-- what holds of what a job has is carried over a call beside it
pub job_carried : {D : Type 0} (cells : D → Cells) (p now : ReplicaParts D) → IsCore cells p → IsCore cells now → KeepsBytes p.files now.files (cells p.dir) (cells now.dir) → (J : Job → Name → Content → Type 0) → (job other : Option PointJob) → p.job ≡ job → now.job ≡ other
    → other ≡ job → IfSome job (λ j. JobReads (J j.copy) (cells p.dir) j.copy) → IfSome other (λ j. JobReads (J j.copy) (cells now.dir) j.copy)
job_carried cells p now is after stays J None other e f same h = subst (λ (o : Option PointJob). IfSome o (λ j. JobReads (J j.copy) (cells now.dir) j.copy)) (sym same) tt
job_carried cells p now is after stays J (Some j) other e f same h =
    let above : IsJobAbove p.searchers.point.version.0 j = subst (λ (o : Option PointJob). IfSome o (IsJobAbove p.searchers.point.version.0)) e is.newer in
    subst (λ (o : Option PointJob). IfSome o (λ k. JobReads (J k.copy) (cells now.dir) k.copy)) (sym same)
    (job_along (J j.copy) (cells p.dir) (cells now.dir) j.copy above.copy (copy_still cells p now is after stays j.copy (job_within p j e) (job_within now j (f ∙ same))) h)

-- a claim of a job by cases of whether there is one
pub some_map : {P Q : PointJob → Type 0} (job : Option PointJob) → ((j : PointJob) → P j → Q j) → IfSome job P → IfSome job Q
some_map None turns h = tt
some_map (Some j) turns h = turns j h

-- a temporary file of a replica is held by its copies alone
pub temporary_held : {D : Type 0} (cells : D → Cells) (p : ReplicaParts D) → IsCore cells p → (name : Name) (number : ℕ) → count_of p.files (temp_name_of name number) ≡ times (copying_names p) (temp_name_of name number)
temporary_held cells p is = temporary_count (cells p.dir) p.files (searcher_names p.searchers) (copying_names p) p.commits is.node is.lasting

module _ {D : Type 0} (cells : D → Cells) (p now : ReplicaParts D) (is : IsWholeReplica cells p) (after : IsCore cells now) (job : now.job ≡ p.job) (copies : now.copies ≡ p.copies)
    (only : HoldsNoOther p.files now.files) (stays : KeepsBytes p.files now.files (cells p.dir) (cells now.dir)) where
  pub known_beside : now.known ≡ p.known → KnowsHeld (reads_of (cells now.dir)) now.files now.known
  known_beside same = subst (λ (k : List (Name × FileMetaData)). KnowsHeld (reads_of (cells now.dir)) now.files k) (sym same)
      (reads_known (cells now.dir) now.files p.known (held_along (Knows p.known) (cells p.dir) (cells now.dir) p.files now.files only stays (knows_reads (cells p.dir) p.files p.known is.known)))

  pub copied_beside : IfSome now.job (λ j. HasMetas (reads_of (cells now.dir)) j.copy)
  copied_beside = some_map now.job (λ j. reads_metas (cells now.dir) j.copy)
      (job_carried cells p now (core_of cells p is) after stays (λ k. HasWanted k.want.files) p.job now.job refl refl job (some_map p.job (λ j. metas_reads (cells p.dir) j.copy) is.copied))

  -- ---- merge copies
  same_copying : copying_names now ≡ copying_names p
  same_copying = λ i. names_of_job (job i) ++ copies_names (copies i)

  copy_bytes : (c : Job) → ((q : Name) → times (job_names c) q ≤ times (copying_names p) q) → (q : Name) → 0 < times (job_names c) q → (cells now.dir q).now ≡ (cells p.dir q).now
  copy_bytes c within = copy_still cells p now (core_of cells p is) after stays c within (λ q. subst (λ (ns : List Name). times (job_names c) q ≤ times ns q) (sym same_copying) (within q))

  spares : (c : Job) → IsMergeCopy (cells p.dir) p.files p.jobs c → ((q : Name) → times (job_names c) q ≤ times (copying_names p) q) → SparesJob c p.files now.files (cells p.dir) (cells now.dir)
  spares c m within = record {
    temporary = λ name number copied fewer. temporary_held cells now after name number ∙ ap (λ (ns : List Name). times ns (temp_name_of name number)) same_copying ∙ sym (temporary_held cells p (core_of cells p is) name number);
    unheld = λ q copied none. only.each q (merge_lasts (cells p.dir) p.files p.jobs c m q copied) none;
    bytes = copy_bytes c within;
  }

  each_within : AllByRecursion (λ c. IsMergeCopy (cells p.dir) p.files p.jobs c × ((q : Name) → times (job_names c) q ≤ times (copying_names p) q)) p.copies.running
  each_within = all_both (IsMergeCopy (cells p.dir) p.files p.jobs) (λ c. (q : Name) → times (job_names c) q ≤ times (copying_names p) q) p.copies.running is.merges.each (all_held p.copies.running (copying_names p) (running_within p))

  merges_still : AreMergeCopies (cells now.dir) now.files p.jobs p.job p.copies
  merges_still = record {
    each = all_map (λ c. IsMergeCopy (cells p.dir) p.files p.jobs c × ((q : Name) → times (job_names c) q ≤ times (copying_names p) q)) (IsMergeCopy (cells now.dir) now.files p.jobs) p.copies.running
        (λ c h. merge_spared (cells p.dir) (cells now.dir) p.files now.files p.jobs p.jobs c (omega arith) (spares c h.0 h.1) h.0) each_within;
    apart = is.merges.apart;
    beside_job = is.merges.beside_job;
    job_given = is.merges.job_given;
    pending = is.merges.pending;
    unexpected = is.merges.unexpected;
  }

  merges_beside : now.jobs ≡ p.jobs → AreMergeCopies (cells now.dir) now.files now.jobs now.job now.copies
  merges_beside jobs = subst (λ (n : ℕ). AreMergeCopies (cells now.dir) now.files n now.job now.copies) (sym jobs)
      (subst (λ (o : Option PointJob). AreMergeCopies (cells now.dir) now.files p.jobs o now.copies) (sym job)
      (subst (λ (c : MergeCopies). AreMergeCopies (cells now.dir) now.files p.jobs p.job c) (sym copies) merges_still))

  -- the replica is whole after the call
  pub whole_beside : now.known ≡ p.known → now.segs ≡ p.segs → now.searchers.point.readers ≡ p.searchers.point.readers → now.jobs ≡ p.jobs → IsWholeReplica cells now
  whole_beside same segs readers jobs = whole_of cells now after (segs ∙ is.segs ∙ sym readers) (known_beside same) copied_beside (subst (λ (n : ℕ). n < 2 ^ 63) (sym jobs) is.few) (merges_beside jobs)

  pub sourced_beside : KeepsSource cells p now
  sourced_beside source h = record {
    held = reads_as source (cells now.dir) now.files (held_along (Matches source) (cells p.dir) (cells now.dir) p.files now.files only stays (as_reads source (cells p.dir) p.files h.held));
    job = some_map now.job (λ j. reads_copies source (cells now.dir) j.copy)
        (job_carried cells p now (core_of cells p is) after stays (λ k. Matches source) p.job now.job refl refl job (some_map p.job (λ j. copies_reads source (cells p.dir) j.copy) h.job));
    merges = subst (λ (c : MergeCopies). AllByRecursion (CopiesFrom source (reads_of (cells now.dir))) c.running) (sym copies)
        (all_map (λ c. CopiesFrom source (reads_of (cells p.dir)) c × (IsMergeCopy (cells p.dir) p.files p.jobs c × ((q : Name) → times (job_names c) q ≤ times (copying_names p) q))) (CopiesFrom source (reads_of (cells now.dir))) p.copies.running
        (λ c k. source_spared source (cells p.dir) (cells now.dir) c k.1.0.copy (copy_bytes c k.1.1) k.0)
        (all_both (CopiesFrom source (reads_of (cells p.dir))) (λ c. IsMergeCopy (cells p.dir) p.files p.jobs c × ((q : Name) → times (job_names c) q ≤ times (copying_names p) q)) p.copies.running h.merges each_within));
  }

pub holds_beside : {D : Type 0} (p now : ReplicaParts D) → HoldsNoOther p.files now.files → HoldsOnly p now
holds_beside p now only q lasting some = inl (was_held p.files now.files only q lasting some)
