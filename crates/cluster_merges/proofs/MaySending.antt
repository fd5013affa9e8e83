-- The files of a merged segment mean nothing before they are written, so no job, no copy and no pending file of a replica has their names.
use Rattle.std.proofs.Common.{◌≡◌, ◌<◌, ◌+◌, ◌==◌, ◌^◌, inr, ℕ, zero, suc, Bool, true, false, List, [], ◌∷◌, Some, None, Option, refl, ap, ◌∙◌, sym, subst, arith, if◌then◌else◌}
use Rattle.std.specs.Prelude.{IfSome}
use Rattle.std.specs.List.{AllByRecursion, Contains}
use Rattle.std.proofs.lemmas.Bool.{lt-ltb, eqb-true, eq-eqb}
use Rattle.std.proofs.lemmas.List.Elements.{Contains-append_right}
use Rattle.std.proofs.lemmas.Option.{none-some}
use Rattle.disk_model.specs.Disk.{Name, Content, Cells, is_among, reads_of}
use Rattle.file_deleter.specs.Holdings.{count_of, times}
use Rattle.file_deleter.proofs.NameLemmas.{times-append, among_is}
use Rattle.file_names.specs.Names.{part_name_of}
use Rattle.file_names.specs.declared.composed.SegPart.{SegPart}
use Rattle.copy_state.specs.declared.state.CopyState.{CopyState}
use Rattle.copy_state.specs.States.{meta_names}
use Rattle.copy_job.specs.Jobs.{Job as CopyJob}
use Rattle.seg_merge.specs.declared.task.Merged.{Merged}
use Rattle.seg_merge.specs.Merging.{IsMergedOf}
use Rattle.searcher_switch.specs.Searching.{searcher_names}
use Rattle.index_primary.specs.declared.parts.PrimaryParts.{PrimaryParts}
use Rattle.index_primary.specs.declared.states.Merging.{Merging}
use Rattle.index_primary.specs.Held.{part}
use Rattle.index_primary.specs.Merges.{merge_of, IsMade, IsMadeBy, IsMerging}
use Rattle.index_primary.specs.Written.{names_of}
use Rattle.index_primary.specs.Primary.{publish_loose, rest_loose, loose_of, IsUnwritten, IsPrimary}
use Rattle.index_primary.proofs.Drawing.{drawn_small}
use Rattle.index_primary.proofs.MergeLists.{all_at as merge_has, loose_at, unfilled_at, names_split}
use Rattle.index_primary.proofs.MergedFiles.{part_among, merged_names}
use Rattle.replica_opening.specs.Known.{IsLasting}
use Rattle.replica_node.specs.declared.job.PointJob.{PointJob}
use Rattle.replica_node.specs.declared.parts.ReplicaParts.{ReplicaParts}
use Rattle.replica_node.specs.Merges.{copy_at, running_names, copies_names, CopyApart, AreCopiesApart, SharesNone}
use Rattle.replica_node.specs.Replica.{IsWholeReplica, names_of_job, copying_names, replica_names}
use Rattle.replica_node.specs.Sources.{HeldReadAs}
use Rattle.replica_node.proofs.Merging.{number_at, all_at as copy_has}
use Rattle.replica_node.proofs.Metas.{some_meta}
use Rattle.history_tables.specs.declared.jobs.Job.{Job}
use Rattle.history_book.specs.Log.{Log}
use Rattle.merge_tasks.specs.declared.tasks.OpenMerge.{OpenMerge}
use Rattle.merge_tasks.specs.declared.tasks.Spread.{Spread}
use Rattle.merge_tasks.specs.Board.{open_merge, spread_at}
use Rattle.cluster_state.specs.Files.{JobShows}
use Rattle.cluster_state.specs.Merging.{AreWrittenAlike, IsStateOfMerged, AreMergedAlike, AreSentCopies}
use Rattle.cluster_state.proofs.Lasting.{part_lasts, unheld}
use Rattle.cluster_state.proofs.FileJobs.{had_metas}
use Rattle.cluster_state.proofs.Wider.{meta_at_source}
use Rattle.cluster_merges.proofs.ReadyFiles.{counts_split}

-- ---- each of the copies that run has its number

all_numbered : (P : CopyJob → Type 0) (cs : List CopyJob) → AreCopiesApart cs → ((k : ℕ) (c : CopyJob) → copy_at k cs ≡ Some c → P c) → AllByRecursion P cs
all_numbered P [] apart each = tt
all_numbered P (c ∷ cs) apart each = (each c.number c (ap (λ (b : Bool). if b then Some c else copy_at c.number cs) (eq-eqb c.number c.number refl)), all_numbered P cs apart.1 (λ k d at. each k d (behind k d at)))
  where
    behind : (k : ℕ) (d : CopyJob) → copy_at k cs ≡ Some d → (if c.number == k then Some c else copy_at k cs) ≡ Some d
    behind k d at = by (c.number == k) refl
      where
        by : (b : Bool) → (c.number == k) ≡ b → (if b then Some c else copy_at k cs) ≡ Some d
        by true here = absurd ((copy_has (CopyApart c) k cs d at apart.0).numbers (eqb-true c.number k here ∙ sym (number_at k cs d at)))
        by false away = at

-- ---- a merge whose files are written

-- what was made of a merge, where the row has a copy state of it
pub record IsMadeAlike (ms : List Merging) (seg : ℕ) (s : Spread) : Type 0 where
  pub m : Merging
  pub found : merge_of seg ms ≡ Some m
  pub merged : Merged
  pub made : m.merged ≡ Some merged
  pub state : IsStateOfMerged merged s

made_alike : (log : Log) (ms : List Merging) (rows : List OpenMerge) (seg : ℕ) (s : Spread) → AreMergedAlike log (merge_of seg ms) (open_merge seg rows) → spread_at (open_merge seg rows) ≡ Some s → IsMadeAlike ms seg s
made_alike log ms rows seg s alike there = by (merge_of seg ms) (open_merge seg rows) refl alike there
  where
    of_made : (m : Merging) → merge_of seg ms ≡ Some m → (o : Option Merged) → m.merged ≡ o → AreWrittenAlike o (Some s) → IsMadeAlike ms seg s
    of_made m found None e alone = absurd alone
    of_made m found (Some merged) e is = record { m = m; found = found; merged = merged; made = e; state = is }

    by : (o : Option Merging) (r : Option OpenMerge) → merge_of seg ms ≡ o → AreMergedAlike log o r → spread_at r ≡ Some s → IsMadeAlike ms seg s
    by None None e is none = absurd (none-some s none)
    by None (Some row) e alone at = absurd alone
    by (Some m) None e alone at = absurd alone
    by (Some m) (Some row) e is at = of_made m e m.merged refl (subst (λ (x : Option Spread). AreWrittenAlike m.merged x) at is.written)

-- ---- names that mean nothing

module _ (names : List Name) (source : Name → Content) (none : (q : Name) → 0 < times names q → source q ≡ None) where
  shares_none : (others : List Name) → ((q : Name) → 0 < times others q → 0 < times names q → ⊥) → SharesNone others names
  shares_none others apart q some = by (times names q) refl
    where
      by : (k : ℕ) → times names q ≡ k → k ≡ 0
      by zero is = refl
      by (suc k) is = absurd (apart q some (omega (arith, is)))

  -- what the job of a replica wants means something
  pub job_apart : (log : Log) (n : ℕ) (o : Option Job) (p : Option PointJob) → JobShows source log n o p → IfSome p (λ j. SharesNone (meta_names j.copy.want.files) names)
  job_apart log n None None shows = tt
  job_apart log n (Some job) None shows = tt
  job_apart log n o (Some j) shows = shares_none (meta_names j.copy.want.files) (λ q wanted some.
      let meta = some_meta j.copy.want.files q wanted in
      let has = meta_at_source source j.copy.want.files q meta.0 (had_metas source log n o j shows) meta.1 in
      none-some has.bytes (sym (none q some) ∙ has.there))

  module _ {D : Type 0} (cells : D → Cells) (r : ReplicaParts D) (whole : IsWholeReplica cells r) where
    -- what is pending is held
    pub pending_apart : ((q : Name) → 0 < times names q → IsLasting q) → HeldReadAs source (cells r.dir) r.files → SharesNone (meta_names r.copies.pending.files) names
    pending_apart lasting held = shares_none (meta_names r.copies.pending.files) (λ q pends some.
        let free : count_of r.files q ≡ 0 = unheld source (cells r.dir) r.files (replica_names r) r.commits whole.node held q (lasting q some) (none q some) in
        let counts = whole.node.counts q in
        let a : times (replica_names r) q ≡ times (searcher_names r.searchers) q + times (copying_names r) q = times-append (searcher_names r.searchers) (copying_names r) q in
        let b : times (copying_names r) q ≡ times (names_of_job r.job) q + times (copies_names r.copies) q = times-append (names_of_job r.job) (copies_names r.copies) q in
        let c : times (copies_names r.copies) q ≡ times (running_names r.copies.running) q + times (meta_names r.copies.pending.files) q = times-append (running_names r.copies.running) (meta_names r.copies.pending.files) q in
        absurd (omega (arith, free, counts, a, b, c, pends)))

    -- what its copies want is held at the primary
    pub copies_apart : (rows : List OpenMerge) (n : ℕ) → ((seg : ℕ) (s : Spread) → spread_at (open_merge seg rows) ≡ Some s → (q : Name) → 0 < times (meta_names s.state.files) q → 0 < times names q → ⊥)
        → AreSentCopies rows n r.copies.running → AllByRecursion (λ c. SharesNone (meta_names c.want.files) names) r.copies.running
    copies_apart rows n others sent = all_numbered (λ c. SharesNone (meta_names c.want.files) names) r.copies.running whole.merges.apart (λ k c at.
        let was = sent k c at in
        shares_none (meta_names c.want.files) (λ q wanted some. others was.seg was.spread was.row q (subst (λ (w : CopyState). 0 < times (meta_names w.files) q) was.want wanted) some))

-- ---- at the primary

module _ {D : Type 0} (cells : D → Cells) (p : PrimaryParts D) (whole : IsPrimary cells p) (merged : Merged) (m : Merging) (found : merge_of merged.files.seg.0 p.merges ≡ Some m) (unmade : m.merged ≡ None) (of : IsMergedOf m.task merged) where
  loose : Contains (loose_of p) merged.files.seg.0
  loose = Contains-append_right (publish_loose p.publish) (rest_loose p) merged.files.seg.0 (loose_at merged.files.seg.0 p.merges m found)

  pub merged_small : merged.files.seg.0 < 2 ^ 64
  merged_small = drawn_small p.infos (loose_of p) merged.files.seg.0 whole.numbered (whole.numbered.loose_below merged.files.seg.0 loose)

  part_named : (q : Name) → 0 < times (names_of merged.files.files) q → (which : SegPart) × (q ≡ part_name_of merged.files.seg.0 which)
  part_named q some = part_among merged.files.seg.0 q (ap (λ (ns : List Name). is_among ns q) (sym (merged_names m.task merged of)) ∙ (among_is (names_of merged.files.files) q ∙ lt-ltb 0 (times (names_of merged.files.files) q) some))

  pub merged_lasts : (q : Name) → 0 < times (names_of merged.files.files) q → IsLasting q
  merged_lasts q some = let at = part_named q some in subst IsLasting (sym at.1) (part_lasts merged.files.seg.0 at.0)

  merged_unwritten : (q : Name) → 0 < times (names_of merged.files.files) q → IsUnwritten p q
  merged_unwritten q some = let at = part_named q some in part merged.files.seg.0 at.0 (merged_small, inr loose) (unfilled_at merged.files.seg.0 p.merges m whole.merges_apart found unmade) at.1

  pub merged_means : (source : Name → Content) → ((q : Name) → IsUnwritten p q → source q ≡ None) → (q : Name) → 0 < times (names_of merged.files.files) q → source q ≡ None
  merged_means source unwritten q some = unwritten q (merged_unwritten q some)

  -- no other merge that is written has a file of this name
  pub others_apart : (log : Log) (rows : List OpenMerge) → ((seg : ℕ) → AreMergedAlike log (merge_of seg p.merges) (open_merge seg rows)) → (seg : ℕ) (s : Spread) → spread_at (open_merge seg rows) ≡ Some s
      → (q : Name) → 0 < times (meta_names s.state.files) q → 0 < times (names_of merged.files.files) q → ⊥
  others_apart log rows alike seg s there q named some =
      let other = made_alike log p.merges rows seg s (alike seg) there in
      let flight : IsMerging (reads_of (cells p.dir)) p.infos.segs p.segs other.m = merge_has (IsMerging (reads_of (cells p.dir)) p.infos.segs p.segs) seg p.merges other.m whole.merging other.found in
      let made : IsMade (reads_of (cells p.dir)) other.m other.merged = subst (λ (o : Option Merged). IsMadeBy (reads_of (cells p.dir)) other.m o) other.made flight.made in
      let theirs : 0 < times (names_of other.merged.files.files) q = subst (λ (ns : List Name). 0 < times ns q) other.state.names named in
      let own = made.held q (among_is (names_of other.merged.files.files) q ∙ lt-ltb 0 (times (names_of other.merged.files.files) q) theirs) in
      let all = names_split seg p.merges other.m q other.found in
      let counts = counts_split cells p whole q in
      let free : count_of p.files q ≡ 0 = whole.undrawn.each q (merged_unwritten q some) in
      absurd (omega (arith, own, all, counts, free))
