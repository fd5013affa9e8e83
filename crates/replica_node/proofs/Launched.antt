-- A copy of a merged segment that begins.
use Rattle.std.proofs.Common.{◌≡◌, ℕ, zero, suc, ◌+◌, ◌<◌, ◌≤◌, ◌^◌, List, [], ◌∷◌, ◌++◌, Option, Some, None, refl, ap, subst, ◌∙◌, arith, inl}
use Rattle.std.specs.Prelude.{IfSome}
use Rattle.std.specs.List.{All, AllByRecursion}
use Rattle.disk_model.specs.Disk.{Name, Cells, reads_of}
use Rattle.file_deleter.specs.Holdings.{Holdings, times}
use Rattle.file_deleter.specs.Moves.{HoldsFiles}
use Rattle.file_deleter.proofs.NameLemmas.{times-append}
use Rattle.segment_infos.specs.Files.{AreFilesOf}
use Rattle.searcher_switch.proofs.Carry.{node_kept, nothing_written}
use Rattle.searcher_switch.specs.Searching.{searcher_names}
use Rattle.copy_state.specs.declared.state.CopyState.{CopyState}
use Rattle.copy_state.specs.States.{meta_names, IsCopyState}
use Rattle.copy_job.specs.declared.part.JobKind.TheVariants.{Merge as MergeKind}
use Rattle.copy_job.specs.Jobs.{Job, IsJob}
use Rattle.replica_node.specs.declared.job.PointJob.{PointJob}
use Rattle.replica_node.specs.declared.parts.ReplicaParts.{ReplicaParts}
use Rattle.replica_node.specs.Jobs.{Agrees, merge_job_on}
use Rattle.replica_node.specs.Merges.{running_names, copies_names, copied_names, SharesNone, CopyApart}
use Rattle.replica_node.specs.Sources.{CopiesFrom, KeepsSource, HoldsOnly}
use Rattle.replica_node.specs.Replica.{IsWholeReplica, IsJobAbove, IsMergeCopy, AreMergeCopies, MayLaunch, copying_names, replica_names, names_of_job}
use Rattle.replica_node.proofs.Beginnings.{plain_reused, more, names_begun, spares, begun_waits, begun_held, begun_known, begun_metas, begun_held_as, begun_copies}
use Rattle.replica_node.proofs.Cores.{IsCore}
use Rattle.replica_node.proofs.Keeping.{whole_of, merge_spared, some_map}
use Rattle.replica_node.proofs.Merging.{all_map, all_both, all_push, apart_push, names-push}
use Rattle.replica_node.proofs.Segments.{segment_infos, segment_files}
use Rattle.replica_node.proofs.Sparing.{copied_wanted, waits_spared}

module _ {D : Type 0} (cells : D → Cells) (p : ReplicaParts D) (is : IsWholeReplica cells p) (number : ℕ) (last : p.jobs + 1 ≡ number) (state : CopyState) (of : IsCopyState state) (may : MayLaunch p state) (agreed : All (Agrees (reads_of (cells p.dir)) p.files) state.files)
    (copy : Job) (copy_is : copy ≡ merge_job_on number state p.files) (is_job : IsJob copy) where
  -- the files of the state, as those of infos
  pub state_files : AreFilesOf (segment_infos may.segment.seg) (meta_names state.files)
  state_files = segment_files state may.segment of.files.ascending

  want_is : copy.want ≡ state
  want_is = ap (λ (j : Job). j.want) copy_is

  number_is : copy.number ≡ number
  number_is = ap (λ (j : Job). j.number) copy_is

  -- a job that shares no file with the state copies no file of the copy's
  shares_apart : (c : Job) → IsJob c → c.number ≤ p.jobs → SharesNone (meta_names c.want.files) (meta_names state.files) → CopyApart c copy
  shares_apart c is_c given shares = record {
    numbers = λ same. absurd (omega (arith, same, number_is, last, given));
    files = λ q some. none q (copied_wanted c is_c q some) (times (copied_names copy) q) refl;
  }
    where
      none : (q : Name) → 0 < times (meta_names c.want.files) q → (n : ℕ) → times (copied_names copy) q ≡ n → times (copied_names copy) q ≡ 0
      none q some zero e = e
      none q some (suc n) e =
          let wanted : 0 < times (meta_names state.files) q = subst (λ (s : CopyState). 0 < times (meta_names s.files) q) want_is (copied_wanted copy is_job q (omega (arith, e))) in
          absurd (omega (arith, wanted, shares q some))

  module _ (slice : List Name) (slice_is : slice ≡ copy.reused) (files : Holdings) (holds : HoldsFiles slice p.files files (cells p.dir)) where
    copies_more : (q : Name) → times (copies_names (record { running = p.copies.running ++ copy ∷ []; pending = p.copies.pending })) q ≡ times (copies_names p.copies) q + times copy.reused q
    copies_more q = omega (
      arith,
      names-push p.copies.running copy q,
      names_begun cells p is MergeKind number state (segment_infos may.segment.seg) state_files agreed copy copy_is is_job slice slice_is files holds q,
      times-append (running_names (p.copies.running ++ copy ∷ [])) (meta_names p.copies.pending.files) q,
      times-append (running_names p.copies.running) (meta_names p.copies.pending.files) q,
    )

    all : (q : Name) → times (searcher_names p.searchers ++ (names_of_job p.job ++ copies_names (record { running = p.copies.running ++ copy ∷ []; pending = p.copies.pending }))) q ≡ times (replica_names p) q + times copy.reused q
    all q = omega (
      arith,
      copies_more q,
      times-append (searcher_names p.searchers) (names_of_job p.job ++ copies_names (record { running = p.copies.running ++ copy ∷ []; pending = p.copies.pending })) q,
      times-append (names_of_job p.job) (copies_names (record { running = p.copies.running ++ copy ∷ []; pending = p.copies.pending })) q,
      times-append (searcher_names p.searchers) (copying_names p) q,
      times-append (names_of_job p.job) (copies_names p.copies) q,
    )

    launched_core : IsCore cells (record p { files = files; jobs = number; copies = record { running = p.copies.running ++ copy ∷ []; pending = p.copies.pending } })
    launched_core = record {
      node = node_kept (cells p.dir) (cells p.dir) p.files files (replica_names p) (searcher_names p.searchers ++ (names_of_job p.job ++ copies_names (record { running = p.copies.running ++ copy ∷ []; pending = p.copies.pending }))) p.commits [] is.node
          (nothing_written p.commits) holds.keeps
          (λ q. omega (arith, more cells p is MergeKind number state (segment_infos may.segment.seg) state_files agreed copy copy_is is_job slice slice_is files holds q, is.node.counts q, all q))
          (record { each = λ q named. omega (arith, all q, is.node.plain.each q named, plain_reused cells p is MergeKind number state (segment_infos may.segment.seg) state_files agreed copy copy_is is_job q named) });
      point = is.point;
      spelled = is.spelled;
      lasting = is.lasting;
      newer = is.newer;
      waits = some_map p.job (λ j. waits_spared j.copy p.files files (cells p.dir) (cells p.dir)
          (spares cells p is MergeKind number state (segment_infos may.segment.seg) state_files agreed copy copy_is is_job slice slice_is files holds j.copy)) is.waits;
    }

    launched : IsMergeCopy (cells p.dir) files number copy
    launched = record {
      kind = ap (λ (j : Job). j.kind) copy_is;
      copy = is_job;
      segment = record { seg = may.segment.seg; numbered = may.segment.numbered; files = ap (λ (s : CopyState). meta_names s.files) want_is ∙ may.segment.files };
      given = omega (arith, number_is);
      waits = begun_waits cells p is MergeKind number state (segment_infos may.segment.seg) state_files agreed copy copy_is is_job slice slice_is files holds;
      copied = begun_metas cells p is MergeKind number state (segment_infos may.segment.seg) state_files agreed copy copy_is is_job slice slice_is files holds;
    }

    others_apart : AllByRecursion (λ c. CopyApart c copy) p.copies.running
    others_apart = all_map (λ c. IsMergeCopy (cells p.dir) p.files p.jobs c × SharesNone (meta_names c.want.files) (meta_names state.files)) (λ c. CopyApart c copy) p.copies.running (λ c h. shares_apart c h.0.copy h.0.given h.1)
        (all_both (IsMergeCopy (cells p.dir) p.files p.jobs) (λ c. SharesNone (meta_names c.want.files) (meta_names state.files)) p.copies.running is.merges.each may.copies)

    job_apart : (job : Option PointJob) → IfSome job (IsJobAbove p.searchers.point.version.0) → IfSome job (λ j. j.copy.number ≤ p.jobs) → IfSome job (λ j. SharesNone (meta_names j.copy.want.files) (meta_names state.files))
        → IfSome job (λ j. AllByRecursion (CopyApart j.copy) p.copies.running) → IfSome job (λ j. AllByRecursion (CopyApart j.copy) (p.copies.running ++ copy ∷ []))
    job_apart None above given shares apart = tt
    job_apart (Some j) above given shares apart = all_push (CopyApart j.copy) p.copies.running copy apart (shares_apart j.copy above.copy given shares)

    launched_merges : AreMergeCopies (cells p.dir) files number p.job (record { running = p.copies.running ++ copy ∷ []; pending = p.copies.pending })
    launched_merges = record {
      each = all_push (IsMergeCopy (cells p.dir) files number) p.copies.running copy
          (all_map (IsMergeCopy (cells p.dir) p.files p.jobs) (IsMergeCopy (cells p.dir) files number) p.copies.running (λ c m. merge_spared (cells p.dir) (cells p.dir) p.files files p.jobs number c (omega (arith, last))
          (spares cells p is MergeKind number state (segment_infos may.segment.seg) state_files agreed copy copy_is is_job slice slice_is files holds c) m) is.merges.each) launched;
      apart = apart_push p.copies.running copy is.merges.apart others_apart;
      beside_job = job_apart p.job is.newer is.merges.job_given may.job is.merges.beside_job;
      job_given = some_map p.job (λ j le. omega (arith, le, last)) is.merges.job_given;
      pending = is.merges.pending;
      unexpected = is.merges.unexpected;
    }

    pub launched_whole : number < 2 ^ 63 → IsWholeReplica cells (record p { files = files; jobs = number; copies = record { running = p.copies.running ++ copy ∷ []; pending = p.copies.pending } })
    launched_whole few = whole_of cells (record p { files = files; jobs = number; copies = record { running = p.copies.running ++ copy ∷ []; pending = p.copies.pending } }) launched_core is.segs
        (begun_known cells p is MergeKind number state (segment_infos may.segment.seg) state_files agreed copy copy_is is_job slice slice_is files holds) is.copied few launched_merges

    pub launched_sourced : KeepsSource cells p (record p { files = files; jobs = number; copies = record { running = p.copies.running ++ copy ∷ []; pending = p.copies.pending } })
    launched_sourced source h = record {
      held = begun_held_as cells p is MergeKind number state (segment_infos may.segment.seg) state_files agreed copy copy_is is_job slice slice_is files holds source h.held;
      job = h.job;
      merges = all_push (CopiesFrom source (reads_of (cells p.dir))) p.copies.running copy h.merges (begun_copies cells p is MergeKind number state (segment_infos may.segment.seg) state_files agreed copy copy_is is_job slice slice_is files holds source h.held);
    }

    pub launched_only : HoldsOnly p (record p { files = files; jobs = number; copies = record { running = p.copies.running ++ copy ∷ []; pending = p.copies.pending } })
    launched_only q lasting some = inl (begun_held cells p is MergeKind number state (segment_infos may.segment.seg) state_files agreed copy copy_is is_job slice slice_is files holds q some)
