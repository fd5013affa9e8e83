-- A merge copy whose parts get their own names.
use Rattle.std.proofs.Common.{◌≡◌, ◌≢◌, ℕ, ◌+◌, ◌<◌, ◌≤◌, ◌^◌, true, List, [], ◌++◌, Some, sym, ap, subst, ◌∙◌, arith, inl, inr}
use Rattle.file_names.specs.Names.{temp_name_of, is_pending_name}
use Rattle.disk_model.specs.Disk.{Name, Content, Cells, reads_of}
use Rattle.file_deleter.specs.Holdings.{Holdings, count_of, times}
use Rattle.file_deleter.specs.Moves.{MovesCounts}
use Rattle.file_deleter.proofs.NameLemmas.{times-append, once}
use Rattle.segment_infos.specs.Files.{AreFilesOf}
use Rattle.searcher_switch.specs.Node.{IsWholeNode, IsApart, KeepsBytes}
use Rattle.searcher_switch.proofs.Carry.{node_same_names}
use Rattle.commit_steps.specs.Book.{book_names}
use Rattle.searcher_switch.specs.Searching.{searcher_names}
use Rattle.copy_state.specs.declared.meta.FileMetaData.{FileMetaData}
use Rattle.copy_state.specs.declared.state.CopyState.{CopyState}
use Rattle.copy_state.specs.States.{meta_names, meta_in}
use Rattle.copy_job.specs.Parts.{own_names, written_names, ArePlaceable}
use Rattle.copy_job.specs.Placing.{Places}
use Rattle.copy_job.specs.Jobs.{Job, IsJob, job_names, present_of, reads_under}
use Rattle.replica_opening.specs.Known.{IsLasting, KnowsHeld}
use Rattle.replica_node.specs.declared.parts.ReplicaParts.{ReplicaParts}
use Rattle.replica_node.specs.Held.{LearnsSome, LearnsAll}
use Rattle.replica_node.specs.Merges.{copy_at, copies_with, copies_without, running_names, copies_names, copied_names, CopyApart, IsSegmentState}
use Rattle.replica_node.specs.Sources.{CopiesFrom, IsSourced, HoldsOnlyWanted}
use Rattle.replica_node.specs.Waiting.{IsWaiting}
use Rattle.replica_node.specs.Replica.{IsWholeReplica, IsMergeCopy, KeepsReads, CanPlace, names_of_job, copying_names, replica_names}
use Rattle.replica_node.proofs.Carried.{JobReads}
use Rattle.replica_node.proofs.Keeping.{Knows, HasWanted, Matches, knows_reads, reads_known, as_reads, reads_as, copies_reads, reads_copies, metas_reads, reads_metas}
use Rattle.replica_node.proofs.Merging.{all_at, names-without}
use Rattle.replica_node.proofs.Metas.{some_meta}
use Rattle.replica_node.proofs.Partly.{placed_moves, reads_partly, copied_placed}
use Rattle.replica_node.proofs.Renamed.{noted_held, noted_all, holds_refused, job_refused, held_refused}
use Rattle.replica_node.proofs.Segments.{segment_infos, segment_files}
use Rattle.replica_node.proofs.Waiting.{can_place, job_foreign, waits_placed}
use Rattle.replica_node.proofs.Written.{written_apart, now_plain}
use Rattle.replica_node.proofs.Moved.{moved_whole, moved_sourced}

module _ {D : Type 0} (cells : D → Cells) (p : ReplicaParts D) (is : IsWholeReplica cells p) (number : ℕ) (c : Job) (e : copy_at number p.copies.running ≡ Some c) (complete : c.missing ≡ []) where
  m : IsMergeCopy (cells p.dir) p.files p.jobs c
  m = all_at (IsMergeCopy (cells p.dir) p.files p.jobs) number p.copies.running c e is.merges.each

  files_are : AreFilesOf (segment_infos m.segment.seg) (meta_names c.want.files)
  files_are = segment_files c.want m.segment m.copy.state.files.ascending

  once_named : (q : Name) → times (meta_names c.want.files) q ≤ 1
  once_named q = once (meta_names c.want.files) q m.copy.state.files.ascending

  none_missing : (q : Name) → times c.missing q ≡ 0
  none_missing q = ap (λ (ns : List Name). times ns q) complete

  -- what holds beside the copy
  abbrev beside : List Name
  beside = searcher_names p.searchers ++ (names_of_job p.job ++ (running_names (copies_without number p.copies.running) ++ meta_names p.copies.pending.files))

  abbrev others : List Name
  others = beside ++ book_names p.commits

  beside_times : (q : Name) → times (replica_names p) q ≡ times beside q + times (job_names c) q
  beside_times q = omega (
    arith,
    names-without number p.copies.running c q e,
    times-append (searcher_names p.searchers) (copying_names p) q,
    times-append (names_of_job p.job) (copies_names p.copies) q,
    times-append (running_names p.copies.running) (meta_names p.copies.pending.files) q,
    times-append (searcher_names p.searchers) (names_of_job p.job ++ (running_names (copies_without number p.copies.running) ++ meta_names p.copies.pending.files)) q,
    times-append (names_of_job p.job) (running_names (copies_without number p.copies.running) ++ meta_names p.copies.pending.files) q,
    times-append (running_names (copies_without number p.copies.running)) (meta_names p.copies.pending.files) q,
  )

  before : (q : Name) → count_of p.files q ≡ times others q + times (job_names c) q
  before q = omega (arith, is.node.counts q, beside_times q, times-append beside (book_names p.commits) q)

  pub can : CanPlace p.files c
  can = can_place (segment_infos m.segment.seg) c m.copy files_are p.files m.waits others before

  -- RunningCopies::place asks for this
  pub placeable : ArePlaceable p.files c.parts
  placeable = can.able

  node_c : IsWholeNode (cells p.dir) p.files (beside ++ job_names c) p.commits
  node_c = node_same_names (cells p.dir) p.files (replica_names p) (beside ++ job_names c) p.commits is.node (λ q. omega (arith, beside_times q, times-append beside (job_names c) q))

  source_copy : (source : Name → Content) → IsSourced source cells p → JobReads (Matches source) (cells p.dir) c
  source_copy source h = copies_reads source (cells p.dir) c (all_at (CopiesFrom source (reads_of (cells p.dir))) number p.copies.running c e h.merges)

  module _ (noted : List (Name × FileMetaData)) (slice : List (Name × FileMetaData)) (slice_is : slice ≡ c.want.files) (noted_some : LearnsSome slice p.known noted) where
    noted_known : KnowsHeld (reads_of (cells p.dir)) p.files noted
    noted_known = noted_held (cells p.dir) p.files c m.waits once_named m.copied p.known noted (subst (λ (fs : List (Name × FileMetaData)). LearnsSome fs p.known noted) slice_is noted_some) is.known

    -- memory was wanting before a part was renamed
    pub noted_whole : IsWholeReplica cells (record p { known = noted })
    noted_whole = record { node = is.node; point = is.point; spelled = is.spelled; segs = is.segs; known = noted_known; lasting = is.lasting; newer = is.newer; waits = is.waits; copied = is.copied; few = is.few; merges = is.merges }

    module _ (noted_all_of : LearnsAll slice noted) (dir : D) (files : Holdings) (now : Job) (n : ℕ) (done : Places n c.parts now.parts p.files files (cells p.dir) (cells dir)) (same : now ≡ record c { parts = now.parts })
        (able : ArePlaceable files now.parts) (is_job : IsJob now) where
      all_noted : (q : Name) (meta : FileMetaData) → meta_in c.want.files q ≡ Some meta → meta_in noted q ≡ Some meta
      all_noted = noted_all c.want.files noted once_named (subst (λ (fs : List (Name × FileMetaData)). LearnsAll fs noted) slice_is noted_all_of)

      turns : (q : Name) (content : Content) → 0 < times (meta_names c.want.files) q → HasWanted c.want.files q content → Knows noted q content
      turns q content wanted h = let w = some_meta c.want.files q wanted in record { meta = w.0; known_is = all_noted q w.0 w.1; has = h w.0 w.1 }

      reused_is : now.reused ≡ c.reused
      reused_is = ap (λ (x : Job). x.reused) same

      want_is : now.want ≡ c.want
      want_is = ap (λ (x : Job). x.want) same

      number_now : now.number ≡ c.number
      number_now = ap (λ (x : Job). x.number) same

      moves : MovesCounts (written_names c.parts) (job_names c) (job_names now) p.files files (cells p.dir) (cells dir)
      moves = subst (λ (k : Job). MovesCounts (written_names c.parts) (job_names c) (job_names k) p.files files (cells p.dir) (cells dir)) (sym same) (placed_moves n c.parts now.parts c.reused p.files files (cells p.dir) (cells dir) done)

      still : KeepsReads c now (cells p.dir) (cells dir)
      still = subst (λ (k : Job). KeepsReads c k (cells p.dir) (cells dir)) (sym same) (reads_partly c now.parts n p.files files (cells p.dir) (cells dir) (λ q. omega (arith, before q)) done)

      after : (q : Name) → count_of files q ≡ times others q + times (job_names now) q
      after q = omega (arith, before q, moves.balance q)

      waits_now : IsWaiting files now
      waits_now = waits_placed (segment_infos m.segment.seg) c m.copy files_are p.files m.waits files n now (same ∙ ap (λ ps. record c { parts = ps }) done.parts_are) able complete

      plain_now : (q : Name) → is_pending_name q ≡ true → times (job_names now) q ≡ 0
      plain_now = now_plain (cells p.dir) p.files beside c p.commits node_c can now n done.parts_are reused_is

      apart : IsApart (written_names c.parts) p.commits
      apart = written_apart (cells p.dir) p.files beside c p.commits node_c can

      files_now : AreFilesOf (segment_infos m.segment.seg) (meta_names now.want.files)
      files_now = subst (λ (s : CopyState). AreFilesOf (segment_infos m.segment.seg) (meta_names s.files)) (sym want_is) files_are

      foreign : (k : ℕ) → k < 2 ^ 64 → (name : Name) → times (copied_names c) name ≡ 0 → times (job_names now) (temp_name_of name k) ≡ 0
      foreign k fewer name other = job_foreign (segment_infos m.segment.seg) now is_job files_now files waits_now k fewer name
          (omega (arith, other, copied_placed c now same n done.parts_are name, times-append now.missing (own_names now.parts) name))

      newly : (q : Name) → IsLasting q → count_of p.files q ≡ 0 → 0 < count_of files q → 0 < times (copied_names c) q
      newly q lasting none some = elim (holds_refused (cells p.dir) (cells dir) p.files files c now m.copy others n done.parts_are reused_is want_is none_missing before after moves.keeps.reads still q some) [
        | inl had ↦ absurd (omega (arith, had, none))
        | inr own ↦ omega (arith, own, times-append c.missing (own_names c.parts) q)
      ]

      pub now_turns : (d : Job) → CopyApart c d → CopyApart now d
      now_turns d h = record {
        numbers = λ f. h.numbers (sym number_now ∙ f);
        files = λ q some. h.files q (omega (arith, some, copied_placed c now same n done.parts_are q));
      }

      is_now : IsMergeCopy (cells dir) files p.jobs now
      is_now = record {
        kind = ap (λ (x : Job). x.kind) same ∙ m.kind;
        copy = is_job;
        segment = subst IsSegmentState (sym want_is) m.segment;
        given = omega (arith, m.given, number_now);
        waits = waits_now;
        copied = reads_metas (cells dir) now (subst (λ (s : CopyState). JobReads (HasWanted s.files) (cells dir) now) (sym want_is)
            (job_refused (cells p.dir) (cells dir) p.files files c now m.copy others n done.parts_are reused_is want_is none_missing before after moves.keeps.reads still (HasWanted c.want.files) (metas_reads (cells p.dir) c m.copied)));
      }

      pub placed_whole : IsWholeReplica cells (record p { dir = dir; files = files; known = noted; copies = record { running = copies_with number now p.copies.running; pending = p.copies.pending } })
      placed_whole = moved_whole cells p is number c e now dir files (written_names c.parts) moves apart plain_now (omega (arith, m.given, number_now)) number_now foreign newly now_turns is_now noted
          (reads_known (cells dir) files noted (held_refused (cells p.dir) (cells dir) p.files files c now m.copy others n done.parts_are reused_is want_is none_missing before after moves.keeps.reads still
          (HasWanted c.want.files) (metas_reads (cells p.dir) c m.copied) waits_now (Knows noted) (Knows noted) turns (λ q content unwanted k. k) (knows_reads (cells p.dir) p.files noted noted_known)))

      pub placed_sourced : (source : Name → Content) → IsSourced source cells p → IsSourced source cells (record p { dir = dir; files = files; known = noted; copies = record { running = copies_with number now p.copies.running; pending = p.copies.pending } })
      placed_sourced source h = moved_sourced cells p is number c e now dir files (written_names c.parts) moves apart plain_now (omega (arith, m.given, number_now)) number_now foreign newly source noted
          (reads_as source (cells dir) files (held_refused (cells p.dir) (cells dir) p.files files c now m.copy others n done.parts_are reused_is want_is none_missing before after moves.keeps.reads still
          (Matches source) (source_copy source h) waits_now (Matches source) (Matches source) (λ q content wanted k. k) (λ q content unwanted k. k) (as_reads source (cells p.dir) p.files h.held)))
          (reads_copies source (cells dir) now (job_refused (cells p.dir) (cells dir) p.files files c now m.copy others n done.parts_are reused_is want_is none_missing before after moves.keeps.reads still (Matches source) (source_copy source h)))
          h

      pub placed_held : HoldsOnlyWanted c.want p (record p { dir = dir; files = files; known = noted; copies = record { running = copies_with number now p.copies.running; pending = p.copies.pending } })
      placed_held q lasting some = elim (holds_refused (cells p.dir) (cells dir) p.files files c now m.copy others n done.parts_are reused_is want_is none_missing before after moves.keeps.reads still q some) [
        | inl had ↦ inl had
        | inr own ↦ inr (omega (arith, own, m.copy.each q))
      ]

      pub placed_stays : KeepsBytes p.files files (cells p.dir) (cells dir)
      placed_stays = record { held = moves.keeps.reads }

      -- each file reads what it read, under the name that it has now
      pub placed_reads : (q : Name) → 0 < times (meta_names c.want.files) q → (cells dir (present_of now.parts q)).now ≡ reads_under c.parts (reads_of (cells p.dir)) q
      placed_reads q wanted = still.each q (omega (arith, wanted, none_missing q, m.copy.each q))
