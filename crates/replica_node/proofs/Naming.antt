-- Parts of a merge copy that get their own names, by what the call says.
use Rattle.std.proofs.Common.{◌≡◌, ◌⊎◌, ◌<◌, ℕ, true, List, [], Option, Some, None, refl, sym, ap, subst, ◌∙◌, arith, inl, inr, length}
use Rattle.std.specs.Prelude.{IfSome, OnOk, Result, Ok, Err}
use Rattle.disk_model.specs.Disk.{Name, Content, Cells, is_among, reads_of}
use Rattle.file_deleter.specs.Holdings.{Holdings, count_of, times}
use Rattle.segment_infos.specs.Files.{AreFilesOf}
use Rattle.searcher_switch.specs.Node.{KeepsBytes}
use Rattle.searcher_switch.specs.Appearing.{AppearsOnly}
use Rattle.searcher_switch.proofs.Appearing.{uncounted, keeps_only}
use Rattle.copy_state.specs.declared.meta.FileMetaData.{FileMetaData}
use Rattle.copy_state.specs.States.{meta_names}
use Rattle.copy_job.specs.declared.part.JobPart.{JobPart}
use Rattle.copy_job.specs.Parts.{written_names, ArePlaceable}
use Rattle.copy_job.specs.Placing.{Places}
use Rattle.copy_job.specs.Jobs.{Job, present_of, reads_under}
use Rattle.copy_job.proofs.Placings.{written_is}
use Rattle.replica_node.specs.declared.parts.ReplicaParts.{ReplicaParts}
use Rattle.replica_node.specs.Held.{LearnsSome, LearnsAll}
use Rattle.replica_node.specs.Merges.{copy_at, copies_with}
use Rattle.replica_node.specs.Moving.{PartsPlaced, ChangesCopy}
use Rattle.replica_node.specs.Sources.{IsSourced, HoldsOnlyWanted}
use Rattle.replica_node.specs.Waiting.{IsLoose}
use Rattle.replica_node.specs.Replica.{IsWholeReplica, AreStanding, IsMergeCopy}
use Rattle.replica_node.proofs.Beside.{standing_on}
use Rattle.replica_node.proofs.Keeping.{core_of}
use Rattle.replica_node.proofs.Merging.{all_at}
use Rattle.replica_node.proofs.Segments.{segment_infos, segment_files}
use Rattle.replica_node.proofs.Waiting.{own_wanted}
use Rattle.replica_node.specs.Settling.{PlacesCopy}
use Rattle.replica_node.proofs.Came.{with_same}
use Rattle.replica_node.proofs.Placed.{placeable, noted_whole, placed_whole, placed_sourced, placed_held, placed_stays, placed_reads}

-- how many parts have their own names
placed_of : {T E : Type 0} (c now : Job) (old new : Holdings) (before after : Cells) (result : Result T E) → PartsPlaced c now old new before after result → (n : ℕ) × Places n c.parts now.parts old new before after × OnOk result (n ≡ length c.parts)
placed_of c now old new before after (Ok x) h = (length c.parts, h.ok, refl)
placed_of c now old new before after (Err x) h = (h.err.0, h.err.1, tt)

-- what RunningCopies::place asks for
pub placeable_some : {D : Type 0} (cells : D → Cells) (p : ReplicaParts D) → IsWholeReplica cells p → (number : ℕ) → IfSome (copy_at number p.copies.running) (λ k. k.missing ≡ []) → IfSome (copy_at number p.copies.running) (λ k. ArePlaceable p.files k.parts)
placeable_some cells p is number complete = by (copy_at number p.copies.running) refl complete
  where
    by : (o : Option Job) → copy_at number p.copies.running ≡ o → IfSome o (λ k. k.missing ≡ []) → IfSome o (λ k. ArePlaceable p.files k.parts)
    by None e h = tt
    by (Some c) e h = placeable cells p is number c e h

module _ {D : Type 0} (cells : D → Cells) (p : ReplicaParts D) (is : IsWholeReplica cells p) (number : ℕ) (c : Job) (e : copy_at number p.copies.running ≡ Some c) (complete_some : IfSome (copy_at number p.copies.running) (λ k. k.missing ≡ []))
    (noted slice : List (Name × FileMetaData)) (slice_is : slice ≡ c.want.files) (noted_some : LearnsSome slice p.known noted) where
  complete : c.missing ≡ []
  complete = subst (λ (o : Option Job). IfSome o (λ k. k.missing ≡ [])) e complete_some

  -- memory was wanting before a part was renamed
  pub unplaced_whole : IsWholeReplica cells (record p { known = noted })
  unplaced_whole = noted_whole cells p is number c e complete noted slice slice_is noted_some

  pub unplaced_places : (T E : Type 0) (x : E) → IfSome (copy_at number p.copies.running) (λ k. PlacesCopy {T = T} {E = E} cells number k p (record p { known = noted }) (Err x))
  unplaced_places T E x = subst (λ (o : Option Job). IfSome o (λ k. PlacesCopy {T = T} {E = E} cells number k p (record p { known = noted }) (Err x))) (sym e) (record {
    placed = 0;
    copies = sym (ap (λ (cs : List Job). record p.copies { running = cs }) (with_same number p.copies.running c e));
    all = tt;
    reads = λ q wanted. refl;
  })

  module _ (noted_all_of : LearnsAll slice noted) {T E : Type 0} (result : Result T E) (dir : D) (files : Holdings) (running : List Job)
      (changes_some : IfSome (copy_at number p.copies.running) (λ k. ChangesCopy (λ n. PartsPlaced k n p.files files (cells p.dir) (cells dir) result) number p.copies.running running)) where
    changes : ChangesCopy (λ n. PartsPlaced c n p.files files (cells p.dir) (cells dir) result) number p.copies.running running
    changes = subst (λ (o : Option Job). IfSome o (λ k. ChangesCopy (λ n. PartsPlaced k n p.files files (cells p.dir) (cells dir) result) number p.copies.running running)) e changes_some

    count : (n : ℕ) × Places n c.parts changes.copy.parts p.files files (cells p.dir) (cells dir) × OnOk result (n ≡ length c.parts)
    count = placed_of c changes.copy p.files files (cells p.dir) (cells dir) result changes.is

    pub placing_whole : IsWholeReplica cells (record p { dir = dir; files = files; known = noted; copies = record p.copies { running = running } })
    placing_whole = subst (λ (cs : List Job). IsWholeReplica cells (record p { dir = dir; files = files; known = noted; copies = record p.copies { running = cs } })) (sym changes.all)
        (placed_whole cells p is number c e complete noted slice slice_is noted_some noted_all_of dir files changes.copy count.0 count.1 changes.is.same changes.is.able changes.is.is)

    pub placing_sourced : (source : Name → Content) → IsSourced source cells p → IsSourced source cells (record p { dir = dir; files = files; known = noted; copies = record p.copies { running = running } })
    placing_sourced source h = subst (λ (cs : List Job). IsSourced source cells (record p { dir = dir; files = files; known = noted; copies = record p.copies { running = cs } })) (sym changes.all)
        (placed_sourced cells p is number c e complete noted slice slice_is noted_some noted_all_of dir files changes.copy count.0 count.1 changes.is.same changes.is.able changes.is.is source h)

    pub placing_held : IfSome (copy_at number p.copies.running) (λ k. HoldsOnlyWanted k.want p (record p { dir = dir; files = files; known = noted; copies = record p.copies { running = running } }))
    placing_held = subst (λ (o : Option Job). IfSome o (λ k. HoldsOnlyWanted k.want p (record p { dir = dir; files = files; known = noted; copies = record p.copies { running = running } }))) (sym e)
        (placed_held cells p is number c e complete noted slice slice_is noted_some noted_all_of dir files changes.copy count.0 count.1 changes.is.same changes.is.able changes.is.is)

    pub placing_stays : KeepsBytes p.files files (cells p.dir) (cells dir)
    placing_stays = placed_stays cells p is number c e complete noted slice slice_is noted_some noted_all_of dir files changes.copy count.0 count.1 changes.is.same changes.is.able changes.is.is

    pub placing_standing : AreStanding cells p → AreStanding cells (record p { dir = dir; files = files; known = noted; copies = record p.copies { running = running } })
    placing_standing = standing_on cells p (record p { dir = dir; files = files; known = noted; copies = record p.copies { running = running } }) (core_of cells p is)
        (core_of cells (record p { dir = dir; files = files; known = noted; copies = record p.copies { running = running } }) placing_whole) refl refl placing_stays

    pub placing_places : IfSome (copy_at number p.copies.running) (λ k. PlacesCopy cells number k p (record p { dir = dir; files = files; known = noted; copies = record p.copies { running = running } }) result)
    placing_places = subst (λ (o : Option Job). IfSome o (λ k. PlacesCopy cells number k p (record p { dir = dir; files = files; known = noted; copies = record p.copies { running = running } }) result)) (sym e) (record {
      placed = count.0;
      copies = ap (λ (cs : List Job). record p.copies { running = cs })
          (changes.all ∙ ap (λ (k : Job). copies_with number k p.copies.running) (changes.is.same ∙ ap (λ (ps : List JobPart). record c { parts = ps }) count.1.parts_are));
      all = count.2;
      reads = λ q wanted. subst (λ (ps : List JobPart). (cells dir (present_of ps q)).now ≡ reads_under c.parts (reads_of (cells p.dir)) q) count.1.parts_are
          (placed_reads cells p is number c e complete noted slice slice_is noted_some noted_all_of dir files changes.copy count.0 count.1 changes.is.same changes.is.able changes.is.is q wanted);
    })

    -- ---- the names that come to stand
    m : IsMergeCopy (cells p.dir) p.files p.jobs c
    m = all_at (IsMergeCopy (cells p.dir) p.files p.jobs) number p.copies.running c e is.merges.each

    files_are : AreFilesOf (segment_infos m.segment.seg) (meta_names c.want.files)
    files_are = segment_files c.want m.segment m.copy.state.files.ascending

    -- a part that has not its own name is held, so its present name stands
    loose_there : (x : JobPart) (q : Name) → (x.now ≡ x.own → ⊥) → (x.now ≡ x.own) ⊎ IsLoose p.files x → x.now ≡ q → (cells p.dir q).now ≡ None → ⊥
    loose_there x q apart (inl same) now none = apart same
    loose_there x q apart (inr loose) now none =
        let once : count_of p.files q ≡ 1 = ap (count_of p.files) (sym now) ∙ loose.once in
        omega (arith, once, uncounted (cells p.dir) p.files q is.node.whole none)

    wanted_name : (q : Name) → is_among (written_names c.parts) q ≡ true → (cells p.dir q).now ≡ None → 0 < times (meta_names c.want.files) q
    wanted_name q there none =
        let w = written_is c.parts q there in
        elim w.is [
          | inl now ↦ absurd (loose_there w.part q w.apart (m.waits.each w.place w.part w.at) now none)
          | inr own ↦ subst (λ (n : Name). 0 < times (meta_names c.want.files) n) own (own_wanted (segment_infos m.segment.seg) c m.copy files_are w.place w.part w.at)
        ]

    pub placing_appears : IfSome (copy_at number p.copies.running) (λ k. AppearsOnly (λ q. 0 < times (meta_names k.want.files) q) (cells p.dir) (cells dir))
    placing_appears = subst (λ (o : Option Job). IfSome o (λ k. AppearsOnly (λ q. 0 < times (meta_names k.want.files) q) (cells p.dir) (cells dir))) (sym e)
        (keeps_only (λ q. 0 < times (meta_names c.want.files) q) (written_names c.parts) p.files files (cells p.dir) (cells dir) count.1.moves.keeps wanted_name)
