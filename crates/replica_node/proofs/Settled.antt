-- A merge copy whose files come to be pending.
use Rattle.std.proofs.Common.{◌≡◌, ℕ, ◌+◌, Bool, true, false, ◌||◌, List, [], ◌∷◌, ◌++◌, length, Option, Some, cond, refl, sym, ap, subst, ◌∙◌, arith}
use Rattle.std.specs.Prelude.{◌==◌, not, if◌then◌else◌, filter, IfSome, is_some}
use Rattle.std.proofs.lemmas.Bool.Decides.{nat_tests}
use Rattle.std.proofs.lemmas.List.{map-append}
use Rattle.nrt_base.specs.declared.numbers.SegNo.{SegNo}
use Rattle.file_names.specs.Names.{temp_name_of}
use Rattle.disk_model.specs.Disk.{Name, Content, Cells, same, reads_of}
use Rattle.disk_model.proofs.CellLemmas.{same_true}
use Rattle.file_deleter.specs.Holdings.{times}
use Rattle.file_deleter.proofs.NameLemmas.{times-append}
use Rattle.searcher_switch.proofs.Carry.{node_same_names}
use Rattle.searcher_switch.specs.Searching.{searcher_names}
use Rattle.copy_state.specs.declared.meta.FileMetaData.{FileMetaData}
use Rattle.copy_state.specs.States.{meta_names}
use Rattle.copy_job.specs.declared.part.JobPart.{JobPart}
use Rattle.copy_job.specs.Parts.{present_names, own_names, placed, placed_to}
use Rattle.copy_job.specs.Jobs.{Job, job_names, present_of}
use Rattle.copy_job.proofs.Points.{all_placed}
use Rattle.merge_precopy.specs.Pending.{Pending, is_expected, with_files}
use Rattle.replica_node.specs.declared.merges.MergeCopies.{MergeCopies}
use Rattle.replica_node.specs.declared.parts.ReplicaParts.{ReplicaParts}
use Rattle.replica_node.specs.Merges.{copy_at, copies_with, copies_without, running_names, copies_names, CopyApart}
use Rattle.replica_node.specs.Sources.{CopiesFrom, IsSourced}
use Rattle.replica_node.specs.Replica.{IsWholeReplica, IsMergeCopy, names_of_job, copying_names, replica_names}
use Rattle.replica_node.proofs.Keeping.{some_map}
use Rattle.replica_node.proofs.Merging.{all_at, all_dropped, apart_without, names-without}
use Rattle.replica_node.proofs.Segments.{segment_infos, segment_files}
use Rattle.replica_node.proofs.Temporary.{files_no_temporary}
use Rattle.replica_node.proofs.Came.{some_at}

-- ---- a segment that is expected, and no more
pub struck : (seg : SegNo) (es : List SegNo) → es ≡ [] → filter (λ s. not (s.0 == seg.0)) (es ++ seg ∷ []) ≡ []
struck seg es e = ap (λ (xs : List SegNo). filter (λ s. not (s.0 == seg.0)) (xs ++ seg ∷ [])) e ∙ by (seg.0 == seg.0) refl
  where
    by : (b : Bool) → (seg.0 == seg.0) ≡ b → cond (not (seg.0 == seg.0)) (seg ∷ []) [] ≡ []
    by true f = ap (λ b. cond (not b) (seg ∷ []) []) f
    by false f = absurd (grind (arith, nat_tests, f))

pub expected : (seg : SegNo) (es : List SegNo) → es ≡ [] → is_expected (es ++ seg ∷ []) seg ≡ true
expected seg es e = ap (λ (xs : List SegNo). is_expected (xs ++ seg ∷ []) seg) e ∙ by (seg.0 == seg.0) refl
  where
    by : (b : Bool) → (seg.0 == seg.0) ≡ b → ((seg.0 == seg.0) || false) ≡ true
    by true f = ap (λ b. b || false) f
    by false f = absurd (grind (arith, nat_tests, f))

-- a segment's files come to be pending, and the segment is expected no more
pub pending_settled : (p mid last : Pending) (seg : SegNo) (files want : List (Name × FileMetaData)) → p.expected ≡ [] → mid ≡ record p { expected = p.expected ++ seg ∷ [] } → last ≡ with_files mid seg files → files ≡ want
    → last ≡ record p { files = p.files ++ want }
pending_settled p mid last seg files want none mid_is last_is files_are = last_is ∙ ap (λ (x : Pending). with_files x seg files) mid_is
    ∙ ap (λ (es : List SegNo). record { expected = es; files = p.files ++ files }) (struck seg p.expected none ∙ sym none) ∙ ap (λ (fs : List (Name × FileMetaData)). record p { files = p.files ++ fs }) files_are

-- ---- the parts have their own names
pub present_all : (ps : List JobPart) (q : Name) → present_of (placed_to (length ps) ps) q ≡ q
present_all [] q = refl
present_all (y ∷ ys) q = by (present_all ys q) (same y.own q) refl
  where
    by : present_of (placed_to (length ys) ys) q ≡ q → (b : Bool) → same y.own q ≡ b → cond b y.own (present_of (placed_to (length ys) ys) q) ≡ q
    by more true f = same_true y.own q f
    by more false f = more

pub placed_twice : (ps : List JobPart) → placed_to (length ps) ps ≡ placed_to (length (placed_to (length ps) ps)) (placed_to (length ps) ps)
placed_twice [] = refl
placed_twice (y ∷ ys) = ap (λ (xs : List JobPart). placed y ∷ xs) (placed_twice ys)

-- ---- a copy that was changed, and one that is out
pub at_with : (number : ℕ) (cs : List Job) (c now : Job) → copy_at number cs ≡ Some c → (now.number == number) ≡ true → copy_at number (copies_with number now cs) ≡ Some now
at_with number [] c now e same = cc
at_with number (x ∷ xs) c now e here = by (λ g. at_with number xs c now g here) (x.number == number) refl e
  where
    by : (copy_at number xs ≡ Some c → copy_at number (copies_with number now xs) ≡ Some now) → (b : Bool) → (x.number == number) ≡ b → (if b then Some x else copy_at number xs) ≡ Some c
        → copy_at number (if b then now ∷ xs else x ∷ copies_with number now xs) ≡ Some now
    by more true f g = ap (λ (b : Bool). if b then Some now else copy_at number xs) here
    by more false f g = ap (λ (b : Bool). if b then Some x else copy_at number (copies_with number now xs)) f ∙ more g

pub without_with : (number : ℕ) (cs : List Job) (now : Job) → (now.number == number) ≡ true → copies_without number (copies_with number now cs) ≡ copies_without number cs
without_with number [] now here = refl
without_with number (x ∷ xs) now here = by (without_with number xs now here) (x.number == number) refl
  where
    by : copies_without number (copies_with number now xs) ≡ copies_without number xs → (b : Bool) → (x.number == number) ≡ b → copies_without number (if b then now ∷ xs else x ∷ copies_with number now xs) ≡ (if b then xs else x ∷ copies_without number xs)
    by more true f = ap (λ (b : Bool). if b then xs else now ∷ copies_without number xs) here
    by more false f = ap (λ (b : Bool). if b then copies_with number now xs else x ∷ copies_without number (copies_with number now xs)) f ∙ ap (λ (ys : List Job). x ∷ ys) more

-- ---- the files come to be pending
module _ {D : Type 0} (cells : D → Cells) (p : ReplicaParts D) (is : IsWholeReplica cells p) (number : ℕ) (c : Job) (e : copy_at number p.copies.running ≡ Some c) (complete : c.missing ≡ []) (own : c.parts ≡ placed_to (length c.parts) c.parts) where
  m : IsMergeCopy (cells p.dir) p.files p.jobs c
  m = all_at (IsMergeCopy (cells p.dir) p.files p.jobs) number p.copies.running c e is.merges.each

  abbrev next : MergeCopies
  next = record { running = copies_without number p.copies.running; pending = record p.copies.pending { files = p.copies.pending.files ++ c.want.files } }

  -- the copy holds just the files of its state
  held_names : (q : Name) → times (job_names c) q ≡ times (meta_names c.want.files) q
  held_names q =
      let names : times (present_names c.parts) q ≡ times (own_names c.parts) q = ap (λ (ps : List JobPart). times (present_names ps) q) own ∙ ap (λ (ns : List Name). times ns q) (all_placed c.parts) in
      let none : times c.missing q ≡ 0 = ap (λ (ns : List Name). times ns q) complete in
      omega (arith, names, none, m.copy.each q, times-append (present_names c.parts) c.reused q)

  pending_names : (q : Name) → times (meta_names (p.copies.pending.files ++ c.want.files)) q ≡ times (meta_names p.copies.pending.files) q + times (meta_names c.want.files) q
  pending_names q = ap (λ (ns : List Name). times ns q) (map-append (λ (f : Name × FileMetaData). f.0) p.copies.pending.files c.want.files) ∙ times-append (meta_names p.copies.pending.files) (meta_names c.want.files) q

  same_names : (q : Name) → times (searcher_names p.searchers ++ (names_of_job p.job ++ copies_names next)) q ≡ times (replica_names p) q
  same_names q = omega (
    arith,
    held_names q,
    pending_names q,
    names-without number p.copies.running c q e,
    times-append (searcher_names p.searchers) (names_of_job p.job ++ copies_names next) q,
    times-append (names_of_job p.job) (copies_names next) q,
    times-append (running_names (copies_without number p.copies.running)) (meta_names (p.copies.pending.files ++ c.want.files)) q,
    times-append (searcher_names p.searchers) (copying_names p) q,
    times-append (names_of_job p.job) (copies_names p.copies) q,
    times-append (running_names p.copies.running) (meta_names p.copies.pending.files) q,
  )

  pub settled_whole : (left : MergeCopies) → left ≡ next → IsWholeReplica cells (record p { copies = left })
  settled_whole left made = subst (λ (x : MergeCopies). IsWholeReplica cells (record p { copies = x })) (sym made) (record {
    node = node_same_names (cells p.dir) p.files (replica_names p) (searcher_names p.searchers ++ (names_of_job p.job ++ copies_names next)) p.commits is.node same_names;
    point = is.point;
    spelled = is.spelled;
    segs = is.segs;
    known = is.known;
    lasting = is.lasting;
    newer = is.newer;
    waits = is.waits;
    copied = is.copied;
    few = is.few;
    merges = record {
      each = all_dropped (IsMergeCopy (cells p.dir) p.files p.jobs) number p.copies.running is.merges.each;
      apart = apart_without number p.copies.running is.merges.apart;
      beside_job = some_map p.job (λ j h. all_dropped (CopyApart j.copy) number p.copies.running h) is.merges.beside_job;
      job_given = is.merges.job_given;
      pending = record { each = λ name job. omega (arith, pending_names (temp_name_of name job), is.merges.pending.each name job, (files_no_temporary (segment_infos m.segment.seg) (meta_names c.want.files) (segment_files c.want m.segment m.copy.state.files.ascending)).each name job) };
      unexpected = is.merges.unexpected;
    };
  })

  pub settled_sourced : (left : MergeCopies) → left ≡ next → (source : Name → Content) → IsSourced source cells p → IsSourced source cells (record p { copies = left })
  settled_sourced left made source h = subst (λ (x : MergeCopies). IsSourced source cells (record p { copies = x })) (sym made)
      (record { held = h.held; job = h.job; merges = all_dropped (CopiesFrom source (reads_of (cells p.dir))) number p.copies.running h.merges })

-- ---- by what the calls say
module _ {D : Type 0} (cells : D → Cells) (p : ReplicaParts D) (is : IsWholeReplica cells p) (number : ℕ) (runs : is_some (copy_at number p.copies.running) ≡ true) (complete : IfSome (copy_at number p.copies.running) (λ k. k.missing ≡ []))
    (own : IfSome (copy_at number p.copies.running) (λ k. k.parts ≡ placed_to (length k.parts) k.parts)) (files : List (Name × FileMetaData)) (files_are : IfSome (copy_at number p.copies.running) (λ k. files ≡ k.want.files)) (seg : SegNo) (mid last : Pending)
    (mid_is : mid ≡ record p.copies.pending { expected = p.copies.pending.expected ++ seg ∷ [] }) (last_is : last ≡ with_files mid seg files) (running : List Job) (running_is : running ≡ copies_without number p.copies.running) where
  one : (c : Job) × (copy_at number p.copies.running ≡ Some c) × (c.missing ≡ [])
  one = some_at (copy_at number p.copies.running) runs complete

  own_one : one.0.parts ≡ placed_to (length one.0.parts) one.0.parts
  own_one = subst (λ (o : Option Job). IfSome o (λ k. k.parts ≡ placed_to (length k.parts) k.parts)) one.1 own

  files_one : files ≡ one.0.want.files
  files_one = subst (λ (o : Option Job). IfSome o (λ k. files ≡ k.want.files)) one.1 files_are

  made : ◌≡◌ {A = MergeCopies} (record { running = running; pending = last }) (record { running = copies_without number p.copies.running; pending = record p.copies.pending { files = p.copies.pending.files ++ one.0.want.files } })
  made = ap (λ (cs : List Job). record { running = cs; pending = last }) running_is
      ∙ ap (λ (x : Pending). record { running = copies_without number p.copies.running; pending = x }) (pending_settled p.copies.pending mid last seg files one.0.want.files is.merges.unexpected mid_is last_is files_one)

  pub settles_whole : IsWholeReplica cells (record p { copies = record { running = running; pending = last } })
  settles_whole = settled_whole cells p is number one.0 one.1 one.2 own_one (record { running = running; pending = last }) made

  pub settles_sourced : (source : Name → Content) → IsSourced source cells p → IsSourced source cells (record p { copies = record { running = running; pending = last } })
  settles_sourced = settled_sourced cells p is number one.0 one.1 one.2 own_one (record { running = running; pending = last }) made
