-- A newer point in hand.
use Rattle.replica_node.proofs.Named.{file_counted, among_file}
use Rattle.std.proofs.Common.{◌≡◌, ℕ, ◌+◌, ◌<◌, ◌≤◌, Bool, true, false, List, [], ◌++◌, length, get_or, refl, sym, ap, subst, ◌∙◌, arith}
use Rattle.std.specs.Prelude.{Contains}
use Rattle.std.specs.List.{flat_map}
use Rattle.std.proofs.lemmas.List.Elements.{Contains-get_or}
use Rattle.nrt_base.specs.declared.doc.Doc.{Doc}
use Rattle.disk_model.specs.Disk.{Name, Cells, is_among, reads_of}
use Rattle.file_deleter.specs.Holdings.{Holdings, count_of, times, IsWhole, AreThere}
use Rattle.file_deleter.specs.Moves.{HoldsFiles, MovesCounts}
use Rattle.file_deleter.proofs.NameLemmas.{times-append, not_among_times}
use Rattle.file_deleter.proofs.Keeping.{known_counted, keeps_within}
use Rattle.segment_infos.specs.declared.infos.Infos.{Infos}
use Rattle.segment_infos.specs.Files.{files_of_segment, AreFilesOf}
use Rattle.seg_reader.specs.Shown.{Shown}
use Rattle.seg_reader.specs.Stands.{StandsFor}
use Rattle.searcher_switch.proofs.Standing.{segments_along, stands_along}
use Rattle.searcher_switch.specs.declared.open.SearchPoint.{SearchPoint}
use Rattle.copy_job.specs.declared.part.JobPart.{JobPart}
use Rattle.copy_job.specs.Parts.{present_names, own_names, written_names}
use Rattle.copy_job.specs.Placing.{Places}
use Rattle.copy_job.specs.Jobs.{Job, job_names, present_of, reads_under}
use Rattle.copy_job.proofs.Points.{reads_placed, all_placed}
use Rattle.replica_node.specs.declared.advancing.NewPoint.{NewPoint}
use Rattle.replica_opening.specs.Readers.{AreReaders}
use Rattle.replica_node.specs.Replica.{IsPointOf, KeepsReads}
use Rattle.replica_node.specs.Advancing.{IsJobReady, TakesInHand}
use Rattle.replica_node.proofs.Partly.{placed_moves, reads_partly}

module _ (j : Job) (infos : Infos) (now : List JobPart) (olds : List Name) (h0 h1 : Holdings) (a b : Cells) (ready : IsJobReady a h0 j infos) (counted : (q : Name) → times olds q + times (job_names j) q ≤ count_of h0 q)
    (done : Places (length j.parts) j.parts now h0 h1 a b) where
  counted_now : (q : Name) → times olds q + (times (present_names now) q + times j.reused q) ≤ count_of h1 q
  counted_now q = omega (arith, counted q, done.moves.balance q, times-append (present_names j.parts) j.reused q)

  own_now : (q : Name) → times (present_names now) q ≡ times (own_names j.parts) q
  own_now q = ap (λ (ps : List JobPart). times (present_names ps) q) done.parts_are ∙ ap (λ (ns : List Name). times ns q) (all_placed j.parts)

  pub files_held : (q : Name) → Contains (flat_map files_of_segment infos.segs) q → 0 < count_of h1 q
  files_held q named = omega (arith, ready.complete q named, own_now q, counted_now q)

  pub files_read : (q : Name) → Contains (flat_map files_of_segment infos.segs) q → (b q).now ≡ (a (present_of j.parts q)).now
  files_read q named = reads_placed j.parts now h0 h1 a b done j.reused (λ x. omega (arith, counted x, times-append (present_names j.parts) j.reused x)) (λ x. omega (arith, counted_now x)) q (ready.complete q named)

  pub stands_now : (docs : List Doc) → StandsFor (reads_under j.parts (reads_of a)) infos docs → StandsFor (reads_of b) infos docs
  stands_now docs h = stands_along (reads_under j.parts (reads_of a)) (reads_of b) infos docs (λ q named. files_read q named) h

  pub old_readers : (older : Infos) (point : SearchPoint Shown) → olds ≡ point.names → IsPointOf (reads_of a) older point → AreReaders (reads_of b) older.segs point.readers
  old_readers older point e is = segments_along (reads_of a) (reads_of b) older.segs point.readers (λ q named.
      let some : 0 < times olds q = (let f : times olds q ≡ times point.names q = ap (λ (ns : List Name). times ns q) e in omega (arith, f, file_counted older point.names is.names q named)) in
      done.moves.keeps.reads q (omega (arith, some, counted q)) (omega (arith, some, counted_now q))) is.readers

  pub files_there : (names : List Name) → AreFilesOf infos names → IsWhole a h0 → AreThere b names
  files_there names are whole = record {
    each = λ k d lt.
        let x : Name = get_or names k d in
        (done.moves.keeps.whole whole).names x ∙ known_counted h1 x (files_held x ((are.named x).0 (Contains-get_or names k d lt)));
  }

  module _ (names : List Name) (are : AreFilesOf infos names) (h2 : Holdings) (holds : HoldsFiles names h1 h2 b) where
    between : (q : Name) → 0 < count_of h0 q → 0 < count_of h2 q → 0 < count_of h1 q
    between q had has = by (is_among names q) refl
      where
        by : (t : Bool) → is_among names q ≡ t → 0 < count_of h1 q
        by true e = files_held q (among_file infos names are q e)
        by false e = omega (arith, has, holds.counts q, not_among_times names q e)

    pub held_moves : MovesCounts (written_names j.parts) (job_names j) (names ++ (present_names now ++ j.reused)) h0 h2 a b
    held_moves = record {
      balance = λ q. omega (arith, done.moves.balance q, holds.counts q, times-append names (present_names now ++ j.reused) q, times-append (present_names now) j.reused q, times-append (present_names j.parts) j.reused q);
      keeps = keeps_within (written_names j.parts) [] h0 h1 h2 a b b done.moves.keeps holds.keeps (λ q out. refl) between;
    }

  pub advanced : (dropped : List Name) (h2 : Holdings) (c : Cells) (point : NewPoint) → AreFilesOf infos point.names → c ≡ b → AreReaders (reads_of b) infos.segs point.segs → point.readers ≡ point.segs
      → ((q : Name) → times point.gone q ≡ times olds q + times (present_names now ++ j.reused) q + times dropped q) → HoldsFiles point.names h1 h2 b → TakesInHand j (record j { parts = now }) infos olds dropped point h0 h2 a c
  advanced dropped h2 c point are same readers shared gone holds = subst (λ (x : Cells). TakesInHand j (record j { parts = now }) infos olds dropped point h0 h2 a x) (sym same) (record {
    names = are;
    readers = readers;
    shared = shared;
    gone = gone;
    moves = held_moves point.names are h2 holds;
    reads = files_read;
  })

-- ---- parts are placed, and nothing else was done
module _ (j now : Job) (n : ℕ) (h0 h1 : Holdings) (a b c : Cells) (done : Places n j.parts now.parts h0 h1 a b) (others : now ≡ record j { parts = now.parts }) (same : c ≡ b) where
  pub still_reads : (olds : List Name) → ((q : Name) → times olds q + times (job_names j) q ≤ count_of h0 q) → KeepsReads j now a c
  still_reads olds counted = subst (λ (x : Cells). KeepsReads j now a x) (sym same) (subst (λ (k : Job). KeepsReads j k a b) (sym others)
      (reads_partly j now.parts n h0 h1 a b (λ q. omega (arith, counted q)) done))

  pub still_moves : (h2 : Holdings) → h2 ≡ h1 → MovesCounts (written_names j.parts) (job_names j) (job_names now) h0 h2 a c
  still_moves h2 e = subst (λ (h : Holdings). MovesCounts (written_names j.parts) (job_names j) (job_names now) h0 h a c) (sym e)
      (subst (λ (x : Cells). MovesCounts (written_names j.parts) (job_names j) (job_names now) h0 h1 a x) (sym same)
      (subst (λ (k : Job). MovesCounts (written_names j.parts) (job_names j) (job_names k) h0 h1 a b) (sym others) (placed_moves n j.parts now.parts j.reused h0 h1 a b done)))
