-- A job, and what is of documents, over calls beside them.
use Rattle.replica_node.proofs.Cores.{IsCore}
use Rattle.std.proofs.Common.{◌≡◌, ◌∙◌, ℕ, ◌<◌, true, List, [], ◌++◌, Option, Some, None, refl, sym, subst, arith}
use Rattle.std.specs.Prelude.{IfSome, Contains}
use Rattle.std.specs.List.{flat_map}
use Rattle.disk_model.specs.Disk.{Name, Cells, is_among, reads_of}
use Rattle.file_names.specs.Names.{temp_name_of}
use Rattle.file_deleter.specs.Holdings.{Holdings, count_of, times}
use Rattle.file_deleter.proofs.NameLemmas.{times-append, among_times}
use Rattle.segment_infos.specs.declared.infos.Infos.{Infos}
use Rattle.segment_infos.specs.Files.{files_of_segment}
use Rattle.seg_reader.specs.Shown.{Shown}
use Rattle.commit_steps.specs.declared.stage.CommitBook.{CommitBook}
use Rattle.commit_steps.specs.Book.{book_names}
use Rattle.searcher_switch.specs.Node.{IsWholeNode, HoldsNoMore, AddsOnly, KeepsBytes}
use Rattle.searcher_switch.specs.Standing.{StandsForSome, IsStanding}
use Rattle.searcher_switch.specs.declared.searchers.Searchers.{Searchers}
use Rattle.searcher_switch.specs.Searching.{searcher_names}
use Rattle.searcher_switch.specs.Tickets.{ticket_names}
use Rattle.searcher_switch.proofs.Fewer.{no_more_beside}
use Rattle.searcher_switch.proofs.Standing.{stands_along, standing_kept}
use Rattle.copy_state.specs.declared.meta.FileMetaData.{FileMetaData}
use Rattle.replica_node.specs.declared.job.PointJob.{PointJob}
use Rattle.replica_node.specs.declared.parts.ReplicaParts.{ReplicaParts}
use Rattle.replica_node.specs.Waiting.{HasNoTemporary, IsWaiting}
use Rattle.replica_node.specs.Replica.{IsJobAbove, AreStanding, copying_names}
use Rattle.replica_node.proofs.Named.{file_counted}
use Rattle.replica_node.proofs.Temporary.{book_no_temporary}
use Rattle.replica_node.proofs.Waiting.{waits_beside}

-- ---- the job
pub job_beside : (version : ℕ) (job : Option PointJob) (old new : Holdings) → IfSome job (IsJobAbove version) → ((name : Name) (number : ℕ) → count_of new (temp_name_of name number) ≡ count_of old (temp_name_of name number))
    → HoldsNoMore old new → IfSome job (λ j. IsWaiting old j.copy) → IfSome job (λ j. IsWaiting new j.copy)
job_beside version None old new above temporary beside waits = tt
job_beside version (Some j) old new above temporary beside waits = waits_beside j.infos j.copy above.copy above.state.files old waits new temporary beside

-- a temporary file is held by the copies alone
pub temporary_count : (cells : Cells) (holdings : Holdings) (front rest : List Name) (book : CommitBook) → IsWholeNode cells holdings (front ++ rest) book → HasNoTemporary front
    → (name : Name) (number : ℕ) → count_of holdings (temp_name_of name number) ≡ times rest (temp_name_of name number)
temporary_count cells holdings front rest book node none name number =
    let q : Name = temp_name_of name number in
    omega (arith, node.counts q, none.each name number, (book_no_temporary cells holdings book node.sound).each name number, times-append front rest q)

-- the job waits on, where the searchers and the commits name no temporary file and hold none that nobody held
pub waits_on : (a b : Cells) (old new : Holdings) (version : ℕ) (job : Option PointJob) (from to rest : List Name) (was now : CommitBook) → IsWholeNode a old (from ++ rest) was → IsWholeNode b new (to ++ rest) now
    → HasNoTemporary from → HasNoTemporary to → HoldsNoMore old new → IfSome job (IsJobAbove version) → IfSome job (λ j. IsWaiting old j.copy) → IfSome job (λ j. IsWaiting new j.copy)
waits_on a b old new version job from to rest was now node after none none_more beside above waits =
    job_beside version job old new above (λ name number. temporary_count b new to rest now after none_more name number ∙ sym (temporary_count a old from rest was node none name number)) beside waits

-- a value in front that adds no name holds no more
pub front_no_more : (a b : Cells) (old new : Holdings) (from to rest : List Name) (book : CommitBook) → IsWholeNode a old (from ++ rest) book → IsWholeNode b new (to ++ rest) book → AddsOnly [] from to → HoldsNoMore old new
front_no_more a b old new from to rest book node after only =
    no_more_beside a b old new (from ++ rest) (to ++ rest) book node after
    (record { each = λ q none empty. omega (arith, none, times-append from rest q, times-append to rest q, only.each q (omega (arith, none, times-append from rest q)) refl) })

pub same_no_more : (a b : Cells) (old new : Holdings) (hs : List Name) (book : CommitBook) → IsWholeNode a old hs book → IsWholeNode b new hs book → HoldsNoMore old new
same_no_more a b old new hs book node after = record { each = λ q plain other none. omega (arith, none, node.counts q, after.counts q) }

-- ---- what is of documents
module _ {D : Type 0} (cells : D → Cells) (p : ReplicaParts D) (is : IsCore cells p) where
  point_held : (q : Name) → Contains (flat_map files_of_segment p.infos.segs) q → 0 < count_of p.files q
  point_held q named =
      let some : 0 < times p.searchers.point.names q = file_counted p.infos p.searchers.point.names is.point.names q named in
      omega (arith, some, is.node.counts q, times-append (searcher_names p.searchers) (copying_names p) q, times-append p.searchers.point.names (ticket_names p.searchers.tickets) q)

  book_held : (q : Name) → is_among (book_names p.commits) q ≡ true → 0 < count_of p.files q
  book_held q there = omega (arith, among_times (book_names p.commits) q there, is.node.counts q)

-- calls that leave the point and the commits as they are, and the bytes of what is held
pub standing_on : {D : Type 0} (cells : D → Cells) (p now : ReplicaParts D) → IsCore cells p → IsCore cells now → now.infos ≡ p.infos → now.commits ≡ p.commits → KeepsBytes p.files now.files (cells p.dir) (cells now.dir)
    → AreStanding cells p → AreStanding cells now
standing_on cells p now is after infos commits stays h = record {
  point = subst (λ (i : Infos). StandsForSome (reads_of (cells now.dir)) i) (sym infos) (record {
    docs = h.point.docs;
    stands = stands_along (reads_of (cells p.dir)) (reads_of (cells now.dir)) p.infos h.point.docs
        (λ q named. stays.held q (point_held cells p is q named) (point_held cells now after q (subst (λ (i : Infos). Contains (flat_map files_of_segment i.segs) q) (sym infos) named))) h.point.stands;
  });
  commits = subst (IsStanding (reads_of (cells now.dir))) (sym commits)
      (standing_kept (cells p.dir) (cells now.dir) p.files p.commits is.node.sound
      (λ q there. stays.held q (book_held cells p is q there) (book_held cells now after q (subst (λ (b : CommitBook). is_among (book_names b) q ≡ true) (sym commits) there))) h.commits);
}

pub standing_jobs : {D : Type 0} (cells : D → Cells) (p : ReplicaParts D) → IsCore cells p → (dir : D) (files : Holdings) (job : Option PointJob) (known : List (Name × FileMetaData)) → IsCore cells (record p { dir = dir; files = files; job = job; known = known })
    → ((q : Name) → 0 < count_of p.files q → 0 < count_of files q → (cells dir q).now ≡ (cells p.dir q).now) → AreStanding cells p → AreStanding cells (record p { dir = dir; files = files; job = job; known = known })
standing_jobs cells p is dir files job known after reads h = standing_on cells p (record p { dir = dir; files = files; job = job; known = known }) is after refl refl (record { held = reads }) h

pub standing_searched : {D : Type 0} (cells : D → Cells) (p : ReplicaParts D) → IsCore cells p → (dir : D) (files : Holdings) (searchers : Searchers Shown) → IsCore cells (record p { dir = dir; files = files; searchers = searchers })
    → ((q : Name) → 0 < count_of p.files q → 0 < count_of files q → (cells dir q).now ≡ (cells p.dir q).now) → AreStanding cells p → AreStanding cells (record p { dir = dir; files = files; searchers = searchers })
standing_searched cells p is dir files searchers after reads h = standing_on cells p (record p { dir = dir; files = files; searchers = searchers }) is after refl refl (record { held = reads }) h
