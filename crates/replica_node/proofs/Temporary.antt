-- No file of a point and no file of a commit has a temporary name.
use Rattle.std.proofs.Common.{◌≡◌, ◌≢◌, ℕ, ◌==◌, Bool, true, false, List, [], ◌∷◌, ◌++◌, Option, Some, None, cond, refl, sym, ap, subst, ◌∙◌, arith, true≢false, codes}
use Rattle.std.specs.Prelude.{Contains, IfSome}
use Rattle.std.specs.List.{flat_map, All}
use Rattle.std.proofs.lemmas.List.Elements.{All-nil, All-cons, All-append, All-contains}
use Rattle.file_names.specs.Base36.{base36_of}
use Rattle.file_names.specs.Names.{part_name_of, live_name_of, temp_name_of, is_commit_name, is_pending_name}
use Rattle.file_names.specs.declared.composed.SegPart.{SegPart}
use Rattle.file_names.specs.declared.composed.SegPart.TheVariants.{Docs, Post, Info}
use Rattle.file_names.proofs.NameLaws.{temp_name_not_commit, temp_name_not_pending}
use Rattle.disk_model.specs.Disk.{Name, Cells, same, is_among}
use Rattle.disk_model.proofs.CellLemmas.{same_true}
use Rattle.file_deleter.specs.Holdings.{Holdings, times}
use Rattle.file_deleter.proofs.NameLemmas.{times-append, times_one, times-cons, not_among_times}
use Rattle.segment_infos.specs.declared.infos.SegRecord.{SegRecord}
use Rattle.segment_infos.specs.declared.infos.Infos.{Infos}
use Rattle.segment_infos.specs.Files.{files_of_segment, live_files, AreFilesOf}
use Rattle.commit_steps.specs.declared.states.Commit.{Commit}
use Rattle.commit_steps.specs.declared.stage.Stage.{Stage}
use Rattle.commit_steps.specs.declared.stage.Stage.TheVariants.{Begun, Synced, Written, Pending, Named, Renamed}
use Rattle.commit_steps.specs.declared.stage.CommitBook.{CommitBook}
use Rattle.commit_steps.specs.Flights.{own_name, pending_name, IsCommit}
use Rattle.commit_steps.specs.Commits.{Stays}
use Rattle.commit_steps.specs.Book.{book_names, last_names, flying_names, Stands, IsBookSound}
use Rattle.commit_steps.proofs.Safe.{own_is, pending_is, contains_of}
use Rattle.replica_node.specs.Waiting.{HasNoTemporary}

-- ---- the last byte of a name
abbrev last_byte : List ℕ → ℕ
last_byte [] = 0
last_byte (x ∷ []) = x
last_byte (x ∷ y ∷ ys) = last_byte (y ∷ ys)

last_byte-append : (xs : List ℕ) (y : ℕ) (ys : List ℕ) → last_byte (xs ++ y ∷ ys) ≡ last_byte (y ∷ ys)
last_byte-append [] y ys = refl
last_byte-append (x ∷ []) y ys = refl
last_byte-append (x ∷ z ∷ zs) y ys = last_byte-append (z ∷ zs) y ys

temp_ends : (name : Name) (job : ℕ) → last_byte (temp_name_of name job) ≡ 112
temp_ends name job = last_byte-append (name ++ codes "_" ++ base36_of job) 46 (codes "tmp")

-- ---- files of infos
abbrev Lasts : Name → Type 0
Lasts q = last_byte q ≢ 112

part_lasts : (seg : ℕ) (part : SegPart) → Lasts (part_name_of seg part)
part_lasts seg Docs e = absurd (let f : last_byte (part_name_of seg Docs) ≡ 115 = last_byte-append (codes "_" ++ base36_of seg) 46 (codes "docs") in omega (arith, e, f))
part_lasts seg Post e = absurd (let f : last_byte (part_name_of seg Post) ≡ 116 = last_byte-append (codes "_" ++ base36_of seg) 46 (codes "post") in omega (arith, e, f))
part_lasts seg Info e = absurd (let f : last_byte (part_name_of seg Info) ≡ 105 = last_byte-append (codes "_" ++ base36_of seg) 46 (codes "si") in omega (arith, e, f))

live_lasts : (seg live_gen : ℕ) → Lasts (live_name_of seg live_gen)
live_lasts seg live_gen e = absurd (let f : last_byte (live_name_of seg live_gen) ≡ 118 = last_byte-append (codes "_" ++ base36_of seg ++ codes "_" ++ base36_of live_gen) 46 (codes "liv") in omega (arith, e, f))

lives_last : (r : SegRecord) (test : Bool) → All Lasts (cond test [] (live_name_of r.seg.0 r.live_gen ∷ []))
lives_last r true = All-nil Lasts
lives_last r false = All-cons Lasts (live_name_of r.seg.0 r.live_gen) [] (live_lasts r.seg.0 r.live_gen) (All-nil Lasts)

parts_last : (seg : ℕ) (rest : List Name) → All Lasts rest → All Lasts (part_name_of seg Docs ∷ part_name_of seg Post ∷ part_name_of seg Info ∷ rest)
parts_last seg rest h =
    let info = All-cons Lasts (part_name_of seg Info) rest (part_lasts seg Info) h in
    let post = All-cons Lasts (part_name_of seg Post) (part_name_of seg Info ∷ rest) (part_lasts seg Post) info in
    All-cons Lasts (part_name_of seg Docs) (part_name_of seg Post ∷ part_name_of seg Info ∷ rest) (part_lasts seg Docs) post

files_last : (segs : List SegRecord) → All Lasts (flat_map files_of_segment segs)
files_last [] = All-nil Lasts
files_last (r ∷ segs) = All-append Lasts (files_of_segment r) (flat_map files_of_segment segs) (parts_last r.seg.0 (live_files r) (lives_last r (r.live_gen == 0))) (files_last segs)

pub file_apart : (infos : Infos) (q : Name) → Contains (flat_map files_of_segment infos.segs) q → (name : Name) (job : ℕ) → q ≡ temp_name_of name job → ⊥
file_apart infos q named name job is = All-contains Lasts (flat_map files_of_segment infos.segs) q (files_last infos.segs) named (ap last_byte is ∙ temp_ends name job)

pub files_no_temporary : (infos : Infos) (names : List Name) → AreFilesOf infos names → HasNoTemporary names
files_no_temporary infos names are = record { each = λ name job. by name job (is_among names (temp_name_of name job)) refl }
  where
    by : (name : Name) (job : ℕ) (b : Bool) → is_among names (temp_name_of name job) ≡ b → times names (temp_name_of name job) ≡ 0
    by name job true e = absurd (file_apart infos (temp_name_of name job) ((are.named (temp_name_of name job)).0 (contains_of names (temp_name_of name job) e)) name job refl)
    by name job false e = not_among_times names (temp_name_of name job) e

-- ---- files of commits
pub joins : (xs ys : List Name) → HasNoTemporary xs → HasNoTemporary ys → HasNoTemporary (xs ++ ys)
joins xs ys a b = record { each = λ name job. omega (arith, a.each name job, b.each name job, times-append xs ys (temp_name_of name job)) }

pub one_apart : (x q : Name) → (x ≡ q → ⊥) → times (x ∷ []) q ≡ 0
one_apart x q apart = by (same x q) refl
  where
    by : (b : Bool) → same x q ≡ b → times (x ∷ []) q ≡ 0
    by true e = absurd (apart (same_true x q e))
    by false e = times_one x q ∙ ap (λ b. cond b 1 0) e

own_apart : (c : Commit) → IsCommit c → HasNoTemporary (own_name c ∷ [])
own_apart c is = record { each = λ name job. one_apart (own_name c) (temp_name_of name job) (λ e. true≢false (sym (own_is c is) ∙ ap is_commit_name e ∙ temp_name_not_commit name job)) }

pending_apart : (c : Commit) → IsCommit c → HasNoTemporary (pending_name c ∷ [])
pending_apart c is = record { each = λ name job. one_apart (pending_name c) (temp_name_of name job) (λ e. true≢false (sym (pending_is c is) ∙ ap is_pending_name e ∙ temp_name_not_pending name job)) }

commit_files : (c : Commit) → IsCommit c → HasNoTemporary c.files
commit_files c is = files_no_temporary c.infos c.files is.files

last_no_temporary : (cells : Cells) (last : Option Commit) → IfSome last (Stays cells) → HasNoTemporary (last_names last)
last_no_temporary cells None h = record { each = λ name job. refl }
last_no_temporary cells (Some c) h =
    subst HasNoTemporary (sym h.commit.names) (joins c.files (own_name c ∷ []) (commit_files c h.commit) (own_apart c h.commit))

in_front : (x : Name) (xs : List Name) → HasNoTemporary (x ∷ []) → HasNoTemporary xs → HasNoTemporary (x ∷ xs)
in_front x xs a b = record { each = λ name job. omega (arith, a.each name job, b.each name job, times_one x (temp_name_of name job), times-cons x xs (temp_name_of name job)) }

flying_no_temporary : (cells : Cells) (holdings : Holdings) (stage : Option Stage) → IfSome stage (Stands cells holdings) → HasNoTemporary (flying_names stage)
flying_no_temporary cells holdings None h = record { each = λ name job. refl }
flying_no_temporary cells holdings (Some (Begun s)) h = commit_files s.0.commit h.flight.commit
flying_no_temporary cells holdings (Some (Synced s)) h = commit_files s.0.commit h.flight.commit
flying_no_temporary cells holdings (Some (Written s)) h = in_front (pending_name s.0.commit) s.0.commit.files (pending_apart s.0.commit h.flight.commit) (commit_files s.0.commit h.flight.commit)
flying_no_temporary cells holdings (Some (Pending s)) h = in_front (pending_name s.0.commit) s.0.commit.files (pending_apart s.0.commit h.flight.commit) (commit_files s.0.commit h.flight.commit)
flying_no_temporary cells holdings (Some (Named s)) h = in_front (pending_name s.0.commit) s.0.commit.files (pending_apart s.0.commit h.flight.commit) (commit_files s.0.commit h.flight.commit)
flying_no_temporary cells holdings (Some (Renamed s)) h = in_front (own_name s.0.commit) s.0.commit.files (own_apart s.0.commit h.flight.commit) (commit_files s.0.commit h.flight.commit)

pub book_no_temporary : (cells : Cells) (holdings : Holdings) (book : CommitBook) → IsBookSound cells holdings book → HasNoTemporary (book_names book)
book_no_temporary cells holdings book sound = joins (last_names book.last) (flying_names book.stage) (last_no_temporary cells book.last sound.safe.last_stays) (flying_no_temporary cells holdings book.stage sound.stands)
