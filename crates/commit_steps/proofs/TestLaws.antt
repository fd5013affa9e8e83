-- Directories and books that the tests make.
use Rattle.std.proofs.Common.{◌≡◌, ℕ, ◌+◌, ◌<◌, ◌≤◌, Bool, true, false, cond, List, [], ◌∷◌, Some, None, is_some, refl, sym, ap, subst, ◌∙◌, arith, true≢false}
use Rattle.disk_model.specs.Disk.{Name, Content, Cells, Image, may_leave, same, restarted, reads_of}
use Rattle.file_names.specs.Names.{commit_name_of}
use Rattle.disk_model.proofs.CellLemmas.{same_true, left_synced}
use Rattle.disk_memory.specs.Held.{Held, untouched, cell}
use Rattle.disk_memory.specs.Table.{Table, cells_of}
use Rattle.segment_infos.specs.declared.infos.Infos.{Infos}
use Rattle.file_deleter.specs.Holdings.{Holdings, count_of, times, AreCounted}
use Rattle.file_deleter.proofs.NameLemmas.{times_one}
use Rattle.commit_steps.specs.Found.{ShowsCommit}
use Rattle.commit_steps.specs.Recovery.{IsWholeCommit}
use Rattle.commit_steps.specs.Commits.{LeavesNothing, IsSettled, ImagesShowNothing, ImagesShow}
use Rattle.commit_steps.specs.declared.stage.CommitBook.{CommitBook}
use Rattle.commit_steps.specs.Book.{book_names}
use Rattle.commit_steps.proofs.Recovered.{whole_there}

-- a name under which nothing was leaves nothing
pub leaves_nothing : (table : Table) → ((q : Name) → table q ≡ untouched) → (q : Name) → LeavesNothing (cells_of table q)
leaves_nothing table none q o may = none_of o (subst (λ (h : Held). may_leave (cell h) o ≡ true) (none q) may)
  where
    none_of : (c : Content) → may_leave (cell untouched) c ≡ true → c ≡ None
    none_of None m = refl
    none_of (Some bytes) m = absurd (true≢false (sym m))

-- after a crash a name leaves what reads
pub settled_restarted : (image : Image) (q : Name) → IsSettled (restarted image q)
settled_restarted image q o may = by (image q) o may
  where
    by : (c o : Content) → may_leave (record { now = c; synced = is_some c; past = λ _. false }) o ≡ true → o ≡ c
    by None None m = refl
    by None (Some bytes) m = absurd (true≢false (sym m))
    by (Some bytes) o m = left_synced (Some bytes) true bytes o refl refl m

-- so each image of a directory where nothing was shows nothing
pub shows_nothing : (table : Table) → ((q : Name) → table q ≡ untouched) → ImagesShowNothing (cells_of table)
shows_nothing table none = record { each = λ image is q named. leaves_nothing table none q (image q) (is q) }

-- and each image after a crash shows what reads
pub shows_restarted : (cells : Cells) (image : Image) (n : ℕ) (infos : Infos) → cells ≡ restarted image → IsWholeCommit (reads_of cells) n infos → ImagesShow cells n infos
shows_restarted cells from n infos e whole =
    let shown : ShowsCommit (reads_of cells) n infos = whole.shown in
    let settled : (q : Name) → IsSettled (cells q) = λ q. subst (λ (c : Cells). IsSettled (c q)) (sym e) (settled_restarted from q) in
    record {
      each = λ image is. record {
        shown = record {
          bytes = shown.bytes;
          newest = record {
            some = shown.newest.some;
            below = shown.newest.below;
            there = settled (commit_name_of n) (image (commit_name_of n)) (is (commit_name_of n)) ∙ shown.newest.there;
            greatest = λ q named above. settled q (image q) (is q) ∙ shown.newest.greatest q named above;
          };
          spelled = shown.spelled;
        };
        files = λ q named. (settled q (image q) (is q), ap is_some (settled q (image q) (is q)) ∙ whole_there cells n infos whole q named);
      };
    }

-- a book without a commit counts nothing
pub counted_none : (book : CommitBook) (n : ℕ) (holdings : Holdings) → book ≡ record { last = None; stage = None; next = n } → AreCounted (book_names book) holdings
counted_none book n holdings e = subst (λ (b : CommitBook). AreCounted (book_names b) holdings) (sym e) (record { each = λ q. omega arith })

-- one name that is counted may be given back
pub counted_one : (name : Name) (holdings : Holdings) → 0 < count_of holdings name → AreCounted (name ∷ []) holdings
counted_one name holdings some = record { each = λ q. by q (same name q) refl }
  where
    by : (q : Name) (b : Bool) → same name q ≡ b → times (name ∷ []) q ≤ count_of holdings q
    by q true e = let one : times (name ∷ []) q ≡ 1 = times_one name q ∙ ap (λ t. cond t 1 0) e in
        let here : 0 < count_of holdings q = subst (λ (n : Name). 0 < count_of holdings n) (same_true name q e) some in
        omega (arith, one, here)
    by q false e = let none : times (name ∷ []) q ≡ 0 = times_one name q ∙ ap (λ t. cond t 1 0) e in omega (arith, none)

-- what was held is counted
pub counted_held : (names : List Name) (old new : Holdings) → ((q : Name) → count_of new q ≡ count_of old q + times names q) → AreCounted names new
counted_held names old new counts = record { each = λ q. omega (arith, counts q) }
