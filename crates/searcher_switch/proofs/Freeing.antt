-- The names of the commits to come.
use Rattle.std.proofs.Common.{◌≡◌, ◌≢◌, ◌<◌, ◌≤◌, ℕ, zero, suc, ◌+◌, ◌^◌, Bool, true, false, List, [], ◌∷◌, Option, Some, None, is_some, refl, sym, ap, subst, ◌∙◌, arith, cond, true≢false}
use Rattle.std.specs.Prelude.{IfSome}
use Rattle.disk_model.specs.Disk.{Name, Cells, is_among}
use Rattle.disk_model.proofs.CellLemmas.{same_apart}
use Rattle.file_names.specs.Names.{is_commit_name, is_pending_name, commit_number, pending_number, commit_name_of, pending_name_of}
use Rattle.file_names.proofs.NameLaws.{commit_number-commit_name, pending_number-pending_name, commit_name_is_one, pending_name_is_one, commit_name_not_pending, pending_name_not_commit, commit_name_only, pending_name_only}
use Rattle.file_deleter.specs.Holdings.{Holdings, count_of, is_known, times, IsWhole}
use Rattle.file_deleter.specs.Moves.{Shifts}
use Rattle.file_deleter.proofs.NameLemmas.{times-append, times-cons, not_among_times}
use Rattle.file_deleter.proofs.Keeping.{known_counted, known_uncounted}
use Rattle.commit_steps.specs.declared.states.Commit.{Commit}
use Rattle.commit_steps.specs.declared.stage.Stage.{Stage}
use Rattle.commit_steps.specs.declared.stage.Stage.TheVariants.{Begun, Synced, Written, Pending, Named, Renamed}
use Rattle.commit_steps.specs.declared.stage.CommitBook.{CommitBook}
use Rattle.commit_steps.specs.Flights.{own_name, pending_name, IsCommit}
use Rattle.commit_steps.specs.Commits.{IsAbove, Stays}
use Rattle.commit_steps.specs.Calls.{IsFree}
use Rattle.commit_steps.specs.Book.{flying_names, last_names, book_names, Stands, IsNumbered, IsBookSound}
use Rattle.commit_steps.proofs.Safe.{files_are_plain, own_is, pending_is, number_of_own}
use Rattle.searcher_switch.specs.Node.{AreFree}

-- a name of the commits to come: that of a commit, or of one in preparation, from this number on
pub record IsToCome (next : ℕ) (q : Name) : Type 0 where
  pub commit : is_commit_name q ≡ true → next ≤ commit_number q
  pub pending : is_pending_name q ≡ true → next ≤ pending_number q
  pub named : (is_commit_name q ≡ false) → is_pending_name q ≡ true

-- it is no file, no commit's name and no pending name of a commit below that number
module _ (next : ℕ) (q : Name) (to_come : IsToCome next q) where
  no_file : (c : Commit) → IsCommit c → times c.files q ≡ 0
  no_file c is = by (is_among c.files q) refl
    where
      by : (b : Bool) → is_among c.files q ≡ b → times c.files q ≡ 0
      by true e = let plain = files_are_plain c is q e in absurd (true≢false (sym (to_come.named plain.0) ∙ plain.1))
      by false e = not_among_times c.files q e

  no_own : (c : Commit) → IsCommit c → c.number < next → own_name c ≢ q
  no_own c is lt e =
      let n : commit_number q ≡ c.number = sym (ap commit_number e) ∙ number_of_own c is in
      let le : next ≤ commit_number q = to_come.commit (sym (ap is_commit_name e) ∙ own_is c is) in
      absurd (omega (arith, n, lt, le))

  no_pending : (c : Commit) → IsCommit c → c.number < next → pending_name c ≢ q
  no_pending c is lt e =
      let n : pending_number q ≡ c.number = sym (ap pending_number e) ∙ pending_number-pending_name c.number (omega (arith, is.below)) in
      let le : next ≤ pending_number q = to_come.pending (sym (ap is_pending_name e) ∙ pending_is c is) in
      absurd (omega (arith, n, lt, le))

  times_none : (x : Name) (xs : List Name) → x ≢ q → times xs q ≡ 0 → times (x ∷ xs) q ≡ 0
  times_none x xs apart none = let c : times (x ∷ xs) q ≡ 0 + times xs q = times-cons x xs q ∙ ap (λ b. cond b 1 0 + times xs q) (same_apart x q apart) in omega (arith, c, none)

  last_none : (cells : Cells) (last : Option Commit) → IfSome last (Stays cells) → IsAbove last next → times (last_names last) q ≡ 0
  last_none cells None h above = refl
  last_none cells (Some c) h above =
      let named : times c.names q ≡ times c.files q + times (own_name c ∷ []) q = ap (λ (ns : List Name). times ns q) h.commit.names ∙ times-append c.files (own_name c ∷ []) q in
      let none : times (own_name c ∷ []) q ≡ 0 = times_none (own_name c) [] (no_own c h.commit above) refl in
      omega (arith, named, none, no_file c h.commit)

  flying_none : (cells : Cells) (holdings : Holdings) (last : Option Commit) (stage : Option Stage) → IfSome stage (Stands cells holdings) → IfSome stage (IsNumbered last next) → times (flying_names stage) q ≡ 0
  flying_none cells holdings last None h n = refl
  flying_none cells holdings last (Some (Begun s)) h n = no_file s.0.commit h.flight.commit
  flying_none cells holdings last (Some (Synced s)) h n = no_file s.0.commit h.flight.commit
  flying_none cells holdings last (Some (Written s)) h n = times_none (pending_name s.0.commit) s.0.commit.files (no_pending s.0.commit h.flight.commit n.drawn) (no_file s.0.commit h.flight.commit)
  flying_none cells holdings last (Some (Pending s)) h n = times_none (pending_name s.0.commit) s.0.commit.files (no_pending s.0.commit h.flight.commit n.drawn) (no_file s.0.commit h.flight.commit)
  flying_none cells holdings last (Some (Named s)) h n = times_none (pending_name s.0.commit) s.0.commit.files (no_pending s.0.commit h.flight.commit n.drawn) (no_file s.0.commit h.flight.commit)
  flying_none cells holdings last (Some (Renamed s)) h n = times_none (own_name s.0.commit) s.0.commit.files (no_own s.0.commit h.flight.commit n.drawn) (no_file s.0.commit h.flight.commit)

  -- the book does not hold it
  pub book_none : (cells : Cells) (holdings : Holdings) (book : CommitBook) → book.next ≡ next → IsBookSound cells holdings book → times (book_names book) q ≡ 0
  book_none cells holdings book e sound =
      let a : times (last_names book.last) q ≡ 0 = last_none cells book.last sound.safe.last_stays (subst (IsAbove book.last) e sound.next) in
      let b : times (flying_names book.stage) q ≡ 0 = flying_none cells holdings book.last book.stage sound.stands (subst (λ n. IfSome book.stage (IsNumbered book.last n)) e sound.numbered) in
      omega (arith, a, b, times-append (last_names book.last) (flying_names book.stage) q)

commit_to_come : (next : ℕ) (q : Name) → is_commit_name q ≡ true → next ≤ commit_number q → is_pending_name q ≡ false → IsToCome next q
commit_to_come next q is le apart = record { commit = λ h. le; pending = λ h. absurd (true≢false (sym h ∙ apart)); named = λ h. absurd (true≢false (sym is ∙ h)) }

pending_to_come : (next : ℕ) (q : Name) → is_pending_name q ≡ true → next ≤ pending_number q → is_commit_name q ≡ false → IsToCome next q
pending_to_come next q is le apart = record { commit = λ h. absurd (true≢false (sym h ∙ apart)); pending = λ h. le; named = λ h. is }

-- a name of a commit is none of one in preparation
not_both : (q : Name) → is_commit_name q ≡ true → is_pending_name q ≡ false
not_both q is = ap is_pending_name (commit_name_only q is).0 ∙ commit_name_not_pending (commit_number q)

not_both_pending : (q : Name) → is_pending_name q ≡ true → is_commit_name q ≡ false
not_both_pending q is = ap is_commit_name (pending_name_only q is).0 ∙ pending_name_not_commit (pending_number q)

-- a step of the book leaves the names of the commits to come free
pub free_shifted : (before after : Cells) (old new : Holdings) (was now : CommitBook) → IsBookSound after new now → now.next ≡ was.next
    → Shifts (book_names was) (book_names now) old new before after → AreFree before was.next → AreFree after now.next
free_shifted before after old new was now sound e shifts free = record {
  commits = λ q is le. shifts.none q (book_none now.next q (commit_to_come now.next q is le (not_both q is)) after new now refl sound) (free.commits q is (omega (arith, le, e)));
  pending = λ q is le. shifts.none q (book_none now.next q (pending_to_come now.next q is le (not_both_pending q is)) after new now refl sound) (free.pending q is (omega (arith, le, e)));
}

-- what does not exist in a whole directory is free
pub is_free : (cells : Cells) (holdings : Holdings) (q : Name) → IsWhole cells holdings → (cells q).now ≡ None → IsFree cells holdings q
is_free cells holdings q whole none = record { none = none; unheld = unheld (count_of holdings q) refl; clear = sym (known_uncounted holdings q (unheld (count_of holdings q) refl)) ∙ unknown }
  where
    unknown : is_known holdings q ≡ false
    unknown = sym (whole.names q) ∙ ap is_some none

    unheld : (n : ℕ) → count_of holdings q ≡ n → count_of holdings q ≡ 0
    unheld zero e = e
    unheld (suc n) e = absurd (true≢false (sym (known_counted holdings q (omega (arith, e))) ∙ unknown))

pub pending_free : (cells : Cells) (holdings : Holdings) (next : ℕ) → IsWhole cells holdings → AreFree cells next → 0 < next → next < 2 ^ 62 → IsFree cells holdings (pending_name_of next)
pending_free cells holdings next whole free some below = is_free cells holdings (pending_name_of next) whole
    (let e : pending_number (pending_name_of next) ≡ next = pending_number-pending_name next (omega (arith, below)) in
    free.pending (pending_name_of next) (pending_name_is_one next some below) (omega (arith, e)))

pub own_free : (cells : Cells) (holdings : Holdings) (next : ℕ) → IsWhole cells holdings → AreFree cells next → 0 < next → next < 2 ^ 62 → IsFree cells holdings (commit_name_of next)
own_free cells holdings next whole free some below = is_free cells holdings (commit_name_of next) whole
    (let e : commit_number (commit_name_of next) ≡ next = commit_number-commit_name next (omega (arith, below)) in
    free.commits (commit_name_of next) (commit_name_is_one next some below) (omega (arith, e)))
