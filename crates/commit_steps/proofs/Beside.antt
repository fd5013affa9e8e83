-- Calls beside the book leave it sound.
use Rattle.std.proofs.Common.{◌≡◌, ◌⊎◌, ℕ, zero, suc, ◌<◌, ◌||◌, Bool, true, false, List, [], ◌∷◌, ◌++◌, get_or, Option, Some, None, refl, sym, ap, ◌∙◌, arith, inl, inr, is_some, true≢false}
use Rattle.std.specs.Prelude.{IfSome}
use Rattle.std.proofs.Math.Bool.{or-true}
use Rattle.std.proofs.lemmas.List.Elements.{Contains-get_or}
use Rattle.disk_model.specs.Disk.{Name, Content, Cell, Cells, may_leave, same, is_among}
use Rattle.disk_model.proofs.CellLemmas.{same_kept}
use Rattle.file_names.specs.Names.{is_commit_name, is_pending_name}
use Rattle.file_deleter.specs.Holdings.{Holdings, count_of, is_known, times, IsWhole, AreThere, AreCounted}
use Rattle.file_deleter.specs.Moves.{Shifts}
use Rattle.file_deleter.proofs.NameLemmas.{among_times, among-append, among_first}
use Rattle.file_deleter.proofs.Keeping.{known_counted, known_uncounted}
use Rattle.commit_steps.specs.declared.states.Commit.{Commit}
use Rattle.commit_steps.specs.declared.stage.Stage.{Stage}
use Rattle.commit_steps.specs.declared.stage.Stage.TheVariants.{Begun, Synced, Written, Pending, Named, Renamed}
use Rattle.commit_steps.specs.declared.stage.CommitBook.{CommitBook}
use Rattle.commit_steps.specs.Flights.{own_name, pending_name, IsCommit}
use Rattle.commit_steps.specs.Commits.{ImagesAre, AreSettled, Stays, MayStay}
use Rattle.commit_steps.specs.Calls.{IsFree, IsSynced, AreSynced}
use Rattle.commit_steps.specs.Book.{shown_by, flying_names, last_names, book_names, Stands, IsBookSound}
use Rattle.commit_steps.specs.Beside.{IsBeside}
use Rattle.commit_steps.proofs.Safe.{among_of, own_is, pending_is, images_of_safe, file_along}

-- ---- names
pub behind : (x : Name) (xs : List Name) (q : Name) → is_among xs q ≡ true → is_among (x ∷ xs) q ≡ true
behind x xs q there = ap (λ b. same x q || b) there ∙ or-true (same x q)

pub in_front : (xs ys : List Name) (q : Name) → is_among xs q ≡ true → is_among (xs ++ ys) q ≡ true
in_front xs ys q there = among-append xs ys q ∙ ap (λ b. b || is_among ys q) there

pub in_rear : (xs ys : List Name) (q : Name) → is_among ys q ≡ true → is_among (xs ++ ys) q ≡ true
in_rear xs ys q there = among-append xs ys q ∙ ap (λ b. is_among xs q || b) there ∙ or-true (is_among xs q)

own_among : (c : Commit) → IsCommit c → is_among c.names (own_name c) ≡ true
own_among c is = ap (λ (ns : List Name). is_among ns (own_name c)) is.names ∙ in_rear c.files (own_name c ∷ []) (own_name c) (among_first (own_name c) [])

pub file_among : (c : Commit) → IsCommit c → (q : Name) → is_among c.files q ≡ true → is_among c.names q ≡ true
file_among c is q there = ap (λ (ns : List Name). is_among ns q) is.names ∙ in_front c.files (own_name c ∷ []) q there

-- ---- names that stay as they are
abbrev Same : Cells → Cells → List Name → Type 0
Same before after names = (q : Name) → is_among names q ≡ true → after q ≡ before q

files_settled : (before after : Cells) (files : List Name) → Same before after files → AreSettled before files → AreSettled after files
files_settled before after files same h q there = file_along (before q) (after q) (same_kept (before q) (after q) (same q there)) (h q there)

files_there : (before after : Cells) (files : List Name) → Same before after files → AreThere before files → AreThere after files
files_there before after files same h = record {
  each = λ k d lt. ap (λ (x : Cell). is_some x.now) (same (get_or files k d) (among_of files (get_or files k d) (Contains-get_or files k d lt))) ∙ h.each k d lt;
}

files_synced : (before after : Cells) (files : List Name) → Same before after files → AreSynced before files → AreSynced after files
files_synced before after files same h = record {
  each = λ q there. (ap (λ (x : Cell). is_some x.now) (same q there) ∙ (h.each q there).0, ap (λ (x : Cell). x.synced) (same q there) ∙ (h.each q there).1);
}

one_synced : (before after : Cells) (q : Name) (bytes : List ℕ) → after q ≡ before q → IsSynced (before q) bytes → IsSynced (after q) bytes
one_synced before after q bytes e h = record { now = ap (λ (x : Cell). x.now) e ∙ h.now; synced = ap (λ (x : Cell). x.synced) e ∙ h.synced }

module _ (book : CommitBook) (old new : Holdings) (before after : Cells) (b : IsBeside book old new before after) (whole : IsWhole before old) where
  -- ---- what the call does under one name
  held : Same before after (book_names book)
  held q there =
      let some : 0 < times (book_names book) q = among_times (book_names book) q there in
      b.keeps.kept q (b.apart q there) (omega (arith, some, b.counted.each q)) (omega (arith, some, b.still_counted.each q))

  still_held : (q : Name) → is_among (book_names book) q ≡ true → 0 < count_of new q
  still_held q there = let some : 0 < times (book_names book) q = among_times (book_names book) q there in omega (arith, some, b.still_counted.each q)

  not_written : (q : Name) → (is_commit_name q ≡ true) ⊎ (is_pending_name q ≡ true) → is_among b.written q ≡ false
  not_written q named = by (is_among b.written q) refl
    where
      by : (x : Bool) → is_among b.written q ≡ x → is_among b.written q ≡ false
      by true e = elim named [ inl h ↦ absurd (true≢false (sym h ∙ (b.plain q e).0)) | inr h ↦ absurd (true≢false (sym h ∙ (b.plain q e).1)) ]
      by false e = e

  crashes : (q : Name) → is_commit_name q ≡ true → (o : Content) → may_leave (after q) o ≡ true → (may_leave (before q) o ≡ true) ⊎ (o ≡ None)
  crashes q named o may = b.keeps.crash q o (not_written q (inl named)) may

  free : (q : Name) → (is_commit_name q ≡ true) ⊎ (is_pending_name q ≡ true) → IsFree before old q → IsFree after new q
  free q named h = record { none = gone; unheld = unheld (count_of new q) refl; clear = sym (known_uncounted new q (unheld (count_of new q) refl)) ∙ unknown }
    where
      gone : (after q).now ≡ None
      gone = b.keeps.none q (not_written q named) h.none

      unknown : is_known new q ≡ false
      unknown = sym ((b.keeps.whole whole).names q) ∙ ap is_some gone

      unheld : (n : ℕ) → count_of new q ≡ n → count_of new q ≡ 0
      unheld zero e = e
      unheld (suc n) e = absurd (true≢false (sym (known_counted new q (omega (arith, e))) ∙ unknown))

  once : (c : Commit) → IsCommit c → 0 < count_of new (pending_name c) → count_of old (pending_name c) ≡ 1 → count_of new (pending_name c) ≡ 1
  once c is some one = omega (arith, some, one, b.alone (pending_name c) (pending_is c is))

  -- ---- what a crash leaves
  last_beside : (last : Option Commit) → Same before after (last_names last) → IfSome last (Stays before) → IfSome last (Stays after)
  last_beside None same h = tt
  last_beside (Some c) same h = record {
    commit = h.commit;
    own = λ o may. h.own o (ap (λ (k : Cell). may_leave k o) (sym (same (own_name c) (own_among c h.commit))) ∙ may);
    files = files_settled before after c.files (λ q there. same q (file_among c h.commit q there)) h.files;
  }

  may_stay : (last : Option Commit) (c : Commit) → Same before after c.files → MayStay before last c → MayStay after last c
  may_stay last c same h = record {
    commit = h.commit;
    above = h.above;
    own = λ o may. elim (crashes (own_name c) (own_is c h.commit) o may) [ inl was ↦ h.own o was | inr none ↦ inl none ];
    files = files_settled before after c.files same h.files;
  }

  flight_beside : (last : Option Commit) (stage : Option Stage) → Same before after (flying_names stage) → IfSome (shown_by stage) (MayStay before last) → IfSome (shown_by stage) (MayStay after last)
  flight_beside last None same h = tt
  flight_beside last (Some (Begun s)) same h = tt
  flight_beside last (Some (Synced s)) same h = tt
  flight_beside last (Some (Written s)) same h = tt
  flight_beside last (Some (Pending s)) same h = tt
  flight_beside last (Some (Named s)) same h = may_stay last s.0.commit (λ q there. same q (behind (pending_name s.0.commit) s.0.commit.files q there)) h
  flight_beside last (Some (Renamed s)) same h = may_stay last s.0.commit (λ q there. same q (behind (own_name s.0.commit) s.0.commit.files q there)) h

  -- ---- what the commit in flight has
  module _ (c : Commit) (is : IsCommit c) where
    own_free : IsFree before old (own_name c) → IsFree after new (own_name c)
    own_free h = free (own_name c) (inl (own_is c is)) h

    pending_free : IsFree before old (pending_name c) → IsFree after new (pending_name c)
    pending_free h = free (pending_name c) (inr (pending_is c is)) h

  stands_beside : (stage : Option Stage) → Same before after (flying_names stage) → ((q : Name) → is_among (flying_names stage) q ≡ true → 0 < count_of new q)
      → IfSome stage (Stands before old) → IfSome stage (Stands after new)
  stands_beside None same some h = tt
  stands_beside (Some (Begun s)) same some h = record {
    flight = h.flight;
    files = files_there before after s.0.commit.files same h.files;
    pending = pending_free s.0.commit h.flight.commit h.pending;
    own = own_free s.0.commit h.flight.commit h.own;
  }
  stands_beside (Some (Synced s)) same some h = record {
    flight = h.flight;
    files = files_synced before after s.0.commit.files same h.files;
    pending = pending_free s.0.commit h.flight.commit h.pending;
    own = own_free s.0.commit h.flight.commit h.own;
  }
  stands_beside (Some (Written s)) same some h =
      let at = among_first (pending_name s.0.commit) s.0.commit.files in
      record {
        flight = h.flight;
        files = files_synced before after s.0.commit.files (λ q there. same q (behind (pending_name s.0.commit) s.0.commit.files q there)) h.files;
        pending = ap (λ (x : Cell). x.now) (same (pending_name s.0.commit) at) ∙ h.pending;
        once = once s.0.commit h.flight.commit (some (pending_name s.0.commit) at) h.once;
        own = own_free s.0.commit h.flight.commit h.own;
      }
  stands_beside (Some (Pending s)) same some h =
      let at = among_first (pending_name s.0.commit) s.0.commit.files in
      record {
        flight = h.flight;
        files = files_synced before after s.0.commit.files (λ q there. same q (behind (pending_name s.0.commit) s.0.commit.files q there)) h.files;
        pending = one_synced before after (pending_name s.0.commit) s.0.bytes (same (pending_name s.0.commit) at) h.pending;
        once = once s.0.commit h.flight.commit (some (pending_name s.0.commit) at) h.once;
        own = own_free s.0.commit h.flight.commit h.own;
      }
  stands_beside (Some (Named s)) same some h =
      let at = among_first (pending_name s.0.commit) s.0.commit.files in
      record {
        flight = h.flight;
        pending = one_synced before after (pending_name s.0.commit) s.0.bytes (same (pending_name s.0.commit) at) h.pending;
        once = once s.0.commit h.flight.commit (some (pending_name s.0.commit) at) h.once;
        own = own_free s.0.commit h.flight.commit h.own;
      }
  stands_beside (Some (Renamed s)) same some h = record {
    flight = h.flight;
    own = one_synced before after (own_name s.0.commit) s.0.bytes (same (own_name s.0.commit) (among_first (own_name s.0.commit) s.0.commit.files)) h.own;
  }

  -- ---- the book
  pub sound_beside : IsBookSound before old book → IsBookSound after new book
  sound_beside sound = record {
    safe = record {
      last_stays = last_beside book.last (λ q there. held q (in_front (last_names book.last) (flying_names book.stage) q there)) sound.safe.last_stays;
      in_flight = flight_beside book.last book.stage (λ q there. held q (in_rear (last_names book.last) (flying_names book.stage) q there)) sound.safe.in_flight;
      no_other = λ q named above apart o may. elim (crashes q named o may) [ inl was ↦ sound.safe.no_other q named above apart o was | inr none ↦ none ];
    };
    stands = stands_beside book.stage (λ q there. held q (in_rear (last_names book.last) (flying_names book.stage) q there))
        (λ q there. still_held q (in_rear (last_names book.last) (flying_names book.stage) q there)) sound.stands;
    numbered = sound.numbered;
    next = sound.next;
    some = sound.some;
  }

-- where a book is sound, each image shows what it may
pub sound_images : (cells : Cells) (holdings : Holdings) (book : CommitBook) → IsBookSound cells holdings book → ImagesAre cells book.last (shown_by book.stage)
sound_images cells holdings book sound = images_of_safe cells book.last (shown_by book.stage) sound.safe

-- ---- what a step leaves of what the book holds
pub counted_after : (from to : List Name) (old new : Holdings) (before after : Cells) → Shifts from to old new before after → AreCounted from old → AreCounted to new
counted_after from to old new before after shifts counted = record { each = λ q. omega (arith, shifts.balance q, counted.each q) }

pub reads_held : (from to : List Name) (old new : Holdings) (before after : Cells) → Shifts from to old new before after → AreCounted from old
    → (q : Name) → is_among from q ≡ true → is_among to q ≡ true → (after q).now ≡ (before q).now
reads_held from to old new before after shifts counted q had has =
    let some : 0 < times from q = among_times from q had in
    let more : 0 < times to q = among_times to q has in
    shifts.reads q (omega (arith, some, counted.each q)) (omega (arith, more, shifts.balance q, counted.each q))
