-- A book that is opened, and a commit that begins.
use Rattle.std.proofs.Common.{◌≡◌, ◌≢◌, ℕ, ◌+◌, ◌<◌, ◌&&◌, not, Bool, true, false, List, [], ◌∷◌, ◌++◌, get_or, Option, Some, None, refl, sym, ap, subst, ◌∙◌, arith, All, cond}
use Rattle.std.specs.Prelude.{Contains, is_some}
use Rattle.std.specs.List.{flat_map}
use Rattle.std.proofs.lemmas.List.Elements.{All-append, All-cons, All-nil, Contains-get_or}
use Rattle.disk_model.specs.Disk.{Name, Content, Cells, Image, IsImage, may_leave, same, is_among, put, reads_of}
use Rattle.disk_model.proofs.CellLemmas.{same_true, put_here, leaves_now}
use Rattle.file_names.specs.Names.{commit_name_of, pending_name_of}
use Rattle.segment_infos.specs.Files.{files_of_segment}
use Rattle.segment_infos.specs.declared.infos.Infos.{Infos}
use Rattle.file_deleter.specs.Holdings.{Holdings, is_due, times, AreThere, IsThere}
use Rattle.file_deleter.specs.Moves.{HoldsFiles, MovesCounts}
use Rattle.file_deleter.proofs.NameLemmas.{times-append, not_among_times}
use Rattle.file_deleter.proofs.Keeping.{moves_held}
use Rattle.commit_steps.specs.declared.states.Commit.{Commit}
use Rattle.commit_steps.specs.declared.states.Flight.{Flight}
use Rattle.commit_steps.specs.declared.stage.Stage.{Stage}
use Rattle.commit_steps.specs.declared.stage.Stage.TheVariants.{Begun}
use Rattle.commit_steps.specs.declared.stage.CommitBook.{CommitBook}
use Rattle.commit_steps.specs.Flights.{own_name, pending_name, IsCommit, Spells, IsFlight}
use Rattle.commit_steps.specs.Commits.{ImagesShowNothing, ImagesShow, IsAbove, IsSafe}
use Rattle.commit_steps.specs.Calls.{IsFree}
use Rattle.commit_steps.specs.Book.{shown_by, flying_names, last_names, book_names, IsBookSound}
use Rattle.commit_steps.proofs.Safe.{contains_of, pending_no_file, own_no_file}

-- ---- files
pub files_there : (cells : Cells) (c : Commit) → IsCommit c → ((q : Name) → Contains (flat_map files_of_segment c.infos.segs) q → IsThere cells q) → AreThere cells c.files
files_there cells c is there = record { each = λ k d lt. there (get_or c.files k d) ((is.files.named (get_or c.files k d)).0 (Contains-get_or c.files k d lt)) }

pub names_there : (cells : Cells) (c : Commit) → IsCommit c → ((q : Name) → Contains (flat_map files_of_segment c.infos.segs) q → IsThere cells q) → IsThere cells (own_name c) → AreThere cells c.names
names_there cells c is there own = record {
  each = subst (λ (ns : List Name). All (IsThere cells) ns) (sym is.names)
      (All-append (IsThere cells) c.files (own_name c ∷ []) (files_there cells c is there).each (All-cons (IsThere cells) (own_name c) [] own (All-nil (IsThere cells))));
}

not_among : (names : List Name) (p : Name) → ((q : Name) → is_among names q ≡ true → p ≢ q) → is_among names p ≡ false
not_among names p apart = by (is_among names p) refl
  where
    by : (b : Bool) → is_among names p ≡ b → is_among names p ≡ false
    by true e = absurd (apart p e refl)
    by false e = e

-- ---- what each image has under a name, each outcome there is
-- this outcome under one name, and what reads now under the others
abbrev but_for : Cells → Name → Content → Image
but_for cells name o = put (reads_of cells) name o

image_but : (cells : Cells) (name : Name) (o : Content) → may_leave (cells name) o ≡ true → IsImage cells (but_for cells name o)
image_but cells name o may q = by (same name q) refl
  where
    by : (b : Bool) → same name q ≡ b → may_leave (cells q) (but_for cells name o q) ≡ true
    by true e = ap (λ b. may_leave (cells q) (cond b o (cells q).now)) e ∙ subst (λ (n : Name). may_leave (cells n) o ≡ true) (same_true name q e) may
    by false e = ap (λ b. may_leave (cells q) (cond b o (cells q).now)) e ∙ leaves_now (cells q)

each_outcome : (cells : Cells) (P : Content → Type 0) (name : Name) → ((image : Image) → IsImage cells image → P (image name)) → (o : Content) → may_leave (cells name) o ≡ true → P o
each_outcome cells P name each o may = subst P (put_here (reads_of cells) name o) (each (but_for cells name o) (image_but cells name o may))

-- ---- an opening
pub new_sound : (cells : Cells) (holdings : Holdings) (next : ℕ) → 0 < next → ImagesShowNothing cells → IsBookSound cells holdings (record { last = None; stage = None; next = next })
new_sound cells holdings next some images = record {
  safe = record {
    last_stays = tt;
    in_flight = tt;
    no_other = λ q named above apart. each_outcome cells (λ o. o ≡ None) q (λ image is. images.each image is q named);
  };
  stands = tt;
  numbered = tt;
  next = tt;
  some = some;
}

sound_at : (cells : Cells) (holdings : Holdings) (c : Commit) (next : ℕ) → IsCommit c → ImagesShow cells c.number c.infos → c.number < next
    → IsBookSound cells holdings (record { last = Some c; stage = None; next = next })
sound_at cells holdings c next is images lt = record {
  safe = record {
    last_stays = record {
      commit = is;
      own = each_outcome cells (Spells c) (own_name c) (λ image of. let has = images.each image of in record { bytes = has.shown.bytes; is = has.shown.newest.there; spelled = has.shown.spelled });
      files = λ q there.
          let named : Contains (flat_map files_of_segment c.infos.segs) q = (is.files.named q).0 (contains_of c.files q there) in (
            each_outcome cells (λ o. o ≡ (cells q).now) q (λ image of. ((images.each image of).files q named).0),
            each_outcome cells (λ o. is_some o ≡ true) q (λ image of. ((images.each image of).files q named).1) (cells q).now (leaves_now (cells q)),
          );
    };
    in_flight = tt;
    no_other = λ q named above apart. each_outcome cells (λ o. o ≡ None) q (λ image of. (images.each image of).shown.newest.greatest q named above);
  };
  stands = tt;
  numbered = tt;
  next = lt;
  some = omega (arith, lt);
}

pub opened_sound : (cells : Cells) (holdings : Holdings) (c : Commit) (number : ℕ) (infos : Infos) (next : ℕ) → IsCommit c → c.number ≡ number → c.infos ≡ infos → ImagesShow cells number infos → number < next
    → IsBookSound cells holdings (record { last = Some c; stage = None; next = next })
opened_sound cells holdings c number infos next is number_is infos_is images lt =
    sound_at cells holdings c next is (subst (ImagesShow cells c.number) (sym infos_is) (subst (λ n. ImagesShow cells n infos) (sym number_is) images)) (omega (arith, number_is, lt))

-- ---- a beginning
above_next : (last : Option Commit) (n : ℕ) → IsAbove last n → IsAbove last (n + 1)
above_next None n h = tt
above_next (Some c) n h = let a : c.number < n = h in omega (arith, a)

module _ (cells : Cells) (old new : Holdings) (book : CommitBook) (f : Flight) (none : book.stage ≡ None) (is : IsFlight f) (number : f.commit.number ≡ book.next) (holds : HoldsFiles f.commit.files old new cells) where
  free_yet : ((q : Name) → is_due new q ≡ (is_due old q && not (is_among f.commit.files q))) → (p : Name) → is_among f.commit.files p ≡ false → IsFree cells old p → IsFree cells new p
  free_yet due p out free = record {
    none = free.none;
    unheld = (let t : times f.commit.files p ≡ 0 = not_among_times f.commit.files p out in omega (arith, holds.counts p, t, free.unheld));
    clear = due p ∙ ap (λ b. b && not (is_among f.commit.files p)) free.clear;
  }

  pub begun_sound : ((q : Name) → is_due new q ≡ (is_due old q && not (is_among f.commit.files q))) → AreThere cells f.commit.files
      → IsFree cells old (pending_name_of book.next) → IsFree cells old (commit_name_of book.next) → IsBookSound cells old book
      → IsBookSound cells new (record { last = book.last; stage = Some (Begun (record { 0 = f })); next = book.next + 1 })
  begun_sound due there pending own sound = record {
    safe = subst (λ (o : Option Stage). IsSafe cells book.last (shown_by o)) none sound.safe;
    stands = record {
      flight = is;
      files = there;
      pending = free_yet due (pending_name f.commit) (not_among f.commit.files (pending_name f.commit) (pending_no_file f.commit f.commit is.commit is.commit)) (subst (λ n. IsFree cells old (pending_name_of n)) (sym number) pending);
      own = free_yet due (own_name f.commit) (not_among f.commit.files (own_name f.commit) (own_no_file f.commit f.commit is.commit is.commit)) (subst (λ n. IsFree cells old (commit_name_of n)) (sym number) own);
    };
    numbered = record {
      above = subst (λ n. IsAbove book.last n) (sym number) sound.next;
      drawn = omega (arith, number);
    };
    next = above_next book.last book.next sound.next;
    some = omega (arith, sound.some);
  }

  pub begun_moves : MovesCounts [] (book_names book) (book_names (record { last = book.last; stage = Some (Begun (record { 0 = f })); next = book.next + 1 })) old new cells cells
  begun_moves = moves_held f.commit.files (book_names book) (last_names book.last ++ f.commit.files) old new cells holds (λ q.
      let was : times (book_names book) q ≡ times (last_names book.last) q + times [] q = ap (λ (o : Option Stage). times (last_names book.last ++ flying_names o) q) none ∙ times-append (last_names book.last) [] q in
      let zero : times [] q ≡ 0 = refl in
      omega (arith, was, zero, times-append (last_names book.last) f.commit.files q))
