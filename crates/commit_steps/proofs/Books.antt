-- What a step of the book does.
use Rattle.std.proofs.Common.{◌≡◌, ℕ, ◌+◌, ◌<◌, ◌≤◌, true, false, List, [], ◌∷◌, ◌++◌, Option, Some, None, refl, sym, ap, subst, ◌∙◌, arith, inl, inr, cond}
use Rattle.std.specs.Prelude.{IfSome}
use Rattle.disk_model.specs.Disk.{Name, Cell, Cells, is_among, may_leave}
use Rattle.disk_model.proofs.CellLemmas.{same_kept}
use Rattle.file_deleter.specs.Holdings.{Holdings, count_of, times, IsWhole, AreCounted}
use Rattle.file_deleter.specs.Moves.{Shifts, LetsGo}
use Rattle.file_deleter.proofs.NameLemmas.{times-cons, times-append, times_one, same_self, among_times}
use Rattle.file_deleter.proofs.Keeping.{keeps_refl}
use Rattle.commit_steps.specs.declared.states.Commit.{Commit}
use Rattle.commit_steps.specs.declared.stage.Stage.{Stage}
use Rattle.commit_steps.specs.declared.stage.Stage.TheVariants.{Begun, Synced, Written, Pending, Named, Renamed}
use Rattle.commit_steps.specs.declared.stage.Progress.{Progress}
use Rattle.commit_steps.specs.declared.stage.Progress.TheVariants.{Going, Made}
use Rattle.commit_steps.specs.declared.stage.CommitBook.{CommitBook}
use Rattle.commit_steps.specs.Flights.{own_name}
use Rattle.commit_steps.specs.Commits.{ImagesHave, IsAbove, IsSafe}
use Rattle.commit_steps.specs.Calls.{IsFree}
use Rattle.commit_steps.specs.Book.{commit_of, is_last_call, progress_of, commit_along, shown_in, shown_by, stage_names, flying_names, last_names, book_names, Stands, IsNumbered, IsBookSound, Leads, IsBookStep}
use Rattle.commit_steps.proofs.Beside.{counted_after}
use Rattle.commit_steps.proofs.Safe.{images_of_safe, images_have, file_along}

-- ---- a deleter that counts as before
module _ (cells : Cells) (old : Holdings) (room : ℕ) where
  abbrev roomy : Holdings
  roomy = record { counts = old.counts; due = old.due; room = room }

  free_roomy : (q : Name) → IsFree cells old q → IsFree cells roomy q
  free_roomy q h = record { none = h.none; unheld = h.unheld; clear = h.clear }

  stands_roomy : (s : Stage) → Stands cells old s → Stands cells roomy s
  stands_roomy (Begun s) st = record { flight = st.flight; files = st.files; pending = free_roomy _ st.pending; own = free_roomy _ st.own }
  stands_roomy (Synced s) st = record { flight = st.flight; files = st.files; pending = free_roomy _ st.pending; own = free_roomy _ st.own }
  stands_roomy (Written s) st = record { flight = st.flight; files = st.files; pending = st.pending; once = st.once; own = free_roomy _ st.own }
  stands_roomy (Pending s) st = record { flight = st.flight; files = st.files; pending = st.pending; once = st.once; own = free_roomy _ st.own }
  stands_roomy (Named s) st = record { flight = st.flight; pending = st.pending; once = st.once; own = free_roomy _ st.own }
  stands_roomy (Renamed s) st = record { flight = st.flight; own = st.own }

  whole_roomy : IsWhole cells old → IsWhole cells roomy
  whole_roomy w = record { names = w.names; apart = w.apart }

stands_in : (cells : Cells) (old : Holdings) (book : CommitBook) (s : Stage) → book.stage ≡ Some s → IsBookSound cells old book → Stands cells old s
stands_in cells old book s is sound = subst (λ (o : Option Stage). IfSome o (Stands cells old)) is sound.stands

-- what a call of the directory asks
pub stands_now : (cells : Cells) (old mid : Holdings) (room : ℕ) (book : CommitBook) (s : Stage) → mid ≡ record old { room = room } → book.stage ≡ Some s → IsBookSound cells old book → Stands cells mid s
stands_now cells old mid room book s e is sound = subst (λ (h : Holdings). Stands cells h s) (sym e) (stands_roomy cells old room s (stands_in cells old book s is sound))

numbered_in : (cells : Cells) (old : Holdings) (book : CommitBook) (s : Stage) → book.stage ≡ Some s → IsBookSound cells old book → IsNumbered book.last book.next s
numbered_in cells old book s is sound = subst (λ (o : Option Stage). IfSome o (IsNumbered book.last book.next)) is sound.numbered

safe_in : (cells : Cells) (old : Holdings) (book : CommitBook) (s : Stage) → book.stage ≡ Some s → IsBookSound cells old book → IsSafe cells book.last (shown_in s)
safe_in cells old book s is sound = subst (λ (o : Option Stage). IsSafe cells book.last (shown_by o)) is sound.safe

along_is : (s : Stage) → commit_along (progress_of s) ≡ commit_of s
along_is (Begun s) = refl
along_is (Synced s) = refl
along_is (Written s) = refl
along_is (Pending s) = refl
along_is (Named s) = refl
along_is (Renamed s) = refl

flying_is : (book : CommitBook) (s : Stage) → book.stage ≡ Some s → book_names book ≡ last_names book.last ++ stage_names s
flying_is book s is = ap (λ (o : Option Stage). last_names book.last ++ flying_names o) is

-- the deleter where room was made counts as before
count_roomy : (old mid : Holdings) (room : ℕ) → mid ≡ record old { room = room } → (q : Name) → count_of mid q ≡ count_of old q
count_roomy old mid room e q = ap (λ (h : Holdings). count_of h q) e

whole_mid : (cells : Cells) (old mid : Holdings) (room : ℕ) → mid ≡ record old { room = room } → IsWhole cells old → IsWhole cells mid
whole_mid cells old mid room e w = subst (λ (h : Holdings). IsWhole cells h) (sym e) (whole_roomy cells old room w)

module _ (before after : Cells) (old mid new : Holdings) (room : ℕ) (book : CommitBook) (s : Stage) (e : mid ≡ record old { room = room }) (is : book.stage ≡ Some s) (sound : IsBookSound before old book) where
  -- ---- a call after which the commit is still in flight
  going_shifts : (t : Stage) → Leads before after mid new s (Going t) → Shifts (book_names book) (last_names book.last ++ stage_names t) old new before after
  going_shifts t leads = record {
    balance = λ q.
        let was : times (book_names book) q ≡ times (last_names book.last) q + times (stage_names s) q = ap (λ (ns : List Name). times ns q) (flying_is book s is) ∙ times-append (last_names book.last) (stage_names s) q in
        let now : times (last_names book.last ++ stage_names t) q ≡ times (last_names book.last) q + times (stage_names t) q = times-append (last_names book.last) (stage_names t) q in
        omega (arith, leads.shifts.balance q, count_roomy old mid room e q, was, now);
    whole = λ w. leads.shifts.whole (whole_mid before old mid room e w);
    reads = λ q had has. leads.shifts.reads q (let c : count_of mid q ≡ count_of old q = count_roomy old mid room e q in omega (arith, had, c)) has;
    none = λ q out gone. leads.shifts.none q (omega (arith, out, times-append (last_names book.last) (stage_names t) q)) gone;
  }

  pub going : (t : Stage) → Leads before after mid new s (Going t) → AreCounted (book_names book) old
      → IsBookStep before after old new book (record { last = book.last; stage = Some t; next = book.next })
  going t leads counted =
      let numbered = numbered_in before old book s is sound in
      let shifts = going_shifts t leads in
      let safe : IsSafe after book.last (shown_in t) = leads.safe book.last numbered.above (safe_in before old book s is sound) in
      record {
        sound = record {
          safe = safe;
          stands = leads.stands;
          numbered = record {
            above = subst (λ (c : Commit). IsAbove book.last c.number) (sym leads.same) numbered.above;
            drawn = subst (λ (c : Commit). c.number < book.next) (sym leads.same) numbered.drawn;
          };
          next = sound.next;
          some = sound.some;
        };
        images = images_of_safe after book.last (shown_in t) safe;
        shifts = shifts;
        counted = counted_after (book_names book) (last_names book.last ++ stage_names t) old new before after shifts counted;
      }

  -- ---- a call after which it is made
  -- what the release of the last commit's names asks
  pub last_counted : (c : Commit) → Leads before after mid new s (Made c) → AreCounted (book_names book) old → AreCounted (last_names book.last) new
  last_counted c leads counted = record {
    each = λ q.
        let was : times (book_names book) q ≡ times (last_names book.last) q + times (stage_names s) q = ap (λ (ns : List Name). times ns q) (flying_is book s is) ∙ times-append (last_names book.last) (stage_names s) q in
        omega (arith, leads.shifts.balance q, count_roomy old mid room e q, was, counted.each q);
  }

  module _ (c : Commit) (leads : Leads before after mid new s (Made c)) (counted : AreCounted (book_names book) old) (last : Holdings) (end : Cells) (lets : LetsGo (last_names book.last) new last after end) where
    made_safe : IsSafe after (Some c) None
    made_safe = leads.safe book.last (numbered_in before old book s is sound).above (safe_in before old book s is sound)

    counted_now : (q : Name) → times (own_name c ∷ c.files) q ≤ count_of last q
    counted_now q =
        let was : times (book_names book) q ≡ times (last_names book.last) q + times (stage_names s) q = ap (λ (ns : List Name). times ns q) (flying_is book s is) ∙ times-append (last_names book.last) (stage_names s) q in
        omega (arith, leads.shifts.balance q, count_roomy old mid room e q, was, counted.each q, lets.counts q)

    in_between : (q : Name) → 0 < count_of last q → 0 < count_of new q
    in_between q has = omega (arith, has, lets.counts q)

    same_at : (q : Name) → 0 < times (own_name c ∷ c.files) q → end q ≡ after q
    same_at q some = let has : 0 < count_of last q = omega (arith, some, counted_now q) in lets.keeps.kept q refl (in_between q has) has

    own_some : 0 < times (own_name c ∷ c.files) (own_name c)
    own_some = let h : times (own_name c ∷ c.files) (own_name c) ≡ 1 + times c.files (own_name c) = times-cons (own_name c) c.files (own_name c) ∙ ap (λ b. cond b 1 0 + times c.files (own_name c)) (same_self (own_name c)) in omega (arith, h)

    file_some : (q : Name) → is_among c.files q ≡ true → 0 < times (own_name c ∷ c.files) q
    file_some q there = omega (arith, times-cons (own_name c) c.files q, among_times c.files q there)

    end_safe : IsSafe end (Some c) None
    end_safe = record {
      last_stays = record {
        commit = made_safe.last_stays.commit;
        own = λ o may. made_safe.last_stays.own o (ap (λ (k : Cell). may_leave k o) (sym (same_at (own_name c) own_some)) ∙ may);
        files = λ q there. file_along (after q) (end q) (same_kept (after q) (end q) (same_at q (file_some q there))) (made_safe.last_stays.files q there);
      };
      in_flight = tt;
      no_other = λ q named above apart o may. elim (lets.keeps.crash q o refl may) [ inl was ↦ made_safe.no_other q named above tt o was | inr none ↦ none ];
    }

    made_shifts : Shifts (book_names book) (c.names ++ []) old last before end
    made_shifts = record {
      balance = λ q.
          let was : times (book_names book) q ≡ times (last_names book.last) q + times (stage_names s) q = ap (λ (ns : List Name). times ns q) (flying_is book s is) ∙ times-append (last_names book.last) (stage_names s) q in
          let all : times (c.names ++ []) q ≡ times c.names q + times [] q = times-append c.names [] q in
          let named : times c.names q ≡ times c.files q + times (own_name c ∷ []) q = ap (λ (ns : List Name). times ns q) made_safe.last_stays.commit.names ∙ times-append c.files (own_name c ∷ []) q in
          let none : times [] q ≡ 0 = refl in
          omega (arith, leads.shifts.balance q, count_roomy old mid room e q, was, all, named, none, times-cons (own_name c) c.files q, times_one (own_name c) q, lets.counts q);
      whole = λ w. lets.keeps.whole (leads.shifts.whole (whole_mid before old mid room e w));
      reads = λ q had has.
          let m : 0 < count_of new q = in_between q has in
          lets.keeps.reads q m has ∙ leads.shifts.reads q (let k : count_of mid q ≡ count_of old q = count_roomy old mid room e q in omega (arith, had, k)) m;
      none = λ q out gone.
          let all : times (c.names ++ []) q ≡ times c.names q + times [] q = times-append c.names [] q in
          let named : times c.names q ≡ times c.files q + times (own_name c ∷ []) q = ap (λ (ns : List Name). times ns q) made_safe.last_stays.commit.names ∙ times-append c.files (own_name c ∷ []) q in
          lets.keeps.none q refl (leads.shifts.none q (omega (arith, out, all, named, times-cons (own_name c) c.files q, times_one (own_name c) q)) gone);
    }

    pub made : IsBookStep before end old last book (record { last = Some c; stage = None; next = book.next })
    made = record {
      sound = record {
        safe = end_safe;
        stands = tt;
        numbered = tt;
        next = subst (λ (x : Commit). x.number < book.next) (sym leads.same) (numbered_in before old book s is sound).drawn;
        some = sound.some;
      };
      images = images_of_safe end (Some c) None end_safe;
      shifts = made_shifts;
      counted = counted_after (book_names book) (c.names ++ []) old last before end made_shifts counted;
    }

    pub made_images : ImagesHave end c
    made_images = images_have end c end_safe

-- a release of nothing
pub lets_nothing : (holdings : Holdings) (cells : Cells) → LetsGo [] holdings holdings cells cells
lets_nothing holdings cells = record { counts = λ q. (let none : times [] q ≡ 0 = refl in omega (arith, none)); keeps = keeps_refl [] holdings cells }

-- a step that is refused before it calls the directory
pub step_refused : (cells : Cells) (holdings : Holdings) (book : CommitBook) → IsBookSound cells holdings book → AreCounted (book_names book) holdings
    → IsBookStep cells cells holdings holdings book book
step_refused cells holdings book sound counted = record {
  sound = sound;
  images = images_of_safe cells book.last (shown_by book.stage) sound.safe;
  shifts = record { balance = λ q. refl; whole = λ w. w; reads = λ q had has. refl; none = λ q out gone. gone };
  counted = counted;
}

-- a commit that is still in flight did not make its last call
pub going_not_last : (s t : Stage) → ◌≡◌ {A = Progress} (Going t) (progress_of s) → false ≡ is_last_call s
going_not_last (Begun s) t e = refl
going_not_last (Synced s) t e = refl
going_not_last (Written s) t e = refl
going_not_last (Pending s) t e = refl
going_not_last (Named s) t e = refl
going_not_last (Renamed s) t e = absurd cc
