-- What a crash may leave of commits, over calls of the directory.
use Rattle.std.proofs.Common.{◌≡◌, ◌≢◌, ◌⊎◌, zero, suc, ◌<◌, ◌||◌, Bool, true, false, List, [], ◌∷◌, length, Option, Some, None, refl, sym, ap, subst, ◌∙◌, arith, inl, inr, true≢false, Result, Ok, Err, cond}
use Rattle.std.specs.Prelude.{IfSome, IsSomeAnd, Contains, is_some}
use Rattle.std.proofs.Math.Bool.{or-true}
use Rattle.std.specs.List.{flat_map}
use Rattle.std.proofs.lemmas.List.Elements.{All-contains}
use Rattle.disk_model.specs.Disk.{Name, Content, Cell, Cells, Image, IsImage, IsKept, left_by, same, is_among, flushed, after_sync}
use Rattle.disk_model.specs.declared.dir.DirFault.{DirFault}
use Rattle.disk_model.proofs.CellLemmas.{same_true, same_kept}
use Rattle.file_names.specs.Names.{is_commit_name, is_pending_name, commit_number}
use Rattle.file_names.proofs.NameLaws.{commit_name_is_one, commit_number-commit_name, pending_name_is_one, pending_name_not_commit}
use Rattle.segment_infos.specs.Files.{files_of_segment}
use Rattle.segment_infos.proofs.SetLaws.{files_plain}
use Rattle.file_deleter.proofs.NameLemmas.{same_self}
use Rattle.commit_steps.specs.declared.states.Commit.{Commit}
use Rattle.commit_steps.specs.Found.{ShowsNothing}
use Rattle.commit_steps.specs.Flights.{own_name, pending_name, IsCommit, Spells}
use Rattle.commit_steps.specs.Commits.{HasCommit, ImagesAre, ImagesHave, IsSettled, AreSettled, IsAbove, Stays, MayStay, IsSafe}

-- ---- names
pub contains_of : (names : List Name) (q : Name) → is_among names q ≡ true → Contains names q
contains_of [] q h = absurd (true≢false (sym h))
contains_of (x ∷ xs) q h = by (contains_of xs q) (same x q) refl h
  where
    by : (is_among xs q ≡ true → Contains xs q) → (b : Bool) → same x q ≡ b → (b || is_among xs q) ≡ true → Contains (x ∷ xs) q
    by more true e h = (0, omega arith, same_true x q e)
    by more false e h = let r = more h in (suc r.0, (let lt : r.0 < length xs = r.1 in omega (arith, lt)), r.2)

pub among_of : (names : List Name) (q : Name) → Contains names q → is_among names q ≡ true
among_of [] q (k, lt, e) = absurd (omega (arith, lt))
among_of (x ∷ xs) q (zero, lt, e) = ap (λ b. b || is_among xs q) (ap (λ (n : Name). same n q) e ∙ same_self q)
among_of (x ∷ xs) q (suc k, lt, e) = ap (λ b. same x q || b) (among_of xs q (k, omega (arith, lt), e)) ∙ or-true (same x q)

abbrev IsPlain : Name → Type 0
IsPlain q = (is_commit_name q ≡ false) × (is_pending_name q ≡ false)

pub files_are_plain : (c : Commit) → IsCommit c → (q : Name) → is_among c.files q ≡ true → (is_commit_name q ≡ false) × (is_pending_name q ≡ false)
files_are_plain c is q there = All-contains IsPlain c.files q (files_plain c.infos c.files is.files) (contains_of c.files q there)

pub own_is : (c : Commit) → IsCommit c → is_commit_name (own_name c) ≡ true
own_is c is = commit_name_is_one c.number is.some is.below

pub pending_is : (c : Commit) → IsCommit c → is_pending_name (pending_name c) ≡ true
pending_is c is = pending_name_is_one c.number is.some is.below

pub pending_not_commit : (c : Commit) → is_commit_name (pending_name c) ≡ false
pending_not_commit c = pending_name_not_commit c.number

pub number_of_own : (c : Commit) → IsCommit c → commit_number (own_name c) ≡ c.number
number_of_own c is = commit_number-commit_name c.number (omega (arith, is.below))

pub pending_not_own : (c d : Commit) → IsCommit d → pending_name c ≢ own_name d
pending_not_own c d is e = true≢false (sym (own_is d is) ∙ sym (ap is_commit_name e) ∙ pending_not_commit c)

pub pending_no_file : (c d : Commit) → IsCommit c → IsCommit d → (q : Name) → is_among d.files q ≡ true → pending_name c ≢ q
pending_no_file c d is of q there e = true≢false (sym (pending_is c is) ∙ ap is_pending_name e ∙ (files_are_plain d of q there).1)

pub own_no_file : (c d : Commit) → IsCommit c → IsCommit d → (q : Name) → is_among d.files q ≡ true → own_name c ≢ q
own_no_file c d is of q there e = true≢false (sym (own_is c is) ∙ ap is_commit_name e ∙ (files_are_plain d of q there).0)

pub own_apart : (c d : Commit) → IsCommit c → IsCommit d → c.number < d.number → own_name d ≢ own_name c
own_apart c d is of lt e =
    let n : d.number ≡ c.number = sym (number_of_own d of) ∙ ap commit_number e ∙ number_of_own c is in
    absurd (omega (arith, n, lt))

pub greater_apart : (c : Commit) → IsCommit c → (q : Name) → c.number < commit_number q → own_name c ≢ q
greater_apart c is q lt e =
    let n : commit_number q ≡ c.number = sym (ap commit_number e) ∙ number_of_own c is in
    absurd (omega (arith, n, lt))

-- ---- images
settled_files : (cells : Cells) (c : Commit) (image : Image) → IsCommit c → AreSettled cells c.files → IsImage cells image
    → (q : Name) → Contains (flat_map files_of_segment c.infos.segs) q → (image q ≡ (cells q).now) × (is_some (image q) ≡ true)
settled_files cells c image of settled is q named =
    let h : IsSettled (cells q) × (is_some (cells q).now ≡ true) = settled q (among_of c.files q ((of.files.named q).1 named)) in
    (h.0 (image q) (is q), ap is_some (h.0 (image q) (is q)) ∙ h.1)

shows : (cells : Cells) (c : Commit) (image : Image) → IsCommit c → Spells c (image (own_name c)) → AreSettled cells c.files → IsImage cells image
    → ((q : Name) → is_commit_name q ≡ true → c.number < commit_number q → image q ≡ None) → HasCommit cells image c
shows cells c image of spells settled is greatest = record {
  shown = record { bytes = spells.bytes; newest = record { some = of.some; below = of.below; there = spells.is; greatest = greatest }; spelled = spells.spelled };
  files = settled_files cells c image of settled is;
}

-- a name of a commit has nothing in an image that lacks the commit in flight
lacks : (cells : Cells) (last : Option Commit) (f : Commit) (image : Image) → IsSafe cells last (Some f) → IsImage cells image → image (own_name f) ≡ None
    → (q : Name) → is_commit_name q ≡ true → IsAbove last (commit_number q) → image q ≡ None
lacks cells last f image safe is none q named above = by (same (own_name f) q) refl
  where
    by : (b : Bool) → same (own_name f) q ≡ b → image q ≡ None
    by true e = ap image (sym (same_true (own_name f) q e)) ∙ none
    by false e = safe.no_other q named above (λ i. true≢false (sym (same_self q) ∙ sym (ap (λ (n : Name). same n q) i) ∙ e)) (image q) (is q)

image_of_safe : (cells : Cells) (last flight : Option Commit) → IsSafe cells last flight → (image : Image) → IsImage cells image
    → (ShowsNothing image × (last ≡ None)) ⊎ (IsSomeAnd last (HasCommit cells image) ⊎ IsSomeAnd flight (HasCommit cells image))
image_of_safe cells None None safe image is = inl (λ q named. safe.no_other q named tt tt (image q) (is q), refl)
image_of_safe cells (Some c) None safe image is = inr (inl (shows cells c image safe.last_stays.commit (safe.last_stays.own (image (own_name c)) (is (own_name c))) safe.last_stays.files is
    (λ q named lt. safe.no_other q named lt tt (image q) (is q))))
image_of_safe cells None (Some f) safe image is = elim (safe.in_flight.own (image (own_name f)) (is (own_name f))) [
  | inl none ↦ inl (λ q named. lacks cells None f image safe is none q named tt, refl)
  | inr here ↦ inr (inr (shows cells f image safe.in_flight.commit here safe.in_flight.files is
      (λ q named lt. safe.no_other q named tt (greater_apart f safe.in_flight.commit q lt) (image q) (is q))))
]
image_of_safe cells (Some c) (Some f) safe image is = elim (safe.in_flight.own (image (own_name f)) (is (own_name f))) [
  | inl none ↦ inr (inl (shows cells c image safe.last_stays.commit (safe.last_stays.own (image (own_name c)) (is (own_name c))) safe.last_stays.files is
      (λ q named lt. lacks cells (Some c) f image safe is none q named lt)))
  | inr here ↦ inr (inr (shows cells f image safe.in_flight.commit here safe.in_flight.files is
      (λ q named lt. safe.no_other q named (let a : c.number < f.number = safe.in_flight.above in omega (arith, a, lt)) (greater_apart f safe.in_flight.commit q lt) (image q) (is q))))
]

pub images_of_safe : (cells : Cells) (last flight : Option Commit) → IsSafe cells last flight → ImagesAre cells last flight
images_of_safe cells last flight safe = record { each = image_of_safe cells last flight safe }

pub images_have : (cells : Cells) (c : Commit) → IsSafe cells (Some c) None → ImagesHave cells c
images_have cells c safe = record {
  each = λ image is. shows cells c image safe.last_stays.commit (safe.last_stays.own (image (own_name c)) (is (own_name c))) safe.last_stays.files is
      (λ q named lt. safe.no_other q named lt tt (image q) (is q));
}

-- ---- one cell over a call
pub settled_along : (old new : Cell) → IsKept old new → IsSettled old → IsSettled new
settled_along old new kept h o may = h o (kept.fewer o may) ∙ sym kept.now

-- a file that is there, and that a crash leaves as it reads, stays so
pub file_along : (old new : Cell) → IsKept old new → IsSettled old × (is_some old.now ≡ true) → IsSettled new × (is_some new.now ≡ true)
file_along old new kept h = (settled_along old new kept h.0, ap is_some kept.now ∙ h.1)

-- ---- calls that keep the names of commits and the files of commits
module _ (before after : Cells) (names : (q : Name) → is_commit_name q ≡ true → IsKept (before q) (after q)) where
  stays_along : (c : Commit) → ((q : Name) → is_among c.files q ≡ true → IsKept (before q) (after q)) → Stays before c → Stays after c
  stays_along c files h = record {
    commit = h.commit;
    own = λ o may. h.own o ((names (own_name c) (own_is c h.commit)).fewer o may);
    files = λ q there. file_along (before q) (after q) (files q there) (h.files q there);
  }

  may_stay_along : (last : Option Commit) (c : Commit) → ((q : Name) → is_among c.files q ≡ true → IsKept (before q) (after q)) → MayStay before last c → MayStay after last c
  may_stay_along last c files h = record {
    commit = h.commit;
    above = h.above;
    own = λ o may. h.own o ((names (own_name c) (own_is c h.commit)).fewer o may);
    files = λ q there. file_along (before q) (after q) (files q there) (h.files q there);
  }

  module _ (files : (c : Commit) → IsCommit c → (q : Name) → is_among c.files q ≡ true → IsKept (before q) (after q)) where
    last_along : (last : Option Commit) → IfSome last (Stays before) → IfSome last (Stays after)
    last_along None h = tt
    last_along (Some c) h = stays_along c (files c h.commit) h

    flight_along : (last flight : Option Commit) → IfSome flight (MayStay before last) → IfSome flight (MayStay after last)
    flight_along last None h = tt
    flight_along last (Some c) h = may_stay_along last c (files c h.commit) h

    pub safe_kept : (last flight : Option Commit) → IsSafe before last flight → IsSafe after last flight
    safe_kept last flight safe = record {
      last_stays = last_along last safe.last_stays;
      in_flight = flight_along last flight safe.in_flight;
      no_other = λ q named above apart o may. safe.no_other q named above apart o ((names q named).fewer o may);
    }

-- calls that keep every name
pub safe_all_kept : (before after : Cells) → ((q : Name) → IsKept (before q) (after q)) → (last flight : Option Commit) → IsSafe before last flight → IsSafe after last flight
safe_all_kept before after kept = safe_kept before after (λ q named. kept q) (λ c of q there. kept q)

-- calls that change one name, that of a commit in preparation
pub safe_beside : (before after : Cells) (f : Commit) → IsCommit f → ((q : Name) → pending_name f ≢ q → after q ≡ before q) → (last flight : Option Commit) → IsSafe before last flight → IsSafe after last flight
safe_beside before after f of others = safe_kept before after
    (λ q named. same_kept (before q) (after q) (others q (λ e. true≢false (sym named ∙ sym (ap is_commit_name e) ∙ pending_not_commit f))))
    (λ c is q there. same_kept (before q) (after q) (others q (pending_no_file f c of is q there)))

-- ---- a sync
flushed_leaves : (now : Content) (synced : Bool) (o : Content) → left_by now true o ≡ true → left_by now synced o ≡ true
flushed_leaves None synced o h = h
flushed_leaves (Some bytes) true o h = h
flushed_leaves (Some bytes) false None h = absurd (true≢false (sym h))
flushed_leaves (Some bytes) false (Some other) h = refl

flushed_may : (past now then : Bool) → (now ≡ true → then ≡ true) → (past || now) ≡ true → (past || then) ≡ true
flushed_may true now then more h = refl
flushed_may false now then more h = more h

flushed_kept : (c : Cell) → IsKept c (flushed c)
flushed_kept c = record { now = refl; fewer = λ o h. flushed_may (c.past o) (left_by c.now true o) (left_by c.now c.synced o) (flushed_leaves c.now c.synced o) h }

pub sync_kept : {T : Type 0} (cells : Cells) (names : List Name) (r : Result T DirFault) (q : Name) → IsKept (cells q) (after_sync cells names r q)
sync_kept cells names (Ok x) q = by (is_among names q) refl
  where
    by : (b : Bool) → is_among names q ≡ b → IsKept (cells q) (after_sync cells names (Ok x) q)
    by true e = subst (λ (k : Cell). IsKept (cells q) k) (sym (ap (λ b. cond b (flushed (cells q)) (cells q)) e)) (flushed_kept (cells q))
    by false e = subst (λ (k : Cell). IsKept (cells q) k) (sym (ap (λ b. cond b (flushed (cells q)) (cells q)) e)) (same_kept (cells q) (cells q) refl)
sync_kept cells names (Err e) q = same_kept (cells q) (cells q) refl
