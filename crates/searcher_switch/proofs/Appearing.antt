-- Names that come to stand in a directory, over each kind of call.
use Rattle.std.proofs.Common.{◌≡◌, ◌⊎◌, ◌<◌, ◌+◌, ℕ, zero, suc, Bool, true, false, List, [], ◌∷◌, ◌++◌, Option, Some, None, is_some, refl, sym, ap, ◌∙◌, inl, inr, cond, arith, true≢false}
use Rattle.disk_model.specs.Disk.{Name, Content, Cells, is_among, same}
use Rattle.disk_model.proofs.CellLemmas.{same_true}
use Rattle.file_names.specs.Names.{is_commit_name, is_pending_name, commit_number, pending_number}
use Rattle.file_names.proofs.NameLaws.{pending_number-pending_name}
use Rattle.file_deleter.specs.Holdings.{Holdings, count_of, times, IsThere, IsWhole}
use Rattle.file_deleter.specs.Moves.{KeepsFiles, Shifts}
use Rattle.file_deleter.proofs.NameLemmas.{times-append, times-cons}
use Rattle.file_deleter.proofs.Keeping.{known_counted}
use Rattle.commit_steps.specs.declared.states.Commit.{Commit}
use Rattle.commit_steps.specs.declared.stage.Stage.{Stage}
use Rattle.commit_steps.specs.declared.stage.Stage.TheVariants.{Begun, Synced, Written, Pending, Named, Renamed}
use Rattle.commit_steps.specs.declared.stage.CommitBook.{CommitBook}
use Rattle.commit_steps.specs.Flights.{own_name, pending_name, IsCommit}
use Rattle.commit_steps.specs.Book.{flying_names, last_names, book_names, IsBookSound, book_after}
use Rattle.commit_steps.proofs.Safe.{own_is, pending_is, number_of_own}
use Rattle.searcher_switch.specs.Node.{IsWholeNode}
use Rattle.searcher_switch.specs.Appearing.{NoneAppears, AppearsOnly, IsNameInFlight}

-- ---- what stands stood
pub there_or : (o : Content) → (o ≡ None) ⊎ (is_some o ≡ true)
there_or None = inl refl
there_or (Some bytes) = inr refl

not_there : (o : Content) → o ≡ None → is_some o ≡ true → ⊥
not_there o none there = true≢false (sym there ∙ ap is_some none)

pub stood : (before after : Cells) → NoneAppears before after → (q : Name) → IsThere after q → IsThere before q
stood before after a q there = elim (there_or (before q).now) [ inl none ↦ absurd (not_there (after q).now (a.each q none) there) | inr was ↦ was ]

pub stood_or : (P : Name → Type 0) (before after : Cells) → AppearsOnly P before after → (q : Name) → IsThere after q → IsThere before q ⊎ P q
stood_or P before after a q there = elim (there_or (before q).now) [ inl none ↦ inr (a.each q none there) | inr was ↦ inl was ]

pub only_none : (P : Name → Type 0) (before after : Cells) → NoneAppears before after → AppearsOnly P before after
only_none P before after a = record { each = λ q none there. absurd (not_there (after q).now (a.each q none) there) }

pub only_then_none : (P : Name → Type 0) (before between after : Cells) → AppearsOnly P before between → NoneAppears between after → AppearsOnly P before after
only_then_none P before between after a b = record { each = λ q none there. a.each q none (stood between after b q there) }

-- ---- calls that tell what they wrote
pub keeps_none : (old new : Holdings) (before after : Cells) → KeepsFiles [] old new before after → NoneAppears before after
keeps_none old new before after keeps = record { each = λ q none. keeps.none q refl none }

pub keeps_only : (P : Name → Type 0) (written : List Name) (old new : Holdings) (before after : Cells) → KeepsFiles written old new before after → ((q : Name) → is_among written q ≡ true → (before q).now ≡ None → P q) → AppearsOnly P before after
keeps_only P written old new before after keeps of = record { each = λ q none there. by q none there (is_among written q) refl }
  where
    by : (q : Name) → (before q).now ≡ None → IsThere after q → (b : Bool) → is_among written q ≡ b → P q
    by q none there true e = of q e none
    by q none there false e = absurd (not_there (after q).now (keeps.none q e none) there)

-- ---- a step of the book
-- what does not stand is not counted
pub uncounted : (cells : Cells) (holdings : Holdings) (q : Name) → IsWhole cells holdings → (cells q).now ≡ None → count_of holdings q ≡ 0
uncounted cells holdings q whole none = by (count_of holdings q) refl
  where
    by : (n : ℕ) → count_of holdings q ≡ n → count_of holdings q ≡ 0
    by zero e = e
    by (suc n) e = absurd (not_there (cells q).now none (whole.names q ∙ known_counted holdings q (omega (arith, e))))

module _ (q : Name) where
  in_head : (x : Name) (xs : List Name) → times xs q ≡ 0 → 0 < times (x ∷ xs) q → x ≡ q
  in_head x xs none some = by (same x q) refl
    where
      by : (b : Bool) → same x q ≡ b → x ≡ q
      by true e = same_true x q e
      by false e = let c : times (x ∷ xs) q ≡ 0 + times xs q = times-cons x xs q ∙ ap (λ b. cond b 1 0 + times xs q) e in absurd (omega (arith, none, some, c))

  of_tail : (x : Name) (xs : List Name) → times (x ∷ xs) q ≡ 0 → times xs q ≡ 0
  of_tail x xs none = omega (arith, none, times-cons x xs q)

  own_flies : (c : Commit) → IsCommit c → own_name c ≡ q → (is_commit_name q ≡ true) × (commit_number q ≡ c.number)
  own_flies c is e = (sym (ap is_commit_name e) ∙ own_is c is, sym (ap commit_number e) ∙ number_of_own c is)

  pending_flies : (c : Commit) → IsCommit c → pending_name c ≡ q → (is_pending_name q ≡ true) × (pending_number q ≡ c.number)
  pending_flies c is e = (sym (ap is_pending_name e) ∙ pending_is c is, sym (ap pending_number e) ∙ pending_number-pending_name c.number (omega (arith, is.below)))

  module _ (cells : Cells) (holdings : Holdings) (last : Option Commit) (next : ℕ) where
    abbrev book_at : Option Stage → CommitBook
    book_at stage = record { last = last; stage = stage; next = next }

    flying_none : (stage : Option Stage) → times (book_names (book_at stage)) q ≡ 0 → times (flying_names stage) q ≡ 0
    flying_none stage none = omega (arith, none, times-append (last_names last) (flying_names stage) q)

    flying_some : (s t : Stage) → times (book_names (book_at (Some s))) q ≡ 0 → 0 < times (book_names (book_at (Some t))) q → 0 < times (flying_names (Some t)) q
    flying_some s t none some = omega (arith, none, some, times-append (last_names last) (flying_names (Some s)) q, times-append (last_names last) (flying_names (Some t)) q)

    step_name : (stage : Option Stage) → IsBookSound cells holdings (book_at stage) → times (book_names (book_at stage)) q ≡ 0 → 0 < times (book_names (book_after (book_at stage))) q → IsNameInFlight stage q
    step_name None sound none some = absurd (omega (arith, none, some))
    step_name (Some (Begun s)) sound none some = absurd (omega (arith, flying_none (Some (Begun s)) none, flying_some (Begun s) (Synced (record { 0 = s.0 })) none some))
    step_name (Some (Synced s)) sound none some =
        inr (pending_flies s.0.commit sound.stands.flight.commit (in_head (pending_name s.0.commit) s.0.commit.files (flying_none (Some (Synced s)) none) (flying_some (Synced s) (Written (record { 0 = s.0 })) none some)))
    step_name (Some (Written s)) sound none some = absurd (omega (arith, flying_none (Some (Written s)) none, flying_some (Written s) (Pending (record { 0 = s.0 })) none some))
    step_name (Some (Pending s)) sound none some = absurd (omega (arith, flying_none (Some (Pending s)) none, flying_some (Pending s) (Named (record { 0 = s.0 })) none some))
    step_name (Some (Named s)) sound none some =
        let files : times s.0.commit.files q ≡ 0 = of_tail (pending_name s.0.commit) s.0.commit.files (flying_none (Some (Named s)) none) in
        inl (own_flies s.0.commit sound.stands.flight.commit (in_head (own_name s.0.commit) s.0.commit.files files (flying_some (Named s) (Renamed (record { 0 = s.0 })) none some)))
    step_name (Some (Renamed s)) sound none some =
        let c : Commit = s.0.commit in
        let is : IsCommit c = sound.stands.flight.commit in
        let all : times (c.names ++ []) q ≡ times c.names q + times [] q = times-append c.names [] q in
        let nil : times [] q ≡ 0 = refl in
        let named : times c.names q ≡ times c.files q + times (own_name c ∷ []) q = ap (λ (ns : List Name). times ns q) is.names ∙ times-append c.files (own_name c ∷ []) q in
        absurd (omega (arith, flying_none (Some (Renamed s)) none, some, all, nil, named, times-cons (own_name c) c.files q, times-cons (own_name c) [] q))

module _ (before after : Cells) (old new : Holdings) (hs : List Name) (was now : CommitBook) (node : IsWholeNode before old hs was) (shifts : Shifts (book_names was) (book_names now) old new before after) where
  unnamed : (q : Name) → (before q).now ≡ None → times (book_names was) q ≡ 0
  unnamed q none = omega (arith, node.counts q, uncounted before old q node.whole none)

  pub step_appears : now ≡ book_after was → AppearsOnly (IsNameInFlight was.stage) before after
  step_appears e = record { each = λ q none there. by q none there (times (book_names now) q) refl }
    where
      by : (q : Name) → (before q).now ≡ None → IsThere after q → (n : ℕ) → times (book_names now) q ≡ n → IsNameInFlight was.stage q
      by q none there zero z = absurd (not_there (after q).now (shifts.none q z none) there)
      by q none there (suc n) z =
          let same_names : times (book_names now) q ≡ times (book_names (book_after was)) q = ap (λ (b : CommitBook). times (book_names b) q) e in
          step_name q before old was.last was.next was.stage node.sound (unnamed q none) (omega (arith, z, same_names))

  pub stop_appears : now ≡ was → AppearsOnly (IsNameInFlight was.stage) before after
  stop_appears e = only_none (IsNameInFlight was.stage) before after
      (record { each = λ q none. shifts.none q (ap (λ (b : CommitBook). times (book_names b) q) e ∙ unnamed q none) none })
