-- What a release is, in the words of its contract.
use Rattle.std.proofs.Common.{◌≡◌, ◌<◌, ◌≤◌, ◌||◌, ◌&&◌, Bool, true, false, List, [], ◌∷◌, ◌++◌, length, nat_eq, refl, sym, ap, ◌∙◌, arith, true≢false, inl, inr}
use Rattle.std.proofs.Math.Dec.{ltb as nat_lt}
use Rattle.std.proofs.Math.Bool.{and-true}
use Rattle.std.proofs.lemmas.List.Sums.{count_by-le-length}
use Rattle.disk_model.specs.Given.{Rose}
use Rattle.disk_model.specs.Faults.{one_if}
use Rattle.disk_model.specs.Disk.{Name, same, is_among}
use Rattle.file_deleter.specs.Holdings.{Holdings, count_of, is_due, is_known, times}
use Rattle.file_deleter.specs.Removals.{Directory, RemovesInOrder}
use Rattle.file_deleter.specs.Moves.{Retries, Releases, LetsGo}
use Rattle.file_deleter.specs.Tally.{Released}
use Rattle.file_deleter.proofs.NameLemmas.{among_is, among_times, among-append, ascending, same_self}
use Rattle.file_deleter.proofs.Removing.{among_failed, faults_later, faults_rise}
use Rattle.file_deleter.proofs.Keeping.{lets_go}
use Rattle.file_deleter.proofs.Sounding.{at_most, due_zero, apart_new, all_removals, due_failed, due_tries}

above_none : (b : Bool) → nat_lt 0 (one_if b) ≡ b
above_none true = refl
above_none false = refl

module _ (names : List Name) (old new : Holdings) (before after : Directory) (r : Released names old new before after) where
  due : Name → Bool
  due q = is_among (r.fallen ++ old.due) q

  fallen_among : (q : Name) → is_among r.fallen q ≡ (is_among names q && nat_eq (count_of new q) 0)
  fallen_among q = among_is r.fallen q ∙ ap (nat_lt 0) (r.fell q) ∙ above_none (is_among names q && nat_eq (count_of new q) 0)

  due_is : (q : Name) → count_of new q ≡ 0 → is_among (r.fallen ++ old.due) q ≡ (is_among names q || is_due old q)
  due_is q none = among-append r.fallen old.due q ∙ ap (λ b. b || is_due old q) (fallen_among q ∙ ap (λ n. is_among names q && nat_eq n 0) none ∙ and-true (is_among names q))

  known_is : (q : Name) → count_of new q ≡ 0 → is_known old q ≡ is_among (r.fallen ++ old.due) q
  known_is q none =
      let given : count_of old q ≡ times names q = omega (arith, r.counts q, none) in
      ap (λ n. nat_lt 0 n || is_due old q) given ∙ ap (λ b. b || is_due old q) (sym (among_is names q)) ∙ sym (due_is q none)

  tries : (q : Name) → Retries (is_among (r.fallen ++ old.due) q) (is_due new q) (before.cells q) (after.cells q)
  tries = due_tries names old new before after r

  not_due : (q : Name) → 0 < count_of new q → is_among (r.fallen ++ old.due) q ≡ false
  not_due q has = by (is_among (r.fallen ++ old.due) q) refl
    where
      by : (d : Bool) → is_among (r.fallen ++ old.due) q ≡ d → is_among (r.fallen ++ old.due) q ≡ false
      by true e = absurd (omega (arith, has, due_zero names old new before after r q e))
      by false e = e

  given_of_due : (q : Name) → is_among (r.fallen ++ old.due) q ≡ true → (is_among names q || is_due old q) ≡ true
  given_of_due q e = sym (due_is q (due_zero names old new before after r q e)) ∙ e

  not_given : (q : Name) → (is_among names q || is_due old q) ≡ false → is_among (r.fallen ++ old.due) q ≡ false
  not_given q h = by (is_among (r.fallen ++ old.due) q) refl
    where
      by : (d : Bool) → is_among (r.fallen ++ old.due) q ≡ d → is_among (r.fallen ++ old.due) q ≡ false
      by true e = absurd (true≢false (sym (given_of_due q e) ∙ h))
      by false e = e

  due_of_due : (q : Name) → is_due new q ≡ true → is_among (r.fallen ++ old.due) q ≡ true
  due_of_due q h = among_failed (r.fallen ++ old.due) (r.first_failed ++ r.then_failed) before after (all_removals names old new before after r) q (sym (due_failed names old new before after r q) ∙ h)

  pub releases : Releases names old new before.cells after.cells
  releases = record {
    counts = r.counts;
    held = λ q has. ((tries q).kept (not_due q has)).1;
    others = λ q h. ((tries q).kept (not_given q h)).1;
    gone = λ q h none clear. elim ((tries q).tried (due_is q none ∙ h)) [ inl done ↦ done.1 | inr still ↦ absurd (true≢false (sym still.0 ∙ clear)) ];
    due = λ q h. (given_of_due q (due_of_due q h), apart_new names old new before after r q h, elim ((tries q).tried (due_of_due q h)) [ inl done ↦ absurd (true≢false (sym h ∙ done.0)) | inr still ↦ still.1 ]);
    crash = λ q. (tries q).crash;
  }

  pub in_order : RemovesInOrder names old new before after
  in_order = record {
    fallen = r.fallen;
    failed = r.first_failed ++ r.then_failed;
    fell = fallen_among;
    ascending = ascending r.fallen r.sorted (λ q. at_most (is_among names q && nat_eq (count_of new q) 0) (times r.fallen q) (r.fell q));
    removals = all_removals names old new before after r;
    due = due_failed names old new before after r;
  }

  pub lets_go_of : LetsGo names old new before.cells after.cells
  lets_go_of = lets_go names old new before.cells after.cells (λ q. is_among (r.fallen ++ old.due) q) r.counts tries (due_zero names old new before after r) known_is (apart_new names old new before after r)

  pub release_later : before.faults ≤ after.faults
  release_later = faults_later (r.fallen ++ old.due) (r.first_failed ++ r.then_failed) before after (all_removals names old new before after r)

  pub release_cause : 0 < length new.due → Rose before.faults after.faults
  release_cause some = by new.due refl some
    where
      by : (ns : List Name) → new.due ≡ ns → 0 < length ns → Rose before.faults after.faults
      by [] e some = absurd (omega (arith, some))
      by (x ∷ ns) e some =
          let here : is_among (r.first_failed ++ r.then_failed) x ≡ true = sym (due_failed names old new before after r x) ∙ ap (λ (ms : List Name). is_among ms x) e ∙ ap (λ b. b || is_among ns x) (same_self x) in
          let one : 0 < times (r.first_failed ++ r.then_failed) x = among_times (r.first_failed ++ r.then_failed) x here in
          let all : times (r.first_failed ++ r.then_failed) x ≤ length (r.first_failed ++ r.then_failed) = count_by-le-length (λ (y : Name). same y x) (r.first_failed ++ r.then_failed) in
          faults_rise (r.fallen ++ old.due) (r.first_failed ++ r.then_failed) before after (all_removals names old new before after r) (omega (arith, one, all))
