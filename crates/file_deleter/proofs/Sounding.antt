-- What the tables keep.
use Rattle.std.proofs.Common.{◌≡◌, ℕ, ◌+◌, ◌<◌, ◌≤◌, ◌||◌, ◌&&◌, not, Bool, true, false, Option, Some, None, List, [], ◌++◌, nat_eq, unwrap_or, length, get_or, ◌≢◌, zero-add, add-zero, add_comm, refl, sym, ap, subst, ◌∙◌, arith, true≢false, is_some, filter, cond}
use Rattle.std.specs.Map.{lookup}
use Rattle.std.specs.List.{remove}
use Rattle.std.specs.Cmp.Lexicographic.{slice_cmp}
use Rattle.std.specs.Ordering.{nat_cmp}
use Rattle.std.specs.List.Sorted.{IsStrictlySortedBy}
use Rattle.std.proofs.Math.Dec.{ltb as nat_lt}
use Rattle.std.proofs.lemmas.List.Kept.{IsStrictlySortedBy-filter}
use Rattle.disk_model.specs.Faults.{one_if}
use Rattle.disk_model.specs.Disk.{Name, same, is_among}
use Rattle.disk_model.proofs.CellLemmas.{same_true, same_apart}
use Rattle.file_deleter.specs.Holdings.{Holdings, count_in, count_of, is_due, times}
use Rattle.file_deleter.specs.Removals.{Directory, Removals}
use Rattle.file_deleter.specs.Moves.{Retries, LetsGo}
use Rattle.file_deleter.specs.Tally.{IsPositive, IsInOrder, Released}
use Rattle.file_deleter.proofs.NameLemmas.{among-filter, among-append, among_times, not_among_times, not_among_of_times, among_of_times, times-append, once, ascending, times-remove, ascend_remove, same_self}
use Rattle.file_deleter.proofs.Keeping.{lets_go, known_uncounted}
use Rattle.file_deleter.proofs.Removing.{removals_then, retries, times_failed, among_failed, ascend_failed}
use Rattle.std.proofs.lemmas.Bool.{and_parts}
use Rattle.std.proofs.lemmas.Bool.Decides.{Decides-eqb}

pub at_most : (b : Bool) (n : ℕ) → n ≡ one_if b → n ≤ 1
at_most true n e = omega (arith, e)
at_most false n e = omega (arith, e)

zero_of : (n : ℕ) → nat_eq n 0 ≡ true → n ≡ 0
zero_of n e = (Decides-eqb n 0).0 e

fell_zero : (among : Bool) (n t : ℕ) → 0 < t → t ≡ one_if (among && nat_eq n 0) → n ≡ 0
fell_zero among n t some e = by among (nat_eq n 0) refl e
  where
    by : (a z : Bool) → nat_eq n 0 ≡ z → t ≡ one_if (a && z) → n ≡ 0
    by true true f e = zero_of n f
    by true false f e = absurd (omega (arith, some, e))
    by false z f e = absurd (omega (arith, some, e))

-- the test that keeps what is not counted
abbrev pub is_left : List (Name × ℕ) → Name → Bool
is_left counts q = not (is_some (lookup (same q) counts))

none_if : {X : Type 0} (o : Option X) → not (is_some o) ≡ true → o ≡ None
none_if None e = refl
none_if (Some x) e = absurd (true≢false (sym e))

swapped : (a b : Bool) → (a && b) ≡ (b && a)
swapped true true = refl
swapped true false = refl
swapped false true = refl
swapped false false = refl

pub order_added : (before after : List (Name × ℕ)) (due : List Name) → IsInOrder before due → IsPositive after → IsInOrder after (filter (is_left after) due)
order_added before after due order positive = record {
  positive = positive;
  apart = λ q h. none_if (lookup (same q) after) (and_parts (is_left after q) (is_among due q) (sym (among-filter (is_left after) due q) ∙ h)).0;
  ascending = IsStrictlySortedBy-filter (slice_cmp nat_cmp) (is_left after) due order.ascending;
}

pub due_added : (after : List (Name × ℕ)) (due : List Name) → IsPositive after → (q : Name) → is_among (filter (is_left after) due) q ≡ (is_among due q && not (nat_lt 0 (count_in after q)))
due_added after due positive q =
    among-filter (is_left after) due q ∙ swapped (is_left after q) (is_among due q) ∙ ap (λ t. is_among due q && not t) (positive.each q)

-- nothing at all is in order
start : IsInOrder [] []
unfolding IsStrictlySortedBy
start = record { positive = record { each = λ q. refl }; apart = λ q h. absurd (true≢false (sym h)); ascending = tt }

pub order_empty : (counts : List (Name × ℕ)) (due : List Name) → counts ≡ [] → due ≡ [] → IsInOrder counts due
order_empty counts due none clear = subst (λ (es : List (Name × ℕ)). IsInOrder es due) (sym none) (subst (λ (ns : List Name). IsInOrder [] ns) (sym clear) start)

-- what is due is not counted
pub apart_counts : (counts : List (Name × ℕ)) (due : List Name) → IsInOrder counts due → (q : Name) → is_among due q ≡ true → count_in counts q ≡ 0
apart_counts counts due order q h = ap (λ (o : Option ℕ). unwrap_or o 0) (order.apart q h)

-- what is not counted is not in the table
pub not_there : (counts : List (Name × ℕ)) → IsPositive counts → (q : Name) → count_in counts q ≡ 0 → lookup (same q) counts ≡ None
not_there counts positive q none = is_none_of (lookup (same q) counts) (positive.each q ∙ ap (nat_lt 0) none)
  where
    is_none_of : (o : Option ℕ) → is_some o ≡ false → o ≡ None
    is_none_of None e = refl
    is_none_of (Some n) e = absurd (true≢false e)

-- of due names those that failed again
pub order_tried : (counts : List (Name × ℕ)) (due failed : List Name) (a b : Directory) → IsInOrder counts due → Removals due failed a b → IsInOrder counts failed
order_tried counts due failed a b order r = record {
  positive = order.positive;
  apart = λ q h. order.apart q (among_failed due failed a b r q h);
  ascending = ascend_failed due failed a b r order.ascending;
}

-- ---- a try of one due name, which stands at a place of the list
module _ (counts : List (Name × ℕ)) (due : List Name) (i : ℕ) (name : Name) (order : IsInOrder counts due) (lt : i < length due) (is : name ≡ get_or due i name) where
  without : (q : Name) → times due q ≡ cond (same name q) 1 0 + times (remove due i) q
  without q = times-remove due i name q lt is

  pub was_among : is_among due name ≡ true
  was_among = by (is_among due name) refl
    where
      by : (b : Bool) → is_among due name ≡ b → is_among due name ≡ true
      by true e = e
      by false e = let one : times due name ≡ 1 + times (remove due i) name = without name ∙ ap (λ b. cond b 1 0 + times (remove due i) name) (same_self name) in absurd (omega (arith, one, not_among_times due name e))

  pub among_no_more : is_among (remove due i) name ≡ false
  among_no_more =
      let one : times due name ≡ 1 + times (remove due i) name = without name ∙ ap (λ b. cond b 1 0 + times (remove due i) name) (same_self name) in
      not_among_of_times (remove due i) name (omega (arith, one, once due name order.ascending))

  pub among_others : (q : Name) → name ≢ q → is_among (remove due i) q ≡ is_among due q
  among_others q a = among_of_times (remove due i) due q (sym (without q ∙ ap (λ b. cond b 1 0 + times (remove due i) q) (same_apart name q a) ∙ zero-add (times (remove due i) q)))

  pub order_removed : IsInOrder counts (remove due i)
  order_removed = record {
    positive = order.positive;
    apart = λ q h. order.apart q (by_name q h (same name q) refl);
    ascending = ascend_remove due i order.ascending;
  }
    where
      by_name : (q : Name) → is_among (remove due i) q ≡ true → (b : Bool) → same name q ≡ b → is_among due q ≡ true
      by_name q h true e = subst (λ (n : Name). is_among due n ≡ true) (same_true name q e) was_among
      by_name q h false e = sym (among_others q (λ j. true≢false (sym (same_self q) ∙ ap (λ (n : Name). same n q) (sym j) ∙ e))) ∙ h

-- ---- after a release
module _ (names : List Name) (old new : Holdings) (before after : Directory) (r : Released names old new before after) where
  pub due_once : (q : Name) → times (r.fallen ++ old.due) q ≤ 1
  due_once q = by (is_among old.due q) refl
    where
      both_parts : times (r.fallen ++ old.due) q ≡ times r.fallen q + times old.due q
      both_parts = times-append r.fallen old.due q

      one_due : times old.due q ≤ 1
      one_due = once old.due q r.order.ascending

      one_fallen : times r.fallen q ≤ 1
      one_fallen = at_most (is_among names q && nat_eq (count_of new q) 0) (times r.fallen q) (r.fell q)

      by : (b : Bool) → is_among old.due q ≡ b → times (r.fallen ++ old.due) q ≤ 1
      by true e =
          let none : count_of old q ≡ 0 = apart_counts old.counts old.due r.order q e in
          let out : times names q ≡ 0 = omega (arith, r.counts q, none) in
          let fell : times r.fallen q ≡ 0 = r.fell q ∙ ap (λ b. one_if (b && nat_eq (count_of new q) 0)) (not_among_of_times names q out) in
          omega (arith, both_parts, one_due, fell)
      by false e = omega (arith, both_parts, not_among_times old.due q e, one_fallen)

  pub all_removals : Removals (r.fallen ++ old.due) (r.first_failed ++ r.then_failed) before after
  all_removals = removals_then r.fallen old.due r.first_failed r.then_failed before r.between after r.first r.second

  -- what is due is counted no more
  pub due_zero : (q : Name) → is_among (r.fallen ++ old.due) q ≡ true → count_of new q ≡ 0
  due_zero q h = by (is_among r.fallen q) (is_among old.due q) refl refl (sym (among-append r.fallen old.due q) ∙ h)
    where
      by : (f p : Bool) → is_among r.fallen q ≡ f → is_among old.due q ≡ p → (f || p) ≡ true → count_of new q ≡ 0
      by true p e g h = fell_zero (is_among names q) (count_of new q) (times r.fallen q) (among_times r.fallen q e) (r.fell q)
      by false true e g h = omega (arith, r.counts q, apart_counts old.counts old.due r.order q g)
      by false false e g h = absurd (true≢false (sym h))

  pub due_failed : (q : Name) → is_among new.due q ≡ is_among (r.first_failed ++ r.then_failed) q
  due_failed q = among_of_times new.due (r.first_failed ++ r.then_failed) q (r.merged q ∙ add_comm (times r.then_failed q) (times r.first_failed q) ∙ sym (times-append r.first_failed r.then_failed q))

  pub apart_new : (q : Name) → is_due new q ≡ true → count_of new q ≡ 0
  apart_new q h = due_zero q (among_failed (r.fallen ++ old.due) (r.first_failed ++ r.then_failed) before after all_removals q (sym (due_failed q) ∙ h))

  pub order_released : IsInOrder new.counts new.due
  order_released = record {
    positive = r.positive;
    apart = λ q h. not_there new.counts r.positive q (apart_new q h);
    ascending = ascending new.due r.now_sorted (λ q. omega (arith, r.merged q, times-append r.first_failed r.then_failed q, times_failed (r.fallen ++ old.due) (r.first_failed ++ r.then_failed) before after all_removals q, due_once q));
  }

  pub due_tries : (q : Name) → Retries (is_among (r.fallen ++ old.due) q) (is_due new q) (before.cells q) (after.cells q)
  due_tries q = subst (λ (b : Bool). Retries (is_among (r.fallen ++ old.due) q) b (before.cells q) (after.cells q)) (sym (due_failed q)) (retries (r.fallen ++ old.due) (r.first_failed ++ r.then_failed) before after all_removals due_once q)

-- ---- after a sweep
pub swept : (old new : Holdings) (before after : Directory) → IsInOrder old.counts old.due → Removals old.due new.due before after → new.counts ≡ old.counts → LetsGo [] old new before.cells after.cells
swept old new before after order r same_counts =
    let as_often : (q : Name) → count_of new q ≡ count_of old q = λ q. ap (λ (es : List (Name × ℕ)). count_in es q) same_counts in
    lets_go [] old new before.cells after.cells (is_due old) (λ q. add-zero (count_of new q) ∙ as_often q)
    (retries old.due new.due before after r (λ q. once old.due q order.ascending))
    (λ q h. as_often q ∙ apart_counts old.counts old.due order q h)
    (λ q none. known_uncounted old q (sym (as_often q) ∙ none))
    (λ q h. as_often q ∙ apart_counts old.counts old.due order q (among_failed old.due new.due before after r q h))
