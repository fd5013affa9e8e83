-- What a reader of places has not passed, and what it answers.
use Rattle.std.proofs.Common.{◌≡◌, ℕ, ◌+◌, ◌<◌, ◌≤◌, List, [], ◌∷◌, map, Bool, true, false, Option, Some, None, refl, sym, ap, subst, ◌∙◌, inl, inr, arith}
use Rattle.std.specs.Prelude.{◌&&◌, ◌||◌, nat_eq, slice_get, count_by, if◌then◌else◌, MatchOption}
use Rattle.std.specs.List.{AllByRecursion}
use Rattle.std.specs.List.Sorted.{IsStrictlySortedBy}
use Rattle.std.specs.Ordering.{nat_cmp}
use Rattle.std.specs.declared.cmp.Ordering.TheVariants.{Less}
use Rattle.std.proofs.lemmas.Bool.{cases_lt, lt-ltb, le-ltb, ne_eqb, eq-eqb, or_left, or_right}
use Rattle.std.proofs.lemmas.List.Sums.{sum_by-cons}
use Rattle.std.proofs.lemmas.Bool.Decides.{nat_tests}
use Rattle.std.proofs.lemmas.Option.{same_Some}
use Rattle.postings_plain.specs.Postings.{Hit}
use Rattle.postings_plain.specs.Rows.{first_positions}
use Rattle.query_eval.specs.Places.{has_place, all_left, from_place, AreSameFrom}
use Rattle.query_eval.specs.Phrases.{follow, times_together}

abbrev pub Ascending : List ℕ → Type 0
Ascending places = IsStrictlySortedBy nat_cmp places

-- the next place is taken from those after it
pub next_left : (before after : List ℕ) (next : Option ℕ) → MatchOption next ((before ≡ []) × (after ≡ [])) (λ p. before ≡ p ∷ after) → all_left next after ≡ before
next_left before after None gives = sym gives.0
next_left before after (Some p) gives = sym gives

pub rest_ascends : (p : ℕ) (places : List ℕ) → Ascending (p ∷ places) → Ascending places
unfolding IsStrictlySortedBy
rest_ascends p places ascend = ascend.1

-- a place below all others is none of them
none_of_higher : (p place : ℕ) (places : List ℕ) → place ≤ p → AllByRecursion (λ q. nat_cmp p q ≡ Less) places → has_place places place ≡ false
none_of_higher p place [] low above = refl
none_of_higher p place (q ∷ places) low above = rw (ne_eqb q place (λ e. omega (arith, up, low, e))) (none_of_higher p place places low above.1)
  where
    up : p < q
    up = let less : nat_cmp p q ≡ Less = above.0 in grind (arith, nat_tests)

or_none : (a b : Bool) → b ≡ false → (a || b) ≡ a
or_none true b e = refl
or_none false b e = e

first_or_none : (next place : ℕ) (rest : List ℕ) → Ascending (next ∷ rest) → place ≤ next → has_place (next ∷ rest) place ≡ nat_eq next place
unfolding IsStrictlySortedBy
first_or_none next place rest ascend low = or_none (nat_eq next place) (has_place rest place) (none_of_higher next place rest low ascend.0)

pub from_below : (place p : ℕ) (places : List ℕ) → p < place → from_place place (p ∷ places) ≡ from_place place places
from_below place p places lt = rw (lt-ltb p place lt) refl

from_here : (place p : ℕ) (places : List ℕ) → place ≤ p → from_place place (p ∷ places) ≡ p ∷ places
from_here place p places le = rw (le-ltb p place le) refl

-- no place from this one on is passed
pub same_from : (place x : ℕ) (places : List ℕ) → place ≤ x → has_place (from_place place places) x ≡ has_place places x
same_from place x [] le = refl
same_from place x (p ∷ places) le = elim (cases_lt p place) [
  | inl lt ↦ ap (λ (ps : List ℕ). has_place ps x) (from_below place p places lt) ∙ same_from place x places le ∙ sym (skipped lt)
  | inr ge ↦ ap (λ (ps : List ℕ). has_place ps x) (from_here place p places ge)
] where
  skipped : p < place → has_place (p ∷ places) x ≡ has_place places x
  skipped lt = rw (ne_eqb p x (λ e. omega (arith, lt, le, e))) refl

-- what a reader keeps while it passes places
pub record IsReading (place : ℕ) (left all : List ℕ) : Type 0 where
  pub ascend : Ascending left
  pub same : from_place place left ≡ from_place place all

pub reading_start : (place : ℕ) (left all : List ℕ) → Ascending left → left ≡ all → IsReading place left all
reading_start place left all ascend e = record { ascend = ascend; same = ap (from_place place) e }

pub reading_more : (place next : ℕ) (before after all : List ℕ) (onward : Option ℕ) → IsReading place (next ∷ before) all → next < place
    → MatchOption onward ((before ≡ []) × (after ≡ [])) (λ p. before ≡ p ∷ after) → IsReading place (all_left onward after) all
reading_more place next before after all onward k lt gives =
    subst (λ (ps : List ℕ). IsReading place ps all) (sym (next_left before after onward gives))
    (record { ascend = rest_ascends next before k.ascend; same = sym (from_below place next before lt) ∙ k.same })

-- where the next place is not below
pub record Stops (place : ℕ) (left all : List ℕ) (found : Bool) : Type 0 where
  pub answer : found ≡ has_place all place
  pub left_is : left ≡ from_place place all

pub stops_at : (place next : ℕ) (rest all : List ℕ) (found : Bool) → IsReading place (next ∷ rest) all → place ≤ next → found ≡ nat_eq next place → Stops place (next ∷ rest) all found
stops_at place next rest all found k le e =
    let here : next ∷ rest ≡ from_place place all = sym (from_here place next rest le) ∙ k.same in
    record {
      answer = e ∙ sym (first_or_none next place rest k.ascend le) ∙ ap (λ (ps : List ℕ). has_place ps place) here ∙ same_from place place all (omega arith);
      left_is = here;
    }

stops_empty : (place : ℕ) (all : List ℕ) → IsReading place [] all → Stops place [] all false
stops_empty place all k = record { answer = ap (λ (ps : List ℕ). has_place ps place) k.same ∙ same_from place place all (omega arith); left_is = k.same }

pub stops_next : (place next : ℕ) (now : Option ℕ) (rest all : List ℕ) → IsReading place (all_left now rest) all → now ≡ Some next → place ≤ next → nat_eq next place ≡ has_place all place
stops_next place next now rest all k e le =
    let here = subst (λ (o : Option ℕ). IsReading place (all_left o rest) all) e k in
    (stops_at place next rest all (nat_eq next place) here le refl).answer

pub more_next : (place next : ℕ) (now onward : Option ℕ) (before after all : List ℕ) → IsReading place (all_left now before) all → now ≡ Some next → next < place
    → MatchOption onward ((before ≡ []) × (after ≡ [])) (λ p. before ≡ p ∷ after) → IsReading place (all_left onward after) all
more_next place next now onward before after all k e lt gives =
    reading_more place next before after all onward (subst (λ (o : Option ℕ). IsReading place (all_left o before) all) e k) lt gives

pub stops_none : (place : ℕ) (now : Option ℕ) (rest all : List ℕ) → IsReading place (all_left now rest) all → now ≡ None → false ≡ has_place all place
stops_none place now rest all k e = (stops_empty place all (subst (λ (o : Option ℕ). IsReading place (all_left o rest) all) e k)).answer

-- a reader at its start, and one that passed what is below a place
pub same_start : (least : ℕ) (left all : List ℕ) → left ≡ all → AreSameFrom least left all
same_start least left all e place le = ap (λ (ps : List ℕ). has_place ps place) e

pub same_later : (least place : ℕ) (left all : List ℕ) → AreSameFrom least left all → least ≤ place → AreSameFrom place left all
same_later least place left all same up x le = same x (omega (arith, up, le))

pub same_on : (place : ℕ) (left now all : List ℕ) → AreSameFrom place left all → now ≡ from_place place left → AreSameFrom place now all
same_on place left now all same e x le = ap (λ (ps : List ℕ). has_place ps x) e ∙ same_from place x left le ∙ same x le

-- ---- the places of the first list are gone through

count_there : (f : ℕ → Bool) (all places : List ℕ) → ((p : ℕ) → has_place places p ≡ true → has_place all p ≡ true) → count_by (λ p. has_place all p && f p) places ≡ count_by f places
count_there f all [] there = refl
count_there f all (p ∷ places) there =
    sum_by-cons (λ (q : ℕ). if (has_place all q && f q) then 1 else 0) p places
    ∙ rw (there p (or_left (nat_eq p p) (has_place places p) (eq-eqb p p refl)))
    (ap (λ (n : ℕ). (if f p then 1 else 0) + n) (count_there f all places (λ q e. there q (or_right (nat_eq p q) (has_place places q) e))))
    ∙ sym (sum_by-cons (λ (q : ℕ). if f q then 1 else 0) p places)

pub first_counts : (words : List (List Hit)) (first : List Hit) (places : List ℕ) → ◌≡◌ {A = Option (List Hit)} (Some first) (slice_get words 0) → places ≡ first_positions first
    → count_by (λ p. follow p (map first_positions words)) places ≡ times_together (map first_positions words)
first_counts [] first places is e = absurd cc
first_counts (w ∷ words) first places is e =
    ap (count_by (λ p. follow p (map first_positions (w ∷ words)))) (e ∙ ap first_positions (same_Some first w is))
    ∙ count_there (λ p. follow (p + 1) (map first_positions words)) (first_positions w) (first_positions w) (λ p e. e)
