-- The numbers of commits among names.
use Rattle.std.proofs.Common.{◌≡◌, ℕ, zero, suc, ◌+◌, ◌^◌, ◌<◌, ◌≤◌, ◌↔◌, ◌⊎◌, Bool, true, false, cond, List, [], ◌∷◌, ◌++◌, Option, Some, None, refl, sym, ap, subst, ◌∙◌, arith, inl, inr}
use Rattle.std.specs.Prelude.{max, unwrap_or, IfSome}
use Rattle.std.specs.List.{All, Contains, filter_map, cons_option, fold, reduce}
use Rattle.std.specs.Option.{option_map}
use Rattle.std.proofs.Math.Nat.{le-max_left, le-max_right}
use Rattle.std.proofs.lemmas.Bool.{cases_lt}
use Rattle.std.proofs.lemmas.List.{append-nil}
use Rattle.std.proofs.lemmas.List.Elements.{All-append, All-cons, Contains-append_left, Contains-append_right}
use Rattle.std.proofs.lemmas.Option.{same_Some}
use Rattle.file_names.proofs.Given.{contains_later, contains_cases}
use Rattle.file_names.specs.Names.{is_commit_name, commit_number, commit_name_of, is_pending_name, pending_number, pending_name_of, number_of_commit, number_of_pending}
use Rattle.file_names.proofs.NameLaws.{commit_name_only, commit_name_is_one, commit_number-commit_name, pending_name_only, pending_name_is_one, pending_number-pending_name}
use Rattle.segment_infos.specs.Commits.{commit_numbers, pending_numbers, IsGreatest, number_after, IsNext}

-- ---- the greatest number

-- the greatest of a and the numbers xs
record IsFold (a : ℕ) (xs : List ℕ) (r : ℕ) : Type 0 where
  one : Contains (a ∷ xs) r
  most : All (λ m. m ≤ r) (a ∷ xs)

is_first : (x y : ℕ) (xs : List ℕ) → x ≡ y → Contains (x ∷ xs) y
is_first x y xs e = (0, omega arith, e)

max_is : (a b : ℕ) → (max a b ≡ a) ⊎ (max a b ≡ b)
max_is a b = elim (cases_lt a b) [ inl lt ↦ inr (omega arith) | inr ge ↦ inl (omega arith) ]

fold_max : (a : ℕ) (xs : List ℕ) → IsFold a xs (fold max a xs)
fold_max a [] = record { one = is_first a a [] refl; most = All-cons (λ m. m ≤ a) a [] (omega arith) (λ k d lt. absurd (omega (arith, lt))) }
fold_max a (x ∷ xs) =
    let f = fold_max (max a x) xs in
    let r : ℕ = fold max (max a x) xs in
    let top : max a x ≤ r = f.most 0 0 (omega arith) in
    let rest : All (λ (m : ℕ). m ≤ r) xs = λ k d lt. f.most (suc k) d (omega (arith, lt)) in
    record {
      one = elim (contains_cases (max a x) r xs f.one) [
        | inl e ↦ elim (max_is a x) [ inl p ↦ is_first a r (x ∷ xs) (sym p ∙ e) | inr p ↦ contains_later a r (x ∷ xs) (is_first x r xs (sym p ∙ e)) ]
        | inr later ↦ contains_later a r (x ∷ xs) (contains_later x r xs later)
      ];
      most = All-cons (λ m. m ≤ r) a (x ∷ xs) (omega (arith, top, le-max_left a x)) (All-cons (λ m. m ≤ r) x xs (omega (arith, top, le-max_right a x)) rest);
    }

greatest_reduced : (numbers : List ℕ) → IsGreatest numbers (reduce max numbers)
greatest_reduced [] = refl
greatest_reduced (a ∷ numbers) = let f = fold_max a numbers in (f.one, f.most)

pub greatest_of : (numbers : List ℕ) (r : Option ℕ) → option_map (λ x. x) r ≡ reduce max numbers → IsGreatest numbers r
greatest_of numbers r e = subst (IsGreatest numbers) (sym (sym (mapped r) ∙ e)) (greatest_reduced numbers)
  where
    mapped : (o : Option ℕ) → option_map (λ x. x) o ≡ o
    mapped None = refl
    mapped (Some x) = refl

-- the greatest of the numbers of two lists
record Joined (xs ys : List ℕ) (a b : Option ℕ) : Type 0 where
  greatest : Option ℕ
  is : IsGreatest (xs ++ ys) greatest
  after : number_after greatest ≡ max (unwrap_or a 0) (unwrap_or b 0) + 1

joined : (xs ys : List ℕ) (a b : Option ℕ) → IsGreatest xs a → IsGreatest ys b → Joined xs ys a b
joined xs ys None None h k = record { greatest = None; is = ap (λ (z : List ℕ). z ++ ys) h ∙ k; after = omega arith }
joined xs ys None (Some n) h k = record {
  greatest = Some n;
  is = subst (λ (z : List ℕ). IsGreatest z (Some n)) (sym (ap (λ (z : List ℕ). z ++ ys) h)) k;
  after = omega arith;
}
joined xs ys (Some m) None h k = record {
  greatest = Some m;
  is = subst (λ (z : List ℕ). IsGreatest z (Some m)) (sym (ap (λ (z : List ℕ). xs ++ z) k ∙ append-nil xs)) h;
  after = omega arith;
}
joined xs ys (Some m) (Some n) h k = elim (cases_lt m n) [
  | inl lt ↦
      record {
        greatest = Some n;
        is = (Contains-append_right xs ys n k.0, All-append (λ i. i ≤ n) xs ys (λ i d l. omega (arith, h.1 i d l, lt)) k.1);
        after = omega (arith, lt);
      }
  | inr ge ↦
      record {
        greatest = Some m;
        is = (Contains-append_left xs ys m h.0, All-append (λ i. i ≤ m) xs ys h.1 (λ i d l. omega (arith, k.1 i d l, ge)));
        after = omega (arith, ge);
      }
]

pub next_is : (xs ys : List ℕ) (a b : Option ℕ) (m n r : ℕ) → IsGreatest xs a → IsGreatest ys b → m ≡ unwrap_or a 0 → n ≡ unwrap_or b 0 → r ≡ max m n + 1 → IsNext (xs ++ ys) r
next_is xs ys a b m n r h k e f g =
    let j = joined xs ys a b h k in
    (j.greatest, j.is, g ∙ ap (λ (i : ℕ). max i n + 1) e ∙ ap (λ (i : ℕ). max (unwrap_or a 0) i + 1) f ∙ sym j.after)

pub or_zero_below : (o : Option ℕ) → IfSome o (λ n. n < 2 ^ 62) → unwrap_or o 0 < 2 ^ 62
or_zero_below None h = omega arith
or_zero_below (Some n) h = h

-- ---- which numbers are there

-- a name among the names whose number is n
record Found (h : List ℕ → Option ℕ) (names : List (List ℕ)) (n : ℕ) : Type 0 where
  name : List ℕ
  there : Contains names name
  number : h name ≡ Some n

found : (h : List ℕ → Option ℕ) (names : List (List ℕ)) (n : ℕ) → Contains (filter_map h names) n → Found h names n
found h [] n (k, lt, e) = absurd (omega (arith, lt))
found h (name ∷ names) n c = by_first (λ rest. found h names n rest) (h name) refl c
  where
    later : Found h names n → Found h (name ∷ names) n
    later f = record { name = f.name; there = contains_later name f.name names f.there; number = f.number }

    by_first : (Contains (filter_map h names) n → Found h names n) → (first : Option ℕ) → h name ≡ first → Contains (cons_option first (filter_map h names)) n → Found h (name ∷ names) n
    by_first behind None e c = later (behind c)
    by_first behind (Some m) e c =
        elim (contains_cases m n (filter_map h names) c) [
          | inl same ↦ record { name = name; there = (0, omega arith, refl); number = e ∙ ap (λ (i : ℕ). Some i) same }
          | inr rest ↦ later (behind rest)
        ]

there_is : (h : List ℕ → Option ℕ) (names : List (List ℕ)) (name : List ℕ) (n : ℕ) → Contains names name → h name ≡ Some n → Contains (filter_map h names) n
there_is h [] name n (k, lt, f) e = absurd (omega (arith, lt))
there_is h (first ∷ names) name n (zero, lt, f) e =
    let s : h first ≡ Some n = ap h f ∙ e in
    subst (λ (o : Option ℕ). Contains (cons_option o (filter_map h names)) n) (sym s) (is_first n n (filter_map h names) refl)
there_is h (first ∷ names) name n (suc k, lt, f) e =
    let rest = there_is h names name n (k, omega (arith, lt), f) e in
    behind (h first) rest
  where
    behind : (o : Option ℕ) → Contains (filter_map h names) n → Contains (cons_option o (filter_map h names)) n
    behind None c = c
    behind (Some m) c = contains_later m n (filter_map h names) c

chosen : (test : Bool) (m n : ℕ) → ◌≡◌ {A = Option ℕ} (cond test (Some m) None) (Some n) → (test ≡ true) × (m ≡ n)
chosen true m n e = (refl, same_Some m n e)
chosen false m n e = absurd cc

pub commits_are : (names : List (List ℕ)) (n : ℕ) → Contains (commit_numbers names) n ↔ ((0 < n) × (n < 2 ^ 62) × Contains names (commit_name_of n))
commits_are names n = (
  λ c.
      let f = found number_of_commit names n c in
      let t = chosen (is_commit_name f.name) (commit_number f.name) n f.number in
      let o = commit_name_only f.name t.0 in
      (omega (arith, o.1, t.1), omega (arith, o.2, t.1), subst (Contains names) (o.0 ∙ ap commit_name_of t.1) f.there),
  λ x.
      let is : is_commit_name (commit_name_of n) ≡ true = commit_name_is_one n x.0 x.1 in
      let number : commit_number (commit_name_of n) ≡ n = commit_number-commit_name n (omega (arith, x.1)) in
      there_is number_of_commit names (commit_name_of n) n x.2 (ap (λ (b : Bool). cond b (Some (commit_number (commit_name_of n))) None) is ∙ ap (λ (i : ℕ). Some i) number),
)

pub pendings_are : (names : List (List ℕ)) (n : ℕ) → Contains (pending_numbers names) n ↔ ((0 < n) × (n < 2 ^ 62) × Contains names (pending_name_of n))
pendings_are names n = (
  λ c.
      let f = found number_of_pending names n c in
      let t = chosen (is_pending_name f.name) (pending_number f.name) n f.number in
      let o = pending_name_only f.name t.0 in
      (omega (arith, o.1, t.1), omega (arith, o.2, t.1), subst (Contains names) (o.0 ∙ ap pending_name_of t.1) f.there),
  λ x.
      let is : is_pending_name (pending_name_of n) ≡ true = pending_name_is_one n x.0 x.1 in
      let number : pending_number (pending_name_of n) ≡ n = pending_number-pending_name n (omega (arith, x.1)) in
      there_is number_of_pending names (pending_name_of n) n x.2 (ap (λ (b : Bool). cond b (Some (pending_number (pending_name_of n))) None) is ∙ ap (λ (i : ℕ). Some i) number),
)
