-- Rows of nodes, one after the other.
use Rattle.std.proofs.Common.{◌≡◌, ◌≢◌, ◌≤◌, ◌<◌, ◌+◌, ◌++◌, ◌⊎◌, ⊎_elim, inl, inr, ℕ, suc, zero, Bool, true, false, List, [], ◌∷◌, Some, length, nat_lt, refl, ap, ◌∙◌, sym, subst, arith}
use Rattle.std.proofs.Math.ListN.{set}
use Rattle.std.proofs.lemmas.Bool.Decides.{nat_tests}
use Rattle.std.proofs.lemmas.Option.{slice_get_within}
use Rattle.std.specs.List.{slice_get}
use Rattle.history_rules.specs.Nodes.{Past}
use Rattle.history_tables.specs.declared.rows.NodeRow.{NodeRow}
use Rattle.history_tables.specs.NodeRows.{NodeTells, RowsTell, told_by}

pub slice_get-set : (xs : List NodeRow) (i k : ℕ) (x r : NodeRow) → slice_get (set xs i x) k ≡ Some r → ((k ≡ i) × (r ≡ x)) ⊎ ((k ≢ i) × (slice_get xs k ≡ Some r))
slice_get-set [] i k x r got = absurd (cc)
slice_get-set (y ∷ xs) zero zero x r got = inl (refl, cc)
slice_get-set (y ∷ xs) zero (suc k) x r got = inr ((λ e. absurd (omega arith)), got)
slice_get-set (y ∷ xs) (suc i) zero x r got = inr ((λ e. absurd (omega arith)), got)
slice_get-set (y ∷ xs) (suc i) (suc k) x r got =
    ⊎_elim (λ same. inl (omega (arith, same.0), same.1)) (λ other. inr ((λ e. other.0 (omega arith)), other.1)) (slice_get-set xs i k x r got)

pub low_next : (size i : ℕ) (rows : List NodeRow) (x : NodeRow) → ((k : ℕ) (r : NodeRow) → i ≤ k → slice_get rows k ≡ Some r → r.state.crashes ≤ size)
    → (k : ℕ) (r : NodeRow) → i + 1 ≤ k → slice_get (set rows i x) k ≡ Some r → r.state.crashes ≤ size
low_next size i rows x was k r high got = ⊎_elim (λ same. absurd (let e = same.0 in omega arith)) (λ other. was k r (omega arith) other.1) (slice_get-set rows i k x r got)

pub told_next : (before now : Past) (i : ℕ) (rows : List NodeRow) (x old : NodeRow) → slice_get rows i ≡ Some old
    → (NodeTells before (i + 1) old → NodeTells now (i + 1) x)
    → ((k : ℕ) (r : NodeRow) → slice_get rows k ≡ Some r → NodeTells (told_by (nat_lt k i) now before) (k + 1) r)
    → (k : ℕ) (r : NodeRow) → slice_get (set rows i x) k ≡ Some r → NodeTells (told_by (nat_lt k (i + 1)) now before) (k + 1) r
told_next before now i rows x old there step was k r got =
    ⊎_elim
    (λ same.
    let mine : NodeTells before (i + 1) old = subst (λ (b : Bool). NodeTells (told_by b now before) (i + 1) old) test_low (was i old there) in
    let here : NodeTells (told_by (nat_lt i (i + 1)) now before) (i + 1) x = subst (λ (b : Bool). NodeTells (told_by b now before) (i + 1) x) (sym test_high) (step mine) in
    subst (λ (j : ℕ). NodeTells (told_by (nat_lt j (i + 1)) now before) (j + 1) r) (sym same.0) (subst (λ (y : NodeRow). NodeTells (told_by (nat_lt i (i + 1)) now before) (i + 1) y) (sym same.1) here))
    (λ other. subst (λ (b : Bool). NodeTells (told_by b now before) (k + 1) r) (test_other k other.0) (was k r other.1))
    (slice_get-set rows i k x r got)
  where
    test_low : nat_lt i i ≡ false
    test_low = grind (arith, nat_tests)

    test_high : nat_lt i (i + 1) ≡ true
    test_high = grind (arith, nat_tests)

    test_other : (j : ℕ) → j ≢ i → nat_lt j i ≡ nat_lt j (i + 1)
    test_other j apart = grind (arith, nat_tests)

pub told_all : (before now : Past) (i : ℕ) (rows : List NodeRow) → length rows ≤ i
    → ((k : ℕ) (r : NodeRow) → slice_get rows k ≡ Some r → NodeTells (told_by (nat_lt k i) now before) (k + 1) r)
    → (k : ℕ) (r : NodeRow) → slice_get rows k ≡ Some r → NodeTells now (k + 1) r
told_all before now i rows all was k r got =
    subst (λ (b : Bool). NodeTells (told_by b now before) (k + 1) r) (within k (slice_get_within rows k r got)) (was k r got)
  where
    within : (j : ℕ) → j < length rows → nat_lt j i ≡ true
    within j low = grind (arith, nat_tests)

got_last : (xs : List NodeRow) (x r : NodeRow) (i : ℕ) → slice_get (xs ++ x ∷ []) i ≡ Some r → (slice_get xs i ≡ Some r) ⊎ (r ≡ x)
got_last [] x r zero got = inr (cc)
got_last [] x r (suc i) got = absurd (cc)
got_last (y ∷ xs) x r zero got = inl got
got_last (y ∷ xs) x r (suc i) got = got_last xs x r i got

pub first_more : (old new : List NodeRow) (x : NodeRow) → new ≡ old ++ x ∷ [] → ((n : ℕ) → NodeTells [] n x) → RowsTell [] old → RowsTell [] new
first_more old new x e mine was = λ i r got.
    ⊎_elim (λ there. was i r there) (λ last. subst (λ (y : NodeRow). NodeTells [] (i + 1) y) (sym last) (mine (i + 1)))
    (got_last old x r i (ap (λ (l : List NodeRow). slice_get l i) (sym e) ∙ got))
