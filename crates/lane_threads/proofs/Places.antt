-- The elements of a list by their places.
use Rattle.std.proofs.Common.{◌≡◌, ◌≢◌, ℕ, ◌+◌, ◌<◌, ◌≤◌, List, [], ◌∷◌, ◌++◌, set, take, length, refl, sym, ◌∙◌, subst, arith, inl, inr}
use Rattle.std.specs.Prelude.{slice_index_or, ◌-◌}
use Rattle.std.proofs.lemmas.Bool.{cases_lt}
use Rattle.std.proofs.lemmas.Bool.Decides.{eqb_tells}
use Rattle.std.proofs.lemmas.Grind.{get_or-set_at}
use Rattle.std.proofs.lemmas.List.{get_or-set_other, get_or_append_left, get_or-append_right, get_or-append-add, length-append, take_more}
use Rattle.std.proofs.Math.Seq.{get_or-append_seam}

module _ {X : Type 0} where
  -- a fact of the place i where the element of place k was changed
  pub by_place : (xs : List X) (k i : ℕ) (moved d : X) (P : X → Type 0) → k < length xs → (i ≡ k → P moved) → (i ≢ k → P (slice_index_or xs i d)) → P (slice_index_or (set xs k moved) i d)
  by_place xs k i moved d P within here there =
      elim (eqb_tells i k) [
        | inl same ↦ subst P (sym (get_or-set_at xs k i moved d same.1 within)) (here same.1)
        | inr other ↦ subst P (sym (get_or-set_other xs k i moved d other.1)) (there other.1)
      ]

  -- and where one more was put behind the last
  pub at_snoc : (xs : List X) (x : X) (i : ℕ) (d : X) (P : X → Type 0) → i < length xs + 1 → (i < length xs → P (slice_index_or xs i d)) → (i ≡ length xs → P x) → P (slice_index_or (xs ++ x ∷ []) i d)
  at_snoc xs x i d P lt before here =
      elim (eqb_tells i (length xs)) [
        | inl e ↦ subst (λ (n : ℕ). P (slice_index_or (xs ++ x ∷ []) n d)) (sym e.1) (subst P (sym (get_or-append_seam xs x [] d)) (here e.1))
        | inr e ↦ let below : i < length xs = let n = e.1 in omega arith in subst P (sym (get_or_append_left xs (x ∷ []) d i below)) (before below)
      ]

  not_empty : (ys : List X) (b : X) → [] ≡ ys ++ b ∷ [] → ⊥
  not_empty [] b e = absurd (cc (e))
  not_empty (y ∷ ys) b e = absurd (cc (e))

  snoc_same : (xs ys : List X) (a b : X) → xs ++ a ∷ [] ≡ ys ++ b ∷ [] → (xs ≡ ys) × (a ≡ b)
  snoc_same [] [] a b e = (refl, cc (e))
  snoc_same [] (y ∷ ys) a b e = elim (not_empty ys b (cc (e))) [ ]
  snoc_same (x ∷ xs) [] a b e = elim (not_empty xs a (sym (cc (e)))) [ ]
  snoc_same (x ∷ xs) (y ∷ ys) a b e = let t = snoc_same xs ys a b (cc (e)) in (cc (e, t.0), t.1)

  -- what the last of the first k + 1 elements is
  pub take_last : (xs : List X) (k : ℕ) (x : X) (rest : List X) → k + 1 ≤ length xs → take (k + 1) xs ≡ rest ++ x ∷ [] → (rest ≡ take k xs) × ((d : X) → slice_index_or xs k d ≡ x)
  take_last xs k x rest within e = (
    (let t = snoc_same (take k xs) rest (slice_index_or xs k x) x (sym (take_more xs k x (omega arith)) ∙ e) in sym t.0),
    λ d. (snoc_same (take k xs) rest (slice_index_or xs k d) x (sym (take_more xs k d (omega arith)) ∙ e)).1,
  )

  -- ---- a list of two parts

  -- what is so of each element of the whole is so of the first part
  pub each_of_first : (P : X → Type 0) (xs ys : List X) → ((i : ℕ) (d : X) → i < length (xs ++ ys) → P (slice_index_or (xs ++ ys) i d)) → (i : ℕ) (d : X) → i < length xs → P (slice_index_or xs i d)
  each_of_first P xs ys each i d lt = subst P (get_or_append_left xs ys d i lt) (each i d (let n = length-append xs ys in omega arith))

  -- and of the second
  pub each_of_second : (P : X → Type 0) (xs ys : List X) → ((i : ℕ) (d : X) → i < length (xs ++ ys) → P (slice_index_or (xs ++ ys) i d)) → (i : ℕ) (d : X) → i < length ys → P (slice_index_or ys i d)
  each_of_second P xs ys each i d lt = subst P (get_or-append-add xs ys i d) (each (length xs + i) d (let n = length-append xs ys in omega arith))

  -- each element was changed so where both parts were
  pub parts_changed : (R : X → X → Type 0) (xs ys vs ws : List X) → length vs ≡ length xs
      → ((i : ℕ) (d : X) → i < length xs → R (slice_index_or xs i d) (slice_index_or vs i d))
      → ((i : ℕ) (d : X) → i < length ys → R (slice_index_or ys i d) (slice_index_or ws i d))
      → (i : ℕ) (d : X) → i < length (xs ++ ys) → R (slice_index_or (xs ++ ys) i d) (slice_index_or (vs ++ ws) i d)
  parts_changed R xs ys vs ws same first second i d lt = elim (cases_lt i (length xs)) [ inl below ↦ in_first below | inr beyond ↦ in_second beyond ]
    where
      in_first : i < length xs → R (slice_index_or (xs ++ ys) i d) (slice_index_or (vs ++ ws) i d)
      in_first below =
          subst (R (slice_index_or (xs ++ ys) i d)) (sym (get_or_append_left vs ws d i (omega arith)))
          (subst (λ (x : X). R x (slice_index_or vs i d)) (sym (get_or_append_left xs ys d i below)) (first i d below))

      in_second : length xs ≤ i → R (slice_index_or (xs ++ ys) i d) (slice_index_or (vs ++ ws) i d)
      in_second beyond =
          let k : ℕ = i - length xs in
          subst (R (slice_index_or (xs ++ ys) i d)) (sym (get_or-append_right vs ws (length xs) i d same beyond))
          (subst (λ (x : X). R x (slice_index_or ws k d)) (sym (get_or-append_right xs ys (length xs) i d refl beyond)) (second k d (let n = length-append xs ys in omega arith)))

  -- a list of two parts is as long as before where both are
  pub length-parts : (xs ys vs ws : List X) → length vs ≡ length xs → length ws ≡ length ys → length (vs ++ ws) ≡ length (xs ++ ys)
  length-parts xs ys vs ws first second = omega (arith, first, second, length-append xs ys, length-append vs ws)
