-- A loop over the items of a chain.
use Rattle.std.proofs.Common.{◌≡◌, ℕ, suc, ◌+◌, ◌-◌, ◌<◌, ◌≤◌, List, [], ◌∷◌, ◌++◌, Some, None, refl, sym, ap, ◌∙◌, append_assoc, arith}
use Rattle.std.proofs.lemmas.List.{append-nil}
use Rattle.body_forms.specs.Format.{Read, ◌>>=◌, chain_at}

-- what was read before, and what is still read
abbrev pub with_front : {X : Type 0} → List X → Read (List X) → Read (List X)
with_front front read = read >>= λ x. Some (front ++ x.0, x.1)

regroup : {X : Type 0} (front : List X) (x : X) (read : Read (List X)) → with_front front (read >>= λ xs. Some (x ∷ xs.0, xs.1)) ≡ with_front (front ++ x ∷ []) read
regroup {X} front x (Some xs) = ap (λ (ys : List X). Some (ys, xs.1)) (sym (append_assoc front (x ∷ []) xs.0))
regroup front x None = refl

-- The chain's loop has come to the state k and the bytes left, with i of n items read: reading the others gives what reading all gives.
-- The items themselves are not kept, so some list stands for them.
pub record IsAt {K X : Type 0} (read : K → List ℕ → Read X) (next : X → K) (n i : ℕ) (k : K) (left : List ℕ) (whole : Read (List X)) : Type 0 where
  pub front : List X
  pub so_far : with_front front (chain_at read next (n - i) k left) ≡ whole

nothing_before : {X : Type 0} (read : Read (List X)) → with_front [] read ≡ read
nothing_before (Some x) = refl
nothing_before None = refl

pub at_start : {K X : Type 0} (read : K → List ℕ → Read X) (next : X → K) (n : ℕ) (k : K) (bytes : List ℕ) → IsAt read next n 0 k bytes (chain_at read next n k bytes)
at_start {K} {X} read next n k bytes = record { front = []; so_far = let e : n - 0 ≡ n = omega arith in rw e (nothing_before (chain_at read next n k bytes)) }

pub goes_on : {K X : Type 0} (read : K → List ℕ → Read X) (next : X → K) (n i : ℕ) (k : K) (left : List ℕ) (whole : Read (List X)) (x : X) (after : List ℕ)
    → i < n → read k left ≡ Some (x, after) → IsAt read next n i k left whole → IsAt read next n (i + 1) (next x) after whole
goes_on {K} {X} read next n i k left whole x after lt e at =
    let m : n - i ≡ suc (n - (i + 1)) = omega arith in
    let one : with_front at.front (chain_at read next (n - i) k left) ≡ with_front (at.front ++ x ∷ []) (chain_at read next (n - (i + 1)) (next x) after) =
    rw (m, e) (regroup at.front x (chain_at read next (n - (i + 1)) (next x) after)) in
    record { front = at.front ++ x ∷ []; so_far = sym one ∙ at.so_far }

pub ends : {K X : Type 0} (read : K → List ℕ → Read X) (next : X → K) (n i : ℕ) (k : K) (left : List ℕ) (whole : Read (List X))
    → i < n → read k left ≡ None → IsAt read next n i k left whole → whole ≡ None
ends read next n i k left whole lt e at =
    let m : n - i ≡ suc (n - (i + 1)) = omega arith in
    let one : with_front at.front (chain_at read next (n - i) k left) ≡ None = rw (m, e) refl in
    sym at.so_far ∙ one

pub is_done : {K X : Type 0} (read : K → List ℕ → Read X) (next : X → K) (n i : ℕ) (k : K) (left : List ℕ) (whole : Read (List X))
    → n ≤ i → IsAt read next n i k left whole → (xs : List X) × (whole ≡ Some (xs, left))
is_done {K} {X} read next n i k left whole le at =
    let m : n - i ≡ 0 = omega arith in
    let one : with_front at.front (chain_at read next (n - i) k left) ≡ Some (at.front, left) = rw m (ap (λ (xs : List X). Some (xs, left)) (append-nil at.front)) in
    (at.front, sym at.so_far ∙ one)
