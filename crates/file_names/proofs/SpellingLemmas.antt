-- Digits written into 13 bytes from the end on, and digits added up from the front on.
use Rattle.std.proofs.Common.{◌≡◌, ℕ, zero, suc, ◌+◌, ◌-◌, ◌*◌, ◌/◌, ◌%◌, ◌^◌, ◌<◌, ◌≤◌, true, List, [], ◌∷◌, ◌++◌, length, set, take, drop, replicate, refl, sym, ap, subst, ◌∙◌, arith}
use Rattle.std.proofs.Math.Nat.{pow-suc}
use Rattle.std.proofs.lemmas.List.{append-nil, append_assoc, length-set, take-set, take-take, take-replicate, drop-set, take-append-drop}
use Rattle.file_names.specs.Base36.{digit_of, digit_value, value_after, base36_within, base36_of, is_base36}
use Rattle.file_names.proofs.Base36Lemmas.{within-small, within-large, base36_is, value_grows}

-- the digits from behind `start` on are the end of the number's, and `rest` is what they leave
pub record Spelled (n : ℕ) (bytes : List ℕ) (start rest : ℕ) : Type 0 where
  pub size : length bytes ≡ 13
  pub within : start ≤ 12
  pub below : rest < 36 ^ suc start
  pub empty : take (suc start) bytes ≡ replicate (suc start) 0
  pub whole : base36_within start rest ++ drop (suc start) bytes ≡ base36_of n

pub spelled_start : (n : ℕ) (bytes : List ℕ) → n < 2 ^ 64 → bytes ≡ replicate 13 0 → Spelled n bytes 12 n
spelled_start n bytes h e = subst (λ (x : List ℕ). Spelled n x 12 n) (sym e) (record {
  size = refl;
  within = omega arith;
  below = omega arith;
  empty = refl;
  whole = append-nil (base36_of n);
})

pub start_some : (start rest : ℕ) → 36 ≤ rest → rest < 36 ^ suc start → 0 < start
start_some zero rest h b = absurd (omega (arith, pow-suc 36 0))
start_some (suc start) rest h b = omega arith

empty_less : (k : ℕ) (bytes written : List ℕ) → take (suc k) bytes ≡ replicate (suc k) 0 → take k written ≡ take k bytes → take k written ≡ replicate k 0
empty_less k bytes written e same =
    same ∙ sym (take-take k (suc k) bytes (omega arith)) ∙ ap (λ (x : List ℕ). take k x) e ∙ take-replicate k (suc k) 0 (omega arith)

more_at : (n : ℕ) (bytes : List ℕ) (start k rest : ℕ) → start ≡ suc k → 36 ≤ rest → Spelled n bytes start rest → Spelled n (set bytes start (digit_of (rest % 36))) k (rest / 36)
more_at n bytes start k rest e h s =
    let at : start < length bytes = omega (arith, s.size, s.within) in
    let next : start + 1 ≡ suc start = omega arith in
    let shown : drop start (set bytes start (digit_of (rest % 36))) ≡ digit_of (rest % 36) ∷ drop (suc start) bytes = drop-set bytes start (digit_of (rest % 36)) at ∙ ap (λ (j : ℕ). digit_of (rest % 36) ∷ drop j bytes) next in
    let large : base36_within start rest ≡ base36_within k (rest / 36) ++ digit_of (rest % 36) ∷ [] = ap (λ (j : ℕ). base36_within j rest) e ∙ within-large k rest h in
    let below : rest < 36 ^ suc (suc k) = subst (λ (j : ℕ). rest < 36 ^ suc j) e s.below in
    record {
      size = length-set bytes start (digit_of (rest % 36)) ∙ s.size;
      within = omega (arith, s.within);
      below = omega (arith, pow-suc 36 (suc k));
      empty = subst (λ (j : ℕ). take j (set bytes start (digit_of (rest % 36))) ≡ replicate j 0) e (empty_less start bytes (set bytes start (digit_of (rest % 36))) s.empty (take-set bytes start (digit_of (rest % 36))));
      whole =
          ap (λ (j : ℕ). base36_within k (rest / 36) ++ drop j (set bytes start (digit_of (rest % 36)))) (sym e)
          ∙ ap (λ (x : List ℕ). base36_within k (rest / 36) ++ x) shown
          ∙ sym (append_assoc (base36_within k (rest / 36)) (digit_of (rest % 36) ∷ []) (drop (suc start) bytes))
          ∙ ap (λ (x : List ℕ). x ++ drop (suc start) bytes) (sym large)
          ∙ s.whole;
    }

pub spelled_more : (n : ℕ) (bytes : List ℕ) (start rest : ℕ) → 36 ≤ rest → Spelled n bytes start rest → Spelled n (set bytes start (digit_of (rest % 36))) (start - 1) (rest / 36)
spelled_more n bytes start rest h s =
    let some : 0 < start = start_some start rest h s.below in
    more_at n bytes start (start - 1) rest (omega arith) h s

pub spelled_end : (n : ℕ) (bytes : List ℕ) (start rest : ℕ) → rest < 36 → Spelled n bytes start rest → drop start (set bytes start (digit_of rest)) ≡ base36_of n
spelled_end n bytes start rest h s =
    let at : start < length bytes = omega (arith, s.size, s.within) in
    let next : start + 1 ≡ suc start = omega arith in
    drop-set bytes start (digit_of rest) at ∙ ap (λ (j : ℕ). digit_of rest ∷ drop j bytes) next
    ∙ ap (λ (x : List ℕ). x ++ drop (suc start) bytes) (sym (within-small start rest h)) ∙ s.whole

-- how the digits lie at the end
pub spelled_lies : (n : ℕ) (bytes : List ℕ) (start rest : ℕ) → n < 2 ^ 64 → rest < 36 → Spelled n bytes start rest
    → (length (set bytes start (digit_of rest)) ≡ 13) × (start ≤ 13) × (set bytes start (digit_of rest) ≡ replicate start 0 ++ drop start (set bytes start (digit_of rest))) × (is_base36 (drop start (set bytes start (digit_of rest))) ≡ true)
spelled_lies n bytes start rest small h s =
    let written : List ℕ = set bytes start (digit_of rest) in
    let front : take start written ≡ replicate start 0 = empty_less start bytes written s.empty (take-set bytes start (digit_of rest)) in
    (length-set bytes start (digit_of rest) ∙ s.size, omega (arith, s.within), sym (take-append-drop start written) ∙ ap (λ (x : List ℕ). x ++ drop start written) front, ap is_base36 (spelled_end n bytes start rest h s) ∙ base36_is n small)

-- a number that digits follow is at most the whole
pub too_large : (value : ℕ) (b : ℕ) (digits : List ℕ) → 2 ^ 64 ≤ value * 36 + digit_value b → 2 ^ 64 ≤ value_after value (b ∷ digits)
too_large value b digits h = omega (arith, value_grows (value * 36 + digit_value b) digits)
