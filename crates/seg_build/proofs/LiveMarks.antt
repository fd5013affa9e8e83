-- A loop that marks rows dead one after the other.
use Rattle.std.proofs.Common.{◌≡◌, ℕ, suc, ◌+◌, ◌-◌, ◌<◌, ◌≤◌, Bool, true, false, not, List, [], ◌∷◌, ◌++◌, length, get_or, set, map, take, replicate, sym, ap, ◌∙◌, arith}
use Rattle.std.proofs.lemmas.List.{append_assoc, append-nil, length-append, length-map, length-take-le, map_more, set_at, take_all}

-- the live rows once the marks of the first i rows were looked at
abbrev pub so_far : List Bool → ℕ → List Bool
so_far dead i = map not (take i dead) ++ replicate (length dead - i) true

pub none_looked_at : (dead : List Bool) → replicate (length dead) true ≡ so_far dead 0
none_looked_at dead = let e : length dead ≡ length dead - 0 = omega arith in ap (λ (n : ℕ). replicate n true) e

pub all_looked_at : (dead : List Bool) (i : ℕ) → length dead ≤ i → so_far dead i ≡ map not dead
all_looked_at dead i le =
    let e : length dead - i ≡ 0 = omega arith in
    ap (λ (n : ℕ). map not (take i dead) ++ replicate n true) e ∙ append-nil (map not (take i dead)) ∙ ap (λ (xs : List Bool). map not xs) (take_all i dead le)

here : (dead : List Bool) (i : ℕ) → i < length dead → so_far dead i ≡ map not (take i dead) ++ true ∷ replicate (length dead - (i + 1)) true
here dead i lt = let e : length dead - i ≡ suc (length dead - (i + 1)) = omega arith in ap (λ (n : ℕ). map not (take i dead) ++ replicate n true) e

next : (dead : List Bool) (i : ℕ) (mark d : Bool) → i < length dead → get_or dead i d ≡ mark → so_far dead (i + 1) ≡ map not (take i dead) ++ not mark ∷ replicate (length dead - (i + 1)) true
next dead i mark d lt e =
    let rest = replicate (length dead - (i + 1)) true in
    ap (λ (xs : List Bool). xs ++ rest) (map_more not dead i d lt ∙ ap (λ (b : Bool). map not (take i dead) ++ not b ∷ []) e) ∙ append_assoc (map not (take i dead)) (not mark ∷ []) rest

pub marked_dead : (dead : List Bool) (i : ℕ) (d : Bool) → i < length dead → get_or dead i d ≡ true → set (so_far dead i) i false ≡ so_far dead (i + 1)
marked_dead dead i d lt e =
    let len : length (map not (take i dead)) ≡ i = length-map (take i dead) not ∙ length-take-le i dead (omega arith) in
    ap (λ (xs : List Bool). set xs i false) (here dead i lt) ∙ set_at (map not (take i dead)) true (replicate (length dead - (i + 1)) true) false i len ∙ sym (next dead i true d lt e)

pub left_live : (dead : List Bool) (i : ℕ) (d : Bool) → i < length dead → get_or dead i d ≡ false → so_far dead i ≡ so_far dead (i + 1)
left_live dead i d lt e = here dead i lt ∙ sym (next dead i false d lt e)

pub length-so_far : (dead : List Bool) (i : ℕ) → i < length dead → i < length (so_far dead i)
length-so_far dead i lt = rw (here dead i lt) (in_front (map not (take i dead)) true (replicate (length dead - (i + 1)) true) i (length-map (take i dead) not ∙ length-take-le i dead (omega arith)))
  where
    in_front : (xs : List Bool) (y : Bool) (ys : List Bool) (n : ℕ) → length xs ≡ n → n < length (xs ++ y ∷ ys)
    in_front xs y ys n e = omega (arith, length-append xs (y ∷ ys))
