-- A list that a loop maps, item by item.
use Rattle.std.proofs.Common.{◌≡◌, ◌≤◌, ◌<◌, ◌+◌, ◌++◌, ℕ, List, [], ◌∷◌, get_or, length, take, map, ap, ◌∙◌, sym}
use Rattle.std.proofs.lemmas.List.{take_all, map_more}

pub one_more : {X Y : Type 0} (f : X → Y) (xs : List X) (i : ℕ) (x : X) (y : Y) (ks more : List Y) → i < length xs → x ≡ get_or xs i x → y ≡ f x → ks ≡ map f (take i xs) → more ≡ ks ++ y ∷ [] → more ≡ map f (take (i + 1) xs)
one_more {Y = Y} f xs i x y ks more lt is same known pushed =
    pushed ∙ (λ j. known j ++ (same ∙ ap f is) j ∷ []) ∙ sym (map_more f xs i x lt)

pub all_of : {X Y : Type 0} (f : X → Y) (xs : List X) (i : ℕ) (ks : List Y) → length xs ≤ i → ks ≡ map f (take i xs) → ks ≡ map f xs
all_of f xs i ks past known = known ∙ ap (λ (ys : List _). map f ys) (take_all i xs past)
