-- A test that more entries pass.
use Rattle.std.proofs.Common.{◌≡◌, ◌||◌, List, [], ◌∷◌, Bool, true, false, true≢false, refl, sym, ap, ◌∙◌}
use Rattle.std.proofs.lemmas.Bool.{false_from_ne_true, or_right}
use Rattle.std.specs.List.{list_any}

either_more : (b c old now : Bool) → (b ≡ true → c ≡ true) → (old ≡ true → now ≡ true) → (b || old) ≡ true → (c || now) ≡ true
either_more true c old now one rest there = ap (λ (x : Bool). x || now) (one refl)
either_more false c old now one rest there = or_right c now (rest there)

pub any_more : {X : Type 0} (p q : X → Bool) → ((x : X) → p x ≡ true → q x ≡ true) → (xs : List X) → list_any p xs ≡ true → list_any q xs ≡ true
any_more p q more [] there = absurd (true≢false (sym there))
any_more p q more (x ∷ xs) there = either_more (p x) (q x) (list_any p xs) (list_any q xs) (more x) (any_more p q more xs) there

pub none_more : {X : Type 0} (p q : X → Bool) → ((x : X) → q x ≡ true → p x ≡ true) → (xs : List X) → list_any p xs ≡ false → list_any q xs ≡ false
none_more p q less xs none = false_from_ne_true (list_any q xs) (λ some. true≢false (sym (any_more q p less xs some) ∙ none))
