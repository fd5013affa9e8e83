-- Laws of formats.
use Rattle.std.proofs.Common.{◌≡◌, ℕ, zero, suc, ◌+◌, ◌⊎◌, Bool, true, false, cond, List, [], ◌∷◌, ◌++◌, length, drop, Option, Some, None, refl, sym, ap, subst, ◌∙◌, append_assoc, arith, inl, inr}
use Rattle.std.proofs.lemmas.List.{get_or-drop}
use Rattle.std.proofs.lemmas.Option.{some_pair_parts}
use Rattle.codec_frame.specs.Bytes.{AreBytes}
use Rattle.body_forms.specs.Format.{Read, ◌>>=◌, Takes, IsFormat, chain, ChainFits, chain_at, then_at, counted_at}

pub AreBytes-drop : (n : ℕ) (bytes : List ℕ) → AreBytes bytes → AreBytes (drop n bytes)
AreBytes-drop n bytes h i = rw get_or-drop (h (n + i))

-- a step that gave a value
pub bind_some : {A B : Type 0} (r : Option A) (f : A → Option B) (y : B) → (r >>= f) ≡ Some y → (x : A) × (r ≡ Some x) × (f x ≡ Some y)
bind_some (Some x) f y e = (x, refl, e)
bind_some None f y e = absurd cc

-- a test that was passed
pub passed : {A : Type 0} (b : Bool) (r : Option A) (y : A) → cond b r None ≡ Some y → (b ≡ true) × (r ≡ Some y)
passed true r y e = (refl, e)
passed false r y e = absurd cc

pub not_stopped : {A : Type 0} (b : Bool) (r : Option A) (y : A) → cond b None r ≡ Some y → (b ≡ false) × (r ≡ Some y)
not_stopped true r y e = absurd cc
not_stopped false r y e = (refl, e)

pub chosen : {A : Type 0} (b : Bool) (p q : Option A) (y : A) → cond b p q ≡ Some y → ((b ≡ true) × (p ≡ Some y)) ⊎ ((b ≡ false) × (q ≡ Some y))
chosen true p q y e = inl (refl, e)
chosen false p q y e = inr (refl, e)

pub Takes-then : (a x b y c : List ℕ) → Takes a x b → Takes b y c → Takes a (x ++ y) c
Takes-then a x b y c p q = record { parts = p.parts ∙ ap (λ (t : List ℕ). x ++ t) q.parts ∙ sym (append_assoc x y c); rest_fits = q.rest_fits }

pub read_is : {X : Type 0} (x y : X) (r s : List ℕ) → ◌≡◌ {A = Read X} (Some (x, r)) (Some (y, s)) → (x ≡ y) × (r ≡ s)
read_is x y r s e = some_pair_parts x y r s e

pub pair_of : {X : Type 0} (x y : X) (r s : List ℕ) → x ≡ y → r ≡ s → ◌≡◌ {A = X × List ℕ} (x, r) (y, s)
pair_of x y r s e f = cc

pub then_format : {A B : Type 0} (sa : A → List ℕ) (Fa : A → Type 0) (ra : List ℕ → Read A) (sb : A → B → List ℕ) (Fb : A → B → Type 0) (rb : A → List ℕ → Read B)
    → IsFormat sa Fa ra → ((x : A) → Fa x → IsFormat (sb x) (Fb x) (rb x)) → IsFormat (λ p. sa p.0 ++ sb p.0 p.1) (λ p. Fa p.0 × Fb p.0 p.1) (then_at ra rb)
then_format {A} {B} sa Fa ra sb Fb rb a b = record {
  again = λ p rest h.
      ap (then_at ra rb) (append_assoc (sa p.0) (sb p.0 p.1) rest)
      ∙ ap (λ (r : Read A). r >>= λ x. rb x.0 x.1 >>= λ y. Some ((x.0, y.0), y.1)) (a.again p.0 (sb p.0 p.1 ++ rest) h.0)
      ∙ ap (λ (r : Read B). r >>= λ y. Some ((p.0, y.0), y.1)) ((b p.0 h.0).again p.1 rest h.1);
  takes = λ bytes p rest fits e.
      let f = bind_some (ra bytes) (λ x. rb x.0 x.1 >>= λ y. Some ((x.0, y.0), y.1)) (p, rest) e in
      let g = bind_some (rb f.0.0 f.0.1) (λ y. Some ((f.0.0, y.0), y.1)) (p, rest) f.2 in
      let q = read_is (f.0.0, g.0.0) p g.0.1 rest g.2 in
      let t = a.takes bytes f.0.0 f.0.1 fits f.1 in
      let u = (b f.0.0 t.1).takes f.0.1 g.0.0 g.0.1 t.0.rest_fits g.1 in
      let both = Takes-then bytes (sa f.0.0) f.0.1 (sb f.0.0 g.0.0) g.0.1 t.0 u.0 in
      subst (λ (z : (A × B) × List ℕ). Takes bytes (sa z.0.0 ++ sb z.0.0 z.0.1) z.1 × (Fa z.0.0 × Fb z.0.0 z.0.1)) {x = ((f.0.0, g.0.0), g.0.1)} (pair_of (f.0.0, g.0.0) p g.0.1 rest q.0 q.1) (both, (t.1, u.1));
}

pub counted_format : {X : Type 0} (sn : ℕ → List ℕ) (Fn : ℕ → Type 0) (rn : List ℕ → Read ℕ) (s : List X → List ℕ) (F : List X → Type 0) (r : ℕ → List ℕ → Read (List X))
    → IsFormat sn Fn rn → ((n : ℕ) → Fn n → IsFormat s (λ xs. (length xs ≡ n) × F xs) (r n)) → IsFormat (λ xs. sn (length xs) ++ s xs) (λ xs. Fn (length xs) × F xs) (counted_at rn r)
counted_format {X} sn Fn rn s F r a b = record {
  again = λ xs rest h.
      ap (counted_at rn r) (append_assoc (sn (length xs)) (s xs) rest)
      ∙ ap (λ (z : Read ℕ). z >>= λ n. r n.0 n.1) (a.again (length xs) (s xs ++ rest) h.0)
      ∙ (b (length xs) h.0).again xs rest (refl, h.1);
  takes = λ bytes xs rest fits e.
      let f = bind_some (rn bytes) (λ n. r n.0 n.1) (xs, rest) e in
      let t = a.takes bytes f.0.0 f.0.1 fits f.1 in
      let u = (b f.0.0 t.1).takes f.0.1 xs rest t.0.rest_fits f.2 in
      subst (λ (n : ℕ). Takes bytes (sn n ++ s xs) rest × (Fn n × F xs)) (sym u.1.0) (Takes-then bytes (sn f.0.0) f.0.1 (s xs) rest t.0 u.0, (t.1, u.1.1));
}

chain_again : {K X : Type 0} (s : K → X → List ℕ) (F : K → X → Type 0) (r : K → List ℕ → Read X) (next : X → K)
    → ((k : K) → IsFormat (s k) (F k) (r k)) → (n : ℕ) (k : K) (xs : List X) (rest : List ℕ) → length xs ≡ n → ChainFits F next k xs → chain_at r next n k (chain s next k xs ++ rest) ≡ Some (xs, rest)
chain_again s F r next each zero k [] rest len h = refl
chain_again s F r next each zero k (x ∷ xs) rest len h = absurd (omega arith)
chain_again s F r next each (suc n) k [] rest len h = absurd (omega arith)
chain_again {K} {X} s F r next each (suc n) k (x ∷ xs) rest len h =
    ap (chain_at r next (suc n) k) (append_assoc (s k x) (chain s next (next x) xs) rest)
    ∙ ap (λ (z : Read X). z >>= λ y. chain_at r next n (next y.0) y.1 >>= λ ys. Some (y.0 ∷ ys.0, ys.1)) ((each k).again x (chain s next (next x) xs ++ rest) h.0)
    ∙ ap (λ (z : Read (List X)). z >>= λ ys. Some (x ∷ ys.0, ys.1)) (chain_again s F r next each n (next x) xs rest (omega arith) h.1)

chain_takes : {K X : Type 0} (s : K → X → List ℕ) (F : K → X → Type 0) (r : K → List ℕ → Read X) (next : X → K)
    → ((k : K) → IsFormat (s k) (F k) (r k)) → (n : ℕ) (k : K) (bytes : List ℕ) (xs : List X) (rest : List ℕ) → AreBytes bytes → chain_at r next n k bytes ≡ Some (xs, rest)
    → Takes bytes (chain s next k xs) rest × ((length xs ≡ n) × ChainFits F next k xs)
chain_takes {K} {X} s F r next each zero k bytes xs rest fits e =
    let q = read_is [] xs bytes rest e in
    subst (λ (z : List X × List ℕ). Takes bytes (chain s next k z.0) z.1 × ((length z.0 ≡ 0) × ChainFits F next k z.0)) (pair_of [] xs bytes rest q.0 q.1) (record { parts = refl; rest_fits = fits }, (refl, tt))
chain_takes {K} {X} s F r next each (suc n) k bytes xs rest fits e =
    let f = bind_some (r k bytes) (λ x. chain_at r next n (next x.0) x.1 >>= λ ys. Some (x.0 ∷ ys.0, ys.1)) (xs, rest) e in
    let g = bind_some (chain_at r next n (next f.0.0) f.0.1) (λ ys. Some (f.0.0 ∷ ys.0, ys.1)) (xs, rest) f.2 in
    let q = read_is (f.0.0 ∷ g.0.0) xs g.0.1 rest g.2 in
    let t = (each k).takes bytes f.0.0 f.0.1 fits f.1 in
    let u = chain_takes s F r next each n (next f.0.0) f.0.1 g.0.0 g.0.1 t.0.rest_fits g.1 in
    let both = Takes-then bytes (s k f.0.0) f.0.1 (chain s next (next f.0.0) g.0.0) g.0.1 t.0 u.0 in
    subst (λ (z : List X × List ℕ). Takes bytes (chain s next k z.0) z.1 × ((length z.0 ≡ suc n) × ChainFits F next k z.0)) {x = (f.0.0 ∷ g.0.0, g.0.1)} (pair_of (f.0.0 ∷ g.0.0) xs g.0.1 rest q.0 q.1) (both, (ap suc u.1.0, (t.1, u.1.1)))

pub chain_format : {K X : Type 0} (s : K → X → List ℕ) (F : K → X → Type 0) (r : K → List ℕ → Read X) (next : X → K)
    → ((k : K) → IsFormat (s k) (F k) (r k)) → (n : ℕ) (k : K) → IsFormat (chain s next k) (λ xs. (length xs ≡ n) × ChainFits F next k xs) (chain_at r next n k)
chain_format s F r next each n k = record { again = λ xs rest h. chain_again s F r next each n k xs rest h.0 h.1; takes = λ bytes xs rest fits e. chain_takes s F r next each n k bytes xs rest fits e }

-- a format whose values are tested besides
pub tested_format : {X : Type 0} (s : X → List ℕ) (F : X → Type 0) (r : List ℕ → Read X) (test : X → Bool) (P : X → Type 0)
    → IsFormat s F r → ((x : X) → test x ≡ true → P x) → ((x : X) → P x → test x ≡ true) → IsFormat s (λ x. P x × F x) (λ bytes. r bytes >>= λ x. cond (test x.0) (Some x) None)
tested_format {X} s F r test P a true_is is_true = record {
  again = λ x rest h. ap (λ (z : Read X). z >>= λ y. cond (test y.0) (Some y) None) (a.again x rest h.1) ∙ rw (is_true x h.0) refl;
  takes = λ bytes x rest fits e.
      let f = bind_some (r bytes) (λ y. cond (test y.0) (Some y) None) (x, rest) e in
      let p = passed (test f.0.0) (Some f.0) (x, rest) f.2 in
      let q = read_is f.0.0 x f.0.1 rest p.1 in
      let t = a.takes bytes x rest fits (f.1 ∙ p.1) in
      (t.0, (subst P q.0 (true_is f.0.0 p.0), t.1));
}

-- no spelling begins another
pub once : {X : Type 0} (s : X → List ℕ) (F : X → Type 0) (r : List ℕ → Read X) → IsFormat s F r → (a b : X) (x y : List ℕ) → F a → F b → s a ++ x ≡ s b ++ y → (a ≡ b) × (x ≡ y)
once s F r f a b x y fa fb e = read_is a b x y (sym (f.again a x fa) ∙ ap r e ∙ f.again b y fb)
