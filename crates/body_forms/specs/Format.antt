-- Formats: how values are spelled as bytes, and how the front of a list is read as a value.
use Rattle.std.specs.Prelude.{◌≡◌, ℕ, zero, suc, List, [], ◌∷◌, ◌++◌, Option, Some, None}
use Rattle.codec_frame.specs.Bytes.{AreBytes}

-- what reading the front of a list gives: a value and the bytes after it, or nothing
abbrev pub Read : Type 0 → Type 0
Read X = Option (X × List ℕ)

infixl 10 ◌>>=◌
abbrev pub ◌>>=◌ : {A B : Type 0} → Option A → (A → Option B) → Option B
(Some x) >>= f = f x
None >>= f = None

-- items one after the other, each spelled after what the one before it leaves
abbrev pub chain : {K X : Type 0} → (K → X → List ℕ) → (X → K) → K → List X → List ℕ
chain spell next k [] = []
chain spell next k (x ∷ xs) = spell k x ++ chain spell next (next x) xs

abbrev pub ChainFits : {K X : Type 0} → (K → X → Type 0) → (X → K) → K → List X → Type 0
ChainFits Fits next k [] = Unit {0}
ChainFits Fits next k (x ∷ xs) = Fits k x × ChainFits Fits next (next x) xs

abbrev pub chain_at : {K X : Type 0} → (K → List ℕ → Read X) → (X → K) → ℕ → K → List ℕ → Read (List X)
chain_at read next zero k bytes = Some ([], bytes)
chain_at read next (suc n) k bytes = read k bytes >>= λ x. chain_at read next n (next x.0) x.1 >>= λ xs. Some (x.0 ∷ xs.0, xs.1)

-- one value, then another whose form may hang on the first
abbrev pub then_at : {A B : Type 0} → (List ℕ → Read A) → (A → List ℕ → Read B) → List ℕ → Read (A × B)
then_at read_a read_b bytes = read_a bytes >>= λ x. read_b x.0 x.1 >>= λ y. Some ((x.0, y.0), y.1)

-- how many, then the items
abbrev pub counted_at : {X : Type 0} → (List ℕ → Read ℕ) → (ℕ → List ℕ → Read (List X)) → List ℕ → Read (List X)
counted_at read_count read_items bytes = read_count bytes >>= λ n. read_items n.0 n.1

-- what was taken from the front of the bytes
pub record Takes (bytes text rest : List ℕ) : Type 0 where
  pub parts : bytes ≡ text ++ rest
  pub rest_fits : AreBytes rest

-- what is spelled is read, and what is read is spelled so
pub record IsFormat {X : Type 0} (spell : X → List ℕ) (Fits : X → Type 0) (read : List ℕ → Read X) : Type 0 where
  pub again : (x : X) (rest : List ℕ) → Fits x → read (spell x ++ rest) ≡ Some (x, rest)
  pub takes : (bytes : List ℕ) (x : X) (rest : List ℕ) → AreBytes bytes → read bytes ≡ Some (x, rest) → Takes bytes (spell x) rest × Fits x

-- what a function that reads past a value returned: the bytes after it, or nothing where none is read
abbrev pub Skips : {X : Type 0} → Option (List ℕ) → Read X → Type 0
Skips None read = read ≡ None
Skips {X} (Some rest) read = (x : X) × (read ≡ Some (x, rest))
