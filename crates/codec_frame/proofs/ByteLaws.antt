-- Parts of lists of bytes.
use Rattle.std.proofs.Common.{◌≡◌, ℕ, zero, suc, ◌+◌, ◌-◌, ◌≤◌, List, [], ◌∷◌, ◌++◌, length, take, drop, sym, subst, arith}
use Rattle.std.specs.Prelude.{slice_range}
use Rattle.std.proofs.lemmas.List.{length-take, length-drop, take-append-drop}
use Rattle.codec_frame.specs.Bytes.{AreBytes}

pub AreBytes-rest : (b : ℕ) (bytes : List ℕ) → AreBytes (b ∷ bytes) → AreBytes bytes
AreBytes-rest b bytes h i = h (suc i)

pub AreBytes-front : (front back : List ℕ) → AreBytes (front ++ back) → AreBytes front
AreBytes-front [] back h i = omega arith
AreBytes-front (b ∷ front) back h zero = h 0
AreBytes-front (b ∷ front) back h (suc i) = AreBytes-front front back (λ j. h (suc j)) i

pub AreBytes-back : (front back : List ℕ) → AreBytes (front ++ back) → AreBytes back
AreBytes-back [] back h = h
AreBytes-back (b ∷ front) back h = AreBytes-back front back (λ j. h (suc j))

pub AreBytes-take : (n : ℕ) (bytes : List ℕ) → AreBytes bytes → AreBytes (take n bytes)
AreBytes-take n bytes h = AreBytes-front (take n bytes) (drop n bytes) (subst AreBytes (sym (take-append-drop n bytes)) h)

pub AreBytes-slice_range : (bytes : List ℕ) (i j : ℕ) → AreBytes bytes → AreBytes (slice_range bytes i j)
AreBytes-slice_range bytes i j h =
    AreBytes-take (j - i) (drop i bytes) (AreBytes-back (take i bytes) (drop i bytes) (subst AreBytes (sym (take-append-drop i bytes)) h))

pub length-slice_range : (bytes : List ℕ) (i n : ℕ) → i + n ≤ length bytes → length (slice_range bytes i (i + n)) ≡ n
length-slice_range bytes i n h = omega (arith, length-take (i + n - i) (drop i bytes), length-drop i bytes)
