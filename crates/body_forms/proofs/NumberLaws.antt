-- The laws of fixed numbers, of tested formats and of ascending numbers.
use Rattle.std.proofs.Common.{◌≡◌, ℕ, ◌+◌, ◌-◌, ◌^◌, ◌<◌, ◌≤◌, true, false, cond, List, ◌++◌, length, take, drop, Some, None, refl, sym, ap, subst, ◌∙◌, arith}
use Rattle.std.specs.Prelude.{nat_lt}
use Rattle.std.specs.Int.{w32, w64, from_be_bytes}
use Rattle.std.proofs.lemmas.Bool.{ltb-false, lt-ltb, le-ltb}
use Rattle.std.proofs.lemmas.Nat.{be_bytes_4, be_bytes_8, from_be_bytes-to_be_bytes_4, from_be_bytes-to_be_bytes_8}
use Rattle.std.proofs.lemmas.List.{length-append, length-take, take_at, drop_at, take-append-drop}
use Rattle.std.proofs.lemmas.Option.{some_pair_parts}
use borrow.Author.Tests.{ltb-true}
use Rattle.body_forms.specs.VInts.{vint}
use Rattle.codec_frame.specs.Bytes.{AreBytes}
use Rattle.body_forms.specs.Format.{Read, ◌>>=◌, IsFormat, chain, chain_at, then_at}
use Rattle.body_forms.specs.Numbers.{u32_bytes, u32_at, u64_bytes, u64_at, vint_at, difference, MayCome, above, difference_at, positive_at, ascending, Ascend, ascending_at}
use Rattle.codec_frame.proofs.ByteLaws.{AreBytes-take}
use Rattle.body_forms.proofs.Formats.{AreBytes-drop, bind_some, passed, not_stopped, counted_format, chain_format, then_format, tested_format}
use Rattle.body_forms.proofs.Numerals.{vint_format}

pub positive_format : IsFormat vint (λ n. (0 < n) × (n < 2 ^ 32)) positive_at
unfolding positive_at
positive_format = tested_format vint (λ n. n < 2 ^ 32) vint_at (λ n. nat_lt 0 n) (λ n. 0 < n) vint_format (λ n h. ltb-true _ _ h) (λ n h. lt-ltb 0 n h)

abbrev step_from : ℕ → ℕ × List ℕ → Read ℕ
step_from k d = cond (nat_lt (k - 1 + d.0) k) None (cond (nat_lt (k - 1 + d.0) (2 ^ 32)) (Some (k - 1 + d.0, d.1)) None)

pub difference_format : (k : ℕ) → IsFormat (difference k) (MayCome k) (difference_at k)
unfolding difference_at
difference_format k = record {
  again = λ x rest h.
      let back : k - 1 + (x - (k - 1)) ≡ x = omega (arith, h.0) in
      let not_below : nat_lt (k - 1 + (x - (k - 1))) k ≡ false = le-ltb (k - 1 + (x - (k - 1))) k (omega (arith, h.0)) in
      let below : nat_lt (k - 1 + (x - (k - 1))) (2 ^ 32) ≡ true = lt-ltb (k - 1 + (x - (k - 1))) (2 ^ 32) (omega (arith, h.0, h.1)) in
      ap (λ (z : Read ℕ). z >>= step_from k) (vint_format.again (x - (k - 1)) rest (omega (arith, h.1))) ∙ rw (not_below, below, back) refl;
  takes = λ bytes x rest fits e.
      let f = bind_some (vint_at bytes) (step_from k) (x, rest) e in
      let d = f.0.0 in
      let p = not_stopped (nat_lt (k - 1 + d) k) (cond (nat_lt (k - 1 + d) (2 ^ 32)) (Some (k - 1 + d, f.0.1)) None) (x, rest) f.2 in
      let r = passed (nat_lt (k - 1 + d) (2 ^ 32)) (Some (k - 1 + d, f.0.1)) (x, rest) p.1 in
      let q = some_pair_parts (k - 1 + d) x f.0.1 rest r.1 in
      let le : k ≤ k - 1 + d = ltb-false _ _ p.0 in
      let lt : k - 1 + d < 2 ^ 32 = ltb-true _ _ r.0 in
      let t = vint_format.takes bytes d f.0.1 fits f.1 in
      let same : d ≡ x - (k - 1) = omega (arith, q.0) in
      (record { parts = t.0.parts ∙ ap (λ (n : ℕ). vint n ++ f.0.1) same ∙ ap (λ (b : List ℕ). vint (x - (k - 1)) ++ b) q.1; rest_fits = subst AreBytes q.1 t.0.rest_fits }, (omega (arith, q.0), omega (arith, q.0)));
}

pub ascending_format : IsFormat ascending (λ xs. ((0 < length xs) × (length xs < 2 ^ 32)) × Ascend xs) ascending_at
ascending_format =
    counted_format vint (λ n. (0 < n) × (n < 2 ^ 32)) positive_at (chain difference above 0) Ascend (λ n. chain_at difference_at above n 0)
    positive_format (λ n _. chain_format difference MayCome difference_at above difference_format n 0)

-- the law of a fixed number, from those of its bytes
fixed : (size limit : ℕ) (bytes_of : ℕ → List ℕ) (number_of : List ℕ → ℕ) → ((n : ℕ) → length (bytes_of n) ≡ size)
    → ((n : ℕ) → n < limit → number_of (bytes_of n) ≡ n) → ((b : List ℕ) → length b ≡ size → AreBytes b → bytes_of (number_of b) ≡ b) → ((b : List ℕ) → length b ≡ size → AreBytes b → number_of b < limit)
    → IsFormat bytes_of (λ n. n < limit) (λ bytes. cond (nat_lt (length bytes) size) None (Some (number_of (take size bytes), drop size bytes)))
fixed size limit bytes_of number_of long again back below = record {
  again = λ n rest h.
      let enough : nat_lt (length (bytes_of n ++ rest)) size ≡ false = le-ltb (length (bytes_of n ++ rest)) size (omega (arith, length-append (bytes_of n) rest, long n)) in
      let front : take size (bytes_of n ++ rest) ≡ bytes_of n = take_at (bytes_of n) rest size (long n) in
      let after : drop size (bytes_of n ++ rest) ≡ rest = drop_at (bytes_of n) rest size (long n) in
      rw (enough, front, after, again n h) refl;
  takes = λ bytes n rest fits e.
      let s = not_stopped (nat_lt (length bytes) size) (Some (number_of (take size bytes), drop size bytes)) (n, rest) e in
      let q = some_pair_parts (number_of (take size bytes)) n (drop size bytes) rest s.1 in
      let le : size ≤ length bytes = ltb-false _ _ s.0 in
      let len : length (take size bytes) ≡ size = omega (arith, length-take size bytes) in
      let fit = AreBytes-take size bytes fits in (
        record {
          parts = sym (take-append-drop size bytes) ∙ ap (λ (x : List ℕ). x ++ drop size bytes) (sym (back (take size bytes) len fit)) ∙ ap (λ (k : ℕ). bytes_of k ++ drop size bytes) q.0 ∙ ap (λ (x : List ℕ). bytes_of n ++ x) q.1;
          rest_fits = subst AreBytes q.1 (AreBytes-drop size bytes fits);
        },
        subst (λ (k : ℕ). k < limit) q.0 (below (take size bytes) len fit),
      );
}

u32_below : (b : List ℕ) → length b ≡ 4 → AreBytes b → from_be_bytes w32 b < 2 ^ 32
u32_below b len fits = omega (arith, fits 0, fits 1, fits 2, fits 3)

u64_below : (b : List ℕ) → length b ≡ 8 → AreBytes b → from_be_bytes w64 b < 2 ^ 64
u64_below b len fits = omega (arith, fits 0, fits 1, fits 2, fits 3, fits 4, fits 5, fits 6, fits 7)

pub u32_format : IsFormat u32_bytes (λ n. n < 2 ^ 32) u32_at
unfolding u32_at
u32_format = fixed 4 (2 ^ 32) u32_bytes (from_be_bytes w32) (λ n. refl) from_be_bytes-to_be_bytes_4 (λ b len fits. be_bytes_4 b (from_be_bytes w32 b) len fits refl) u32_below

pub u64_format : IsFormat u64_bytes (λ n. n < 2 ^ 64) u64_at
unfolding u64_at
u64_format = fixed 8 (2 ^ 64) u64_bytes (from_be_bytes w64) (λ n. refl) from_be_bytes-to_be_bytes_8 (λ b len fits. be_bytes_8 b (from_be_bytes w64 b) len fits refl) u64_below

-- ---- numbers one after the other

abbrev pub Small : ℕ → Type 0
Small n = n < 2 ^ 32

abbrev pub Large : ℕ → Type 0
Large n = n < 2 ^ 64

pub two_small : IsFormat (λ (p : ℕ × ℕ). u32_bytes p.0 ++ u32_bytes p.1) (λ p. Small p.0 × Small p.1) (then_at u32_at (λ _. u32_at))
two_small = then_format u32_bytes Small u32_at (λ _. u32_bytes) (λ _. Small) (λ _. u32_at) u32_format (λ _ _. u32_format)

pub large_then_two : IsFormat (λ (p : ℕ × (ℕ × ℕ)). u64_bytes p.0 ++ (u32_bytes p.1.0 ++ u32_bytes p.1.1)) (λ p. Large p.0 × (Small p.1.0 × Small p.1.1)) (then_at u64_at (λ _. then_at u32_at (λ _. u32_at)))
large_then_two =
    then_format u64_bytes Large u64_at (λ _ p. u32_bytes p.0 ++ u32_bytes p.1) (λ _ p. Small p.0 × Small p.1) (λ _. then_at u32_at (λ _. u32_at)) u64_format (λ _ _. two_small)

pub two_large_then_two : IsFormat (λ (p : ℕ × (ℕ × (ℕ × ℕ))). u64_bytes p.0 ++ (u64_bytes p.1.0 ++ (u32_bytes p.1.1.0 ++ u32_bytes p.1.1.1))) (λ p. Large p.0 × (Large p.1.0 × (Small p.1.1.0 × Small p.1.1.1)))
    (then_at u64_at (λ _. then_at u64_at (λ _. then_at u32_at (λ _. u32_at))))
two_large_then_two =
    then_format u64_bytes Large u64_at (λ _ p. u64_bytes p.0 ++ (u32_bytes p.1.0 ++ u32_bytes p.1.1)) (λ _ p. Large p.0 × (Small p.1.0 × Small p.1.1))
    (λ _. then_at u64_at (λ _. then_at u32_at (λ _. u32_at))) u64_format (λ _ _. large_then_two)
