-- Small facts that every crate needs and std lacks: of the cells of lists, of pairs, results and tests.
-- std has those of `&&` and `||` (`and_parts`, `and_from`, `or_cases`, ..), of `<` and `≤` as tests (`ltb-true`, `leb-true`, `eqb-true`, ..)
-- and of `Some` (`same_Some`, `none-some`).
use Rattle.std.proofs.Common.{◌≡◌, ◌≤◌, ◌<◌, ◌+◌, ℕ, zero, suc, Bool, true, false, List, [], ◌∷◌, ◌++◌, length, get_or, Some, Result, Ok, Err, inl, inr, refl, sym, ap, subst, ◌∙◌, arith}
use Rattle.std.specs.Prelude.{IsTrue, nat_le, slice_index, ◌⊎◌}
use Rattle.std.specs.List.{All, Contains, list_all, slice_get}
use Rattle.std.specs.List.Sorted.{IsStrictlySortedBy}
use Rattle.std.specs.Ordering.{ordering_then}
use Rattle.std.specs.Str.{IsUtf8}
use Rattle.std.specs.declared.cmp.Ordering.{Ordering}
use Rattle.std.specs.declared.cmp.Ordering.TheVariants.{Less, Equal, Greater}
use Rattle.std.proofs.lemmas.Bool.{leb-true, and_parts}
use Rattle.std.proofs.lemmas.Bool.Decides.{nat_tests}
use Rattle.std.proofs.lemmas.List.{append_assoc}
use Rattle.std.proofs.lemmas.Str.{IsUtf8-from_ascii}
use Rattle.std.proofs.lemmas.Str.Ascii.{IsAscii-nil}
use Rattle.nrt_base.specs.Bytes.{is_between, is_key_byte, is_word_byte, is_key, is_word}

-- ---- lists

pub cons_from : {X : Type 0} (x y : X) (xs ys : List X) → x ≡ y → xs ≡ ys → x ∷ xs ≡ y ∷ ys
cons_from x y xs ys e f = cc

pub cons_parts : {X : Type 0} (x y : X) (xs ys : List X) → x ∷ xs ≡ y ∷ ys → (x ≡ y) × (xs ≡ ys)
cons_parts x y xs ys e = (cc, cc)

pub cons_first : {X : Type 0} (x y : X) (xs ys : List X) → x ∷ xs ≡ y ∷ ys → x ≡ y
cons_first x y xs ys e = cc

pub cons_rest : {X : Type 0} (x y : X) (xs ys : List X) → x ∷ xs ≡ y ∷ ys → xs ≡ ys
cons_rest x y xs ys e = cc

pub empty_never_cons : {X : Type 0} (x : X) (xs : List X) → [] ≡ x ∷ xs → ⊥
empty_never_cons x xs e = cc

pub contains_later : {X : Type 0} (x y : X) (xs : List X) → Contains xs y → Contains (x ∷ xs) y
contains_later x y xs (k, lt, e) = (suc k, omega (arith, lt), e)

-- what is in a list with one in front is that one or in the rest
pub contains_cases : {X : Type 0} (x y : X) (xs : List X) → Contains (x ∷ xs) y → (x ≡ y) ⊎ Contains xs y
contains_cases x y xs (zero, lt, e) = inl e
contains_cases x y xs (suc k, lt, e) = inr (k, omega (arith, lt), e)

-- what holds of each element holds of the one that stands there
pub All-item : {X : Type 0} (P : X → Type 0) (xs : List X) (i : ℕ) (x : X) → All P xs → i < length xs → x ≡ get_or xs i x → P x
All-item P xs i x all lt item = subst P (sym item) (all i x lt)

pub slice_get-push : {X : Type 0} (xs : List X) (y : X) → slice_get (xs ++ y ∷ []) (length xs) ≡ Some y
slice_get-push [] y = refl
slice_get-push (x ∷ xs) y = slice_get-push xs y

-- what was put at the end goes from the rest to the front
pub moved_over : {X : Type 0} (old new one rest rest_now whole : List X) → rest ≡ one ++ rest_now → old ++ rest ≡ whole → new ≡ old ++ one → new ++ rest_now ≡ whole
moved_over {X} old new one rest rest_now whole split so_far put = ap (λ (xs : List X). xs ++ rest_now) put ∙ append_assoc old one rest_now ∙ sym (ap (λ (xs : List X). old ++ xs) split) ∙ so_far

all_below : (p : ℕ → Bool) → ((b : ℕ) → p b ≡ true → b < 128) → (bytes : List ℕ) → list_all p bytes ≡ true → (i : ℕ) → slice_index bytes i < 128
all_below p low [] h i = IsAscii-nil i
all_below p low (b ∷ bytes) h zero = low b (and_parts (p b) (list_all p bytes) h).0
all_below p low (b ∷ bytes) h (suc i) = all_below p low bytes (and_parts (p b) (list_all p bytes) h).1 i

-- bytes are text where each passes a test that takes bytes of ASCII alone
pub text_from_test : (p : ℕ → Bool) → ((b : ℕ) → p b ≡ true → b < 128) → (bytes : List ℕ) → list_all p bytes ≡ true → IsUtf8 bytes
text_from_test p low bytes h = IsUtf8-from_ascii bytes (all_below p low bytes h)

pub sorted_none : {K : Type 0} (cmp : K → K → Ordering) → IsStrictlySortedBy cmp []
unfolding IsStrictlySortedBy
sorted_none cmp = tt

-- ---- bytes

is_ascii-key_byte : (b : ℕ) → is_key_byte b ≡ true → b < 128
is_ascii-key_byte b h = grind (arith, nat_tests, h)

is_ascii-word_byte : (b : ℕ) → is_word_byte b ≡ true → b < 128
is_ascii-word_byte b h = grind (arith, nat_tests, h)

pub key_is_text : (bytes : List ℕ) → is_key bytes ≡ true → IsUtf8 bytes
key_is_text bytes h = text_from_test is_key_byte is_ascii-key_byte bytes (and_parts (is_between 1 64 (length bytes)) (list_all is_key_byte bytes) h).1

pub word_is_text : (bytes : List ℕ) → is_word bytes ≡ true → IsUtf8 bytes
word_is_text bytes h = text_from_test is_word_byte is_ascii-word_byte bytes (and_parts (nat_le 1 (length bytes)) (list_all is_word_byte bytes) h).1

-- ---- pairs

pub pair_from : {X Y : Type 0} (a x : X) (b y : Y) → a ≡ x → b ≡ y → ◌≡◌ {A = X × Y} (a, b) (x, y)
pair_from a x b y e f = cc

-- ---- results

pub ok_never_err : {X E : Type 0} (x : X) (e : E) → ◌≡◌ {A = Result X E} (Ok x) (Err e) → ⊥
ok_never_err x e same = cc

pub same_ok : {X E : Type 0} (x y : X) → ◌≡◌ {A = Result X E} (Ok x) (Ok y) → x ≡ y
same_ok x y same = cc

pub same_err : {X E : Type 0} (d e : E) → ◌≡◌ {A = Result X E} (Err d) (Err e) → d ≡ e
same_err d e same = cc

-- ---- tests

pub false_never : (b : Bool) → b ≡ false → IsTrue b → ⊥
false_never b e h = cc

-- what a number between two others is at most
pub between_high : (low high n : ℕ) → is_between low high n ≡ true → n ≤ high
between_high low high n h = leb-true n high (and_parts (nat_le low n) (nat_le n high) h).1

-- a digit's byte is one from `0` to `9`
pub digit_is : (d : ℕ) → d < 10 → is_between 48 57 (48 + d) ≡ true
digit_is d h = grind (arith, nat_tests)

-- two orders, one after the other, tie where both do
pub both_equal : (a b : Ordering) → ordering_then a b ≡ Equal → (a ≡ Equal) × (b ≡ Equal)
both_equal Less b e = absurd cc
both_equal Equal b e = (refl, e)
both_equal Greater b e = absurd cc

-- what never holds is what `false` says
pub false_says : (X : Type 0) → (X → ⊥) → (IsTrue false → X) × (X → IsTrue false)
false_says X never = (λ h. absurd cc, λ x. absurd (never x))
