-- Lists in parts: the fields of a frame, apart from what they say.
use Rattle.std.proofs.Common.{◌≡◌, ◌↔◌, ℕ, Bool, eqb, suc, [], ◌+◌, ◌-◌, ◌<◌, ◌≤◌, List, ◌∷◌, ◌++◌, length, get_or, take, drop, refl, sym, ap, ◌∙◌, arith, append_assoc, append-nil, drop-cons, add-one}
use Rattle.std.specs.Prelude.{slice_range}
use Rattle.std.proofs.lemmas.List.{take_at, drop_at, drop-drop, length-append, drop_all}
use Rattle.std.proofs.lemmas.List.Folds.{drop_split}
use Rattle.std.specs.Bool.{IsTrue}
use Rattle.std.specs.Cmp.Lexicographic.{pointwise}
use Rattle.std.proofs.lemmas.Bool.Decides.{Decides-eqb}
use Rattle.std.proofs.lemmas.Slice.Eq.{slice_eq-Decides}
use Rattle.codec_frame.specs.Frame.{short_string}
use Rattle.codec_frame.specs.Checking.{short_string_at}

-- a string's length byte and its text
pub short_string_at-parts : (bytes : List ℕ) (at n : ℕ) → at + (1 + n) ≤ length bytes
    → short_string_at bytes at n ≡ get_or bytes at 0 ∷ slice_range bytes (at + 1) (at + 1 + n)
short_string_at-parts bytes at n h =
    let here : at < length bytes = omega arith in
    let count : at + (1 + n) - at ≡ suc n = omega arith in
    let rest : at + 1 + n - (at + 1) ≡ n = omega arith in
    rw (count, rest, add-one, drop-cons bytes at 0 here) refl

-- the test of a string: its length byte is right, and r is the test of its text
pub string_test : (bytes text : List ℕ) (at : ℕ) (r : Bool) → at + (1 + length text) ≤ length bytes → get_or bytes at 0 ≡ length text
    → r ≡ pointwise eqb (slice_range bytes (at + 1) (at + 1 + length text)) text → IsTrue r ↔ (short_string_at bytes at (length text) ≡ short_string text)
string_test bytes text at r h len e =
    let decides = slice_eq-Decides Decides-eqb (slice_range bytes (at + 1) (at + 1 + length text)) text r e in
    let parts = short_string_at-parts bytes at (length text) h in
    (λ yes. let same = decides.0 yes in cc, λ same. decides.1 (let both = sym parts ∙ same in cc))

-- with another length byte no string stands there
pub string_refused : (bytes text : List ℕ) (at : ℕ) → at + (1 + length text) ≤ length bytes → (get_or bytes at 0 ≡ length text → ⊥) → short_string_at bytes at (length text) ≡ short_string text → ⊥
string_refused bytes text at h other same = let both = sym (short_string_at-parts bytes at (length text) h) ∙ same in other cc

-- the part that comes next, and what is left behind it
peel : (bytes part rest : List ℕ) (i j : ℕ) → drop i bytes ≡ part ++ rest → j ≡ i + length part → (slice_range bytes i j ≡ part) × (drop j bytes ≡ rest)
peel bytes part rest i j here stop =
    let count : j - i ≡ length part = omega arith in
    let order : j ≡ i + (j - i) = omega arith in (
      ap (take (j - i)) here ∙ take_at part rest (j - i) (sym count),
      ap (λ (k : ℕ). drop k bytes) order ∙ sym (drop-drop (j - i) i bytes) ∙ ap (drop (j - i)) here ∙ drop_at part rest (j - i) (sym count),
    )

at_place : (bytes rest : List ℕ) (i j : ℕ) → i ≡ j → drop i bytes ≡ rest → drop j bytes ≡ rest
at_place bytes rest i j e h = ap (λ (k : ℕ). drop k bytes) (sym e) ∙ h

-- nine parts in order
abbrev pub in_order : (m n v i s b f a c : List ℕ) → List ℕ
in_order m n v i s b f a c = m ++ (n ++ (v ++ (i ++ (s ++ (b ++ (f ++ (a ++ c)))))))

pub in_order-left : (m n v i s b f a c : List ℕ) → (((((((m ++ n) ++ v) ++ i) ++ s) ++ b) ++ f) ++ a) ++ c ≡ in_order m n v i s b f a c
in_order-left m n v i s b f a c = simp append_assoc

-- the parts have the lengths of a frame's fields, where the name and the suffix have these
pub record FrameLengths (name suffix : ℕ) (m n v i s f a c : List ℕ) : Type 0 where
  pub magic : length m ≡ 4
  pub name_length : length n ≡ 1 + name
  pub version : length v ≡ 4
  pub id : length i ≡ 16
  pub suffix_length : length s ≡ 1 + suffix
  pub footer : length f ≡ 4
  pub algorithm : length a ≡ 4
  pub checksum : length c ≡ 8

-- they stand where a frame's fields do
pub record AreFields (name suffix : ℕ) (bytes m n v i s b f a c : List ℕ) : Type 0 where
  pub long : length bytes ≡ 26 + name + suffix + length b + 16
  pub magic : slice_range bytes 0 (0 + 4) ≡ m
  pub name_field : slice_range bytes 4 (4 + (1 + name)) ≡ n
  pub version : slice_range bytes (5 + name) (5 + name + 4) ≡ v
  pub id : slice_range bytes (9 + name) (9 + name + 16) ≡ i
  pub suffix_field : slice_range bytes (25 + name) (25 + name + (1 + suffix)) ≡ s
  pub body : slice_range bytes (26 + name + suffix) (length bytes - 16) ≡ b
  pub footer : slice_range bytes (length bytes - 16) (length bytes - 16 + 4) ≡ f
  pub algorithm : slice_range bytes (length bytes - 12) (length bytes - 12 + 4) ≡ a
  pub checksum : slice_range bytes (length bytes - 8) (length bytes - 8 + 8) ≡ c

pub fields_of : (name suffix : ℕ) (bytes m n v i s b f a c : List ℕ) → FrameLengths name suffix m n v i s f a c → bytes ≡ in_order m n v i s b f a c → AreFields name suffix bytes m n v i s b f a c
fields_of name suffix bytes m n v i s b f a c l whole =
    let long : length bytes ≡ 26 + name + suffix + length b + 16 = ap length whole ∙ simp length-append (omega arith) in
    let p1 = peel bytes m (n ++ (v ++ (i ++ (s ++ (b ++ (f ++ (a ++ c))))))) 0 (0 + 4) whole (omega arith) in
    let p2 = peel bytes n (v ++ (i ++ (s ++ (b ++ (f ++ (a ++ c)))))) 4 (4 + (1 + name)) p1.1 (omega arith) in
    let p3 = peel bytes v (i ++ (s ++ (b ++ (f ++ (a ++ c))))) (5 + name) (5 + name + 4) (at_place bytes _ (4 + (1 + name)) (5 + name) (omega arith) p2.1) (omega arith) in
    let p4 = peel bytes i (s ++ (b ++ (f ++ (a ++ c)))) (9 + name) (9 + name + 16) (at_place bytes _ (5 + name + 4) (9 + name) (omega arith) p3.1) (omega arith) in
    let p5 = peel bytes s (b ++ (f ++ (a ++ c))) (25 + name) (25 + name + (1 + suffix)) (at_place bytes _ (9 + name + 16) (25 + name) (omega arith) p4.1) (omega arith) in
    let p6 = peel bytes b (f ++ (a ++ c)) (26 + name + suffix) (length bytes - 16) (at_place bytes _ (25 + name + (1 + suffix)) (26 + name + suffix) (omega arith) p5.1) (omega arith) in
    let p7 = peel bytes f (a ++ c) (length bytes - 16) (length bytes - 16 + 4) p6.1 (omega arith) in
    let p8 = peel bytes a c (length bytes - 12) (length bytes - 12 + 4) (at_place bytes _ (length bytes - 16 + 4) (length bytes - 12) (omega arith) p7.1) (omega arith) in
    let p9 = peel bytes c [] (length bytes - 8) (length bytes - 8 + 8) (at_place bytes _ (length bytes - 12 + 4) (length bytes - 8) (omega arith) p8.1 ∙ sym (append-nil c)) (omega arith) in
    record { long = long; magic = p1.0; name_field = p2.0; version = p3.0; id = p4.0; suffix_field = p5.0; body = p6.0; footer = p7.0; algorithm = p8.0; checksum = p9.0 }

-- what stands from i on is a part and what stands from its end on
split : (bytes : List ℕ) (i j k : ℕ) (rest : List ℕ) → i ≤ j → j ≡ k → drop k bytes ≡ rest → drop i bytes ≡ slice_range bytes i j ++ rest
split bytes i j k rest le e h = drop_split bytes i j le ∙ ap (λ (more : List ℕ). slice_range bytes i j ++ more) (at_place bytes rest k j (sym e) h)

-- any bytes that are long enough are their fields in order
pub in_fields : (name suffix : ℕ) (bytes : List ℕ) → 26 + name + suffix + 16 ≤ length bytes
    → bytes ≡ in_order (slice_range bytes 0 (0 + 4)) (slice_range bytes 4 (4 + (1 + name))) (slice_range bytes (5 + name) (5 + name + 4)) (slice_range bytes (9 + name) (9 + name + 16))
    (slice_range bytes (25 + name) (25 + name + (1 + suffix))) (slice_range bytes (26 + name + suffix) (length bytes - 16))
    (slice_range bytes (length bytes - 16) (length bytes - 16 + 4)) (slice_range bytes (length bytes - 12) (length bytes - 12 + 4)) (slice_range bytes (length bytes - 8) (length bytes - 8 + 8))
in_fields name suffix bytes h =
    let n : ℕ = length bytes in
    let last : drop (n - 8) bytes ≡ slice_range bytes (n - 8) (n - 8 + 8) =
    drop_split bytes (n - 8) (n - 8 + 8) (omega arith) ∙ ap (λ (rest : List ℕ). slice_range bytes (n - 8) (n - 8 + 8) ++ rest) (drop_all (n - 8 + 8) bytes (omega arith)) ∙ append-nil _ in
    split bytes 0 (0 + 4) 4 _ (omega arith) (omega arith)
    (split bytes 4 (4 + (1 + name)) (5 + name) _ (omega arith) (omega arith)
    (split bytes (5 + name) (5 + name + 4) (9 + name) _ (omega arith) (omega arith)
    (split bytes (9 + name) (9 + name + 16) (25 + name) _ (omega arith) (omega arith)
    (split bytes (25 + name) (25 + name + (1 + suffix)) (26 + name + suffix) _ (omega arith) (omega arith)
    (split bytes (26 + name + suffix) (n - 16) (n - 16) _ (omega arith) refl
    (split bytes (n - 16) (n - 16 + 4) (n - 12) _ (omega arith) (omega arith)
    (split bytes (n - 12) (n - 12 + 4) (n - 8) _ (omega arith) (omega arith) last)))))))
