-- One altered byte shows.
use Rattle.std.proofs.Common.{◌≡◌, ◌≢◌, ℕ, suc, ◌^◌, ◌<◌, ◌≤◌, List, [], ◌∷◌, ◌++◌, length, refl, sym, ap, subst, ◌∙◌, arith, inl, inr, append_assoc}
use Rattle.std.specs.Int.{w64, to_be_bytes, from_be_bytes}
use Rattle.std.proofs.lemmas.Nat.{from_be_bytes-to_be_bytes_8}
use Rattle.std.proofs.lemmas.Bool.{cases_lt}
use Rattle.std.proofs.lemmas.List.{append_cancel_left, length-append}
use Rattle.codec_frame.specs.Bytes.{AreBytes, DifferInOne}
use Rattle.codec_frame.specs.Division.{crc_of}
use Rattle.codec_frame.specs.Frame.{Wanted, IsFramedAs}
use Rattle.codec_frame.proofs.Steps.{xor_back, register_tells_one_byte}
use Rattle.codec_frame.proofs.Remainder.{crc_of-register, crc_of-lt}
use Rattle.codec_frame.proofs.ByteLaws.{AreBytes-front, AreBytes-back}
use Rattle.codec_frame.proofs.FrameLaws.{framed_sealed}

-- eight bytes of CRC-32 stand after what they cover
abbrev pub IsSealed : List ℕ → Type 0
IsSealed bytes = (front : List ℕ) × (bytes ≡ front ++ to_be_bytes w64 (crc_of front))

-- at the seam of two splits of one list, the shorter front goes on
seam : (a b c d : List ℕ) → a ++ b ≡ c ++ d → length a ≤ length c → (m : List ℕ) × (c ≡ a ++ m) × (b ≡ m ++ d)
seam [] b c d e h = (c, refl, e)
seam (x ∷ a) b [] d e h = absurd (omega arith)
seam (x ∷ a) b (y ∷ c) d e h =
    let heads : x ≡ y = cc in
    let tails : a ++ b ≡ c ++ d = cc in
    let s = seam a b c d tails (omega arith) in
    (s.0, let rest = s.1 in cc, s.2)

same_crc : (a b : List ℕ) → AreBytes a → AreBytes b → to_be_bytes w64 (crc_of a) ≡ to_be_bytes w64 (crc_of b) → crc_of a ≡ crc_of b
same_crc a b fa fb e =
    let la : crc_of a < 2 ^ 64 = omega (arith, crc_of-lt a fa) in
    let lb : crc_of b < 2 ^ 64 = omega (arith, crc_of-lt b fb) in
    sym (from_be_bytes-to_be_bytes_8 (crc_of a) la) ∙ ap (from_be_bytes w64) e ∙ from_be_bytes-to_be_bytes_8 (crc_of b) lb

crc_tells_one_byte : (front back : List ℕ) (x y : ℕ) → AreBytes (front ++ x ∷ back) → AreBytes (front ++ y ∷ back) → crc_of (front ++ x ∷ back) ≡ crc_of (front ++ y ∷ back) → x ≡ y
crc_tells_one_byte front back x y fa fb e =
    let bx = AreBytes-back front (x ∷ back) fa in
    let by = AreBytes-back front (y ∷ back) fb in
    register_tells_one_byte front back x y (AreBytes-front front (x ∷ back) fa) (λ i. bx (suc i)) (bx 0) (by 0)
    (xor_back 0xffffffff _ _ (sym (crc_of-register (front ++ x ∷ back) fa) ∙ e ∙ crc_of-register (front ++ y ∷ back) fb))

same_front : (a b c d : List ℕ) → length a ≡ length c → a ++ b ≡ c ++ d → (a ≡ c) × (b ≡ d)
same_front [] b [] d len e = (refl, e)
same_front [] b (y ∷ c) d len e = absurd (omega arith)
same_front (x ∷ a) b [] d len e = absurd (omega arith)
same_front (x ∷ a) b (y ∷ c) d len e =
    let heads : x ≡ y = cc in
    let tails : a ++ b ≡ c ++ d = cc in
    let s = same_front a b c d (omega arith) tails in
    (let rest = s.0 in cc, s.1)

split_here : (front back : List ℕ) (x : ℕ) → (front ++ x ∷ []) ++ back ≡ front ++ x ∷ back
split_here front back x = append_assoc front (x ∷ []) back

-- the byte is among the covered ones
in_covered : (front back A B t u : List ℕ) (x y : ℕ) → front ++ x ∷ back ≡ A ++ t → front ++ y ∷ back ≡ B ++ u → length A ≡ length B → length front < length A
    → (m : List ℕ) × (A ≡ front ++ x ∷ m) × (B ≡ front ++ y ∷ m) × (t ≡ u)
in_covered front back A B t u x y ea eb len lt =
    let one : length (front ++ x ∷ []) ≤ length A = omega (arith, length-append front (x ∷ [])) in
    let two : length (front ++ y ∷ []) ≤ length B = omega (arith, length-append front (y ∷ [])) in
    let s = seam (front ++ x ∷ []) back A t (split_here front back x ∙ ea) one in
    let r = seam (front ++ y ∷ []) back B u (split_here front back y ∙ eb) two in
    let counts : length s.0 ≡ length r.0 =
    omega (arith, len, ap length s.1, ap length r.1, length-append (front ++ x ∷ []) s.0, length-append (front ++ y ∷ []) r.0, length-append front (x ∷ []), length-append front (y ∷ [])) in
    let same = same_front s.0 t r.0 u counts (sym s.2 ∙ r.2) in
    (s.0, s.1 ∙ split_here front s.0 x, r.1 ∙ split_here front r.0 y ∙ ap (λ (m : List ℕ). front ++ y ∷ m) (sym same.0), same.1)

-- the byte is in the seal
in_seal : (front back A B t u : List ℕ) (x y : ℕ) → front ++ x ∷ back ≡ A ++ t → front ++ y ∷ back ≡ B ++ u → length A ≡ length B → length A ≤ length front
    → (m : List ℕ) × (A ≡ B) × (t ≡ m ++ x ∷ back) × (u ≡ m ++ y ∷ back)
in_seal front back A B t u x y ea eb len le =
    let s = seam A t front (x ∷ back) (sym ea) le in
    let r = seam B u front (y ∷ back) (sym eb) (omega arith) in
    let same = same_front A s.0 B r.0 len (sym s.1 ∙ r.1) in
    (s.0, same.0, s.2, r.2 ∙ ap (λ (m : List ℕ). m ++ y ∷ back) (sym same.1))

byte_at_seam : (m back : List ℕ) (x y : ℕ) → m ++ x ∷ back ≡ m ++ y ∷ back → x ≡ y
byte_at_seam m back x y e = let tails = append_cancel_left m (x ∷ back) (y ∷ back) e in cc

shows_in_covered : (front back : List ℕ) (x y : ℕ) → AreBytes (front ++ x ∷ back) → AreBytes (front ++ y ∷ back)
    → to_be_bytes w64 (crc_of (front ++ x ∷ back)) ≡ to_be_bytes w64 (crc_of (front ++ y ∷ back)) → x ≡ y
shows_in_covered front back x y fa fb e =
    crc_tells_one_byte front back x y fa fb (same_crc (front ++ x ∷ back) (front ++ y ∷ back) fa fb e)

abbrev tail_of : List ℕ → List ℕ
tail_of covered = to_be_bytes w64 (crc_of covered)

not_both : (front back A B : List ℕ) (x y : ℕ) → AreBytes A → AreBytes B → front ++ x ∷ back ≡ A ++ tail_of A → front ++ y ∷ back ≡ B ++ tail_of B → x ≡ y
not_both front back A B x y fa fb ea eb =
    let len : length A ≡ length B = omega (arith, ap length ea, ap length eb, length-append front (x ∷ back), length-append front (y ∷ back), length-append A (tail_of A), length-append B (tail_of B)) in
    elim (cases_lt (length front) (length A)) [
      | inl lt ↦
          let s = in_covered front back A B (tail_of A) (tail_of B) x y ea eb len lt in
          shows_in_covered front s.0 x y (subst AreBytes s.1 fa) (subst AreBytes s.2 fb) (ap tail_of (sym s.1) ∙ s.3 ∙ ap tail_of s.2)
      | inr le ↦
          let s = in_seal front back A B (tail_of A) (tail_of B) x y ea eb len le in
          byte_at_seam s.0 back x y (sym s.2 ∙ ap tail_of s.1 ∙ s.3)
    ]

pub one_byte_shows : (a b : List ℕ) → AreBytes a → AreBytes b → IsSealed a → IsSealed b → DifferInOne a b → ⊥
one_byte_shows a b fa fb sa sb d =
    d.6 (not_both d.0 d.1 sa.0 sb.0 d.2 d.3 (AreBytes-front sa.0 (tail_of sa.0) (subst AreBytes sa.1 fa)) (AreBytes-front sb.0 (tail_of sb.0) (subst AreBytes sb.1 fb)) (sym d.4 ∙ sa.1) (sym d.5 ∙ sb.1))

-- altered bytes have another CRC-32
pub other_crc : (a b : List ℕ) → AreBytes a → AreBytes b → DifferInOne a b → crc_of a ≢ crc_of b
other_crc a b fa fb d e =
    d.6 (crc_tells_one_byte d.0 d.1 d.2 d.3 (subst AreBytes d.4 fa) (subst AreBytes d.5 fb) (ap crc_of (sym d.4) ∙ e ∙ ap crc_of d.5))

-- they are not framed both
pub not_both_framed : (a b : List ℕ) → AreBytes a → AreBytes b → DifferInOne a b → (want other : Wanted) → IsFramedAs want a → IsFramedAs other b → ⊥
not_both_framed a b fa fb d want other framed again =
    one_byte_shows a b fa fb (framed_sealed want _ _ _ a framed.1.framed) (framed_sealed other _ _ _ b again.1.framed) d
