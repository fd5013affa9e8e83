-- What the front of a stream tells, and that no frame begins another.
use Rattle.std.proofs.Common.{◌≡◌, ℕ, ◌+◌, ◌^◌, ◌<◌, ◌≤◌, ◌⊎◌, Bool, true, false, cond, List, [], ◌∷◌, ◌++◌, length, take, drop, Option, Some, None, Result, Ok, Err, refl, sym, ap, subst, ◌∙◌, append_assoc, arith, inl, inr}
use Rattle.std.specs.Prelude.{◌==◌, ◌||◌, nat_lt, nat_le, not, IsTrue}
use Rattle.std.specs.Int.{w32, from_be_bytes}
use Rattle.std.proofs.lemmas.Bool.{or_cases, eqb-true, ltb-true, ltb-false, lt-ltb, eq-eqb, or_parts}
use Rattle.std.proofs.lemmas.Bool.Decides.{nat_tests}
use Rattle.std.proofs.lemmas.Option.{some_pair_parts}
use Rattle.std.proofs.lemmas.List.{length-append, length-take, take_at, drop_at, take-append-drop}
use Rattle.nrt_base.proofs.Plain.{cons_parts}
use Rattle.codec_frame.specs.Bytes.{AreBytes}
use Rattle.codec_frame.proofs.ByteLaws.{AreBytes-rest, AreBytes-take}
use Rattle.body_forms.specs.Format.{Read}
use Rattle.body_forms.specs.Numbers.{u32_bytes, u32_at}
use Rattle.body_forms.proofs.Formats.{not_stopped, once as once_read}
use Rattle.body_forms.proofs.NumberLaws.{u32_format}
use Rattle.wire_frames.specs.declared.message.Message.{Message}
use Rattle.wire_frames.specs.declared.message.WireFault.{WireFault}
use Rattle.wire_frames.specs.declared.message.WireFault.TheVariants.{Length, Kind, Body, Memory}
use Rattle.wire_frames.specs.Wire.{message_kind, message_body, frame_of, wire_of, longest_frame, HasParts, IsFramable}
use Rattle.wire_frames.specs.Streams.{told_length, IsFrameLength, IsUnfinished, IsWrongLength, HasFrame, is_message_kind, IsOfNoMessage, IsFrameFault, IsFrontFault, TakesMessage, TellsFront}
use Rattle.wire_frames.specs.Reading.{Front, message_in, front_seen, front_read, whole_front, front_by, stream_front}
use Rattle.wire_frames.proofs.MessageLaws.{IsOfBody, message_takes, message_again}

-- ---- the length of a frame

u32_parts : (bytes : List ℕ) (n : ℕ) (rest : List ℕ) → u32_at bytes ≡ Some (n, rest) → (4 ≤ length bytes) × (n ≡ told_length bytes)
unfolding u32_at told_length
u32_parts bytes n rest e =
    let s = not_stopped (nat_lt (length bytes) 4) (Some (from_be_bytes w32 (take 4 bytes), drop 4 bytes)) (n, rest) e in
    let q = some_pair_parts (from_be_bytes w32 (take 4 bytes)) n (drop 4 bytes) rest s.1 in
    (ltb-false _ _ s.0, sym q.0)

u32_none : (bytes : List ℕ) → u32_at bytes ≡ None → length bytes < 4
unfolding u32_at
u32_none bytes e = by (nat_lt (length bytes) 4) refl e
  where
    by : (b : Bool) → nat_lt (length bytes) 4 ≡ b → ◌≡◌ {A = Read ℕ} (cond b None (Some (from_be_bytes w32 (take 4 bytes), drop 4 bytes))) None → length bytes < 4
    by true t f = ltb-true (length bytes) 4 t
    by false t f = absurd cc

u32_split : (bytes : List ℕ) (n : ℕ) (rest : List ℕ) → AreBytes bytes → u32_at bytes ≡ Some (n, rest) → bytes ≡ u32_bytes n ++ rest
u32_split bytes n rest fits e = (u32_format.takes bytes n rest fits e).0.parts

length_u32 : (n : ℕ) → length (u32_bytes n) ≡ 4
length_u32 n = refl

-- a frame in three parts, with what follows it
pub frame_parts : (kind : ℕ) (body after : List ℕ) → frame_of kind body ++ after ≡ u32_bytes (1 + length body) ++ (kind ∷ (body ++ after))
unfolding frame_of
frame_parts kind body after = append_assoc (u32_bytes (1 + length body)) (kind ∷ body) after

pub length_frame : (kind : ℕ) (body after : List ℕ) → length (frame_of kind body ++ after) ≡ 5 + (length body + length after)
length_frame kind body after =
    ap length (frame_parts kind body after)
    ∙ length-append (u32_bytes (1 + length body)) (kind ∷ (body ++ after))
    ∙ (let h = length-append body after in let k = length_u32 (1 + length body) in omega (arith, h, k))

told_frame : (kind : ℕ) (body after : List ℕ) → length body < longest_frame → told_length (frame_of kind body ++ after) ≡ 1 + length body
told_frame kind body after h =
    let again = u32_format.again (1 + length body) (kind ∷ (body ++ after)) (omega (arith, h)) in
    let told = (u32_parts (u32_bytes (1 + length body) ++ (kind ∷ (body ++ after))) (1 + length body) (kind ∷ (body ++ after)) again).1 in
    ap told_length (frame_parts kind body after) ∙ sym told

-- a whole frame is not unfinished, and its length is right
pub frame_not_unfinished : (kind : ℕ) (body after : List ℕ) → length body < longest_frame → IsUnfinished (frame_of kind body ++ after) → ⊥
frame_not_unfinished kind body after h (inl few) = let len = length_frame kind body after in absurd (omega (arith, len, few))
frame_not_unfinished kind body after h (inr short) =
    let len = length_frame kind body after in
    let told = told_frame kind body after h in
    let less = short.1 in
    absurd (omega (arith, len, told, less))

pub frame_not_wrong : (kind : ℕ) (body after : List ℕ) (n : ℕ) → length body < longest_frame → IsWrongLength (frame_of kind body ++ after) n → ⊥
frame_not_wrong kind body after n h w =
    let told = told_frame kind body after h in
    let is = w.told in
    w.wrong (omega (arith, told, is), omega (arith, told, is, h))

-- no frame begins another
pub one_frame : (k l : ℕ) (a b x y : List ℕ) → length a < longest_frame → length b < longest_frame → frame_of k a ++ x ≡ frame_of l b ++ y → (k ≡ l) × ((a ≡ b) × (x ≡ y))
one_frame k l a b x y p q e =
    let f = sym (frame_parts k a x) ∙ e ∙ frame_parts l b y in
    let s = once_read u32_bytes (λ n. n < 2 ^ 32) u32_at u32_format (1 + length a) (1 + length b) (k ∷ (a ++ x)) (l ∷ (b ++ y)) (omega (arith, p)) (omega (arith, q)) f in
    let c = cons_parts k l (a ++ x) (b ++ y) s.1 in
    let len : length b ≡ length a = let n = s.0 in omega (arith, n) in
    let front : a ≡ b = sym (take_at a x (length a) refl) ∙ ap (take (length a)) c.1 ∙ take_at b y (length a) len in
    let back : x ≡ y = sym (drop_at a x (length a) refl) ∙ ap (drop (length a)) c.1 ∙ drop_at b y (length a) len in
    (c.0, (front, back))

-- no message begins another
pub one_message : (m n : Message) (x y : List ℕ) → IsFramable m → IsFramable n → wire_of m ++ x ≡ wire_of n ++ y → (m ≡ n) × (x ≡ y)
one_message m n x y p q e =
    let f = one_frame (message_kind m) (message_kind n) (message_body m) (message_body n) x y p.short q.short e in
    let same : message_in (message_kind m) (message_body m) ≡ message_in (message_kind n) (message_body n) =
    ap (λ (k : ℕ). message_in k (message_body m)) f.0 ∙ ap (message_in (message_kind n)) f.1.0 in
    let some : Some m ≡ Some n = sym (message_again m p.parts) ∙ same ∙ message_again n q.parts in
    (cc, f.1.1)

-- ---- what the front of a stream tells

some_of : (n : ℕ) → (n == 0) ≡ false → 1 ≤ n
some_of n h = grind (arith, nat_tests)

right_length : (n : ℕ) → (n == 0 || nat_lt longest_frame n) ≡ false → IsFrameLength n
right_length n h = let p = or_parts (n == 0) (nat_lt longest_frame n) h in (some_of n p.0, ltb-false longest_frame n p.1)

module _ (bytes : List ℕ) where
  abbrev Tells : Front → Type 0
  Tells front = TellsFront (λ (x : Message × List ℕ). x) bytes front

  by_message : (kind : ℕ) (body after : List ℕ) (r : Option Message) → message_in kind body ≡ r → AreBytes body → bytes ≡ frame_of kind body ++ after → length body < longest_frame
      → Tells (front_read kind r after)
  by_message kind body after (Some m) e fits whole short =
      let t = message_takes kind body m fits e in
      record {
        framable = record { parts = t.parts; short = subst (λ (b : List ℕ). length b < longest_frame) (sym t.body_is) short };
        parts = whole ∙ ap (λ (b : List ℕ). frame_of kind b ++ after) (sym t.body_is) ∙ ap (λ (k : ℕ). frame_of k (message_body m) ++ after) (sym t.kind_is);
      }
  by_message kind body after None e fits whole short = by (is_message_kind kind) refl
    where
      frame : HasFrame bytes kind body
      frame = record { after = after; whole = whole; short = short }

      none : IsOfNoMessage kind body
      none m framable kind_is body_is =
          let same : message_in kind body ≡ Some m = ap (λ (k : ℕ). message_in k body) (sym kind_is) ∙ ap (message_in (message_kind m)) (sym body_is) ∙ message_again m framable.parts in
          let no : Some m ≡ None = sym same ∙ e in
          cc

      by : (b : Bool) → is_message_kind kind ≡ b → Tells (cond b (Err Body) (Err (Kind kind)))
      by true h = (kind, body, frame, h, none)
      by false h = (body, frame, ap not h)

  by_frame : (n : ℕ) (frame after : List ℕ) → bytes ≡ u32_bytes n ++ (frame ++ after) → length frame ≡ n → 1 ≤ n → n ≤ longest_frame → AreBytes frame → Tells (whole_front frame after)
  by_frame n [] after whole len some most fits = absurd (omega (arith, len, some))
  by_frame n (kind ∷ body) after whole len some most fits =
      let size : n ≡ 1 + length body = omega (arith, len) in
      by_message kind body after (message_in kind body) refl (AreBytes-rest kind body fits)
      (whole ∙ ap (λ (k : ℕ). u32_bytes k ++ (kind ∷ (body ++ after))) size ∙ sym (frame_parts kind body after)) (omega (arith, size, most))

  by_length : (n : ℕ) (rest : List ℕ) → u32_at bytes ≡ Some (n, rest) → AreBytes bytes → AreBytes rest → (a : Bool) → (n == 0 || nat_lt longest_frame n) ≡ a → (b : Bool) → nat_lt (length rest) n ≡ b
      → Tells (cond a (Err (Length n)) (cond b (Ok None) (whole_front (take n rest) (drop n rest))))
  by_length n rest e fits rest_fits true wrong b short =
      let p = u32_parts bytes n rest e in
      record {
        there = p.0;
        told = p.1;
        wrong = λ h. elim (or_cases (n == 0) (nat_lt longest_frame n) wrong) [
          | inl zero_is ↦ let z = eqb-true n 0 zero_is in let some = h.0 in absurd (omega (arith, z, some))
          | inr large ↦ let l = ltb-true longest_frame n large in let most = h.1 in absurd (omega (arith, l, most))
        ];
      }
  by_length n rest e fits rest_fits false right true short =
      let p = u32_parts bytes n rest e in
      let r = right_length n right in
      let less : length rest < n = ltb-true (length rest) n short in
      let len : length bytes ≡ 4 + length rest = ap length (u32_split bytes n rest fits e) ∙ length-append (u32_bytes n) rest in
      let told = p.1 in
      let some = r.0 in
      let most = r.1 in
      inr ((omega (arith, told, some), omega (arith, told, most)), omega (arith, told, len, less))
  by_length n rest e fits rest_fits false right false enough =
      let r = right_length n right in
      let le : n ≤ length rest = ltb-false _ _ enough in
      let len : length (take n rest) ≡ n = omega (arith, length-take n rest) in
      by_frame n (take n rest) (drop n rest) (u32_split bytes n rest fits e ∙ ap (λ (x : List ℕ). u32_bytes n ++ x) (sym (take-append-drop n rest))) len r.0 r.1 (AreBytes-take n rest rest_fits)

  by_read : (r : Read ℕ) → u32_at bytes ≡ r → AreBytes bytes → Tells (front_by r)
  by_read None e fits = inl (u32_none bytes e)
  by_read (Some (n, rest)) e fits =
      let t = u32_format.takes bytes n rest fits e in
      by_length n rest e fits t.0.rest_fits (n == 0 || nat_lt longest_frame n) refl (nat_lt (length rest) n) refl

  pub front_tells : AreBytes bytes → Tells (stream_front bytes)
  unfolding stream_front
  front_tells fits = by_read (u32_at bytes) refl fits

  -- the same of what a function found
  pub tells_seen : {X : Type 0} (see : X → Message × List ℕ) (r : Result (Option X) WireFault) → AreBytes bytes → front_seen see r ≡ stream_front bytes → TellsFront see bytes r
  tells_seen see (Ok None) fits e = subst Tells (sym e) (front_tells fits)
  tells_seen see (Ok (Some x)) fits e = subst Tells (sym e) (front_tells fits)
  tells_seen see (Err fault) fits e = subst Tells (sym e) (front_tells fits)
