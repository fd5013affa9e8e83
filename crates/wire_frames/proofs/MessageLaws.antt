-- What the body of a message spells is read from it, and nothing else.
use Rattle.std.proofs.Common.{◌≡◌, ℕ, zero, suc, ◌+◌, ◌*◌, ◌/◌, ◌%◌, ◌^◌, ◌<◌, ◌≤◌, ◌⊎◌, Bool, true, false, cond, List, [], ◌∷◌, ◌++◌, length, take, drop, Option, Some, None, refl, sym, ap, subst, ◌∙◌, append_assoc, arith, inl, inr}
use Rattle.std.specs.Prelude.{◌==◌, ◌&&◌, nat_lt, nat_le, IsTrue}
use Rattle.std.proofs.lemmas.Bool.{and_parts, and_from, eqb-true, leb-true, ltb-true, ltb-false, lt-ltb, le-leb, le-ltb}
use Rattle.std.proofs.lemmas.Option.{same_Some, some_pair_parts}
use Rattle.std.proofs.lemmas.List.{append-nil, length-append, length-take, take-take, take_at, drop_at, take-append-drop}
use Rattle.std.specs.List.{list_all}
use Rattle.nrt_base.specs.Bytes.{is_between, is_header}
use Rattle.file_names.specs.Names.{is_name_byte, is_file_name}
use Rattle.codec_frame.specs.Bytes.{AreBytes}
use Rattle.body_forms.specs.Format.{Read, ◌>>=◌, Takes, IsFormat, then_at}
use Rattle.body_forms.specs.VInts.{vint, vint_within}
use Rattle.body_forms.specs.Numbers.{u32_bytes, u32_at, u64_bytes, u64_at, string, string_at}
use Rattle.body_forms.proofs.Formats.{AreBytes-drop, chosen, passed, not_stopped, read_is, then_format, tested_format}
use Rattle.body_forms.proofs.Numerals.{string_format}
use Rattle.body_forms.proofs.NumberLaws.{u64_format, Small, Large, two_large_then_two}
use Rattle.wire_frames.specs.declared.message.Message.{Message}
use Rattle.wire_frames.specs.declared.message.Message.TheVariants.{Notice, State, File, Completed, Chunk}
use Rattle.wire_frames.specs.Wire.{message_kind, meta_bytes, message_body, frame_of, wire_of, HasParts, IsFramable, longest_chunk}
use Rattle.wire_frames.specs.Reading.{tested_string_at, name_at, header_at, footer_at, notice_at, state_at, file_at, chunk_at, all_read, state_read, chunk_read, notice_from, file_from, message_in}

-- a vInt has five bytes at most
short_by : (more n : ℕ) (b : Bool) → length (vint_within more (n / 128)) ≤ suc more → length (cond b (n ∷ []) ((128 + n % 128) ∷ vint_within more (n / 128))) ≤ suc (suc more)
short_by more n true h = omega arith
short_by more n false h = omega arith

within_short : (more n : ℕ) → length (vint_within more n) ≤ suc more
unfolding vint_within
within_short zero n = omega arith
within_short (suc more) n = short_by more n (nat_lt n 128) (within_short more (n / 128))

-- what was put at the end, one after the other
pub two_put : (o a b o1 o2 : List ℕ) → o1 ≡ o ++ a → o2 ≡ o1 ++ b → o2 ≡ o ++ (a ++ b)
two_put o a b o1 o2 p q = q ∙ ap (λ (x : List ℕ). x ++ b) p ∙ append_assoc o a b

pub four_put : (o a b c d o1 o2 o3 o4 : List ℕ) → o1 ≡ o ++ a → o2 ≡ o1 ++ b → o3 ≡ o2 ++ c → o4 ≡ o3 ++ d → o4 ≡ o ++ (a ++ (b ++ (c ++ d)))
four_put o a b c d o1 o2 o3 o4 p q r s =
    s ∙ ap (λ (x : List ℕ). x ++ d) (r ∙ ap (λ (x : List ℕ). x ++ c) (q ∙ ap (λ (x : List ℕ). x ++ b) p)) ∙ simp append_assoc

pub five_put : (o a b c d e o1 o2 o3 o4 o5 : List ℕ) → o1 ≡ o ++ a → o2 ≡ o1 ++ b → o3 ≡ o2 ++ c → o4 ≡ o3 ++ d → o5 ≡ o4 ++ e → o5 ≡ o ++ (a ++ (b ++ (c ++ (d ++ e))))
five_put o a b c d e o1 o2 o3 o4 o5 p q r s t = t ∙ ap (λ (x : List ℕ). x ++ e) (four_put o a b c d o1 o2 o3 o4 p q r s) ∙ simp append_assoc

-- the head of a chunk's frame as it was put, and the bytes behind it, are the frame
pub chunk_put : (name text bytes : List ℕ) (at size : ℕ) (o o1 o2 o3 o4 : List ℕ) → o ≡ [] → text ≡ name → size ≡ length (string text) + 8 + length bytes
    → o1 ≡ o ++ u32_bytes (1 + size) → o2 ≡ o1 ++ 5 ∷ [] → o3 ≡ o2 ++ string text → o4 ≡ o3 ++ u64_bytes at → o4 ++ bytes ≡ wire_of (Chunk name at bytes)
unfolding frame_of message_body
chunk_put name text bytes at size o o1 o2 o3 o4 none same is p q r s =
    let all : o4 ≡ u32_bytes (1 + size) ++ 5 ∷ (string text ++ u64_bytes at) =
    four_put [] (u32_bytes (1 + size)) (5 ∷ []) (string text) (u64_bytes at) o1 o2 o3 o4 (p ∙ ap (λ (x : List ℕ). x ++ u32_bytes (1 + size)) none) q r s in
    let a = length-append (string text ++ u64_bytes at) bytes in
    let b = length-append (string text) (u64_bytes at) in
    let n : length (u64_bytes at) ≡ 8 = refl in
    let long : size ≡ length ((string text ++ u64_bytes at) ++ bytes) = omega (arith, is, a, b, n) in
    ap (λ (x : List ℕ). x ++ bytes) all
    ∙ append_assoc (u32_bytes (1 + size)) (5 ∷ (string text ++ u64_bytes at)) bytes
    ∙ ap (λ (k : ℕ). u32_bytes (1 + k) ++ 5 ∷ ((string text ++ u64_bytes at) ++ bytes)) long
    ∙ ap (λ (t : List ℕ). u32_bytes (1 + length ((string t ++ u64_bytes at) ++ bytes)) ++ 5 ∷ ((string t ++ u64_bytes at) ++ bytes)) same

pub chunk_fits : (name text bytes : List ℕ) (at : ℕ) → text ≡ name → IsTrue (is_file_name name) → at < 2 ^ 64 → 0 < length bytes → length bytes ≤ longest_chunk → length (string text) ≤ 413 → IsFramable (Chunk name at bytes)
unfolding message_body
chunk_fits name text bytes at same named place some most short =
    let a = length-append (string name ++ u64_bytes at) bytes in
    let b = length-append (string name) (u64_bytes at) in
    let n : length (u64_bytes at) ≡ 8 = refl in
    let like = ap (λ (t : List ℕ). length (string t)) same in
    record { parts = ((named, place), (some, most)); short = omega (arith, most, short, a, b, n, like) }

-- what was put at the end leaves the front
pub take_front : (a b c : List ℕ) → take (length a) b ≡ a → take (length b) c ≡ b → take (length a) c ≡ a
take_front a b c p q =
    let len : length a ≤ length b = let l = ap length p in omega (arith, l, length-take (length a) b) in
    sym (take-take (length a) (length b) c len) ∙ ap (take (length a)) q ∙ p

pub vint_short : (n : ℕ) → length (vint n) ≤ 5
vint_short n = within_short 4 n

-- ---- the fields

abbrev IsName : List ℕ → Type 0
IsName t = IsTrue (is_file_name t) × Small (length t)

abbrev IsHeader : List ℕ → Type 0
IsHeader t = IsTrue (is_header t) × Small (length t)

abbrev IsFooter : List ℕ → Type 0
IsFooter t = length t ≡ 16

name_small : (t : List ℕ) → IsTrue (is_file_name t) → IsName t
name_small t h =
    let p : (is_between 1 64 (length t) ≡ true) × (list_all is_name_byte t ≡ true) = and_parts (is_between 1 64 (length t)) (list_all is_name_byte t) h in
    let q : (nat_le 1 (length t) ≡ true) × (nat_le (length t) 64 ≡ true) = and_parts (nat_le 1 (length t)) (nat_le (length t) 64) p.0 in
    let most : length t ≤ 64 = leb-true (length t) 64 q.1 in
    (h, omega (arith, most))

header_small : (t : List ℕ) → IsTrue (is_header t) → IsHeader t
header_small t h = let most : length t ≤ 408 = leb-true (length t) 408 h in (h, omega (arith, most))

name_format : IsFormat string IsName name_at
unfolding name_at
name_format = tested_format string (λ t. Small (length t)) string_at is_file_name (λ t. IsTrue (is_file_name t)) string_format (λ t h. h) (λ t h. h)

header_format : IsFormat string IsHeader header_at
unfolding header_at
header_format = tested_format string (λ t. Small (length t)) string_at is_header (λ t. IsTrue (is_header t)) string_format (λ t h. h) (λ t h. h)

footer_format : IsFormat (λ t. t) IsFooter footer_at
unfolding footer_at
footer_format = record {
  again = λ t rest h.
      let enough : nat_lt (length (t ++ rest)) 16 ≡ false = le-ltb (length (t ++ rest)) 16 (omega (arith, length-append t rest, h)) in
      rw (enough, take_at t rest 16 h, drop_at t rest 16 h) refl;
  takes = λ bytes t rest fits e.
      let s = not_stopped (nat_lt (length bytes) 16) (Some (take 16 bytes, drop 16 bytes)) (t, rest) e in
      let q = read_is (take 16 bytes) t (drop 16 bytes) rest s.1 in
      let le : 16 ≤ length bytes = ltb-false _ _ s.0 in
      let len : length (take 16 bytes) ≡ 16 = omega (arith, length-take 16 bytes) in (
        record {
          parts = sym (take-append-drop 16 bytes) ∙ ap (λ (x : List ℕ). x ++ drop 16 bytes) q.0 ∙ ap (λ (x : List ℕ). t ++ x) q.1;
          rest_fits = subst AreBytes q.1 (AreBytes-drop 16 bytes fits);
        },
        ap length (sym q.0) ∙ len,
      );
}

-- ---- the fields of each kind

two_numbers : IsFormat (λ (p : ℕ × ℕ). u64_bytes p.0 ++ u64_bytes p.1) (λ p. Large p.0 × Large p.1) (then_at u64_at (λ _. u64_at))
two_numbers = then_format u64_bytes Large u64_at (λ _. u64_bytes) (λ _. Large) (λ _. u64_at) u64_format (λ _ _. u64_format)

notice_format : IsFormat (λ (p : ℕ × ℕ). u64_bytes p.0 ++ u64_bytes p.1) (λ p. Large p.0 × Large p.1) notice_at
unfolding notice_at
notice_format = two_numbers

abbrev Five : Type 0
Five = ℕ × (ℕ × (ℕ × (ℕ × ℕ)))

abbrev five_bytes : Five → List ℕ
five_bytes p = u64_bytes p.0 ++ (u64_bytes p.1.0 ++ (u64_bytes p.1.1.0 ++ (u32_bytes p.1.1.1.0 ++ u32_bytes p.1.1.1.1)))

abbrev FiveFit : Five → Type 0
FiveFit p = Large p.0 × (Large p.1.0 × (Large p.1.1.0 × (Small p.1.1.1.0 × Small p.1.1.1.1)))

state_format : IsFormat five_bytes FiveFit state_at
unfolding state_at
state_format =
    then_format u64_bytes Large u64_at (λ _ p. u64_bytes p.0 ++ (u64_bytes p.1.0 ++ (u32_bytes p.1.1.0 ++ u32_bytes p.1.1.1))) (λ _ p. Large p.0 × (Large p.1.0 × (Small p.1.1.0 × Small p.1.1.1)))
    (λ _. then_at u64_at (λ _. then_at u64_at (λ _. then_at u32_at (λ _. u32_at)))) u64_format (λ _ _. two_large_then_two)

abbrev Fields : Type 0
Fields = List ℕ × (List ℕ × (List ℕ × (ℕ × ℕ)))

abbrev fields_bytes : Fields → List ℕ
fields_bytes p = string p.0 ++ (string p.1.0 ++ (p.1.1.0 ++ (u64_bytes p.1.1.1.0 ++ u64_bytes p.1.1.1.1)))

abbrev FieldsFit : Fields → Type 0
FieldsFit p = IsName p.0 × (IsHeader p.1.0 × (IsFooter p.1.1.0 × (Large p.1.1.1.0 × Large p.1.1.1.1)))

footer_behind : IsFormat (λ (p : List ℕ × (ℕ × ℕ)). p.0 ++ (u64_bytes p.1.0 ++ u64_bytes p.1.1)) (λ p. IsFooter p.0 × (Large p.1.0 × Large p.1.1)) (then_at footer_at (λ _. then_at u64_at (λ _. u64_at)))
footer_behind =
    then_format (λ t. t) IsFooter footer_at (λ _ p. u64_bytes p.0 ++ u64_bytes p.1) (λ _ p. Large p.0 × Large p.1) (λ _. then_at u64_at (λ _. u64_at)) footer_format (λ _ _. two_numbers)

meta_behind : IsFormat (λ (p : List ℕ × (List ℕ × (ℕ × ℕ))). string p.0 ++ (p.1.0 ++ (u64_bytes p.1.1.0 ++ u64_bytes p.1.1.1))) (λ p. IsHeader p.0 × (IsFooter p.1.0 × (Large p.1.1.0 × Large p.1.1.1)))
    (then_at header_at (λ _. then_at footer_at (λ _. then_at u64_at (λ _. u64_at))))
meta_behind =
    then_format string IsHeader header_at (λ _ p. p.0 ++ (u64_bytes p.1.0 ++ u64_bytes p.1.1)) (λ _ p. IsFooter p.0 × (Large p.1.0 × Large p.1.1))
    (λ _. then_at footer_at (λ _. then_at u64_at (λ _. u64_at))) header_format (λ _ _. footer_behind)

file_format : IsFormat fields_bytes FieldsFit file_at
unfolding file_at
file_format =
    then_format string IsName name_at (λ _ p. string p.0 ++ (p.1.0 ++ (u64_bytes p.1.1.0 ++ u64_bytes p.1.1.1))) (λ _ p. IsHeader p.0 × (IsFooter p.1.0 × (Large p.1.1.0 × Large p.1.1.1)))
    (λ _. then_at header_at (λ _. then_at footer_at (λ _. then_at u64_at (λ _. u64_at)))) name_format (λ _ _. meta_behind)

abbrev place_bytes : List ℕ × ℕ → List ℕ
place_bytes p = string p.0 ++ u64_bytes p.1

chunk_format : IsFormat place_bytes (λ p. IsName p.0 × Large p.1) chunk_at
unfolding chunk_at
chunk_format = then_format string IsName name_at (λ _. u64_bytes) (λ _. Large) (λ _. u64_at) name_format (λ _ _. u64_format)

-- ---- whole bodies

-- what was read, where nothing is left
pub record IsAllRead {X : Type 0} (make : X → Message) (r : Read X) (m : Message) : Type 0 where
  pub x : X
  pub whole : r ≡ Some (x, [])
  pub made : make x ≡ m

all_read_of : {X : Type 0} (make : X → Message) (r : Read X) (m : Message) → all_read make r ≡ Some m → IsAllRead make r m
all_read_of make None m e = absurd cc
all_read_of make (Some (x, [])) m e = record { x = x; whole = refl; made = same_Some (make x) m e }
all_read_of make (Some (x, b ∷ rest)) m e = absurd cc

module _ {X : Type 0} (s : X → List ℕ) (F : X → Type 0) (read : List ℕ → Read X) (format : IsFormat s F read) (make : X → Message) where
  all_again : (x : X) → F x → all_read make (read (s x)) ≡ Some (make x)
  all_again x fits = ap (λ (b : List ℕ). all_read make (read b)) (sym (append-nil (s x))) ∙ ap (all_read make) (format.again x [] fits)

  -- what was read is all that is there
  pub record IsAllOf (body : List ℕ) (m : Message) : Type 0 where
    pub x : X
    pub made : make x ≡ m
    pub whole : s x ≡ body
    pub fits : F x

  all_takes : (body : List ℕ) (m : Message) → AreBytes body → all_read make (read body) ≡ Some m → IsAllOf body m
  all_takes body m bytes e =
      let r = all_read_of make (read body) m e in
      let t = format.takes body r.x [] bytes r.whole in
      record { x = r.x; made = r.made; whole = sym (t.0.parts ∙ append-nil (s r.x)); fits = t.1 }

-- a message of this kind with this body
pub record IsOfBody (kind : ℕ) (body : List ℕ) (m : Message) : Type 0 where
  pub kind_is : message_kind m ≡ kind
  pub body_is : message_body m ≡ body
  pub parts : HasParts m

notice_takes : (body : List ℕ) (m : Message) → AreBytes body → all_read notice_from (notice_at body) ≡ Some m → IsOfBody 1 body m
unfolding message_body
notice_takes body m bytes e =
    let t = all_takes (λ (p : ℕ × ℕ). u64_bytes p.0 ++ u64_bytes p.1) (λ p. Large p.0 × Large p.1) notice_at notice_format notice_from body m bytes e in
    subst (IsOfBody 1 body) t.made (record { kind_is = refl; body_is = t.whole; parts = t.fits })

state_takes : (body : List ℕ) (m : Message) → AreBytes body → state_read (state_at body) ≡ Some m → IsOfBody 2 body m
unfolding message_body
state_takes body m bytes e = by (state_at body) refl e
  where
    by : (r : Read Five) → state_at body ≡ r → state_read r ≡ Some m → IsOfBody 2 body m
    by None f g = absurd cc
    by (Some (x, infos)) f g =
        let t = state_format.takes body x infos bytes f in
        subst (IsOfBody 2 body) (same_Some _ m g) (record { kind_is = refl; body_is = sym t.0.parts; parts = t.1 })

file_takes : (body : List ℕ) (m : Message) → AreBytes body → all_read file_from (file_at body) ≡ Some m → IsOfBody 3 body m
unfolding message_body
file_takes body m bytes e =
    let t = all_takes fields_bytes FieldsFit file_at file_format file_from body m bytes e in
    subst (IsOfBody 3 body) t.made (record { kind_is = refl; body_is = t.whole; parts = (t.fits.0.0, (t.fits.1.0.0, t.fits.1.1)) })

completed_takes : (body : List ℕ) (m : Message) → AreBytes body → all_read Completed (name_at body) ≡ Some m → IsOfBody 4 body m
unfolding message_body
completed_takes body m bytes e =
    let t = all_takes string IsName name_at name_format Completed body m bytes e in
    subst (IsOfBody 4 body) t.made (record { kind_is = refl; body_is = t.whole; parts = t.fits.0 })

chunk_takes : (body : List ℕ) (m : Message) → AreBytes body → chunk_read (chunk_at body) ≡ Some m → IsOfBody 5 body m
unfolding message_body
chunk_takes body m bytes e = by (chunk_at body) refl e
  where
    by : (r : Read (List ℕ × ℕ)) → chunk_at body ≡ r → chunk_read r ≡ Some m → IsOfBody 5 body m
    by None f g = absurd cc
    by (Some (x, rest)) f g =
        let t = chunk_format.takes body x rest bytes f in
        let p = passed (nat_lt 0 (length rest) && nat_le (length rest) longest_chunk) (Some (Chunk x.0 x.1 rest)) m g in
        let q = and_parts (nat_lt 0 (length rest)) (nat_le (length rest) longest_chunk) p.0 in
        let some : 0 < length rest = ltb-true 0 (length rest) q.0 in
        let most : length rest ≤ longest_chunk = leb-true (length rest) longest_chunk q.1 in
        subst (IsOfBody 5 body) (same_Some (Chunk x.0 x.1 rest) m p.1) (record { kind_is = refl; body_is = sym t.0.parts; parts = ((t.1.0.0, t.1.1), (some, most)) })

-- a message that is read from a body is of that body
pub message_takes : (kind : ℕ) (body : List ℕ) (m : Message) → AreBytes body → message_in kind body ≡ Some m → IsOfBody kind body m
unfolding message_in
message_takes kind body m bytes e =
    elim (chosen (kind == 1) (all_read notice_from (notice_at body)) _ m e) [
      | inl one ↦ subst (λ (k : ℕ). IsOfBody k body m) (sym (eqb-true kind 1 one.0)) (notice_takes body m bytes one.1)
      | inr a ↦ elim (chosen (kind == 2) (state_read (state_at body)) _ m a.1) [
        | inl two ↦ subst (λ (k : ℕ). IsOfBody k body m) (sym (eqb-true kind 2 two.0)) (state_takes body m bytes two.1)
        | inr b ↦ elim (chosen (kind == 3) (all_read file_from (file_at body)) _ m b.1) [
          | inl three ↦ subst (λ (k : ℕ). IsOfBody k body m) (sym (eqb-true kind 3 three.0)) (file_takes body m bytes three.1)
          | inr c ↦ elim (chosen (kind == 4) (all_read Completed (name_at body)) _ m c.1) [
            | inl four ↦ subst (λ (k : ℕ). IsOfBody k body m) (sym (eqb-true kind 4 four.0)) (completed_takes body m bytes four.1)
            | inr d ↦
                let p = passed (kind == 5) (chunk_read (chunk_at body)) m d.1 in
                subst (λ (k : ℕ). IsOfBody k body m) (sym (eqb-true kind 5 p.0)) (chunk_takes body m bytes p.1)
          ]
        ]
      ]
    ]

-- and it is read again
pub message_again : (m : Message) → HasParts m → message_in (message_kind m) (message_body m) ≡ Some m
unfolding message_in message_body
message_again (Notice generation version) h =
    all_again (λ (p : ℕ × ℕ). u64_bytes p.0 ++ u64_bytes p.1) (λ p. Large p.0 × Large p.1) notice_at notice_format notice_from (generation.0, version.0) h
message_again (State version generation primary_gen files completed infos) h =
    ap state_read (state_format.again (version.0, (generation, (primary_gen.0, (files, completed)))) infos h)
message_again (File name meta) h =
    all_again fields_bytes FieldsFit file_at file_format file_from (name, (meta.header, (meta.footer, (meta.length, meta.checksum))))
    (name_small name h.0, (header_small meta.header h.1.0, h.1.1))
message_again (Completed name) h = all_again string IsName name_at name_format Completed name (name_small name h)
message_again (Chunk name at bytes) h =
    let some : nat_lt 0 (length bytes) ≡ true = lt-ltb 0 (length bytes) h.1.0 in
    let most : nat_le (length bytes) longest_chunk ≡ true = le-leb (length bytes) longest_chunk h.1.1 in
    ap chunk_read (chunk_format.again (name, at) bytes (name_small name h.0.0, h.0.1)) ∙ rw (some, most) refl
