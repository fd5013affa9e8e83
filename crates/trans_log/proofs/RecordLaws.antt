-- What the body of a record spells is read from it, and nothing else.
use Rattle.std.proofs.Common.{◌≡◌, ℕ, ◌<◌, ◌^◌, Bool, true, cond, List, [], ◌∷◌, ◌++◌, length, Some, None, refl, sym, ap, subst, ◌∙◌, arith, inl, inr}
use Rattle.std.specs.Prelude.{◌==◌}
use Rattle.std.proofs.lemmas.Bool.{and_parts, and_from, eqb-true, leb-true}
use Rattle.std.proofs.lemmas.Option.{same_Some}
use Rattle.std.proofs.lemmas.List.{append-nil}
use Rattle.nrt_base.specs.Bytes.{is_key, is_text, is_word}
use Rattle.codec_frame.specs.Bytes.{AreBytes}
use Rattle.codec_frame.proofs.ByteLaws.{AreBytes-rest}
use Rattle.body_forms.specs.Format.{Read, ◌>>=◌, Takes, IsFormat, then_at}
use Rattle.body_forms.specs.Numbers.{u32_bytes, u32_at, u64_bytes, u64_at, string, string_at}
use Rattle.body_forms.specs.File.{IsOneToOne}
use Rattle.body_forms.proofs.Formats.{bind_some, passed, chosen, read_is, then_format}
use Rattle.body_forms.proofs.Numerals.{string_format}
use Rattle.body_forms.proofs.NumberLaws.{u32_format, u64_format}
use Rattle.documents.specs.declared.operation.Op.{Op}
use Rattle.documents.specs.declared.operation.Op.TheVariants.{Put, Delete, Drop}
use Rattle.trans_log.specs.declared.record.LogOp.{LogOp}
use Rattle.trans_log.specs.Records.{op_bytes, OpFits, record_body, SpellsRecord}
use Rattle.trans_log.specs.Reading.{op_made_at, put_of, is_put_pair, op_of_kind, op_at, Three, three_at, whole_read, record_of_three}

abbrev Small : List ℕ → Type 0
Small text = length text < 2 ^ 32

-- ---- an operation made of what is read

module _ {X : Type 0} (s : X → List ℕ) (F : X → Type 0) (read : List ℕ → Read X) (format : IsFormat s F read) (test : X → Bool) (make : X → Op) where
  made_again : (x : X) (rest : List ℕ) → F x → test x ≡ true → op_made_at read test make (s x ++ rest) ≡ Some (make x, rest)
  made_again x rest fits t = ap (λ (z : Read X). z >>= λ y. cond (test y.0) (Some (make y.0, y.1)) None) (format.again x rest fits) ∙ rw t refl

  -- what was read is there
  record Made (bytes : List ℕ) (op : Op) (rest : List ℕ) : Type 0 where
    pub x : X
    pub made : make x ≡ op
    pub passes : test x ≡ true
    pub takes : Takes bytes (s x) rest
    pub fits : F x

  made_takes : (bytes : List ℕ) (op : Op) (rest : List ℕ) → AreBytes bytes → op_made_at read test make bytes ≡ Some (op, rest) → Made bytes op rest
  made_takes bytes op rest bytes_fit e =
      let f = bind_some (read bytes) (λ y. cond (test y.0) (Some (make y.0, y.1)) None) (op, rest) e in
      let p = passed (test f.0.0) (Some (make f.0.0, f.0.1)) (op, rest) f.2 in
      let q = read_is (make f.0.0) op f.0.1 rest p.1 in
      let t = format.takes bytes f.0.0 f.0.1 bytes_fit f.1 in
      record { x = f.0.0; made = q.0; passes = p.0; takes = subst (λ (r : List ℕ). Takes bytes (s f.0.0) r) q.1 t.0; fits = t.1 }

-- the three kinds
two_strings : IsFormat (λ p. string p.0 ++ string p.1) (λ p. Small p.0 × Small p.1) (then_at string_at (λ _. string_at))
two_strings = then_format string Small string_at (λ _. string) (λ _. Small) (λ _. string_at) string_format (λ x h. string_format)

key_small : (key : List ℕ) → is_key key ≡ true → Small key
key_small key h = let p = and_parts _ _ h in let q = and_parts _ _ p.0 in omega (arith, leb-true (length key) 64 q.1)

text_small : (text : List ℕ) → is_text text ≡ true → Small text
text_small text h = let p = and_parts _ _ h in omega (arith, leb-true (length text) 4096 p.0)

op_again : (op : Op) (rest : List ℕ) → OpFits op → op_at (op_bytes op ++ rest) ≡ Some (op, rest)
unfolding op_at
op_again (Put doc) rest h =
    made_again (λ p. string p.0 ++ string p.1) (λ p. Small p.0 × Small p.1) (then_at string_at (λ _. string_at)) two_strings is_put_pair put_of (doc.key, doc.text) rest
    (key_small doc.key h.0, text_small doc.text h.1) (and_from (is_key doc.key) (is_text doc.text) h.0 h.1)
op_again (Delete key) rest h = made_again string Small string_at string_format is_key Delete key rest (key_small key h) h
op_again (Drop word) rest h = made_again string Small string_at string_format is_word Drop word rest h.1 h.0

-- what is taken with its kind before it
with_kind : (kind k : ℕ) (bytes text rest : List ℕ) → kind ≡ k → Takes bytes text rest → Takes (kind ∷ bytes) (k ∷ text) rest
with_kind kind k bytes text rest e t = record { parts = (let parts = t.parts in cc); rest_fits = t.rest_fits }

op_takes_kind : (kind : ℕ) (bytes : List ℕ) (op : Op) (rest : List ℕ) → AreBytes bytes → op_of_kind kind bytes ≡ Some (op, rest) → Takes (kind ∷ bytes) (op_bytes op) rest × OpFits op
op_takes_kind kind bytes op rest fits e =
    elim (chosen (kind == 1) (op_made_at (then_at string_at (λ _. string_at)) is_put_pair put_of bytes) _ (op, rest) e) [
      | inl put ↦
          let m = made_takes (λ p. string p.0 ++ string p.1) (λ p. Small p.0 × Small p.1) (then_at string_at (λ _. string_at)) two_strings is_put_pair put_of bytes op rest fits put.1 in
          let t = and_parts (is_key m.x.0) (is_text m.x.1) m.passes in
          subst (λ (o : Op). Takes (kind ∷ bytes) (op_bytes o) rest × OpFits o) m.made (with_kind kind 1 bytes _ rest (eqb-true kind 1 put.0) m.takes, (t.0, t.1))
      | inr other ↦ elim (chosen (kind == 2) (op_made_at string_at is_key Delete bytes) _ (op, rest) other.1) [
        | inl delete ↦
            let m = made_takes string Small string_at string_format is_key Delete bytes op rest fits delete.1 in
            subst (λ (o : Op). Takes (kind ∷ bytes) (op_bytes o) rest × OpFits o) m.made (with_kind kind 2 bytes _ rest (eqb-true kind 2 delete.0) m.takes, m.passes)
        | inr third ↦
            let p = passed (kind == 3) (op_made_at string_at is_word Drop bytes) (op, rest) third.1 in
            let m = made_takes string Small string_at string_format is_word Drop bytes op rest fits p.1 in
            subst (λ (o : Op). Takes (kind ∷ bytes) (op_bytes o) rest × OpFits o) m.made (with_kind kind 3 bytes _ rest (eqb-true kind 3 p.0) m.takes, (m.passes, m.fits))
      ]
    ]

op_takes : (bytes : List ℕ) (op : Op) (rest : List ℕ) → AreBytes bytes → op_at bytes ≡ Some (op, rest) → Takes bytes (op_bytes op) rest × OpFits op
unfolding op_at
op_takes [] op rest fits e = absurd cc
op_takes (kind ∷ bytes) op rest fits e = op_takes_kind kind bytes op rest (AreBytes-rest kind bytes fits) e

op_format : IsFormat op_bytes OpFits op_at
op_format = record { again = op_again; takes = op_takes }

-- ---- a record

abbrev three_bytes : Three → List ℕ
three_bytes t = u64_bytes t.0 ++ (u32_bytes t.1.0 ++ op_bytes t.1.1)

abbrev ThreeFits : Three → Type 0
ThreeFits t = (t.0 < 2 ^ 64) × ((t.1.0 < 2 ^ 32) × OpFits t.1.1)

three_format : IsFormat three_bytes ThreeFits three_at
unfolding three_at
three_format =
    then_format u64_bytes (λ n. n < 2 ^ 64) u64_at (λ _ p. u32_bytes p.0 ++ op_bytes p.1) (λ _ p. (p.0 < 2 ^ 32) × OpFits p.1) (λ _. then_at u32_at (λ _. op_at)) u64_format
    (λ _ _. then_format u32_bytes (λ n. n < 2 ^ 32) u32_at (λ _. op_bytes) (λ _. OpFits) (λ _. op_at) u32_format (λ _ _. op_format))

-- what was read, where nothing is left
whole_of : {X : Type 0} (r : Read X) (x : X) → whole_read r ≡ Some x → r ≡ Some (x, [])
whole_of None x e = absurd cc
whole_of (Some (y, [])) x e = let same = same_Some y x e in cc
whole_of (Some (y, b ∷ rest)) x e = absurd cc

abbrev three_of : LogOp → Three
three_of r = (r.generation.0, (r.seq, r.op))

spelled_three : (body : List ℕ) (t : Three) → ThreeFits t → body ≡ three_bytes t → SpellsRecord body (record_of_three t)
unfolding record_body
spelled_three body t fits whole = record { generation = fits.0; seq = fits.1.0; op = fits.1.1; whole = whole }

-- a body is of the record that is read from it
pub record_spelled : (body : List ℕ) (t : Three) → AreBytes body → whole_read (three_at body) ≡ Some t → SpellsRecord body (record_of_three t)
record_spelled body t fits e =
    let k = three_format.takes body t [] fits (whole_of (three_at body) t e) in
    spelled_three body t k.1 (k.0.parts ∙ append-nil (three_bytes t))

-- and of no other
pub record_read : (body : List ℕ) (r : LogOp) → SpellsRecord body r → whole_read (three_at body) ≡ Some (three_of r)
unfolding record_body
record_read body r s =
    ap (λ (b : List ℕ). whole_read (three_at b)) (s.whole ∙ sym (append-nil (three_bytes (three_of r))))
    ∙ ap (λ (z : Read Three). whole_read z) (three_format.again (three_of r) [] (s.generation, (s.seq, s.op)))

one_record : (body : List ℕ) (a b : LogOp) → SpellsRecord body a → SpellsRecord body b → a ≡ b
one_record body a b s t = ap record_of_three (same_Some (three_of a) (three_of b) (sym (record_read body a s) ∙ record_read body b t))

one_body : (x y : List ℕ) (r : LogOp) → SpellsRecord x r → SpellsRecord y r → x ≡ y
one_body x y r s t = s.whole ∙ sym t.whole

pub record_one_to_one : IsOneToOne SpellsRecord
record_one_to_one = record { one_value = one_record; one_spelling = one_body }
