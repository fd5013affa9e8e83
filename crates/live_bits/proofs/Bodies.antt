-- Which bytes are the body of live rows.
use Rattle.std.proofs.Common.{◌≡◌, ℕ, ◌+◌, ◌*◌, ◌/◌, ◌<◌, ◌^◌, Bool, List, ◌++◌, length, Some, Option, None, sym, ap, subst, ◌∙◌, append_assoc, arith}
use Rattle.std.specs.Prelude.{IfNone}
use Rattle.std.proofs.lemmas.List.Sums.{count_by-le-length}
use Rattle.codec_frame.specs.Bytes.{AreBytes}
use Rattle.body_forms.specs.Format.{Read}
use Rattle.body_forms.specs.Numbers.{u32_bytes, u32_at}
use Rattle.body_forms.proofs.Formats.{once, read_is}
use Rattle.body_forms.proofs.NumberLaws.{u32_format}
use Rattle.live_bits.specs.LiveRows.{live_rows, IsPacked, SpellsLiveRows}
use Rattle.live_bits.specs.Held.{rows_in, HoldsRows, AreParts}
use Rattle.live_bits.proofs.Packing.{length-rows_in, one_packing, one_content, EndsClear, packed_rows, rows_are, ends_clear_of, whole_count}

few_live : (live : List Bool) → length live < 2 ^ 32 → live_rows live < 2 ^ 32
few_live live h = omega (arith, count_by-le-length (λ row. row) live)

pub one_body : (a b : List ℕ) (live : List Bool) → SpellsLiveRows a live → SpellsLiveRows b live → a ≡ b
one_body a b live s t = s.whole ∙ ap (λ (bits : List ℕ). u32_bytes (length live) ++ (u32_bytes (live_rows live) ++ bits)) (one_packing s.bits t.bits live s.packed t.packed) ∙ sym t.whole

pub one_list : (body : List ℕ) (x y : List Bool) → SpellsLiveRows body x → SpellsLiveRows body y → x ≡ y
one_list body x y s t =
    let rows = once u32_bytes (λ n. n < 2 ^ 32) u32_at u32_format (length x) (length y) (u32_bytes (live_rows x) ++ s.bits) (u32_bytes (live_rows y) ++ t.bits) s.few t.few (sym s.whole ∙ t.whole) in
    let rest = once u32_bytes (λ n. n < 2 ^ 32) u32_at u32_format (live_rows x) (live_rows y) s.bits t.bits (few_live x s.few) (few_live y t.few) rows.1 in
    one_content s.bits x y rows.0 s.packed (subst (λ (bits : List ℕ). IsPacked bits y) (sym rest.1) t.packed)

-- what reading two numbers at the front of a body gave
pub record Fronts (body : List ℕ) (rows live : ℕ) (bits : List ℕ) : Type 0 where
  pub rest : List ℕ
  pub first : ◌≡◌ {A = Read ℕ} (Some (rows, rest)) (u32_at body)
  pub second : ◌≡◌ {A = Read ℕ} (Some (live, bits)) (u32_at rest)

-- the parts of a body, as its tests find them
pub record Passes (rows live : ℕ) (bits : List ℕ) : Type 0 where
  pub long : length bits ≡ (rows + 7) / 8
  pub clear : EndsClear bits rows
  pub count : live_rows (rows_in (8 * length bits) bits) ≡ live

pub first_there : (body : List ℕ) (x : List Bool) (s : SpellsLiveRows body x) → u32_at body ≡ Some (length x, u32_bytes (live_rows x) ++ s.bits)
first_there body x s = ap u32_at s.whole ∙ u32_format.again (length x) (u32_bytes (live_rows x) ++ s.bits) s.few

pub no_first : (body : List ℕ) → ◌≡◌ {A = Read ℕ} None (u32_at body) → (x : List Bool) → SpellsLiveRows body x → ⊥
no_first body e x s = let f = e ∙ first_there body x s in cc

pub no_second : (body rest : List ℕ) (rows : ℕ) → ◌≡◌ {A = Read ℕ} (Some (rows, rest)) (u32_at body) → ◌≡◌ {A = Read ℕ} None (u32_at rest) → (x : List Bool) → SpellsLiveRows body x → ⊥
no_second body rest rows e f x s =
    let q = read_is rows (length x) rest (u32_bytes (live_rows x) ++ s.bits) (e ∙ first_there body x s) in
    let g = f ∙ ap u32_at q.1 ∙ u32_format.again (live_rows x) s.bits (few_live x s.few) in
    cc

pub passes : (body : List ℕ) (rows live : ℕ) (bits : List ℕ) → Fronts body rows live bits → (x : List Bool) → SpellsLiveRows body x → Passes rows live bits
passes body rows live bits f x s =
    let p = read_is rows (length x) f.rest (u32_bytes (live_rows x) ++ s.bits) (f.first ∙ first_there body x s) in
    let q = read_is live (live_rows x) bits s.bits (f.second ∙ ap u32_at p.1 ∙ u32_format.again (live_rows x) s.bits (few_live x s.few)) in
    let here : IsPacked bits x = subst (λ (b : List ℕ). IsPacked b x) (sym q.1) s.packed in
    let long : length bits ≡ (rows + 7) / 8 = omega (arith, here.enough, p.0) in
    let clear : EndsClear bits rows = λ i le. ends_clear_of bits x here i (omega (arith, le, p.0)) in
    record {
      long = long;
      clear = clear;
      count = whole_count rows bits long clear ∙ ap live_rows (rows_are rows bits x (sym p.0) here) ∙ sym q.0;
    }

pub holds : (body : List ℕ) (rows live : ℕ) (bits : List ℕ) → AreBytes body → Fronts body rows live bits → Passes rows live bits
    → AreParts body rows live bits
holds body rows live bits fits f p =
    let a = u32_format.takes body rows f.rest fits (sym f.first) in
    let b = u32_format.takes f.rest live bits a.0.rest_fits (sym f.second) in
    record {
      held = record { few = a.1; packed = packed_rows rows bits b.0.rest_fits p.long p.clear; count = sym p.count ∙ whole_count rows bits p.long p.clear };
      whole = a.0.parts ∙ ap (λ (rest : List ℕ). u32_bytes rows ++ rest) b.0.parts;
    }

pub spelled : (body bits : List ℕ) (rows live : ℕ) → HoldsRows bits rows live → body ≡ u32_bytes rows ++ (u32_bytes live ++ bits) → SpellsLiveRows body (rows_in rows bits)
spelled body bits rows live h e =
    let long = length-rows_in rows bits in
    record {
      few = omega (arith, long, h.few);
      bits = bits;
      packed = h.packed;
      whole = e ∙ ap (λ (n : ℕ). u32_bytes n ++ (u32_bytes live ++ bits)) (sym long) ∙ ap (λ (n : ℕ). u32_bytes (length (rows_in rows bits)) ++ (u32_bytes n ++ bits)) h.count;
    }

-- a body is written part by part
pub put_together : (before one two three : List ℕ) (rows live : ℕ) (slice bits : List ℕ) → one ≡ before ++ u32_bytes rows → two ≡ one ++ u32_bytes live → three ≡ two ++ slice → slice ≡ bits
    → three ≡ before ++ (u32_bytes rows ++ (u32_bytes live ++ bits))
put_together before one two three rows live slice bits e f g same =
    g ∙ ap (λ (x : List ℕ). two ++ x) same ∙ ap (λ (x : List ℕ). x ++ bits) (f ∙ ap (λ (x : List ℕ). x ++ u32_bytes live) e)
    ∙ append_assoc (before ++ u32_bytes rows) (u32_bytes live) bits ∙ append_assoc before (u32_bytes rows) (u32_bytes live ++ bits)

pub nothing : {X : Type 0} (found : Option X) (P : Type 0) → found ≡ None → P → IfNone found P
nothing {X} found P e h = subst (λ (o : Option X). IfNone o P) (sym e) h
