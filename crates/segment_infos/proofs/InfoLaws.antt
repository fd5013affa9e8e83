-- What the body of a segment's info file says.
use Rattle.std.proofs.Common.{◌≡◌, ℕ, ◌^◌, ◌<◌, true, List, [], ◌∷◌, ◌++◌, Option, Some, None, refl, sym, ap, subst, ◌∙◌}
use Rattle.std.specs.Prelude.{◌&&◌, nat_lt, nat_le}
use Rattle.std.proofs.lemmas.Option.{same_Some}
use Rattle.std.proofs.lemmas.Bool.{ltb-true, leb-true, lt-ltb, le-leb, and_parts}
use Rattle.body_forms.specs.Given.{AreBytes}
use Rattle.body_forms.specs.Format.{Read, ◌>>=◌}
use Rattle.body_forms.specs.Numbers.{u32_bytes, u32_at, u64_bytes, u64_at}
use Rattle.body_forms.specs.File.{IsOneToOne}
use Rattle.body_forms.proofs.Formats.{bind_some, passed}
use Rattle.body_forms.proofs.NumberLaws.{u32_format, u64_format}
use Rattle.segment_infos.specs.declared.info.SegInfo.{SegInfo}
use Rattle.segment_infos.specs.SegmentInfo.{info_body, CanSpellInfo, SpellsSegmentInfo}
use Rattle.segment_infos.specs.Reading.{is_info, info_from, info_in}
use Rattle.segment_infos.proofs.Appends.{joined}

abbrev made : ℕ → ℕ → ℕ → SegInfo
made seg rows format = record { seg = record { 0 = seg }; rows = rows; format = format }

-- what is made of the number, the rows and the bytes after them
abbrev from_rows : ℕ → Read ℕ → Option SegInfo
from_rows seg read = read >>= λ rows. info_from seg rows.0 rows.1

abbrev from_seg : Read ℕ → Option SegInfo
from_seg read = read >>= λ seg. from_rows seg.0 (u32_at seg.1)

info_in-is : (body : List ℕ) → info_in body ≡ from_seg (u64_at body)
unfolding info_in
info_in-is body = refl

can_spell : (seg rows format : ℕ) → is_info rows format ≡ true → CanSpellInfo (made seg rows format)
can_spell seg rows format e =
    let p = and_parts (nat_lt 0 rows) (nat_le 1 format && nat_le format 2) e in
    let q = and_parts (nat_le 1 format) (nat_le format 2) p.1 in
    record { some = ltb-true 0 rows p.0; not_older = leb-true 1 format q.0; not_newer = leb-true format 2 q.1 }

-- the bytes after the rows are the format of the info
pub record LastIs (seg rows : ℕ) (rest : List ℕ) (info : SegInfo) : Type 0 where
  pub format : ℕ
  pub last : rest ≡ format ∷ []
  pub can : CanSpellInfo (made seg rows format)
  pub is : made seg rows format ≡ info

last_is : (seg rows : ℕ) (rest : List ℕ) (info : SegInfo) → info_from seg rows rest ≡ Some info → LastIs seg rows rest info
last_is seg rows [] info e = absurd cc
last_is seg rows (format ∷ next ∷ rest) info e = absurd cc
last_is seg rows (format ∷ []) info e =
    let p = passed (is_info rows format) (Some (made seg rows format)) info e in
    record { format = format; last = refl; can = can_spell seg rows format p.0; is = same_Some (made seg rows format) info p.1 }

spelled_parts : (body rest : List ℕ) (seg rows format : ℕ) → body ≡ u64_bytes seg ++ rest → rest ≡ u32_bytes rows ++ format ∷ [] → seg < 2 ^ 64 → rows < 2 ^ 32 → CanSpellInfo (made seg rows format)
    → SpellsSegmentInfo body (made seg rows format)
unfolding info_body
spelled_parts body rest seg rows format e f sf rf can = record { can = can; seg_fits = sf; rows_fit = rf; whole = e ∙ ap (λ (x : List ℕ). u64_bytes seg ++ x) f }

-- a body is of the info that is read from it
pub info_spelled : (body : List ℕ) (info : SegInfo) → AreBytes body → info_in body ≡ Some info → SpellsSegmentInfo body info
info_spelled body info fits e =
    let f = bind_some (u64_at body) (λ seg. from_rows seg.0 (u32_at seg.1)) info (sym (info_in-is body) ∙ e) in
    let g = bind_some (u32_at f.0.1) (λ rows. info_from f.0.0 rows.0 rows.1) info f.2 in
    let l = last_is f.0.0 g.0.0 g.0.1 info g.2 in
    let t = u64_format.takes body f.0.0 f.0.1 fits f.1 in
    let u = u32_format.takes f.0.1 g.0.0 g.0.1 t.0.rest_fits g.1 in
    let rest : f.0.1 ≡ u32_bytes g.0.0 ++ l.format ∷ [] = u.0.parts ∙ ap (λ (x : List ℕ). u32_bytes g.0.0 ++ x) l.last in
    subst (SpellsSegmentInfo body) l.is (spelled_parts body f.0.1 f.0.0 g.0.0 l.format t.0.parts rest t.1 u.1 l.can)

is_info-passes : (info : SegInfo) → CanSpellInfo info → is_info info.rows info.format ≡ true
is_info-passes info can =
    let some : nat_lt 0 info.rows ≡ true = lt-ltb 0 info.rows can.some in
    let first : nat_le 1 info.format ≡ true = le-leb 1 info.format can.not_older in
    let last : nat_le info.format 2 ≡ true = le-leb info.format 2 can.not_newer in
    rw (some, first, last) refl

-- and of no other
pub info_read : (body : List ℕ) (info : SegInfo) → SpellsSegmentInfo body info → info_in body ≡ Some info
unfolding info_body
info_read body info s =
    let rest = u32_bytes info.rows ++ info.format ∷ [] in
    let seg = ap u64_at s.whole ∙ u64_format.again info.seg.0 rest s.seg_fits in
    let rows = u32_format.again info.rows (info.format ∷ []) s.rows_fit in
    let last : info_from info.seg.0 info.rows (info.format ∷ []) ≡ Some (made info.seg.0 info.rows info.format) = rw (is_info-passes info s.can) refl in
    info_in-is body ∙ ap from_seg seg ∙ ap (from_rows info.seg.0) rows ∙ last

pub one_info : (body : List ℕ) (info other : SegInfo) → SpellsSegmentInfo body info → SpellsSegmentInfo body other → info ≡ other
one_info body info other s t = same_Some info other (sym (info_read body info s) ∙ info_read body other t)

pub one_info_body : (a b : List ℕ) (info : SegInfo) → SpellsSegmentInfo a info → SpellsSegmentInfo b info → a ≡ b
one_info_body a b info s t = s.whole ∙ sym t.whole

pub info_one_to_one : IsOneToOne SpellsSegmentInfo
info_one_to_one = record { one_value = one_info; one_spelling = one_info_body }

pub spells_written : (info : SegInfo) → CanSpellInfo info → info.seg.0 < 2 ^ 64 → info.rows < 2 ^ 32 → SpellsSegmentInfo (info_body info) info
spells_written info can s r = record { can = can; seg_fits = s; rows_fit = r; whole = refl }

pub adds_info : (before one two three : List ℕ) (info : SegInfo) → one ≡ before ++ u64_bytes info.seg.0 → two ≡ one ++ u32_bytes info.rows → three ≡ two ++ info.format ∷ [] → three ≡ before ++ info_body info
unfolding info_body
adds_info before one two three info e f g = joined before one three (u64_bytes info.seg.0) (u32_bytes info.rows ++ info.format ∷ []) e (joined one two three (u32_bytes info.rows) (info.format ∷ []) f g)

-- a body in which nothing is read spells nothing
pub none_spelled_in : (body : List ℕ) → ◌≡◌ {A = Option SegInfo} None (info_in body) → (info : SegInfo) → SpellsSegmentInfo body info → ⊥
none_spelled_in body e info s = let bad = e ∙ info_read body info s in cc
