-- A cursor that passes rows.
use Rattle.std.proofs.Common.{◌≡◌, ℕ, zero, suc, ◌+◌, ◌-◌, ◌^◌, ◌<◌, ◌≤◌, List, [], ◌∷◌, length, get_or, Some, None, refl, sym, ap, subst, ◌∙◌, inl, inr, arith}
use Rattle.std.specs.Prelude.{nat_lt}
use Rattle.std.specs.List.{All}
use Rattle.std.specs.Prelude.{if◌then◌else◌}
use Rattle.std.proofs.lemmas.Bool.{lt-ltb, le-ltb, ltb-false, cases_lt}
use Rattle.std.proofs.lemmas.Option.{same_Some}
use Rattle.body_forms.specs.Format.{Read, ◌>>=◌, chain_at}
use Rattle.postings_plain.specs.Postings.{Hit, row_of, above_hit}
use Rattle.postings_plain.specs.Rows.{from_row, IsLeastFrom, first_row}
use Rattle.postings_plain.specs.Reading.{positions_at, hit_at, hits_or_none, AreHits}
use Rattle.body_forms.specs.Numbers.{vint_at, difference_at}
use Rattle.body_forms.proofs.Formats.{bind_some, read_is, passed, not_stopped}

abbrev pub rows_at : ℕ → ℕ → ℕ → List ℕ → Read (List Hit)
rows_at field count least bytes = chain_at (hit_at field) above_hit count least bytes

pub was_read : (r : Read (List Hit)) → AreHits r → (x : List Hit) × (tail : List ℕ) × (r ≡ Some (x, tail))
was_read None h = absurd h
was_read (Some x) h = (x.0, x.1, refl)

pub is_read : (r : Read (List Hit)) (x : List Hit) (tail : List ℕ) → r ≡ Some (x, tail) → AreHits r
is_read r x tail e = subst AreHits (sym e) tt

-- the head of the rows that are left
pub record Head (field count least : ℕ) (bytes : List ℕ) (hs : List Hit) (tail : List ℕ) : Type 0 where
  pub head : Hit
  pub after : List ℕ
  pub others : List Hit
  pub first : hit_at field least bytes ≡ Some (head, after)
  pub onward : rows_at field (count - 1) (above_hit head) after ≡ Some (others, tail)
  pub whole : hs ≡ head ∷ others

pub head_of : (field count least : ℕ) (bytes : List ℕ) (hs : List Hit) (tail : List ℕ) → 0 < count → rows_at field count least bytes ≡ Some (hs, tail) → Head field count least bytes hs tail
head_of field zero least bytes hs tail pos e = absurd (omega arith)
head_of field (suc n) least bytes hs tail pos e =
    let f = bind_some (hit_at field least bytes) (λ x. chain_at (hit_at field) above_hit n (above_hit x.0) x.1 >>= λ xs. Some (x.0 ∷ xs.0, xs.1)) (hs, tail) e in
    let g = bind_some (chain_at (hit_at field) above_hit n (above_hit f.0.0) f.0.1) (λ xs. Some (f.0.0 ∷ xs.0, xs.1)) (hs, tail) f.2 in
    let q = read_is (f.0.0 ∷ g.0.0) hs g.0.1 tail g.2 in
    let m : suc n - 1 ≡ n = omega arith in
    record { head = f.0.0; after = f.0.1; others = g.0.0; first = f.1; onward = ap (λ (k : ℕ). rows_at field k (above_hit f.0.0) f.0.1) m ∙ g.1 ∙ ap (λ (t : List ℕ). Some (g.0.0, t)) q.1; whole = sym q.0 }

pub from_row-below : (row : ℕ) (h : Hit) (hs : List Hit) → h.0 < row → from_row row (h ∷ hs) ≡ from_row row hs
from_row-below row h hs lt = rw (lt-ltb h.0 row lt) refl

pub from_row-at : (row : ℕ) (h : Hit) (hs : List Hit) → row ≤ h.0 → from_row row (h ∷ hs) ≡ h ∷ hs
from_row-at row h hs le = rw (le-ltb h.0 row le) refl

pub none_left : (field count least : ℕ) (rest : List ℕ) (ls : List Hit) (tail : List ℕ) → count ≡ 0 → rows_at field count least rest ≡ Some (ls, tail) → ls ≡ []
none_left field zero least rest ls tail z e = let q = read_is [] ls rest tail e in sym q.0
none_left field (suc count) least rest ls tail z e = absurd (omega arith)

-- ---- rows ascend

-- the rows ascend, from k on
abbrev pub Ascends : ℕ → List Hit → Type 0
Ascends k [] = Unit {0}
Ascends k (h ∷ hs) = (k ≤ row_of h) × Ascends (above_hit h) hs

not_lower : (k : ℕ) (bytes : List ℕ) (x : ℕ) (after : List ℕ) → difference_at k bytes ≡ Some (x, after) → k ≤ x
unfolding difference_at
not_lower k bytes x after e =
    let f = bind_some (vint_at bytes) (λ d. if nat_lt (k - 1 + d.0) k then None else (if nat_lt (k - 1 + d.0) (2 ^ 32) then Some (k - 1 + d.0, d.1) else None)) (x, after) e in
    let g = not_stopped (nat_lt (k - 1 + f.0.0) k) (if nat_lt (k - 1 + f.0.0) (2 ^ 32) then Some (k - 1 + f.0.0, f.0.1) else None) (x, after) f.2 in
    let h = passed (nat_lt (k - 1 + f.0.0) (2 ^ 32)) (Some (k - 1 + f.0.0, f.0.1)) (x, after) g.1 in
    let q = read_is (k - 1 + f.0.0) x f.0.1 after h.1 in
    omega (arith, ltb-false _ _ g.0, q.0)

hit_not_lower : (field k : ℕ) (bytes : List ℕ) (h : Hit) (after : List ℕ) → hit_at field k bytes ≡ Some (h, after) → k ≤ row_of h
hit_not_lower field k bytes h after e =
    let f = bind_some (difference_at k bytes) (λ d. positions_at field d.1 >>= λ y. Some ((d.0, y.0), y.1)) (h, after) e in
    let g = bind_some (positions_at field f.0.1) (λ y. Some ((f.0.0, y.0), y.1)) (h, after) f.2 in
    let q = read_is (f.0.0, g.0.0) h g.0.1 after g.2 in
    omega (arith, not_lower k bytes f.0.0 f.0.1 f.1, ap row_of q.0)

pub rows_ascend : (field count least : ℕ) (rest : List ℕ) (hs : List Hit) (tail : List ℕ) → rows_at field count least rest ≡ Some (hs, tail) → Ascends least hs
rows_ascend field zero least rest hs tail e = let q = read_is [] hs rest tail e in subst (Ascends least) q.0 tt
rows_ascend field (suc n) least rest hs tail e =
    let h = head_of field (suc n) least rest hs tail (omega arith) e in
    let m : suc n - 1 ≡ n = omega arith in
    let others : rows_at field n (above_hit h.head) h.after ≡ Some (h.others, tail) = ap (λ (k : ℕ). rows_at field k (above_hit h.head) h.after) (sym m) ∙ h.onward in
    subst (Ascends least) (sym h.whole) (hit_not_lower field least rest h.head h.after h.first, rows_ascend field n (above_hit h.head) h.after h.others tail others)

pub all_from : (k : ℕ) (hs : List Hit) → Ascends k hs → (i : ℕ) (d : Hit) → i < length hs → k ≤ row_of (get_or hs i d)
all_from k [] a i d lt = absurd (omega arith)
all_from k (h ∷ hs) a zero d lt = a.0
all_from k (h ∷ hs) a (suc i) d lt = omega (arith, all_from (above_hit h) hs a.1 i d (omega arith), a.0)

below_all : (row : ℕ) (h : Hit) (hs : List Hit) → row_of h < row → ((i : ℕ) (d : Hit) → i < length hs → row_of (get_or hs i d) < row) → (i : ℕ) (d : Hit) → i < length (h ∷ hs) → row_of (get_or (h ∷ hs) i d) < row
below_all row h hs below others zero d lt = below
below_all row h hs below others (suc i) d lt = others i d (omega arith)

at_first : (row k x : ℕ) (h : Hit) (hs : List Hit) → Ascends k (h ∷ hs) → row ≤ row_of h → row_of h ≡ x → IsLeastFrom row (h ∷ hs) x
at_first row k x h hs a le e = record {
  there = (0, h, omega arith, refl, e);
  from = omega (arith, e);
  least = least_here;
} where
  least_here : All (λ g. row ≤ row_of g → x ≤ row_of g) (h ∷ hs)
  least_here zero d lt up = omega (arith, e)
  least_here (suc i) d lt up = omega (arith, e, all_from (above_hit h) hs a.1 i d (omega arith))

at_later : (row x : ℕ) (h : Hit) (hs : List Hit) → row_of h < row → IsLeastFrom row hs x → IsLeastFrom row (h ∷ hs) x
at_later row x h hs below l = record {
  there = let t = l.there in (suc t.0, t.1, omega (arith, t.2), t.3, t.4);
  from = l.from;
  least = least_here;
} where
  least_here : All (λ g. row ≤ row_of g → x ≤ row_of g) (h ∷ hs)
  least_here zero d lt up = absurd (omega arith)
  least_here (suc i) d lt up = l.least i d (omega arith) up

pub least_from : (row k x : ℕ) (hs : List Hit) → Ascends k hs → Some x ≡ first_row (from_row row hs) → IsLeastFrom row hs x
least_from row k x [] a e = absurd cc
least_from row k x (h ∷ hs) a e = elim (cases_lt (row_of h) row) [
  | inl lt ↦ at_later row x h hs lt (least_from row (above_hit h) x hs a.1 (e ∙ ap first_row (from_row-below row h hs lt)))
  | inr ge ↦ at_first row k x h hs a ge (same_Some (row_of h) x (sym (e ∙ ap first_row (from_row-at row h hs ge))))
]

pub none_from : (row : ℕ) (hs : List Hit) → None ≡ first_row (from_row row hs) → (i : ℕ) (d : Hit) → i < length hs → row_of (get_or hs i d) < row
none_from row [] e i d lt = absurd (omega arith)
none_from row (h ∷ hs) e i d lt = elim (cases_lt (row_of h) row) [
  | inl below ↦ below_all row h hs below (none_from row hs (e ∙ ap first_row (from_row-below row h hs below))) i d lt
  | inr ge ↦ let bad = e ∙ ap first_row (from_row-at row h hs ge) in cc
]

-- what the hits read from the bytes are
pub whole_ascends : (field count least : ℕ) (rest : List ℕ) (whole : List Hit) → AreHits (rows_at field count least rest) → hits_or_none (rows_at field count least rest) ≡ whole → Ascends least whole
whole_ascends field count least rest whole r e =
    let w = was_read (rows_at field count least rest) r in
    subst (Ascends least) (sym (ap hits_or_none w.2) ∙ e) (rows_ascend field count least rest w.0 w.1 w.2)
