-- Rows of merges after one has ended.
use Rattle.std.proofs.Common.{◌≡◌, ◌≢◌, ◌≤◌, ◌+◌, ◌++◌, ◌==◌, ℕ, Bool, true, false, List, [], ◌∷◌, Some, None, length, refl, ap, ◌∙◌, sym, subst, arith, if◌then◌else◌}
use Rattle.std.specs.Prelude.{not}
use Rattle.std.specs.List.{filter}
use Rattle.std.proofs.lemmas.Bool.Decides.{nat_tests}
use Rattle.nrt_base.specs.declared.numbers.At.{At}
use Rattle.nrt_base.specs.declared.numbers.SegNo.{SegNo}
use Rattle.merge_tasks.specs.declared.merges.MergeRow.{MergeRow}
use Rattle.merge_tasks.specs.Merging.{line_of}

line_without : (rows : List MergeRow) (seg s : ℕ) → line_of (filter (λ r. not (r.seg.0 == seg)) rows) s ≡ (if seg == s then None else line_of rows s)
line_without [] seg s = grind (arith, nat_tests)
line_without (r ∷ rows) seg s = grind (arith, nat_tests, line_without rows seg s)

pub line_kept : (old new : List MergeRow) (seg s : ℕ) → new ≡ filter (λ r. not (r.seg.0 == seg)) old → line_of new s ≡ (if seg == s then None else line_of old s)
line_kept old new seg s e = ap (λ rows. line_of rows s) e ∙ line_without old seg s

no_more : (rows : List MergeRow) (seg : ℕ) → length (filter (λ r. not (r.seg.0 == seg)) rows) ≤ length rows
no_more [] seg = omega arith
no_more (r ∷ rows) seg = let rest = no_more rows seg in elim (r.seg.0 == seg) as (λ b. length (if not b then r ∷ filter (λ q. not (q.seg.0 == seg)) rows else filter (λ q. not (q.seg.0 == seg)) rows) ≤ length (r ∷ rows)) [ true ↦ omega arith | false ↦ omega arith ]

fewer_there : (rows : List MergeRow) (seg : ℕ) → line_of rows seg ≢ None → length (filter (λ r. not (r.seg.0 == seg)) rows) + 1 ≤ length rows
fewer_there [] seg there = absurd (there refl)
fewer_there (r ∷ rows) seg there = tests (r.seg.0 == seg) there (fewer_there rows seg)
  where
    tests : (b : Bool) → (if b then Some r.at else line_of rows seg) ≢ None → (line_of rows seg ≢ None → length (filter (λ q. not (q.seg.0 == seg)) rows) + 1 ≤ length rows)
        → length (if not b then r ∷ filter (λ q. not (q.seg.0 == seg)) rows else filter (λ q. not (q.seg.0 == seg)) rows) + 1 ≤ length (r ∷ rows)
    tests true is more = let low = no_more rows seg in omega arith
    tests false is more = let rest = more is in omega arith

pub fewer : (old new : List MergeRow) (seg : ℕ) → new ≡ filter (λ r. not (r.seg.0 == seg)) old → line_of old seg ≢ None → length new + 1 ≤ length old
fewer old new seg e there = subst (λ (rows : List MergeRow). length rows + 1 ≤ length old) (sym e) (fewer_there old seg there)

line_end : (rows : List MergeRow) (r : MergeRow) (s : ℕ) → line_of rows r.seg.0 ≡ None → line_of (rows ++ r ∷ []) s ≡ (if r.seg.0 == s then Some r.at else line_of rows s)
line_end [] r s fresh = refl
line_end (q ∷ rows) r s fresh = ends (q.seg.0 == r.seg.0) refl fresh (line_end rows r s)
  where
    ends : (t : Bool) → (q.seg.0 == r.seg.0) ≡ t → (if t then Some q.at else line_of rows r.seg.0) ≡ None
        → (line_of rows r.seg.0 ≡ None → line_of (rows ++ r ∷ []) s ≡ (if r.seg.0 == s then Some r.at else line_of rows s))
        → (if q.seg.0 == s then Some q.at else line_of (rows ++ r ∷ []) s) ≡ (if r.seg.0 == s then Some r.at else if q.seg.0 == s then Some q.at else line_of rows s)
    ends true is none more = absurd (cc)
    ends false is none more = let rest = more none in grind (arith, nat_tests, rest, is)

pub line_last : (old new : List MergeRow) (seg : SegNo) (at : At) (s : ℕ) → new ≡ old ++ (record { seg = seg; at = at }) ∷ [] → line_of old seg.0 ≡ None
    → line_of new s ≡ (if seg.0 == s then Some at else line_of old s)
line_last old new seg at s e fresh = ap (λ rows. line_of rows s) e ∙ line_end old (record { seg = seg; at = at }) s fresh
