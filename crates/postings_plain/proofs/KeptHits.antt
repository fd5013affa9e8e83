-- The hits of rows that have a number, as they are passed.
use Rattle.std.proofs.Common.{◌≡◌, ℕ, ◌+◌, ◌<◌, List, [], ◌∷◌, ◌++◌, length, get_or, Option, Some, None, is_some, refl, sym, ap, subst, ◌∙◌, arith, append_assoc, true≢false}
use Rattle.std.specs.List.{All}
use Rattle.std.proofs.lemmas.List.{append-nil}
use Rattle.std.proofs.lemmas.List.Elements.{All-tail, All-head}
use Rattle.postings_plain.specs.Postings.{Hit, row_of, positions_in, HitsFitFrom}
use Rattle.postings_plain.specs.Rows.{from_row, first_row, first_positions}
use Rattle.postings_plain.specs.Joining.{with_number, renumbered}
use Rattle.postings_plain.proofs.Passing.{from_row-below, from_row-at}

-- of the hits from a row on it is known where they stand, and what was kept of those before
pub record IsKeeping (numbers : List (Option ℕ)) (whole left kept : List Hit) : Type 0 where
  pub field : ℕ
  pub least : ℕ
  pub fit : HitsFitFrom field least left
  pub below : All (λ h. row_of h < length numbers) left
  pub kept_is : kept ++ renumbered numbers left ≡ renumbered numbers whole

pub from_row-zero : (hs : List Hit) → from_row 0 hs ≡ hs
from_row-zero [] = refl
from_row-zero (h ∷ hs) = from_row-at 0 h hs (omega arith)

-- the row of the first hit is within
pub first_below : (n row : ℕ) (hs : List Hit) → Some row ≡ first_row hs → All (λ h. row_of h < n) hs → row < n
first_below n row [] e all = absurd (true≢false (ap (λ (o : Option ℕ). is_some o) e))
first_below n row (h ∷ hs) e all = subst (λ (x : ℕ). x < n) (sym (same_some row (row_of h) e)) (All-head (λ (h : Hit). row_of h < n) h hs all)
  where
    same_some : (a b : ℕ) → Some a ≡ Some b → a ≡ b
    same_some a b e = cc

-- the hits behind the first
abbrev pub rest_of : List Hit → List Hit
rest_of [] = []
rest_of (h ∷ hs) = hs

pub passed_first : (field least row : ℕ) (hs : List Hit) → Some row ≡ first_row hs → HitsFitFrom field least hs → from_row (row + 1) hs ≡ rest_of hs
passed_first field least row [] e fit = refl
passed_first field least row (h ∷ hs) e fit =
    let same : row ≡ row_of h = cc in
    from_row-below (row + 1) h hs (omega (arith, same)) ∙ behind hs fit.1
  where
    behind : (hs : List Hit) → HitsFitFrom field (row_of h + 1) hs → from_row (row + 1) hs ≡ hs
    behind [] fit = refl
    behind (g ∷ hs) fit = let same : row ≡ row_of h = cc in from_row-at (row + 1) g hs (omega (arith, same, fit.0.0.0))

pub shorter : (row : ℕ) (hs : List Hit) → Some row ≡ first_row hs → length (rest_of hs) < length hs
shorter row [] e = absurd (true≢false (ap (λ (o : Option ℕ). is_some o) e))
shorter row (h ∷ hs) e = omega arith

-- the first hit has a number, and is kept under it
pub keeps_one : (numbers : List (Option ℕ)) (whole hs kept new : List Hit) (row n : ℕ) → Some row ≡ first_row hs → get_or numbers row None ≡ Some n → new ≡ kept ++ (n, first_positions hs) ∷ [] → IsKeeping numbers whole hs kept → IsKeeping numbers whole (rest_of hs) new
keeps_one numbers whole [] kept new row n e at put is = absurd (true≢false (ap (λ (o : Option ℕ). is_some o) e))
keeps_one numbers whole (h ∷ hs) kept new row n e at put is = record {
  field = is.field;
  least = row_of h + 1;
  fit = is.fit.1;
  below = All-tail (λ (h : Hit). row_of h < length numbers) h hs is.below;
  kept_is =
      ap (λ (gs : List Hit). gs ++ renumbered numbers hs) put ∙ append_assoc kept ((n, positions_in h) ∷ []) (renumbered numbers hs)
      ∙ ap (λ (o : Option ℕ). kept ++ with_number o h (renumbered numbers hs)) (sym (ap (λ (x : ℕ). get_or numbers x None) (sym (same_some row (row_of h) e)) ∙ at)) ∙ is.kept_is;
}
  where
    same_some : (a b : ℕ) → Some a ≡ Some b → a ≡ b
    same_some a b e = cc

pub never_some : (o : Option ℕ) → ((n : ℕ) → o ≡ Some n → ⊥) → o ≡ None
never_some None never = refl
never_some (Some n) never = absurd (never n refl)

-- the first hit has no number
pub keeps_none : (numbers : List (Option ℕ)) (whole hs kept : List Hit) (row : ℕ) → Some row ≡ first_row hs → get_or numbers row None ≡ None → IsKeeping numbers whole hs kept → IsKeeping numbers whole (rest_of hs) kept
keeps_none numbers whole [] kept row e at is = absurd (true≢false (ap (λ (o : Option ℕ). is_some o) e))
keeps_none numbers whole (h ∷ hs) kept row e at is = record {
  field = is.field;
  least = row_of h + 1;
  fit = is.fit.1;
  below = All-tail (λ (h : Hit). row_of h < length numbers) h hs is.below;
  kept_is = ap (λ (o : Option ℕ). kept ++ with_number o h (renumbered numbers hs)) (sym (ap (λ (x : ℕ). get_or numbers x None) (sym (same_some row (row_of h) e)) ∙ at)) ∙ is.kept_is;
}
  where
    same_some : (a b : ℕ) → Some a ≡ Some b → a ≡ b
    same_some a b e = cc

-- all were passed
pub kept_all : (numbers : List (Option ℕ)) (whole hs kept : List Hit) → ◌≡◌ {A = Option ℕ} None (first_row hs) → IsKeeping numbers whole hs kept → kept ≡ renumbered numbers whole
kept_all numbers whole [] kept none is = sym (append-nil kept) ∙ is.kept_is
kept_all numbers whole (h ∷ hs) kept none is = absurd (true≢false (ap (λ (o : Option ℕ). is_some o) (sym none)))

-- nothing was passed so far
pub keeping_all : (numbers : List (Option ℕ)) (field : ℕ) (hits kept : List Hit) → HitsFitFrom field 0 hits → All (λ h. row_of h < length numbers) hits → kept ≡ [] → IsKeeping numbers hits (from_row 0 hits) kept
keeping_all numbers field hits kept fit below none =
    subst (λ (hs : List Hit). IsKeeping numbers hits hs kept) (sym (from_row-zero hits)) (record { field = field; least = 0; fit = fit; below = below; kept_is = ap (λ (gs : List Hit). gs ++ renumbered numbers hits) none })
