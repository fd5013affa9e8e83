-- The first place at which documents differ.
use Rattle.std.proofs.Common.{◌≡◌, ℕ, zero, suc, ◌<◌, List, [], ◌∷◌, take, refl, sym, ap, ◌∙◌, arith, inl, inr}
use Rattle.std.specs.List.{slice_get}
use Rattle.std.proofs.lemmas.Bool.{cases_order}
use Rattle.nrt_base.specs.declared.doc.Doc.{Doc}
use Rattle.index_check.specs.Checked.{DifferFirst}

get-take : (docs : List Doc) (i n : ℕ) → i < n → slice_get (take n docs) i ≡ slice_get docs i
get-take [] i zero lt = refl
get-take [] i (suc n) lt = refl
get-take (d ∷ docs) i zero lt = absurd (omega (arith, lt))
get-take (d ∷ docs) zero (suc n) lt = refl
get-take (d ∷ docs) (suc i) (suc n) lt = get-take docs i n (omega (arith, lt))

not_before : (found docs : List Doc) (a b : ℕ) → DifferFirst found docs a → DifferFirst found docs b → a < b → ⊥
not_before found docs a b x y lt = x.differ (sym (get-take found a b lt) ∙ ap (λ (ds : List Doc). slice_get ds a) y.same ∙ get-take docs a b lt)

-- documents differ first at one place
pub one_place : (found docs : List Doc) (a b : ℕ) → DifferFirst found docs a → DifferFirst found docs b → a ≡ b
one_place found docs a b x y = elim (cases_order a b) [
  | inl same ↦ same
  | inr rest ↦ elim rest [ inl less ↦ absurd (not_before found docs a b x y less) | inr more ↦ absurd (not_before found docs b a y x more) ]
]
