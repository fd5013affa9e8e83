use Rattle.std.proofs.Common.{◌≡◌, sym, ◌∙◌, ap, length, arith, ◌-◌, ◌<◌, get_or, subst, List}
use Rattle.std.specs.Prelude.{ℕ}
use Rattle.std.proofs.lemmas.Bool.{eqb-true, eq-eqb}
use Rattle.postings_plain.specs.Postings.{Hit}
use Rattle.postings_plain.specs.Gathering.{EndsInRow}
use Rattle.postings_plain.proofs.Gaining.{ends, last_hit, row_of, some_last}
use Rattle.postings_plain.proofs.hits.TermHits.ends_in_row.Goals as goal

pub returns-in-Some : goal.returns-in-Some
returns-in-Some c =
    let e = c.in-Some.ensures in
    let item = e.item in
    let same = c.deref.ensures.value ∙ c.self.view_is in
    let pos : 0 < length c.args.self.now = subst (λ (x : List Hit). 0 < length x) same item.3.0 in
    let is : c.in-Some.hit.now ≡ get_or c.args.self.now (length c.args.self.now - 1) c.in-Some.hit.now = item.1 ∙ ap (λ (x : List Hit). get_or x (length x - 1) c.in-Some.hit.now) same in (
      λ t. subst (λ (row : ℕ). EndsInRow c.args.self.now row) (sym c.row.ensures ∙ eqb-true c.row.result c.args.row t) (ends c.args.self.now c.in-Some.hit.now pos is),
      λ x. eq-eqb c.row.result c.args.row (c.row.ensures ∙ row_of _ _ (is ∙ last_hit c.args.self.now x.0 c.args.row x.1 c.in-Some.hit.now x.2)),
    )

pub returns-in-None : goal.returns-in-None
returns-in-None c =
    let e = c.in-None.ensures in
    let item = e.item in
    let same = c.deref.ensures.value ∙ c.self.view_is in
    (λ t. absurd cc, λ x. absurd (omega (arith, some_last c.args.self.now c.args.row x, ap length same, item.3)))
