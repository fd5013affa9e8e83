use Rattle.std.proofs.Common.{◌≡◌, ℕ, ◌+◌, ◌<◌, List, [], ◌∷◌, ◌++◌, length, get_or, Some, None, sym, ap, subst, ◌∙◌}
use Rattle.postings_plain.specs.Postings.{Hit}
use Rattle.postings_plain.specs.Rows.{from_row, first_row, first_positions}
use Rattle.postings_plain.proofs.KeptHits.{IsKeeping, rest_of, passed_first, shorter, keeps_one, never_some, keeps_none}
use Rattle.postings_plain.proofs.joining.kept.Goals as goal
use Rattle.postings_plain.proofs.joining.kept.Goals.{in-Some-numbers+in_ok-push_hit, in_default-numbers}

pub loop-row-smaller : goal.loop-row-smaller
loop-row-smaller c =
    let hs = from_row c.loop-row.least c.loop-row.hits in
    let inv = c.loop-row.invariant in
    let first : Some c.in-Some.row ≡ first_row hs = c.in-Some.ensures.answer in
    let passed = ap (from_row (c.in-Some.row + 1)) c.next_from.ensures.left ∙ passed_first inv.field inv.least c.in-Some.row hs first inv.fit in
    subst (λ (xs : List Hit). length xs < length hs) (sym passed) (shorter c.in-Some.row hs first)

pub loop-row-preserved : goal.loop-row-preserved
loop-row-preserved c =
    let hs = from_row c.loop-row.least c.loop-row.hits in
    let inv = c.loop-row.invariant in
    let first : Some c.in-Some.row ≡ first_row hs = c.in-Some.ensures.answer in
    let passed = ap (from_row (c.in-Some.row + 1)) c.next_from.ensures.left ∙ passed_first inv.field inv.least c.in-Some.row hs first inv.fit in
    let keeping : IsKeeping c.args.numbers.now c.args.hits (rest_of hs) c.match-numbers-row.kept =
    elim c.match-numbers-row.branch [
      | in-Some-numbers+in_ok-push_hit w ↦ keeps_one c.args.numbers.now c.args.hits hs c.loop-row.kept c.match-numbers-row.kept c.in-Some.row w.in-Some-numbers.number first w.in-Some-numbers.is
          (w.kept-is ∙ w.in_ok-push_hit.ensures ∙ ap (λ (ps : List ℕ). c.loop-row.kept ++ (w.in-Some-numbers.number, ps) ∷ []) (w.positions.ensures.value ∙ ap first_positions c.next_from.ensures.left)) inv
      | in_default-numbers w ↦ keeps_none c.args.numbers.now c.args.hits hs c.match-numbers-row.kept c.in-Some.row first (never_some (get_or c.args.numbers.now c.in-Some.row None) w.in_default-numbers.not-Some) (subst (IsKeeping c.args.numbers.now c.args.hits hs) (sym w.kept-is) inv)
    ] in
    subst (λ (xs : List Hit). IsKeeping c.args.numbers.now c.args.hits xs c.match-numbers-row.kept) (sym passed) keeping
