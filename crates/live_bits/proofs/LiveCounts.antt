-- Counts of live rows.
use Rattle.std.proofs.Common.{◌≡◌, ◌+◌, Bool, true, false, cond, List, [], ◌∷◌, length, replicate, refl, ap, arith}
use Rattle.std.proofs.lemmas.List.Sums.{sum_by-cons, count_by-le-length}
use Rattle.live_bits.specs.LiveRows.{live_rows}

pub live_rows-cons : (b : Bool) (rows : List Bool) → live_rows (b ∷ rows) ≡ cond b 1 0 + live_rows rows
live_rows-cons b rows = sum_by-cons (λ (live : Bool). cond live 1 0) b rows

-- as many live rows as rows: each is live
pub each_row_live : (rows : List Bool) → live_rows rows ≡ length rows → rows ≡ replicate (length rows) true
each_row_live [] e = refl
each_row_live (true ∷ rows) e = ap (λ (xs : List Bool). true ∷ xs) (each_row_live rows (omega (arith, live_rows-cons true rows)))
each_row_live (false ∷ rows) e = absurd (omega (arith, live_rows-cons false rows, count_by-le-length (λ (row : Bool). row) rows))
