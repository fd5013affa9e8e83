use Rattle.std.proofs.Common.{sym, ◌∙◌, arith}
use Rattle.docs_plain.proofs.RowLaws.{row_test, no_row, true_and, false_and}
use Rattle.docs_plain.proofs.row.is_row.Goals as goal

pub returns-then-is_key : goal.returns-then-is_key
returns-then-is_key c =
    let e = c.in-Some.ensures in
    row_test c.args.item.now c.in-Some.key.now c.in-Some.text.now c.is_text.result (λ i. omega (arith, c.type_inv.item i)) e (true_and _ _ _ (sym c.is_key.ensures ∙ c.if-is_key.true) c.is_text.ensures)

pub returns-else-is_key : goal.returns-else-is_key
returns-else-is_key c =
    let e = c.in-Some.ensures in
    row_test c.args.item.now c.in-Some.key.now c.in-Some.text.now c.is_key.result (λ i. omega (arith, c.type_inv.item i)) e (false_and _ _ _ (sym c.is_key.ensures ∙ c.if-is_key.false) c.if-is_key.false)

pub returns-in-None : goal.returns-in-None
returns-in-None c = let e = c.in-None.ensures in no_row c.args.item.now e
