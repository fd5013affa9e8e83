use Rattle.std.proofs.Common.{◌≡◌, ◌∙◌, sym, ap, arith}
use Rattle.std.proofs.lemmas.Bool.{eqb-true, eq-eqb}
use Rattle.body_forms.specs.ItemTable.{item_count_in, item_start_in}
use Rattle.body_forms.proofs.TableTests.{fails, last_test}
use Rattle.body_forms.proofs.item_table.is_item_table.Goals as goal

pub returns-then-bytes-lt8 : goal.returns-then-bytes-lt8
returns-then-bytes-lt8 c = fails c.args.bytes.now (λ p. omega (arith, p.long, c.if-bytes-lt8.true))

pub returns-then-bytes-count : goal.returns-then-bytes-count
returns-then-bytes-count c = fails c.args.bytes.now (λ p. omega (arith, p.long, c.if-bytes-count.true, c.number_from-count.ensures))

pub returns-then-area-gt4294967295 : goal.returns-then-area-gt4294967295
returns-then-area-gt4294967295 c = fails c.args.bytes.now (λ p. omega (arith, p.small, c.if-area-gt4294967295.true, c.number_from-count.ensures))

pub returns-then-number_from-ne0 : goal.returns-then-number_from-ne0
returns-then-number_from-ne0 c = fails c.args.bytes.now (λ p. c.if-number_from-ne0.true (c.number_from.ensures ∙ p.zero_first))

pub returns-then-start-end : goal.returns-then-start-end
returns-then-start-end c = fails c.args.bytes.now (λ p.
    let r = p.rise c.loop-i.i (omega (arith, c.loop-i-test.true, c.number_from-count.ensures)) in
    omega (arith, r, c.if-start-end.true, c.number_from-start.ensures, c.number_from-end.ensures))

pub returns : goal.returns
returns c =
    let n = c.number_from-count.ensures in
    let at_count : item_start_in c.args.bytes.now (item_count_in c.args.bytes.now) ≡ c.number_from-2.result = ap (item_start_in c.args.bytes.now) (sym n) ∙ sym c.number_from-2.ensures in
    last_test c.args.bytes.now _
    (λ h. record {
      long = omega (arith, n, c.if-bytes-count.false);
      small = omega (arith, n, c.if-area-gt4294967295.false);
      zero_first = sym c.number_from.ensures ∙ c.if-number_from-ne0.false;
      rise = λ i h. c.loop-i.invariant i (omega (arith, h, n, c.loop-i-test.false));
      last = at_count ∙ eqb-true _ _ h ∙ omega (arith, n);
    })
    (λ p. eq-eqb _ _ (sym at_count ∙ p.last ∙ omega (arith, n)))
    (λ i. omega (arith, c.type_inv.bytes i))
