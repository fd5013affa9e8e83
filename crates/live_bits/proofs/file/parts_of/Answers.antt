use Rattle.std.proofs.Common.{sym, ◌∙◌, arith}
use Rattle.live_bits.proofs.Bodies.{no_first, no_second, passes, holds, nothing}
use Rattle.live_bits.proofs.file.parts_of.Goals as goal

pub returns-in_err-rows-clause-none : goal.returns-in_err-rows-clause-none
returns-in_err-rows-clause-none c =
    let e = c.in_err-rows.ensures in
    nothing _ _ c.from_residual.ensures (no_first c.args.body.now e)

pub returns-in_err-live-clause-none : goal.returns-in_err-live-clause-none
returns-in_err-live-clause-none c =
    let e = c.in_ok-rows.ensures in
    let f = c.in_err-live.ensures in
    nothing _ _ c.from_residual-in_err-live.ensures (no_second c.args.body.now c.in_ok-rows.rest.now c.in_ok-rows.rows e f)

pub returns-then-bits-bytes_for-clause-none : goal.returns-then-bits-bytes_for-clause-none
returns-then-bits-bytes_for-clause-none c = λ live s.
    let e = c.in_ok-rows.ensures in
    let f = c.in_ok-live.ensures in
    let p = passes c.args.body.now c.in_ok-rows.rows c.in_ok-live.live c.in_ok-live.bits.now (record { rest = c.in_ok-rows.rest.now; first = e; second = f }) live s in
    c.if-bits-bytes_for.true (p.long ∙ sym c.bytes_for.ensures)

pub returns-then-not-ends_clear-clause-none : goal.returns-then-not-ends_clear-clause-none
returns-then-not-ends_clear-clause-none c = λ live s.
    let e = c.in_ok-rows.ensures in
    let f = c.in_ok-live.ensures in
    let p = passes c.args.body.now c.in_ok-rows.rows c.in_ok-live.live c.in_ok-live.bits.now (record { rest = c.in_ok-rows.rest.now; first = e; second = f }) live s in
    let is = c.ends_clear.ensures.1 p.clear in
    let not = c.if-not-ends_clear.true in
    cc

pub returns-then-count_set-from-clause-none : goal.returns-then-count_set-from-clause-none
returns-then-count_set-from-clause-none c = λ live s.
    let e = c.in_ok-rows.ensures in
    let f = c.in_ok-live.ensures in
    let p = passes c.args.body.now c.in_ok-rows.rows c.in_ok-live.live c.in_ok-live.bits.now (record { rest = c.in_ok-rows.rest.now; first = e; second = f }) live s in
    c.if-count_set-from.true (c.count_set.ensures ∙ p.count ∙ sym c.from.ensures)

pub returns-clause-some : goal.returns-clause-some
returns-clause-some c =
    let e = c.in_ok-rows.ensures in
    let f = c.in_ok-live.ensures in
    holds c.args.body.now c.in_ok-rows.rows c.in_ok-live.live c.in_ok-live.bits.now (λ i. omega (arith, c.type_inv.body i)) (record { rest = c.in_ok-rows.rest.now; first = e; second = f })
    (record { long = c.if-bits-bytes_for.false ∙ c.bytes_for.ensures; clear = c.ends_clear.ensures.0 c.if-not-ends_clear.false; count = sym c.count_set.ensures ∙ c.if-count_set-from.false ∙ c.from.ensures })
