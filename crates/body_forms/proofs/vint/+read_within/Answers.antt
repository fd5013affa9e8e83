use Rattle.std.proofs.Common.{◌-◌, ◌∙◌, arith}
use Rattle.body_forms.proofs.VIntLemmas.{none_read, last_read, long_read, end_read, on_read, rest_below, rest_few, limit_most, err_of}
use Rattle.body_forms.proofs.vint.+read_within.Goals as goal

pub returns-in-empty : goal.returns-in-empty
returns-in-empty t c = none_read c.args.more c.args.bytes.now (omega arith)

pub returns-then-first-lt16 : goal.returns-then-first-lt16
returns-then-first-lt16 t c = last_read c.args.more c.from-first.result c.args.bytes.now c.if-more-eq0.true c.in-len1-up.len_at_least c.from-first.ensures c.if-first-lt16.true

pub returns-else-first-lt16 : goal.returns-else-first-lt16
returns-else-first-lt16 t c = long_read c.args.more c.from-first.result c.args.bytes.now c.if-more-eq0.true c.in-len1-up.len_at_least c.from-first.ensures c.if-first-lt16.false

pub returns-then-first-lt128 : goal.returns-then-first-lt128
returns-then-first-lt128 t c = end_read c.args.more c.from-first.result c.args.bytes.now (omega arith) c.in-len1-up.len_at_least c.from-first.ensures c.if-first-lt128.true

pub returns-in_err-high-in-len1-up : goal.returns-in_err-high-in-len1-up
returns-in_err-high-in-len1-up t c =
    let e = c.in_err-high-in-len1-up.ensures in
    err_of c.from_residual.result _ c.from_residual.ensures.1 ∙ on_read c.args.more c.from-first.result c.args.bytes.now _ (omega arith) c.in-len1-up.len_at_least c.from-first.ensures c.if-first-lt128.false e

pub overflow_mul-result : goal.overflow_mul-result
overflow_mul-result t c =
    let e = c.in_ok-high-in-len1-up.ensures in
    let below = rest_below (c.args.more - 1) c.in_ok-high-in-len1-up.high c.in_ok-high-in-len1-up.taken c.args.bytes.now (λ i. omega (arith, c.type_inv.bytes i)) c.in-len1-up.len_at_least e in
    omega (arith, limit_most c.args.more c.in_ok-high-in-len1-up.high (omega arith) c.requires below)

pub overflow_add-result : goal.overflow_add-result
overflow_add-result t c =
    let e = c.in_ok-high-in-len1-up.ensures in
    let below = rest_below (c.args.more - 1) c.in_ok-high-in-len1-up.high c.in_ok-high-in-len1-up.taken c.args.bytes.now (λ i. omega (arith, c.type_inv.bytes i)) c.in-len1-up.len_at_least e in
    omega (arith, limit_most c.args.more c.in_ok-high-in-len1-up.high (omega arith) c.requires below, c.from-first.ensures, c.type_inv.bytes 0)

pub overflow_add-result-else-first-lt128 : goal.overflow_add-result-else-first-lt128
overflow_add-result-else-first-lt128 t c =
    let e = c.in_ok-high-in-len1-up.ensures in
    omega (arith, rest_few (c.args.more - 1) c.in_ok-high-in-len1-up.high c.in_ok-high-in-len1-up.taken c.args.bytes.now (λ i. omega (arith, c.type_inv.bytes i)) c.in-len1-up.len_at_least e)

pub returns-in_ok-high-in-len1-up : goal.returns-in_ok-high-in-len1-up
returns-in_ok-high-in-len1-up t c =
    let e = c.in_ok-high-in-len1-up.ensures in
    on_read c.args.more c.from-first.result c.args.bytes.now _ (omega arith) c.in-len1-up.len_at_least c.from-first.ensures c.if-first-lt128.false e
