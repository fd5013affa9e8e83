use Rattle.std.proofs.Common.{◌∙◌, sym, ap, arith, length}
use Rattle.std.proofs.lemmas.List.{nil_from_length}
use Rattle.std.proofs.lemmas.Bool.{eqb-true, eq-eqb}
use Rattle.nrt_base.proofs.Plain.{false_never}
use Rattle.postings_plain.proofs.Judging.{entry_test, goes_past, never_read}
use Rattle.postings_plain.proofs.body.entry_end.Goals as goal

pub returns-in_err-end : goal.returns-in_err-end
returns-in_err-end c = let n = c.in_err-end.ensures in rw c.from_residual.ensures (never_read c.args.format c.args.item.now n)

pub returns-then-is_empty : goal.returns-then-is_empty
returns-then-is_empty c =
    let n = c.in_ok-end.ensures in
    let none = nil_from_length c.in_ok-end.rest.now (eqb-true _ _ (sym c.is_empty.ensures ∙ c.if-is_empty.true)) in
    entry_test c.args.format c.args.item.now c.in_ok-end.rest.now c.in_ok-end.end n.0 (λ i. omega (arith, c.type_inv.item i)) n.1 n.2 none

pub returns-else-is_empty : goal.returns-else-is_empty
returns-else-is_empty c =
    let n = c.in_ok-end.ensures in
    goes_past c.args.format c.args.item.now c.in_ok-end.rest.now n.0 n.1 (λ none. false_never c.is_empty.result c.if-is_empty.false (c.is_empty.ensures ∙ eq-eqb _ _ (ap length none)))
