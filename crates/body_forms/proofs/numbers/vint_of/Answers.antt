use Rattle.std.proofs.Common.{◌∙◌, sym, ap, arith, Some, List, ℕ}
use Rattle.body_forms.proofs.VIntLemmas.{read_is}
use Rattle.body_forms.proofs.Numerals.{one_byte, shortest, not_shortest, longer}
use Rattle.body_forms.proofs.numbers.vint_of.Goals as goal
use Rattle.body_forms.proofs.numbers.vint_of.Goals.{in_default-read_vint-via-in-Ok+else-taken-vint_len, in_default-read_vint-via-in_default-read_vint}

pub returns-in-len1-up : goal.returns-in-len1-up
returns-in-len1-up c = one_byte c.from.result c.args.bytes.now c.in-len1-up.len_at_least c.from.ensures c.if-b-lt128.true

pub split_at-requires : goal.split_at-requires
split_at-requires c = ((c.read_vint.ensures.number c.in-Ok.n c.in-Ok.taken).0 c.in-Ok.is).within

pub returns-in-Ok : goal.returns-in-Ok
returns-in-Ok c =
    let read = read_is c.args.bytes.now c.read_vint.result (λ i. omega (arith, c.type_inv.bytes i)) c.read_vint.ensures.number c.read_vint.ensures.short c.read_vint.ensures.long in
    ap (λ (t : List ℕ). Some (c.in-Ok.n, t)) c.split_at.ensures.back
    ∙ shortest c.in-Ok.n c.in-Ok.taken c.args.bytes.now c.vint_len.result (sym c.in-Ok.is ∙ read) c.vint_len.ensures c.if-taken-vint_len.true

pub returns-in_default-read_vint : goal.returns-in_default-read_vint
returns-in_default-read_vint c =
    let read = read_is c.args.bytes.now c.read_vint.result (λ i. omega (arith, c.type_inv.bytes i)) c.read_vint.ensures.number c.read_vint.ensures.short c.read_vint.ensures.long in
    not_shortest c.args.bytes.now c.read_vint.result read (λ n taken e same. elim c.in_default-read_vint.branch [
      | in_default-read_vint-via-in-Ok+else-taken-vint_len w ↦ longer w.in-Ok.n w.in-Ok.taken w.vint_len.result n taken (sym w.in-Ok.is ∙ e) w.vint_len.ensures w.if-taken-vint_len.false same
      | in_default-read_vint-via-in_default-read_vint w ↦ w.in_default-read_vint.not-Ok (n, taken) e
    ])
