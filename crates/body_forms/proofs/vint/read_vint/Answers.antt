use Rattle.std.proofs.Common.{arith}
use Rattle.body_forms.proofs.VIntLemmas.{number_clause, short_clause, long_clause}
use Rattle.body_forms.proofs.vint.read_vint.Goals as goal

pub returns-clause-number : goal.returns-clause-number
returns-clause-number c = number_clause c.args.bytes.now c.read_within.result (λ i. omega (arith, c.type_inv.bytes i)) c.read_within.ensures

pub returns-clause-short : goal.returns-clause-short
returns-clause-short c = short_clause c.args.bytes.now c.read_within.result (λ i. omega (arith, c.type_inv.bytes i)) c.read_within.ensures

pub returns-clause-long : goal.returns-clause-long
returns-clause-long c = long_clause c.args.bytes.now c.read_within.result (λ i. omega (arith, c.type_inv.bytes i)) c.read_within.ensures
