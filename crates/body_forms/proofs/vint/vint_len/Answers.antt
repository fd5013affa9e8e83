use Rattle.std.proofs.Common.{sym, arith}
use Rattle.body_forms.proofs.VIntLemmas.{length_one, length_two, length_three, length_four, length_five}
use Rattle.body_forms.proofs.vint.vint_len.Goals as goal

pub returns-in-0-to-127 : goal.returns-in-0-to-127
returns-in-0-to-127 c = sym (length_one 4 c.args.n (omega arith))

pub returns-in-128-to-16383 : goal.returns-in-128-to-16383
returns-in-128-to-16383 c = sym (length_two 3 c.args.n (omega arith) (omega arith))

pub returns-in-16384-to-2097151 : goal.returns-in-16384-to-2097151
returns-in-16384-to-2097151 c = sym (length_three 2 c.args.n (omega arith) (omega arith))

pub returns-in-2097152-to-268435455 : goal.returns-in-2097152-to-268435455
returns-in-2097152-to-268435455 c = sym (length_four 1 c.args.n (omega arith) (omega arith))

pub returns-in_default : goal.returns-in_default
returns-in_default c = sym (length_five c.args.n (omega arith) (omega arith))
