use Rattle.std.proofs.Common.{◌≡◌, length, [], Some, ap, arith}
use Rattle.std.proofs.lemmas.Bool.Decides.{nat_tests}
use Rattle.file_names.proofs.read_names.marked.Goals as goal

pub returns-in-Some-clause-all : goal.returns-in-Some-clause-all
returns-in-Some-clause-all c = λ n low e. ap Some (c.in-Some.ensures.all [] n low e).1

pub returns-in_default-clause-all : goal.returns-in_default-clause-all
returns-in_default-clause-all c = λ n low e.
    let gone : c.in-Some.front.now ≡ [] = (c.in-Some.ensures.all [] n low e).0 in
    absurd (grind (arith, nat_tests, ap length gone))

pub returns-in_default-2-clause-all : goal.returns-in_default-2-clause-all
returns-in_default-2-clause-all c = λ n low e. let found = c.numbered.ensures.all [] n low e in absurd (rw c.in_default.is at found)
