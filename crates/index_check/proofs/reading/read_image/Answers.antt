use Rattle.std.proofs.Common.{arith, sym, inr}
use Rattle.index_check.proofs.Format.{read_image, no_image, one_image}
use Rattle.index_check.proofs.reading.read_image.Goals as goal

pub returns-in-Some-clause-files : goal.returns-in-Some-clause-files
returns-in-Some-clause-files c =
    let e = rw c.in-Some.is at c.in_ok-files.ensures in
    read_image c.args.bytes.now c.in-Some.files.items (λ i. omega (arith, c.type_inv.bytes i)) (sym e)

pub returns-in-Some-clause-each_image : goal.returns-in-Some-clause-each_image
returns-in-Some-clause-each_image c files is =
    let e = rw c.in-Some.is at c.in_ok-files.ensures in
    inr (one_image c.args.bytes.now c.in-Some.files.items files (sym e) is)

pub returns-in-Some-clause-each_body : goal.returns-in-Some-clause-each_body
returns-in-Some-clause-each_body c none =
    let e = rw c.in-Some.is at c.in_ok-files.ensures in
    absurd (none c.in-Some.files.items (read_image c.args.bytes.now c.in-Some.files.items (λ i. omega (arith, c.type_inv.bytes i)) (sym e)))

pub returns-in-None-clause-body : goal.returns-in-None-clause-body
returns-in-None-clause-body c _ =
    let e = rw c.in-None.is at c.in_ok-files.ensures in
    no_image c.args.bytes.now (sym e)

pub returns-in-None-clause-each_image : goal.returns-in-None-clause-each_image
returns-in-None-clause-each_image c files is =
    let e = rw c.in-None.is at c.in_ok-files.ensures in
    absurd (no_image c.args.bytes.now (sym e) files is)
