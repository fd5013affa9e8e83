use Rattle.std.proofs.Common.{◌-◌, ◌/◌, sym, ap, subst, ◌∙◌, arith, ℕ, set, drop}
use Rattle.file_names.proofs.SpellingLemmas.{Spelled, spelled_more, spelled_end, spelled_lies}
use Rattle.file_names.proofs.numeral.Base36.of.Goals as goal

pub loop-rest-preserved : goal.loop-rest-preserved
loop-rest-preserved c =
    subst (λ (d : ℕ). Spelled c.args.n (set c.loop-rest.bytes c.loop-rest.start d) (c.loop-rest.start - 1) (c.loop-rest.rest / 36)) (sym c.digit.ensures)
    (spelled_more c.args.n c.loop-rest.bytes c.loop-rest.start c.loop-rest.rest c.loop-rest-test.true c.loop-rest.invariant)

pub invariant_of-result : goal.invariant_of-result
invariant_of-result c =
    rw c.digit-2.ensures (spelled_lies c.args.n c.loop-rest.bytes c.loop-rest.start c.loop-rest.rest (omega arith) (omega arith) c.loop-rest.invariant)

pub returns : goal.returns
returns c =
    ap (λ (d : ℕ). drop c.loop-rest.start (set c.loop-rest.bytes c.loop-rest.start d)) c.digit-2.ensures
    ∙ spelled_end c.args.n c.loop-rest.bytes c.loop-rest.start c.loop-rest.rest (omega arith) c.loop-rest.invariant
