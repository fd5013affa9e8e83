use Rattle.std.proofs.Common.{◌∷◌, sym, arith}
use Rattle.postings_plain.proofs.Finding.{up, down, is_not_there, same_key}
use Rattle.postings_plain.proofs.find.find.Goals as goal

pub loop-low-preserved-in-Less : goal.loop-low-preserved-in-Less
loop-low-preserved-in-Less c = λ format es p.
    let h = c.in-Less.ensures in
    up format c.args.body.now es (c.args.field ∷ c.args.term.now) c.loop-low.low c.loop-low.high _ p (c.loop-low.invariant format es p) (omega arith) (sym (h format es p))

pub loop-low-preserved : goal.loop-low-preserved
loop-low-preserved c = λ format es p.
    let h = c.in-Greater.ensures in
    down format c.args.body.now es (c.args.field ∷ c.args.term.now) c.loop-low.low c.loop-low.high _ p (c.loop-low.invariant format es p) (omega arith) (sym (h format es p))

pub returns-in-Equal : goal.returns-in-Equal
returns-in-Equal c = λ format es p.
    let h = c.in-Equal.ensures in
    let b = c.loop-low.invariant format es p in
    (omega (arith, b.within), same_key _ (c.args.field ∷ c.args.term.now) (sym (h format es p)))

pub returns : goal.returns
returns c = λ format es p. is_not_there es (c.args.field ∷ c.args.term.now) c.loop-low.low c.loop-low.high (c.loop-low.invariant format es p) c.loop-low-test.false
