use Rattle.std.proofs.Common.{refl}
use Rattle.query_eval.proofs.WindowLemmas.{first_ones}
use Rattle.query_eval.proofs.search.first_bits.Goals as goal

pub returns : goal.returns
returns c = first_ones c.args.count c.min.result _ _ c.min.ensures refl refl
