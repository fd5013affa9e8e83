use Rattle.std.proofs.Common.{◌++◌, List, ℕ, Some, None, ap, ◌∙◌}
use Rattle.std.proofs.lemmas.Bool.Decides.{Decides-eqb}
use Rattle.std.proofs.lemmas.Option.{IfSome_then}
use Rattle.std.proofs.lemmas.Slice.Eq.{strip_prefix_is}
use Rattle.file_names.specs.Base36.{base36_of}
use Rattle.trans_log.proofs.names.number_behind.Goals as goal

pub returns-in_err-strip_prefix-clause-all : goal.returns-in_err-strip_prefix-clause-all
returns-in_err-strip_prefix-clause-all c = λ n number e. absurd (strip_prefix_is Decides-eqb c.args.name.now c.args.letters.now None c.in_err-strip_prefix.ensures.cases (base36_of n) e)

pub returns-clause-some : goal.returns-clause-some
returns-clause-some c =
    let is = strip_prefix_is Decides-eqb c.args.name.now c.args.letters.now (Some c.in_ok-strip_prefix.field-0) c.in_ok-strip_prefix.ensures.cases in
    IfSome_then c.number_in.result c.number_in.ensures.some (λ n p. (p.0, is ∙ ap (λ (x : List ℕ). c.args.letters.now ++ x) p.1))
