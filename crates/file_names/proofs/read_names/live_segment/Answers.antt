use Rattle.std.proofs.Common.{◌++◌, codes, sym, ◌∙◌}
use Rattle.std.proofs.lemmas.List.{append-nil}
use Rattle.file_names.specs.Base36.{base36_of}
use Rattle.file_names.proofs.read_names.live_segment.Goals as goal

pub returns-in_err-front-clause-all : goal.returns-in_err-front-clause-all
returns-in_err-front-clause-all c = λ n live_gen low low_gen e. absurd (c.in_err-front.ensures.all (codes "_" ++ base36_of n) live_gen low_gen e)

pub returns-clause-all : goal.returns-clause-all
returns-clause-all c = λ n live_gen low low_gen e.
    let front = (c.in_ok-front.ensures.all (codes "_" ++ base36_of n) live_gen low_gen e).0 in
    c.marked.ensures.all n low (front ∙ sym (append-nil (codes "_" ++ base36_of n)))
