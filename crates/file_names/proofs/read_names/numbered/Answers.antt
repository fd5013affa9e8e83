use Rattle.std.proofs.Common.{◌+◌, ◌++◌, codes, Some, None, sym, ◌∙◌}
use Rattle.std.proofs.lemmas.Bool.Decides.{Decides-eqb}
use Rattle.std.proofs.lemmas.Slice.Eq.{strip_suffix_is}
use Rattle.std.proofs.lemmas.Option.{same_Some}
use Rattle.std.proofs.lemmas.List.{take_rest}
use Rattle.file_names.specs.Base36.{base36_of}
use Rattle.file_names.proofs.NameReading.{numbered_is, before_ending, cut_there, not_none}
use Rattle.file_names.proofs.read_names.numbered.Goals as goal

pub returns-in_err-front-clause-all : goal.returns-in_err-front-clause-all
returns-in_err-front-clause-all c = λ made n low e.
    absurd (strip_suffix_is Decides-eqb c.args.name.now c.args.ending.now None c.in_err-front.ensures.cases (made ++ codes "_" ++ base36_of n) e)

pub returns-in_err-n-clause-all : goal.returns-in_err-n-clause-all
returns-in_err-n-clause-all c = λ made n low e.
    let front = c.in_ok-front.front.now in
    let is = strip_suffix_is Decides-eqb c.args.name.now c.args.ending.now (Some c.in_ok-front.front) c.in_ok-front.ensures.cases in
    let mark = c.in_ok-at.ensures in
    let there = cut_there front made c.in_ok-at.at n low mark.1 mark.2 (before_ending c.args.name.now front c.args.ending.now made n is e) in
    absurd (not_none n (c.in_err-n.ensures.all n low (take_rest front (c.in_ok-at.at + 1) ∙ there.1)))

pub returns-clause-some : goal.returns-clause-some
returns-clause-some c =
    let front = c.in_ok-front.front.now in
    let is = strip_suffix_is Decides-eqb c.args.name.now c.args.ending.now (Some c.in_ok-front.front) c.in_ok-front.ensures.cases in
    let read = c.in_ok-n.ensures.some in
    (read.0, numbered_is c.args.name.now front c.args.ending.now c.in_ok-at.at c.in_ok-n.n is c.in_ok-at.ensures.1 (sym (take_rest front (c.in_ok-at.at + 1)) ∙ read.1))

pub returns-clause-all : goal.returns-clause-all
returns-clause-all c = λ made n low e.
    let front = c.in_ok-front.front.now in
    let is = strip_suffix_is Decides-eqb c.args.name.now c.args.ending.now (Some c.in_ok-front.front) c.in_ok-front.ensures.cases in
    let mark = c.in_ok-at.ensures in
    let there = cut_there front made c.in_ok-at.at n low mark.1 mark.2 (before_ending c.args.name.now front c.args.ending.now made n is e) in
    (there.0, same_Some c.in_ok-n.n n (c.in_ok-n.ensures.all n low (take_rest front (c.in_ok-at.at + 1) ∙ there.1)))
