use Rattle.std.proofs.Common.{◌∙◌, sym, refl}
use Rattle.file_names.proofs.ReadingLemmas.{none_refused, passing_spelled, number_read, large_read}
use Rattle.file_names.proofs.NameLemmas.{all_pass}
use Rattle.file_names.specs.Base36.{is_base36_digit}
use Rattle.file_names.proofs.radix.read_base36.Goals as goal

pub returns-in-Some-clause-number : goal.returns-in-Some-clause-number
returns-in-Some-clause-number c = λ n. (λ e. absurd cc, λ s. let h = c.in-Some.ensures in absurd (none_refused is_base36_digit c.args.bytes.now c.in-Some.at s.0.digits (sym h)))

pub returns-in-Some-clause-leading : goal.returns-in-Some-clause-leading
returns-in-Some-clause-leading c = (λ e. absurd cc, λ s. let h = c.in-Some.ensures in absurd (none_refused is_base36_digit c.args.bytes.now c.in-Some.at s.0 (sym h)))

pub returns-in-Some-clause-large : goal.returns-in-Some-clause-large
returns-in-Some-clause-large c = (λ e. absurd cc, λ s. let h = c.in-Some.ensures in absurd (none_refused is_base36_digit c.args.bytes.now c.in-Some.at s.1.digits (sym h)))

pub value_of-requires : goal.value_of-requires
value_of-requires c = all_pass is_base36_digit c.args.bytes.now (sym c.first_not_digit.ensures ∙ c.in_default.is)

pub returns-then-has_leading_zero-clause-leading : goal.returns-then-has_leading_zero-clause-leading
returns-then-has_leading_zero-clause-leading c =
    (λ _. (all_pass is_base36_digit c.args.bytes.now (sym c.first_not_digit.ensures ∙ c.in_default.is), sym c.has_leading_zero.ensures ∙ c.if-has_leading_zero.true), λ _. refl)

pub returns-in-Some-value_of-clause-number : goal.returns-in-Some-value_of-clause-number
returns-in-Some-value_of-clause-number c =
    let s = passing_spelled c.args.bytes.now c.is_empty.result c.if-is_empty.false c.is_empty.ensures (sym c.first_not_digit.ensures ∙ c.in_default.is) (sym c.has_leading_zero.ensures ∙ c.if-has_leading_zero.false) in
    let v = c.in-Some-value_of.ensures in
    number_read c.args.bytes.now c.in-Some-value_of.n s v.0 v.1

pub returns-in-None-clause-large : goal.returns-in-None-clause-large
returns-in-None-clause-large c =
    let s = passing_spelled c.args.bytes.now c.is_empty.result c.if-is_empty.false c.is_empty.ensures (sym c.first_not_digit.ensures ∙ c.in_default.is) (sym c.has_leading_zero.ensures ∙ c.if-has_leading_zero.false) in
    large_read c.args.bytes.now s c.in-None.ensures
