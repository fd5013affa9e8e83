use Rattle.std.proofs.Common.{◌≡◌, ◌++◌, drop, map}
use Rattle.std.specs.Fmt.{decimal}
use Rattle.report_text.specs.Texts.{all_spaced}
use Rattle.report_text.proofs.words.push_numbers.Given as goal

abbrev pub invariant-loop-number : goal.invariant-loop-number
invariant-loop-number l =
    l.out.items ++ all_spaced (map decimal (drop l.number-index l.numbers)) ≡ l.fn.out.items ++ all_spaced (map decimal l.numbers)
