use Rattle.body_forms.specs.Numbers.{difference, MayCome, above}
use Rattle.postings_plain.proofs.ChainWriting.{IsWritten}
use Rattle.postings_plain.proofs.encoding.push_ascending.Given as goal

abbrev pub invariant-loop-number : goal.invariant-loop-number
invariant-loop-number l = IsWritten difference MayCome above 0 l.initial.out.items l.numbers l.number-index l.least l.out.items
