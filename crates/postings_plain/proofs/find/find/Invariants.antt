use Rattle.std.proofs.Common.{◌-◌, ◌∷◌, List}
use Rattle.postings_plain.specs.declared.format.Format.{Format}
use Rattle.postings_plain.specs.Postings.{Entry}
use Rattle.postings_plain.specs.Body.{SpellsPostings}
use Rattle.postings_plain.proofs.Finding.{Between}
use Rattle.postings_plain.proofs.find.find.Given as goal

abbrev pub invariant-loop-low : goal.invariant-loop-low
invariant-loop-low l = (format : Format) (es : List Entry) → SpellsPostings format l.body es → Between es (l.field ∷ l.term) l.low l.high

abbrev pub decreases-loop-low : goal.decreases-loop-low
decreases-loop-low l = l.high - l.low
