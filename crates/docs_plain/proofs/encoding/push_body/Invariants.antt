use Rattle.docs_plain.proofs.WritingLaws.{HasRows}
use Rattle.docs_plain.proofs.encoding.push_body.Given as goal

abbrev pub invariant-loop-doc : goal.invariant-loop-doc
invariant-loop-doc l = HasRows l.docs l.doc-index l.offsets.items l.area.items
