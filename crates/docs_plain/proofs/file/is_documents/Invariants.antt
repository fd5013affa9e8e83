use Rattle.docs_plain.proofs.BodyLaws.{AreRowsBelow}
use Rattle.docs_plain.proofs.file.is_documents.Given as goal

abbrev pub invariant-loop-place : goal.invariant-loop-place
invariant-loop-place l = AreRowsBelow l.body l.place
