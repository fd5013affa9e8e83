use Rattle.std.proofs.Common.{List, sym, subst}
use Rattle.std.specs.Map.Iter.{deref_pair}
use Rattle.nrt_base.specs.declared.doc.Doc.{Doc}
use Rattle.history_points.specs.Candidates.{HaveMatches}
use Rattle.history_points.proofs.CandidateLaws.{documents_more}
use Rattle.history_points.proofs.candidates.candidates.Goals as goal

pub loop-key-preserved : goal.loop-key-preserved
loop-key-preserved c =
    subst (λ (all : List Doc). HaveMatches c.args.query.now all c.note_candidate.new.docs.items) (sym (documents_more deref_pair c.loop-key.yielded _))
    (c.in_ok-note_candidate.ensures _ c.loop-key.invariant)
