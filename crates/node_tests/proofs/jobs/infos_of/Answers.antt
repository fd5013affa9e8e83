use Rattle.std.proofs.Common.{◌∙◌, ap, arith, List, ◌++◌, ◌∷◌, []}
use Rattle.segment_infos.specs.declared.infos.SegRecord.{SegRecord}
use Rattle.node_tests.proofs.Listing.{one_spelled}
use Rattle.node_tests.proofs.jobs.infos_of.Goals as goal

pub returns-clause-can : goal.returns-clause-can
returns-clause-can c =
    one_spelled _ _ c.requires.generation c.requires.version (record { most = omega arith; all = λ e. omega arith })
    (c.in_ok-push.ensures.ok ∙ ap (λ (rs : List SegRecord). rs ++ _ ∷ []) c.new-segs.ensures)
