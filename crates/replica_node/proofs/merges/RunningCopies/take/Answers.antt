use Rattle.std.proofs.Common.{◌∙◌, sym, ap, List, slice_get}
use Rattle.copy_job.specs.Jobs.{Job}
use Rattle.replica_node.proofs.Merging.{found_in}
use Rattle.replica_node.proofs.merges.RunningCopies.take.Goals as goal

pub returns-clause-copy : goal.returns-clause-copy
returns-clause-copy c = c.take_at.ensures.copy ∙ ap (λ (xs : List Job). slice_get xs c.place_of-at.result) (sym c.as_slice.ensures.value)
    ∙ found_in c.args.number c.as_slice.result.now c.args.self.now c.place_of-at.result (c.as_slice.ensures.value ∙ c.self.view_is) c.place_of-at.ensures
