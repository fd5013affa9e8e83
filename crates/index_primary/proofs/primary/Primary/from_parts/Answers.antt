use Rattle.index_primary.proofs.Framing.{none_short}
use Rattle.index_primary.proofs.primary.Primary.from_parts.Goals as goal

pub open-requires-clause-completed : goal.open-requires-clause-completed
open-requires-clause-completed g c = none_short c.new-6.result c.new-6.ensures
