use Rattle.std.proofs.Common.{◌+◌, ◌∷◌, subst}
use Rattle.std.specs.Prelude.{OnOk}
use Rattle.documents.specs.declared.operation.Op.{Op}
use Rattle.history_rules.specs.declared.entry.Event.TheVariants.{Accepted}
use Rattle.history_rules.specs.Nodes.{accepted_count}
use Rattle.history_book.specs.Log.{printed, shown}
use Rattle.cluster_state.specs.Run.{IsNow}
use Rattle.cluster_site.proofs.Replays.{rest_same}
use Rattle.cluster_site.proofs.replaying.accept_one.Goals as goal

pub accept_again-requires-clause-begun : goal.accept_again-requires-clause-begun
accept_again-requires-clause-begun g c = c.requires.may.begun

pub accept_again-requires-clause-replied : goal.accept_again-requires-clause-replied
accept_again-requires-clause-replied g c = c.requires.may.replied

pub accept_again-requires-clause-primary : goal.accept_again-requires-clause-primary
accept_again-requires-clause-primary g c = c.requires.may.primary

pub returns-in-Ok-clause-ok : goal.returns-in-Ok-clause-ok
returns-in-Ok-clause-ok g c =
    subst (λ (o : Op). OnOk c.accept_again.result (IsNow c.args.cluster.now c.accept_again.new.self (shown c.args.at (Accepted (accepted_count (printed c.args.cluster.now.log) + 1) o) ∷ c.args.cluster.now.log))) c.in-Ok.ensures c.accept_again.ensures.ok

pub returns-in-Ok-clause-rest : goal.returns-in-Ok-clause-rest
returns-in-Ok-clause-rest g c = rest_same c.accept_again.result c.args.cluster.now c.accept_again.new.self c.accept_again.ensures.rest c.accept_again.ensures.plans c.accept_again.ensures.names
