use Rattle.std.proofs.Common.{◌||◌, Bool, true, inl, ap}
use Rattle.std.proofs.lemmas.Bool.{lt-ltb}
use Rattle.history_rules.specs.Nodes.{is_running}
use Rattle.history_rules.specs.Rules.{is_unbegun, fetches_at}
use Rattle.history_book.specs.Log.{printed}
use Rattle.cluster_recovery.proofs.StaysDown.{or_holds}
use Rattle.cluster_recovery.proofs.down.show_first.Goals as goal

pub show-requires-clause-rule : goal.show-requires-clause-rule
show-requires-clause-rule c =
    let past = printed c.args.ledger.now.log in
    record {
      node = c.requires.node;
      planned = c.requires.planned (lt-ltb c.args.before c.args.now c.if-before-now.true);
      at_work = inl c.requires.unanswered;
      fetched = ap (λ (b : Bool). b || fetches_at c.args.ledger.now.nodes c.args.at past c.args.n.0) c.requires.disk;
      alive = or_holds (is_running c.args.n.0 past) (ap is_unbegun c.requires.unbegun);
    }
