use Rattle.std.proofs.Common.{inl}
use Rattle.history_book.specs.Log.{printed}
use Rattle.history_book.proofs.FreshLaws.{fresh}
use Rattle.cluster_documents.proofs.publishes.accept.Goals as goal

pub accept_at-requires-clause-begun : goal.accept_at-requires-clause-begun
accept_at-requires-clause-begun g c = (fresh c.args.at (printed c.args.state.now.log) c.requires.fresh).begun

pub accept_at-requires-clause-spared : goal.accept_at-requires-clause-spared
accept_at-requires-clause-spared g c = inl (fresh c.args.at (printed c.args.state.now.log) c.requires.fresh).spared
