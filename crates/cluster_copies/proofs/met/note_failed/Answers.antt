use Rattle.std.proofs.Common.{ℕ, subst, sym}
use Rattle.history_rules.specs.declared.entry.Event.TheVariants.{Refused}
use Rattle.history_rules.specs.Legal.{KeepsRule}
use Rattle.history_book.specs.Log.{Log, printed}
use Rattle.history_book.specs.Turns.{InTurn}
use Rattle.history_book.specs.Told.{IsSo}
use Rattle.cluster_copies.proofs.met.note_failed.Goals as goal

pub show-requires-clause-rule : goal.show-requires-clause-rule
show-requires-clause-rule g c = subst (λ (x : ℕ × Log). KeepsRule x.0 (printed x.1) c.args.at (Refused c.args.cause)) (λ i. (sym c.show_met.ensures.nodes i, sym c.show_met.ensures.log i)) c.requires.rule

pub show-requires-clause-turn : goal.show-requires-clause-turn
show-requires-clause-turn g c = subst (λ (l : Log). InTurn (printed l) c.args.at (Refused c.args.cause)) (sym c.show_met.ensures.log) c.requires.turn

pub show-requires-clause-told : goal.show-requires-clause-told
show-requires-clause-told g c = subst (λ (l : Log). IsSo l c.args.at (Refused c.args.cause)) (sym c.show_met.ensures.log) c.requires.told
