use Rattle.std.proofs.Common.{ℕ, Some, subst, sym}
use Rattle.history_book.specs.Log.{Log}
use Rattle.history_book.specs.Jobs.{IsInside}
use Rattle.history_book.specs.declared.inner.Inner.TheVariants.{JobBegun}
use Rattle.cluster_copies.proofs.met.note_job.Goals as goal

pub keep-requires-clause-turn : goal.keep-requires-clause-turn
keep-requires-clause-turn g c = subst (λ (x : ℕ × Log). IsInside x.0 x.1 (JobBegun c.args.at.line c.args.n c.args.job (Some c.args.v) (Some c.args.at))) (λ i. (sym c.show_met.ensures.nodes i, sym c.show_met.ensures.log i)) c.requires.inside
