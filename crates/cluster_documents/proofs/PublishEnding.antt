-- How a publish ends, by whether its line is lost.
use Rattle.std.proofs.Common.{◌≡◌, ◌==◌, Bool, true, false, ap, ◌∙◌, sym, subst}
use Rattle.std.specs.Prelude.{not}
use Rattle.nrt_base.specs.declared.numbers.At.{At}
use Rattle.history_rules.specs.declared.cause.Cause.TheVariants.{Lost}
use Rattle.history_rules.specs.Nodes.{primary_crashes}
use Rattle.history_rules.specs.Lines.{before_start}
use Rattle.history_book.specs.Log.{Log, printed}
use Rattle.cluster_state.specs.Run.{Run}
use Rattle.cluster_state.specs.Calls.{LineRefused}
use Rattle.cluster_state.specs.GivesUp.{PublishEnds, PublishEndsBy, EndsPublish}

module _ (at : At) (old new : Run) (log : Log) (survives : Bool) (same : log ≡ old.log) (told : survives ≡ (primary_crashes (printed log) == primary_crashes (before_start at (printed log)))) where
  pub here : survives ≡ (primary_crashes (printed old.log) == primary_crashes (before_start at (printed old.log)))
  here = told ∙ ap (λ (l : Log). primary_crashes (printed l) == primary_crashes (before_start at (printed l))) same

  pub ends_lost : survives ≡ false → LineRefused at Lost old new → EndsPublish at old new
  ends_lost lost refused = subst (λ (b : Bool). PublishEndsBy b at old new) (sym (ap not (sym here ∙ lost))) refused

  pub ends_made : survives ≡ true → (published : Bool) → PublishEnds at old new published → EndsPublish at old new
  ends_made lives published ends = subst (λ (b : Bool). PublishEndsBy b at old new) (sym (ap not (sym here ∙ lives))) (published, ends)
