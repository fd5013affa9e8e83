-- A call of a line that asks for no publish adds no answer `none` to one, and a call of one that asks for no merge starts none.
use Rattle.std.proofs.Common.{◌≡◌, ℕ, Bool, true, false, [], ◌∷◌, Option, Some, None, subst, true≢false}
use Rattle.std.specs.Prelude.{IsSomeAnd}
use Rattle.nrt_base.specs.declared.numbers.At.{At}
use Rattle.history_rules.specs.declared.entry.Event.{Event}
use Rattle.history_rules.specs.declared.entry.Event.TheVariants.{Merging}
use Rattle.script_serving.specs.declared.script.LineCommand.{LineCommand}
use Rattle.script_serving.specs.declared.script.LineCommand.TheVariants.{Publish, Merge}
use Rattle.history_book.specs.declared.inner.Mark.{Mark}
use Rattle.history_book.specs.declared.inner.Mark.TheVariants.{Shown, TaskFault, Kept}
use Rattle.history_book.specs.Log.{Log}
use Rattle.lane_threads.specs.Owes.{GoesByLine}
use Rattle.lane_threads.specs.Idle.{NoneAdds, TellsNone}
use Rattle.lane_threads.specs.Firsts.{FirstIsSo, FirstAdds, TellsFirst}

-- a line that asks for this publishes
abbrev pub is_publish : LineCommand → Bool
is_publish Publish = true
is_publish command = false

no_publish : (command : LineCommand) → is_publish command ≡ false → ◌≡◌ {A = Option LineCommand} (Some command) (Some Publish) → ⊥
no_publish command apart asks = true≢false (subst (λ (o : Option LineCommand). IsSomeAnd o (λ c. is_publish c ≡ false)) asks apart)

apart_adds : (command : LineCommand) → is_publish command ≡ false → (more old : Log) → NoneAdds command more old
apart_adds command apart [] old = tt
apart_adds command apart (Shown e ∷ more) old = ((λ asks is. absurd (no_publish command apart asks)), apart_adds command apart more old)
apart_adds command apart (TaskFault e ∷ more) old = apart_adds command apart more old
apart_adds command apart (Kept i ∷ more) old = apart_adds command apart more old

pub apart_none : {logged : Bool} (command : LineCommand) (at : At) (old new : Log) → is_publish command ≡ false → GoesByLine logged command at old new → TellsNone command old new
apart_none command at old new apart goes = record { more = goes.more; log = goes.log; none = apart_adds command apart goes.more old }

-- a line that asks for this merges
abbrev pub is_merge : LineCommand → Bool
is_merge (Merge factor) = true
is_merge command = false

no_merge : (command : LineCommand) (factor : ℕ) → is_merge command ≡ false → ◌≡◌ {A = Option LineCommand} (Some command) (Some (Merge factor)) → ⊥
no_merge command factor apart asks = true≢false (subst (λ (o : Option LineCommand). IsSomeAnd o (λ c. is_merge c ≡ false)) asks apart)

apart_so : (command : LineCommand) → is_merge command ≡ false → (behind : Option Mark) (at : At) (e : Event) → FirstIsSo (Some command) behind at e
apart_so command apart behind at (Merging seg) = λ factor asks. absurd (no_merge command factor apart asks)
apart_so command apart behind at e = tt

apart_starts : (command : LineCommand) → is_merge command ≡ false → (behind : Option Mark) (more : Log) → FirstAdds command behind more
apart_starts command apart behind [] = tt
apart_starts command apart behind (Shown e ∷ more) = (apart_so command apart behind e.at e.event, apart_starts command apart (Some (Shown e)) more)
apart_starts command apart behind (TaskFault e ∷ more) = apart_starts command apart (Some (TaskFault e)) more
apart_starts command apart behind (Kept i ∷ more) = apart_starts command apart (Some (Kept i)) more

pub apart_first : {logged : Bool} (command : LineCommand) (at : At) (old new : Log) → is_merge command ≡ false → GoesByLine logged command at old new → TellsFirst command old new
apart_first command at old new apart goes = record { more = goes.more; log = goes.log; first = apart_starts command apart None goes.more }
