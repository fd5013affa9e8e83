-- What a call does for its line, as the line's lane is owed it.
use Rattle.std.specs.Prelude.{◌≡◌, true, false, Option, Some, ⊤}
use Rattle.nrt_base.specs.declared.numbers.At.{At}
use Rattle.documents.specs.declared.operation.Op.{Op}
use Rattle.documents.specs.declared.operation.Op.TheVariants.{Put as PutOp, Delete as DeleteOp, Drop as DropOp}
use Rattle.documents.specs.declared.query.Query.{Query}
use Rattle.history_rules.specs.declared.entry.Event.{Event}
use Rattle.history_rules.specs.declared.entry.Event.TheVariants.{Opened, Asking}
use Rattle.history_rules.specs.Lines.{is_answered, last_of_line}
use Rattle.history_book.specs.Log.{printed}
use Rattle.script_serving.specs.declared.script.LineCommand.{LineCommand}
use Rattle.script_serving.specs.declared.script.LineCommand.TheVariants.{Put, Delete, Drop, Search, Ask}
use Rattle.cluster_state.specs.Run.{Run}
use Rattle.cluster_state.specs.declared.turn.Turn.{Turn}
use Rattle.cluster_state.specs.declared.turn.Turn.TheVariants.{Work, Done, Busy}
use Rattle.lane_threads.specs.Owes.{GoesByLine}

-- a call of a line did some of what its command asks for, in a cluster without a log of operations
pub record Does (command : LineCommand) (at : At) (old new : Run) : Type 0 where
  pub running : new.ended ≡ false
  pub nodes : new.nodes ≡ old.nodes
  pub goes : GoesByLine false command at old.log new.log

-- the line has its reply
abbrev pub IsReplied : At → Run → Type 0
IsReplied at r = is_answered at (printed r.log) ≡ true

-- the line has begun with this event, and has no reply
pub record IsBegunBy (at : At) (begun : Event) (r : Run) : Type 0 where
  pub last : last_of_line at (printed r.log) ≡ Some begun
  pub unanswered : is_answered at (printed r.log) ≡ false

-- where the line is done it has its reply
abbrev pub IsRepliedAtDone : {W : Type 0} → At → Run → Turn W → Type 0
IsRepliedAtDone at r (Work w) = ⊤
IsRepliedAtDone at r Done = IsReplied at r
IsRepliedAtDone at r Busy = ⊤

-- where work is handed out the line has begun so
abbrev pub IsBegunAtWork : {W : Type 0} → At → (W → Event) → Run → Turn W → Type 0
IsBegunAtWork at begun r (Work w) = IsBegunBy at (begun w) r
IsBegunAtWork at begun r Done = ⊤
IsBegunAtWork at begun r Busy = ⊤

-- what a line asks for that writes this operation
abbrev pub writing_command : Op → LineCommand
writing_command (PutOp doc) = Put doc
writing_command (DeleteOp key) = Delete key
writing_command (DropOp word) = Drop word

-- a line that has begun so asks for an answer to this query
abbrev pub AsksFor : LineCommand → Query → Option Event → Type 0
AsksFor (Search n q) query (Some (Opened m t v)) = (m ≡ n) × (t.0 ≡ 0) × (q ≡ query)
AsksFor (Ask t q) query (Some (Asking m u v)) = (u ≡ t) × (q ≡ query)
AsksFor command query last = ⊥
