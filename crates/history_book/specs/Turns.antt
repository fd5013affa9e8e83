-- In which turn entries come: a line starts once, before its reply, and what ends is what is in flight.
use Rattle.std.specs.Prelude.{◌≡◌, ◌≢◌, ◌⊎◌, [], ◌∷◌, Bool, true, false, Some, None, ⊤}
use Rattle.nrt_base.specs.declared.numbers.At.{At}
use Rattle.history_rules.specs.declared.entry.Event.{Event}
use Rattle.history_rules.specs.declared.entry.Event.TheVariants.{Published, Committed, Refused}
use Rattle.history_rules.specs.Nodes.{Past}
use Rattle.history_rules.specs.Lines.{is_start, start_entry, is_answered, publish_in_flight, commit_in_flight}
use Rattle.history_tables.specs.Begins.{open_line}

-- the line has neither started nor its reply
pub record IsUnbegun (at : At) (past : Past) : Type 0 where
  pub begun : start_entry at past ≡ None
  pub replied : is_answered at past ≡ false

-- a line starts once
abbrev pub StartsOnce : Bool → At → Past → Type 0
StartsOnce true at past = IsUnbegun at past
StartsOnce false at past = ⊤

-- a publish or a commit that ends is the one in flight, and a line that has started is refused while it is open
abbrev pub EndsFlight : At → Past → Event → Type 0
EndsFlight at past (Published g v) = publish_in_flight past ≡ Some at
EndsFlight at past (Committed n v) = commit_in_flight n.0 past ≡ Some at
EndsFlight at past (Refused cause) = (start_entry at past ≡ None) ⊎ (open_line at past ≢ None)
EndsFlight at past e = ⊤

-- the entry comes in its turn
pub record InTurn (past : Past) (at : At) (e : Event) : Type 0 where
  pub once : StartsOnce (is_start e) at past
  pub flight : EndsFlight at past e

-- each entry came in its turn
abbrev pub AreInTurn : Past → Type 0
AreInTurn [] = ⊤
AreInTurn (e ∷ past) = InTurn past e.at e.event × AreInTurn past
