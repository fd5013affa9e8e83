-- What a history has behind a promotion where there is a log.
use Rattle.std.specs.Prelude.{◌≡◌, List, [], ◌∷◌, ◌++◌, reverse, drop, length, true, ⊤}
use Rattle.nrt_base.specs.declared.numbers.At.{At}
use Rattle.nrt_base.specs.declared.numbers.Gen.{Gen}
use Rattle.nrt_base.specs.declared.numbers.NodeNo.{NodeNo}
use Rattle.nrt_base.specs.declared.numbers.Version.{Version}
use Rattle.documents.specs.declared.operation.Op.{Op}
use Rattle.history_rules.specs.declared.entry.Entry.{Entry}
use Rattle.history_rules.specs.declared.entry.Event.{Event}
use Rattle.history_rules.specs.declared.entry.Event.TheVariants.{Accepted, Promoted}
use Rattle.history_rules.specs.declared.entry.History.{History}
use Rattle.history_rules.specs.Lines.{same_at}
use Rattle.history_rules.specs.Nodes.{Past}
use Rattle.history_rules.specs.Points.{operations_at}
use Rattle.script_serving.specs.Replays.{logged_operations}

-- the event accepts an operation
abbrev pub IsAcceptance : Event → Type 0
IsAcceptance (Accepted seq op) = ⊤
IsAcceptance e = ⊥

-- the event accepts this operation
abbrev pub IsAcceptanceOf : Op → Event → Type 0
IsAcceptanceOf op (Accepted seq again) = again ≡ op
IsAcceptanceOf op e = ⊥

-- the entry accepts an operation for this line
abbrev pub Accepts : At → Entry → Type 0
Accepts at e = (same_at e.at at ≡ true) × IsAcceptance e.event

-- the entry accepts this operation for this line
abbrev pub AcceptsAgain : At → Op → Entry → Type 0
AcceptsAgain at op e = (same_at e.at at ≡ true) × IsAcceptanceOf op e.event

-- the entries begin with a replay: the line accepts each of these operations, in order, and then none
abbrev pub BeginsWithReplay : At → List Op → List Entry → Type 0
BeginsWithReplay at [] [] = ⊤
BeginsWithReplay at [] (e ∷ entries) = Accepts at e → ⊥
BeginsWithReplay at (op ∷ ops) [] = ⊥
BeginsWithReplay at (op ∷ ops) (e ∷ entries) = AcceptsAgain at op e × BeginsWithReplay at ops entries

-- the operations of the log that the point of a version lacks
abbrev pub operations_lacking : Past → Version → List Op
operations_lacking past v = drop (length (operations_at past v.0)) (logged_operations past)

-- behind each promotion its line accepts again what its point lacks of the log
abbrev pub IsReplayed : History → Type 0
IsReplayed h =
    (before after : List Entry) (p : Entry) (m : NodeNo) (g : Gen) (f v : Version)
    → h.entries ≡ before ++ p ∷ after → p.event ≡ Promoted m g f v
    → BeginsWithReplay p.at (operations_lacking (p ∷ reverse before) v) after
