-- Which histories are legal.
use Rattle.std.specs.Prelude.{ℕ, ◌≡◌, [], ◌∷◌, false, reverse, take, ⊤, Some, slice_get}
use Rattle.nrt_base.specs.declared.numbers.At.{At}
use Rattle.history_rules.specs.declared.entry.Entry.{Entry}
use Rattle.history_rules.specs.declared.entry.Event.{Event}
use Rattle.history_rules.specs.declared.entry.History.{History}
use Rattle.history_rules.specs.declared.entry.Event.TheVariants.{Accepted, Publishing, Published, Copying, Switched, Copied, Settling, Settled, Opened, Asking, Answered, Closed, Committing, Committed, Crashed, Reopened, Promoted, Merging, Drained, Files, Planned, Fault, Refused}
use Rattle.history_rules.specs.declared.point.Verdict.{Verdict}
use Rattle.history_rules.specs.declared.point.Verdict.TheVariants.{Legal, Broken}
use Rattle.history_rules.specs.Nodes.{Past}
use Rattle.history_rules.specs.Lines.{start_entry}
use Rattle.history_rules.specs.Faults.{has_met_fault}
use Rattle.history_rules.specs.Rules.{MayAccept, MayStartPublish, MayPublish, MayStartCopy, MaySwitch, MayFinishCopy, MayStartSettle, MaySettle, MayOpen, MayAsk, MayAnswer, MayClose, MayStartCommit, MayCommit, MayCrash, MayReopen, MayPromote, MayStartMerge, MayDrain, MayListFiles, MayFault, MayRefuseLine}

-- the rule of an entry of this line, over the entries before it
abbrev pub KeepsRule : ℕ → Past → At → Event → Type 0
KeepsRule size past at (Accepted seq op) = MayAccept past at seq
KeepsRule size past at Publishing = MayStartPublish past at
KeepsRule size past at (Published g v) = MayPublish past at g v
KeepsRule size past at (Copying n v) = MayStartCopy size past at n v
KeepsRule size past at (Switched n v) = MaySwitch size past at n v
KeepsRule size past at (Copied n v) = MayFinishCopy size past at n v
KeepsRule size past at (Settling v) = MayStartSettle past at v
KeepsRule size past at (Settled v) = MaySettle size past at v
KeepsRule size past at (Opened n t v) = MayOpen size past at n t v
KeepsRule size past at (Asking n t v) = MayAsk size past at n t v
KeepsRule size past at (Answered n t v query answer) = MayAnswer size past at n t v query answer
KeepsRule size past at (Closed n t) = MayClose size past at n t
KeepsRule size past at (Committing n v) = MayStartCommit size past at n v
KeepsRule size past at (Committed n v) = MayCommit size past at n v
KeepsRule size past at (Crashed n) = MayCrash size past n
KeepsRule size past at (Reopened n v) = MayReopen size past at n v
KeepsRule size past at (Promoted n g f v) = MayPromote size past n g f v
KeepsRule size past at (Merging seg) = MayStartMerge past at seg
KeepsRule size past at (Drained done most) = MayDrain size past at done
KeepsRule size past at (Files n names) = MayListFiles size past at n names
KeepsRule size past at (Planned n plan) = has_met_fault at past ≡ false
KeepsRule size past at (Fault n kind) = MayFault size past at n kind
KeepsRule size past at (Refused cause) = MayRefuseLine size past at (start_entry at past) cause

-- each entry keeps the rule of its kind over the entries before it
abbrev pub IsLegalPast : ℕ → Past → Type 0
IsLegalPast size [] = ⊤
IsLegalPast size (e ∷ past) = KeepsRule size past e.at e.event × IsLegalPast size past

-- a history is legal where every entry keeps the rule of its kind
abbrev pub IsLegal : History → Type 0
IsLegal h = IsLegalPast h.nodes (reverse h.entries)

-- the number of the rule of a kind of entry
abbrev pub rule_number : Event → ℕ
rule_number (Accepted seq op) = 1
rule_number Publishing = 2
rule_number (Published g v) = 3
rule_number (Copying n v) = 4
rule_number (Switched n v) = 5
rule_number (Copied n v) = 6
rule_number (Settling v) = 7
rule_number (Settled v) = 7
rule_number (Opened n t v) = 8
rule_number (Asking n t v) = 9
rule_number (Answered n t v query answer) = 10
rule_number (Closed n t) = 11
rule_number (Committing n v) = 12
rule_number (Committed n v) = 13
rule_number (Crashed n) = 14
rule_number (Reopened n v) = 15
rule_number (Promoted n g f v) = 16
rule_number (Merging seg) = 17
rule_number (Files n names) = 18
rule_number (Fault n kind) = 19
rule_number (Refused cause) = 20
rule_number (Drained done most) = 21
rule_number (Planned n plan) = 22

-- the entry at this place is the first that breaks its rule
pub record BreaksFirst (h : History) (at rule : ℕ) : Type 0 where
  pub entry : Entry
  pub there : slice_get h.entries at ≡ Some entry
  pub before : IsLegalPast h.nodes (reverse (take at h.entries))
  pub broken : KeepsRule h.nodes (reverse (take at h.entries)) entry.at entry.event → ⊥
  pub numbered : rule ≡ rule_number entry.event

-- the verdict says whether the history is legal, and else which entry breaks which rule
abbrev pub IsVerdict : History → Verdict → Type 0
IsVerdict h Legal = IsLegal h
IsVerdict h (Broken at rule) = BreaksFirst h at rule
