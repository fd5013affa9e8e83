-- The text of an entry and of a history: a line for each entry, words with a space between.
use Rattle.std.specs.Prelude.{◌≡◌, ℕ, List, [], ◌∷◌, ◌++◌, map, codes}
use Rattle.std.specs.List.{flat_map}
use Rattle.std.specs.Fmt.{decimal}
use Rattle.file_names.specs.Base36.{base36_of}
use Rattle.documents.specs.declared.answer.Hit.{Hit}
use Rattle.history_rules.specs.declared.cause.Cause.{Cause}
use Rattle.history_rules.specs.declared.cause.Cause.TheVariants.{Down, Primary, NoPrimary, PrimaryUp, ForceLow, NoTicket, Lost, Cancelled, LinkFault, Damaged, DiskFault, Nothing, Up, NameUsed, NamesSpent, TooManySegments, ForceHigh}
use Rattle.history_rules.specs.declared.cause.FaultKind.{FaultKind}
use Rattle.history_rules.specs.declared.cause.FaultKind.TheVariants.{Link, Damage, Disk, Stop}
use Rattle.history_rules.specs.declared.entry.Event.{Event}
use Rattle.history_rules.specs.declared.entry.Event.TheVariants.{Accepted, Publishing, Published, Copying, Switched, Copied, Settling, Settled, Opened, Asking, Answered, Closed, Committing, Committed, Crashed, Reopened, Promoted, Merging, Drained, Files, Planned, Fault, Refused}
use Rattle.history_rules.specs.declared.entry.Entry.{Entry}
use Rattle.history_rules.specs.declared.entry.History.{History}
use Rattle.history_rules.specs.Faults.{plan_words}

-- each after a space
abbrev pub all_spaced : List (List ℕ) → List ℕ
all_spaced words = flat_map (λ word. 32 ∷ word) words

-- the words were put behind what was there, each after a space
abbrev pub AddsWords : (old new : List ℕ) → List (List ℕ) → Type 0
AddsWords old new words = new ≡ old ++ all_spaced words

-- a word, and numbers as words
abbrev pub with_numbers : List ℕ → List ℕ → List (List ℕ)
with_numbers word numbers = word ∷ map decimal numbers

-- a hit: its rank, a colon and its key
abbrev pub hit_text : Hit → List ℕ
hit_text hit = decimal hit.rank ++ 58 ∷ hit.key

-- the word for a kind of fault
abbrev pub kind_text : FaultKind → List ℕ
kind_text Link = codes "link"
kind_text Damage = codes "damage"
kind_text Disk = codes "disk"
kind_text Stop = codes "stop"

-- why a line is refused
abbrev pub cause_words : Cause → List (List ℕ)
cause_words Down = codes "down" ∷ []
cause_words Primary = codes "primary" ∷ []
cause_words NoPrimary = codes "no-primary" ∷ []
cause_words PrimaryUp = codes "primary-up" ∷ []
cause_words (ForceLow v) = with_numbers (codes "force-low") (v.0 ∷ [])
cause_words NoTicket = codes "no-ticket" ∷ []
cause_words Lost = codes "lost" ∷ []
cause_words (Cancelled v) = with_numbers (codes "cancelled") (v.0 ∷ [])
cause_words LinkFault = codes "link-fault" ∷ []
cause_words (Damaged name) = codes "damaged" ∷ name ∷ []
cause_words DiskFault = codes "disk-fault" ∷ []
cause_words Nothing = codes "none" ∷ []
cause_words Up = codes "up" ∷ []
cause_words NameUsed = codes "name-used" ∷ []
cause_words NamesSpent = codes "names-spent" ∷ []
cause_words TooManySegments = codes "too-many-segments" ∷ []
cause_words ForceHigh = codes "force-high" ∷ []

-- what happened
abbrev pub event_words : Event → List (List ℕ)
event_words (Accepted seq op) = with_numbers (codes "accepted") (seq ∷ [])
event_words Publishing = codes "publishing" ∷ []
event_words (Published g v) = with_numbers (codes "published") (g.0 ∷ v.0 ∷ [])
event_words (Copying n v) = with_numbers (codes "copying") (n.0 ∷ v.0 ∷ [])
event_words (Switched n v) = with_numbers (codes "switched") (n.0 ∷ v.0 ∷ [])
event_words (Copied n v) = with_numbers (codes "copied") (n.0 ∷ v.0 ∷ [])
event_words (Settling v) = with_numbers (codes "settling") (v.0 ∷ [])
event_words (Settled v) = with_numbers (codes "settled") (v.0 ∷ [])
event_words (Opened n t v) = with_numbers (codes "opened") (n.0 ∷ t.0 ∷ v.0 ∷ [])
event_words (Asking n t v) = with_numbers (codes "asking") (n.0 ∷ t.0 ∷ v.0 ∷ [])
event_words (Answered n t v query answer) =
    with_numbers (codes "answer") (n.0 ∷ t.0 ∷ v.0 ∷ answer.total ∷ []) ++ map hit_text answer.hits
event_words (Closed n t) = with_numbers (codes "closed") (n.0 ∷ t.0 ∷ [])
event_words (Committing n v) = with_numbers (codes "committing") (n.0 ∷ v.0 ∷ [])
event_words (Committed n v) = with_numbers (codes "committed") (n.0 ∷ v.0 ∷ [])
event_words (Crashed n) = with_numbers (codes "crashed") (n.0 ∷ [])
event_words (Reopened n v) = with_numbers (codes "reopened") (n.0 ∷ v.0 ∷ [])
event_words (Promoted n g forced v) =
    with_numbers (codes "promoted") (n.0 ∷ g.0 ∷ forced.0 ∷ v.0 ∷ [])
event_words (Merging seg) = codes "merging" ∷ (95 ∷ base36_of seg.0) ∷ []
event_words (Drained done most) = with_numbers (codes "drained") (done ∷ [])
event_words (Files n names) = with_numbers (codes "files") (n.0 ∷ []) ++ names
event_words (Planned n plan) = codes "planned" ∷ plan_words n.0 plan
event_words (Fault n kind) = with_numbers (codes "fault") (n.0 ∷ []) ++ kind_text kind ∷ []
event_words (Refused cause) = codes "refused" ∷ cause_words cause

-- the line of an entry: the number of its script line, what happened, and a line feed
abbrev pub text_of_entry : Entry → List ℕ
text_of_entry e = decimal e.at.line.0 ++ all_spaced (event_words e.event) ++ 10 ∷ []

-- the report of a history: the lines of its entries, in order
abbrev pub text_of : History → List ℕ
text_of h = flat_map text_of_entry h.entries
