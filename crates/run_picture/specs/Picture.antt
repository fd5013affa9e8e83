-- The picture of a run as text: a row for each entry, with a column for each node.
use Rattle.std.specs.Prelude.{ℕ, ◌+◌, ◌*◌, ◌-◌, List, [], ◌∷◌, ◌++◌, Option, Some, None, map, max, length, reverse, codes, replicate, if◌then◌else◌, ◌==◌}
use Rattle.std.specs.List.{flat_map, range_with_len}
use Rattle.std.specs.Fmt.{decimal}
use Rattle.nrt_base.specs.declared.numbers.NodeNo.{NodeNo}
use Rattle.history_rules.specs.declared.entry.Entry.{Entry}
use Rattle.history_rules.specs.declared.entry.Event.{Event}
use Rattle.history_rules.specs.declared.entry.Event.TheVariants.{Published, Copying, Switched, Opened, Asking, Answered, Closed, Committing, Committed, Crashed, Reopened, Promoted, Fault}
use Rattle.history_rules.specs.Nodes.{Past, over, is_at, newest_version}
use Rattle.report_text.specs.Texts.{text_of_entry}
use Rattle.run_picture.specs.declared.shown.Heads.{Heads}
use Rattle.run_picture.specs.declared.shown.NodeView.{NodeView}
use Rattle.run_picture.specs.Views.{heads_of, views_of}

-- a text at the left of a column, and a space behind it
abbrev pub at_left : ℕ → List ℕ → List ℕ
at_left width text = text ++ replicate (width - length text) 32 ++ 32 ∷ []

-- a text at the right of a column, and a space behind it
abbrev pub at_right : ℕ → List ℕ → List ℕ
at_right width text = replicate (width - length text) 32 ++ text ++ 32 ∷ []

-- how far a version is behind another: nothing, or a hyphen and how many versions it is
abbrev pub lag_text : ℕ → List ℕ
lag_text lag = if lag == 0 then [] else 45 ∷ decimal lag

-- P of the primary, r of a replica
abbrev pub role_text : Heads → NodeView → List ℕ
role_text heads view = if is_at heads.primary view.node.0 then codes "P" else codes "r"

-- what a node is: a hyphen where it is down; else its role, the version that it searches, and how far that is behind the newest
abbrev pub state_text : Heads → NodeView → List ℕ
state_text heads view =
    if view.running then role_text heads view ++ decimal view.version.0 ++ lag_text (heads.newest.0 - view.version.0)
    else codes "-"

-- the node at which an event has its sign, where it has one
abbrev pub signed_node : Event → Option NodeNo → Option NodeNo
signed_node (Published g v) primary = primary
signed_node (Copying n v) primary = Some n
signed_node (Switched n v) primary = Some n
signed_node (Opened n t v) primary = Some n
signed_node (Asking n t v) primary = Some n
signed_node (Answered n t v query answer) primary = Some n
signed_node (Closed n t) primary = Some n
signed_node (Committing n v) primary = Some n
signed_node (Committed n v) primary = Some n
signed_node (Crashed n) primary = Some n
signed_node (Reopened n v) primary = Some n
signed_node (Promoted n g f v) primary = Some n
signed_node (Fault n kind) primary = Some n
signed_node e primary = None

-- the sign of an event
abbrev pub sign_of : Event → List ℕ
sign_of (Published g v) = codes "*"
sign_of (Copying n v) = codes "<"
sign_of (Switched n v) = codes "+"
sign_of (Opened n t v) = if t.0 == 0 then codes "?" else codes "("
sign_of (Asking n t v) = codes "?"
sign_of (Answered n t v query answer) = codes "!"
sign_of (Closed n t) = codes ")"
sign_of (Committing n v) = codes "~"
sign_of (Committed n v) = codes "="
sign_of (Crashed n) = codes "x"
sign_of (Reopened n v) = codes "^"
sign_of (Promoted n g f v) = codes "*"
sign_of (Fault n kind) = codes "%"
sign_of e = []

-- the sign of an event in the column of a node: none but at its own node
abbrev pub sign_at : Event → Heads → NodeView → List ℕ
sign_at e heads view = if is_at (signed_node e heads.primary) view.node.0 then sign_of e else []

-- the column of a node: what it is, and the sign of the event
abbrev pub cell_text : ℕ → Event → Heads → NodeView → List ℕ
cell_text width e heads view = at_left width (state_text heads view ++ 32 ∷ sign_at e heads view)

-- generation and version of the newest point
abbrev pub newest_text : Heads → List ℕ
newest_text heads = decimal heads.generation.0 ++ 46 ∷ decimal heads.newest.0

-- the row of an entry: its place, the newest point, a column for each node, the lane, and the line of the report
abbrev pub row_text : ℕ → ℕ → Entry → Heads → List NodeView → List ℕ
row_text width place e heads views =
    at_right 6 (decimal place) ++ at_left 8 (newest_text heads) ++ flat_map (cell_text width e.event heads) views
    ++ at_right 4 (decimal e.at.lane.0) ++ text_of_entry e

-- the row of an entry after this past, of so many nodes: what they show together
abbrev pub row_shown : ℕ → ℕ → Entry → Past → List ℕ
row_shown width size e past = row_text width (length past + 1) e (heads_of (e ∷ past)) (views_of size (e ∷ past))

-- the rows of a past, the oldest entry first
abbrev pub rows_shown : ℕ → ℕ → Past → List ℕ
rows_shown width size = over [] (λ e past rows. rows ++ row_shown width size e past)

-- what stands over the column of a node
abbrev pub heading_text : ℕ → ℕ → List ℕ
heading_text width n = at_left width (codes "node " ++ decimal n)

-- what the letters and the signs mean
abbrev pub legend_text : List ℕ
legend_text =
    codes "P primary, r replica, - down; the version that the node searches; -2: the newest is 2 further" ++ 10
    ∷ codes "* published or promoted  < copy begins  + switched  ? search begins  ! answered  ( ticket opened" ++ 10
    ∷ codes ") closed  ~ commit begins  = committed  x crashed  ^ reopened  % fault met" ++ 10 ∷ 10 ∷ []

-- what each column is
abbrev pub columns_text : ℕ → ℕ → List ℕ
columns_text width size =
    codes " entry newest   " ++ flat_map (heading_text width) (range_with_len 1 size) ++ codes "lane report" ++ 10 ∷ []

-- what stands over the rows: what the letters and the signs mean, and what each column is
abbrev pub head_text : ℕ → ℕ → List ℕ
head_text width size = legend_text ++ columns_text width size

-- how wide the column of a node is, where this is the newest version: a role, two numbers, a hyphen and a sign have room
abbrev pub column_width : ℕ → ℕ
column_width newest = max 7 (4 + 2 * length (decimal newest))

-- the picture of a run of so many nodes: the row of each entry, over the entries up to it
abbrev pub picture_of : ℕ → List Entry → List ℕ
picture_of size entries =
    let past = reverse entries in
    let width = column_width (newest_version past) in
    head_text width size ++ rows_shown width size past
