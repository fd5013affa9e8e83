-- The drawing of a run: pages of a hundred entries, one under the other; on each the lanes of the script, and a band for each node.
use Rattle.std.specs.Prelude.{ℕ, ◌≡◌, ◌+◌, ◌-◌, ◌*◌, ◌/◌, ◌%◌, List, [], ◌∷◌, ◌++◌, length, max, reverse, take, codes, if◌then◌else◌, nat_lt, Option, Some, None}
use Rattle.std.specs.List.{flat_map, range_with_len}
use Rattle.std.specs.Fmt.{decimal}
use Rattle.std.specs.Int.{div_ceil}
use Rattle.nrt_base.specs.declared.numbers.NodeNo.{NodeNo}
use Rattle.history_rules.specs.declared.entry.Entry.{Entry}
use Rattle.history_rules.specs.declared.entry.Event.{Event}
use Rattle.history_rules.specs.declared.entry.Event.TheVariants.{Refused}
use Rattle.history_rules.specs.Nodes.{Past, over, is_at, newest_version}
use Rattle.report_text.specs.Texts.{text_of_entry}
use Rattle.run_picture.specs.declared.shown.Heads.{Heads}
use Rattle.run_picture.specs.declared.shown.NodeView.{NodeView}
use Rattle.run_picture.specs.Views.{heads_of}
use Rattle.run_picture.specs.Picture.{state_text, signed_node, sign_of}
use Rattle.run_drawing.specs.declared.scene.Band.{Band}
use Rattle.run_drawing.specs.declared.scene.OpenBar.{OpenBar}
use Rattle.run_drawing.specs.declared.scene.Kind.TheVariants.{Line, Ticket}
use Rattle.run_drawing.specs.declared.span.Page.{Page}
use Rattle.run_drawing.specs.declared.span.Span.{Span}
use Rattle.run_drawing.specs.Shapes.{escaped, box_text, line_text, word_text, mark_text}
use Rattle.run_drawing.specs.declared.scene.Scene.{Scene}
use Rattle.run_drawing.specs.Scenes.{changes_node, bands_of, bars_begun, is_over, bars_of, ShowsScene}
use Rattle.run_drawing.specs.Style.{style_text}

-- how many entries a page has
abbrev pub page_entries : ℕ
page_entries = 100

-- where a place stands from the left: 11 pixels for each entry of the page, behind a margin
abbrev pub x_of : Span → ℕ
x_of span = 64 + 11 * (span.left - span.page.start)

-- how wide a span is
abbrev pub width_of : Span → ℕ
width_of span = 11 * (span.right - span.left)

-- where the band of a node ends, from the top of the page: the lanes are above the nodes
abbrev pub floor_of : Page → ℕ → ℕ
floor_of page n = 24 + 12 * page.lanes + 60 * n

-- how high a version stands in a band, between the lowest and the newest of the page
abbrev pub rise_of : Page → ℕ → ℕ
rise_of page v = 28 * (v - page.low) / max 1 (page.top - page.low)

-- where a version stands in the band of a node, from the top of the page
abbrev pub y_of : Page → ℕ → ℕ → ℕ
y_of page n v = floor_of page n - 13 - rise_of page v

-- which entries a span has
unfoldable pub entries_text : Span → List ℕ
entries_text span = codes "entries " ++ decimal (span.left + 1) ++ codes " to " ++ decimal span.right

-- the primary and its generation, or a replica
abbrev pub role_words : Heads → NodeView → List ℕ
role_words heads view =
    if is_at heads.primary view.node.0 then codes "primary of generation " ++ decimal heads.generation.0 else codes "replica"

-- what a node is, in words
abbrev pub standing_words : Heads → NodeView → List ℕ
standing_words heads view =
    if view.running then
    role_words heads view ++ codes ", version " ++ decimal view.version.0 ++ codes ", newest " ++ decimal heads.newest.0
    else codes "down"

-- one of six colours and dashes for each generation
abbrev pub colour_text : Heads → List ℕ
colour_text heads = codes " g" ++ decimal (heads.generation.0 % 6)

-- an area and its upper edge
unfoldable pub area_text : List ℕ → List ℕ → Span → ℕ → ℕ → List ℕ
area_text area edge span y floor =
    box_text area (x_of span) y (width_of span) (floor - y) ++ line_text edge (x_of span) y (width_of span)

-- the step of a node: the primary's is thick, and has the colour and the dash of its generation
unfoldable pub step_text : Heads → NodeView → Span → ℕ → ℕ → List ℕ
step_text heads view span y floor =
    if is_at heads.primary view.node.0 then area_text (codes "p" ++ colour_text heads) (codes "f" ++ colour_text heads) span y floor
    else area_text (codes "r") (codes "e") span y floor

-- what a node is, below its step, where there is room
unfoldable pub label_text : Heads → NodeView → Span → ℕ → List ℕ
label_text heads view span floor =
    if nat_lt (span.left + 2) span.right then word_text [] (x_of span + 2) (floor - 3) (state_text heads view) else []

-- a node that runs: its step, the newest version as dots, and what it is
unfoldable pub up_text : Heads → NodeView → Span → List ℕ
up_text heads view span =
    let n = view.node.0 in
    step_text heads view span (y_of span.page n view.version.0) (floor_of span.page n)
    ++ line_text (codes "n") (x_of span) (y_of span.page n heads.newest.0 - 4) (width_of span)
    ++ label_text heads view span (floor_of span.page n)

-- a node that is down: a hatched bar at the floor
unfoldable pub down_text : NodeView → Span → List ℕ
down_text view span =
    box_text (codes "d") (x_of span) (floor_of span.page view.node.0 - 12) (width_of span) 12

-- what is told of a node over a span
unfoldable pub title_text : Heads → NodeView → Span → List ℕ
title_text heads view span =
    codes "node " ++ decimal view.node.0 ++ codes ", " ++ entries_text span ++ codes ": " ++ standing_words heads view

-- the shapes of a node over a span
unfoldable pub shapes_text : Heads → NodeView → Span → List ℕ
shapes_text heads view span = if view.running then up_text heads view span else down_text view span

-- from a place, or from the start of the page, to a later place
abbrev pub span_from : Page → ℕ → ℕ → Span
span_from page since right = record { page = page; left = max page.start since; right = right }

-- a node as it is up to this place
abbrev pub band_text : Page → Heads → ℕ → Band → List ℕ
band_text page heads right band =
    let span = span_from page band.since right in
    mark_text (title_text heads band.view span) (shapes_text heads band.view span)

-- a node as it was, where an event changes it
abbrev pub ended_band : Page → Event → Heads → ℕ → Band → List ℕ
ended_band page e heads place band =
    if changes_node e heads.primary band.view.node.0 then
    (if nat_lt (max page.start band.since) place then band_text page heads place band else [])
    else []

-- what is told of a line
unfoldable pub line_title : OpenBar → Span → List ℕ → List ℕ
line_title bar span said =
    codes "lane " ++ decimal bar.at.lane.0 ++ codes ", line " ++ decimal bar.at.line.0 ++ codes ", " ++ entries_text span ++ codes ": " ++ said

-- a line of the script: its bar in its lane
abbrev pub line_bar : OpenBar → Span → List ℕ → List ℕ → List ℕ
line_bar bar span class said =
    mark_text (line_title bar span said) (box_text class (x_of span + 1) (6 + 12 * bar.at.lane.0) (width_of span - 2) 9)

-- the name of a ticket
unfoldable pub ticket_words : OpenBar → ℕ → List ℕ
ticket_words bar t = codes "ticket " ++ decimal t ++ codes " of lane " ++ decimal bar.at.lane.0

-- what is told of a ticket
unfoldable pub ticket_title : OpenBar → Span → ℕ → ℕ → List ℕ
ticket_title bar span t v = ticket_words bar t ++ codes ", " ++ entries_text span ++ codes ": version " ++ decimal v

-- a ticket: its bar at its version, in the band of its node
abbrev pub ticket_bar : OpenBar → Span → ℕ → ℕ → ℕ → List ℕ
ticket_bar bar span n t v =
    mark_text (ticket_title bar span t v) (line_text (codes "t") (x_of span + 4) (y_of span.page n v) (width_of span - 8))

-- a line or a ticket up to this place; of a line, what is said of its end
abbrev pub bar_text : Page → ℕ → List ℕ → List ℕ → OpenBar → List ℕ
bar_text page right class said bar =
    let span = span_from page bar.since right in
    elim bar.kind [ Line ↦ line_bar bar span class said | Ticket n t v ↦ ticket_bar bar span n.0 t.0 v.0 ]

-- the bar of a refused line is dashed
abbrev pub class_of : Event → List ℕ
class_of e = elim e [ Refused cause ↦ codes "k" | _ ↦ codes "l" ]

-- the line of the report, to be read under the pointer
abbrev pub said_of : Entry → List ℕ
said_of e = escaped (text_of_entry e)

-- a line or a ticket, where an entry ends it
abbrev pub ended_bar : Page → Entry → ℕ → List ℕ → OpenBar → List ℕ
ended_bar page e right said bar = if is_over e bar then bar_text page right (class_of e.event) said bar else []

-- the sign of an event, over the band of its node
abbrev pub sign_text : Page → Entry → ℕ → List ℕ → Option NodeNo → List ℕ
sign_text page e place said None = []
sign_text page e place said (Some n) =
    mark_text said
    (word_text (codes "s") (x_of (span_from page place place) + 5) (floor_of page n.0 - 47) (escaped (sign_of e.event)))

-- what an entry adds to a page: the nodes that it changes as they were, the lines and tickets that it ends, and its sign
abbrev pub marks_text : Page → Entry → ℕ → Heads → List Band → List OpenBar → List ℕ
marks_text page e place heads bands bars =
    flat_map (ended_band page e.event heads place) bands ++ flat_map (ended_bar page e (place + 1) (said_of e)) bars
    ++ sign_text page e place (said_of e) (signed_node e.event heads.primary)

-- what an entry behind this past adds to a page
abbrev pub marks_at : Page → ℕ → Entry → Past → List ℕ
marks_at page size e past =
    marks_text page e (length past) (heads_of past) (bands_of size past) (bars_begun e (length past) (bars_of past))

-- what the entries of a page add to it, one after the other: those from its start on
abbrev pub marks_of : Page → ℕ → Past → List ℕ
marks_of page size [] = []
marks_of page size (e ∷ past) =
    if nat_lt (length past) page.start then [] else marks_of page size past ++ marks_at page size e past

-- what the end of a page shows: each node as it is, and the lines and tickets that go on
abbrev pub rest_text : Page → ℕ → Heads → List Band → List OpenBar → List ℕ
rest_text page place heads bands bars =
    flat_map (band_text page heads place) bands ++ flat_map (bar_text page place (codes "l") (codes "goes on")) bars

-- what the end of a page shows behind this past
abbrev pub rest_shown : Page → ℕ → Past → List ℕ
rest_shown page size past = rest_text page (length past) (heads_of past) (bands_of size past) (bars_of past)

-- the name of a lane
abbrev pub lane_label : ℕ → List ℕ
lane_label lane = word_text (codes "q") 8 (14 + 12 * lane) (codes "lane " ++ decimal lane)

-- the name of a node, and the ground of its band
abbrev pub node_label : Page → ℕ → List ℕ
node_label page n =
    box_text (codes "w") 64 (floor_of page n - 44) 1100 44 ++ word_text [] 8 (floor_of page n - 18) (codes "node " ++ decimal n)

-- how high a page is
abbrev pub page_height : ℕ → ℕ → ℕ
page_height lanes size = 60 + 12 * lanes + 60 * size

-- where so many pages end, from the top of the drawing
abbrev pub pages_height : ℕ → ℕ → ℕ → ℕ
pages_height lanes size pages = 70 + pages * page_height lanes size

-- what a page begins with: which entries it has, the names of the lanes and of the nodes, and the ground of their bands
abbrev pub page_head : Page → ℕ → ℕ → ℕ → List ℕ
page_head page size p end =
    codes "<g transform='translate(0 " ++ decimal (pages_height page.lanes size p) ++ codes ")'>" ++ 10
    ∷ word_text (codes "q") 64 12 (entries_text (span_from page 0 end))
    ++ flat_map lane_label (range_with_len 1 page.lanes) ++ flat_map (node_label page) (range_with_len 1 size) ++ 10 ∷ []

-- the page behind a past: versions stand between eight below the newest before it, and the newest at its end
abbrev pub page_of : ℕ → Past → Past → Page
page_of lanes before after =
    record { lanes = lanes; start = length before; low = newest_version before - 8; top = newest_version after }

-- the p-th page, which leads from one past to another
abbrev pub page_text : ℕ → ℕ → ℕ → Past → Past → List ℕ
page_text lanes size p before after =
    let page = page_of lanes before after in
    page_head page size p (length after) ++ marks_of page size after ++ rest_shown page size after ++ codes "</g>" ++ 10 ∷ []

-- the highest lane of entries, or 1
abbrev pub lanes_of : Past → ℕ
lanes_of = over 1 (λ e past lanes. max lanes e.at.lane.0)

-- how many pages so many entries have
abbrev pub pages_of : ℕ → ℕ
pages_of count = div_ceil count page_entries

-- the first entries of a history, newest first
abbrev pub first_of : List Entry → ℕ → Past
first_of entries count = reverse (take count entries)

-- the p-th page of a run, counted from 0
abbrev pub page_at : ℕ → List Entry → ℕ → List ℕ
page_at size entries p =
    page_text (lanes_of (reverse entries)) size p (first_of entries (p * page_entries)) (first_of entries (p * page_entries + page_entries))

-- what a drawing begins with
abbrev pub open_text : ℕ → List ℕ
open_text height =
    codes "<svg xmlns='http://www.w3.org/2000/svg' width='1180' height='" ++ decimal height ++ codes "' viewBox='0 0 1180 "
    ++ decimal height ++ codes "'>" ++ 10 ∷ []

-- the drawing of a run of so many nodes: what its marks look like and mean, and a page for each hundred entries
abbrev pub drawing_of : ℕ → List Entry → List ℕ
drawing_of size entries =
    let pages = pages_of (length entries) in
    open_text (pages_height (lanes_of (reverse entries)) size pages) ++ style_text
    ++ flat_map (page_at size entries) (range_with_len 0 pages) ++ codes "</svg>" ++ 10 ∷ []

-- an entry behind this past was drawn, and happened
pub record IsEntryDrawn (page : Page) (size : ℕ) (e : Entry) (past : Past) (old new : List ℕ) (scene : Scene) : Type 0 where
  pub text : new ≡ old ++ marks_at page size e past
  pub shows : ShowsScene size (e ∷ past) scene

-- the entries of a page up to this past were drawn, and happened
pub record AreDrawn (page : Page) (size : ℕ) (past : Past) (old new : List ℕ) (scene : Scene) : Type 0 where
  pub text : new ≡ old ++ marks_of page size past
  pub shows : ShowsScene size past scene

-- a page was drawn, and its entries happened
pub record IsPageDrawn (lanes size p : ℕ) (before after : Past) (old new : List ℕ) (scene : Scene) : Type 0 where
  pub text : new ≡ old ++ page_text lanes size p before after
  pub shows : ShowsScene size after scene
