-- What a log has and what a replay has left of it go together: the operations written and those left to replay are the logged ones.
use Rattle.std.proofs.Common.{◌≡◌, ℕ, Bool, true, false, ◌&&◌, ◌||◌, ◌==◌, List, [], ◌∷◌, ◌++◌, drop, length, Option, Some, None, refl, sym, ap, subst, ◌∙◌, append_assoc, append-nil, reverse}
use Rattle.std.specs.Prelude.{if◌then◌else◌, ⊤}
use Rattle.std.proofs.Math.Seq.{drop-append_seam}
use Rattle.std.proofs.lemmas.Bool.{and_parts, false≢true, eq-eqb}
use Rattle.std.proofs.lemmas.Option.{none-some}
use mathlib.Core.List.{IsPrefix}
use Rattle.nrt_base.specs.declared.numbers.At.{At}
use Rattle.documents.specs.Documents.{documents_after}
use Rattle.documents.specs.declared.operation.Op.{Op}
use Rattle.history_rules.specs.declared.entry.Event.{Event}
use Rattle.history_rules.specs.declared.entry.Event.TheVariants.{Accepted, Published, Promoted, Fault}
use Rattle.history_rules.specs.declared.entry.Entry.{Entry}
use Rattle.history_rules.specs.declared.entry.History.{History}
use Rattle.history_rules.specs.Nodes.{Past, version_of}
use Rattle.history_rules.specs.Lines.{same_at, is_start, is_reply, is_answered, last_of_line, before_start}
use Rattle.history_rules.specs.Points.{operations_written, operations_at_start, operations_at}
use Rattle.script_serving.specs.declared.script.Line.{Line}
use Rattle.script_serving.specs.declared.script.LineCommand.{LineCommand}
use Rattle.script_serving.specs.declared.script.LineCommand.TheVariants.{Promote}
use Rattle.script_serving.specs.declared.script.Script.{Script}
use Rattle.script_serving.specs.Lines.{lines_of_lane, command_at}
use Rattle.script_serving.specs.Replays.{logged_operations, replay_due, due}
use Rattle.script_serving.specs.Serves.{Suits, FitsTurn, FitsReplay, Fits, is_newest_at, ServesLanes, Serves}
use Rattle.script_serving.specs.LogLaws.{PointsAreLogged, NothingIsLost, IsPublishWhole, PublishesAreWhole}

abbrev entry : At → Event → Entry
entry at event = record { at = at; event = event }

abbrev last_by : Event → Option Event → Option Event
last_by e last = elim e [ Fault n kind ↦ last | event ↦ Some event ]

abbrev logged_by : Event → Bool → List Op → List Op
logged_by e answered ops = elim e [ Accepted seq op ↦ if answered then ops else ops ++ op ∷ [] | _ ↦ ops ]

-- ---- when a line has its reply

unanswered_by : (event : Event) (last : Option Event) → last_by event last ≡ None → (is_reply event ≡ false) × (last ≡ None)
unanswered_by (Fault n kind) last h = (refl, h)
unanswered_by event last h = absurd (none-some event (sym h))

no_reply : (reply same rest : Bool) → reply ≡ false → rest ≡ false → (reply && same || rest) ≡ false
no_reply true same rest h g = absurd (false≢true (sym h))
no_reply false same rest h g = g

no_other : (reply same rest : Bool) → same ≡ false → rest ≡ false → (reply && same || rest) ≡ false
no_other reply true rest h g = absurd (false≢true (sym h))
no_other true false rest h g = g
no_other false false rest h g = g

-- a line without an entry but faults has no reply
pub unanswered : (at : At) (past : Past) → last_of_line at past ≡ None → is_answered at past ≡ false
unanswered at [] h = refl
unanswered at (e ∷ past) h = by_test (same_at e.at at) refl h (unanswered at past)
  where
    by_test : (t : Bool) → same_at e.at at ≡ t → (if t then last_by e.event (last_of_line at past) else last_of_line at past) ≡ None
        → (last_of_line at past ≡ None → is_answered at past ≡ false) → (is_reply e.event && same_at e.at at || is_answered at past) ≡ false
    by_test true same k ih = let parts = unanswered_by e.event (last_of_line at past) k in no_reply (is_reply e.event) (same_at e.at at) (is_answered at past) parts.0 (ih parts.1)
    by_test false same k ih = no_other (is_reply e.event) (same_at e.at at) (is_answered at past) same (ih k)

-- an operation that its line asks for is the line's reply
first_reply : (lines : List Line) (past : Past) (at : At) (command : Option LineCommand) (seq : ℕ) (op : Op) → FitsTurn lines past at command (Accepted seq op) → is_answered at past ≡ false
first_reply lines past at None seq op h = absurd h
first_reply lines past at (Some command) seq op h = by_last (last_of_line at past) refl h.0
  where
    by_last : (last : Option Event) → last_of_line at past ≡ last → Suits command at past last (Accepted seq op) → is_answered at past ≡ false
    by_last None e suits = unanswered at past e
    by_last (Some event) e suits = suits.0

-- ---- prefixes

from_front : {X : Type 0} (xs : List X) → IsPrefix xs xs
from_front xs = ([], append-nil xs)

then_more : {X : Type 0} (xs ys zs : List X) → IsPrefix xs ys → ys ≡ zs → IsPrefix xs zs
then_more xs ys zs h e = subst (IsPrefix xs) e h

pub longer : {X : Type 0} (xs ys zs : List X) → IsPrefix xs ys → IsPrefix ys zs → IsPrefix xs zs
longer xs ys zs h k = (h.0 ++ k.0, sym (append_assoc xs h.0 k.0) ∙ (ap (λ (front : List _). front ++ k.0) h.1 ∙ k.1))

no_operation : (ops : List Op) → IsPrefix [] ops
no_operation ops = (ops, refl)

-- a prefix and what is behind it are the whole
whole_again : (xs ys : List Op) → IsPrefix xs ys → xs ++ drop (length xs) ys ≡ ys
whole_again xs ys h =
    ap (λ (all : List Op). xs ++ drop (length xs) all) (sym h.1) ∙ (ap (λ (rest : List Op). xs ++ rest) (drop-append_seam xs h.0) ∙ h.1)

-- ---- what holds of the entries before a place

record IsLogged (past : Past) : Type 0 where
  written : operations_written past ++ replay_due past ≡ logged_operations past
  points : (v : ℕ) → IsPrefix (operations_at past v) (logged_operations past)
  starts : (at : At) → IsPrefix (operations_at_start at past) (logged_operations past)
  replies : (at : At) → (replay_due past ≡ [] → ⊥) → is_newest_at at past ≡ true → is_answered at past ≡ true
  whole : (at : At) → operations_at_start at past ≡ logged_operations (before_start at past)

none_logged : IsLogged []
none_logged = record { written = refl; points = λ v. no_operation []; starts = λ at. no_operation []; replies = λ at some newest. absurd (some refl); whole = λ at. refl }

-- the entry is one that its line asks for, or the next of a replay
record Comes (past : Past) (at : At) (event : Event) : Type 0 where
  lines : List Line
  command : Option LineCommand
  fits : Fits (replay_due past) lines past at command event

module _ (past : Past) (at : At) (logged : IsLogged past) where
  grown_by : (event : Event) (answered : Bool) (ops : List Op) → IsPrefix ops (logged_by event answered ops)
  grown_by (Accepted seq op) false ops = (op ∷ [], refl)
  grown_by (Accepted seq op) true ops = from_front ops
  grown_by event answered ops = from_front ops

  -- a log never gets shorter
  grown : (event : Event) → IsPrefix (logged_operations past) (logged_operations (entry at event ∷ past))
  grown event = grown_by event (is_answered at past) (logged_operations past)

  written_first : IsPrefix (operations_written past) (logged_operations past)
  written_first = (replay_due past, logged.written)

  starts_next : (event : Event) (other : At) → IsPrefix (operations_at_start other (entry at event ∷ past)) (logged_operations (entry at event ∷ past))
  starts_next event other = by_test (is_start event && same_at at other)
    where
      by_test : (t : Bool) → IsPrefix (if t then operations_written past else operations_at_start other past) (logged_operations (entry at event ∷ past))
      by_test true = longer (operations_written past) (logged_operations past) (logged_operations (entry at event ∷ past)) written_first (grown event)
      by_test false = longer (operations_at_start other past) (logged_operations past) (logged_operations (entry at event ∷ past)) (logged.starts other) (grown event)

  points_kept : (event : Event) (v : ℕ) → IsPrefix (operations_at past v) (logged_operations (entry at event ∷ past))
  points_kept event v = longer (operations_at past v) (logged_operations past) (logged_operations (entry at event ∷ past)) (logged.points v) (grown event)

  point_of : (event : Event) (made : List Op) (t : Bool) (v : ℕ) → IsPrefix made (logged_operations past)
      → IsPrefix (if t then made else operations_at past v) (logged_operations (entry at event ∷ past))
  point_of event made true v h = longer made (logged_operations past) (logged_operations (entry at event ∷ past)) h (grown event)
  point_of event made false v h = points_kept event v

  -- an accepted operation: it is logged and written, or written again
  accepted_written : (seq : ℕ) (op : Op) → Comes past at (Accepted seq op)
      → (operations_written past ++ op ∷ []) ++ drop 1 (replay_due past) ≡ logged_by (Accepted seq op) (is_answered at past) (logged_operations past)
  accepted_written seq op comes = by_due (replay_due past) refl comes.command comes.fits
    where
      by_due : (ops : List Op) → replay_due past ≡ ops → (command : Option LineCommand) → Fits ops comes.lines past at command (Accepted seq op)
          → (operations_written past ++ op ∷ []) ++ drop 1 ops ≡ logged_by (Accepted seq op) (is_answered at past) (logged_operations past)
      by_due [] e command fits =
          let all : operations_written past ≡ logged_operations past = sym (append-nil (operations_written past)) ∙ (ap (λ (ops : List Op). operations_written past ++ ops) (sym e) ∙ logged.written) in
          rw (first_reply comes.lines past at command seq op fits) (append-nil (operations_written past ++ op ∷ []) ∙ ap (λ (ops : List Op). ops ++ op ∷ []) all)
      by_due (next ∷ ops) e (Some (Promote n force)) fits =
          let all : operations_written past ++ next ∷ ops ≡ logged_operations past = ap (λ (ops : List Op). operations_written past ++ ops) (sym e) ∙ logged.written in
          let answered : is_answered at past ≡ true = logged.replies at (λ none. some next ops (sym e ∙ none)) fits.1 in
          rw answered (append_assoc (operations_written past) (op ∷ []) ops ∙ (ap (λ (o : Op). operations_written past ++ o ∷ ops) fits.0 ∙ all))
        where
          some : (o : Op) (os : List Op) → o ∷ os ≡ [] → ⊥
          some o os h = cc
      by_due (next ∷ ops) e None fits = absurd fits
      by_due (next ∷ ops) e (Some command) fits = absurd fits

  replied : (event : Event) → is_reply event ≡ true → (other : At) → is_newest_at other (entry at event ∷ past) ≡ true → is_answered other (entry at event ∷ past) ≡ true
  replied event reply other newest = both (is_reply event) (same_at at other) (is_answered other past) reply newest
    where
      both : (a b c : Bool) → a ≡ true → b ≡ true → (a && b || c) ≡ true
      both true true c h g = refl
      both true false c h g = absurd (false≢true g)
      both false b c h g = absurd (false≢true h)

  -- nothing but an operation comes while a replay goes on
  no_replay : (event : Event) → ((op : Op) (command : Option LineCommand) → FitsReplay op past at command event → ⊥) → Comes past at event → (replay_due past ≡ [] → ⊥) → ⊥
  no_replay event other comes some = by_due (replay_due past) refl comes.fits
    where
      by_due : (ops : List Op) → replay_due past ≡ ops → Fits ops comes.lines past at comes.command event → ⊥
      by_due [] e fits = some e
      by_due (op ∷ ops) e fits = other op comes.command fits

  promoted_prefix : (n : ℕ) → IsPrefix (operations_at past (version_of n past)) (logged_operations past)
  promoted_prefix n = logged.points (version_of n past)

  -- no line starts while a replay goes on
  starts_apart : (op : Op) (command : Option LineCommand) (event : Event) → is_start event ≡ true → FitsReplay op past at command event → ⊥
  starts_apart op None event start fits = fits
  starts_apart op (Some (Promote n force)) (Accepted seq again) start fits = false≢true start
  starts_apart op (Some (Promote n force)) event start fits = fits
  starts_apart op (Some command) event start fits = fits

  -- where a line starts, all that is logged is written
  start_whole : (event : Event) → Comes past at event → is_start event ≡ true → operations_written past ≡ logged_operations past
  start_whole event comes start = by_due (replay_due past) refl comes.fits
    where
      by_due : (ops : List Op) → replay_due past ≡ ops → Fits ops comes.lines past at comes.command event → operations_written past ≡ logged_operations past
      by_due [] e fits = sym (append-nil (operations_written past)) ∙ (ap (λ (ops : List Op). operations_written past ++ ops) (sym e) ∙ logged.written)
      by_due (op ∷ ops) e fits = absurd (starts_apart op comes.command event start fits)

  starts_whole : (event : Event) → Comes past at event → (other : At) → operations_at_start other (entry at event ∷ past) ≡ logged_operations (before_start other (entry at event ∷ past))
  starts_whole event comes other = by_test (is_start event && same_at at other) (λ both. start_whole event comes (and_parts (is_start event) (same_at at other) both).0)
    where
      by_test : (t : Bool) → (t ≡ true → operations_written past ≡ logged_operations past)
          → (if t then operations_written past else operations_at_start other past) ≡ logged_operations (if t then past else before_start other past)
      by_test true here = here refl
      by_test false here = logged.whole other

  next : (event : Event) → Comes past at event → IsLogged (entry at event ∷ past)
  next (Accepted seq op) comes = record {
    written = accepted_written seq op comes;
    points = points_kept (Accepted seq op);
    starts = starts_next (Accepted seq op);
    replies = λ other some newest. replied (Accepted seq op) refl other newest;
    whole = starts_whole (Accepted seq op) comes;
  }
  next (Promoted n g f v) comes =
      let made : (if v.0 == v.0 then operations_at past (version_of n.0 past) else operations_at past v.0) ≡ operations_at past (version_of n.0 past) = rw (eq-eqb v.0 v.0 refl) refl in
      record {
        written =
            ap (λ (ops : List Op). operations_at past (version_of n.0 past) ++ drop (length ops) (logged_operations past)) made
            ∙ whole_again (operations_at past (version_of n.0 past)) (logged_operations past) (promoted_prefix n.0);
        points = λ w. point_of (Promoted n g f v) (operations_at past (version_of n.0 past)) (v.0 == w) w (promoted_prefix n.0);
        starts = starts_next (Promoted n g f v);
        replies = λ other some newest. replied (Promoted n g f v) refl other newest;
        whole = starts_whole (Promoted n g f v) comes;
      }
  next (Published g w) comes = record {
    written = logged.written;
    points = λ v. point_of (Published g w) (operations_at_start at past) (w.0 == v) v (logged.starts at);
    starts = starts_next (Published g w);
    replies = λ other some newest. absurd (no_replay (Published g w) (λ op command. never op command) comes some);
    whole = starts_whole (Published g w) comes;
  }
    where
      never : (op : Op) (command : Option LineCommand) → FitsReplay op past at command (Published g w) → ⊥
      never op None h = h
      never op (Some (Promote n force)) h = h
      never op (Some command) h = h
  next event comes = record {
    written = logged.written;
    points = points_kept event;
    starts = starts_next event;
    replies = λ other some newest. absurd (no_replay event (λ op command. never op command) comes some);
    whole = starts_whole event comes;
  }
    where
      never : (op : Op) (command : Option LineCommand) → FitsReplay op past at command event → ⊥
      never op None h = h
      never op (Some (Promote n force)) h = h
      never op (Some command) h = h

-- what serves a script with a log has it whole
all_logged : (script : Script) (past : Past) → script.log ≡ true → ServesLanes script past → IsLogged past
all_logged script [] log serves = none_logged
all_logged script (e ∷ past) log serves =
    let lines : List Line = lines_of_lane e.at.lane.0 script in
    next past e.at (all_logged script past log serves.1) e.event
    (record {
      lines = lines_of_lane e.at.lane.0 script;
      command = command_at (lines_of_lane e.at.lane.0 script) e.at;
      fits = subst (λ (b : Bool). Fits (due b past) lines past e.at (command_at lines e.at) e.event) log serves.0;
    })

serves_with_log : (script : Script) (h : History) → script.log ≡ true → Serves script h → IsLogged (reverse h.entries)
serves_with_log script h log serves =
    all_logged script (reverse h.entries) log serves.lanes

-- the operations of each point are the first of those that the log has
pub points_are_logged : (script : Script) (h : History) → script.log ≡ true → Serves script h → PointsAreLogged h
points_are_logged script h log serves = (serves_with_log script h log serves).points

-- all that the log has is written
pub nothing_is_lost : (script : Script) (h : History) → script.log ≡ true → Serves script h → NothingIsLost h
nothing_is_lost script h log serves =
    let none : replay_due (reverse h.entries) ≡ [] = rw log at serves.replayed in
    sym (append-nil (operations_written (reverse h.entries)))
    ∙ (ap (λ (ops : List Op). operations_written (reverse h.entries) ++ ops) (sym none) ∙ (serves_with_log script h log serves).written)

publish_whole : (past : Past) (e : Entry) → IsLogged past → IsPublishWhole e.at e.event past
publish_whole past e logged = by_event e.event
  where
    by_event : (event : Event) → IsPublishWhole e.at event past
    by_event (Published g v) =
        let made : operations_at (entry e.at (Published g v) ∷ past) v.0 ≡ logged_operations (before_start e.at past) = rw (eq-eqb v.0 v.0 refl) (logged.whole e.at) in
        ap documents_after made
    by_event event = tt

-- the point of each publish is what all operations leave that were logged before its start
pub publishes_are_whole : (script : Script) (past : Past) → script.log ≡ true → ServesLanes script past → PublishesAreWhole past
publishes_are_whole script [] log serves = tt
publishes_are_whole script (e ∷ past) log serves =
    (publish_whole past e (all_logged script past log serves.1), publishes_are_whole script past log serves.1)
