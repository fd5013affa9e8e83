-- What tickets and searches ask for, from how far their line has come, and what a list of files tells.
use Rattle.std.proofs.Common.{◌≡◌, ◌≢◌, ◌==◌, ℕ, Bool, true, false, true≢false, [], ◌∷◌, Some, None, Option, refl, ap, ◌∙◌, sym, subst, if◌then◌else◌, List}
use Rattle.std.specs.Prelude.{not, IsSomeAnd, IfSome}
use Rattle.std.proofs.lemmas.Option.{same_Some}
use Rattle.nrt_base.specs.declared.numbers.At.{At}
use Rattle.nrt_base.specs.declared.numbers.NodeNo.{NodeNo}
use Rattle.nrt_base.specs.declared.numbers.TicketNo.{TicketNo}
use Rattle.nrt_base.specs.declared.numbers.Version.{Version}
use Rattle.documents.specs.declared.query.Query.{Query}
use Rattle.documents.specs.declared.answer.Answer.{Answer}
use Rattle.documents.specs.Ranking.{scan_of}
use Rattle.history_rules.specs.declared.cause.Cause.{Cause}
use Rattle.history_rules.specs.declared.cause.Cause.TheVariants.{Lost, Down}
use Rattle.history_rules.specs.declared.entry.Event.{Event}
use Rattle.history_rules.specs.declared.entry.Event.TheVariants.{Opened, Asking, Answered, Closed, Refused, Files}
use Rattle.history_rules.specs.Nodes.{Past, IsNode, crashes, is_running}
use Rattle.history_rules.specs.Lines.{last_of_line, start_entry, before_start}
use Rattle.history_rules.specs.Points.{documents_at}
use Rattle.history_rules.specs.Tickets.{Ticket, open_ticket}
use Rattle.history_rules.specs.Started.{StartedSearch}
use Rattle.history_rules.specs.Legal.{KeepsRule, IsLegalPast}
use Rattle.history_tables.specs.declared.lines.Start.{Start}
use Rattle.history_tables.specs.declared.lines.Start.TheVariants.{Publishing as PublishStart, Copying as CopyStart, Settling as SettleStart, Searching as SearchStart, Asking as AskStart, Committing as CommitStart}
use Rattle.history_tables.specs.declared.lines.BegunLine.{BegunLine}
use Rattle.history_tables.specs.declared.tickets.Opening.{Opening}
use Rattle.history_tables.specs.Begins.{event_of, open_line}
use Rattle.history_tables.specs.Openings.{ticket_of}
use Rattle.history_book.specs.Log.{Log, printed, shown}
use Rattle.cluster_state.specs.Run.{Run, names_at, IsNow}
use Rattle.cluster_state.specs.GivesUp.{met_log}
use Rattle.history_book.proofs.LineLaws.{open_started}
use Rattle.history_book.proofs.OpenLaws.{last_started}
use Rattle.history_book.proofs.ReignLaws.{start_kept}
use Rattle.cluster_documents.proofs.Leasing.{ticket_node}
use Rattle.cluster_state.specs.Calls.{ScansAt, AnswerEnds, by_refusal, LineRefused, ListsFiles}
use Rattle.cluster_state.specs.Lists.{TellsFiles}
use Rattle.script_serving.specs.Refusals.{when}
use Rattle.cluster_state.proofs.Rows.{legal_at, up_unrefused}

-- ---- tickets

pub ticket_told : (lane t : ℕ) (log l : Log) (r : Option Opening) (o : Opening) → l ≡ log → IfSome r (λ x. open_ticket lane t (printed l) ≡ Some (ticket_of x)) → r ≡ Some o
    → open_ticket lane t (printed log) ≡ Some (ticket_of o)
ticket_told lane t log l r o same told is =
    subst (λ (x : Log). open_ticket lane t (printed x) ≡ Some (ticket_of o)) same (subst (λ (x : Option Opening). IfSome x (λ y. open_ticket lane t (printed l) ≡ Some (ticket_of y))) is told)

pub close_rule : (size : ℕ) (past : Past) (at : At) (t : TicketNo) (o : Opening) → IsLegalPast size past → open_ticket at.lane.0 t.0 past ≡ Some (ticket_of o) → KeepsRule size past at (Closed o.node t)
close_rule size past at t o legal is = record {
  node = ticket_node size at.lane.0 t.0 past (ticket_of o) legal is;
  held = subst (λ (x : Option Ticket). IsSomeAnd x (λ ticket. ticket.node ≡ o.node.0)) (sym is) refl;
}

pub close_node : (size m : ℕ) (at : At) (t : TicketNo) (log l : Log) (o : Opening) → m ≡ size → l ≡ log → IsLegalPast m (printed l) → open_ticket at.lane.0 t.0 (printed log) ≡ Some (ticket_of o) → IsNode size o.node.0
close_node size m at t log l o nodes same legal is = ticket_node size at.lane.0 t.0 (printed log) (ticket_of o) (legal_at size m log l nodes same legal) is

-- ---- searches

-- a line that is to be answered has started so, and searches this node, under this ticket and at this version
pub record IsSearchOf (size : ℕ) (past : Past) (at : At) (query : Query) (answer : Answer) (begun : Event) (n : NodeNo) (t : TicketNo) (v : Version) : Type 0 where
  pub last : last_of_line at past ≡ Some begun
  pub node : IsNode size n.0
  pub line : open_line at past ≢ None
  pub started : StartedSearch n t v (start_entry at past)
  pub right : answer ≡ scan_of (documents_at past v.0) query

abbrev pub IsSearchBy : ℕ → Past → At → Query → Answer → Start → Type 0
IsSearchBy size past at query answer (SearchStart n v) = IsSearchOf size past at query answer (Opened n (record { 0 = 0 }) v) n (record { 0 = 0 }) v
IsSearchBy size past at query answer (AskStart n t v) = IsSearchOf size past at query answer (Asking n t v) n t v
IsSearchBy size past at query answer start = ⊥

search_of : (size : ℕ) (past : Past) (at : At) (query : Query) (answer : Answer) (n : NodeNo) (t : TicketNo) (v w : Version) (begun : Event) → IsLegalPast size past → last_of_line at past ≡ Some begun
    → open_line at past ≢ None → start_entry at past ≡ Some begun → (KeepsRule size (before_start at past) at begun → IsNode size n.0) → StartedSearch n t v (Some begun) → w ≡ v
    → answer ≡ scan_of (documents_at past w.0) query → IsSearchOf size past at query answer begun n t v
search_of size past at query answer n t v w begun legal last line is node started same right = record {
  last = last;
  node = node (start_kept size at past begun legal is);
  line = line;
  started = subst (StartedSearch n t v) (sym is) started;
  right = subst (λ (x : Version). answer ≡ scan_of (documents_at past x.0) query) same right;
}

opened_start : (size : ℕ) (past : Past) (at : At) (query : Query) (answer : Answer) (n : NodeNo) (t : TicketNo) (v : Version) (start : Start) → IsLegalPast size past
    → last_of_line at past ≡ Some (event_of start) → open_line at past ≢ None
    → start_entry at past ≡ Some (event_of start) → Opened n t v ≡ event_of start → answer ≡ scan_of (documents_at past v.0) query → IsSearchBy size past at query answer start
opened_start size past at query answer n t v (SearchStart m w) legal last line is same right =
    search_of size past at query answer m (record { 0 = 0 }) w v (Opened m (record { 0 = 0 }) w) legal last line is (λ keeps. keeps.node) (refl, refl, refl) (cc) right
opened_start size past at query answer n t v PublishStart legal last line is same right = absurd (cc)
opened_start size past at query answer n t v (CopyStart m w) legal last line is same right = absurd (cc)
opened_start size past at query answer n t v (SettleStart w) legal last line is same right = absurd (cc)
opened_start size past at query answer n t v (AskStart m u w) legal last line is same right = absurd (cc)
opened_start size past at query answer n t v (CommitStart m w) legal last line is same right = absurd (cc)

asking_start : (size : ℕ) (past : Past) (at : At) (query : Query) (answer : Answer) (n : NodeNo) (t : TicketNo) (v : Version) (start : Start) → IsLegalPast size past
    → last_of_line at past ≡ Some (event_of start) → open_line at past ≢ None
    → start_entry at past ≡ Some (event_of start) → Asking n t v ≡ event_of start → answer ≡ scan_of (documents_at past v.0) query → IsSearchBy size past at query answer start
asking_start size past at query answer n t v (AskStart m u w) legal last line is same right =
    search_of size past at query answer m u w v (Asking m u w) legal last line is (λ keeps. keeps.node) (refl, refl, refl) (cc) right
asking_start size past at query answer n t v PublishStart legal last line is same right = absurd (cc)
asking_start size past at query answer n t v (CopyStart m w) legal last line is same right = absurd (cc)
asking_start size past at query answer n t v (SettleStart w) legal last line is same right = absurd (cc)
asking_start size past at query answer n t v (SearchStart m w) legal last line is same right = absurd (cc)
asking_start size past at query answer n t v (CommitStart m w) legal last line is same right = absurd (cc)

-- how the line has started that is to be answered
pub search_by : (size : ℕ) (past : Past) (at : At) (query : Query) (answer : Answer) (b : BegunLine) (last : Option Event) → last_of_line at past ≡ last → IsLegalPast size past
    → ScansAt past last query answer → open_line at past ≡ Some b → IsSearchBy size past at query answer b.start
search_by size past at query answer b (Some (Opened n t v)) is legal scans line =
    let started = last_started at past (Opened n t v) (ap (λ (k : ℕ). k == 0) scans.0) is in
    let entry = (open_started at past b line).entry in
    opened_start size past at query answer n t v b.start legal (is ∙ (sym started.entry ∙ entry)) started.is_open entry (same_Some (Opened n t v) (event_of b.start) (sym started.entry ∙ entry)) scans.1
search_by size past at query answer b (Some (Asking n t v)) is legal scans line =
    let started = last_started at past (Asking n t v) refl is in
    let entry = (open_started at past b line).entry in
    asking_start size past at query answer n t v b.start legal (is ∙ (sym started.entry ∙ entry)) started.is_open entry (same_Some (Asking n t v) (event_of b.start) (sym started.entry ∙ entry)) scans
search_by size past at query answer b last is legal scans line = absurd scans

-- it is open
pub search_open : (past : Past) (at : At) (query : Query) (answer : Answer) (last : Option Event) → last_of_line at past ≡ last → ScansAt past last query answer → open_line at past ≢ None
search_open past at query answer (Some (Opened n t v)) is scans = (last_started at past (Opened n t v) (ap (λ (k : ℕ). k == 0) scans.0) is).is_open
search_open past at query answer (Some (Asking n t v)) is scans = (last_started at past (Asking n t v) refl is).is_open
search_open past at query answer last is scans = absurd scans

pub line_at : (at : At) (log l : Log) (o : Option BegunLine) → l ≡ log → o ≡ open_line at (printed l) → open_line at (printed log) ≡ o
line_at at log l o same is = sym (is ∙ ap (λ (x : Log). open_line at (printed x)) same)

pub search_found : (size m : ℕ) (at : At) (query : Query) (answer : Answer) (log l k : Log) (b : BegunLine) (start : Start) (o : Option BegunLine) → m ≡ size → l ≡ log → k ≡ log → IsLegalPast m (printed l)
    → ScansAt (printed log) (last_of_line at (printed log)) query answer → o ≡ open_line at (printed k) → o ≡ Some b → b.start ≡ start → IsSearchBy size (printed log) at query answer start
search_found size m at query answer log l k b start o nodes same like legal scans line found is =
    subst (IsSearchBy size (printed log) at query answer) is
    (search_by size (printed log) at query answer b (last_of_line at (printed log)) refl (legal_at size m log l nodes same legal) scans (line_at at log k o like line ∙ found))

pub search_there : (at : At) (query : Query) (answer : Answer) (log k : Log) (o : Option BegunLine) → k ≡ log → ScansAt (printed log) (last_of_line at (printed log)) query answer → o ≡ open_line at (printed k) → o ≢ None
search_there at query answer log k o like scans line none =
    search_open (printed log) at query answer (last_of_line at (printed log)) refl scans (line_at at log k o like line ∙ none)

turned : (b : Bool) (x y : Event) → (if b then x else y) ≡ (if not b then y else x)
turned true x y = refl
turned false x y = refl

-- how a search has ended
pub opened_ends : (at : At) (n : NodeNo) (t : TicketNo) (v : Version) (query : Query) (answer : Answer) (old new : Run) → last_of_line at (printed old.log) ≡ Some (Opened n t v)
    → IsNow old new (shown at (if crashes n.0 (printed old.log) == crashes n.0 (before_start at (printed old.log)) then Answered n t v query answer else Refused Lost) ∷ met_log at old new)
    → AnswerEnds at (last_of_line at (printed old.log)) query answer old new
opened_ends at n t v query answer old new last now =
    subst (λ (o : Option Event). AnswerEnds at o query answer old new) (sym last)
    (subst (λ (e : Event). IsNow old new (shown at e ∷ met_log at old new)) (turned (crashes n.0 (printed old.log) == crashes n.0 (before_start at (printed old.log))) (Answered n t v query answer) (Refused Lost)) now)

pub asking_ends : (at : At) (n : NodeNo) (t : TicketNo) (v : Version) (query : Query) (answer : Answer) (old new : Run) → last_of_line at (printed old.log) ≡ Some (Asking n t v)
    → IsNow old new (shown at (if crashes n.0 (printed old.log) == crashes n.0 (before_start at (printed old.log)) then Answered n t v query answer else Refused Lost) ∷ met_log at old new)
    → AnswerEnds at (last_of_line at (printed old.log)) query answer old new
asking_ends at n t v query answer old new last now =
    subst (λ (o : Option Event). AnswerEnds at o query answer old new) (sym last)
    (subst (λ (e : Event). IsNow old new (shown at e ∷ met_log at old new)) (turned (crashes n.0 (printed old.log) == crashes n.0 (before_start at (printed old.log))) (Answered n t v query answer) (Refused Lost)) now)

-- ---- files

-- a node that runs, or that is down
pub listed : (at : At) (n : NodeNo) (old new : Run) → is_running n.0 (printed old.log) ≡ true → TellsFiles at n old new → ListsFiles at n old new
listed at n old new up tells = subst (λ (o : Option Cause). IsNow old new (shown at (by_refusal o (Files n (names_at n.0 old))) ∷ old.log)) (sym (up_unrefused n.0 (printed old.log) up)) tells

pub unlisted : (at : At) (n : NodeNo) (old new : Run) → is_running n.0 (printed old.log) ≡ false → LineRefused at Down old new → ListsFiles at n old new
unlisted at n old new down now =
    subst (λ (o : Option Cause). IsNow old new (shown at (by_refusal o (Files n (names_at n.0 old))) ∷ old.log)) (sym (ap (λ (b : Bool). when (not b) Down) down)) now
