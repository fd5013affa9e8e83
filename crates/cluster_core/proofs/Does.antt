-- What each row of calls does for its line, from the entries that it adds.
use Rattle.std.proofs.Common.{◌≡◌, ◌≢◌, ◌&&◌, ◌||◌, ◌==◌, ℕ, Bool, true, false, List, [], ◌∷◌, Some, None, Option, refl, ap, ◌∙◌, sym, subst, if◌then◌else◌, length, inr, arith}
use Rattle.std.specs.Prelude.{not, is_some}
use Rattle.std.specs.List.{list_any}
use Rattle.std.proofs.lemmas.Bool.{and_from, and_parts}
use Rattle.std.proofs.lemmas.Bool.Decides.{nat_tests}
use Rattle.std.specs.Option.{option_or}
use Rattle.nrt_base.specs.declared.numbers.At.{At}
use Rattle.nrt_base.specs.declared.numbers.NodeNo.{NodeNo}
use Rattle.nrt_base.specs.declared.numbers.TicketNo.{TicketNo}
use Rattle.nrt_base.specs.declared.numbers.Version.{Version}
use Rattle.documents.specs.declared.operation.Op.{Op}
use Rattle.documents.specs.declared.operation.Op.TheVariants.{Put as PutOp, Delete as DeleteOp, Drop as DropOp}
use Rattle.documents.specs.declared.query.Query.{Query}
use Rattle.documents.specs.declared.answer.Answer.{Answer}
use Rattle.documents.specs.Documents.{is_put}
use Rattle.seg_reader.specs.Shown.{Shown}
use Rattle.searcher_switch.specs.declared.searchers.Lease.{Lease}
use Rattle.segment_steps.specs.declared.flushing.FlushTask.{FlushTask}
use Rattle.history_rules.specs.declared.cause.Cause.{Cause}
use Rattle.history_rules.specs.declared.cause.Cause.TheVariants.{NoTicket, Nothing, NamesSpent, TooManySegments, Lost}
use Rattle.history_rules.specs.declared.entry.Event.{Event}
use Rattle.history_rules.specs.declared.entry.Event.TheVariants.{Accepted, Publishing, Opened, Asking, Answered, Closed, Files, Refused}
use Rattle.history_rules.specs.Nodes.{Past, version_of}
use Rattle.history_rules.specs.Lines.{same_at, is_start, is_reply, is_answered, last_of_line, before_start}
use Rattle.history_rules.specs.Points.{cut_of, cut_has_put}
use Rattle.history_rules.specs.Tickets.{Ticket, has_ticket, open_ticket}
use Rattle.history_rules.specs.Started.{is_lost}
use Rattle.history_tables.proofs.RowLemmas.{same_at_self}
use Rattle.history_book.specs.Laws.{IsFresh}
use Rattle.history_book.specs.Log.{Log, printed, shown, kept}
use Rattle.history_book.specs.Turns.{AreInTurn}
use Rattle.history_book.specs.declared.inner.Inner.TheVariants.{FlushOut}
use Rattle.history_book.proofs.OpenLaws.{last_started}
use Rattle.history_book.proofs.FreshLaws.{open_unanswered}
use Rattle.script_serving.specs.declared.script.LineCommand.{LineCommand}
use Rattle.script_serving.specs.declared.script.LineCommand.TheVariants.{Publish, Search, Open, Ask, Close, Files as ListOf}
use Rattle.script_serving.specs.Refusals.{when, without_primary, without_node, names_are_spent, may_be_full, refusal}
use Rattle.script_serving.specs.Serves.{First, Follows, Suits}
use Rattle.cluster_state.specs.Run.{Run, names_at, IsNow}
use Rattle.cluster_state.specs.declared.turn.Turn.{Turn}
use Rattle.cluster_state.specs.declared.turn.Turn.TheVariants.{Work, Done, Busy}
use Rattle.lane_threads.specs.Owes.{SuitsOrFault}
use Rattle.cluster_core.specs.Doing.{Does, IsReplied, IsBegunBy, IsRepliedAtDone, IsBegunAtWork, writing_command, AsksFor}
use Rattle.cluster_state.specs.Calls.{by_refusal, LineRefused, IsRefusedFor, publish_refusal, PublishRefused, PublishStarts, open_event, ListsFiles, SearchStarts, AsksTicket, AskStarts, asked_event, close_by, ScansAt, answer_event, AnswerEnds}
use Rattle.cluster_state.specs.GivesUp.{publish_reply, met_log, PublishEndsBy, EndsPublish}
use Rattle.cluster_state.proofs.Rows.{up_unrefused}
use Rattle.cluster_core.proofs.MetDoes.{Meets, met_here, one_behind, later_behind, refused_behind, row_behind, top_replied}

-- ---- entries

-- one entry that suits
pub one_does : (command : LineCommand) (at : At) (old new : Run) (e : Event) → IsNow old new (shown at e ∷ old.log) → SuitsOrFault command at (printed old.log) e → Does command at old new
one_does command at old new e now suits = record { running = now.running; nodes = now.nodes; goes = record { more = shown at e ∷ []; log = now.log; adds = (refl, suits, tt) } }

-- no entry
pub none_does : (command : LineCommand) (at : At) (old new : Run) → IsNow old new old.log → Does command at old new
none_does command at old new now = record { running = now.running; nodes = now.nodes; goes = record { more = []; log = now.log; adds = tt } }

-- the first entry of a line
pub first_suits : (command : LineCommand) (at : At) (past : Past) (e : Event) → IsFresh at past → First command at past (refusal command at.lane.0 past) e → Suits command at past (last_of_line at past) e
first_suits command at past e fresh first = subst (λ (last : Option Event). Suits command at past last e) (sym fresh.last) first

-- an entry behind the start of a line
pub later_suits : (command : LineCommand) (at : At) (past : Past) (begun e : Event) → last_of_line at past ≡ Some begun → is_answered at past ≡ false → Follows command begun e
    → Suits command at past (last_of_line at past) e
later_suits command at past begun e last unanswered follows = subst (λ (l : Option Event). Suits command at past l e) (sym last) (unanswered, follows)

-- a line whose newest entry is its start has no reply
pub started_unanswered : (at : At) (past : Past) (begun : Event) → AreInTurn past → is_start begun ≡ true → last_of_line at past ≡ Some begun → is_answered at past ≡ false
started_unanswered at past begun turns start last = open_unanswered at past turns (last_started at past begun start last).is_open

-- a reply is there
pub one_replied : (at : At) (old new : Run) (e : Event) → is_reply e ≡ true → IsNow old new (shown at e ∷ old.log) → IsReplied at new
one_replied at old new e reply now = top_replied at new e old.log reply now.log

-- a start is there
pub begun_by : (at : At) (old new : Run) (begun : Event) → is_reply begun ≡ false → last_of_line at (record { at = at; event = begun } ∷ printed old.log) ≡ Some begun → IsFresh at (printed old.log)
    → printed new.log ≡ record { at = at; event = begun } ∷ printed old.log → IsBegunBy at begun new
begun_by at old new begun reply last fresh log = record {
  last = ap (last_of_line at) log ∙ last;
  unanswered = ap (is_answered at) log ∙ (ap (λ (b : Bool). (b && same_at at at) || is_answered at (printed old.log)) reply ∙ fresh.replied);
}

-- ---- a row that is answered at once: its refusal, or what it does

pub row_does : (command : LineCommand) (at : At) (old new : Run) (o : Option Cause) (e : Event)
    → (Suits command at (printed old.log) (last_of_line at (printed old.log)) e → SuitsOrFault command at (printed old.log) e)
    → IsFresh at (printed old.log) → refusal command at.lane.0 (printed old.log) ≡ o → IsNow old new (shown at (by_refusal o e) ∷ old.log) → First command at (printed old.log) None e → Does command at old new
row_does command at old new None e lift fresh is now begins =
    one_does command at old new e now (lift (first_suits command at (printed old.log) e fresh (subst (λ (r : Option Cause). First command at (printed old.log) r e) (sym is) begins)))
row_does command at old new (Some cause) e lift fresh is now begins =
    one_does command at old new (Refused cause) now (first_suits command at (printed old.log) (Refused cause) fresh (subst (λ (r : Option Cause). First command at (printed old.log) r (Refused cause)) (sym is) refl))

-- a refusal that holds
pub refused_does : (command : LineCommand) (at : At) (old new : Run) (cause : Cause) → IsFresh at (printed old.log) → refusal command at.lane.0 (printed old.log) ≡ Some cause → LineRefused at cause old new → Does command at old new
refused_does command at old new cause fresh is now =
    one_does command at old new (Refused cause) now (first_suits command at (printed old.log) (Refused cause) fresh (subst (λ (r : Option Cause). First command at (printed old.log) r (Refused cause)) (sym is) refl))

pub reply_by : (o : Option Cause) (e : Event) → is_reply e ≡ true → is_reply (by_refusal o e) ≡ true
reply_by None e reply = reply
reply_by (Some cause) e reply = refl

pub row_replied : (at : At) (old new : Run) (o : Option Cause) (e : Event) → is_reply e ≡ true → IsNow old new (shown at (by_refusal o e) ∷ old.log) → IsReplied at new
row_replied at old new o e reply now = one_replied at old new (by_refusal o e) (reply_by o e reply) now

-- ---- put, delete, drop

pub accept_does : (op : Op) (at : At) (old new : Run) (k : ℕ) → IsFresh at (printed old.log) → IsNow old new (shown at (by_refusal (without_primary (printed old.log)) (Accepted k op)) ∷ old.log) → Does (writing_command op) at old new
accept_does (PutOp doc) at old new k fresh now = row_does (writing_command (PutOp doc)) at old new (without_primary (printed old.log)) (Accepted k (PutOp doc)) (λ suits. suits) fresh refl now refl
accept_does (DeleteOp key) at old new k fresh now = row_does (writing_command (DeleteOp key)) at old new (without_primary (printed old.log)) (Accepted k (DeleteOp key)) (λ suits. suits) fresh refl now refl
accept_does (DropOp word) at old new k fresh now = row_does (writing_command (DropOp word)) at old new (without_primary (printed old.log)) (Accepted k (DropOp word)) (λ suits. suits) fresh refl now refl

pub accept_replied : (op : Op) (at : At) (old new : Run) (k : ℕ) → IsNow old new (shown at (by_refusal (without_primary (printed old.log)) (Accepted k op)) ∷ old.log) → IsReplied at new
accept_replied op at old new k now = row_replied at old new (without_primary (printed old.log)) (Accepted k op) refl now

-- ---- open and close

pub open_does : (at : At) (n : NodeNo) (t : TicketNo) (old new : Run) → IsFresh at (printed old.log) → IsNow old new (shown at (open_event at.lane.0 n t (printed old.log)) ∷ old.log) → Does (Open n t) at old new
open_does at n t old new fresh now =
    row_does (Open n t) at old new (refusal (Open n t) at.lane.0 (printed old.log)) (Opened n t (record { 0 = version_of n.0 (printed old.log) })) (λ suits. suits) fresh refl now (refl, refl)

none_is : (t : ℕ) → t ≢ 0 → (t == 0) ≡ false
none_is t some = grind (arith, nat_tests)

number_told : (t : ℕ) → t ≢ 0 → not (t == 0) ≡ true
number_told t some = ap not (none_is t some)

pub open_replied : (at : At) (n : NodeNo) (t : TicketNo) (old new : Run) → t.0 ≢ 0 → IsNow old new (shown at (open_event at.lane.0 n t (printed old.log)) ∷ old.log) → IsReplied at new
open_replied at n t old new some now =
    row_replied at old new (refusal (Open n t) at.lane.0 (printed old.log)) (Opened n t (record { 0 = version_of n.0 (printed old.log) })) (number_told t.0 some) now

pub close_does : (at : At) (t : TicketNo) (old new : Run) (o : Option Ticket) → open_ticket at.lane.0 t.0 (printed old.log) ≡ o → IsFresh at (printed old.log)
    → IsNow old new (shown at (close_by t o) ∷ met_log at old new) → Does (Close t) at old new
close_does at t old new None is fresh now =
    refused_behind (Close t) at old new NoTicket (met_log at old new) (met_here (Close t) at old new fresh.replied) fresh (ap (λ (o : Option Ticket). when (not (is_some o)) NoTicket) is) now
close_does at t old new (Some ticket) is fresh now =
    row_behind (Close t) at old new None (Closed (record { 0 = ticket.node }) t) (met_log at old new) (met_here (Close t) at old new fresh.replied) (λ suits. suits) fresh (ap (λ (o : Option Ticket). when (not (is_some o)) NoTicket) is) now refl

pub close_replied : (at : At) (t : TicketNo) (old new : Run) (o : Option Ticket) → IsNow old new (shown at (close_by t o) ∷ met_log at old new) → IsReplied at new
close_replied at t old new None now = top_replied at new (Refused NoTicket) (met_log at old new) refl now.log
close_replied at t old new (Some ticket) now = top_replied at new (Closed (record { 0 = ticket.node }) t) (met_log at old new) refl now.log

-- ---- files

pub files_does : (at : At) (n : NodeNo) (old new : Run) → IsFresh at (printed old.log) → ListsFiles at n old new → Does (ListOf n) at old new
files_does at n old new fresh lists = row_does (ListOf n) at old new (without_node n.0 (printed old.log)) (Files n (names_at n.0 old)) (λ suits. suits) fresh refl lists refl

pub files_replied : (at : At) (n : NodeNo) (old new : Run) → ListsFiles at n old new → IsReplied at new
files_replied at n old new lists = row_replied at old new (without_node n.0 (printed old.log)) (Files n (names_at n.0 old)) refl lists

-- ---- search and ask

pub refused_for_does : (command : LineCommand) (at : At) (old new : Run) (o : Option Cause) → IsFresh at (printed old.log) → refusal command at.lane.0 (printed old.log) ≡ o → IsRefusedFor at o old new → Does command at old new
refused_for_does command at old new None fresh is refused = absurd refused
refused_for_does command at old new (Some cause) fresh is refused = refused_does command at old new cause fresh is refused

pub refused_for_replied : (at : At) (old new : Run) (o : Option Cause) → IsRefusedFor at o old new → IsReplied at new
refused_for_replied at old new None refused = absurd refused
refused_for_replied at old new (Some cause) refused = one_replied at old new (Refused cause) refl refused

pub search_does : (at : At) (n : NodeNo) (query : Query) (old new : Run) (turn : Turn (Lease Shown)) → IsFresh at (printed old.log) → SearchStarts at n old new turn → Does (Search n query) at old new
search_does at n query old new (Work lease) fresh starts =
    row_does (Search n query) at old new None (Opened n (record { 0 = 0 }) (record { 0 = version_of n.0 (printed old.log) })) (λ suits. suits) fresh
    (up_unrefused n.0 (printed old.log) starts.2) starts.0 (refl, refl)
search_does at n query old new Done fresh starts = refused_for_does (Search n query) at old new (without_node n.0 (printed old.log)) fresh refl starts
search_does at n query old new Busy fresh starts = absurd starts

pub search_replied : (at : At) (n : NodeNo) (old new : Run) (turn : Turn (Lease Shown)) → SearchStarts at n old new turn → IsRepliedAtDone at new turn
search_replied at n old new (Work lease) starts = tt
search_replied at n old new Done starts = refused_for_replied at old new (without_node n.0 (printed old.log)) starts
search_replied at n old new Busy starts = absurd starts

version_is : (v : Version) (w : ℕ) → v.0 ≡ w → ◌≡◌ {A = Version} (record { 0 = w }) v
version_is v w is = subst (λ (x : ℕ). ◌≡◌ {A = Version} (record { 0 = x }) v) is refl

pub search_begun : (at : At) (n : NodeNo) (old new : Run) (turn : Turn (Lease Shown)) → IsFresh at (printed old.log) → SearchStarts at n old new turn
    → IsBegunAtWork at (λ lease. Opened n (record { 0 = 0 }) lease.version) new turn
search_begun at n old new (Work lease) fresh starts =
    subst (λ (v : Version). IsBegunBy at (Opened n (record { 0 = 0 }) v) new) (version_is lease.version (version_of n.0 (printed old.log)) starts.1.version)
    (begun_by at old new (Opened n (record { 0 = 0 }) (record { 0 = version_of n.0 (printed old.log) })) refl (rw (same_at_self at) refl) fresh (ap printed starts.0.log))
search_begun at n old new Done fresh starts = tt
search_begun at n old new Busy fresh starts = tt

has_refusal : (lane t : ℕ) (past : Past) (o : Option Ticket) → open_ticket lane t past ≡ o → when (not (has_ticket lane t past)) NoTicket ≡ when (not (is_some o)) NoTicket
has_refusal lane t past o is = ap (λ (x : Option Ticket). when (not (is_some x)) NoTicket) is

asks_does : (at : At) (t : TicketNo) (query : Query) (old new : Run) (o : Option Ticket) (lease : Lease Shown) → open_ticket at.lane.0 t.0 (printed old.log) ≡ o → IsFresh at (printed old.log)
    → AsksTicket at t o old new lease → Does (Ask t query) at old new
asks_does at t query old new None lease is fresh asks = absurd asks
asks_does at t query old new (Some ticket) lease is fresh asks =
    row_does (Ask t query) at old new None (Asking (record { 0 = ticket.node }) t (record { 0 = ticket.version })) (λ suits. suits) fresh
    (has_refusal at.lane.0 t.0 (printed old.log) (Some ticket) is) asks.0 refl

pub ask_does : (at : At) (t : TicketNo) (query : Query) (old new : Run) (turn : Turn (Lease Shown)) → IsFresh at (printed old.log) → AskStarts at t old new turn → Does (Ask t query) at old new
ask_does at t query old new (Work lease) fresh starts = asks_does at t query old new (open_ticket at.lane.0 t.0 (printed old.log)) lease refl fresh starts
ask_does at t query old new Done fresh starts =
    refused_does (Ask t query) at old new NoTicket fresh (has_refusal at.lane.0 t.0 (printed old.log) None starts.1) starts.0
ask_does at t query old new Busy fresh starts = absurd starts

pub ask_replied : (at : At) (t : TicketNo) (old new : Run) (turn : Turn (Lease Shown)) → AskStarts at t old new turn → IsRepliedAtDone at new turn
ask_replied at t old new (Work lease) starts = tt
ask_replied at t old new Done starts = one_replied at old new (Refused NoTicket) refl starts.0
ask_replied at t old new Busy starts = absurd starts

asks_begun : (at : At) (t : TicketNo) (old new : Run) (o : Option Ticket) (lease : Lease Shown) → IsFresh at (printed old.log) → AsksTicket at t o old new lease → IsBegunBy at (asked_event t o lease.version) new
asks_begun at t old new None lease fresh asks = absurd asks
asks_begun at t old new (Some ticket) lease fresh asks =
    subst (λ (v : Version). IsBegunBy at (Asking (record { 0 = ticket.node }) t v) new) (version_is lease.version ticket.version asks.1.version)
    (begun_by at old new (Asking (record { 0 = ticket.node }) t (record { 0 = ticket.version })) refl (rw (same_at_self at) refl) fresh (ap printed asks.0.log))

pub ask_begun : (at : At) (t : TicketNo) (old new : Run) (turn : Turn (Lease Shown)) → IsFresh at (printed old.log) → AskStarts at t old new turn
    → IsBegunAtWork at (λ lease. asked_event t (open_ticket at.lane.0 t.0 (printed old.log)) lease.version) new turn
ask_begun at t old new (Work lease) fresh starts = asks_begun at t old new (open_ticket at.lane.0 t.0 (printed old.log)) lease fresh starts
ask_begun at t old new Done fresh starts = tt
ask_begun at t old new Busy fresh starts = tt

-- ---- answers

pub answered_does : (command : LineCommand) (at : At) (old new : Run) (b : Bool) (begun answered : Event) (log : Log) → Meets false command at old.log log → last_of_line at (printed old.log) ≡ Some begun
    → (Suits command at (printed log) (last_of_line at (printed log)) answered → SuitsOrFault command at (printed log) answered)
    → Follows command begun answered → Follows command begun (Refused Lost) → IsNow old new (shown at (if b then Refused Lost else answered) ∷ log) → Does command at old new
answered_does command at old new true begun answered log m last lift follows late now =
    one_behind command at old new (Refused Lost) log m now (later_behind command at old.log log begun (Refused Lost) m last late)
answered_does command at old new false begun answered log m last lift follows late now =
    one_behind command at old new answered log m now (lift (later_behind command at old.log log begun answered m last follows))

opened_answer : (command : LineCommand) (at : At) (n : NodeNo) (t : TicketNo) (v : Version) (query : Query) (answer : Answer) (old new : Run) → last_of_line at (printed old.log) ≡ Some (Opened n t v)
    → is_answered at (printed old.log) ≡ false → AsksFor command query (Some (Opened n t v))
    → IsNow old new (shown at (answer_event (printed old.log) (before_start at (printed old.log)) (Opened n t v) n t v query answer) ∷ met_log at old new) → Does command at old new
opened_answer (Search m q) at n t v query answer old new last unanswered asks now =
    answered_does (Search m q) at old new (is_lost (printed old.log) (before_start at (printed old.log)) (Opened n t v)) (Opened n t v) (Answered n t v query answer) (met_log at old new) (met_here (Search m q) at old new unanswered) last
    (λ suits. suits) (asks.0, asks.1, sym asks.2) refl now
opened_answer command at n t v query answer old new last unanswered asks now = absurd asks

asking_answer : (command : LineCommand) (at : At) (n : NodeNo) (t : TicketNo) (v : Version) (query : Query) (answer : Answer) (old new : Run) → last_of_line at (printed old.log) ≡ Some (Asking n t v)
    → is_answered at (printed old.log) ≡ false → AsksFor command query (Some (Asking n t v))
    → IsNow old new (shown at (answer_event (printed old.log) (before_start at (printed old.log)) (Asking n t v) n t v query answer) ∷ met_log at old new) → Does command at old new
asking_answer (Ask u q) at n t v query answer old new last unanswered asks now =
    answered_does (Ask u q) at old new (is_lost (printed old.log) (before_start at (printed old.log)) (Asking n t v)) (Asking n t v) (Answered n t v query answer) (met_log at old new) (met_here (Ask u q) at old new unanswered) last
    (λ suits. suits) (asks.0, sym asks.1) refl now
asking_answer command at n t v query answer old new last unanswered asks now = absurd asks

pub answer_does : (command : LineCommand) (at : At) (last : Option Event) (query : Query) (answer : Answer) (old new : Run) → last_of_line at (printed old.log) ≡ last → AreInTurn (printed old.log)
    → ScansAt (printed old.log) last query answer → AsksFor command query last → AnswerEnds at last query answer old new → Does command at old new
answer_does command at (Some (Opened n t v)) query answer old new is turns scans asks ends =
    opened_answer command at n t v query answer old new is (started_unanswered at (printed old.log) (Opened n t v) turns (ap (λ (k : ℕ). k == 0) scans.0) is) asks ends
answer_does command at (Some (Asking n t v)) query answer old new is turns scans asks ends =
    asking_answer command at n t v query answer old new is (started_unanswered at (printed old.log) (Asking n t v) turns refl is) asks ends
answer_does command at e query answer old new is turns scans asks ends = absurd ends

pub lost_reply : (b : Bool) (e : Event) → is_reply e ≡ true → is_reply (if b then Refused Lost else e) ≡ true
lost_reply true e reply = refl
lost_reply false e reply = reply

pub answer_replied : (at : At) (last : Option Event) (query : Query) (answer : Answer) (old new : Run) → AnswerEnds at last query answer old new → IsReplied at new
answer_replied at (Some (Opened n t v)) query answer old new ends =
    top_replied at new (answer_event (printed old.log) (before_start at (printed old.log)) (Opened n t v) n t v query answer) (met_log at old new)
    (lost_reply (is_lost (printed old.log) (before_start at (printed old.log)) (Opened n t v)) (Answered n t v query answer) refl) ends.log
answer_replied at (Some (Asking n t v)) query answer old new ends =
    top_replied at new (answer_event (printed old.log) (before_start at (printed old.log)) (Asking n t v) n t v query answer) (met_log at old new)
    (lost_reply (is_lost (printed old.log) (before_start at (printed old.log)) (Asking n t v)) (Answered n t v query answer) refl) ends.log
answer_replied at e query answer old new ends = absurd ends

-- ---- publish

empty_no_put : (ops : List Op) → (length ops == 0) ≡ true → list_any is_put ops ≡ false
empty_no_put [] none = refl
empty_no_put (op ∷ ops) none = absurd (grind (arith, none))

-- a publish that is refused while no cause of the history holds
open_refused : (at : At) (old new : Run) (cause : Cause) → IsFresh at (printed old.log) → refusal Publish at.lane.0 (printed old.log) ≡ None → First Publish at (printed old.log) None (Refused cause)
    → LineRefused at cause old new → Does Publish at old new
open_refused at old new cause fresh is may now =
    one_does Publish at old new (Refused cause) now (first_suits Publish at (printed old.log) (Refused cause) fresh (subst (λ (r : Option Cause). First Publish at (printed old.log) r (Refused cause)) (sym is) may))

refused_publish : (at : At) (old new : Run) (a : Option Cause) (z q s : Bool) → IsFresh at (printed old.log) → refusal Publish at.lane.0 (printed old.log) ≡ option_or a (when (q && s) NamesSpent)
    → (z ≡ true → q ≡ false) → (z ≡ true → (length (cut_of (printed old.log)) == 0) ≡ true) → PublishRefused at (option_or a (option_or (when z Nothing) (when (q && s) NamesSpent))) old new → Does Publish at old new
refused_publish at old new (Some cause) z q s fresh is without empty refused = refused_does Publish at old new cause fresh is refused
refused_publish at old new None true q s fresh is without empty refused =
    open_refused at old new Nothing fresh (is ∙ ap (λ (b : Bool). when (b && s) NamesSpent) (without refl)) (empty refl) refused
refused_publish at old new None false true true fresh is without empty refused = refused_does Publish at old new NamesSpent fresh is refused
refused_publish at old new None false true false fresh is without empty refused =
    open_refused at old new TooManySegments fresh is (and_from (cut_has_put (printed old.log)) (may_be_full (printed old.log)) refused.1 refused.2) refused.0
refused_publish at old new None false false s fresh is without empty refused =
    open_refused at old new TooManySegments fresh is (and_from (cut_has_put (printed old.log)) (may_be_full (printed old.log)) refused.1 refused.2) refused.0

no_refusal : (a : Option Cause) (z b : Bool) → option_or a (option_or (when z Nothing) (when b NamesSpent)) ≡ None → option_or a (when b NamesSpent) ≡ None
no_refusal None true b is = absurd (cc)
no_refusal None false b is = is
no_refusal (Some cause) z b is = is

pub publish_does : (at : At) (old new : Run) (turn : Turn FlushTask) → old.ended ≡ false → IsFresh at (printed old.log) → PublishStarts at old new turn → Does Publish at old new
publish_does at old new (Work task) running fresh starts = record {
  running = starts.0.now.running;
  nodes = starts.0.now.nodes;
  goes = record {
    more = kept (FlushOut at task.seg task.segs) ∷ shown at Publishing ∷ [];
    log = starts.0.now.log;
    adds = (
      inr refl,
      (
        refl,
        first_suits Publish at (printed old.log) Publishing fresh (subst (λ (r : Option Cause). First Publish at (printed old.log) r Publishing)
            (sym (no_refusal (without_primary (printed old.log)) ((length (cut_of (printed old.log)) == 0) && not old.rest.cut) (cut_has_put (printed old.log) && names_are_spent (printed old.log)) starts.1)) tt),
        tt,
      ),
    );
  };
}
publish_does at old new Done running fresh starts =
    refused_publish at old new (without_primary (printed old.log)) ((length (cut_of (printed old.log)) == 0) && not old.rest.cut) (cut_has_put (printed old.log)) (names_are_spent (printed old.log)) fresh refl
    (λ is. empty_no_put (cut_of (printed old.log)) (empty is)) empty starts.0
  where
    empty : ((length (cut_of (printed old.log)) == 0) && not old.rest.cut) ≡ true → (length (cut_of (printed old.log)) == 0) ≡ true
    empty is = (and_parts (length (cut_of (printed old.log)) == 0) (not old.rest.cut) is).0
publish_does at old new Busy running fresh starts =
    none_does Publish at old new (subst (λ (r : Run). IsNow old r old.log) (sym starts.0) (record { running = running; nodes = refl; log = refl }))

refused_replied : (at : At) (old new : Run) (o : Option Cause) → PublishRefused at o old new → IsReplied at new
refused_replied at old new None refused = one_replied at old new (Refused TooManySegments) refl refused.0
refused_replied at old new (Some cause) refused = one_replied at old new (Refused cause) refl refused

pub publish_replied : (at : At) (old new : Run) (turn : Turn FlushTask) → PublishStarts at old new turn → IsRepliedAtDone at new turn
publish_replied at old new (Work task) starts = tt
publish_replied at old new Done starts = refused_replied at old new (publish_refusal old.rest.cut (printed old.log)) starts.0
publish_replied at old new Busy starts = tt

pub publish_begun : (at : At) (old new : Run) (turn : Turn FlushTask) → IsFresh at (printed old.log) → PublishStarts at old new turn → IsBegunAtWork at (λ task. Publishing) new turn
publish_begun at old new (Work task) fresh starts = begun_by at old new Publishing refl (rw (same_at_self at) refl) fresh (ap printed starts.0.now.log)
publish_begun at old new Done fresh starts = tt
publish_begun at old new Busy fresh starts = tt

-- the faults that the line met, and then its reply
met_does : (at : At) (old new : Run) (e : Event) → last_of_line at (printed old.log) ≡ Some Publishing → is_answered at (printed old.log) ≡ false → IsNow old new (shown at e ∷ met_log at old new) → Follows Publish Publishing e
    → (Suits Publish at (printed (met_log at old new)) (last_of_line at (printed (met_log at old new))) e → SuitsOrFault Publish at (printed (met_log at old new)) e) → Does Publish at old new
met_does at old new e last unanswered now follows lift =
    let m = met_here Publish at old new unanswered in one_behind Publish at old new e (met_log at old new) m now (lift (later_behind Publish at old.log (met_log at old new) Publishing e m last follows))

pub published_does : (at : At) (old new : Run) → last_of_line at (printed old.log) ≡ Some Publishing → AreInTurn (printed old.log) → EndsPublish at old new → Does Publish at old new
published_does at old new last turns = by (is_lost (printed old.log) (before_start at (printed old.log)) Publishing)
  where
    unanswered : is_answered at (printed old.log) ≡ false
    unanswered = started_unanswered at (printed old.log) Publishing turns refl last

    by : (b : Bool) → PublishEndsBy b at old new → Does Publish at old new
    by true now = one_does Publish at old new (Refused Lost) now (later_suits Publish at (printed old.log) Publishing (Refused Lost) last unanswered refl)
    by false (true, ends) = met_does at old new (publish_reply true (printed old.log)) last unanswered ends.now tt (λ suits. suits)
    by false (false, ends) = met_does at old new (publish_reply false (printed old.log)) last unanswered ends.now refl (λ suits. suits)

pub published_replied : (at : At) (old new : Run) → EndsPublish at old new → IsReplied at new
published_replied at old new = by (is_lost (printed old.log) (before_start at (printed old.log)) Publishing)
  where
    by : (b : Bool) → PublishEndsBy b at old new → IsReplied at new
    by true now = one_replied at old new (Refused Lost) refl now
    by false (true, ends) = top_replied at new (publish_reply true (printed old.log)) (met_log at old new) refl ends.now.log
    by false (false, ends) = top_replied at new (publish_reply false (printed old.log)) (met_log at old new) refl ends.now.log

-- ---- in the terms of a call, whose cluster has this state

pub does_was : (command : LineCommand) (at : At) (s r new : Run) → s ≡ r → Does command at s new → Does command at r new
does_was command at s r new is does = subst (λ (x : Run). Does command at x new) is does

pub runs_in : (s r : Run) → s ≡ r → r.ended ≡ false → s.ended ≡ false
runs_in s r is running = ap (λ (x : Run). x.ended) is ∙ running

pub past_in : (P : Past → Type 0) (s r : Run) → s ≡ r → P (printed r.log) → P (printed s.log)
past_in P s r is was = subst (λ (x : Run). P (printed x.log)) (sym is) was
