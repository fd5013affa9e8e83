-- A search that was handed out: its version stays as it was, whatever others append.
use Rattle.std.proofs.Common.{◌≡◌, ◌≤◌, ℕ, Bool, List, [], ◌++◌, Some, None, Option, refl, ap, ◌∙◌, sym, subst}
use Rattle.nrt_base.specs.declared.doc.Doc.{Doc}
use Rattle.nrt_base.specs.declared.numbers.At.{At}
use Rattle.nrt_base.specs.declared.numbers.NodeNo.{NodeNo}
use Rattle.nrt_base.specs.declared.numbers.TicketNo.{TicketNo}
use Rattle.documents.specs.declared.query.Query.{Query}
use Rattle.documents.specs.declared.query.Query.TheVariants.{All}
use Rattle.documents.specs.declared.answer.Answer.{Answer}
use Rattle.documents.specs.Ranking.{scan_of}
use Rattle.seg_reader.specs.Shown.{Shown, AreLiveDocuments}
use Rattle.seg_reader.specs.Stands.{AreSegmentsOf}
use Rattle.searcher_switch.specs.declared.searchers.Lease.{Lease}
use Rattle.history_rules.specs.declared.entry.Event.{Event}
use Rattle.history_rules.specs.declared.entry.Event.TheVariants.{Opened, Asking}
use Rattle.history_rules.specs.Nodes.{Past, version_of, newest_version}
use Rattle.history_rules.specs.Lines.{last_of_line}
use Rattle.history_rules.specs.Legal.{IsLegalPast}
use Rattle.history_rules.specs.Points.{documents_at}
use Rattle.history_rules.specs.Tickets.{Ticket, open_ticket}
use Rattle.history_rules.proofs.PointLemmas.{documents_stay_lem}
use Rattle.history_book.specs.Log.{Log, printed}
use Rattle.lane_threads.specs.Walks.{GrowsByOthers, LineStays}
use Rattle.lane_threads.proofs.StayLemmas.{more_printed}
use Rattle.script_serving.specs.declared.script.LineCommand.TheVariants.{Search, Ask}
use Rattle.cluster_state.specs.Run.{Run}
use Rattle.cluster_state.specs.State.{ReadsAt}
use Rattle.cluster_state.specs.declared.turn.Turn.{Turn}
use Rattle.cluster_state.specs.declared.turn.Turn.TheVariants.{Work, Done, Busy}
use Rattle.cluster_site.specs.Given.{IsRepliedAtDone, IsBegunAtWork, IsBegunBy, AsksFor}
use Rattle.cluster_state.specs.Calls.{SearchStarts, AsksTicket, AskStarts, asked_event, ScansAt}
use Rattle.cluster_site.specs.Turns.{NeverWaits, TurnShows}
use Rattle.lane_lines.specs.Reads.{IsReading, IsSearchingNode, IsAskingTicket, IsKnownStart, IsEvaluated}

-- ---- what the starts show

-- what is read is the point of its own version, also behind the start of the search
reads_here : (past now : Past) (v : ℕ) (lease : Lease Shown) → ReadsAt past v lease → newest_version now ≡ newest_version past → documents_at now v ≡ documents_at past v → ReadsAt now lease.version.0 lease
reads_here past now v lease reads newest docs =
    subst (λ (k : ℕ). ReadsAt now k lease) (sym reads.version)
    (record {
      version = reads.version;
      stands = record {
        known = subst (λ (k : ℕ). v ≤ k) (sym newest) reads.stands.known;
        documents = subst (λ (ds : List Doc). AreSegmentsOf ds lease.readers) (sym docs) reads.stands.documents;
      };
    })

pub search_shows : (at : At) (n : NodeNo) (old new : Run) (turn : Turn (Lease Shown)) → SearchStarts at n old new turn → IsRepliedAtDone at new turn
    → IsBegunAtWork at (λ lease. Opened n (record { 0 = 0 }) lease.version) new turn → TurnShows (IsSearchingNode at n) NeverWaits at new turn
search_shows at n old new (Work lease) starts replied begun =
    let v : ℕ = version_of n.0 (printed old.log) in
    record {
      last = begun.last;
      reads = reads_here (printed old.log) (printed new.log) v lease starts.1 (ap (λ (l : Log). newest_version (printed l)) starts.0.log) (ap (λ (l : Log). documents_at (printed l) v) starts.0.log);
    }
search_shows at n old new Done starts replied begun = replied
search_shows at n old new Busy starts replied begun = absurd starts

asks_show : (at : At) (t : TicketNo) (o : Option Ticket) (old new : Run) (lease : Lease Shown) → AsksTicket at t o old new lease → IsBegunBy at (asked_event t o lease.version) new → IsAskingTicket at t lease new.log
asks_show at t None old new lease asks begun = absurd asks
asks_show at t (Some ticket) old new lease asks begun = (
  record { 0 = ticket.node },
  record {
    last = begun.last;
    reads = reads_here (printed old.log) (printed new.log) ticket.version lease asks.1 (ap (λ (l : Log). newest_version (printed l)) asks.0.log) (ap (λ (l : Log). documents_at (printed l) ticket.version) asks.0.log);
  },
)

pub ask_shows : (at : At) (t : TicketNo) (old new : Run) (turn : Turn (Lease Shown)) → AskStarts at t old new turn → IsRepliedAtDone at new turn
    → IsBegunAtWork at (λ lease. asked_event t (open_ticket at.lane.0 t.0 (printed old.log)) lease.version) new turn → TurnShows (IsAskingTicket at t) NeverWaits at new turn
ask_shows at t old new (Work lease) starts replied begun = asks_show at t (open_ticket at.lane.0 t.0 (printed old.log)) old new lease starts begun
ask_shows at t old new Done starts replied begun = replied
ask_shows at t old new Busy starts replied begun = absurd starts

-- ---- what was evaluated

-- the answer is the scan of whatever documents the live rows are
abbrev pub AnswersOver : Lease Shown → Query → Answer → Type 0
AnswersOver lease query answer = (docs : List Doc) → AreLiveDocuments lease.readers docs → answer ≡ scan_of docs query

over_reads : (past : Past) (lease : Lease Shown) (query : Query) (answer : Answer) → ReadsAt past lease.version.0 lease → AnswersOver lease query answer → answer ≡ scan_of (documents_at past lease.version.0) query
over_reads past lease query answer reads over = over (documents_at past lease.version.0) reads.stands.documents.documents

pub search_evaluated : (at : At) (n : NodeNo) (lease : Lease Shown) (query : Query) (answer : Answer) (log : Log) → IsSearchingNode at n lease log → AnswersOver lease query answer → IsEvaluated at query answer log
search_evaluated at n lease query answer log reading over =
    record {
      right = subst (λ (e : Option Event). ScansAt (printed log) e query answer) (sym reading.last) (refl, over_reads (printed log) lease query answer reading.reads over);
      known = subst (IsKnownStart (printed log)) (sym reading.last) reading.reads.stands.known;
    }

pub ask_evaluated : (at : At) (t : TicketNo) (lease : Lease Shown) (query : Query) (answer : Answer) (log : Log) → IsAskingTicket at t lease log → AnswersOver lease query answer → IsEvaluated at query answer log
ask_evaluated at t lease query answer log asking over =
    let reading : IsReading at (Asking asking.0 t lease.version) lease log = asking.1 in
    record {
      right = subst (λ (e : Option Event). ScansAt (printed log) e query answer) (sym reading.last) (over_reads (printed log) lease query answer reading.reads over);
      known = subst (IsKnownStart (printed log)) (sym reading.last) reading.reads.stands.known;
    }

pub search_asks : (at : At) (n : NodeNo) (query : Query) (lease : Lease Shown) (log : Log) → IsSearchingNode at n lease log → AsksFor (Search n query) query (last_of_line at (printed log))
search_asks at n query lease log reading = subst (AsksFor (Search n query) query) (sym reading.last) (refl, refl, refl)

pub ask_asks : (at : At) (t : TicketNo) (query : Query) (lease : Lease Shown) (log : Log) → IsAskingTicket at t lease log → AsksFor (Ask t query) query (last_of_line at (printed log))
ask_asks at t query lease log asking = subst (AsksFor (Ask t query) query) (sym asking.1.last) (refl, refl)

-- ---- others

-- the scan of a version that is known stays the same
scans_stay : (size : ℕ) (more past : Past) (e : Option Event) (query : Query) (answer : Answer) → IsLegalPast size (more ++ past) → IsKnownStart past e → ScansAt past e query answer
    → ScansAt (more ++ past) e query answer
scans_stay size more past None query answer legal known right = absurd right
scans_stay size more past (Some (Opened n t v)) query answer legal known right =
    (right.0, right.1 ∙ ap (λ (docs : List Doc). scan_of docs query) (sym (documents_stay_lem size more past v.0 legal known)))
scans_stay size more past (Some (Asking n t v)) query answer legal known right =
    right ∙ ap (λ (docs : List Doc). scan_of docs query) (sym (documents_stay_lem size more past v.0 legal known))
scans_stay size more past (Some e) query answer legal known right = absurd right

pub evaluated_stays : {logged : Bool} (size : ℕ) (at : At) (old new : Log) (query : Query) (answer : Answer) → IsLegalPast size (printed new) → GrowsByOthers logged at.lane.0 old new → LineStays at old new
    → IsEvaluated at query answer old → ScansAt (printed new) (last_of_line at (printed new)) query answer
evaluated_stays size at old new query answer legal grows stays e =
    let all : printed new ≡ printed grows.more ++ printed old = ap printed grows.log ∙ more_printed grows.more old in
    subst (λ (last : Option Event). ScansAt (printed new) last query answer) (sym stays.last)
    (subst (λ (past : Past). ScansAt past (last_of_line at (printed old)) query answer) (sym all)
    (scans_stay size (printed grows.more) (printed old) (last_of_line at (printed old)) query answer (subst (IsLegalPast size) all legal) e.known e.right))

-- ---- a command that is answered so

pub any_query : Query
any_query = All []
