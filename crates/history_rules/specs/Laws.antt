-- What the definitions of a legal history come to, in the words of those who read its answers.
use Rattle.std.specs.Prelude.{ℕ, ◌≡◌, ◌≢◌, ◌≤◌, ◌⊎◌, List, [], ◌∷◌, ◌++◌, Bool, true, false, ◌&&◌, ◌||◌, ◌==◌, if◌then◌else◌, Option, Some, None, length, map, reverse, take, slice_get}
use Rattle.std.specs.Ordering.{nat_cmp}
use Rattle.std.specs.List.Sorted.{IsStrictlySortedBy}
use Rattle.nrt_base.specs.declared.numbers.At.{At}
use Rattle.nrt_base.specs.declared.numbers.NodeNo.{NodeNo}
use Rattle.nrt_base.specs.declared.numbers.TicketNo.{TicketNo}
use Rattle.nrt_base.specs.declared.numbers.Version.{Version}
use Rattle.documents.specs.declared.operation.Op.{Op}
use Rattle.documents.specs.declared.query.Query.{Query}
use Rattle.history_rules.specs.declared.point.Point.{Point}
use Rattle.documents.specs.declared.answer.Answer.{Answer}
use Rattle.history_rules.specs.declared.entry.Event.{Event}
use Rattle.history_rules.specs.declared.entry.Event.TheVariants.{Accepted, Opened, Answered, Committed, Reopened}
use Rattle.history_rules.specs.declared.entry.History.{History}
use Rattle.documents.specs.Ranking.{scan_of}
use Rattle.history_rules.specs.Nodes.{Past, is_running, crashes, version_of, newest_version, is_point, accepted_count}
use Rattle.history_rules.specs.Lines.{before_start, commit_in_flight}
use Rattle.history_rules.specs.Tickets.{open_ticket, IsTicketOf}
use Rattle.history_rules.specs.Points.{operations_at, documents_at}
use Rattle.history_rules.specs.Commits.{base_version}

-- the entries before a place, newest first
abbrev pub past_at : History → ℕ → Past
past_at h i = reverse (take i h.entries)

-- each point has a greater version than those made before it
abbrev pub VersionsAscend : List Point → Type 0
VersionsAscend points = IsStrictlySortedBy nat_cmp (map (λ p. p.version.0) points)

-- two points of one version are one point
abbrev pub OnePointPerVersion : List Point → Type 0
OnePointPerVersion points = (i j : ℕ) (p q : Point) → slice_get points i ≡ Some p → slice_get points j ≡ Some q → p.version ≡ q.version → i ≡ j

-- each point has the documents of its version
abbrev pub HaveTheirDocuments : Past → List Point → Type 0
HaveTheirDocuments past points = (i : ℕ) (p : Point) → slice_get points i ≡ Some p → p.docs ≡ documents_at past p.version.0

-- the documents of a version that is not above the newest are the same at every later place
abbrev pub DocumentsStay : History → Type 0
DocumentsStay h = (i j v : ℕ) → i ≤ j → v ≤ newest_version (past_at h i) → documents_at (past_at h j) v ≡ documents_at (past_at h i) v

-- a running node's version never falls between its crashes
abbrev pub NeverFalls : History → Type 0
NeverFalls h =
    (n i j : ℕ) → i ≤ j → is_running n (past_at h i) ≡ true → crashes n (past_at h j) ≡ crashes n (past_at h i)
    → version_of n (past_at h i) ≤ version_of n (past_at h j)

-- every answer is the scan of the documents at its version
abbrev pub AnswersAreScans : History → Type 0
AnswersAreScans h =
    (i : ℕ) (at : At) (n : NodeNo) (t : TicketNo) (v : Version) (query : Query) (answer : Answer)
    → slice_get h.entries i ≡ Some (record { at = at; event = Answered n t v query answer })
    → answer ≡ scan_of (documents_at (reverse h.entries) v.0) query

-- a line is in flight
abbrev pub is_some_line : Option At → Bool
is_some_line None = false
is_some_line (Some at) = true

-- the event says which version the node has for certain
abbrev pub is_base_of : ℕ → Event → Bool
is_base_of n (Committed m w) = m.0 == n
is_base_of n (Reopened m w) = m.0 == n
is_base_of n e = false

-- since its last acknowledged commit or reopening, the node searched this version while a commit of it was in flight
abbrev pub was_searched_in_commit : ℕ → ℕ → Past → Bool
was_searched_in_commit n v [] = false
was_searched_in_commit n v (e ∷ past) =
    if is_base_of n e.event then false
    else (((is_some_line (commit_in_flight n past) || is_some_line (commit_in_flight n (e ∷ past))) && (version_of n (e ∷ past) == v))
    || was_searched_in_commit n v past)

-- the version is that of the node's last acknowledged commit or reopening, or of a later one that was begun; it is a point, and no older
pub record IsLeftByCommits (past : Past) (n v : ℕ) : Type 0 where
  pub origin : (v ≡ base_version n past) ⊎ (was_searched_in_commit n v past ≡ true)
  pub low : base_version n past ≤ v
  pub point : is_point v past ≡ true

-- a reopened node stands at the version of its last commit or of a later one that was begun
abbrev pub ReopensWhereCommitted : History → Type 0
ReopensWhereCommitted h =
    (i : ℕ) (at : At) (n : NodeNo) (v : Version) → slice_get h.entries i ≡ Some (record { at = at; event = Reopened n v })
    → IsLeftByCommits (past_at h i) n.0 v.0

abbrev pub all_accepted_by : Event → List Op → List Op
all_accepted_by (Accepted seq op) ops = ops ++ op ∷ []
all_accepted_by e ops = ops

-- the operations that were accepted, in order
abbrev pub accepted_operations : Past → List Op
accepted_operations [] = []
accepted_operations (e ∷ past) = all_accepted_by e.event (accepted_operations past)

-- operations stand at ascending places of a list
pub record StandInOrder (ops all : List Op) : Type 0 where
  pub places : List ℕ
  pub ascending : IsStrictlySortedBy nat_cmp places
  pub there : map (slice_get all) places ≡ map Some ops

-- the operations of a point are operations accepted before it, each once, in order
abbrev pub OperationsWereAccepted : History → Type 0
OperationsWereAccepted h = (i v : ℕ) → StandInOrder (operations_at (past_at h i) v) (accepted_operations (past_at h i))

-- a point has no more documents than operations were accepted before it
abbrev pub DocumentsAreFew : History → Type 0
DocumentsAreFew h = (i v : ℕ) → length (documents_at (past_at h i) v) ≤ accepted_count (past_at h i)

-- of two searches or openings of tickets at a node that did not crash in between, the later one is at no lower version
abbrev pub SearchesNeverGoBack : History → Type 0
SearchesNeverGoBack h =
    (i j : ℕ) (a b : At) (n : NodeNo) (t u : TicketNo) (v w : Version) → i ≤ j
    → slice_get h.entries i ≡ Some (record { at = a; event = Opened n t v })
    → slice_get h.entries j ≡ Some (record { at = b; event = Opened n u w })
    → crashes n.0 (past_at h j) ≡ crashes n.0 (past_at h i) → v.0 ≤ w.0

-- a search at a ticket is answered at the node and the version that the ticket had when the search started
abbrev pub AsksAnswerAtTickets : History → Type 0
AsksAnswerAtTickets h =
    (i : ℕ) (at : At) (n : NodeNo) (t : TicketNo) (v : Version) (query : Query) (answer : Answer) → t.0 ≢ 0
    → slice_get h.entries i ≡ Some (record { at = at; event = Answered n t v query answer })
    → IsTicketOf n.0 v.0 (open_ticket at.lane.0 t.0 (before_start at (past_at h i)))
