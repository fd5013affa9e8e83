-- The laws of a history, from what holds of each past in it.
use Rattle.std.proofs.Common.{◌≡◌, ◌≤◌, ◌<◌, ℕ, suc, zero, List, [], ◌∷◌, ◌++◌, Some, map, take, drop, reverse, sym, ap, ◌∙◌, subst, arith}
use Rattle.std.proofs.lemmas.List.{take-append-drop, reverse-append, take-take}
use Rattle.std.proofs.lemmas.Option.{slice_get_within, get_or_from_slice_get}
use Rattle.std.proofs.lemmas.Map.Keys.{below_from_sorted}
use Rattle.std.specs.List.{slice_get}
use Rattle.nrt_base.specs.declared.numbers.Version.{Version}
use Rattle.history_rules.specs.declared.point.Point.{Point}
use Rattle.history_rules.specs.declared.entry.Entry.{Entry}
use Rattle.history_rules.specs.declared.entry.Event.TheVariants.{Opened, Answered, Reopened}
use Rattle.history_rules.specs.declared.entry.History.{History}
use Rattle.documents.specs.Ranking.{scan_of}
use Rattle.history_rules.specs.Nodes.{Past, crashes, version_of}
use Rattle.history_rules.specs.Points.{documents_at, points_of}
use Rattle.history_rules.specs.Legal.{KeepsRule, IsLegalPast, IsLegal}
use Rattle.history_rules.specs.Laws.{past_at, VersionsAscend, OnePointPerVersion, HaveTheirDocuments, DocumentsStay, NeverFalls, AnswersAreScans, ReopensWhereCommitted, OperationsWereAccepted, DocumentsAreFew, SearchesNeverGoBack, AsksAnswerAtTickets}
use Rattle.history_rules.proofs.PastLemmas.{legal_before, keeps_at, point_low}
use Rattle.history_rules.proofs.NodeLemmas.{runs_through}
use Rattle.history_rules.proofs.CommitLemmas.{left_by_commits}
use Rattle.history_rules.proofs.PointLemmas.{points_ascend, points_are_true, true_there, documents_stay_lem, operations_accepted, length-documents_at-le}
use Rattle.history_rules.proofs.AnswerLemmas.{search_at_point, asked_at_ticket}

-- the entries between two places
abbrev between : History → ℕ → ℕ → Past
between h i j = reverse (drop i (take j h.entries))

later : (h : History) (i j : ℕ) → i ≤ j → past_at h j ≡ between h i j ++ past_at h i
later h i j low =
    ap reverse (sym (take-append-drop i (take j h.entries)))
    ∙ reverse-append (take i (take j h.entries)) (drop i (take j h.entries))
    ∙ ap (λ (es : List Entry). between h i j ++ reverse es) (take-take i j h.entries low)

whole : (h : History) (i : ℕ) → reverse h.entries ≡ reverse (drop i h.entries) ++ past_at h i
whole h i = ap reverse (sym (take-append-drop i h.entries)) ∙ reverse-append (take i h.entries) (drop i h.entries)

legal_at : (h : History) (i : ℕ) → IsLegal h → IsLegalPast h.nodes (past_at h i)
legal_at h i legal = legal_before h.nodes (reverse (drop i h.entries)) (past_at h i) (subst (IsLegalPast h.nodes) (whole h i) legal)

legal_later : (h : History) (i j : ℕ) → i ≤ j → IsLegal h → IsLegalPast h.nodes (between h i j ++ past_at h i)
legal_later h i j low legal = subst (IsLegalPast h.nodes) (later h i j low) (legal_at h j legal)

keeps_there : (h : History) (i : ℕ) (e : Entry) → IsLegal h → slice_get h.entries i ≡ Some e → KeepsRule h.nodes (past_at h i) e.at e.event
keeps_there h i e legal there =
    keeps_at h.nodes h.entries i e legal (slice_get_within h.entries i e there) (sym (get_or_from_slice_get h.entries i e e there))

pub versions_ascend : (h : History) → IsLegal h → VersionsAscend (points_of (reverse h.entries))
versions_ascend h legal = (points_ascend h.nodes (reverse h.entries) legal).ascending

version_there : (points : List Point) (i : ℕ) (p : Point) → slice_get points i ≡ Some p → slice_get (map (λ q. q.version.0) points) i ≡ Some p.version.0
version_there [] i p there = absurd (cc)
version_there (q ∷ points) zero p there = let same : q ≡ p = cc in ap (λ (x : Point). Some x.version.0) same
version_there (q ∷ points) (suc i) p there = version_there points i p there

apart : (points : List Point) → VersionsAscend points → (i j : ℕ) (p q : Point) → slice_get points i ≡ Some p → slice_get points j ≡ Some q
    → i < j → p.version.0 < q.version.0
apart points ascending i j p q there there' less =
    let versions : List ℕ = map (λ (x : Point). x.version.0) points in
    let at_i = get_or_from_slice_get versions i p.version.0 0 (version_there points i p there) in
    let at_j = get_or_from_slice_get versions j q.version.0 0 (version_there points j q there') in
    let within = slice_get_within versions j q.version.0 (version_there points j q there') in
    let below = below_from_sorted versions i j 0 ascending less within in
    omega (arith, at_i, at_j, below)

level : (i j : ℕ) → (i < j → ⊥) → (j < i → ⊥) → i ≡ j
level i j up down = grind arith

pub one_point : (points : List Point) → VersionsAscend points → OnePointPerVersion points
one_point points ascending i j p q there there' same =
    let version : p.version.0 ≡ q.version.0 = ap (λ (v : Version). v.0) same in
    let up : i < j → ⊥ = λ less. let above = apart points ascending i j p q there there' less in omega (arith, above, version) in
    let down : j < i → ⊥ = λ less. let above = apart points ascending j i q p there' there less in omega (arith, above, version) in
    level i j up down

pub have_their_documents : (h : History) → IsLegal h → HaveTheirDocuments (reverse h.entries) (points_of (reverse h.entries))
have_their_documents h legal i p there =
    let past = reverse h.entries in true_there past (points_of past) i p (points_are_true h.nodes past legal) there

pub documents_stay : (h : History) → IsLegal h → DocumentsStay h
documents_stay h legal i j v low known =
    ap (λ (past : Past). documents_at past v) (later h i j low) ∙ documents_stay_lem h.nodes (between h i j) (past_at h i) v (legal_later h i j low legal) known

pub never_falls : (h : History) → IsLegal h → NeverFalls h
never_falls h legal n i j low runs same =
    let next = later h i j low in
    let alive : crashes n (between h i j ++ past_at h i) ≡ crashes n (past_at h i) = ap (crashes n) (sym next) ∙ same in
    let on = runs_through h.nodes n (between h i j) (past_at h i) (legal_later h i j low legal) runs (omega arith) in
    subst (λ (past : Past). version_of n (past_at h i) ≤ version_of n past) (sym next) on.version

pub searches_never_go_back : (h : History) → IsLegal h → SearchesNeverGoBack h
searches_never_go_back h legal i j a b n t u v w low first second same =
    let one = keeps_there h i (record { at = a; event = Opened n t v }) legal first in
    let two = keeps_there h j (record { at = b; event = Opened n u w }) legal second in
    let rises = never_falls h legal n.0 i j low one.running same in
    let old : v.0 ≡ version_of n.0 (past_at h i) = one.searched in
    let new : w.0 ≡ version_of n.0 (past_at h j) = two.searched in
    omega (arith, rises, old, new)

pub asks_answer_at_tickets : (h : History) → IsLegal h → AsksAnswerAtTickets h
asks_answer_at_tickets h legal i at n t v query answer some there =
    let keeps = keeps_there h i (record { at = at; event = Answered n t v query answer }) legal there in
    asked_at_ticket h.nodes (past_at h i) at n t v some (legal_at h i legal) keeps.started

pub answers_are_scans : (h : History) → IsLegal h → AnswersAreScans h
answers_are_scans h legal i at n t v query answer there =
    let keeps = keeps_there h i (record { at = at; event = Answered n t v query answer }) legal there in
    let known = point_low (past_at h i) v.0 (search_at_point h.nodes (past_at h i) at n t v (legal_at h i legal) keeps.started) in
    let stays = documents_stay_lem h.nodes (reverse (drop i h.entries)) (past_at h i) v.0 (subst (IsLegalPast h.nodes) (whole h i) legal) known in
    keeps.right ∙ ap (λ docs. scan_of docs query) (sym stays ∙ ap (λ (past : Past). documents_at past v.0) (sym (whole h i)))

pub reopens_where_committed : (h : History) → IsLegal h → ReopensWhereCommitted h
reopens_where_committed h legal i at n v there =
    let keeps = keeps_there h i (record { at = at; event = Reopened n v }) legal there in
    left_by_commits h.nodes (past_at h i) n.0 v.0 (legal_at h i legal) keeps.found

pub operations_were_accepted : (h : History) → OperationsWereAccepted h
operations_were_accepted h i v = (operations_accepted (past_at h i)).points v

pub documents_are_few : (h : History) → DocumentsAreFew h
documents_are_few h i v = length-documents_at-le (past_at h i) v
