-- The names of a node's directory, told in a line, keep the rule of their kind.
use Rattle.std.proofs.Common.{◌≡◌, ◌≢◌, ◌<◌, ◌+◌, ◌&&◌, ◌||◌, ◌==◌, nat_lt, ℕ, zero, suc, Bool, true, false, true≢false, List, [], ◌∷◌, ◌++◌, Some, None, Option, is_some, length, get_or, refl, ap, ◌∙◌, sym, subst, arith, if◌then◌else◌}
use Rattle.std.specs.Prelude.{IsSomeAnd, IfSome}
use Rattle.std.specs.List.{All, Contains, list_any}
use Rattle.std.specs.List.Sorted.{IsStrictlySortedBy}
use Rattle.std.specs.Cmp.Lexicographic.{slice_cmp}
use Rattle.std.specs.Ordering.{nat_cmp}
use Rattle.std.proofs.lemmas.List.Elements.{All-nil, All-cons}
use Rattle.std.proofs.lemmas.List.Sorted.{length_permutation}
use Rattle.std.proofs.lemmas.Slice.Eq.{bytes_eq-Decides}
use Rattle.std.proofs.lemmas.Bool.{or_right}
use Rattle.nrt_base.specs.declared.numbers.At.{At}
use Rattle.nrt_base.specs.declared.numbers.NodeNo.{NodeNo}
use Rattle.nrt_base.specs.declared.doc.Doc.{Doc}
use Rattle.file_names.specs.Names.{is_ascending, is_less, is_commit_name, is_documents_name}
use Rattle.disk_model.specs.Disk.{Name, Content, Cells, is_among, same}
use Rattle.disk_model.proofs.CellLemmas.{same_true}
use Rattle.file_deleter.specs.Holdings.{Holdings, IsThere, count_of, times}
use Rattle.file_deleter.proofs.Keeping.{known_counted}
use Rattle.file_deleter.proofs.NameLemmas.{times-append, among_times}
use Rattle.commit_steps.specs.Commits.{Stays}
use Rattle.commit_steps.specs.Flights.{own_name}
use Rattle.commit_steps.specs.Book.{book_names, last_names, flying_names}
use Rattle.commit_steps.specs.declared.states.Commit.{Commit}
use Rattle.commit_steps.specs.declared.stage.CommitBook.{CommitBook}
use Rattle.commit_steps.proofs.Safe.{among_of, own_is}
use Rattle.searcher_switch.specs.Node.{IsWholeNode}
use Rattle.seg_reader.specs.Shown.{Shown}
use Rattle.seg_reader.specs.Stands.{AreSegmentsOf}
use Rattle.searcher_switch.specs.declared.open.Open.{Open}
use Rattle.searcher_switch.specs.declared.open.SearchPoint.{SearchPoint}
use Rattle.searcher_switch.specs.declared.searchers.Searchers.{Searchers}
use Rattle.searcher_switch.specs.Tickets.{ticket_at, ticket_names}
use Rattle.searcher_switch.specs.Searching.{searcher_names}
use Rattle.index_primary.specs.Primary.{primary_names, rest_names, loose_of}
use Rattle.replica_node.specs.Replica.{replica_names, copying_names}
use Rattle.history_rules.specs.declared.entry.Event.TheVariants.{Files}
use Rattle.history_rules.specs.Nodes.{Past, IsNode, is_running, version_of}
use Rattle.history_rules.specs.Points.{documents_at, has_documents}
use Rattle.history_rules.specs.Commits.{has_committed}
use Rattle.history_rules.specs.Faults.{has_met_fault}
use Rattle.history_rules.specs.Rules.{MayHaveName, MayListFiles}
use Rattle.history_rules.specs.Legal.{KeepsRule}
use Rattle.history_book.specs.Log.{Log, printed}
use Rattle.merge_tasks.specs.Merging.{Sheet}
use Rattle.history_book.specs.Laws.{IsFresh}
use Rattle.cluster_nodes.specs.declared.held.HeldTicket.{HeldTicket}
use Rattle.cluster_nodes.specs.declared.nodes.Node.{Node}
use Rattle.cluster_nodes.specs.declared.nodes.Node.TheVariants.{Primary, Replica, Down}
use Rattle.cluster_nodes.specs.declared.nodes.NodePlace.{NodePlace}
use Rattle.cluster_nodes.specs.Held.{held_number}
use Rattle.cluster_nodes.specs.Places.{place_of, tickets_of, dir_of, disk_of, disk_at, HasRunning}
use Rattle.cluster_nodes.specs.Listed.{AreNamesOf, AreNamesAt}
use Rattle.cluster_state.specs.Run.{Rest, Run}
use Rattle.cluster_state.specs.State.{StandForVersion, IsPointAt, HoldsTickets, ticket_key, NodeShows, PlaceShows, Shows}
use Rattle.cluster_state.specs.Names.{NamesDocuments, AreNamesShown, NamesShow}
use Rattle.cluster_state.specs.Disks.{DiskShows}
use Rattle.cluster_state.specs.Files.{FilesShow}
use Rattle.cluster_state.proofs.Frames.{was}
use Rattle.cluster_state.proofs.FileFrames.{files_was}
use Rattle.cluster_documents.proofs.PointNames.{primary_named, replica_named}
use Rattle.cluster_state.proofs.Turning.{past_has}

-- ---- names in a list

-- names that ascend
ascends : (names : List Name) → IsStrictlySortedBy (slice_cmp nat_cmp) names → is_ascending names ≡ true
unfolding IsStrictlySortedBy
ascends [] sorted = refl
ascends (a ∷ []) sorted = refl
ascends (a ∷ b ∷ names) sorted = ap (λ x. is_less x && is_ascending (b ∷ names)) sorted.0.0 ∙ ascends (b ∷ names) sorted.1

-- a name that is among them and passes a test is one that passes it
listed : (p : Name → Bool) (names : List Name) (q : Name) → is_among names q ≡ true → p q ≡ true → list_any p names ≡ true
listed p [] q is holds = absurd (true≢false (sym is))
listed p (x ∷ xs) q is holds = go (same x q) refl is (λ later. listed p xs q later holds)
  where
    go : (b : Bool) → same x q ≡ b → (b || is_among xs q) ≡ true → (is_among xs q ≡ true → list_any p xs ≡ true) → (p x || list_any p xs) ≡ true
    go true here got rest = ap (λ (b : Bool). b || list_any p xs) (ap p (same_true x q here) ∙ holds)
    go false here got rest = ap (λ (b : Bool). p x || b) (rest got) ∙ or_right (p x) true refl

among_all : (P : Name → Type 0) (names : List Name) → ((q : Name) → is_among names q ≡ true → P q) → All P names
among_all P [] each = All-nil P
among_all P (x ∷ xs) each = All-cons P x xs (each x (ap (λ (b : Bool). b || is_among xs x) ((bytes_eq-Decides x x).1 refl))) (among_all P xs (λ q later. each q (ap (λ (b : Bool). same x q || b) later ∙ or_right (same x q) true refl)))

-- one that passes the test
found : (p : Name → Bool) (names : List Name) → list_any p names ≡ true → (q : Name) × (p q ≡ true) × Contains names q
found p [] some = absurd (true≢false (sym some))
found p (x ∷ xs) some = go (p x) refl some (λ later. found p xs later)
  where
    go : (b : Bool) → p x ≡ b → (b || list_any p xs) ≡ true → (list_any p xs ≡ true → (q : Name) × (p q ≡ true) × Contains xs q) → (q : Name) × (p q ≡ true) × Contains (x ∷ xs) q
    go true here got rest = (x, here, (0, omega arith, refl))
    go false here got rest = let f = rest got in (f.0, f.1, after f.2)
      where
        after : {q : Name} → Contains xs q → Contains (x ∷ xs) q
        after (i, lt, e) = (suc i, omega (arith, lt), e)

-- ---- points and tickets

-- a point with documents has segments
some_segments : (docs : List Doc) (segs : List Shown) → AreSegmentsOf docs segs → nat_lt 0 (length docs) ≡ true → 0 < length segs
some_segments docs [] are some = absurd (none (length docs) (length_permutation [] docs are.documents.same) some)
  where
    none : (k : ℕ) → k ≡ 0 → nat_lt 0 k ≡ true → ⊥
    none k zero_is some = true≢false (sym some ∙ ap (nat_lt 0) zero_is)
some_segments docs (s ∷ ss) are some = omega arith

ticket_in : (number : ℕ) (ts : List (Open Shown)) (o : Open Shown) → ticket_at number ts ≡ Some o → Contains ts o
ticket_in number [] o is = absurd (cc)
ticket_in number (t ∷ ts) o is = by (t.number == number) is (λ later. ticket_in number ts o later)
  where
    after : Contains ts o → Contains (t ∷ ts) o
    after (i, lt, e) = (suc i, omega (arith, lt), e)

    by : (b : Bool) → (if b then Some t else ticket_at number ts) ≡ Some o → (ticket_at number ts ≡ Some o → Contains ts o) → Contains (t ∷ ts) o
    by true is rest = let e : t ≡ o = cc in (0, omega arith, e)
    by false is rest = after (rest is)

-- the names of an open ticket are held
ticket_named : (ts : List (Open Shown)) (o : Open Shown) (q : Name) → Contains ts o → 0 < times o.point.names q → 0 < times (ticket_names ts) q
ticket_named [] o q (i, lt, e) named = absurd (omega (arith, lt))
ticket_named (t ∷ ts) o q (i, lt, e) named = at i lt e (λ k lt' e'. ticket_named ts o q (k, lt', e') named)
  where
    both : times (t.point.names ++ ticket_names ts) q ≡ times t.point.names q + times (ticket_names ts) q
    both = times-append t.point.names (ticket_names ts) q

    at : (i : ℕ) → i < length (t ∷ ts) → get_or (t ∷ ts) i o ≡ o → ((k : ℕ) → k < length ts → get_or ts k o ≡ o → 0 < times (ticket_names ts) q) → 0 < times (t.point.names ++ ticket_names ts) q
    at zero lt e rest = let mine : 0 < times t.point.names q = subst (λ (u : Open Shown). 0 < times u.point.names q) (sym e) named in omega (arith, both, mine)
    at (suc k) lt e rest = let later = rest k (omega (arith, lt)) e in omega (arith, both, later)

-- ---- the rule

module _ (past : Past) (cells : Cells) (names : List Name) (told : AreNamesOf cells names) where
  -- the names of a point with documents have one of stored documents, which is told
  point_told : (point : SearchPoint Shown) (v : ℕ) → ((q : Name) → 0 < times point.names q → IsThere cells q) → NamesDocuments point → StandForVersion past v point.readers → has_documents past v ≡ true → list_any is_documents_name names ≡ true
  point_told point v stand named stands docs =
      let f = found is_documents_name point.names (named (some_segments (documents_at past v) point.readers stands.documents docs)) in
      listed is_documents_name names f.0 (told.told f.0 ∙ stand f.0 (among_times point.names f.0 (among_of point.names f.0 f.2))) f.1

  may_list : (size : ℕ) (at : At) (n : NodeNo) (s : Searchers Shown) (held : List HeldTicket) (loose : List ℕ) → IsNode size n.0 → is_running n.0 past ≡ true → AreNamesShown past cells s.tickets loose → NamesDocuments s.point
      → IsPointAt past (version_of n.0 past) s.point → HoldsTickets past n.0 s.tickets held → ((q : Name) → 0 < times (searcher_names s) q → IsThere cells q)
      → (has_committed n.0 past ≡ true → (q : Name) × (is_commit_name q ≡ true) × IsThere cells q) → has_met_fault at past ≡ false → MayListFiles size past at n names
  may_list size at n s held loose node running shown point here holds stand made spared = record {
    node = node;
    running = running;
    ordered = ascends names told.ascending;
    kinds = among_all (MayHaveName past) names (λ q is. shown.kinds q (sym (told.told q) ∙ is));
    committed = λ is. let q = made is in listed is_commit_name names q.0 (told.told q.0 ∙ q.2) q.1;
    searched = λ docs. point_told s.point (version_of n.0 past) (λ q some. stand q (let both : times (searcher_names s) q ≡ times s.point.names q + times (ticket_names s.tickets) q = times-append s.point.names (ticket_names s.tickets) q in omega (arith, both, some)))
        point here.stands docs;
    held = λ lane t v is docs. ticket lane t v (held_number held (ticket_key lane t)) refl (holds.opened lane t v is) docs;
    spared = spared;
  }
    where
      opened : (v number : ℕ) (o : Option (Open Shown)) → ticket_at number s.tickets ≡ o → IsSomeAnd o (λ x. StandForVersion past x.point.version.0 x.point.readers) → IsSomeAnd o (λ x. x.point.version.0 ≡ v)
          → has_documents past v ≡ true → list_any is_documents_name names ≡ true
      opened v number None is stands version docs = absurd version
      opened v number (Some o) is stands version docs =
          let inside = ticket_in number s.tickets o is in
          point_told o.point o.point.version.0
          (λ q some. stand q (let both : times (searcher_names s) q ≡ times s.point.names q + times (ticket_names s.tickets) q = times-append s.point.names (ticket_names s.tickets) q in
          let mine = ticket_named s.tickets o q inside some in omega (arith, both, mine)))
          (shown.tickets o inside) stands (subst (λ (w : ℕ). has_documents past w ≡ true) (sym version) docs)

      ticket : (lane t v : ℕ) (o : Option ℕ) → held_number held (ticket_key lane t) ≡ o → IsSomeAnd o (λ number. IsSomeAnd (ticket_at number s.tickets) (λ z. z.point.version.0 ≡ v)) → has_documents past v ≡ true
          → list_any is_documents_name names ≡ true
      ticket lane t v None is at docs = absurd at
      ticket lane t v (Some number) is at docs = opened v number (ticket_at number s.tickets) refl (holds.each (ticket_key lane t) number is) at docs

-- ---- a node

-- what a node counts stands
counted_there : (cells : Cells) (holdings : Holdings) (others : List Name) (book : CommitBook) (q : Name) → IsWholeNode cells holdings others book → 0 < times others q → IsThere cells q
counted_there cells holdings others book q node some = let counts = node.counts q in node.whole.names q ∙ known_counted holdings q (omega (arith, counts, some))

-- the last commit's name stands
commit_there : (cells : Cells) (holdings : Holdings) (others : List Name) (book : CommitBook) → IsWholeNode cells holdings others book → is_some book.last ≡ true → (q : Name) × (is_commit_name q ≡ true) × IsThere cells q
commit_there cells holdings others book node some = by book.last refl node.sound.safe.last_stays some
  where
    held : (c : Commit) → book.last ≡ Some c → Stays cells c → 0 < count_of holdings (own_name c)
    held c is stays =
        let q : Name = own_name c in
        let counts : count_of holdings q ≡ times others q + times (book_names book) q = node.counts q in
        let all : times (book_names book) q ≡ times (last_names book.last) q + times (flying_names book.stage) q = times-append (last_names book.last) (flying_names book.stage) q in
        let last : times (last_names book.last) q ≡ times c.names q = ap (λ (o : Option Commit). times (last_names o) q) is in
        let named : times c.names q ≡ times c.files q + times (q ∷ []) q = ap (λ (ns : List Name). times ns q) stays.commit.names ∙ times-append c.files (q ∷ []) q in
        let one : 0 < times (q ∷ []) q = among_times (q ∷ []) q (among_of (q ∷ []) q (0, omega arith, refl)) in
        omega (arith, counts, all, last, named, one)

    by : (o : Option Commit) → book.last ≡ o → IfSome o (Stays cells) → is_some o ≡ true → (q : Name) × (is_commit_name q ≡ true) × IsThere cells q
    by None is stays none = absurd (true≢false (sym none))
    by (Some c) is stays some = (own_name c, own_is c stays.commit, node.whole.names (own_name c) ∙ known_counted holdings (own_name c) (held c is stays))

module _ {D : Type 0} (cells : D → Cells) where
  node_lists : (source : Name → Content) (size : ℕ) (log : Log) (at : At) (n : NodeNo) (x : Node D) (held : List HeldTicket) (names : List Name) → IsNode size n.0 → is_running n.0 (printed log) ≡ true → NodeShows cells log n.0 x → HoldsTickets (printed log) n.0 (tickets_of x) held
      → NamesShow cells (printed log) x → DiskShows source cells (printed log) n.0 (disk_of x) → AreNamesOf (cells (dir_of x)) names → has_met_fault at (printed log) ≡ false → MayListFiles size (printed log) at n names
  node_lists source size log at n (Primary p) held names node running shows holds shown disk told spared =
      may_list (printed log) (cells p.dir) names told size at n p.searchers held (loose_of p) node running shown (primary_named cells p shows.whole) shows.point holds
      (λ q some. counted_there (cells p.dir) p.files (primary_names p) p.commits q shows.whole.node
      (let all : times (primary_names p) q ≡ times (searcher_names p.searchers) q + times (p.names ++ rest_names p) q = times-append (searcher_names p.searchers) (p.names ++ rest_names p) q in omega (arith, all, some)))
      (λ is. commit_there (cells p.dir) p.files (primary_names p) p.commits shows.whole.node (disk.book.has is)) spared
  node_lists source size log at n (Replica r) held names node running shows holds shown disk told spared =
      may_list (printed log) (cells r.dir) names told size at n r.searchers held [] node running shown (replica_named cells r shows.whole) shows.point holds
      (λ q some. counted_there (cells r.dir) r.files (replica_names r) r.commits q shows.whole.node
      (let all : times (replica_names r) q ≡ times (searcher_names r.searchers) q + times (copying_names r) q = times-append (searcher_names r.searchers) (copying_names r) q in omega (arith, all, some)))
      (λ is. commit_there (cells r.dir) r.files (replica_names r) r.commits shows.whole.node (disk.book.has is)) spared
  node_lists source size log at n (Down d) held names node running shows holds shown disk told spared = absurd (true≢false (sym running ∙ shows.down))

  place_lists : (source : Name → Content) (size : ℕ) (log : Log) (at : At) (n : NodeNo) (o : Option (NodePlace D)) (names : List Name) → IsNode size n.0 → is_running n.0 (printed log) ≡ true → IsSomeAnd o (PlaceShows cells log n.0)
      → IsSomeAnd o (λ z. NamesShow cells (printed log) z.node) → IsSomeAnd (disk_at o) (DiskShows source cells (printed log) n.0) → AreNamesAt cells o names → has_met_fault at (printed log) ≡ false → MayListFiles size (printed log) at n names
  place_lists source size log at n None names node running shows shown disk told spared = absurd shows
  place_lists source size log at n (Some x) names node running shows shown disk told spared = node_lists source size log at n x.node x.held.items names node running shows.node_shows shows.tickets shown disk told spared

  running_place : (log : Log) (n : ℕ) (o : Option (NodePlace D)) → is_running n (printed log) ≡ true → IsSomeAnd o (PlaceShows cells log n) → HasRunning o
  running_place log n None running shows = absurd shows
  running_place log n (Some x) running shows = by x.node shows.node_shows
    where
      by : (y : Node D) → NodeShows cells log n y → HasRunning (Some (record { node = y; held = x.held }))
      by (Primary p) shows = tt
      by (Replica r) shows = tt
      by (Down d) shows = absurd (true≢false (sym running ∙ shows.down))

  -- ---- in the terms of a call

  pub running_there : (r : Run) (ended : Bool) (size n : ℕ) (log : Log) (places : List (Option (NodePlace D))) → {left : Rest} → record { ended = ended; nodes = size; log = log; rest = left } ≡ r → r.ended ≡ false
      → (ended ≡ false → Shows cells log size places) → IsNode r.nodes n → is_running n (printed r.log) ≡ true → HasRunning (place_of places n)
  running_there r ended size n log places view running shows node up = running_place r.log n (place_of places n) up ((was cells r ended size log places view running shows).each n node)

  pub may_tell : (r : Run) (ended : Bool) (b : Sheet) (places : List (Option (NodePlace D))) (at : At) (n : NodeNo) (names : List Name) → {left : Rest} → record { ended = ended; nodes = b.nodes; log = b.log; rest = left } ≡ r → r.ended ≡ false
      → (ended ≡ false → Shows cells b.log b.nodes places × FilesShow cells b.log b.nodes places) → IsFresh at (printed b.log) → IsNode r.nodes n.0 → is_running n.0 (printed r.log) ≡ true → AreNamesAt cells (place_of places n.0) names
      → KeepsRule r.nodes (printed r.log) at (Files n names)
  may_tell r ended b places at n names view running pair fresh node up told =
      let files = files_was cells r ended b.nodes b.log places view running (λ e. (pair e).1) in
      place_lists files.source r.nodes r.log at n (place_of places n.0) names node up ((was cells r ended b.nodes b.log places view running (λ e. (pair e).0)).each n.0 node) (files.names n.0 node) (files.disks n.0 node) told
      (past_has (IsFresh at) r ended b view fresh).spared
