-- What each path of the primary leaves of files and jobs, from what its calls say.
use Rattle.std.proofs.Common.{◌≡◌, ◌≢◌, ◌⊎◌, ◌≤◌, ◌<◌, ◌+◌, inl, inr, ℕ, Bool, true, false, List, [], ◌∷◌, ◌++◌, Some, None, Option, Vec, Global, refl, ap, ◌∙◌, sym, subst, arith, zero, suc}
use Rattle.std.proofs.lemmas.Bool.Decides.{nat_tests}
use Rattle.std.specs.List.{Contains, flat_map}
use Rattle.std.proofs.lemmas.List.Elements.{Contains-append_cases, Contains-append_right}
use Rattle.nrt_base.specs.declared.numbers.At.{At}
use Rattle.nrt_base.specs.declared.numbers.Gen.{Gen}
use Rattle.nrt_base.specs.declared.numbers.NodeNo.{NodeNo}
use Rattle.nrt_base.specs.declared.numbers.SegNo.{SegNo}
use Rattle.nrt_base.specs.declared.numbers.Version.{Version}
use Rattle.documents.specs.declared.operation.Op.{Op}
use Rattle.disk_model.specs.Disk.{Name, Cells}
use Rattle.seg_reader.specs.Shown.{Shown}
use Rattle.segment_infos.specs.declared.infos.Infos.{Infos}
use Rattle.segment_steps.specs.declared.flushing.FlushWork.{FlushWork}
use Rattle.history_rules.specs.declared.entry.Event.TheVariants.{Accepted, Publishing, Published}
use Rattle.nrt_base.specs.SegNumbers.{segments_of_generation, segment_number}
use Rattle.history_rules.specs.Nodes.{Past, IsNode, primary_of}
use Rattle.history_rules.specs.Points.{cut_has_put, names_drawn, is_drawn}
use Rattle.history_rules.specs.Lines.{start_entry, publish_in_flight}
use Rattle.history_rules.specs.Legal.{KeepsRule, IsLegalPast}
use Rattle.history_book.specs.Log.{Log, printed, shown, kept}
use Rattle.merge_tasks.specs.Merging.{Sheet}
use Rattle.history_book.specs.declared.inner.Inner.TheVariants.{FlushOut}
use Rattle.history_book.specs.Laws.{IsFresh}
use Rattle.history_book.specs.Turns.{AreInTurn}
use Rattle.index_primary.specs.declared.parts.PrimaryParts.{PrimaryParts}
use Rattle.searcher_switch.specs.Appearing.{AppearsOnly}
use Rattle.searcher_switch.specs.declared.open.Open.{Open}
use Rattle.index_primary.specs.Primary.{IsPrimary, KeepsHeldBytes, primary_names, rest_names, loose_of, loose_in, rest_loose, publish_loose}
use Rattle.index_primary.specs.Work.{AreOfCut}
use Rattle.searcher_switch.specs.Tickets.{ticket_names}
use Rattle.searcher_switch.specs.Searching.{searcher_names}
use Rattle.commit_steps.specs.Book.{book_names}
use Rattle.file_deleter.specs.Holdings.{count_of, times}
use Rattle.file_deleter.proofs.NameLemmas.{times-append}
use Rattle.segment_infos.specs.Files.{files_of_segment}
use Rattle.cluster_state.specs.Writes.{IsFlushed}
use Rattle.cluster_documents.proofs.Writing.{published_primary}
use Rattle.index_primary.specs.Calls.{IsPublished, FillsUndrawn, DrawsOnly, KeepsOthers}
use Rattle.index_primary.specs.declared.parts.Publish.{Publish}
use Rattle.index_primary.specs.Held.{IsOwnFile, drawn_to}
use Rattle.index_primary.specs.Cut.{infos_drawn, noted, has_put, number_drawn}
use Rattle.index_primary.proofs.NewFiles.{named_of}
use Rattle.cluster_nodes.specs.declared.held.HeldTicket.{HeldTicket}
use Rattle.cluster_nodes.specs.declared.nodes.Node.TheVariants.{Primary}
use Rattle.cluster_nodes.specs.declared.nodes.NodePlace.{NodePlace}
use Rattle.cluster_nodes.specs.Places.{place_of}
use Rattle.cluster_state.specs.Run.{Rest, Run}
use Rattle.cluster_state.specs.State.{Shows, PrimaryShows, PlaceShows}
use Rattle.cluster_state.specs.Files.{FilesShow}
use Rattle.cluster_nodes.specs.KeptFiles.{FillsPrimaryFiles, KeepsNodeFiles}
use Rattle.cluster_nodes.proofs.TicketNodes.{node_alone}
use Rattle.cluster_state.proofs.Disks.{commits_alone}
use Rattle.cluster_state.proofs.Drawn.{grows_none, just_drawn}
use Rattle.cluster_state.proofs.Naming.{FilesLast, HoldsFrom, holds_same}
use Rattle.cluster_state.proofs.Frames.{PutsBack, was, place_at}
use Rattle.cluster_state.proofs.FileFrames.{before, flights_of, files_one, files_was, files_is, files_moved, files_started, files_published, put_one}
use Rattle.cluster_state.proofs.Turning.{log_is, nodes_is, past_has, fresh_turn, later_turn}
use Rattle.cluster_state.proofs.JobFrames.{job_stays}

drawn_generation : (b : Bool) (infos : Infos) → (infos_drawn b infos).generation ≡ infos.generation
drawn_generation true infos = refl
drawn_generation false infos = refl

-- what a list of one number has
only : (x k : ℕ) → Contains (x ∷ []) k → x ≡ k
only x k (zero, lt, e) = e
only x k (suc i, lt, e) = absurd (omega (arith, lt))

module _ {D : Type 0} (cells : D → Cells) where
  -- ---- the primary's files

  accepted_alone : (p : PrimaryParts D) (waiting : List Op) (accepted : ℕ) → KeepsNodeFiles cells (Primary p) (Primary (record p { waiting = waiting; accepted = accepted }))
  accepted_alone p waiting accepted = (
    record {
      stays = record { held = λ q old new. refl };
      no_new = record { each = λ q is. is };
      drawn = record { each = λ q is. is };
      appears = record { each = λ q none. none };
      commits = refl;
      point = refl;
      generation = refl;
    },
    refl,
  )

  started_alone : (p q : PrimaryParts D) (seg : Option SegNo) → q ≡ record p { infos = infos_drawn (has_put p.waiting) p.infos; publish = noted seg p.waiting } → DrawsOnly p q → KeepsNodeFiles cells (Primary p) (Primary q)
  started_alone p q seg is drawn = subst (λ (z : PrimaryParts D). DrawsOnly p z → KeepsNodeFiles cells (Primary p) (Primary z)) (sym is)
      (λ drawn. (
        record {
          stays = record { held = λ n old new. refl };
          no_new = record { each = λ n none. none };
          drawn = drawn;
          appears = record { each = λ q none. none };
          commits = refl;
          point = refl;
          generation = drawn_generation (has_put p.waiting) p.infos;
        },
        refl,
      )) drawn

  -- a file that is counted now and was not is one of the new point
  newly_named : (p q : PrimaryParts D) (work : FlushWork) → IsPublished p work q → KeepsOthers p q → IsPrimary cells p → IsPrimary cells q → (name : Name) → count_of p.files name ≡ 0 → 0 < count_of q.files name
      → Contains (flat_map files_of_segment q.infos.segs) name
  newly_named p q work published others was whole name none some = by (times q.searchers.point.names name) refl
    where
      split : (z : PrimaryParts D) → IsPrimary cells z → count_of z.files name ≡ times z.searchers.point.names name + times (ticket_names z.searchers.tickets) name + times z.names name + times (rest_names z) name + times (book_names z.commits) name
      split z is =
          let counts = is.node.counts name in
          let one : times (primary_names z) name ≡ times (searcher_names z.searchers) name + times (z.names ++ rest_names z) name = times-append (searcher_names z.searchers) (z.names ++ rest_names z) name in
          let two : times (searcher_names z.searchers) name ≡ times z.searchers.point.names name + times (ticket_names z.searchers.tickets) name = times-append z.searchers.point.names (ticket_names z.searchers.tickets) name in
          let three : times (z.names ++ rest_names z) name ≡ times z.names name + times (rest_names z) name = times-append z.names (rest_names z) name in
          omega (arith, counts, one, two, three)

      -- the point or the writer's infos name it
      either : 0 < times q.searchers.point.names name + times q.names name
      either =
          let old = split p was in
          let new = split q whole in
          let tickets : times (ticket_names q.searchers.tickets) name ≡ times (ticket_names p.searchers.tickets) name = ap (λ (ts : List (Open Shown)). times (ticket_names ts) name) published.point.tickets in
          let rest : times (rest_names q) name ≡ times (rest_names p) name = ap (λ (z : PrimaryParts D). times (rest_names z) name) others in
          let book : times (book_names q.commits) name ≡ times (book_names p.commits) name = ap (λ (z : PrimaryParts D). times (book_names z.commits) name) others in
          omega (arith, none, some, old, new, tickets, rest, book)

      by : (k : ℕ) → times q.searchers.point.names name ≡ k → Contains (flat_map files_of_segment q.infos.segs) name
      by zero is = (whole.writer.files.named name).0 (named_of q.names name (let e = either in omega (arith, is, e)))
      by (suc k) is = subst (λ (i : Infos). Contains (flat_map files_of_segment i.segs) name) (published.point.point_infos ∙ sym published.point.infos)
          ((whole.searched.files.named name).0 (named_of q.searchers.point.names name (omega (arith, is))))

  published_fills : (p q : PrimaryParts D) (work : FlushWork) → IsPublished p work q → KeepsHeldBytes cells p q → FillsUndrawn p q → DrawsOnly p q → AppearsOnly (IsOwnFile p.infos (loose_of p)) (cells p.dir) (cells q.dir) → KeepsOthers p q
      → IsPrimary cells p → IsPrimary cells q → FillsPrimaryFiles cells p q
  published_fills p q work published stays fresh drawn appears others was whole = record {
    stays = stays;
    fresh = fresh;
    drawn = drawn;
    appears = appears;
    commits = ap (λ (z : PrimaryParts D). z.commits) others;
    named = λ name none some. newly_named p q work published others was whole name none some;
    point = published.point.point_infos ∙ sym published.point.infos;
    states = ap (λ (z : PrimaryParts D). z.states) others;
  }

  -- ---- what the primary holds

  -- a publish that started drew its number
  started_holds : (log : Log) (at : At) (n : ℕ) (p q : PrimaryParts D) (seg : Option SegNo) → PrimaryShows cells log n p → q ≡ record p { infos = infos_drawn (has_put p.waiting) p.infos; publish = noted seg p.waiting }
      → seg ≡ number_drawn (has_put p.waiting) p.infos → (cut_has_put (printed log) ≡ true → names_drawn (printed log) ≢ segments_of_generation) → HoldsFrom cells (printed (shown at Publishing ∷ log)) (Primary p) (Primary q)
  started_holds log at n p q seg shows next number names = record {
    tickets = λ o held. inl (subst (λ (ts : List (Open Shown)). Contains ts o) (ap (λ (z : PrimaryParts D). z.searchers.tickets) next) held);
    loose = λ k held. by k (Contains-append_cases (loose_in seg) (rest_loose p) k (subst (λ (ns : List ℕ). Contains ns k) (ap (λ (z : PrimaryParts D). loose_of z) next) held));
  }
    where
      now : Past
      now = printed (shown at Publishing ∷ log)

      cut : has_put p.waiting ≡ cut_has_put (printed log)
      cut = ap has_put shows.waiting

      -- the number that is drawn
      fresh : cut_has_put (printed log) ≡ true → is_drawn (drawn_to p.infos) now ≡ true
      fresh put =
          let counter : p.infos.counter ≡ names_drawn (printed log) = shows.writer.counter in
          let most : p.infos.counter ≤ segments_of_generation = shows.whole.numbered.counter in
          let some = names put in
          subst (λ (x : ℕ × ℕ). is_drawn (segment_number x.0 x.1) now ≡ true) (λ i. (sym shows.writer.generation i, sym counter i)) (just_drawn (printed log) at put (below (names_drawn (printed log)) (omega (arith, counter, most)) some))
        where
          below : (k : ℕ) → k ≤ segments_of_generation → k ≢ segments_of_generation → k < segments_of_generation
          below k most other = grind (arith, nat_tests, most, other)

      drawn_in : (b : Bool) (s : Option SegNo) (k : ℕ) → has_put p.waiting ≡ b → s ≡ number_drawn b p.infos → Contains (loose_in s) k → is_drawn k now ≡ true
      drawn_in true None k put is held = absurd (cc)
      drawn_in true (Some s) k put is held =
          let same : s.0 ≡ drawn_to p.infos = of_some s is in
          subst (λ (m : ℕ). is_drawn m now ≡ true) (sym same ∙ only s.0 k held) (fresh (sym cut ∙ put))
        where
          of_some : (s : SegNo) → ◌≡◌ {A = Option SegNo} (Some s) (Some (record { 0 = drawn_to p.infos })) → s.0 ≡ drawn_to p.infos
          of_some s e = let whole : s ≡ record { 0 = drawn_to p.infos } = cc in ap (λ (x : SegNo). x.0) whole
      drawn_in false None k put is held = absurd (omega (arith, held.1))
      drawn_in false (Some s) k put is held = absurd (cc)

      by : (k : ℕ) → Contains (loose_in seg) k ⊎ Contains (rest_loose p) k → Contains (loose_of p) k ⊎ (is_drawn k now ≡ true)
      by k (inl mine) = inr (drawn_in (has_put p.waiting) seg k refl number mine)
      by k (inr rest) = inl (Contains-append_right (publish_loose p.publish) (rest_loose p) k rest)

  -- a publish that ended has no number that is not written
  ended_holds : (now : Past) (p q : PrimaryParts D) (work : FlushWork) → IsPublished p work q → KeepsOthers p q → HoldsFrom cells now (Primary p) (Primary q)
  ended_holds now p q work published others = record {
    tickets = λ o held. inl (subst (λ (ts : List (Open Shown)). Contains ts o) published.point.tickets held);
    loose = λ k held. inl (Contains-append_right (publish_loose p.publish) (rest_loose p) k
        (subst (λ (ns : List ℕ). Contains ns k) (ap (λ (f : Option Publish). publish_loose f ++ rest_loose q) published.point.publish ∙ ap (λ (z : PrimaryParts D). rest_loose z) others) held));
  }

  -- ---- paths

  module _ (r : Run) (ended : Bool) (b0 b1 : Sheet) (old mid new : List (Option (NodePlace D))) (n : NodeNo) (x : NodePlace D) (p q : PrimaryParts D) (held : Vec HeldTicket Global)
      {left : Rest} (view : record { ended = ended; nodes = b0.nodes; log = b0.log; rest = left } ≡ r) (running : r.ended ≡ false) (shows : ended ≡ false → Shows cells b0.log b0.nodes old) (files : ended ≡ false → FilesShow cells b0.log b0.nodes old)
      (e1 : b1.log ≡ b0.log) (n1 : b1.nodes ≡ b0.nodes) (node : IsNode r.nodes n.0) (put : PutsBack cells old mid new n.0 (record { node = Primary q; held = held })) (there : place_of old n.0 ≡ Some x) (is : x ≡ record { node = Primary p; held = held }) where
    keeps_at : KeepsNodeFiles cells (Primary p) (Primary q) → KeepsNodeFiles cells x.node (Primary q)
    keeps_at keeps = subst (λ (z : NodePlace D). KeepsNodeFiles cells z.node (Primary q)) (sym is) keeps

    holds_at : (now : Past) → HoldsFrom cells now (Primary p) (Primary q) → HoldsFrom cells now x.node (Primary q)
    holds_at now holds = subst (λ (z : NodePlace D). HoldsFrom cells now z.node (Primary q)) (sym is) holds

    -- a place that was taken out and put back as it was
    pub back_files : q ≡ p → FilesShow cells b1.log b1.nodes new
    back_files same =
        files_is cells r.log b1.log r.nodes b1.nodes new (e1 ∙ log_is r ended b0 view) (n1 ∙ nodes_is r ended b0 view)
        (files_one cells r.nodes r.log r.log old new n.0 (record { node = Primary q; held = held }) x (grows_none (printed r.log)) (λ name bytes out. out)
        (holds_at (printed r.log) (holds_same cells (printed r.log) (Primary p) (Primary q) (ap (λ (z : PrimaryParts D). z.searchers.tickets) same) (ap (λ (z : PrimaryParts D). loose_of z) same)))
        (λ m other. job_stays r.log m) (λ m. commits_alone (printed r.log) m) (put_one cells n.0 (record { node = Primary q; held = held }) old mid new put) node there
        (keeps_at (subst (λ (z : PrimaryParts D). KeepsNodeFiles cells (Primary p) (Primary z)) (sym same) (node_alone cells (Primary p))))
        (was cells r ended b0.nodes b0.log old view running shows) (files_was cells r ended b0.nodes b0.log old view running files))

    -- what the primary was
    here : PrimaryShows cells r.log n.0 p
    here = (subst (λ (z : NodePlace D). PlaceShows cells r.log n.0 z) is (place_at cells r ended b0.nodes n.0 b0.log old x view running shows node there)).node_shows

    module _ (b2 : Sheet) (at : At) (legal : IsLegalPast b1.nodes (printed b1.log)) (turns : AreInTurn (printed b1.log)) where
      pub accept_files : (seq : ℕ) (op copy : Op) → b2.log ≡ shown at (Accepted seq op) ∷ b1.log → b2.nodes ≡ b1.nodes → start_entry at (printed r.log) ≡ None → KeepsRule r.nodes (printed r.log) at (Accepted seq op)
          → q ≡ record p { waiting = p.waiting ++ copy ∷ []; accepted = p.accepted + 1 } → FilesShow cells b2.log b2.nodes new
      accept_files seq op copy e2 n2 begun rule next =
          files_moved cells r ended b0 b1 b2 old mid new at (Accepted seq op) n.0 (record { node = Primary q; held = held }) x view running shows files e1 n1 e2 n2 legal turns rule
          (later_turn (printed r.log) at (Accepted seq op) refl tt) (λ m. refl) (λ m. refl)
          (flights_of cells r ended b0 b1 at view e1 n1 legal turns begun) put node there
          (keeps_at (subst (λ (z : PrimaryParts D). KeepsNodeFiles cells (Primary p) (Primary z)) (sym next) (accepted_alone p (p.waiting ++ copy ∷ []) (p.accepted + 1))))
          (holds_at (printed (shown at (Accepted seq op) ∷ r.log)) (holds_same cells (printed (shown at (Accepted seq op) ∷ r.log)) (Primary p) (Primary q) (ap (λ (z : PrimaryParts D). z.searchers.tickets) next) (ap (λ (z : PrimaryParts D). loose_of z) next)))

      pub start_files : (b3 : Sheet) (seg : Option SegNo) (segs : List Shown) → b2.log ≡ shown at Publishing ∷ b1.log → b2.nodes ≡ b1.nodes → b3.log ≡ kept (FlushOut at seg segs) ∷ b2.log → b3.nodes ≡ b2.nodes
          → IsFresh at (printed b0.log) → KeepsRule r.nodes (printed r.log) at Publishing
          → q ≡ record p { infos = infos_drawn (has_put p.waiting) p.infos; publish = noted seg p.waiting } → DrawsOnly p q
          → seg ≡ number_drawn (has_put p.waiting) p.infos → (cut_has_put (printed r.log) ≡ true → names_drawn (printed r.log) ≢ segments_of_generation) → FilesShow cells b3.log b3.nodes new
      start_files b3 seg segs e2 n2 e3 n3 fresh rule next drawn number names =
          files_started cells r ended b0 b1 b2 b3 old mid new at seg segs n.0 (record { node = Primary q; held = held }) x view running shows files e1 n1 e2 n2 legal turns e3 n3 rule
          (fresh_turn (printed r.log) at Publishing (past_has (IsFresh at) r ended b0 view fresh) tt) put node there (keeps_at (started_alone p q seg next drawn))
          (holds_at (printed (shown at Publishing ∷ r.log)) (started_holds r.log at n.0 p q seg here next number names))

      pub end_files : (g : Gen) (v : Version) (work : FlushWork) → b2.log ≡ shown at (Published g v) ∷ b1.log → b2.nodes ≡ b1.nodes → KeepsRule r.nodes (printed r.log) at (Published g v)
          → publish_in_flight (printed r.log) ≡ Some at → primary_of (printed r.log) ≡ Some n → IsFlushed at r.log work → IsPublished p work q → AreOfCut p q → KeepsHeldBytes cells p q → FillsUndrawn p q → DrawsOnly p q
          → AppearsOnly (IsOwnFile p.infos (loose_of p)) (cells p.dir) (cells q.dir) → KeepsOthers p q → IsPrimary cells q → FilesLast → FilesShow cells b2.log b2.nodes new
      end_files g v work e2 n2 rule flight primary flushed published of_cut stays fresh drawn appears others whole lasting =
          let b = before cells r ended b0 b1 view e1 n1 legal turns in
          files_published cells r ended b0 b1 b2 old mid new at g v n p q held view running shows files e1 n1 e2 n2 legal turns rule (later_turn (printed r.log) at (Published g v) refl flight) primary put node
          (there ∙ ap (λ (z : NodePlace D). Some z) is) (published_fills p q work published stays fresh drawn appears others here.whole whole)
          (published_primary cells r.nodes r.log at g v n.0 p q work b.legal b.turns rule flight rule.next flushed published of_cut (ap (λ (z : PrimaryParts D). z.accepted) others) (ap (λ (z : PrimaryParts D). z.merges) others) whole here) lasting
          (ended_holds (printed (shown at (Published g v) ∷ r.log)) p q work published others)
