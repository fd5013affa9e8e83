-- A merge that starts: what the nodes of a cluster show, and their files.
use Rattle.std.proofs.Common.{◌≡◌, ◌≢◌, ◌<◌, ◌+◌, ◌==◌, ◌++◌, ◌⊎◌, inl, inr, nat_lt, ℕ, Bool, true, false, List, [], ◌∷◌, Some, Option, Vec, Global, refl, ap, ◌∙◌, sym, subst, arith, if◌then◌else◌}
use Rattle.std.specs.List.{Contains}
use Rattle.std.proofs.lemmas.Bool.{eq-eqb}
use Rattle.std.proofs.lemmas.Bool.Decides.{nat_tests}
use Rattle.std.proofs.lemmas.List.Elements.{Contains-append_cases, Contains-append_left, Contains-append_right}
use Rattle.nrt_base.specs.SegNumbers.{segment_number, segment_place, segment_generation, segments_of_generation}
use Rattle.nrt_base.specs.declared.numbers.At.{At}
use Rattle.nrt_base.specs.declared.numbers.LineNo.{LineNo}
use Rattle.nrt_base.specs.declared.numbers.SegNo.{SegNo}
use Rattle.disk_model.specs.Disk.{Cells}
use Rattle.seg_reader.specs.Shown.{Shown}
use Rattle.seg_reader.specs.Stands.{AreSegmentsOf}
use Rattle.segment_infos.specs.declared.infos.Infos.{Infos}
use Rattle.searcher_switch.specs.declared.open.Open.{Open}
use Rattle.searcher_switch.specs.declared.open.SearchPoint.{SearchPoint}
use Rattle.searcher_switch.specs.Appearing.{NoneAppears}
use Rattle.history_rules.specs.declared.entry.Entry.{Entry}
use Rattle.history_rules.specs.declared.entry.Event.TheVariants.{Merging as MergingEvent}
use Rattle.history_rules.specs.Nodes.{Past, IsNode, is_at, primary_of, newest_version, version_of, generation_of}
use Rattle.history_rules.specs.Lines.{publish_in_flight}
use Rattle.history_rules.specs.Points.{documents_at, names_drawn, names_drawn_in, is_drawn}
use Rattle.history_rules.specs.Tasks.{merge_count}
use Rattle.history_rules.specs.Legal.{KeepsRule, IsLegalPast}
use Rattle.history_book.specs.Log.{Log, printed, shown, kept}
use Rattle.history_book.specs.declared.inner.Inner.TheVariants.{MergeOut}
use Rattle.history_book.specs.Laws.{IsFresh}
use Rattle.history_book.specs.Turns.{AreInTurn}
use Rattle.index_primary.specs.declared.parts.PrimaryParts.{PrimaryParts}
use Rattle.index_primary.specs.declared.parts.Publish.{Publish}
use Rattle.index_primary.specs.declared.states.Merging.{Merging}
use Rattle.index_primary.specs.Cut.{infos_drawn}
use Rattle.index_primary.specs.Held.{drawn_to}
use Rattle.index_primary.specs.Merges.{merge_loose}
use Rattle.index_primary.specs.Primary.{IsPrimary, KeepsHeldBytes, publish_loose, rest_loose, loose_of}
use Rattle.index_primary.specs.Calls.{DrawsOnly, HoldsNoNew}
use Rattle.index_primary.proofs.MergeLists.{loose_behind}
use Rattle.cluster_nodes.specs.declared.held.HeldTicket.{HeldTicket}
use Rattle.cluster_nodes.specs.declared.nodes.Node.TheVariants.{Primary}
use Rattle.cluster_nodes.specs.declared.nodes.NodePlace.{NodePlace}
use Rattle.cluster_nodes.specs.Places.{place_of}
use Rattle.cluster_nodes.specs.JobPlaces.{MovesOne}
use Rattle.cluster_nodes.specs.KeptFiles.{KeepsNodeFiles}
use Rattle.cluster_state.specs.State.{IsPointAt, HoldsTickets, FlightShows, WritesAt, PrimaryShows, PlaceShows, Shows}
use Rattle.cluster_state.specs.Files.{FilesShow}
use Rattle.cluster_state.proofs.Growing.{stands_more, flight_stays, not_flying, lasts, fewer, same}
use Rattle.cluster_state.proofs.Frames.{flight_same, holds_same, place_same, some_at, start_back}
use Rattle.cluster_state.proofs.FileFrames.{one_each, files_one, files_still}
use Rattle.cluster_state.proofs.JobMoves.{shows_kept}
use Rattle.cluster_state.proofs.JobFrames.{same_shown, same_inner}
use Rattle.cluster_state.proofs.Disks.{commits_alone, commits_shown, fresh_flights}
use Rattle.cluster_state.proofs.Drawn.{grows_none, grows_shown}
use Rattle.cluster_state.proofs.Naming.{HoldsFrom}
use Rattle.cluster_state.proofs.Turning.{fresh_turn, fresh_line}

-- the entry that a merge into a segment starts
abbrev pub starting : At → SegNo → Entry
starting at seg = record { at = at; event = MergingEvent seg }

-- the number that a merge draws is drawn once it has started
pub merge_drawn : (past : Past) (at : At) (seg : SegNo) → names_drawn past < segments_of_generation → is_drawn (segment_number (generation_of past) (names_drawn past)) (starting at seg ∷ past) ≡ true
merge_drawn past at seg low =
    let next : ℕ = segment_number (generation_of past) (names_drawn past) in
    let place : segment_place next ≡ names_drawn past = omega (arith, low) in
    let made : segment_generation next ≡ generation_of past = omega (arith, low) in
    let here : (generation_of past == segment_generation next) ≡ true = eq-eqb (generation_of past) (segment_generation next) (sym made) in
    let count : names_drawn_in (segment_generation next) (starting at seg ∷ past) ≡ names_drawn past + 1 = ap (λ (b : Bool). if b then names_drawn past + 1 else names_drawn_in (segment_generation next) past) here in
    within (segment_place next) (names_drawn_in (segment_generation next) (starting at seg ∷ past)) (omega (arith, place, count))
  where
    within : (place drawn : ℕ) → place < drawn → nat_lt place drawn ≡ true
    within place drawn low = grind (arith, nat_tests)

-- a primary that started a merge: it drew a number, and holds more
abbrev pub HasStarted : {D : Type 0} → PrimaryParts D → PrimaryParts D → Type 0
HasStarted p q = q ≡ record p { files = q.files; infos = infos_drawn true p.infos; merges = q.merges }

-- the writer has drawn one name more
begun_writer : (past : Past) (at : At) (seg : SegNo) (infos : Infos) (segs : List Shown) → AreSegmentsOf (documents_at (starting at seg ∷ past) (newest_version past)) segs → WritesAt past infos segs → WritesAt (starting at seg ∷ past) (infos_drawn true infos) segs
begun_writer past at seg infos segs documents was = record {
  documents = documents;
  generation = was.generation;
  version = was.version;
  counter = ap (λ (k : ℕ). k + 1) was.counter;
  few = was.few;
  live = λ none. let more : merge_count past + 1 ≡ 0 = none in absurd (omega (arith, more));
}

module _ {D : Type 0} (cells : D → Cells) (size : ℕ) (log : Log) (at : At) (seg : SegNo) (legal : IsLegalPast size (printed log)) (turns : AreInTurn (printed log)) (rule : KeepsRule size (printed log) at (MergingEvent seg)) (fresh : IsFresh at (printed log)) where
  line : publish_in_flight (printed log) ≢ Some at
  line = not_flying size (printed log) at legal turns (fresh_line (printed log) at fresh)

  module _ (n : ℕ) (p q : PrimaryParts D) (is : HasStarted p q) (whole : IsPrimary cells q) where
    begun_primary : PrimaryShows cells log n p → PrimaryShows cells (shown at (MergingEvent seg) ∷ log) n q
    begun_primary was =
        let point = stands_more size (printed log) (starting at seg) (version_of n (printed log)) p.searchers.point.readers (rule, legal) was.point.stands in
        let newest = stands_more size (printed log) (starting at seg) (newest_version (printed log)) p.segs (rule, legal) (record { known = omega arith; documents = was.writer.documents }) in
        let flight = flight_same log (shown at (MergingEvent seg) ∷ log) p.publish p.segs (flight_stays (printed log) at (MergingEvent seg) line refl) (λ a h there. there) was.flight in
        record {
          running = was.running;
          primary = was.primary;
          whole = whole;
          point = subst (λ (o : SearchPoint Shown). IsPointAt (printed (shown at (MergingEvent seg) ∷ log)) (version_of n (printed log)) o) (sym (ap (λ (z : PrimaryParts D). z.searchers.point) is))
              (record { version = was.point.version; stands = point });
          writer = subst (λ (x : Infos × List Shown). WritesAt (printed (shown at (MergingEvent seg) ∷ log)) x.0 x.1) (λ i. (sym (ap (λ (z : PrimaryParts D). z.infos) is) i, sym (ap (λ (z : PrimaryParts D). z.segs) is) i))
              (begun_writer (printed log) at seg p.infos p.segs newest.documents was.writer);
          waiting = ap (λ (z : PrimaryParts D). z.waiting) is ∙ was.waiting;
          accepted = ap (λ (z : PrimaryParts D). z.accepted) is ∙ was.accepted;
          uncut = λ none. let more : merge_count (printed log) + 1 ≡ 0 = none in absurd (omega (arith, more));
          calm = λ none. let more : merge_count (printed log) + 1 ≡ 0 = none in absurd (omega (arith, more));
          flight = subst (λ (x : Option Publish × List Shown). FlightShows (shown at (MergingEvent seg) ∷ log) (publish_in_flight (printed (shown at (MergingEvent seg) ∷ log))) x.0 x.1)
              (λ i. (sym (ap (λ (z : PrimaryParts D). z.publish) is) i, sym (ap (λ (z : PrimaryParts D). z.segs) is) i)) flight;
        }

    begun_place : (held : Vec HeldTicket Global) → PlaceShows cells log n (record { node = Primary p; held = held }) → PlaceShows cells (shown at (MergingEvent seg) ∷ log) n (record { node = Primary q; held = held })
    begun_place held was = record {
      node_shows = begun_primary was.node_shows;
      tickets = subst (λ (ts : List (Open Shown)). HoldsTickets (printed (shown at (MergingEvent seg) ∷ log)) n ts held.items) (sym (ap (λ (z : PrimaryParts D). z.searchers.tickets) is))
          (holds_same (printed log) (printed (shown at (MergingEvent seg) ∷ log)) n p.searchers.tickets held.items (lasts size (printed log) at (MergingEvent seg) legal rule) (fewer (printed log) at (MergingEvent seg) n refl) was.tickets);
    }

    module _ (held : Vec HeldTicket Global) (old new : List (Option (NodePlace D))) (moves : MovesOne n (record { node = Primary q; held = held }) old new) (node : IsNode size n) (there : place_of old n ≡ Some (record { node = Primary p; held = held }))
        (shows : Shows cells log size old) where
      shown_shows : ((m : ℕ) → (n == m) ≡ false → is_at (primary_of (printed log)) m ≡ false) → Shows cells (shown at (MergingEvent seg) ∷ log) size new
      shown_shows others = record {
        some = shows.some;
        count = moves.count ∙ shows.count;
        each = one_each {P = PlaceShows cells log} {Q = PlaceShows cells (shown at (MergingEvent seg) ∷ log)} size n (record { node = Primary q; held = held }) old new moves shows.each
            (λ m z at_m apart was. place_same cells log (shown at (MergingEvent seg) ∷ log) m z (same size m (printed log) at (MergingEvent seg) legal turns rule (λ here. line) (others m apart)) (fewer (printed log) at (MergingEvent seg) m refl) (λ a h is. is) was)
            (begun_place held (some_at (PlaceShows cells log n) (place_of old n) (record { node = Primary p; held = held }) there (shows.each n node)));
        handed = λ a none. shows.handed a (start_back a (starting at seg) (printed log) none);
      }

      -- the cluster shows the merge, and that its inputs are handed out
      pub begun_shows : (number : LineNo) (inputs : List Shown) (listed : List (Option ℕ)) → ((m : ℕ) → (n == m) ≡ false → is_at (primary_of (printed log)) m ≡ false) → Shows cells (kept (MergeOut number seg inputs listed) ∷ shown at (MergingEvent seg) ∷ log) size new
      begun_shows number inputs listed others = shows_kept cells size (shown at (MergingEvent seg) ∷ log) (MergeOut number seg inputs listed) new (λ a. refl) (shown_shows others)

      -- ---- files

      begun_alone : KeepsHeldBytes cells p q → HoldsNoNew p q → DrawsOnly p q → KeepsNodeFiles cells (Primary p) (Primary q)
      begun_alone stays no_new drawn = (
        record {
          stays = stays;
          no_new = no_new;
          drawn = drawn;
          appears = subst (λ (d : D). NoneAppears (cells p.dir) (cells d)) (sym (ap (λ (z : PrimaryParts D). z.dir) is)) (record { each = λ name none. none });
          commits = ap (λ (z : PrimaryParts D). z.commits) is;
          point = ap (λ (z : PrimaryParts D). z.point_infos) is;
          generation = ap (λ (z : PrimaryParts D). z.infos.generation) is;
        },
        ap (λ (z : PrimaryParts D). z.states) is,
      )

      -- the number that it drew is drawn
      begun_holds : (m : Merging) → q.merges ≡ p.merges ++ m ∷ [] → m.task.seg.0 ≡ drawn_to p.infos → names_drawn (printed log) < segments_of_generation → PrimaryShows cells log n p
          → HoldsFrom cells (printed (shown at (MergingEvent seg) ∷ log)) (Primary p) (Primary q)
      begun_holds m merges number low was = record {
        tickets = λ o held. inl (subst (λ (ts : List (Open Shown)). Contains ts o) (ap (λ (z : PrimaryParts D). z.searchers.tickets) is) held);
        loose = λ k held. by k (Contains-append_cases (publish_loose p.publish) (merge_loose (p.merges ++ m ∷ [])) k (subst (λ (ns : List ℕ). Contains ns k) loose held));
      }
        where
          loose : loose_of q ≡ publish_loose p.publish ++ merge_loose (p.merges ++ m ∷ [])
          loose = ap (λ (o : Option Publish). publish_loose o ++ rest_loose q) (ap (λ (z : PrimaryParts D). z.publish) is) ∙ ap (λ (ms : List Merging). publish_loose p.publish ++ merge_loose ms) merges

          fresh_is : m.task.seg.0 ≡ segment_number (generation_of (printed log)) (names_drawn (printed log))
          fresh_is = number ∙ λ i. segment_number (was.writer.generation i) (was.writer.counter i)

          mine : (k : ℕ) → (m.task.seg.0 ≡ k) ⊎ Contains (merge_loose p.merges) k → Contains (loose_of p) k ⊎ (is_drawn k (printed (shown at (MergingEvent seg) ∷ log)) ≡ true)
          mine k (inl e) = inr (subst (λ (s : ℕ). is_drawn s (printed (shown at (MergingEvent seg) ∷ log)) ≡ true) (sym fresh_is ∙ e) (merge_drawn (printed log) at seg low))
          mine k (inr rest) = inl (Contains-append_right (publish_loose p.publish) (rest_loose p) k rest)

          by : (k : ℕ) → Contains (publish_loose p.publish) k ⊎ Contains (merge_loose (p.merges ++ m ∷ [])) k → Contains (loose_of p) k ⊎ (is_drawn k (printed (shown at (MergingEvent seg) ∷ log)) ≡ true)
          by k (inl publish) = inl (Contains-append_left (publish_loose p.publish) (rest_loose p) k publish)
          by k (inr rest) = mine k (loose_behind p.merges m k rest)

      -- the files of the nodes are those that they had
      pub begun_files : (number : LineNo) (inputs : List Shown) (listed : List (Option ℕ)) (m : Merging) → q.merges ≡ p.merges ++ m ∷ [] → m.task.seg.0 ≡ drawn_to p.infos → names_drawn (printed log) < segments_of_generation
          → KeepsHeldBytes cells p q → HoldsNoNew p q → DrawsOnly p q → ((m : ℕ) → (n == m) ≡ false → is_at (primary_of (printed log)) m ≡ false)
          → FilesShow cells log size old → FilesShow cells (kept (MergeOut number seg inputs listed) ∷ shown at (MergingEvent seg) ∷ log) size new
      begun_files number inputs listed m merges drawn low stays no_new draws others files =
          files_still cells size (shown at (MergingEvent seg) ∷ log) (kept (MergeOut number seg inputs listed) ∷ shown at (MergingEvent seg) ∷ log) new (grows_none (printed (shown at (MergingEvent seg) ∷ log))) (λ name bytes out. out)
          (λ k other. same_inner (shown at (MergingEvent seg) ∷ log) (MergeOut number seg inputs listed) k refl) (λ k. commits_alone (printed (shown at (MergingEvent seg) ∷ log)) k) (shown_shows others)
          (files_one cells size log (shown at (MergingEvent seg) ∷ log) old new n (record { node = Primary q; held = held }) (record { node = Primary p; held = held }) (grows_shown size (printed log) at (MergingEvent seg) legal rule) (λ name bytes out. out)
          (begun_holds m merges drawn low (some_at (PlaceShows cells log n) (place_of old n) (record { node = Primary p; held = held }) there (shows.each n node)).node_shows)
          (λ k other. same_shown size log at k legal turns other (MergingEvent seg) rule (fresh_turn (printed log) at (MergingEvent seg) fresh tt) refl)
          (λ k. commits_shown (printed log) at k size (MergingEvent seg) legal turns rule (fresh_turn (printed log) at (MergingEvent seg) fresh tt) refl (fresh_flights size (printed log) at legal turns fresh.begun k))
          moves node there (begun_alone stays no_new draws) shows files)
