-- What is true of a cluster stays true where its primary gave a publish up.
use Rattle.std.proofs.Common.{◌≡◌, ◌≢◌, ◌⊎◌, ◌≤◌, ◌<◌, ◌+◌, ◌==◌, inl, inr, zero, suc, ℕ, Bool, true, false, true≢false, if◌then◌else◌, List, [], ◌∷◌, ◌++◌, Some, None, Option, Vec, Global, refl, ap, ◌∙◌, sym, subst, arith}
use Rattle.std.specs.List.{Contains}
use Rattle.std.proofs.lemmas.List.Elements.{Contains-append_right}
use Rattle.std.proofs.lemmas.Bool.{eq-eqb}
use Rattle.nrt_base.specs.declared.numbers.At.{At}
use Rattle.nrt_base.specs.declared.numbers.NodeNo.{NodeNo}
use Rattle.disk_model.specs.Disk.{Name, Content, Cells}
use Rattle.file_deleter.specs.Holdings.{Holdings, count_of}
use Rattle.segment_infos.specs.declared.infos.Infos.{Infos}
use Rattle.searcher_switch.specs.declared.open.Open.{Open}
use Rattle.seg_reader.specs.Shown.{Shown}
use Rattle.searcher_switch.specs.Appearing.{AppearsOnly}
use Rattle.history_rules.specs.declared.entry.Event.TheVariants.{Publishing, Refused}
use Rattle.history_rules.specs.declared.cause.Cause.TheVariants.{DiskFault}
use Rattle.history_rules.specs.Nodes.{Past, IsNode, is_at, primary_of}
use Rattle.history_rules.specs.Lines.{same_at, start_entry, publish_in_flight, without_at}
use Rattle.history_rules.specs.Legal.{KeepsRule, IsLegalPast}
use Rattle.history_tables.proofs.RowLemmas.{same_at_self}
use Rattle.history_book.specs.Log.{Log, printed, shown}
use Rattle.history_book.specs.Laws.{Flying}
use Rattle.history_book.specs.Turns.{AreInTurn}
use Rattle.merge_tasks.specs.Merging.{Sheet}
use Rattle.index_primary.specs.declared.parts.PrimaryParts.{PrimaryParts}
use Rattle.index_primary.specs.declared.parts.Publish.{Publish}
use Rattle.index_primary.specs.declared.states.Out.{Out}
use Rattle.index_primary.specs.Held.{IsOwnFile}
use Rattle.index_primary.specs.Primary.{IsPrimary, KeepsHeldBytes, loose_of, rest_loose, publish_loose}
use Rattle.index_primary.specs.Calls.{KeepsPoint, HasSameCounts, DrawsOnly}
use Rattle.replica_node.specs.Given.{IsLasting}
use Rattle.merge_tasks.specs.Board.{Board}
use Rattle.cluster_nodes.specs.declared.held.HeldTicket.{HeldTicket}
use Rattle.cluster_nodes.specs.declared.nodes.Node.{Node}
use Rattle.cluster_nodes.specs.declared.nodes.Node.TheVariants.{Primary}
use Rattle.cluster_nodes.specs.declared.nodes.NodePlace.{NodePlace}
use Rattle.cluster_nodes.specs.Outs.{states_like, jobs_like}
use Rattle.cluster_nodes.specs.Places.{place_of}
use Rattle.cluster_nodes.specs.JobPlaces.{MovesOne}
use Rattle.cluster_state.specs.Run.{Rest, Run}
use Rattle.cluster_state.specs.State.{HoldsTickets, FlightShows, PrimaryShows, PlaceShows, Shows}
use Rattle.cluster_state.specs.Files.{PrimaryFiles, NodeFiles, FilesShow}
use Rattle.cluster_state.specs.Disks.{IsPastPoint, CommitsStay}
use Rattle.cluster_state.specs.Names.{NamesShow}
use Rattle.cluster_state.specs.FileChanges.{SameJob, CarriesNoMore, is_commit_line}
use Rattle.cluster_state.specs.Merging.{MergesStand}
use Rattle.cluster_nodes.proofs.OutCounts.{jobs_same}
use Rattle.cluster_state.proofs.Growing.{lasts, fewer}
use Rattle.cluster_state.proofs.Drawn.{Grows, grows_shown, file_more}
use Rattle.cluster_state.proofs.Naming.{FilesLast, NodeSteps, HoldsFrom, means_more, own_drawn}
use Rattle.cluster_state.proofs.JobFrames.{same_shown}
use Rattle.cluster_state.proofs.Disks.{no_commit, commits_shown, disk_moved, disk_same, disks_kept}
use Rattle.cluster_state.proofs.Wider.{primary_stays}
use Rattle.cluster_state.proofs.Frames.{PutsBack, some_at, was, holds_same, moved_at}
use Rattle.cluster_state.proofs.FileFrames.{Both, both_of, before, files_was, files_is, names_one, node_files, one_each, put_one, replica_apart, wants_same}
use Rattle.cluster_state.proofs.MergingPaths.{put_shown}
use Rattle.cluster_state.proofs.MergingStill.{primary_keeps}
use Rattle.cluster_state.proofs.Turning.{later_turn}
use Rattle.cluster_state.specs.GivesUp.{GivesUpFiles}
use Rattle.cluster_documents.proofs.MetWords.{give_up_turn}
use Rattle.cluster_documents.proofs.Primaries.{others_apart}

module _ {D : Type 0} where
  -- what such a primary is
  pub given_up_is : (p q : PrimaryParts D) → KeepsPoint p q → q.publish ≡ None → q ≡ record p { dir = q.dir; files = q.files; publish = None }
  given_up_is p q keeps none = keeps ∙ ap (λ (o : Option Publish). record p { dir = q.dir; files = q.files; publish = o }) none

module _ {D : Type 0} (cells : D → Cells) where
  -- ---- the primary

  given_up_primary : (log : Log) (at : At) (n : ℕ) (p : PrimaryParts D) (d : D) (f : Holdings) → publish_in_flight (printed log) ≡ Some at → IsPrimary cells (record p { dir = d; files = f; publish = None })
      → PrimaryShows cells log n p → PrimaryShows cells (shown at (Refused DiskFault) ∷ log) n (record p { dir = d; files = f; publish = None })
  given_up_primary log at n p d f flight whole was = record {
    running = was.running;
    primary = was.primary;
    whole = whole;
    point = record { version = was.point.version; stands = record { known = was.point.stands.known; documents = was.point.stands.documents } };
    writer = record {
      documents = was.writer.documents;
      generation = was.writer.generation;
      version = was.writer.version;
      counter = was.writer.counter;
      few = was.writer.few;
      live = was.writer.live;
    };
    waiting = was.waiting;
    accepted = was.accepted;
    uncut = was.uncut;
    calm = was.calm;
    flight = subst (λ (o : Option At). FlightShows (shown at (Refused DiskFault) ∷ log) o None p.segs) (sym (ap (λ (o : Option At). without_at at o) flight ∙ ap (λ (b : Bool). if b then None else Some at) (same_at_self at))) refl;
  }

  given_up_place : (size : ℕ) (log : Log) (at : At) (n : ℕ) (p q : PrimaryParts D) (held : Vec HeldTicket Global) → IsLegalPast size (printed log) → KeepsRule size (printed log) at (Refused DiskFault) → publish_in_flight (printed log) ≡ Some at
      → KeepsPoint p q → q.publish ≡ None → IsPrimary cells q → PlaceShows cells log n (record { node = Primary p; held = held }) → PlaceShows cells (shown at (Refused DiskFault) ∷ log) n (record { node = Primary q; held = held })
  given_up_place size log at n p q held legal keeps flight point none whole was = record {
    node_shows = subst (λ (z : PrimaryParts D). PrimaryShows cells (shown at (Refused DiskFault) ∷ log) n z) (sym (given_up_is p q point none))
        (given_up_primary log at n p q.dir q.files flight (subst (λ (z : PrimaryParts D). IsPrimary cells z) (given_up_is p q point none) whole) was.node_shows);
    tickets = subst (λ (ts : List (Open Shown)). HoldsTickets (printed (shown at (Refused DiskFault) ∷ log)) n ts held.items) (sym (ap (λ (z : PrimaryParts D). z.searchers.tickets) point))
        (holds_same (printed log) (printed (shown at (Refused DiskFault) ∷ log)) n p.searchers.tickets held.items (lasts size (printed log) at (Refused DiskFault) legal keeps) (fewer (printed log) at (Refused DiskFault) n refl) was.tickets);
  }

  -- ---- its files

  primary_given : (source : Name → Content) (past : Past) (jobs : Out → ℕ) (p q : PrimaryParts D) → GivesUpFiles cells p q → q.states ≡ p.states → PrimaryFiles source cells past jobs p → PrimaryFiles source cells past jobs q
  primary_given source past jobs p q gives states was = record {
    held = record { each = λ name lasting counted. held name lasting counted (count_of p.files name) refl };
    unwritten = λ name undrawn. was.unwritten name (gives.drawn.each name undrawn);
    point = subst (λ (i : Infos). IsPastPoint source past i) (sym gives.point) was.point;
    generation = ap (λ (i : Infos). i.generation) gives.point ∙ (was.generation ∙ sym gives.generation);
    outs = λ s. subst (λ (ts : List Out). jobs s ≤ states_like s ts) (sym states) (was.outs s);
  }
    where
      held : (name : Name) → IsLasting name → 0 < count_of q.files name → (k : ℕ) → count_of p.files name ≡ k → (cells q.dir name).now ≡ source name
      held name lasting counted zero is = absurd (let none = gives.no_new.each name is in omega (arith, none, counted))
      held name lasting counted (suc k) is =
          let before : 0 < count_of p.files name = omega (arith, is) in
          gives.stays.held name before counted ∙ was.held.each name lasting before

  gives_up_files : (p q : PrimaryParts D) → KeepsPoint p q → HasSameCounts p q → KeepsHeldBytes cells p q → DrawsOnly p q → AppearsOnly (IsOwnFile p.infos (loose_of p)) (cells p.dir) (cells q.dir) → GivesUpFiles cells p q
  gives_up_files p q point counts stays drawn appears = record {
    stays = stays;
    no_new = record { each = λ name none. counts.each name ∙ none };
    drawn = drawn;
    appears = appears;
    commits = ap (λ (z : PrimaryParts D). z.commits) point;
    point = ap (λ (z : PrimaryParts D). z.point_infos) point;
    generation = ap (λ (z : PrimaryParts D). z.infos.generation) point;
  }

  gives_up_holds : (now : Past) (p q : PrimaryParts D) → KeepsPoint p q → q.publish ≡ None → HoldsFrom cells now (Primary p) (Primary q)
  gives_up_holds now p q point none = record {
    tickets = λ o held. inl (subst (λ (ts : List (Open Shown)). Contains ts o) (ap (λ (z : PrimaryParts D). z.searchers.tickets) point) held);
    loose = λ k held. inl (Contains-append_right (publish_loose p.publish) (rest_loose p) k
        (subst (λ (ns : List ℕ). Contains ns k) (ap (λ (f : Option Publish). publish_loose f ++ rest_loose q) none ∙ ap (λ (z : PrimaryParts D). rest_loose z) point) held));
  }

  -- the primary gave up files of its own
  pub files_given : (size : ℕ) (log now : Log) (old new : List (Option (NodePlace D))) (n : ℕ) (p q : PrimaryParts D) (held : Vec HeldTicket Global) → FilesLast → Grows (printed log) (printed now) → CarriesNoMore log now
      → HoldsFrom cells (printed now) (Primary p) (Primary q) → ((m : ℕ) → is_at (primary_of (printed log)) m ≡ false → SameJob log now m) → ((m : ℕ) → CommitsStay (printed log) (printed now) m)
      → MovesOne n (record { node = Primary q; held = held }) old new → IsNode size n → place_of old n ≡ Some (record { node = Primary p; held = held }) → GivesUpFiles cells p q → q.states ≡ p.states
      → Shows cells log size old → FilesShow cells log size old → FilesShow cells now size new
  files_given size log now old new n p q held lasting grows no_more holds same stay moves node there gives states shows files =
      let x : NodePlace D = record { node = Primary q; held = held } in
      let y : NodePlace D = record { node = Primary p; held = held } in
      let jobs : (s : Out) → jobs_like new s size ≡ jobs_like old s size = λ s. jobs_same old new s size (λ m low. wants_same n x y old new moves there refl m) in
      let fewer : (s : Out) → jobs_like new s size ≤ jobs_like old s size = λ s. (let is = jobs s in omega (arith, is)) in
      let mine = some_at (Both cells files.source log (λ s. jobs_like old s size) n) (place_of old n) y there (both_of cells log size old shows files n node) in
      let named = some_at (λ z. NamesShow cells (printed log) z.node) (place_of old n) y there (files.names n node) in
      let own = own_drawn cells (printed log) p lasting mine.0.node_shows.whole named in
      let steps : NodeSteps cells (printed now) (Primary p) (Primary q) = record {
        appears = record { each = λ name none there. inr (inr (inl (file_more (printed log) (printed now) name grows (own name (gives.appears.each name none there))))) };
        tickets = holds.tickets;
        loose = holds.loose;
      } in
      record {
        source = files.source;
        drawn = means_more files.source (printed log) (printed now) grows files.drawn;
        names = names_one cells size (printed log) (printed now) old new n x y grows moves node there steps files.names;
        each = one_each {P = Both cells files.source log (λ s. jobs_like old s size)} {Q = λ m z. NodeFiles files.source cells now (λ s. jobs_like new s size) m z.node} size n x old new moves (both_of cells log size old shows files)
            (λ m z node apart both. node_files cells files.source log now (λ s. jobs_like old s size) (λ s. jobs_like new s size) m z.node (stay m).points (λ r is. same m (replica_apart cells log m z.node r both.0.node_shows is)) fewer both.1)
            (primary_stays cells files.source (printed log) (printed now) (λ s. jobs_like old s size) (λ s. jobs_like new s size) q (stay n).points fewer (primary_given files.source (printed log) (λ s. jobs_like old s size) p q gives states mine.1));
        disks = disks_kept cells files.source files.source log now size old new (λ name bytes is. is) (disk_moved n x y old new moves there (disk_same p.commits q.commits gives.commits)) stay files.disks;
        carried = λ name bytes out. files.carried name bytes (no_more name bytes out);
      }

  -- ---- in the terms of a call

  module _ (r : Run) (ended : Bool) (b0 b1 b2 : Sheet) (old mid new : List (Option (NodePlace D))) (at : At) (n : NodeNo) (x : NodePlace D) (p q : PrimaryParts D) (held : Vec HeldTicket Global)
      {left : Rest} (view : record { ended = ended; nodes = b0.nodes; log = b0.log; rest = left } ≡ r) (running : r.ended ≡ false)
      (e1 : b1.log ≡ b0.log) (n1 : b1.nodes ≡ b0.nodes) (e2 : b2.log ≡ shown at (Refused DiskFault) ∷ b1.log) (n2 : b2.nodes ≡ b1.nodes) (legal : IsLegalPast b1.nodes (printed b1.log)) (turns : AreInTurn (printed b1.log))
      (rule : KeepsRule r.nodes (printed r.log) at (Refused DiskFault)) (flies : Flying (printed r.log) at) (flight : publish_in_flight (printed r.log) ≡ Some at) (node : IsNode r.nodes n.0) (primary : primary_of (printed r.log) ≡ Some n)
      (put : PutsBack cells old mid new n.0 (record { node = Primary q; held = held })) (there : place_of old n.0 ≡ Some x) (is : x ≡ record { node = Primary p; held = held })
      (point : KeepsPoint p q) (none : q.publish ≡ None) where
    pub given_up_path : (ended ≡ false → Shows cells b0.log b0.nodes old) → IsPrimary cells q → Shows cells b2.log b2.nodes new
    given_up_path shows whole =
        moved_at cells r ended b0 b1 b2 old mid new at (Refused DiskFault) n.0 (record { node = Primary q; held = held }) x view running shows e1 n1 e2 n2 legal turns rule
        (λ m apart here. absurd (true≢false (sym here ∙ others_apart (primary_of (printed r.log)) n m primary apart)))
        (λ m apart. refl) (λ m apart. refl) put node there
        (λ all order was. given_up_place r.nodes r.log at n.0 p q held all rule flight point none whole (subst (PlaceShows cells r.log n.0) is was))

    pub given_up_files : (ended ≡ false → Shows cells b0.log b0.nodes old) → (ended ≡ false → FilesShow cells b0.log b0.nodes old) → HasSameCounts p q → KeepsHeldBytes cells p q → DrawsOnly p q
        → AppearsOnly (IsOwnFile p.infos (loose_of p)) (cells p.dir) (cells q.dir) → FilesLast → FilesShow cells b2.log b2.nodes new
    given_up_files shows files counts stays drawn appears lasting =
        let b = before cells r ended b0 b1 view e1 n1 legal turns in
        let turn = give_up_turn (printed r.log) at flies in
        files_is cells (shown at (Refused DiskFault) ∷ r.log) b2.log r.nodes b2.nodes new (e2 ∙ ap (λ (l : Log). shown at (Refused DiskFault) ∷ l) b.log) (n2 ∙ b.size)
        (files_given r.nodes r.log (shown at (Refused DiskFault) ∷ r.log) old new n.0 p q held lasting (grows_shown r.nodes (printed r.log) at (Refused DiskFault) b.legal rule) (λ name bytes out. out)
        (gives_up_holds (printed (shown at (Refused DiskFault) ∷ r.log)) p q point none) (λ m other. same_shown r.nodes r.log at m b.legal b.turns other (Refused DiskFault) rule turn refl)
        (λ m. commits_shown (printed r.log) at m r.nodes (Refused DiskFault) b.legal b.turns rule turn refl (no_commit r.nodes (printed r.log) at b.legal b.turns (ap is_commit_line flies.entry) m))
        (put_one cells n.0 (record { node = Primary q; held = held }) old mid new put) node (there ∙ ap (λ (z : NodePlace D). Some z) is) (gives_up_files p q point counts stays drawn appears) (ap (λ (z : PrimaryParts D). z.states) point)
        (was cells r ended b0.nodes b0.log old view running shows) (files_was cells r ended b0.nodes b0.log old view running files))

    pub given_up_merges : (board : Board) → b1.cut ≡ b0.cut → b2.cut ≡ b1.cut → MergesStand b0.log b0.cut b0.nodes board old → MergesStand b2.log b2.cut b2.nodes board new
    given_up_merges board c1 c2 was =
        put_shown cells board r ended b0 b1 old mid new n.0 (record { node = Primary q; held = held }) (record { node = Primary p; held = held }) view e1 n1 c1 node put (there ∙ ap (λ (z : NodePlace D). Some z) is) refl
        (λ jobs count low. primary_keeps jobs count p q (ap (λ (z : PrimaryParts D). z.merges) point) (ap (λ (z : PrimaryParts D). z.has_cut_over) point) (ap (λ (z : PrimaryParts D). z.states) point) low) was b2 at (Refused DiskFault) e2 n2 c2 refl
