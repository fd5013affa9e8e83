-- A node that stays down, as its disk failed while it was to be reopened: all that is true of the cluster stays true.
use Rattle.std.proofs.Common.{◌≡◌, ◌≢◌, ◌==◌, ◌||◌, ◌&&◌, ◌⊎◌, inl, inr, ℕ, Bool, true, false, true≢false, List, [], ◌∷◌, Some, None, Option, nat_lt, if◌then◌else◌, refl, ap, ◌∙◌, sym, subst}
use Rattle.std.specs.Prelude.{IsSomeAnd, is_some}
use Rattle.nrt_base.specs.declared.numbers.At.{At}
use Rattle.nrt_base.specs.declared.numbers.NodeNo.{NodeNo}
use Rattle.nrt_base.specs.declared.numbers.Version.{Version}
use Rattle.disk_model.specs.Disk.{Name, Content, Cells, reads_of}
use Rattle.searcher_switch.specs.declared.open.Open.{Open}
use Rattle.seg_reader.specs.Shown.{Shown}
use Rattle.index_primary.specs.declared.states.Out.{Out}
use Rattle.replica_opening.specs.Opened.{IsHandedBack}
use Rattle.history_rules.specs.declared.cause.FaultKind.{FaultKind}
use Rattle.history_rules.specs.declared.cause.FaultKind.TheVariants.{Disk, Stop}
use Rattle.history_rules.specs.declared.cause.Cause.TheVariants.{DiskFault}
use Rattle.history_rules.specs.declared.entry.Event.{Event}
use Rattle.history_rules.specs.declared.entry.Event.TheVariants.{Publishing, Refused}
use Rattle.history_rules.specs.Nodes.{Past, IsNode, is_running}
use Rattle.history_rules.specs.Lines.{same_at, start_entry, last_of_line, is_answered}
use Rattle.history_rules.specs.Faults.{is_planned, has_met_fault}
use Rattle.history_rules.specs.Rules.{MayRefuseLine}
use Rattle.history_rules.specs.Legal.{KeepsRule, IsLegalPast}
use Rattle.history_rules.proofs.FaultLaws.{both}
use Rattle.history_tables.proofs.RowLemmas.{same_at_self}
use Rattle.history_book.specs.Laws.{IsFresh}
use Rattle.history_book.specs.Log.{Log, printed, shown}
use Rattle.history_book.specs.Turns.{InTurn, AreInTurn}
use Rattle.merge_tasks.specs.Merging.{Sheet}
use Rattle.merge_tasks.specs.Board.{Board}
use Rattle.merge_tasks.proofs.TaskFrames.{tasks_still}
use Rattle.cluster_nodes.specs.declared.nodes.Node.{Node}
use Rattle.cluster_nodes.specs.declared.nodes.Node.TheVariants.{Primary, Replica, Down}
use Rattle.cluster_nodes.specs.declared.nodes.NodePlace.{NodePlace}
use Rattle.cluster_nodes.specs.declared.went.Went.{Went}
use Rattle.cluster_nodes.specs.declared.went.Went.TheVariants.{Done, Failed}
use Rattle.cluster_nodes.specs.Went.{ByWent}
use Rattle.cluster_nodes.specs.Places.{Disk as NodeDisk, place_of, disk_of, disk_at, dir_of, tickets_of, IsSlot}
use Rattle.cluster_nodes.specs.Outs.{want_at, jobs_like}
use Rattle.cluster_nodes.specs.Lives.{ReopensIn, StaysDownIn}
use Rattle.cluster_nodes.proofs.OutCounts.{jobs_same}
use Rattle.cluster_state.specs.Run.{Rest, Run}
use Rattle.cluster_state.specs.State.{NodeShows, PlaceShows, Shows, HoldsTickets}
use Rattle.cluster_state.specs.Files.{NodeFiles, FilesShow}
use Rattle.cluster_state.specs.Names.{NamesShow}
use Rattle.cluster_state.specs.Disks.{DirShows, DiskShows, DisksShow}
use Rattle.cluster_state.specs.Merging.{KeepsMerges, MergesStand}
use Rattle.cluster_state.specs.Met.{fault_on, fault_if, ClusterStands}
use Rattle.cluster_state.specs.Lives.{met_at}
use Rattle.cluster_state.proofs.Disks.{fresh_flights, commits_shown}
use Rattle.cluster_state.proofs.Drawn.{grows_shown}
use Rattle.cluster_state.proofs.Faulted.{met_has, faulted}
use Rattle.cluster_state.proofs.FileFrames.{one_each, wants_same, files_still}
use Rattle.cluster_state.proofs.Frames.{some_at, slot_kept, start_back, shows_still}
use Rattle.cluster_state.proofs.Growing.{same, fewer, not_flying}
use Rattle.cluster_state.proofs.JobFrames.{same_shown}
use Rattle.cluster_state.proofs.MergingStill.{stand_moved, all_keep, one_keeps}
use Rattle.cluster_state.proofs.Turning.{later_turn}

-- ---- the line

pub or_holds : {c : Bool} (b : Bool) → c ≡ true → (b || c) ≡ true
or_holds true is = refl
or_holds false is = is

-- what is planned of a stop stands behind a fault of one call
kept_on : (b : Bool) (at : At) (n : ℕ) (log : Log) → is_planned n Stop (printed (fault_on b false at n Disk log)) ≡ is_planned n Stop (printed log)
kept_on true at n log = neither (n == n) (is_planned n Stop (printed log))
  where
    neither : (b c : Bool) → (if b && false then c else c) ≡ c
    neither true c = refl
    neither false c = refl
kept_on false at n log = refl

-- the line has come no farther, and has no reply
last_on : (b : Bool) (at : At) (n : ℕ) (log : Log) → last_of_line at (printed (fault_on b false at n Disk log)) ≡ last_of_line at (printed log)
last_on true at n log = both (same_at at at) (last_of_line at (printed log))
last_on false at n log = refl

answer_on : (b : Bool) (at : At) (n : ℕ) (log : Log) → is_answered at (printed (fault_on b false at n Disk log)) ≡ is_answered at (printed log)
answer_on true at n log = refl
answer_on false at n log = refl

module _ (at : At) (n a b : ℕ) (log new : Log) (is : new ≡ fault_if false at n Disk a b log) where
  pub still_unanswered : is_answered at (printed log) ≡ false → is_answered at (printed new) ≡ false
  still_unanswered was = ap (λ (l : Log). is_answered at (printed l)) is ∙ (answer_on (nat_lt a b) at n log ∙ was)

  pub still_first : last_of_line at (printed log) ≡ None → last_of_line at (printed new) ≡ None
  still_first was = ap (λ (l : Log). last_of_line at (printed l)) is ∙ (last_on (nat_lt a b) at n log ∙ was)

pub stop_stands : (at : At) (n a b before now : ℕ) (log new : Log) → new ≡ fault_if false at n Disk a b log → (nat_lt before now ≡ true → is_planned n Stop (printed log) ≡ true) → nat_lt before now ≡ true → is_planned n Stop (printed new) ≡ true
stop_stands at n a b before now log new is planned rose = ap (λ (l : Log). is_planned n Stop (printed l)) is ∙ (kept_on (nat_lt a b) at n log ∙ planned rose)

-- the line has met a fault
fault_met : (at : At) (n : ℕ) (kind : FaultKind) (b : Bool) (log : Log) → b ≡ true ⊎ (has_met_fault at (printed log) ≡ true) → has_met_fault at (printed (fault_on b false at n kind log)) ≡ true
fault_met at n kind true log some = ap (λ (b : Bool). b || has_met_fault at (printed log)) (same_at_self at)
fault_met at n kind false log (inl none) = absurd (true≢false (sym none))
fault_met at n kind false log (inr was) = was

met_fault : (at : At) (n : ℕ) (o w : ℕ × ℕ) (log : Log) → (nat_lt o.0 w.0 || nat_lt o.1 w.1) ≡ true → has_met_fault at (printed (met_at at n o w log)) ≡ true
met_fault at n o w log some = fault_met at n Stop (nat_lt o.1 w.1) (fault_if false at n Disk o.0 w.0 log) (by (nat_lt o.0 w.0) (nat_lt o.1 w.1) some)
  where
    by : (a b : Bool) → (a || b) ≡ true → (b ≡ true) ⊎ (has_met_fault at (printed (fault_on a false at n Disk log)) ≡ true)
    by true b is = inr (fault_met at n Disk true log (inl refl))
    by false b is = inl is

pub still_unbegun : (at : At) (n : ℕ) (o w : ℕ × ℕ) (log : Log) → start_entry at (printed log) ≡ None → start_entry at (printed (met_at at n o w log)) ≡ None
still_unbegun at n o w log was = met_has (λ l. start_entry at (printed l) ≡ None) false at (λ m kind l is. is) n (o ∷ []) (w ∷ []) log was

-- so it may be refused for it, as it began nothing
pub down_rule : (size later : ℕ) (at : At) (n : ℕ) (o w : ℕ × ℕ) (log now : Log) → now ≡ met_at at n o w log → start_entry at (printed log) ≡ None → (nat_lt o.0 w.0 || nat_lt o.1 w.1) ≡ true → KeepsRule later (printed now) at (Refused DiskFault)
down_rule size later at n o w log now is begun some =
    subst (λ (l : Log). KeepsRule later (printed l) at (Refused DiskFault)) (sym is)
    (subst (λ (e : Option Event). MayRefuseLine later (printed (met_at at n o w log)) at e DiskFault) (sym (still_unbegun at n o w log begun)) (sym (met_fault at n o w log some)))

pub down_turn : (at : At) (n : ℕ) (o w : ℕ × ℕ) (log now : Log) → now ≡ met_at at n o w log → start_entry at (printed log) ≡ None → InTurn (printed now) at (Refused DiskFault)
down_turn at n o w log now is begun =
    subst (λ (l : Log). InTurn (printed l) at (Refused DiskFault)) (sym is) (later_turn (printed (met_at at n o w log)) at (Refused DiskFault) refl (inl (still_unbegun at n o w log begun)))

-- ---- how a call went

module _ {T : Type 0} (P : T → Type 0) (Q : Type 0) (w : Went T) where
  pub went_done : (x : T) → w ≡ Done x → ByWent P Q w → P x
  went_done x is told = subst (ByWent P Q) is told

  pub went_failed : w ≡ Failed → ByWent P Q w → Q
  went_failed is told = subst (ByWent P Q) is told

-- the node's place is there as before
pub slot_after : {D : Type 0} (cells : D → Cells) (faults : D → ℕ) (n : ℕ) (old new : List (Option (NodePlace D))) (w : Went Version) → ByWent (λ v. ReopensIn cells n v old new) (StaysDownIn cells faults n old new) w → IsSlot old n → IsSlot new n
slot_after cells faults n old new (Done v) told slot = slot_kept cells old new n told.moves.count slot
slot_after cells faults n old new Failed told slot = slot_kept cells old new n told.moves.count slot

-- ---- the node

module _ {D : Type 0} (cells : D → Cells) where
  -- a directory that was handed back shows what it showed
  dir_again : (source : Name → Content) (past : Past) (n : ℕ) (dir again : D) → IsHandedBack (cells dir) (cells again) → DirShows source cells past n dir → DirShows source cells past n again
  dir_again source past n dir again back was = record {
    settled = back.settled was.settled;
    number = was.number;
    infos = was.infos;
    finds = back.shown was.number was.infos was.finds;
    point = was.point;
    sourced = λ q named.
        let same : reads_of (cells again) q ≡ reads_of (cells dir) q = back.files was.number was.infos was.finds q named in
        let there = was.sourced q named in (same ∙ there.0, ap is_some same ∙ there.1);
    has = was.has;
  }

  module _ (faults : D → ℕ) (size : ℕ) (log : Log) (n : ℕ) (old new : List (Option (NodePlace D))) (b : StaysDownIn cells faults n old new) (node : IsNode size n) (down : is_running n (printed log) ≡ false) where
    abbrev there : NodePlace D
    there = record { node = Down b.dir; held = b.place.held }

    -- it is down, as it was
    pub record IsDown (source : Name → Content) (x : Node D) : Type 0 where
      pub shows : NodeShows cells log n (Down b.dir)
      pub tickets : tickets_of x ≡ []
      pub want : want_at (Some there) ≡ want_at (Some (record { node = x; held = b.place.held }))
      pub keeps : (jobs count : Out → ℕ) → KeepsMerges jobs count x (Down b.dir)
      pub dir : DiskShows source cells (printed log) n (disk_of x) → DirShows source cells (printed log) n (dir_of x)

    is_down : (source : Name → Content) (x : Node D) → NodeShows cells log n x → IsDown source x
    is_down source (Primary p) is = absurd (true≢false (sym is.running ∙ down))
    is_down source (Replica r) is = absurd (true≢false (sym is.running ∙ down))
    is_down source (Down d) is = record { shows = record { down = is.down; other = is.other }; tickets = refl; want = refl; keeps = λ jobs count. tt; dir = λ disk. disk.dir }

    module _ (shows : Shows cells log size old) where
      place_was : PlaceShows cells log n b.place
      place_was = some_at (PlaceShows cells log n) (place_of old n) b.place b.there (shows.each n node)

      pub down_shows : Shows cells log size new
      down_shows = record {
        some = shows.some;
        count = b.moves.count ∙ shows.count;
        each = one_each {P = PlaceShows cells log} {Q = PlaceShows cells log} size n there old new b.moves shows.each (λ m z here apart has. has) (record {
          node_shows = (is_down (λ q. None) b.place.node place_was.node_shows).shows;
          tickets = subst (λ (l : List (Open Shown)). HoldsTickets (printed log) n l b.place.held.items) (is_down (λ q. None) b.place.node place_was.node_shows).tickets place_was.tickets;
        });
        handed = shows.handed;
      }

      module _ (files : FilesShow cells log size old) where
        d : IsDown files.source b.place.node
        d = is_down files.source b.place.node place_was.node_shows

        same_count : (s : Out) → jobs_like new s size ≡ jobs_like old s size
        same_count s = jobs_same old new s size (λ m low. wants_same n there b.place old new b.moves b.there d.want m)

        disk_some : (P : NodeDisk D → Type 0) (o : Option (NodePlace D)) → IsSomeAnd (disk_at o) P → IsSomeAnd o (λ z. P (disk_of z.node))
        disk_some P None is = is
        disk_some P (Some z) is = is

        some_disk : (P : NodeDisk D → Type 0) (o : Option (NodePlace D)) → IsSomeAnd o (λ z. P (disk_of z.node)) → IsSomeAnd (disk_at o) P
        some_disk P None is = is
        some_disk P (Some z) is = is

        disk_was : DiskShows files.source cells (printed log) n (disk_of b.place.node)
        disk_was = some_at (λ z. DiskShows files.source cells (printed log) n (disk_of z.node)) (place_of old n) b.place b.there (disk_some (DiskShows files.source cells (printed log) n) (place_of old n) (files.disks n node))

        disks_now : DisksShow files.source cells log size new
        disks_now m slot = some_disk (DiskShows files.source cells (printed log) m) (place_of new m)
            (one_each {P = λ k z. DiskShows files.source cells (printed log) k (disk_of z.node)} {Q = λ k z. DiskShows files.source cells (printed log) k (disk_of z.node)} size n there old new b.moves
            (λ k here. disk_some (DiskShows files.source cells (printed log) k) (place_of old k) (files.disks k here)) (λ k z here apart has. has)
            (record { book = tt; dir = dir_again files.source (printed log) n (dir_of b.place.node) b.dir b.back (d.dir disk_was) }) m slot)

        pub down_files : FilesShow cells log size new
        down_files = record {
          source = files.source;
          drawn = files.drawn;
          names = one_each {P = λ k z. NamesShow cells (printed log) z.node} {Q = λ k z. NamesShow cells (printed log) z.node} size n there old new b.moves files.names (λ k z here apart has. has) tt;
          each = subst (λ (count : Out → ℕ). (m : ℕ) → IsNode size m → IsSomeAnd (place_of new m) (λ z. NodeFiles files.source cells log count m z.node)) (λ i s. sym (same_count s) i)
              (one_each {P = λ m z. NodeFiles files.source cells log (λ s. jobs_like old s size) m z.node} {Q = λ m z. NodeFiles files.source cells log (λ s. jobs_like old s size) m z.node} size n there old new b.moves files.each (λ m z here apart has. has) tt);
          disks = disks_now;
          carried = files.carried;
        }

      pub down_merges : (cut : Bool) (board : Board) → MergesStand log cut size board old → MergesStand log cut size board new
      down_merges cut board stand =
          let d = is_down (λ q. None) b.place.node place_was.node_shows in
          stand_moved log log cut size board old new (λ seg inputs is. is) stand.tasks (λ none. none)
          (one_keeps size board log cut old new n there b.place b.moves node b.there d.want (λ jobs count low. d.keeps jobs count) stand) stand

    pub down_stands : (cut : Bool) (board : Board) → ClusterStands cells size old cut board log → ClusterStands cells size new cut board log
    down_stands cut board all = (down_shows all.0, down_files all.0 all.1, down_merges all.0 cut board all.2)

-- ---- the cluster, behind the line's refusal

module _ {D : Type 0} (cells : D → Cells) (size : ℕ) (places : List (Option (NodePlace D))) (cut : Bool) (board : Board) where
  -- a line that began nothing was refused: no node is moved
  refused : (log : Log) (at : At) → IsLegalPast size (printed log) → AreInTurn (printed log) → start_entry at (printed log) ≡ None → KeepsRule size (printed log) at (Refused DiskFault) → InTurn (printed log) at (Refused DiskFault)
      → ClusterStands cells size places cut board log → ClusterStands cells size places cut board (shown at (Refused DiskFault) ∷ log)
  refused log at legal turns begun rule turn all = (
    shows_still cells size log (shown at (Refused DiskFault) ∷ log) places
        (λ m. same size m (printed log) at (Refused DiskFault) legal turns rule (λ here. not_flying size (printed log) at legal turns not_publishing) refl)
        (λ m. fewer (printed log) at (Refused DiskFault) m refl) (λ a h is. is) (λ a none. all.0.handed a (start_back a (record { at = at; event = Refused DiskFault }) (printed log) none)) all.0,
    files_still cells size log (shown at (Refused DiskFault) ∷ log) places (grows_shown size (printed log) at (Refused DiskFault) legal rule) (λ q bytes out. out)
        (λ m other. same_shown size log at m legal turns other (Refused DiskFault) rule turn refl)
        (λ m. commits_shown (printed log) at m size (Refused DiskFault) legal turns rule turn refl (fresh_flights size (printed log) at legal turns begun m)) all.0 all.1,
    stand_moved log (shown at (Refused DiskFault) ∷ log) cut size board places places (λ seg inputs is. is) (tasks_still size log board at (Refused DiskFault) refl all.2.tasks) (λ none. none)
        (all_keep size board log cut places all.2) all.2,
  )
    where
      not_publishing : start_entry at (printed log) ≢ Some Publishing
      not_publishing is = absurd (let both : None ≡ Some Publishing = sym begun ∙ is in cc)

module _ {D : Type 0} (cells : D → Cells) (faults : D → ℕ) (r : Run) (ended : Bool) (b0 b1 b2 : Sheet) (old new : List (Option (NodePlace D))) (board : Board) (at : At) (n : NodeNo) (before now : ℕ × ℕ)
    {left : Rest} (view : record { ended = ended; nodes = b0.nodes; log = b0.log; rest = left } ≡ r) (running : r.ended ≡ false) (all : ended ≡ false → ClusterStands cells b0.nodes old b0.cut board b0.log) where
  -- the line was refused for what the node's disk met, and the node stays down
  pub stays_path : b1.log ≡ b0.log → b1.nodes ≡ b0.nodes → b1.cut ≡ b0.cut → b2.log ≡ shown at (Refused DiskFault) ∷ met_at at n.0 before now b1.log → b2.nodes ≡ b1.nodes → b2.cut ≡ b1.cut
      → IsLegalPast b1.nodes (printed (met_at at n.0 before now b1.log)) → AreInTurn (printed (met_at at n.0 before now b1.log)) → KeepsRule b1.nodes (printed (met_at at n.0 before now b1.log)) at (Refused DiskFault)
      → InTurn (printed (met_at at n.0 before now b1.log)) at (Refused DiskFault) → IsFresh at (printed b1.log) → IsNode b1.nodes n.0 → is_running n.0 (printed b1.log) ≡ false → StaysDownIn cells faults n.0 old new → ClusterStands cells b2.nodes new b2.cut board b2.log
  stays_path e1 n1 c1 e2 n2 c2 legal turns rule turn fresh node down stays =
      let met : Log = met_at at n.0 before now b1.log in
      let stood : ClusterStands cells b1.nodes old b1.cut board b1.log = subst (λ (z : ℕ × (Bool × Log)). ClusterStands cells z.0 old z.1.0 board z.1.1) (λ i. (sym n1 i, (sym c1 i, sym e1 i))) (all (ap (λ (x : Run). x.ended) view ∙ running)) in
      let behind = faulted cells b1.nodes old b1.cut board false at n.0 (before ∷ []) (now ∷ []) b1.log stood in
      let told = refused cells b1.nodes old b1.cut board met at legal turns (still_unbegun at n.0 before now b1.log fresh.begun) rule turn behind in
      let off : is_running n.0 (printed met) ≡ false = met_has (λ l. is_running n.0 (printed l) ≡ false) false at (λ m kind l is. is) n.0 (before ∷ []) (now ∷ []) b1.log down in
      subst (λ (z : ℕ × (Bool × Log)). ClusterStands cells z.0 new z.1.0 board z.1.1) (λ i. (sym n2 i, (sym c2 i, sym e2 i)))
      (down_stands cells faults b1.nodes (shown at (Refused DiskFault) ∷ met) n.0 old new stays node off b1.cut board told)
