-- What is true of a cluster, over the calls and the entries of commits.
use Rattle.std.proofs.Common.{◌≡◌, ◌≢◌, ◌==◌, ◌||◌, inr, ℕ, Bool, true, false, true≢false, List, ◌∷◌, Some, None, Option, refl, ap, ◌∙◌, sym, subst, length}
use Rattle.std.specs.Prelude.{not, IsSome, IsSomeAnd}
use Rattle.std.proofs.lemmas.Bool.{eq-eqb}
use Rattle.nrt_base.specs.declared.numbers.At.{At}
use Rattle.nrt_base.specs.declared.numbers.NodeNo.{NodeNo}
use Rattle.nrt_base.specs.declared.numbers.Version.{Version}
use Rattle.disk_model.specs.Disk.{Cells}
use Rattle.commit_steps.specs.declared.stage.Stage.{Stage}
use Rattle.commit_steps.specs.declared.stage.CommitBook.{CommitBook}
use Rattle.commit_steps.specs.Book.{HasBegun}
use Rattle.history_rules.specs.declared.cause.Cause.TheVariants.{DiskFault}
use Rattle.history_rules.specs.declared.entry.Event.{Event}
use Rattle.history_rules.specs.declared.entry.Event.TheVariants.{Publishing, Committing, Committed, Refused}
use Rattle.history_rules.specs.Nodes.{Past, IsNode, version_of, crashes, is_running}
use Rattle.history_rules.specs.Lines.{start_entry, before_start, commit_in_flight, is_free_for}
use Rattle.history_rules.specs.Started.{is_node_of, is_source_of}
use Rattle.history_rules.specs.Commits.{is_stuck}
use Rattle.history_rules.specs.Faults.{has_fault, fails_now, is_of_disk}
use Rattle.history_rules.specs.Rules.{MayRefuseLine}
use Rattle.history_rules.specs.Legal.{KeepsRule, IsLegalPast}
use Rattle.history_book.specs.Laws.{IsFresh, may_find}
use Rattle.history_book.specs.Log.{Log, printed, shown}
use Rattle.history_book.specs.Turns.{InTurn, AreInTurn}
use Rattle.history_book.proofs.FoundLaws.{commit_found}
use Rattle.history_book.proofs.CommitLaws.{commit_flies}
use Rattle.merge_tasks.specs.Board.{Board}
use Rattle.merge_tasks.specs.Merging.{Sheet}
use Rattle.cluster_nodes.specs.declared.nodes.Node.{Node}
use Rattle.cluster_nodes.specs.declared.nodes.Node.TheVariants.{Primary, Replica, Down}
use Rattle.cluster_nodes.specs.declared.nodes.NodePlace.{NodePlace}
use Rattle.cluster_nodes.specs.Commits.{KeepsBook, StepsBook, CommitsIn, HasStage, HasStageAt}
use Rattle.cluster_nodes.specs.Places.{place_of, disk_of, disk_at}
use Rattle.cluster_nodes.specs.declared.went.Went.{Went}
use Rattle.cluster_nodes.specs.declared.went.Went.TheVariants.{Done as Given, Failed as Broken}
use Rattle.cluster_state.specs.Run.{Run}
use Rattle.cluster_state.specs.Lives.{StepsCommit}
use Rattle.cluster_state.specs.LifeCalls.{CommitSteps}
use Rattle.cluster_state.proofs.LifeRows.{commit_done, commit_goes_on, commit_stops}
use Rattle.cluster_state.specs.Disks.{StageShows, BookShows, DiskShows}
use Rattle.cluster_state.specs.Files.{FilesShow}
use Rattle.cluster_state.specs.Met.{with_met, has_risen, ClusterStands}
use Rattle.cluster_state.proofs.Disks.{fresh_flights}
use Rattle.cluster_state.proofs.Faulted.{met_has}
use Rattle.cluster_state.proofs.MetFails.{fails_behind}
use Rattle.cluster_state.proofs.Planned.{HasMet, met_there}
use Rattle.cluster_state.proofs.Turning.{fresh_turn, fresh_line, later_turn}
use Rattle.cluster_recovery.specs.declared.commits.Called.{Called}
use Rattle.cluster_recovery.specs.declared.commits.Called.TheVariants.{Goes, Carried, Made, Failed}
use Rattle.cluster_recovery.specs.Commits.{CarriesIn, CallsFor, turned}
use Rattle.cluster_recovery.proofs.Committing.{StaysStopped, MakesBook, book_goes, book_carried, book_owns, book_begins, book_carries, book_stops, book_made, quiet_stands, entry_stands}
use Rattle.cluster_recovery.proofs.CommitMerges.{commit_stands, commit_shown}

-- ---- what the line knows

-- the line started as this commit, which is in flight
pub record HasCommit (at : At) (n : NodeNo) (v : Version) (past : Past) : Type 0 where
  pub flight : commit_in_flight n.0 past ≡ Some at
  pub started : start_entry at past ≡ Some (Committing n v)

module _ (size : ℕ) (past : Past) (at : At) (n : NodeNo) (v : Version) (has : HasCommit at n v past) where
  -- it is no publish
  no_publish : start_entry at past ≢ Some Publishing
  no_publish is = absurd (let both : Some (Committing n v) ≡ Some Publishing = sym has.started ∙ is in cc)

  -- and has a commit in flight nowhere else
  elsewhere : IsLegalPast size past → AreInTurn past → (m : ℕ) → (n.0 == m) ≡ false → commit_in_flight m past ≢ Some at
  elsewhere legal turns m apart flies =
      let found = commit_found size past (record { 0 = m }) at legal turns flies in
      true≢false (sym (eq-eqb n.0 m (at_node found.version (sym has.started ∙ found.entry))) ∙ apart)
    where
      at_node : (w : Version) → Some (Committing n v) ≡ Some (Committing (record { 0 = m }) w) → n.0 ≡ m
      at_node w both = let is : n ≡ record { 0 = m } = cc in ap (λ (k : NodeNo). k.0) is

or_false : (b : Bool) → (b || false) ≡ b
or_false true = refl
or_false false = refl

module _ (size : ℕ) (past : Past) (at : At) (n : NodeNo) (legal : IsLegalPast size past) (turns : AreInTurn past) (flight : commit_in_flight n.0 past ≡ Some at) where
  -- a line that met a fault of its node's disk may be refused for it
  may_stop : has_fault (λ m. n.0 == m) is_of_disk at past ≡ true → fails_now at past ≡ true → KeepsRule size past at (Refused DiskFault)
  may_stop met fails =
      let found = commit_found size past n at legal turns flight in
      let flies = commit_flies size past n at legal turns flight in
      subst (λ (o : Option Event). MayRefuseLine size past at o DiskFault) (sym found.entry) (record {
        lost = ap not (sym (eq-eqb (crashes n.0 past) (crashes n.0 (before_start at past)) flies.alive));
        met = λ apart. (subst (λ (node : ℕ → Bool). has_fault node is_of_disk at past ≡ true) (same found.version) met, fails);
        unswitched = refl;
      })
    where
      same : (w : Version) → ◌≡◌ {A = ℕ → Bool} (λ m. n.0 == m) (λ m. is_node_of size (before_start at past) (Committing n w) m || is_source_of (before_start at past) (Committing n w) m)
      same w = λ i m. sym (or_false (n.0 == m)) i

  -- and comes in its turn
  stop_turn : InTurn past at (Refused DiskFault)
  stop_turn = later_turn past at (Refused DiskFault) refl (inr (commit_flies size past n at legal turns flight).is_open)

module _ (at : At) (olds news : List (ℕ × ℕ)) (log : Log) where
  -- behind the faults that were met all is known as before
  pub met_commit : (n : NodeNo) (v : Version) → HasCommit at n v (printed log) → HasCommit at n v (printed (with_met false at 1 olds news log))
  met_commit n v was = met_has (λ l. HasCommit at n v (printed l)) false at (λ m kind l is. record { flight = is.flight; started = is.started }) 1 olds news log was

  pub met_flies : (n : ℕ) → commit_in_flight n (printed log) ≡ Some at → commit_in_flight n (printed (with_met false at 1 olds news log)) ≡ Some at
  met_flies n was = met_has (λ l. commit_in_flight n (printed l) ≡ Some at) false at (λ m kind l is. is) 1 olds news log was

  pub met_stuck : (n : ℕ) → is_stuck n (printed log) ≡ true → is_stuck n (printed (with_met false at 1 olds news log)) ≡ true
  met_stuck n was = met_has (λ l. is_stuck n (printed l) ≡ true) false at (λ m kind l is. is) 1 olds news log was

  pub met_found : (n : ℕ) → may_find n (version_of n (printed log)) (printed log) ≡ true → may_find n (version_of n (printed (with_met false at 1 olds news log))) (printed (with_met false at 1 olds news log)) ≡ true
  met_found n was = met_has (λ l. may_find n (version_of n (printed l)) (printed l) ≡ true) false at (λ m kind l is. is) 1 olds news log was

  -- so may the line be refused there, in the terms of a call
  pub stops_behind : (n : NodeNo) (now : Log) (size : ℕ) → now ≡ with_met false at 1 olds news log → IsLegalPast size (printed now) → AreInTurn (printed now) → commit_in_flight n.0 (printed log) ≡ Some at
      → has_risen n.0 1 olds news ≡ true → KeepsRule size (printed now) at (Refused DiskFault) × InTurn (printed now) at (Refused DiskFault)
  stops_behind n now size is legal turns flight risen =
      let flies : commit_in_flight n.0 (printed now) ≡ Some at = subst (λ (l : Log). commit_in_flight n.0 (printed l) ≡ Some at) (sym is) (met_flies n.0 flight) in (
        may_stop size (printed now) at n legal turns flies (subst (λ (l : Log). HasMet at n.0 l) (sym is) (met_there at n.0 1 olds news log risen))
            (subst (λ (l : Log). fails_now at (printed l) ≡ true) (sym is) (fails_behind at n.0 olds news log risen)),
        stop_turn size (printed now) at n legal turns flies,
      )

-- ---- over the calls

module _ {D : Type 0} (cells : D → Cells) (b : Sheet) (board : Board) (old new : List (Option (NodePlace D))) (n : NodeNo) (node : IsNode b.nodes n.0) (all : ClusterStands cells b.nodes old b.cut board b.log) where
  -- a call that is not the last
  pub goes_stand : (at : At) → CommitsIn (StepsBook false) cells n.0 old new → ClusterStands cells b.nodes new b.cut board b.log
  goes_stand at c =
      let both = quiet_stands cells (StepsBook false) b.nodes b.log old new n.0 c node all.0 all.1 (λ infos x y point is steps has. book_goes all.1.source (printed b.log) at n infos x y steps has) in
      (both.0, both.1, commit_stands cells (StepsBook false) b.nodes b.log b.cut board old new n.0 node c all.2)

  -- the last one for a commit that was stopped
  carried_stand : (at : At) → commit_in_flight n.0 (printed b.log) ≡ Some at → is_stuck n.0 (printed b.log) ≡ true → CommitsIn (StepsBook true) cells n.0 old new → ClusterStands cells b.nodes new b.cut board b.log
  carried_stand at flight stuck c =
      let both = quiet_stands cells (StepsBook true) b.nodes b.log old new n.0 c node all.0 all.1 (λ infos x y point is steps has. book_carried all.1.source (printed b.log) at n flight stuck infos x y steps has) in
      (both.0, both.1, commit_stands cells (StepsBook true) b.nodes b.log b.cut board old new n.0 node c all.2)

  -- the line's own begins
  owns_stand : (at : At) → commit_in_flight n.0 (printed b.log) ≡ Some at → is_stuck n.0 (printed b.log) ≡ true → may_find n.0 (version_of n.0 (printed b.log)) (printed b.log) ≡ true → CommitsIn HasBegun cells n.0 old new
      → ClusterStands cells b.nodes new b.cut board b.log
  owns_stand at flight stuck found c =
      let both = quiet_stands cells HasBegun b.nodes b.log old new n.0 c node all.0 all.1 (λ infos x y point is begins has. book_owns all.1.source (printed b.log) at n flight stuck found infos x y point is begins has) in
      (both.0, both.1, commit_stands cells HasBegun b.nodes b.log b.cut board old new n.0 node c all.2)

  module _ (at : At) (legal : IsLegalPast b.nodes (printed b.log)) (turns : AreInTurn (printed b.log)) where
    -- a commit begins
    module _ (v : Version) (fresh : IsFresh at (printed b.log)) (rule : KeepsRule b.nodes (printed b.log) at (Committing n v)) where
      pub begins_stand : v.0 ≡ version_of n.0 (printed b.log) → CommitsIn HasBegun cells n.0 old new → ClusterStands cells b.nodes new b.cut board (shown at (Committing n v) ∷ b.log)
      begins_stand version c =
          let both = entry_stands cells HasBegun b.nodes b.log old new n.0 c node all.0 all.1 at (Committing n v) legal turns rule (fresh_turn (printed b.log) at (Committing n v) fresh tt) (fresh_line (printed b.log) at fresh)
          (λ m apart. fresh_flights b.nodes (printed b.log) at legal turns fresh.begun m) (λ m. refl) (λ m. refl) (λ m. refl) (λ m apart. ap not apart)
          (λ infos x y point is begins has. book_begins all.1.source b.nodes (printed b.log) at n v legal rule infos x y point (is ∙ sym version) begins has) in
          (both.0, both.1, commit_shown cells HasBegun b.nodes b.log b.cut board old new n.0 node c all.2 at (Committing n v) refl)

      -- or one that was stopped is carried first
      pub carries_stand : commit_in_flight n.0 (printed b.log) ≡ None → CommitsIn StaysStopped cells n.0 old new → ClusterStands cells b.nodes new b.cut board (shown at (Committing n v) ∷ b.log)
      carries_stand none c =
          let both = entry_stands cells StaysStopped b.nodes b.log old new n.0 c node all.0 all.1 at (Committing n v) legal turns rule (fresh_turn (printed b.log) at (Committing n v) fresh tt) (fresh_line (printed b.log) at fresh)
          (λ m apart. fresh_flights b.nodes (printed b.log) at legal turns fresh.begun m) (λ m. refl) (λ m. refl) (λ m. refl) (λ m apart. ap not apart)
          (λ infos x y point is stays has. book_carries all.1.source b.nodes (printed b.log) at n v legal rule none infos x y stays has) in
          (both.0, both.1, commit_shown cells StaysStopped b.nodes b.log b.cut board old new n.0 node c all.2 at (Committing n v) refl)

    -- one is made, for this version
    module _ (v : Version) (has : HasCommit at n v (printed b.log)) where
      pub made_stand : (w : Version) → KeepsRule b.nodes (printed b.log) at (Committed n w) → InTurn (printed b.log) at (Committed n w) → CommitsIn (MakesBook w) cells n.0 old new → ClusterStands cells b.nodes new b.cut board (shown at (Committed n w) ∷ b.log)
      made_stand w rule turn c =
          let both = entry_stands cells (MakesBook w) b.nodes b.log old new n.0 c node all.0 all.1 at (Committed n w) legal turns rule turn (no_publish b.nodes (printed b.log) at n v has)
          (elsewhere b.nodes (printed b.log) at n v has legal turns) (λ m. refl) (λ m. refl) (λ m. refl) (λ m apart. ap not apart)
          (λ infos x y point is makes was. book_made all.1.source b.nodes (printed b.log) at n w legal has.flight rule infos x y makes was) in
          (both.0, both.1, commit_shown cells (MakesBook w) b.nodes b.log b.cut board old new n.0 node c all.2 at (Committed n w) refl)

      -- or its disk fails
      pub stops_stand : KeepsRule b.nodes (printed b.log) at (Refused DiskFault) → CommitsIn KeepsBook cells n.0 old new → ClusterStands cells b.nodes new b.cut board (shown at (Refused DiskFault) ∷ b.log)
      stops_stand rule c =
          let both = entry_stands cells KeepsBook b.nodes b.log old new n.0 c node all.0 all.1 at (Refused DiskFault) legal turns rule (stop_turn b.nodes (printed b.log) at n legal turns has.flight) (no_publish b.nodes (printed b.log) at n v has)
          (elsewhere b.nodes (printed b.log) at n v has legal turns) (λ m. refl) (λ m. refl) (λ m. refl) (λ m apart. refl)
          (λ infos x y point is same was. book_stops all.1.source b.nodes (printed b.log) at n v legal has.flight rule has.started infos x y same was) in
          (both.0, both.1, commit_shown cells KeepsBook b.nodes b.log b.cut board old new n.0 node c all.2 at (Refused DiskFault) refl)

-- the commit that was stopped is made, and the line's own begins
pub carry_stands : {D : Type 0} (cells : D → Cells) (b : Sheet) (board : Board) (old new : List (Option (NodePlace D))) (n : NodeNo) → IsNode b.nodes n.0 → ClusterStands cells b.nodes old b.cut board b.log → (at : At) → commit_in_flight n.0 (printed b.log) ≡ Some at
    → is_stuck n.0 (printed b.log) ≡ true → may_find n.0 (version_of n.0 (printed b.log)) (printed b.log) ≡ true → CarriesIn cells n.0 old new → ClusterStands cells b.nodes new b.cut board b.log
carry_stands cells b board old new n node all at flight stuck found c =
    owns_stand cells b board c.mid new n node (carried_stand cells b board old c.mid n node all at flight stuck c.made) at flight stuck found c.begun

-- ---- in the terms of a call

-- what is true at one ledger is true at another of this log
pub stands_is : {D : Type 0} {cells : D → Cells} {places : List (Option (NodePlace D))} {board : Board} {size many : ℕ} {cut was : Bool} {log now : Log} → many ≡ size → was ≡ cut → now ≡ log
    → ClusterStands cells size places cut board log → ClusterStands cells many places was board now
stands_is {cells = cells} {places = places} {board = board} nodes cuts logs stands =
    subst (λ (z : ℕ × (Bool × Log)). ClusterStands cells z.0 places z.1.0 board z.1.1) (λ i. (sym nodes i, (sym cuts i, sym logs i))) stands

-- a commit may begin
pub may_begin : (size : ℕ) (past : Past) (at : At) (n : NodeNo) (v : Version) → IsFresh at past → IsNode size n.0 → is_running n.0 past ≡ true → v.0 ≡ version_of n.0 past → commit_in_flight n.0 past ≡ None → KeepsRule size past at (Committing n v)
may_begin size past at n v fresh node up version none = record { node = node; running = up; searched = version; alone = ap (is_free_for at) none; spared = fresh.spared }

-- a commit stands that no line has in flight: its node is stuck
pub stuck_there : {D : Type 0} (cells : D → Cells) (size : ℕ) (log : Log) (places : List (Option (NodePlace D))) (n : ℕ) → IsNode size n → FilesShow cells log size places → commit_in_flight n (printed log) ≡ None → HasStageAt IsSome (place_of places n)
    → is_stuck n (printed log) ≡ true
stuck_there {D} cells size log places n node files none stands = by (place_of places n) (files.disks n node) stands
  where
    stopped : (o : Option Stage) → IsSome o → StageShows files.source (printed log) n None o → is_stuck n (printed log) ≡ true
    stopped None some is = absurd (true≢false (sym some))
    stopped (Some s) some is = is.stuck

    book : (c : CommitBook) → BookShows files.source (printed log) n c → IsSome c.stage → is_stuck n (printed log) ≡ true
    book c shows some = stopped c.stage some (subst (λ (a : Option At). StageShows files.source (printed log) n a c.stage) none shows.flight)

    at_node : (x : Node D) → DiskShows files.source cells (printed log) n (disk_of x) → HasStage IsSome (disk_of x).book → is_stuck n (printed log) ≡ true
    at_node (Primary p) disk some = book p.commits disk.book some
    at_node (Replica r) disk some = book r.commits disk.book some
    at_node (Down d) disk some = absurd some

    by : (o : Option (NodePlace D)) → IsSomeAnd (disk_at o) (DiskShows files.source cells (printed log) n) → HasStageAt IsSome o → is_stuck n (printed log) ≡ true
    by None disk some = absurd some
    by (Some z) disk some = at_node z.node disk some

-- there are as many places as before
pub calls_count : {D : Type 0} (cells : D → Cells) (n : ℕ) (carries stuck : Bool) (old new : List (Option (NodePlace D))) (called : Called) → CallsFor cells n carries stuck old new called → length new ≡ length old
calls_count cells n carries stuck old new Goes b = b.moves.count
calls_count cells n carries stuck old new Carried b = b.0.begun.moves.count ∙ b.0.made.moves.count
calls_count cells n carries stuck old new Made b = b.0.moves.count
calls_count cells n carries stuck old new Failed b = b.moves.count

-- what a line hands out is as its call went
pub steps_turned : (at : At) (n : NodeNo) (v : Version) (old new : Run) → (crashes n.0 (printed old.log) == crashes n.0 (before_start at (printed old.log))) ≡ true → (went : Went Bool) → StepsCommit at n v old new went → CommitSteps at n v old new (turned went)
steps_turned at n v old new alive (Given true) made = commit_done at n v old new alive made
steps_turned at n v old new alive (Given false) goes = commit_goes_on at n v old new alive goes
steps_turned at n v old new alive Broken stops = commit_stops at n v old new alive stops
