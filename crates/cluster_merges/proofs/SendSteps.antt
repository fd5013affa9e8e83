-- A copy of a merged segment that began at a replica: what is shown of nodes, of files and of merges is shown still.
use Rattle.std.proofs.Common.{◌≡◌, ◌⊎◌, inl, inr, ◌≤◌, ◌<◌, ◌+◌, ◌==◌, ◌||◌, ◌&&◌, ℕ, Bool, true, false, true≢false, List, [], ◌∷◌, ◌++◌, Some, None, Option, Vec, Global, length, take, get_or, refl, ap, ◌∙◌, sym, subst, arith, nat_lt, if◌then◌else◌}
use Rattle.std.specs.Prelude.{IsSomeAnd}
use Rattle.std.specs.List.{All, Contains}
use Rattle.std.proofs.lemmas.Bool.{eqb-true, eq-eqb}
use Rattle.std.proofs.lemmas.List.{take_more, take_all}
use Rattle.nrt_base.specs.declared.numbers.Gen.{Gen}
use Rattle.nrt_base.specs.declared.numbers.LineNo.{LineNo}
use Rattle.nrt_base.specs.declared.numbers.NodeNo.{NodeNo}
use Rattle.disk_model.specs.Disk.{Name, Content, Cells}
use Rattle.searcher_switch.proofs.Appearing.{only_none}
use Rattle.copy_state.specs.declared.state.CopyState.{CopyState}
use Rattle.copy_job.specs.Jobs.{Job}
use Rattle.segment_infos.specs.declared.infos.Infos.{Infos}
use Rattle.seg_reader.specs.Shown.{Shown}
use Rattle.searcher_switch.specs.declared.open.Open.{Open}
use Rattle.searcher_switch.specs.declared.open.SearchPoint.{SearchPoint}
use Rattle.index_primary.specs.declared.states.Out.{Out}
use Rattle.replica_node.specs.declared.job.PointJob.{PointJob}
use Rattle.replica_node.specs.declared.parts.ReplicaParts.{ReplicaParts}
use Rattle.replica_node.specs.declared.merges.MergeCopies.{MergeCopies}
use Rattle.replica_node.specs.Merges.{copy_at, copies_seen, no_copies}
use Rattle.replica_node.specs.Jobs.{merge_job_on}
use Rattle.history_rules.specs.Nodes.{IsNode, generation_of, version_of}
use Rattle.history_book.specs.Log.{Log, printed, kept}
use Rattle.history_book.specs.Jobs.{job_at}
use Rattle.history_book.specs.declared.inner.Inner.{Inner}
use Rattle.history_book.specs.declared.inner.Inner.TheVariants.{JobBegun}
use Rattle.merge_tasks.specs.Merging.{Sheet}
use Rattle.merge_tasks.specs.declared.tasks.OpenMerge.{OpenMerge}
use Rattle.merge_tasks.specs.declared.tasks.Posted.{Posted}
use Rattle.merge_tasks.specs.declared.tasks.Sent.{Sent}
use Rattle.merge_tasks.specs.declared.tasks.Spread.{Spread}
use Rattle.merge_tasks.specs.Board.{Board, open_merge, spread_at, with_spread, is_sent_in, sent_more, due_all, IsToldTask}
use Rattle.merge_tasks.proofs.BoardRows.{line_told, open_with, lines_with, due_sent}
use Rattle.merge_tasks.proofs.TaskFrames.{tasks_kept, tasks_on}
use Rattle.cluster_nodes.specs.declared.held.HeldTicket.{HeldTicket}
use Rattle.cluster_nodes.specs.declared.nodes.Node.{Node}
use Rattle.cluster_nodes.specs.declared.nodes.Node.TheVariants.{Replica}
use Rattle.cluster_nodes.specs.declared.nodes.NodePlace.{NodePlace}
use Rattle.cluster_nodes.specs.Places.{place_of}
use Rattle.cluster_nodes.specs.Outs.{want_of, jobs_like}
use Rattle.cluster_nodes.specs.JobPlaces.{MovesOne}
use Rattle.cluster_nodes.proofs.OutCounts.{jobs_same}
use Rattle.node_merges.specs.MergeChanges.{SendsMerged}
use Rattle.cluster_state.specs.State.{IsPointAt, HoldsTickets, PlaceShows, Shows}
use Rattle.cluster_state.specs.Files.{JobShows, ReplicaFiles, NodeFiles, FilesShow}
use Rattle.cluster_state.specs.Disks.{IsPastPoint}
use Rattle.cluster_state.specs.Merging.{IsFitKind, IsSentCopy, AreSentCopies, NodeMerges}
use Rattle.cluster_state.proofs.Disks.{commits_alone, disk_moved, disk_same, disks_kept}
use Rattle.cluster_state.proofs.Drawn.{grows_none}
use Rattle.cluster_state.proofs.Frames.{some_at}
use Rattle.cluster_state.proofs.FileJobs.{seen_shown, seen_want}
use Rattle.cluster_state.proofs.FileFrames.{Both, both_of, one_each, names_one, node_files, wants_same}
use Rattle.cluster_state.proofs.JobFrames.{job_stays}
use Rattle.cluster_state.proofs.MergingStill.{node_stands, node_keeps}
use Rattle.cluster_state.proofs.Naming.{NodeSteps}
use Rattle.cluster_state.proofs.Points.{points_alone}
use Rattle.cluster_merges.specs.MergePaths.{begun_log}
use Rattle.cluster_merges.specs.Running.{AllShown}
use Rattle.cluster_merges.proofs.CopyRows.{IsSpreadRow, spread_row, node_copied}
use Rattle.cluster_merges.proofs.InsideSteps.{all_is, inside_path, same_sent}

-- a copy that is the last of a list, or one before it
last_or : (xs : List Job) (j : Job) (k : ℕ) (c : Job) → copy_at k (xs ++ j ∷ []) ≡ Some c → (copy_at k xs ≡ Some c) ⊎ ((j.number ≡ k) × (j ≡ c))
last_or [] j k c is = by (j.number == k) refl is
  where
    by : (b : Bool) → (j.number == k) ≡ b → (if b then Some j else None) ≡ Some c → (copy_at k [] ≡ Some c) ⊎ ((j.number ≡ k) × (j ≡ c))
    by true here at = inr (eqb-true j.number k here, cc)
    by false apart at = absurd (cc)
last_or (x ∷ xs) j k c is = by (last_or xs j k c) (x.number == k) is
  where
    by : (copy_at k (xs ++ j ∷ []) ≡ Some c → (copy_at k xs ≡ Some c) ⊎ ((j.number ≡ k) × (j ≡ c))) → (b : Bool) → (if b then Some x else copy_at k (xs ++ j ∷ [])) ≡ Some c → ((if b then Some x else copy_at k xs) ≡ Some c) ⊎ ((j.number ≡ k) × (j ≡ c))
    by more true at = inl at
    by more false at = more at

-- the copies that a generation left were there
seen_there : (seen generation : ℕ) (m : MergeCopies) (k : ℕ) (c : Job) → copy_at k (copies_seen seen generation m).running ≡ Some c → copy_at k m.running ≡ Some c
seen_there seen generation m k c is = by (nat_lt seen generation) is
  where
    by : (b : Bool) → copy_at k (if b then no_copies else m).running ≡ Some c → copy_at k m.running ≡ Some c
    by true at = let no : ◌≡◌ {A = Option Job} None (Some c) = at in absurd (cc)
    by false at = at

-- one that was sent last is among those that were sent
sent_last : (left : List Sent) (n : NodeNo) (job : ℕ) → is_sent_in n.0 job (left ++ record { node = n; job = job } ∷ []) ≡ true
sent_last [] n job = ap (λ (b : Bool). (b && (job == job)) || false) (eq-eqb n.0 n.0 refl) ∙ ap (λ (b : Bool). b || false) (eq-eqb job job refl)
sent_last (s ∷ left) n job = ap (λ (b : Bool). ((s.node.0 == n.0) && (s.job == job)) || b) (sent_last left n job) ∙ any_true ((s.node.0 == n.0) && (s.job == job))
  where
    any_true : (b : Bool) → (b || true) ≡ true
    any_true true = refl
    any_true false = refl

sent_before : (left : List Sent) (s : Sent) (n k : ℕ) → is_sent_in n k left ≡ true → is_sent_in n k (left ++ s ∷ []) ≡ true
sent_before [] s n k is = absurd (true≢false (sym is))
sent_before (x ∷ left) s n k is = by (sent_before left s n k) ((x.node.0 == n) && (x.job == k)) is
  where
    by : (is_sent_in n k left ≡ true → is_sent_in n k (left ++ s ∷ []) ≡ true) → (b : Bool) → (b || is_sent_in n k left) ≡ true → (b || is_sent_in n k (left ++ s ∷ [])) ≡ true
    by more true at = refl
    by more false at = more at

module _ {D : Type 0} (cells : D → Cells) where
  replica_sent : (source : Name → Content) (log : Log) (n number : ℕ) (state : CopyState) (r s : ReplicaParts D) → SendsMerged cells state number r s → ReplicaFiles source cells log n r → ReplicaFiles source cells log n s
  replica_sent source log n number state r s w was = record {
    sourced = w.sourced source was.sourced;
    job = subst (λ (o : Option PointJob). JobShows source log n (job_at n log) o) (sym w.job) (seen_shown source log n (job_at n log) r.job r.seen.0 state.primary_gen.0 was.job);
    point = subst (λ (i : Infos). IsPastPoint source (printed log) i) (sym (ap (λ (z : ReplicaParts D). z.infos) w.others)) was.point;
    flight = was.flight;
  }

  module _ (size : ℕ) (log : Log) (old new : List (Option (NodePlace D))) (n number : ℕ) (state : CopyState) (r s : ReplicaParts D) (held : Vec HeldTicket Global) (moves : MovesOne n (record { node = Replica s; held = held }) old new) (node : IsNode size n)
      (there : place_of old n ≡ Some (record { node = Replica r; held = held })) (w : SendsMerged cells state number r s) (shows : Shows cells log size old) where
    sent_shows : state.primary_gen.0 ≡ generation_of (printed log) → Shows cells log size new
    sent_shows generation = record {
      some = shows.some;
      count = moves.count ∙ shows.count;
      each = one_each {P = PlaceShows cells log} {Q = PlaceShows cells log} size n (record { node = Replica s; held = held }) old new moves shows.each (λ m z at apart is. is) (record {
        node_shows = record {
          running = mine.node_shows.running;
          other = mine.node_shows.other;
          whole = w.whole;
          standing = w.standing mine.node_shows.standing;
          point = subst (λ (z : SearchPoint Shown). IsPointAt (printed log) (version_of n (printed log)) z) (sym (ap (λ (z : ReplicaParts D). z.searchers.point) w.others)) mine.node_shows.point;
          seen = let is : s.seen.0 ≡ state.primary_gen.0 = ap (λ (g : Gen). g.0) w.seen in omega (arith, is, generation);
        };
        tickets = subst (λ (ts : List (Open Shown)). HoldsTickets (printed log) n ts held.items) (sym (ap (λ (z : ReplicaParts D). z.searchers.tickets) w.others)) mine.tickets;
      });
      handed = shows.handed;
    }
      where
        mine : PlaceShows cells log n (record { node = Replica r; held = held })
        mine = some_at (PlaceShows cells log n) (place_of old n) (record { node = Replica r; held = held }) there (shows.each n node)

    job_same : want_of s.job ≡ want_of r.job
    job_same = ap want_of w.job ∙ seen_want r.job r.seen.0 state.primary_gen.0

    sent_files : FilesShow cells log size old → FilesShow cells log size new
    sent_files files =
        let x : NodePlace D = record { node = Replica s; held = held } in
        let y : NodePlace D = record { node = Replica r; held = held } in
        let jobs : (o : Out) → jobs_like new o size ≡ jobs_like old o size = λ o. jobs_same old new o size (λ m within. wants_same n x y old new moves there job_same m) in
        let mine = some_at (Both cells files.source log (λ o. jobs_like old o size) n) (place_of old n) y there (both_of cells log size old shows files n node) in
        let steps : NodeSteps cells (printed log) (Replica r) (Replica s) = record {
          appears = only_none _ (cells r.dir) (cells s.dir) w.appears;
          tickets = λ o held. inl (subst (λ (ts : List (Open Shown)). Contains ts o) (ap (λ (z : ReplicaParts D). z.searchers.tickets) w.others) held);
          loose = λ seg none. inl none;
        } in
        record {
          source = files.source;
          drawn = files.drawn;
          names = names_one cells size (printed log) (printed log) old new n x y (grows_none (printed log)) moves node there steps files.names;
          each = one_each {P = Both cells files.source log (λ o. jobs_like old o size)} {Q = λ m z. NodeFiles files.source cells log (λ o. jobs_like new o size) m z.node} size n x old new moves (both_of cells log size old shows files)
              (λ m z node apart both. node_files cells files.source log log (λ o. jobs_like old o size) (λ o. jobs_like new o size) m z.node (points_alone (printed log)) (λ q is. job_stays log m) (λ o. (let is = jobs o in omega (arith, is))) both.1)
              (replica_sent files.source log n number state r s w mine.1);
          disks = disks_kept cells files.source files.source log log size old new (λ q bytes is. is) (disk_moved n x y old new moves there (disk_same r.commits s.commits (ap (λ (z : ReplicaParts D). z.commits) w.others))) (λ m. commits_alone (printed log) m) files.disks;
          carried = files.carried;
        }

  -- all of it
  pub sent_path : (b : Sheet) (old new : List (Option (NodePlace D))) (board after : Board) (seg : ℕ) (n : NodeNo) (number : ℕ) (state : CopyState) (r s : ReplicaParts D) (held : Vec HeldTicket Global)
      → MovesOne n.0 (record { node = Replica s; held = held }) old new → IsNode b.nodes n.0 → place_of old n.0 ≡ Some (record { node = Replica r; held = held }) → SendsMerged cells state number r s → state.primary_gen.0 ≡ generation_of (printed b.log)
      → IsSomeAnd (spread_at (open_merge seg board.rows)) (λ z. (z.state ≡ state) × (z.all ≡ false)) → after.rows ≡ with_spread seg (sent_more n number (spread_at (open_merge seg board.rows))) board.rows → after.posted ≡ board.posted → after.counts ≡ board.counts
      → AllShown cells b board old → AllShown cells b after new
  sent_path b old new board after seg n number state r s held moves node there w generation sending rows posted counts all = (
    sent_shows b.nodes b.log old new n.0 number state r s held moves node there w all.0 generation,
    sent_files b.nodes b.log old new n.0 number state r s held moves node there w all.0 all.1,
    record {
      tasks = tasks_on b.nodes b.log board after (λ k. ap (λ (l : List OpenMerge). line_told (open_merge k l)) rows ∙ lines_with board.rows seg (sent_more n number (spread_at (open_merge seg board.rows))) k)
          (subst (λ (l : List Posted). All (IsToldTask b.log) l) (sym posted) all.2.tasks.posted) due counts all.2.tasks;
      fit = subst (λ (l : List Posted). All (λ p. IsFitKind p.kind) l) (sym posted) all.2.fit;
      each = one_each {P = λ m z. NodeMerges b.log b.cut (λ o. jobs_like old o b.nodes) board.rows m z.node} {Q = λ m z. NodeMerges b.log b.cut (λ o. jobs_like new o b.nodes) after.rows m z.node}
          b.nodes n.0 (record { node = Replica s; held = held }) old new moves all.2.each (λ m z at apart is. others m z.node is) mine;
      vacant = λ none. absurd (gone (sym (ap (open_merge seg) (all.2.vacant none).1.1) ∙ found.0.there));
    },
  )
    where
      found : (z : IsSpreadRow seg board.rows) × ((z.spread.state ≡ state) × (z.spread.all ≡ false))
      found = spread_row seg board.rows (λ z. (z.state ≡ state) × (z.all ≡ false)) sending

      gone : None ≡ Some found.0.row → ⊥
      gone e = absurd (cc)

      t : Spread
      t = record found.0.spread { left = found.0.spread.left ++ record { node = n; job = number } ∷ [] }

      rows_are : after.rows ≡ with_spread seg (Some t) board.rows
      rows_are = rows ∙ ap (λ (o : Option Spread). with_spread seg (sent_more n number o) board.rows) (ap (λ (o : Option OpenMerge). spread_at o) found.0.there ∙ found.0.some)

      due : due_all b.nodes after.rows ≤ due_all b.nodes board.rows
      due =
          let same : due_all b.nodes after.rows ≡ due_all b.nodes (with_spread seg (sent_more n number found.0.row.spread) board.rows) = ap (due_all b.nodes) (rows ∙ ap (λ (o : Option OpenMerge). with_spread seg (sent_more n number (spread_at o)) board.rows) found.0.there) in
          let sent = due_sent b.nodes board.rows seg found.0.row found.0.spread n number found.0.there found.0.some found.1.1 in
          omega (arith, same, sent)

      jobs : (o : Out) → jobs_like new o b.nodes ≡ jobs_like old o b.nodes
      jobs o = jobs_same old new o b.nodes (λ m within. wants_same n.0 (record { node = Replica s; held = held }) (record { node = Replica r; held = held }) old new moves there (job_same b.nodes b.log old new n.0 number state r s held moves node there w all.0) m)

      others : (m : ℕ) (x : Node D) → NodeMerges b.log b.cut (λ o. jobs_like old o b.nodes) board.rows m x → NodeMerges b.log b.cut (λ o. jobs_like new o b.nodes) after.rows m x
      others m x is = subst (λ (l : List OpenMerge). NodeMerges b.log b.cut (λ o. jobs_like new o b.nodes) l m x) (sym rows_are)
          (node_copied seg board.rows found.0 t refl b.log b.cut (λ o. jobs_like new o b.nodes) m x (λ k sent. sent_before found.0.spread.left (record { node = n; job = number }) m k sent)
          (node_stands b.log b.log b.cut (λ o. jobs_like old o b.nodes) (λ o. jobs_like new o b.nodes) board.rows m (λ k inputs e. e) x x
          (node_keeps (λ o. jobs_like old o b.nodes) (λ o. jobs_like new o b.nodes) x (λ o. let e = jobs o in omega (arith, e))) is))

      was : AreSentCopies board.rows n.0 r.copies.running
      was = some_at (λ z. NodeMerges b.log b.cut (λ o. jobs_like old o b.nodes) board.rows n.0 z.node) (place_of old n.0) (record { node = Replica r; held = held }) there (all.2.each n.0 node)

      mine : AreSentCopies after.rows n.0 s.copies.running
      mine k c at = by (last_or (copies_seen r.seen.0 state.primary_gen.0 r.copies).running (merge_job_on number state w.holdings) k c (sym (ap (λ (m : MergeCopies). copy_at k m.running) w.copies) ∙ at))
        where
          by : (copy_at k (copies_seen r.seen.0 state.primary_gen.0 r.copies).running ≡ Some c) ⊎ ((number ≡ k) × (merge_job_on number state w.holdings ≡ c)) → IsSentCopy after.rows n.0 k c
          by (inl before) = others n.0 (Replica r) was k c (seen_there r.seen.0 state.primary_gen.0 r.copies k c before)
          by (inr here) = record {
            seg = seg;
            spread = t;
            row = ap (λ (l : List OpenMerge). spread_at (open_merge seg l)) rows_are ∙ (ap spread_at (open_with board.rows seg (Some t) found.0.row found.0.there seg) ∙ ap (λ (b : Bool). spread_at (if b then Some (record found.0.row { spread = Some t }) else open_merge seg board.rows)) (eq-eqb seg seg refl));
            sent = ap (λ (q : ℕ). is_sent_in n.0 q t.left) (sym here.0) ∙ sent_last found.0.spread.left n number;
            want = sym (ap (λ (j : Job). j.want) here.1) ∙ sym found.1.0;
          }

-- ---- the entries

-- one more at the end of the copies is one more entry
begun_more : (line : LineNo) (sent : List Sent) (s : Sent) (log : Log) → begun_log line (sent ++ s ∷ []) log ≡ kept (JobBegun line s.node s.job None None) ∷ begun_log line sent log
begun_more line [] s log = refl
begun_more line (x ∷ sent) s log = begun_more line sent s (kept (JobBegun line x.node x.job None None) ∷ log)

pub begun_next : (line : LineNo) (sent : List Sent) (i : ℕ) (s d : Sent) (log mid new : Log) → i < length sent → s ≡ get_or sent i d → mid ≡ begun_log line (take i sent) log → new ≡ kept (JobBegun line s.node s.job None None) ∷ mid
    → new ≡ begun_log line (take (i + 1) sent) log
begun_next line sent i s d log mid new within is was one =
    one ∙ (ap (λ (l : Log). kept (JobBegun line s.node s.job None None) ∷ l) was
    ∙ (sym (begun_more line (take i sent) s log) ∙ ap (λ (l : List Sent). begun_log line l log) (ap (λ (x : Sent). take i sent ++ x ∷ []) is ∙ sym (take_more sent i d within))))

pub begun_last : (line : LineNo) (sent : List Sent) (i : ℕ) (log new : Log) → length sent ≤ i → new ≡ begun_log line (take i sent) log → new ≡ begun_log line sent log
begun_last line sent i log new end was = was ∙ ap (λ (l : List Sent). begun_log line l log) (take_all i sent end)

module _ {D : Type 0} (cells : D → Cells) where
  -- that a copy has begun is noted
  begun_path : (b0 b2 : Sheet) (places : List (Option (NodePlace D))) (board : Board) (line : LineNo) (s : Sent) → b2.log ≡ kept (JobBegun line s.node s.job None None) ∷ b0.log → b2.nodes ≡ b0.nodes → b2.cut ≡ b0.cut
      → AllShown cells b0 board places → AllShown cells b2 board places
  begun_path b0 b2 places board line s log nodes cut all =
      inside_path cells b0 b2 places board board i log nodes cut (λ at. refl) (λ q bytes out. out) (λ m. same_sent b0.log line s.node s.job m) (λ seg inputs is. is) (tasks_kept b0.nodes b0.log board i refl all.2.tasks) refl all.2.fit (λ none. none.0) all
    where
      i : Inner
      i = JobBegun line s.node s.job None None

  -- and of all
  pub begun_all : (b0 b2 : Sheet) (places : List (Option (NodePlace D))) (board : Board) (line : LineNo) (sent : List Sent) → b2.log ≡ begun_log line sent b0.log → b2.nodes ≡ b0.nodes → b2.cut ≡ b0.cut → AllShown cells b0 board places → AllShown cells b2 board places
  begun_all b0 b2 places board line [] log nodes cut all = all_is cells b0 b2 board places log nodes cut all
  begun_all b0 b2 places board line (s ∷ sent) log nodes cut all =
      begun_all (record b0 { log = kept (JobBegun line s.node s.job None None) ∷ b0.log }) b2 places board line sent log nodes cut
      (begun_path b0 (record b0 { log = kept (JobBegun line s.node s.job None None) ∷ b0.log }) places board line s refl refl refl all)
