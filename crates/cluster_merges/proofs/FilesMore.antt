-- The primary wrote files that its point does not name: those of a merged segment, or its first live file.
use Rattle.std.proofs.Common.{◌≡◌, ◌≤◌, ◌<◌, ◌==◌, inl, inr, nat_lt, ℕ, zero, suc, Bool, true, false, List, Some, None, Option, is_some, Vec, Global, refl, ap, ◌∙◌, sym, subst, arith, if◌then◌else◌}
use Rattle.std.specs.Option.{option_or}
use Rattle.std.proofs.lemmas.Bool.{lt-ltb}
use Rattle.disk_model.specs.Disk.{Name, Content, Cells}
use Rattle.file_deleter.specs.Holdings.{count_of}
use Rattle.file_deleter.proofs.Keeping.{known_counted}
use Rattle.searcher_switch.specs.Appearing.{AppearsOnly}
use Rattle.segment_infos.specs.declared.infos.Infos.{Infos}
use Rattle.index_primary.specs.declared.parts.PrimaryParts.{PrimaryParts}
use Rattle.index_primary.specs.declared.states.Out.{Out}
use Rattle.index_primary.specs.Held.{IsOwnFile}
use Rattle.index_primary.specs.Primary.{IsPrimary, KeepsHeldBytes, IsUnwritten, loose_of}
use Rattle.index_primary.specs.Calls.{FillsUndrawn, DrawsOnly}
use Rattle.replica_opening.specs.Known.{IsLasting}
use Rattle.replica_node.specs.Sources.{HeldReadAs}
use Rattle.history_rules.specs.Nodes.{IsNode, is_at, primary_of}
use Rattle.history_book.specs.Log.{Log, printed}
use Rattle.cluster_nodes.specs.declared.held.HeldTicket.{HeldTicket}
use Rattle.cluster_nodes.specs.declared.nodes.Node.TheVariants.{Primary}
use Rattle.cluster_nodes.specs.declared.nodes.NodePlace.{NodePlace}
use Rattle.cluster_nodes.specs.Places.{place_of}
use Rattle.cluster_nodes.specs.Outs.{states_like, jobs_like}
use Rattle.cluster_nodes.specs.JobPlaces.{MovesOne}
use Rattle.cluster_nodes.proofs.OutCounts.{jobs_same}
use Rattle.cluster_state.specs.Disks.{IsPastPoint}
use Rattle.cluster_state.specs.Names.{NamesShow}
use Rattle.cluster_state.specs.State.{Shows}
use Rattle.cluster_state.specs.Files.{NodeFiles, FilesShow}
use Rattle.cluster_state.proofs.Wider.{widened, widened_more, some_wider, point_wider, test_none}
use Rattle.cluster_state.proofs.Drawn.{grows_none}
use Rattle.cluster_state.proofs.Disks.{commits_alone, disk_moved, disk_same, disks_kept}
use Rattle.cluster_state.proofs.Points.{points_alone}
use Rattle.cluster_state.proofs.Frames.{some_at}
use Rattle.cluster_state.proofs.JobFrames.{job_stays}
use Rattle.cluster_state.proofs.Naming.{FilesLast, HoldsFrom, HoldsLow, NodeSteps, node_steps, means_wider, own_drawn}
use Rattle.cluster_state.proofs.FileFrames.{Both, both_of, one_each, names_one, node_files, node_wider, wants_same}

module _ {D : Type 0} (cells : D → Cells) where
  -- The primary's files are those from before and such as were not written yet; its point is as it was.
  pub record WritesMore (old new : PrimaryParts D) : Type 0 where
    pub stays : KeepsHeldBytes cells old new
    pub fresh : FillsUndrawn old new
    pub drawn : DrawsOnly old new
    pub appears : AppearsOnly (IsOwnFile old.infos (loose_of old)) (cells old.dir) (cells new.dir)
    pub commits : new.commits ≡ old.commits
    pub point : new.point_infos ≡ old.point_infos
    pub generation : new.infos.generation ≡ old.infos.generation
    pub whole : IsPrimary cells new

  module _ (source : Name → Content) (p q : PrimaryParts D) (more : WritesMore p q) where
    held_more : ((name : Name) → IsUnwritten p name → source name ≡ None) → HeldReadAs source (cells p.dir) p.files → HeldReadAs (widened source (cells q.dir) q.files) (cells q.dir) q.files
    held_more unwritten held = record { each = λ name lasting counted. by name lasting counted (count_of p.files name) refl }
      where
        by : (name : Name) → IsLasting name → 0 < count_of q.files name → (k : ℕ) → count_of p.files name ≡ k → (cells q.dir name).now ≡ widened source (cells q.dir) q.files name
        by name lasting counted zero is =
            let none : source name ≡ None = unwritten name (more.fresh.each name is counted) in
            sym (ap (λ (o : Content). option_or o (if nat_lt 0 (count_of q.files name) then (cells q.dir name).now else None)) none
            ∙ ap (λ (b : Bool). if b then (cells q.dir name).now else None) (lt-ltb 0 (count_of q.files name) counted))
        by name lasting counted (suc k) is =
            let before : 0 < count_of p.files name = omega (arith, is) in
            let now : (cells q.dir name).now ≡ source name = more.stays.held name before counted ∙ held.each name lasting before in
            let there : is_some (source name) ≡ true = ap is_some (sym now) ∙ (more.whole.node.whole.names name ∙ known_counted q.files name counted) in
            now ∙ sym (some_wider source (widened source (cells q.dir) q.files) name (widened_more source (cells q.dir) q.files) there)

    unwritten_more : ((name : Name) → IsUnwritten p name → source name ≡ None) → (name : Name) → IsUnwritten q name → widened source (cells q.dir) q.files name ≡ None
    unwritten_more unwritten name undrawn =
        let none : source name ≡ None = unwritten name (more.drawn.each name undrawn) in
        let free : count_of q.files name ≡ 0 = more.whole.undrawn.each name undrawn in
        ap (λ (o : Content). option_or o (if nat_lt 0 (count_of q.files name) then (cells q.dir name).now else None)) none
        ∙ ap (λ (b : Bool). if b then (cells q.dir name).now else None) (test_none (count_of q.files name) free)

  -- the files of a cluster whose primary wrote so
  pub files_more : (size : ℕ) (log : Log) (old new : List (Option (NodePlace D))) (n : ℕ) (p q : PrimaryParts D) (held : Vec HeldTicket Global) → FilesLast → WritesMore p q → HoldsFrom cells (printed log) (Primary p) (Primary q)
      → ((source : Name → Content) → HeldReadAs source (cells p.dir) p.files → HoldsLow source q.files (printed log)) → ((s : Out) → jobs_like old s size ≤ states_like s q.states)
      → ((m : ℕ) → (n == m) ≡ false → is_at (primary_of (printed log)) m ≡ false)
      → MovesOne n (record { node = Primary q; held = held }) old new → IsNode size n → place_of old n ≡ Some (record { node = Primary p; held = held }) → Shows cells log size old → FilesShow cells log size old → FilesShow cells log size new
  files_more size log old new n p q held lasting more holds low outs others moves node there shows files =
      let x : NodePlace D = record { node = Primary q; held = held } in
      let y : NodePlace D = record { node = Primary p; held = held } in
      let jobs : (s : Out) → jobs_like new s size ≡ jobs_like old s size = λ s. jobs_same old new s size (λ m within. wants_same n x y old new moves there refl m) in
      let mine = some_at (Both cells files.source log (λ s. jobs_like old s size) n) (place_of old n) y there (both_of cells log size old shows files n node) in
      let wider = widened files.source (cells q.dir) q.files in
      let named = some_at (λ z. NamesShow cells (printed log) z.node) (place_of old n) y there (files.names n node) in
      let own = own_drawn cells (printed log) p lasting mine.0.node_shows.whole named in
      let steps : NodeSteps cells (printed log) (Primary p) (Primary q) = record {
        appears = record { each = λ name none there. inr (inr (inl (own name (more.appears.each name none there)))) };
        tickets = holds.tickets;
        loose = holds.loose;
      } in
      record {
        source = wider;
        drawn = means_wider files.source (cells q.dir) q.files (printed log) files.drawn (node_steps cells (printed log) (printed log) (Primary p) (Primary q) (grows_none (printed log)) steps named).kinds (low files.source mine.1.held);
        names = names_one cells size (printed log) (printed log) old new n x y (grows_none (printed log)) moves node there steps files.names;
        each = one_each {P = Both cells files.source log (λ s. jobs_like old s size)} {Q = λ m z. NodeFiles wider cells log (λ s. jobs_like new s size) m z.node} size n x old new moves (both_of cells log size old shows files)
            (λ m z at apart both. node_files cells wider log log (λ s. jobs_like old s size) (λ s. jobs_like new s size) m z.node (points_alone (printed log)) (λ r is. job_stays log m) (λ s. (let is = jobs s in omega (arith, is)))
            (node_wider cells files.source wider log log (λ s. jobs_like old s size) m z.node (widened_more files.source (cells q.dir) q.files) (others m apart) (λ k away. job_stays log k) both.0.node_shows both.1))
            (record {
              held = held_more files.source p q more mine.1.unwritten mine.1.held;
              unwritten = unwritten_more files.source p q more mine.1.unwritten;
              point = subst (IsPastPoint wider (printed log)) (sym more.point) (point_wider files.source wider (printed log) p.point_infos (widened_more files.source (cells q.dir) q.files) mine.1.point);
              generation = ap (λ (i : Infos). i.generation) more.point ∙ (mine.1.generation ∙ sym more.generation);
              outs = λ s. (let is = jobs s in let least = outs s in omega (arith, is, least));
            });
        disks = disks_kept cells files.source wider log log size old new (widened_more files.source (cells q.dir) q.files) (disk_moved n x y old new moves there (disk_same p.commits q.commits more.commits)) (λ m. commits_alone (printed log) m) files.disks;
        carried = λ name bytes out. widened_more files.source (cells q.dir) q.files name bytes (files.carried name bytes out);
      }
