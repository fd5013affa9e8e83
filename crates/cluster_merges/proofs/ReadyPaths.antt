-- A merge that is written and sent, in the terms of the call.
use Rattle.std.proofs.Common.{◌≡◌, ◌≢◌, ◌≤◌, ◌<◌, ◌+◌, ◌==◌, ◌^◌, ◌++◌, ◌∷◌, [], ℕ, Bool, true, false, true≢false, List, map, length, get_or, Some, None, Option, Vec, Global, refl, ap, ◌∙◌, sym, subst, arith, if◌then◌else◌}
use Rattle.std.specs.Prelude.{not, is_some, IsSome, IsSomeAnd, IfSome}
use Rattle.std.specs.List.{AllByRecursion}
use Rattle.std.proofs.lemmas.Bool.{eq-eqb}
use Rattle.std.proofs.lemmas.List.{length-map}
use Rattle.std.proofs.lemmas.Option.{none-some}
use Rattle.nrt_base.specs.declared.numbers.At.{At}
use Rattle.nrt_base.specs.declared.numbers.Gen.{Gen}
use Rattle.nrt_base.specs.declared.numbers.LineNo.{LineNo}
use Rattle.nrt_base.specs.declared.numbers.NodeNo.{NodeNo}
use Rattle.nrt_base.specs.declared.numbers.SegNo.{SegNo}
use Rattle.disk_model.specs.Disk.{Name, Content, Cells}
use Rattle.file_deleter.specs.Holdings.{times}
use Rattle.copy_state.specs.declared.state.CopyState.{CopyState}
use Rattle.copy_state.specs.States.{meta_names, IsCopyState}
use Rattle.seg_merge.specs.declared.task.MergeTask.{MergeTask}
use Rattle.seg_merge.specs.declared.task.Merged.{Merged}
use Rattle.seg_merge.specs.Merging.{IsMergedOf}
use Rattle.index_primary.specs.declared.parts.PrimaryParts.{PrimaryParts}
use Rattle.index_primary.specs.declared.states.Merging.{Merging}
use Rattle.index_primary.specs.declared.states.Out.{Out}
use Rattle.index_primary.specs.Merges.{merge_of, merge_loose, merge_inputs, merges_with}
use Rattle.index_primary.specs.Written.{names_of}
use Rattle.index_primary.specs.Primary.{publish_loose, loose_of}
use Rattle.index_primary.proofs.MergeLists.{loose_with}
use Rattle.index_primary.specs.MergeCalls.{IsMadeFor}
use Rattle.index_primary.proofs.MergedFiles.{merged_names}
use Rattle.replica_node.specs.declared.parts.ReplicaParts.{ReplicaParts}
use Rattle.replica_node.specs.Merges.{SharesNone}
use Rattle.replica_node.specs.Sources.{HeldReadAs}
use Rattle.history_rules.specs.Nodes.{IsNode, IsReplica, is_at, primary_of, generation_of}
use Rattle.history_book.specs.Log.{Log, printed, kept}
use Rattle.history_book.specs.Jobs.{job_at}
use Rattle.history_book.specs.declared.inner.Inner.TheVariants.{TaskEnd, MergeEnd}
use Rattle.history_book.specs.declared.inner.Step.TheVariants.{Merge as MergeStep}
use Rattle.merge_tasks.specs.Merging.{Sheet, merge_on}
use Rattle.merge_tasks.specs.declared.drains.DrainCount.{DrainCount}
use Rattle.merge_tasks.specs.declared.tasks.OpenMerge.{OpenMerge}
use Rattle.merge_tasks.specs.declared.tasks.Posted.{Posted}
use Rattle.merge_tasks.specs.declared.tasks.Sent.{Sent}
use Rattle.merge_tasks.specs.declared.tasks.Spread.{Spread}
use Rattle.merge_tasks.specs.TaskLog.{inputs_out, merge_task}
use Rattle.merge_tasks.specs.Board.{Board, open_merge, spread_at, with_spread, without_merge, is_unwritten, all_sent, sent_left, posts_of, post_after, done_under, counts_one}
use Rattle.merge_tasks.proofs.BoardRows.{open_with, with_last}
use Rattle.cluster_nodes.specs.declared.held.HeldTicket.{HeldTicket}
use Rattle.cluster_nodes.specs.declared.nodes.Node.{Node}
use Rattle.cluster_nodes.specs.declared.nodes.Node.TheVariants.{Primary, Replica, Down}
use Rattle.cluster_nodes.specs.declared.nodes.NodePlace.{NodePlace}
use Rattle.cluster_nodes.specs.Places.{place_of}
use Rattle.cluster_nodes.specs.JobChanges.{HasReplica}
use Rattle.cluster_nodes.specs.Outs.{states_like, jobs_like}
use Rattle.node_merges.specs.MergeChanges.{ReadiesMerge, GivesUpMerge, MaySend}
use Rattle.node_merges.specs.MergePlaces.{IsPrimaryIn, IsReplicaIn, MovesPrimary}
use Rattle.cluster_state.specs.Settles.{AreReplicas}
use Rattle.cluster_state.specs.State.{NodeShows, PrimaryShows, ReplicaShows, PlaceShows}
use Rattle.cluster_state.specs.Files.{PrimaryFiles, ReplicaFiles, NodeFiles}
use Rattle.cluster_state.specs.Merging.{AreWrittenAlike, AreMergedAlike, AreSentCopies, PrimaryMerges, NodeMerges}
use Rattle.cluster_state.proofs.Frames.{some_at, slot_of}
use Rattle.cluster_state.proofs.FileFrames.{other_place}
use Rattle.cluster_state.proofs.Naming.{FilesLast, HoldsFrom, HoldsLow, holds_same}
use Rattle.cluster_state.specs.Met.{with_met}
use Rattle.cluster_merges.specs.MergePaths.{IsMergedOut, begun_log}
use Rattle.cluster_merges.specs.TaskMet.{behind, WritesBehind}
use Rattle.cluster_merges.specs.Running.{AllShown}
use Rattle.cluster_merges.proofs.AtPrimary.{primary_in_place}
use Rattle.cluster_merges.proofs.CopyRows.{post_path}
use Rattle.cluster_merges.proofs.CutPaths.{merge_stays}
use Rattle.cluster_merges.proofs.GivenMerges.{given_all}
use Rattle.cluster_merges.proofs.TaskBehind.{all_behind}
use Rattle.cluster_merges.proofs.FilesMore.{files_more}
use Rattle.cluster_merges.proofs.StandSteps.{merge_numbered}
use Rattle.cluster_merges.specs.Sending.{spread_to, MaySendAll, SendsAll}
use Rattle.cluster_merges.proofs.MaySending.{job_apart, pending_apart, copies_apart, merged_small, merged_lasts, merged_means, others_apart}
use Rattle.cluster_merges.proofs.ReadyFiles.{shows_written, written_low, written_more, written_outs}
use Rattle.cluster_merges.proofs.ReplicaCount.{few_replicas}
use Rattle.segment_steps.specs.Starting.{size_by}
use Rattle.cluster_merges.specs.MergesKept.{TellsAll, TellsBuilt}
use Rattle.cluster_merges.specs.SentTold.{TellsSends}
use Rattle.cluster_merges.proofs.KeptMerges.{primary_all}
use Rattle.cluster_merges.proofs.SentTold.{told_before}
use Rattle.cluster_merges.proofs.SendLoop.{spread_with, is_spread}
use Rattle.cluster_merges.proofs.SendSteps.{begun_all}
use Rattle.cluster_merges.proofs.WrittenStand.{stand_written}

-- the inputs of merges are those of before where one is written
inputs_with : (merged : Merged) (names : List Name) (ms : List Merging) → merge_inputs (merges_with merged names ms) ≡ merge_inputs ms
inputs_with merged names [] = refl
inputs_with merged names (m ∷ ms) = by (m.task.seg.0 == merged.files.seg.0) (inputs_with merged names ms)
  where
    by : (t : Bool) → merge_inputs (merges_with merged names ms) ≡ merge_inputs ms
        → merge_inputs (if t then record m { merged = Some merged; names = names } ∷ ms else m ∷ merges_with merged names ms) ≡ merge_inputs (m ∷ ms)
    by true rest = refl
    by false rest = ap (λ (l : List SegNo). m.inputs ++ l) rest

-- ---- a merge of which nothing is written

pub record IsUnwrittenRow (seg : ℕ) (rows : List OpenMerge) : Type 0 where
  pub row : OpenMerge
  pub there : open_merge seg rows ≡ Some row
  pub none : row.spread ≡ None

unwritten_row : (seg : ℕ) (rows : List OpenMerge) → is_unwritten (open_merge seg rows) ≡ true → IsUnwrittenRow seg rows
unwritten_row seg rows is = by (open_merge seg rows) refl is
  where
    of_row : (r : OpenMerge) → open_merge seg rows ≡ Some r → (o : Option Spread) → r.spread ≡ o → not (is_some o) ≡ true → IsUnwrittenRow seg rows
    of_row r there None none is = record { row = r; there = there; none = none }
    of_row r there (Some s) some is = absurd (true≢false (sym is))

    by : (o : Option OpenMerge) → open_merge seg rows ≡ o → is_unwritten o ≡ true → IsUnwrittenRow seg rows
    by None e is = absurd (true≢false (sym is))
    by (Some r) e is = of_row r e r.spread refl is

module _ {D : Type 0} (cells : D → Cells) (b : Sheet) (board : Board) (old : List (Option (NodePlace D))) (p : NodeNo) (seg : SegNo) (merged : Merged) (all : AllShown cells b board old) (node : IsNode b.nodes p.0) (primary : primary_of (printed b.log) ≡ Some p)
    (asked_row : is_unwritten (open_merge seg.0 board.rows) ≡ true) (out : IsMergedOut b.log seg merged) where
  here : is_at (primary_of (printed b.log)) p.0 ≡ true
  here = ap (λ (o : Option NodeNo). is_at o p.0) primary ∙ eq-eqb p.0 p.0 refl

  away : (m : ℕ) → (p.0 == m) ≡ false → is_at (primary_of (printed b.log)) m ≡ false
  away m apart = ap (λ (o : Option NodeNo). is_at o m) primary ∙ apart

  row : IsUnwrittenRow seg.0 board.rows
  row = unwritten_row seg.0 board.rows asked_row

  pub open_there : open_merge seg.0 board.rows ≢ None
  open_there none = none-some row.row (sym none ∙ row.there)

  -- the log has it in flight
  pub is_on : merge_on seg.0 b.log ≢ None
  is_on = merge_stays b.nodes b.log board seg.0 all.2.tasks open_there

  number : merged.files.seg ≡ seg
  number = out.of.number

  -- ---- the primary

  made_at : (q : PrimaryParts D) → ((k : ℕ) → AreMergedAlike b.log (merge_of k q.merges) (open_merge k board.rows)) → IsMadeFor q merged
  made_at q alike =
      subst (λ (s : SegNo). IsSomeAnd (merge_of s.0 q.merges) (λ m. (m.merged ≡ None) × IsMergedOf m.task merged)) (sym number)
      (of_row (merge_of seg.0 q.merges) refl (subst (λ (r : Option OpenMerge). AreMergedAlike b.log (merge_of seg.0 q.merges) r) row.there (alike seg.0)))
    where
      unmade : (o : Option Merged) → AreWrittenAlike o None → o ≡ None
      unmade None is = refl
      unmade (Some x) is = absurd is

      of_row : (o : Option Merging) → merge_of seg.0 q.merges ≡ o → AreMergedAlike b.log o (Some row.row) → IsSomeAnd o (λ m. (m.merged ≡ None) × IsMergedOf m.task merged)
      of_row None e alone = absurd alone
      of_row (Some m) e is = (unmade m.merged (subst (λ (x : Option Spread). AreWrittenAlike m.merged x) row.none is.written), subst (λ (t : MergeTask). IsMergedOf t merged) (sym task) out.of)
        where
          same : m.task.seg.0 ≡ seg.0
          same = merge_numbered q.merges seg.0 m e

          inputs : m.task.inputs ≡ out.inputs
          inputs = let both : Some m.task.inputs ≡ Some out.inputs = sym is.inputs ∙ (ap (λ (k : ℕ). inputs_out k b.log) same ∙ out.out) in cc

          task : m.task ≡ merge_task seg out.inputs
          task = is.task ∙ λ i. merge_task (record { 0 = same i }) (inputs i)

  merges_at : (q : PrimaryParts D) (held : Vec HeldTicket Global) → place_of old p.0 ≡ Some (record { node = Primary q; held = held }) → PrimaryMerges b.log b.cut (λ s. jobs_like old s b.nodes) board.rows q
  merges_at q held there = some_at (λ z. NodeMerges b.log b.cut (λ s. jobs_like old s b.nodes) board.rows p.0 z.node) (place_of old p.0) (record { node = Primary q; held = held }) there (all.2.each p.0 node)

  pub can_ready : IsPrimaryIn (λ q. IsMadeFor q merged) p.0 old
  can_ready = record {
    slot = slot_of cells b.log b.nodes p.0 old node all.0;
    primary = primary_in_place cells b.log b.nodes p.0 old here node all.0;
    may = λ q held there. made_at q (merges_at q held there).merges;
  }

  -- the disk failed, and it gave the merge up
  pub ready_given : FilesLast → (new : List (Option (NodePlace D))) → MovesPrimary (GivesUpMerge cells merged.files.seg (λ states. states)) p.0 old new → (b3 : Sheet) (after : Board) (line : LineNo) (taker : Option At)
      → b3.log ≡ kept (TaskEnd line seg taker MergeStep true) ∷ kept (MergeEnd seg false) ∷ b.log → b3.nodes ≡ b.nodes → b3.cut ≡ b.cut → after.rows ≡ without_merge seg.0 board.rows → after.posted ≡ board.posted
      → ((x : At) → done_under x after.counts ≡ done_under x board.counts + counts_one x taker) → AllShown cells b3 after new
  ready_given lasting new moves b3 after line taker e3 n3 c3 rows posted counts =
      let given : MovesPrimary (GivesUpMerge cells seg (λ states. states)) p.0 old new = subst (λ (s : SegNo). MovesPrimary (GivesUpMerge cells s (λ states. states)) p.0 old new) number moves in
      given_all cells old new b b3 board after p line seg taker MergeStep all node primary row.row row.there (ap sent_left row.none) (λ states. states) given (λ o. omega arith) lasting e3 n3 c3 rows posted counts

  -- ---- a replica

  replica_there : (n : ℕ) → IsNode b.nodes n → IsReplica (printed b.log) n → HasReplica (place_of old n)
  replica_there n at is = by (place_of old n) (all.0.each n at)
    where
      of_node : (x : Node D) (held : Vec HeldTicket Global) → NodeShows cells b.log n x → HasReplica (Some (record { node = x; held = held }))
      of_node (Primary q) held showing = absurd (true≢false (sym showing.primary ∙ is.other))
      of_node (Replica r) held showing = tt
      of_node (Down d) held showing = absurd (true≢false (sym is.running ∙ showing.down))

      by : (o : Option (NodePlace D)) → IsSomeAnd o (PlaceShows cells b.log n) → HasReplica o
      by None none = absurd none
      by (Some z) shown = of_node z.node z.held shown.node_shows

  apart_from : (n : ℕ) → IsReplica (printed b.log) n → (p.0 == n) ≡ false
  apart_from n is = sym (ap (λ (o : Option NodeNo). is_at o n) primary) ∙ is.other

  -- ---- once the files are written

  module _ (state : CopyState) (new : List (Option (NodePlace D))) (moved : MovesPrimary (ReadiesMerge cells merged state) p.0 old new) where
    abbrev q : PrimaryParts D
    q = moved.at.parts

    abbrev s : PrimaryParts D
    s = moved.primary

    abbrev names : List Name
    names = names_of merged.files.files

    made : (moved.step.merges.m.merged ≡ None) × IsMergedOf moved.step.merges.m.task merged
    made = some_at (λ (m : Merging). (m.merged ≡ None) × IsMergedOf m.task merged) (merge_of merged.files.seg.0 q.merges) moved.step.merges.m moved.step.merges.found (made_at q (merges_at q moved.at.held moved.at.there).merges)

    place : PlaceShows cells b.log p.0 (record { node = Primary q; held = moved.at.held })
    place = some_at (PlaceShows cells b.log p.0) (place_of old p.0) (record { node = Primary q; held = moved.at.held }) moved.at.there (all.0.each p.0 node)

    shows : PrimaryShows cells b.log p.0 q
    shows = place.node_shows

    files : PrimaryFiles all.1.source cells (printed b.log) (λ o. jobs_like old o b.nodes) q
    files = some_at (λ z. NodeFiles all.1.source cells b.log (λ o. jobs_like old o b.nodes) p.0 z.node) (place_of old p.0) (record { node = Primary q; held = moved.at.held }) moved.at.there (all.1.each p.0 node)

    generation : state.primary_gen.0 ≡ generation_of (printed b.log)
    generation = ap (λ (g : Gen). g.0) moved.step.of_merged.primary_gen ∙ (ap (λ (g : Gen). g.0) files.generation ∙ shows.writer.generation)

    small : merged.files.seg.0 < 2 ^ 64
    small = merged_small cells q shows.whole merged moved.step.merges.m moved.step.merges.found made.0 made.1

    means : (x : Name) → 0 < times names x → all.1.source x ≡ None
    means = merged_means cells q shows.whole merged moved.step.merges.m moved.step.merges.found made.0 made.1 all.1.source files.unwritten

    -- it can be sent to a replica
    may_send : (n : ℕ) (r : ReplicaParts D) (held : Vec HeldTicket Global) → IsNode b.nodes n → place_of old n ≡ Some (record { node = Replica r; held = held }) → MaySend state r
    may_send n r held at there = record {
      seen = let low = mine.seen in let is = generation in omega (arith, low, is);
      segment = record { seg = merged.files.seg; numbered = small; files = moved.step.of_merged.names_are ∙ merged_names moved.step.merges.m.task merged made.1 };
      job = subst (λ (ns : List Name). IfSome r.job (λ j. SharesNone (meta_names j.copy.want.files) ns)) (sym moved.step.of_merged.names_are) (job_apart names all.1.source means b.log n (job_at n b.log) r.job own.job);
      copies = subst (λ (ns : List Name). AllByRecursion (λ c. SharesNone (meta_names c.want.files) ns) r.copies.running) (sym moved.step.of_merged.names_are)
          (copies_apart names all.1.source means cells r mine.whole board.rows n
          (others_apart cells q shows.whole merged moved.step.merges.m moved.step.merges.found made.0 made.1 b.log board.rows (merges_at q moved.at.held moved.at.there).merges) sent);
      pending = subst (λ (ns : List Name). SharesNone (meta_names r.copies.pending.files) ns) (sym moved.step.of_merged.names_are)
          (pending_apart names all.1.source means cells r mine.whole (merged_lasts cells q shows.whole merged moved.step.merges.m moved.step.merges.found made.0 made.1) own.sourced.held);
    }
      where
        shown : PlaceShows cells b.log n (record { node = Replica r; held = held })
        shown = some_at (PlaceShows cells b.log n) (place_of old n) (record { node = Replica r; held = held }) there (all.0.each n at)

        mine : ReplicaShows cells (printed b.log) n r
        mine = shown.node_shows

        own : ReplicaFiles all.1.source cells b.log n r
        own = some_at (λ z. NodeFiles all.1.source cells b.log (λ o. jobs_like old o b.nodes) n z.node) (place_of old n) (record { node = Replica r; held = held }) there (all.1.each n at)

        sent : AreSentCopies board.rows n r.copies.running
        sent = some_at (λ z. NodeMerges b.log b.cut (λ o. jobs_like old o b.nodes) board.rows n z.node) (place_of old n) (record { node = Replica r; held = held }) there (all.2.each n at)

    module _ (copy : CopyState) (copied : copy ≡ state) (nodes : List NodeNo) (are : AreReplicas b.nodes (printed b.log) nodes) where
      pub is_copy : IsCopyState copy
      is_copy = subst (λ (c : CopyState). IsCopyState c) (sym copied) moved.step.copy

      -- and to each
      pub may_send_all : MaySendAll copy nodes new
      may_send_all = subst (λ (c : CopyState). MaySendAll c nodes new) (sym copied) (record { each = λ k d within. may_one (get_or nodes k d) (are.each k d within); ascending = are.ascending })
        where
          may_one : (n : NodeNo) → IsNode b.nodes n.0 × IsReplica (printed b.log) n.0 → IsReplicaIn (MaySend state) n.0 new
          may_one n is = record {
            slot = (is.0.0, subst (λ (k : ℕ). n.0 ≤ k) (sym (moved.moves.count ∙ all.0.count)) is.0.1);
            replica = subst (λ (o : Option (NodePlace D)). HasReplica o) (sym same) (replica_there n.0 is.0 is.1);
            may = λ r held there. may_send n.0 r held is.0 (sym same ∙ there);
          }
            where
              same : place_of new n.0 ≡ place_of old n.0
              same = other_place p.0 (record { node = Primary s; held = moved.at.held }) old new n.0 moved.moves (apart_from n.0 is.1)

      module _ (after : Board) (rows : after.rows ≡ with_spread seg.0 (Some (spread_to state [])) board.rows) (posted : after.posted ≡ board.posted) (counts : after.counts ≡ board.counts) where
        -- the row has the copy state
        pub written_at : spread_at (open_merge seg.0 after.rows) ≡ Some (spread_to copy [])
        written_at = ap (λ (l : List OpenMerge). spread_at (open_merge seg.0 l)) rows ∙ (ap spread_at (open_with board.rows seg.0 (Some (spread_to state [])) row.row row.there seg.0)
            ∙ (ap (λ (t : Bool). spread_at (if t then Some (record row.row { spread = Some (spread_to state []) }) else open_merge seg.0 board.rows)) (eq-eqb seg.0 seg.0 refl) ∙ ap (λ (c : CopyState). Some (spread_to c [])) (sym copied)))

        written_all : FilesLast → AllShown cells b after new
        written_all lasting = (
          shows_written cells b.nodes b.log old new p.0 merged state q s moved.at.held moved.moves node moved.at.there moved.step all.0,
          files_more cells b.nodes b.log old new p.0 q s moved.at.held lasting (written_more cells merged state q s moved.step) holds low outs away moved.moves node moved.at.there all.0 all.1,
          stand_written cells b.nodes b.log b.cut board after old new p.0 merged state q s moved.at.held row.row moved.moves node moved.at.there here all.0 moved.step
              (ap (λ (g : SegNo). open_merge g.0 board.rows) number ∙ row.there) row.none (rows ∙ ap (λ (g : SegNo). with_spread g.0 (Some (spread_to state [])) board.rows) (sym number)) posted counts all.2,
        )
          where
            holds : HoldsFrom cells (printed b.log) (Primary q) (Primary s)
            holds = holds_same cells (printed b.log) (Primary q) (Primary s) (ap (λ (z : PrimaryParts D). z.searchers.tickets) moved.step.others)
                (ap (λ (z : PrimaryParts D). loose_of z) moved.step.others ∙ (ap (λ (ms : List Merging). publish_loose q.publish ++ merge_loose ms) moved.step.merges.merges
                ∙ ap (λ (l : List ℕ). publish_loose q.publish ++ l) (loose_with merged (moved.step.merges.m.names ++ names_of merged.files.files) q.merges)))

            low : (source : Name → Content) → HeldReadAs source (cells q.dir) q.files → HoldsLow source s.files (printed b.log)
            low source held = written_low cells merged state moved.step.merges.m.task q s (printed b.log) moved.step made.1 small shows.whole source held

            outs : (o : Out) → jobs_like old o b.nodes ≤ states_like o s.states
            outs o = let least = files.outs o in let more = written_outs cells merged state q s moved.step o in omega (arith, least, more)

        module _ (sent : List Sent) (last : Board) (places : List (Option (NodePlace D))) (sends : SendsAll cells seg.0 copy nodes sent after last new places) where
          -- the row has the copies
          sent_at : spread_at (open_merge seg.0 last.rows) ≡ Some (spread_to copy sent)
          sent_at = spread_with after.rows last.rows seg.0 (spread_to copy []) (spread_to copy sent) written_at sends.rows

          pub has_spread : IsSome (spread_at (open_merge seg.0 last.rows))
          has_spread = is_spread (spread_at (open_merge seg.0 last.rows)) (spread_to copy sent) sent_at

          -- as many places as nodes
          pub sent_count : FilesLast → length places ≡ b.nodes
          sent_count lasting = (sends.shown b (ap (λ (c : CopyState). c.primary_gen.0) copied ∙ generation) (λ k d within. (are.each k d within).0) (written_all lasting)).0.count

          -- the primary tells the same
          primary_same : TellsAll old new
          primary_same = primary_all p.0 s old new moved.at moved.moves (ap (λ (z : PrimaryParts D). z.commits) moved.step.others)
              ((λ i. map (size_by (merge_inputs ((ap (λ (z : PrimaryParts D). z.merges) moved.step.others) i))) ((ap (λ (z : PrimaryParts D). z.infos.segs) moved.step.others) i))
              ∙ ap (λ (l : List SegNo). map (size_by l) q.infos.segs) (ap merge_inputs moved.step.merges.merges ∙ inputs_with merged (moved.step.merges.m.names ++ names_of merged.files.files) q.merges))

          sends_told : FilesLast → TellsSends b.log copy sent old places
          sends_told lasting = told_before b.log copy sent old new places primary_same (sends.told b (ap (λ (c : CopyState). c.primary_gen.0) copied ∙ generation) (λ k d within. (are.each k d within).0) (written_all lasting))

          pub as_many : length sent ≡ length nodes
          as_many = sym (length-map sent (λ (x : Sent). x.node)) ∙ ap length sends.to

          module _ (line : LineNo) (by : Option At) (at : At) (olds news : List (ℕ × ℕ)) (b2 b3 : Sheet) (e2 : b2.log ≡ begun_log line sent (with_met true at 1 olds news b.log)) (n2 : b2.nodes ≡ b.nodes) (c2 : b2.cut ≡ b.cut)
              (e3 : b3.log ≡ kept (TaskEnd line seg by MergeStep true) ∷ b2.log) (n3 : b3.nodes ≡ b2.nodes) (c3 : b3.cut ≡ b2.cut) (done ended : Board) (done_rows : done.rows ≡ with_spread seg.0 (all_sent (spread_at (open_merge seg.0 last.rows))) last.rows)
              (done_posted : done.posted ≡ (last.posted ++ posts_of seg line (sent_left (spread_at (open_merge seg.0 last.rows)))) ++ post_after seg line (sent_left (spread_at (open_merge seg.0 last.rows)))) (done_counts : done.counts ≡ last.counts)
              (ended_rows : ended.rows ≡ done.rows) (ended_posted : ended.posted ≡ done.posted) (ended_counts : (x : At) → done_under x ended.counts ≡ done_under x done.counts + counts_one x by) where
            pub ready_all : FilesLast → AllShown cells b3 ended places
            ready_all lasting = post_path cells b2 b3 places last ended line seg by e3 n3 c3
                (subst (λ (o : Option Spread). IsSomeAnd o (λ z. (z.all ≡ false) × (length z.left < b2.nodes))) (sym sent_at) (refl, few)) (ended_rows ∙ done_rows) (ended_posted ∙ done_posted)
                (λ x. ended_counts x ∙ ap (λ (l : List DrainCount). done_under x l + counts_one x by) done_counts)
                (begun_all cells (behind at olds news b) b2 places last line sent e2 n2 c2
                (all_behind at olds news cells b last places (sends.shown b (ap (λ (c : CopyState). c.primary_gen.0) copied ∙ generation) (λ k d within. (are.each k d within).0) (written_all lasting))))
              where
                few : length sent < b2.nodes
                few = let many = as_many in let less = few_replicas b.nodes (printed b.log) p.0 nodes node here are in let size : b2.nodes ≡ b.nodes = n2 in omega (arith, many, less, size)

            abbrev full : Spread
            full = record { state = copy; left = sent; all = true }

            all_at : all_sent (spread_at (open_merge seg.0 last.rows)) ≡ Some full
            all_at = ap all_sent sent_at

            ended_rows_are : ended.rows ≡ with_spread seg.0 (Some full) board.rows
            ended_rows_are = ended_rows ∙ (done_rows ∙ (ap (λ (o : Option Spread). with_spread seg.0 o last.rows) all_at
                ∙ (ap (λ (l : List OpenMerge). with_spread seg.0 (Some full) l) sends.rows ∙ (with_last after.rows seg.0 (Some full) (Some (spread_to copy sent))
                ∙ (ap (λ (l : List OpenMerge). with_spread seg.0 (Some full) l) rows ∙ with_last board.rows seg.0 (Some full) (Some (spread_to state [])))))))

            ended_posted_are : ended.posted ≡ (board.posted ++ posts_of seg line sent) ++ post_after seg line sent
            ended_posted_are = ended_posted ∙ (done_posted ∙ (ap (λ (o : Option Spread). (last.posted ++ posts_of seg line (sent_left o)) ++ post_after seg line (sent_left o)) sent_at
                ∙ ap (λ (l : List Posted). (l ++ posts_of seg line sent) ++ post_after seg line sent) (sends.posted ∙ posted)))

            -- what callers are told of it
            pub built_told : FilesLast → TellsBuilt b.log (spread_at (open_merge seg.0 ended.rows)) old places
            built_told lasting = subst (λ (o : Option Spread). TellsBuilt b.log o old places)
                (sym (ap (λ (l : List OpenMerge). spread_at (open_merge seg.0 l)) ended_rows_are ∙ (ap spread_at (open_with board.rows seg.0 (Some full) row.row row.there seg.0)
                ∙ ap (λ (t : Bool). spread_at (if t then Some (record row.row { spread = Some full }) else open_merge seg.0 board.rows)) (eq-eqb seg.0 seg.0 refl))))
                (sends_told lasting)

            -- what the call makes of it
            pub writes_merge : WritesBehind at line seg by olds news b b3 board ended
            writes_merge = record {
              state = copy;
              sent = sent;
              replicas = subst (λ (ns : List NodeNo). AreReplicas b.nodes (printed b.log) ns) (sym sends.to) are;
              log = e3 ∙ ap (λ (l : Log). kept (TaskEnd line seg by MergeStep true) ∷ l) e2;
              nodes = n3 ∙ n2;
              rows = ended_rows_are;
              posted = ended_posted_are;
            }
