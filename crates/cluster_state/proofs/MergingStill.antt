-- What is true of merges stays true over the entries and the calls that leave them.
use Rattle.std.proofs.Common.{◌≡◌, ◌≤◌, ◌+◌, ◌==◌, ℕ, Bool, true, false, true≢false, List, [], ◌∷◌, Some, None, Option, refl, ap, ◌∙◌, sym, subst, arith, if◌then◌else◌}
use Rattle.std.specs.Prelude.{not, IsSomeAnd}
use Rattle.std.proofs.lemmas.Bool.Decides.{nat_tests}
use Rattle.nrt_base.specs.declared.numbers.At.{At}
use Rattle.nrt_base.specs.declared.numbers.NodeNo.{NodeNo}
use Rattle.seg_reader.specs.Shown.{Shown}
use Rattle.copy_job.specs.Jobs.{Job}
use Rattle.index_primary.specs.declared.parts.PrimaryParts.{PrimaryParts}
use Rattle.index_primary.specs.declared.states.Merging.{Merging}
use Rattle.index_primary.specs.declared.states.Out.{Out}
use Rattle.index_primary.specs.Merges.{merge_of}
use Rattle.replica_node.specs.declared.parts.ReplicaParts.{ReplicaParts}
use Rattle.replica_node.specs.Merges.{copy_at}
use Rattle.history_rules.specs.declared.entry.Event.{Event}
use Rattle.history_rules.specs.declared.entry.Event.TheVariants.{Crashed, Promoted, Merging as MergingEvent, Drained}
use Rattle.history_rules.specs.Nodes.{IsNode, is_at, primary_of, primary_by}
use Rattle.history_book.specs.Log.{Log, printed, shown, kept}
use Rattle.history_book.specs.declared.inner.Inner.{Inner}
use Rattle.history_book.specs.declared.inner.Inner.TheVariants.{MergeOut, MergeEnd, TaskEnd}
use Rattle.merge_tasks.specs.Merging.{Sheet}
use Rattle.merge_tasks.specs.declared.tasks.OpenMerge.{OpenMerge}
use Rattle.merge_tasks.specs.TaskLog.{inputs_out, leaves_merges, leaves_tasks}
use Rattle.merge_tasks.specs.Board.{Board, open_merge, TasksShow}
use Rattle.merge_tasks.proofs.TaskFrames.{tasks_still, tasks_kept}
use Rattle.cluster_nodes.specs.declared.nodes.Node.{Node}
use Rattle.cluster_nodes.specs.declared.nodes.Node.TheVariants.{Primary, Replica, Down}
use Rattle.cluster_nodes.specs.declared.nodes.NodePlace.{NodePlace}
use Rattle.cluster_nodes.specs.Places.{place_of}
use Rattle.cluster_nodes.specs.Outs.{want_at, states_like, jobs_like}
use Rattle.cluster_nodes.specs.JobPlaces.{MovesOne, MovesBoth}
use Rattle.cluster_nodes.proofs.OutCounts.{jobs_same}
use Rattle.history_tables.proofs.RowLemmas.{by_test}
use Rattle.cluster_state.specs.Merging.{AreMergedAlike, AreSentCopies, IsSentCopy, RunsNoOther, PrimaryMerges, NodeMerges, MergesStand, KeepsPrimaryMerges, KeepsMerges, PlaceKeepsMerges, KeepAllMerges}
use Rattle.cluster_state.proofs.FileFrames.{other_place, wants_same}

-- what was handed out of merges stays so
abbrev pub InputsStay : Log → Log → Type 0
InputsStay log now = (seg : ℕ) (inputs : List Shown) → inputs_out seg log ≡ Some inputs → inputs_out seg now ≡ Some inputs

pub alike_more : (log now : Log) → InputsStay log now → (m : Option Merging) (row : Option OpenMerge) → AreMergedAlike log m row → AreMergedAlike now m row
alike_more log now more None None is = is
alike_more log now more (Some m) (Some row) is = record { inputs = more m.task.seg.0 m.task.inputs is.inputs; task = is.task; written = is.written }
alike_more log now more None (Some row) is = absurd is
alike_more log now more (Some m) None is = absurd is

-- copies that run, of those that were sent
pub sent_fewer : (rows : List OpenMerge) (n : ℕ) (old new : List Job) → RunsNoOther old new → AreSentCopies rows n old → AreSentCopies rows n new
sent_fewer rows n old new fewer sent k c at = by (copy_at k old) refl (fewer k c at)
  where
    by : (o : Option Job) → copy_at k old ≡ o → IsSomeAnd o (λ d. c.want ≡ d.want) → IsSentCopy rows n k c
    by None is none = absurd none
    by (Some d) is same = let was = sent k d is in record { seg = was.seg; spread = was.spread; row = was.row; sent = was.sent; want = same ∙ was.want }

pub runs_same : (running : List Job) → RunsNoOther running running
runs_same running k c at = subst (λ (o : Option Job). IsSomeAnd o (λ d. c.want ≡ d.want)) (sym at) refl

none_sent : (rows : List OpenMerge) (n : ℕ) (running : List Job) → running ≡ [] → AreSentCopies rows n running
none_sent rows n running none k c at = let no : ◌≡◌ {A = Option Job} None (Some c) = sym (ap (copy_at k) none) ∙ at in absurd (cc)

module _ {D : Type 0} where
  -- ---- one node

  pub node_stands : (log now : Log) (cut : Bool) (jobs count : Out → ℕ) (rows : List OpenMerge) (n : ℕ) → InputsStay log now → (x y : Node D) → KeepsMerges jobs count x y → NodeMerges log cut jobs rows n x → NodeMerges now cut count rows n y
  node_stands log now cut jobs count rows n more (Primary p) (Primary q) keeps is = record {
    cut_over = keeps.cut_over ∙ is.cut_over;
    merges = λ seg. subst (λ (ms : List Merging). AreMergedAlike now (merge_of seg ms) (open_merge seg rows)) (sym keeps.merges) (alike_more log now more (merge_of seg p.merges) (open_merge seg rows) (is.merges seg));
    outs = λ s. let more = keeps.outs s in let was = is.outs s in omega (arith, more, was);
  }
  node_stands log now cut jobs count rows n more (Replica r) (Replica s) keeps is = sent_fewer rows n r.copies.running s.copies.running keeps is
  node_stands log now cut jobs count rows n more (Down d) (Replica s) keeps is = none_sent rows n s.copies.running keeps
  node_stands log now cut jobs count rows n more (Primary p) (Down d) keeps is = tt
  node_stands log now cut jobs count rows n more (Replica r) (Down d) keeps is = tt
  node_stands log now cut jobs count rows n more (Down d) (Down e) keeps is = tt
  node_stands log now cut jobs count rows n more (Primary p) (Replica s) keeps is = absurd keeps
  node_stands log now cut jobs count rows n more (Replica r) (Primary q) keeps is = absurd keeps
  node_stands log now cut jobs count rows n more (Down d) (Primary q) keeps is = absurd keeps

  -- a node that is as it was
  pub node_keeps : (jobs count : Out → ℕ) (x : Node D) → ((s : Out) → count s ≤ jobs s) → KeepsMerges jobs count x x
  node_keeps jobs count (Primary p) low = record { cut_over = refl; merges = refl; outs = λ s. let less = low s in omega (arith, less) }
  node_keeps jobs count (Replica r) low = runs_same r.copies.running
  node_keeps jobs count (Down d) low = tt

  -- a primary whose merges and copy states are as they were
  pub primary_keeps : (jobs count : Out → ℕ) (p q : PrimaryParts D) → q.merges ≡ p.merges → q.has_cut_over ≡ p.has_cut_over → q.states ≡ p.states → ((s : Out) → count s ≤ jobs s) → KeepsMerges jobs count (Primary p) (Primary q)
  primary_keeps jobs count p q merges cut states low = record {
    cut_over = cut;
    merges = merges;
    outs = λ s. let less = low s in let same : states_like s q.states ≡ states_like s p.states = ap (states_like s) states in omega (arith, less, same);
  }

  -- a replica whose copies are as they were
  pub replica_keeps : (jobs count : Out → ℕ) (r s : ReplicaParts D) → s.copies.running ≡ r.copies.running → KeepsMerges jobs count (Replica r) (Replica s)
  replica_keeps jobs count r s same = subst (λ (l : List Job). RunsNoOther r.copies.running l) (sym same) (runs_same r.copies.running)

  -- ---- all nodes

  place_stands : (log now : Log) (cut : Bool) (jobs count : Out → ℕ) (rows : List OpenMerge) (n : ℕ) → InputsStay log now → (a b : Option (NodePlace D)) → PlaceKeepsMerges jobs count a b
      → IsSomeAnd a (λ z. NodeMerges log cut jobs rows n z.node) → IsSomeAnd b (λ z. NodeMerges now cut count rows n z.node)
  place_stands log now cut jobs count rows n more (Some x) (Some y) keeps is = node_stands log now cut jobs count rows n more x.node y.node keeps is
  place_stands log now cut jobs count rows n more None b keeps is = absurd is
  place_stands log now cut jobs count rows n more (Some x) None keeps is = absurd keeps

  -- merges stand over what leaves them
  pub stand_moved : (log now : Log) (cut : Bool) (size : ℕ) (board : Board) (old new : List (Option (NodePlace D))) → InputsStay log now → TasksShow size now board → (primary_of (printed now) ≡ None → primary_of (printed log) ≡ None)
      → KeepAllMerges size old new → MergesStand log cut size board old → MergesStand now cut size board new
  stand_moved log now cut size board old new more tasks vacant keeps s = record {
    tasks = tasks;
    fit = s.fit;
    each = λ n node. place_stands log now cut (λ s. jobs_like old s size) (λ s. jobs_like new s size) board.rows n more (place_of old n) (place_of new n) (keeps n node) (s.each n node);
    vacant = λ none. s.vacant (vacant none);
  }

  -- places that are as they were
  pub all_keep : (size : ℕ) (board : Board) (log : Log) (cut : Bool) (places : List (Option (NodePlace D))) → MergesStand log cut size board places → KeepAllMerges size places places
  all_keep size board log cut places s n node = by (place_of places n) (s.each n node)
    where
      by : (o : Option (NodePlace D)) → IsSomeAnd o (λ z. NodeMerges log cut (λ s. jobs_like places s size) board.rows n z.node) → PlaceKeepsMerges (λ s. jobs_like places s size) (λ s. jobs_like places s size) o o
      by None none = absurd none
      by (Some x) is = node_keeps (λ s. jobs_like places s size) (λ s. jobs_like places s size) x.node (λ s. omega arith)

  -- one node has moved, whose job is of the state that it was
  pub one_keeps : (size : ℕ) (board : Board) (log : Log) (cut : Bool) (old new : List (Option (NodePlace D))) (n : ℕ) (x y : NodePlace D) → MovesOne n x old new → IsNode size n → place_of old n ≡ Some y → want_at (Some x) ≡ want_at (Some y)
      → ((jobs count : Out → ℕ) → ((s : Out) → count s ≤ jobs s) → KeepsMerges jobs count y.node x.node) → MergesStand log cut size board old → KeepAllMerges size old new
  one_keeps size board log cut old new n x y moves node there want keeps s m at =
      by_test (n == m) (λ b. (n == m) ≡ b → PlaceKeepsMerges (λ s. jobs_like old s size) (λ s. jobs_like new s size) (place_of old m) (place_of new m)) here apart refl
    where
      low : (s : Out) → jobs_like new s size ≤ jobs_like old s size
      low s = let same = jobs_same old new s size (λ k within. wants_same n x y old new moves there want k) in omega (arith, same)

      here : (n == m) ≡ true → (n == m) ≡ true → PlaceKeepsMerges (λ s. jobs_like old s size) (λ s. jobs_like new s size) (place_of old m) (place_of new m)
      here is again =
          subst (λ (o : Option (NodePlace D)). PlaceKeepsMerges (λ s. jobs_like old s size) (λ s. jobs_like new s size) (place_of old m) o) (sym (moves.there m ∙ ap (λ (b : Bool). if b then Some x else place_of old m) is))
          (subst (λ (o : Option (NodePlace D)). PlaceKeepsMerges (λ s. jobs_like old s size) (λ s. jobs_like new s size) o (Some x)) (sym (ap (place_of old) (sym (same_number n m is)) ∙ there))
          (keeps (λ s. jobs_like old s size) (λ s. jobs_like new s size) low))
        where
          same_number : (a b : ℕ) → (a == b) ≡ true → a ≡ b
          same_number a b is = grind (arith, nat_tests, is)

      apart : (n == m) ≡ false → (n == m) ≡ false → PlaceKeepsMerges (λ s. jobs_like old s size) (λ s. jobs_like new s size) (place_of old m) (place_of new m)
      apart is again = subst (λ (o : Option (NodePlace D)). PlaceKeepsMerges (λ s. jobs_like old s size) (λ s. jobs_like new s size) (place_of old m) o) (sym (other_place n x old new m moves is)) (by (place_of old m) (s.each m at))
        where
          by : (o : Option (NodePlace D)) → IsSomeAnd o (λ z. NodeMerges log cut (λ s. jobs_like old s size) board.rows m z.node) → PlaceKeepsMerges (λ s. jobs_like old s size) (λ s. jobs_like new s size) o o
          by None none = absurd none
          by (Some z) is = node_keeps (λ s. jobs_like old s size) (λ s. jobs_like new s size) z.node low

-- ---- entries

-- where no primary runs behind such an entry, none ran before it
pub vacant_left : (e : Event) (p : Option NodeNo) → leaves_merges e p ≡ true → primary_by e p ≡ None → p ≡ None
vacant_left (Promoted m g f v) p leaves none = absurd (cc)
vacant_left (Crashed m) p leaves none = by (is_at p m.0) leaves none
  where
    by : (b : Bool) → not b ≡ true → (if b then None else p) ≡ None → p ≡ None
    by true e none = absurd (true≢false (sym e))
    by false e none = none
vacant_left e p leaves none = none

inputs_kept : (log : Log) (i : Inner) → leaves_tasks i ≡ true → InputsStay log (kept i ∷ log)
inputs_kept log (MergeOut line seg inputs sizes) leaves n x is = absurd (true≢false (sym leaves))
inputs_kept log i leaves n x is = is

module _ {D : Type 0} (board : Board) (old new : List (Option (NodePlace D))) where
  -- merges stand over a printed entry that leaves them
  pub stand_shown : (b0 b1 b2 : Sheet) (x : At) (e : Event) → b1.log ≡ b0.log → b1.nodes ≡ b0.nodes → b1.cut ≡ b0.cut → b2.log ≡ shown x e ∷ b1.log → b2.nodes ≡ b1.nodes → b2.cut ≡ b1.cut
      → leaves_merges e (primary_of (printed b0.log)) ≡ true → KeepAllMerges b0.nodes old new → MergesStand b0.log b0.cut b0.nodes board old → MergesStand b2.log b2.cut b2.nodes board new
  stand_shown b0 b1 b2 x e e1 n1 c1 e2 n2 c2 leaves keeps s =
      stand_is (e2 ∙ ap (λ (l : Log). shown x e ∷ l) e1) (c2 ∙ c1) (n2 ∙ n1)
      (stand_moved b0.log (shown x e ∷ b0.log) b0.cut b0.nodes board old new (λ seg inputs is. is) (tasks_still b0.nodes b0.log board x e leaves s.tasks)
      (vacant_left e (primary_of (printed b0.log)) leaves) keeps s)
    where
      stand_is : {now before : Log} {cut was : Bool} {size many : ℕ} → now ≡ before → cut ≡ was → size ≡ many → MergesStand before was many board new → MergesStand now cut size board new
      stand_is l c n is = subst (λ (z : Log × (Bool × ℕ)). MergesStand z.0 z.1.0 z.1.1 board new) (λ i. (sym l i, (sym c i, sym n i))) is

  -- and over one of inner work
  pub stand_kept : (b0 b1 : Sheet) (i : Inner) → b1.log ≡ kept i ∷ b0.log → b1.nodes ≡ b0.nodes → b1.cut ≡ b0.cut → leaves_tasks i ≡ true → KeepAllMerges b0.nodes old new
      → MergesStand b0.log b0.cut b0.nodes board old → MergesStand b1.log b1.cut b1.nodes board new
  stand_kept b0 b1 i e1 n1 c1 leaves keeps s =
      subst (λ (z : Log × (Bool × ℕ)). MergesStand z.0 z.1.0 z.1.1 board new) (λ j. (sym e1 j, (sym c1 j, sym n1 j)))
      (stand_moved b0.log (kept i ∷ b0.log) b0.cut b0.nodes board old new (inputs_kept b0.log i leaves) (tasks_kept b0.nodes b0.log board i leaves s.tasks) (λ none. none) keeps s)

  -- nothing was appended
  pub stand_same : (b0 b1 : Sheet) → b1.log ≡ b0.log → b1.nodes ≡ b0.nodes → b1.cut ≡ b0.cut → KeepAllMerges b0.nodes old new → MergesStand b0.log b0.cut b0.nodes board old → MergesStand b1.log b1.cut b1.nodes board new
  stand_same b0 b1 e1 n1 c1 keeps s =
      subst (λ (z : Log × (Bool × ℕ)). MergesStand z.0 z.1.0 z.1.1 board new) (λ j. (sym e1 j, (sym c1 j, sym n1 j)))
      (stand_moved b0.log b0.log b0.cut b0.nodes board old new (λ seg inputs is. is) s.tasks (λ none. none) keeps s)
