-- Merges stand over what calls do: a node or two were moved, and an entry was appended.
use Rattle.std.proofs.Common.{◌≡◌, ◌≢◌, ◌≤◌, ◌+◌, ◌==◌, ℕ, Bool, true, false, true≢false, List, [], ◌∷◌, Some, None, Option, Vec, Global, refl, ap, ◌∙◌, sym, subst, arith, if◌then◌else◌, nat_lt}
use Rattle.std.specs.Prelude.{not, IsSomeAnd}
use Rattle.std.proofs.lemmas.Bool.{eqb-true, eq-eqb}
use Rattle.nrt_base.specs.declared.numbers.At.{At}
use Rattle.nrt_base.specs.declared.numbers.NodeNo.{NodeNo}
use Rattle.nrt_base.specs.declared.numbers.Gen.{Gen}
use Rattle.nrt_base.specs.declared.numbers.Version.{Version}
use Rattle.disk_model.specs.Disk.{Name, Cells}
use Rattle.seg_reader.specs.Shown.{Shown}
use Rattle.copy_state.specs.declared.state.CopyState.{CopyState}
use Rattle.copy_state.specs.States.{meta_names}
use Rattle.copy_job.specs.Jobs.{Job}
use Rattle.index_primary.specs.declared.parts.PrimaryParts.{PrimaryParts}
use Rattle.index_primary.specs.declared.states.Merging.{Merging}
use Rattle.index_primary.specs.declared.states.Out.{Out}
use Rattle.index_primary.specs.Merges.{merge_of}
use Rattle.replica_node.specs.declared.merges.MergeCopies.{MergeCopies}
use Rattle.replica_node.specs.declared.parts.ReplicaParts.{ReplicaParts}
use Rattle.replica_node.specs.Merges.{copy_at, copies_without, CopyApart, AreCopiesApart, no_copies}
use Rattle.replica_node.proofs.Merging.{number_at, all_at}
use Rattle.cluster_nodes.specs.Given.{overlaps, copies_beside}
use Rattle.history_rules.specs.declared.entry.Event.{Event}
use Rattle.history_rules.specs.declared.entry.Event.TheVariants.{Crashed, Promoted, Published, Merging as MergingEvent, Drained}
use Rattle.history_rules.specs.Nodes.{IsNode, is_at, primary_of}
use Rattle.history_book.specs.Log.{Log, printed, shown}
use Rattle.merge_tasks.specs.Merging.{Sheet}
use Rattle.merge_tasks.specs.declared.tasks.OpenMerge.{OpenMerge}
use Rattle.merge_tasks.specs.TaskLog.{inputs_out, leaves_merges, is_drained}
use Rattle.merge_tasks.specs.Board.{Board, open_merge, TasksShow}
use Rattle.merge_tasks.proofs.TaskFrames.{tasks_still}
use Rattle.cluster_nodes.specs.declared.held.HeldTicket.{HeldTicket}
use Rattle.cluster_nodes.specs.declared.nodes.Node.{Node}
use Rattle.cluster_nodes.specs.declared.nodes.Node.TheVariants.{Primary, Replica, Down}
use Rattle.cluster_nodes.specs.declared.nodes.NodePlace.{NodePlace}
use Rattle.cluster_nodes.specs.Places.{place_of}
use Rattle.cluster_nodes.specs.Outs.{want_of, want_at, states_like, jobs_like}
use Rattle.cluster_nodes.specs.Changes.{KeepsNode}
use Rattle.cluster_nodes.specs.KeptFiles.{KeepsNodeFiles}
use Rattle.cluster_nodes.specs.JobChanges.{copies_begun}
use Rattle.cluster_nodes.specs.JobPlaces.{MovesOne, MovesBoth}
use Rattle.cluster_nodes.proofs.OutCounts.{jobs_same}
use Rattle.cluster_state.specs.Run.{Run, Rest}
use Rattle.cluster_state.specs.State.{NodeShows, PlaceShows, Shows}
use Rattle.cluster_state.specs.Files.{NodeFiles, FilesShow}
use Rattle.cluster_state.specs.Moves.{moves}
use Rattle.cluster_state.specs.Merging.{AreMergedAlike, RunsNoOther, PrimaryMerges, NodeMerges, MergesStand, KeepsMerges, PlaceKeepsMerges, KeepAllMerges, spreads_like}
use Rattle.cluster_state.proofs.Growing.{test_apart}
use Rattle.cluster_state.proofs.Frames.{PutsBack, some_at}
use Rattle.cluster_state.proofs.FileFrames.{some_both, one_each, put_one, this_place, wants_same}
use Rattle.cluster_state.proofs.Ledgers.{asked_size}
use Rattle.cluster_state.proofs.MergingStill.{alike_more, runs_same, primary_keeps, replica_keeps, one_keeps, stand_shown, stand_same}

-- ---- the parts of what is true of a cluster

-- what its nodes are, and their files
pub two_parts : {X A B C : Type 0} → (X → A × B × C) → X → A × B
two_parts all x = ((all x).0, (all x).1)

-- these, and what is true of merges
pub three_parts : {A B C : Type 0} → A × B → C → A × B × C
three_parts both merges = (both.0, both.1, merges)

-- what was true of merges of a cluster that ran
pub third_at : {A B C : Type 0} {r : Run} {ended : Bool} {nodes : ℕ} {log : Log} {rest : Rest} → record { ended = ended; nodes = nodes; log = log; rest = rest } ≡ r → r.ended ≡ false → (ended ≡ false → A × B × C) → C
third_at view running all = (all (ap (λ (x : Run). x.ended) view ∙ running)).2

-- an entry that moves no node and is no drain's reply leaves merges
pub still_leaves : (e : Event) (p : Option NodeNo) → ((q : Option NodeNo) (m : ℕ) → moves e q m ≡ false) → is_drained e ≡ false → leaves_merges e p ≡ true
still_leaves (MergingEvent seg) p still drains = absurd (true≢false (still (Some (record { 0 = 0 })) 0))
still_leaves (Drained done most) p still drains = absurd (true≢false drains)
still_leaves (Crashed m) p still drains = absurd (true≢false (sym (eq-eqb m.0 m.0 refl) ∙ still p m.0))
still_leaves e p still drains = refl

-- ---- copies of merged segments where a job begins

beside_at : (names : List Name) (cs : List Job) → AreCopiesApart cs → (k : ℕ) (c : Job) → copy_at k (copies_beside names cs) ≡ Some c → copy_at k cs ≡ Some c
beside_at names [] apart k c at = at
beside_at names (x ∷ xs) apart k c at = left (beside_at names xs apart.1 k c) (not (overlaps names x)) (x.number == k) refl at
  where
    left : (copy_at k (copies_beside names xs) ≡ Some c → copy_at k xs ≡ Some c) → (b t : Bool) → (x.number == k) ≡ t → copy_at k (if b then x ∷ copies_beside names xs else copies_beside names xs) ≡ Some c → (if t then Some x else copy_at k xs) ≡ Some c
    left more true true e got = sym (ap (λ (u : Bool). if u then Some x else copy_at k (copies_beside names xs)) e) ∙ got
    left more true false e got = more (sym (ap (λ (u : Bool). if u then Some x else copy_at k (copies_beside names xs)) e) ∙ got)
    left more false true e got =
        let held = more got in
        absurd ((all_at (CopyApart x) k xs c held apart.0).numbers (eqb-true x.number k e ∙ sym (number_at k xs c held)))
    left more false false e got = more got

-- a copy that is left once one has ended ran
pub at_without : (number : ℕ) (cs : List Job) (k : ℕ) (c : Job) → AreCopiesApart cs → copy_at k (copies_without number cs) ≡ Some c → copy_at k cs ≡ Some c
at_without number [] k c apart at = at
at_without number (x ∷ xs) k c apart at = by (x.number == number) (x.number == k) refl (λ there. at_without number xs k c apart.1 there) at
  where
    by : (b t : Bool) → (x.number == k) ≡ t → (copy_at k (copies_without number xs) ≡ Some c → copy_at k xs ≡ Some c) → copy_at k (if b then xs else x ∷ copies_without number xs) ≡ Some c → (if t then Some x else copy_at k xs) ≡ Some c
    by true true e more got = absurd ((all_at (CopyApart x) k xs c got apart.0).numbers (eqb-true x.number k e ∙ sym (number_at k xs c got)))
    by true false e more got = got
    by false true e more got = sym (ap (λ (u : Bool). if u then Some x else copy_at k (copies_without number xs)) e) ∙ got
    by false false e more got = more (sym (ap (λ (u : Bool). if u then Some x else copy_at k (copies_without number xs)) e) ∙ got)

-- and the one that ended does not run
pub gone_without : (number : ℕ) (cs : List Job) → AreCopiesApart cs → copy_at number (copies_without number cs) ≡ None
gone_without number cs apart = by (copy_at number (copies_without number cs)) refl
  where
    first : (xs : List Job) → AreCopiesApart xs → (c : Job) → copy_at number (copies_without number xs) ≡ Some c → ⊥
    first [] apart c at = absurd (cc)
    first (x ∷ xs) apart c at = tests (x.number == number) refl at (λ d there. first xs apart.1 d there)
      where
        tests : (b : Bool) → (x.number == number) ≡ b → copy_at number (if b then xs else x ∷ copies_without number xs) ≡ Some c → ((d : Job) → copy_at number (copies_without number xs) ≡ Some d → ⊥) → ⊥
        tests true e got more = (all_at (CopyApart x) number xs c got apart.0).numbers (eqb-true x.number number e ∙ sym (number_at number xs c got))
        tests false e got more = more c (sym (ap (λ (u : Bool). if u then Some x else copy_at number (copies_without number xs)) e) ∙ got)

    by : (o : Option Job) → copy_at number (copies_without number cs) ≡ o → copy_at number (copies_without number cs) ≡ None
    by None e = e
    by (Some c) e = absurd (first cs apart c e)

-- what is left of the copies where a job of this state begins ran
pub begun_runs : (seen : ℕ) (state : CopyState) (c : MergeCopies) → AreCopiesApart c.running → RunsNoOther c.running (copies_begun seen state c).running
begun_runs seen state c apart = by (nat_lt seen state.primary_gen.0)
  where
    by : (b : Bool) → RunsNoOther c.running (copies_beside (meta_names state.files) (if b then no_copies else c).running)
    by true k d at = let no : ◌≡◌ {A = Option Job} None (Some d) = at in absurd (cc)
    by false k d at = subst (λ (o : Option Job). IsSomeAnd o (λ e. d.want ≡ e.want)) (sym (beside_at (meta_names state.files) c.running apart k d at)) refl

module _ {D : Type 0} where
  keeps_at : (jobs count : Out → ℕ) (a b : Option (NodePlace D)) (u x : NodePlace D) → a ≡ Some u → b ≡ Some x → KeepsMerges jobs count u.node x.node → PlaceKeepsMerges jobs count a b
  keeps_at jobs count a b u x ea eb keeps = subst (λ (z : Option (NodePlace D) × Option (NodePlace D)). PlaceKeepsMerges jobs count z.0 z.1) (λ i. (sym ea i, sym eb i)) keeps

module _ {D : Type 0} (cells : D → Cells) where
  -- a node beside the primary is as before, whatever becomes of copy states
  other_keeps : (log : Log) (m : ℕ) (jobs count : Out → ℕ) (x : Node D) → is_at (primary_of (printed log)) m ≡ false → NodeShows cells log m x → KeepsMerges jobs count x x
  other_keeps log m jobs count (Primary p) other is = absurd (true≢false (sym is.primary ∙ other))
  other_keeps log m jobs count (Replica r) other is = runs_same r.copies.running
  other_keeps log m jobs count (Down d) other is = tt

  -- the primary and another node were moved
  pub both_keep : (size : ℕ) (log : Log) (old new : List (Option (NodePlace D))) (p n : ℕ) (x y u v : NodePlace D) → MovesBoth p n x y old new → place_of old p ≡ Some u → place_of old n ≡ Some v
      → is_at (primary_of (printed log)) p ≡ true → Shows cells log size old → KeepsMerges (λ s. jobs_like old s size) (λ s. jobs_like new s size) u.node x.node → KeepsMerges (λ s. jobs_like old s size) (λ s. jobs_like new s size) v.node y.node
      → KeepAllMerges size old new
  both_keep size log old new p n x y u v moves there_p there_n primary shows first second m node = tests (n == m) (p == m) refl refl
    where
      jobs : Out → ℕ
      jobs s = jobs_like old s size

      count : Out → ℕ
      count s = jobs_like new s size

      others : is_at (primary_of (printed log)) m ≡ false → (o : Option (NodePlace D)) → IsSomeAnd o (PlaceShows cells log m) → PlaceKeepsMerges jobs count o o
      others away None none = absurd none
      others away (Some z) is = other_keeps log m jobs count z.node away is.node_shows

      tests : (b c : Bool) → (n == m) ≡ b → (p == m) ≡ c → PlaceKeepsMerges jobs count (place_of old m) (place_of new m)
      tests true c here q = keeps_at jobs count (place_of old m) (place_of new m) v y (ap (place_of old) (sym (eqb-true n m here)) ∙ there_n)
          (moves.there m ∙ ap (λ (b : Bool). if b then Some y else if p == m then Some x else place_of old m) here) second
      tests false true apart here = keeps_at jobs count (place_of old m) (place_of new m) u x (ap (place_of old) (sym (eqb-true p m here)) ∙ there_p)
          (moves.there m ∙ (ap (λ (b : Bool). if b then Some y else if p == m then Some x else place_of old m) apart ∙ ap (λ (b : Bool). if b then Some x else place_of old m) here)) first
      tests false false apart away = subst (λ (o : Option (NodePlace D)). PlaceKeepsMerges jobs count (place_of old m) o)
          (sym (moves.there m ∙ (ap (λ (b : Bool). if b then Some y else if p == m then Some x else place_of old m) apart ∙ ap (λ (b : Bool). if b then Some x else place_of old m) away)))
          (others (test_apart (primary_of (printed log)) p m away primary) (place_of old m) (shows.each m node))

  -- ---- a node of which a ticket was opened or closed

  -- its job is as it was
  pub like_want : (x y : NodePlace D) → KeepsNode cells x.node y.node → want_at (Some y) ≡ want_at (Some x)
  like_want x y = by x.node y.node
    where
      by : (a b : Node D) → KeepsNode cells a b → want_at (Some (record { node = b; held = y.held })) ≡ want_at (Some (record { node = a; held = x.held }))
      by (Primary p) (Primary q) keeps = refl
      by (Replica r) (Replica s) keeps = ap (λ (z : ReplicaParts D). want_of z.job) keeps.0
      by (Down d) (Down e) keeps = refl
      by (Primary p) (Replica s) keeps = absurd keeps
      by (Primary p) (Down e) keeps = absurd keeps
      by (Replica r) (Primary q) keeps = absurd keeps
      by (Replica r) (Down e) keeps = absurd keeps
      by (Down d) (Primary q) keeps = absurd keeps
      by (Down d) (Replica s) keeps = absurd keeps

  -- and so are its merges
  pub like_keeps : (x y : Node D) → KeepsNode cells x y → KeepsNodeFiles cells x y → (jobs count : Out → ℕ) → ((s : Out) → count s ≤ jobs s) → KeepsMerges jobs count x y
  like_keeps (Primary p) (Primary q) keeps files jobs count low =
      primary_keeps jobs count p q (ap (λ (z : PrimaryParts D). z.merges) keeps.0) (ap (λ (z : PrimaryParts D). z.has_cut_over) keeps.0) files.1 low
  like_keeps (Replica r) (Replica s) keeps files jobs count low = replica_keeps jobs count r s (ap (λ (z : ReplicaParts D). z.copies.running) keeps.0)
  like_keeps (Down d) (Down e) keeps files jobs count low = tt
  like_keeps (Primary p) (Replica s) keeps files jobs count low = absurd keeps
  like_keeps (Primary p) (Down e) keeps files jobs count low = absurd keeps
  like_keeps (Replica r) (Primary q) keeps files jobs count low = absurd keeps
  like_keeps (Replica r) (Down e) keeps files jobs count low = absurd keeps
  like_keeps (Down d) (Primary q) keeps files jobs count low = absurd keeps
  like_keeps (Down d) (Replica s) keeps files jobs count low = absurd keeps

  -- ---- one place was taken out and put back

  module _ (board : Board) (r : Run) (ended : Bool) (b0 b1 : Sheet) (old mid new : List (Option (NodePlace D))) (n : ℕ) (x y : NodePlace D) {rest : Rest} (view : record { ended = ended; nodes = b0.nodes; log = b0.log; rest = rest } ≡ r)
      (e1 : b1.log ≡ b0.log) (n1 : b1.nodes ≡ b0.nodes) (c1 : b1.cut ≡ b0.cut) (node : IsNode r.nodes n) (put : PutsBack cells old mid new n x) (there : place_of old n ≡ Some y) (want : want_at (Some x) ≡ want_at (Some y))
      (keeps : (jobs count : Out → ℕ) → ((s : Out) → count s ≤ jobs s) → KeepsMerges jobs count y.node x.node) (was : MergesStand b0.log b0.cut b0.nodes board old) where
    put_keeps : KeepAllMerges b0.nodes old new
    put_keeps = one_keeps b0.nodes board b0.log b0.cut old new n x y (put_one cells n x old mid new put) (asked_size (λ (k : ℕ). IsNode k n) view refl node) there want keeps was

    -- and an entry was appended
    pub put_shown : (b2 : Sheet) (at : At) (e : Event) → b2.log ≡ shown at e ∷ b1.log → b2.nodes ≡ b1.nodes → b2.cut ≡ b1.cut → leaves_merges e (primary_of (printed b0.log)) ≡ true → MergesStand b2.log b2.cut b2.nodes board new
    put_shown b2 at e e2 n2 c2 leaves = stand_shown board old new b0 b1 b2 at e e1 n1 c1 e2 n2 c2 leaves put_keeps was

    -- or none
    pub put_same : MergesStand b1.log b1.cut b1.nodes board new
    put_same = stand_same board old new b0 b1 e1 n1 c1 put_keeps was

  -- ---- publishes and promotions

  module _ (size : ℕ) (log : Log) (cut : Bool) (board : Board) (old new : List (Option (NodePlace D))) (n : ℕ) (q : PrimaryParts D) (held : Vec HeldTicket Global) (moves_one : MovesOne n (record { node = Primary q; held = held }) old new) (node : IsNode size n)
      (shows : Shows cells log size old) (was : MergesStand log cut size board old) where
    abbrev jobs_was : Out → ℕ
    jobs_was s = jobs_like old s size

    abbrev jobs_are : Out → ℕ
    jobs_are s = jobs_like new s size

    others_stand : (now : Log) (after : Bool) (m : ℕ) (x : Node D) → is_at (primary_of (printed log)) m ≡ false → NodeShows cells log m x → NodeMerges log cut jobs_was board.rows m x → NodeMerges now after jobs_are board.rows m x
    others_stand now after m (Primary p) away is merges = absurd (true≢false (sym is.primary ∙ away))
    others_stand now after m (Replica r) away is merges = merges
    others_stand now after m (Down d) away is merges = tt

    all_stand : (now : Log) (after : Bool) → ((m : ℕ) → (n == m) ≡ false → is_at (primary_of (printed log)) m ≡ false) → NodeMerges now after jobs_are board.rows n (Primary q)
        → (m : ℕ) → IsNode size m → IsSomeAnd (place_of new m) (λ z. NodeMerges now after jobs_are board.rows m z.node)
    all_stand now after away mine =
        one_each {P = λ m z. PlaceShows cells log m z × NodeMerges log cut jobs_was board.rows m z.node} {Q = λ m z. NodeMerges now after jobs_are board.rows m z.node} size n (record { node = Primary q; held = held }) old new moves_one
        (λ m at. some_both (place_of old m) (shows.each m at) (was.each m at) (λ z a b. (a, b)))
        (λ m z at apart both. others_stand now after m z.node (away m apart) both.0.node_shows both.1) mine

    -- a publish has ended: what was cut over is in the point
    pub stand_published : (at : At) (g : Gen) (v : Version) (p : PrimaryParts D) (before : Vec HeldTicket Global) → place_of old n ≡ Some (record { node = Primary p; held = before }) → is_at (primary_of (printed log)) n ≡ true
        → q.has_cut_over ≡ false → q.merges ≡ p.merges → q.states ≡ p.states → MergesStand (shown at (Published g v) ∷ log) false size board new
    stand_published at g v p before there primary uncut merges states = record {
      tasks = tasks_still size log board at (Published g v) refl was.tasks;
      fit = was.fit;
      each = all_stand now false (λ m apart. test_apart (primary_of (printed log)) n m apart primary) mine;
      vacant = λ none. absurd (true≢false (sym primary ∙ ap (λ (o : Option NodeNo). is_at o n) none));
    }
      where
        now : Log
        now = shown at (Published g v) ∷ log

        old_mine : PrimaryMerges log cut jobs_was board.rows p
        old_mine = some_at (λ z. NodeMerges log cut jobs_was board.rows n z.node) (place_of old n) (record { node = Primary p; held = before }) there (was.each n node)

        mine : PrimaryMerges now false jobs_are board.rows q
        mine = record {
          cut_over = uncut;
          merges = λ seg. subst (λ (ms : List Merging). AreMergedAlike now (merge_of seg ms) (open_merge seg board.rows)) (sym merges)
              (alike_more log now (λ k inputs is. is) (merge_of seg p.merges) (open_merge seg board.rows) (old_mine.merges seg));
          outs = λ s.
              let low = old_mine.outs s in
              let same : states_like s q.states ≡ states_like s p.states = ap (states_like s) states in
              let count : jobs_are s ≡ jobs_was s = jobs_same old new s size (λ k within. wants_same n (record { node = Primary q; held = held }) (record { node = Primary p; held = before }) old new moves_one there refl k) in
              omega (arith, low, same, count);
        }

    -- a replica was promoted: without a primary nothing was in flight, and nothing is
    pub stand_promoted : (at : At) (m : NodeNo) (g : Gen) (f v : Version) → primary_of (printed log) ≡ None → q.has_cut_over ≡ false → q.merges ≡ [] → FilesShow cells (shown at (Promoted m g f v) ∷ log) size new
        → MergesStand (shown at (Promoted m g f v) ∷ log) cut size board new
    stand_promoted at m g f v vacant uncut merges files = record {
      tasks = tasks_still size log board at (Promoted m g f v) refl was.tasks;
      fit = was.fit;
      each = all_stand now cut (λ k apart. ap (λ (o : Option NodeNo). is_at o k) vacant) mine;
      vacant = λ none. let no : ◌≡◌ {A = Option NodeNo} (Some m) None = none in absurd (cc);
    }
      where
        now : Log
        now = shown at (Promoted m g f v) ∷ log

        empty : (cut ≡ false) × ((board.posted ≡ []) × (board.rows ≡ []))
        empty = was.vacant vacant

        mine : PrimaryMerges now cut jobs_are board.rows q
        mine = record {
          cut_over = uncut ∙ sym empty.0;
          merges = λ seg. subst (λ (z : List Merging × List OpenMerge). AreMergedAlike now (merge_of seg z.0) (open_merge seg z.1)) (λ i. (sym merges i, sym empty.1.1 i)) tt;
          outs = λ s.
              let low = (some_at (λ z. NodeFiles files.source cells now jobs_are n z.node) (place_of new n) (record { node = Primary q; held = held }) (this_place n (record { node = Primary q; held = held }) old new moves_one) (files.each n node)).outs s in
              let none : spreads_like s board.rows ≡ 0 = ap (spreads_like s) empty.1.1 in
              omega (arith, low, none);
        }

  -- the same of a publish in the terms of a call
  pub put_published : (board : Board) (r : Run) (ended : Bool) (b0 b1 b2 : Sheet) (old mid new : List (Option (NodePlace D))) (n : NodeNo) (p q : PrimaryParts D) (held : Vec HeldTicket Global) (at : At) (g : Gen) (v : Version) {rest : Rest}
      → record { ended = ended; nodes = b0.nodes; log = b0.log; rest = rest } ≡ r → r.ended ≡ false → (ended ≡ false → Shows cells b0.log b0.nodes old) → b1.log ≡ b0.log → b1.nodes ≡ b0.nodes
      → b2.log ≡ shown at (Published g v) ∷ b1.log → b2.nodes ≡ b1.nodes → b2.cut ≡ false → IsNode r.nodes n.0 → primary_of (printed r.log) ≡ Some n → PutsBack cells old mid new n.0 (record { node = Primary q; held = held })
      → place_of old n.0 ≡ Some (record { node = Primary p; held = held }) → q.has_cut_over ≡ false → q.merges ≡ p.merges → q.states ≡ p.states → MergesStand b0.log b0.cut b0.nodes board old → MergesStand b2.log b2.cut b2.nodes board new
  put_published board r ended b0 b1 b2 old mid new n p q held at g v view running shows e1 n1 e2 n2 c2 node primary put there uncut merges states was =
      subst (λ (z : Log × (Bool × ℕ)). MergesStand z.0 z.1.0 z.1.1 board new) (λ i. (sym (e2 ∙ ap (λ (l : Log). shown at (Published g v) ∷ l) e1) i, (sym c2 i, sym (n2 ∙ n1) i)))
      (stand_published b0.nodes b0.log b0.cut board old new n.0 q held (put_one cells n.0 (record { node = Primary q; held = held }) old mid new put) (asked_size (λ (k : ℕ). IsNode k n.0) view refl node)
      (shows (ap (λ (x : Run). x.ended) view ∙ running)) was at g v p held there
      (ap (λ (x : Run). is_at (primary_of (printed x.log)) n.0) view ∙ (ap (λ (o : Option NodeNo). is_at o n.0) primary ∙ eq-eqb n.0 n.0 refl)) uncut merges states)
