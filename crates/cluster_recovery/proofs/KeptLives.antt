-- What callers are told beside the log where the commit of one node moved, and where one node reopened.
use Rattle.std.proofs.Common.{◌≡◌, ◌==◌, ◌+◌, ◌-◌, ◌≤◌, ℕ, zero, suc, Bool, true, false, true≢false, List, [], ◌∷◌, map, length, get_or, Some, None, Option, Vec, Global, slice_get, refl, ap, ◌∙◌, sym, subst, arith}
use Rattle.std.specs.Prelude.{unwrap_or, IsSomeAnd, OnOk, Result, Ok, Err}
use Rattle.disk_model.specs.Disk.{Name, Cells}
use Rattle.disk_model.specs.Faults.{Plans}
use Rattle.segment_infos.specs.declared.infos.Infos.{Infos}
use Rattle.commit_steps.specs.declared.stage.CommitBook.{CommitBook}
use Rattle.commit_steps.specs.Book.{HasBegun}
use Rattle.history_rules.specs.Nodes.{IsNode, is_running}
use Rattle.history_book.specs.Log.{Log, printed}
use Rattle.index_primary.specs.declared.parts.PrimaryParts.{PrimaryParts}
use Rattle.replica_node.specs.declared.parts.ReplicaParts.{ReplicaParts}
use Rattle.merge_tasks.specs.Board.{Board}
use Rattle.cluster_nodes.specs.declared.held.HeldTicket.{HeldTicket}
use Rattle.cluster_nodes.specs.declared.nodes.Node.{Node}
use Rattle.cluster_nodes.specs.declared.nodes.Node.TheVariants.{Primary, Replica, Down}
use Rattle.cluster_nodes.specs.declared.nodes.NodePlace.{NodePlace}
use Rattle.cluster_nodes.specs.Commits.{AltersCommits, CommitsIn, StepsBook}
use Rattle.cluster_nodes.specs.Given.{merge_sizes}
use Rattle.cluster_nodes.specs.JobPlaces.{MovesOne}
use Rattle.cluster_nodes.specs.Places.{place_of, unwrapped}
use Rattle.cluster_state.specs.Run.{MergedCopy, Rest, Run, no_plans, calls_at, merged_at, names_at, plans_at, KeepsRest}
use Rattle.cluster_state.specs.Keeping.{TellsSameOfOthers, KeepsButCommit, KeepsButNode}
use Rattle.cluster_state.specs.CallsLeft.{own_calls, has_own, place_calls, with_own, calls_in}
use Rattle.cluster_state.specs.JobsIn.{job_files, place_files, jobs_in}
use Rattle.cluster_state.specs.MergedCopies.{told_copy, place_copies, copies_in}
use Rattle.cluster_state.specs.NamesIn.{names_in}
use Rattle.cluster_state.specs.PlansIn.{place_plans, plans_in}
use Rattle.cluster_state.specs.Sizes.{sizes_in}
use Rattle.cluster_state.specs.State.{NodeShows, PlaceShows, Shows}
use Rattle.cluster_state.proofs.JobsLeft.{files_are, files_same}
use Rattle.cluster_state.proofs.KeptOthers.{told_apart, told_one, merged_are}
use Rattle.cluster_state.proofs.MetStands.{plans_are}
use Rattle.cluster_state.proofs.NodeDirs.{names_apart, names_same}
use Rattle.cluster_recovery.specs.Commits.{CarriesIn}
use Rattle.cluster_state.proofs.RestKept.{first_sizes, place_sizes, sizes_first, map_same, TellsSame}

-- ---- the calls that commits still need

abbrev told_calls : Option ℕ → Bool → ℕ
told_calls None own = 0
told_calls (Some k) own = k + own_calls own

with_own_of : (carries : List Bool) (calls : List ℕ) (k : ℕ) → unwrap_or (slice_get (with_own carries calls) k) 0 ≡ told_calls (slice_get calls k) (get_or carries k false)
with_own_of [] [] k = refl
with_own_of (c ∷ carries) [] k = refl
with_own_of [] (y ∷ calls) k = alone (slice_get (y ∷ calls) k)
  where
    alone : (o : Option ℕ) → unwrap_or o 0 ≡ told_calls o false
    alone None = refl
    alone (Some x) = omega arith
with_own_of (c ∷ carries) (y ∷ calls) zero = refl
with_own_of (c ∷ carries) (y ∷ calls) (suc k) = with_own_of carries calls k

-- of all nodes but this one it is noted as before whether a line's own commit is still to begin
abbrev pub OwnsSame : ℕ → List Bool → List Bool → Type 0
OwnsSame n carries later = (m : ℕ) → 1 ≤ m → (n == m) ≡ false → has_own m later ≡ has_own m carries

pub owns_itself : (n : ℕ) (carries : List Bool) → OwnsSame n carries carries
owns_itself n carries m low apart = refl

module _ {D : Type 0} where
  same_slot : {X : Type 0} (f : Option (NodePlace D) → X) (old new : List (Option (NodePlace D))) (k : ℕ) → length new ≡ length old → f (unwrapped (slice_get new k)) ≡ f (unwrapped (slice_get old k)) → slice_get (map f new) k ≡ slice_get (map f old) k
  same_slot f [] [] k count is = refl
  same_slot f [] (y ∷ new) k count is = absurd (omega (arith, count))
  same_slot f (x ∷ old) [] k count is = absurd (omega (arith, count))
  same_slot f (x ∷ old) (y ∷ new) zero count is = ap Some is
  same_slot f (x ∷ old) (y ∷ new) (suc k) count is = same_slot f old new k (omega (arith, count)) is

  pub calls_others : (n : ℕ) (r now : Run) (carries later : List Bool) (old new : List (Option (NodePlace D))) → r.rest.calls_left ≡ calls_in carries old → now.rest.calls_left ≡ calls_in later new → length new ≡ length old
      → ((m : ℕ) → (n == m) ≡ false → place_calls (place_of new m) ≡ place_calls (place_of old m)) → OwnsSame n carries later → TellsSameOfOthers calls_at n r now
  calls_others n r now carries later old new was is count each owns zero apart = refl
  calls_others n r now carries later old new was is count each owns (suc k) apart =
      let before : suc k - 1 ≡ k = omega arith in
      let own : get_or later k false ≡ get_or carries k false = sym (ap (λ (j : ℕ). get_or later j false) before) ∙ (owns (suc k) (omega arith) apart ∙ ap (λ (j : ℕ). get_or carries j false) before) in
      ap (λ (l : List ℕ). unwrap_or (slice_get l k) 0) is
      ∙ (with_own_of later (map place_calls new) k
      ∙ ((λ i. told_calls (same_slot place_calls old new k count (each (suc k) apart) i) (own i))
      ∙ (sym (with_own_of carries (map place_calls old) k) ∙ sym (ap (λ (l : List ℕ). unwrap_or (slice_get l k) 0) was))))

-- ---- commits

module _ {D : Type 0} (cells : D → Cells) (planned : D → Plans) where
  -- callers are told the same of all places but for the calls and the disk of this one
  pub record MovesCommit (n : ℕ) (old new : List (Option (NodePlace D))) : Type 0 where
    pub count : length new ≡ length old
    pub sizes : (m : ℕ) → place_sizes (place_of new m) ≡ place_sizes (place_of old m)
    pub files : (m : ℕ) → place_files (place_of new m) ≡ place_files (place_of old m)
    pub copies : (m : ℕ) → place_copies (place_of new m) ≡ place_copies (place_of old m)
    pub calls : (m : ℕ) → (n == m) ≡ false → place_calls (place_of new m) ≡ place_calls (place_of old m)
    pub plans : (m : ℕ) → (n == m) ≡ false → place_plans planned (place_of new m) ≡ place_plans planned (place_of old m)
    pub others : (m : ℕ) → (n == m) ≡ false → place_of new m ≡ place_of old m

  pub none_commits : (n : ℕ) (places : List (Option (NodePlace D))) → MovesCommit n places places
  none_commits n places = record { count = refl; sizes = λ m. refl; files = λ m. refl; copies = λ m. refl; calls = λ m apart. refl; plans = λ m apart. refl; others = λ m apart. refl }

  pub then_commits : (n : ℕ) (a b c : List (Option (NodePlace D))) → MovesCommit n a b → MovesCommit n b c → MovesCommit n a c
  then_commits n a b c first second = record {
    count = second.count ∙ first.count;
    sizes = λ m. second.sizes m ∙ first.sizes m;
    files = λ m. second.files m ∙ first.files m;
    copies = λ m. second.copies m ∙ first.copies m;
    calls = λ m apart. second.calls m apart ∙ first.calls m apart;
    plans = λ m apart. second.plans m apart ∙ first.plans m apart;
    others = λ m apart. second.others m apart ∙ first.others m apart;
  }

  module _ (Step : Infos → CommitBook → CommitBook → Type 0) where
    node_sizes_stay : (x y : NodePlace D) → AltersCommits Step cells x.node y.node → place_sizes (Some y) ≡ place_sizes (Some x)
    node_sizes_stay x y = by x.node y.node x.held y.held
      where
        by : (a b : Node D) (held kept : Vec HeldTicket Global) → AltersCommits Step cells a b → place_sizes (Some (record { node = b; held = kept })) ≡ place_sizes (Some (record { node = a; held = held }))
        by (Primary p) (Primary q) held kept alters = ap (λ (z : PrimaryParts D). Some (merge_sizes z)) alters.0.others
        by (Replica r) (Replica s) held kept alters = refl
        by a b held kept alters = absurd alters

    node_files_stay : (x y : NodePlace D) → AltersCommits Step cells x.node y.node → place_files (Some y) ≡ place_files (Some x)
    node_files_stay x y = by x.node y.node x.held y.held
      where
        by : (a b : Node D) (held kept : Vec HeldTicket Global) → AltersCommits Step cells a b → place_files (Some (record { node = b; held = kept })) ≡ place_files (Some (record { node = a; held = held }))
        by (Primary p) (Primary q) held kept alters = refl
        by (Replica r) (Replica s) held kept alters = ap (λ (z : ReplicaParts D). job_files z.seen.0 z.job) alters.0.others
        by a b held kept alters = absurd alters

    node_copies_stay : (x y : NodePlace D) → AltersCommits Step cells x.node y.node → place_copies (Some y) ≡ place_copies (Some x)
    node_copies_stay x y = by x.node y.node x.held y.held
      where
        by : (a b : Node D) (held kept : Vec HeldTicket Global) → AltersCommits Step cells a b → place_copies (Some (record { node = b; held = kept })) ≡ place_copies (Some (record { node = a; held = held }))
        by (Primary p) (Primary q) held kept alters = refl
        by (Replica r) (Replica s) held kept alters = ap (λ (z : ReplicaParts D). map told_copy z.copies.running) alters.0.others
        by a b held kept alters = absurd alters

    pub one_commits : (n : ℕ) (old new : List (Option (NodePlace D))) → CommitsIn Step cells n old new → MovesCommit n old new
    one_commits n old new b =
        let y : NodePlace D = record { node = b.node; held = b.place.held } in
        record {
          count = b.moves.count;
          sizes = told_one place_sizes n y b.place old new b.there b.moves (node_sizes_stay b.place y b.alters);
          files = told_one place_files n y b.place old new b.there b.moves (node_files_stay b.place y b.alters);
          copies = told_one place_copies n y b.place old new b.there b.moves (node_copies_stay b.place y b.alters);
          calls = told_apart place_calls n y old new b.moves;
          plans = told_apart (place_plans planned) n y old new b.moves;
          others = told_apart (λ o. o) n y old new b.moves;
        }

  -- the one that was stopped was made, and the line's own began
  pub carried_commits : (n : ℕ) (old new : List (Option (NodePlace D))) → CarriesIn cells n old new → MovesCommit n old new
  carried_commits n old new b = then_commits n old b.mid new (one_commits (StepsBook true) n old b.mid b.made) (one_commits HasBegun n b.mid new b.begun)

-- ---- a node

module _ {D : Type 0} where
  -- callers are told the same of all places but this one, and the same sizes
  pub record MovesNode (n : ℕ) (old new : List (Option (NodePlace D))) : Type 0 where
    pub count : length new ≡ length old
    pub sizes : (m : ℕ) → place_sizes (place_of new m) ≡ place_sizes (place_of old m)
    pub others : (m : ℕ) → (n == m) ≡ false → TellsSame (place_of old m) (place_of new m)

  -- another stands in the place, of which the same sizes are told
  pub one_moves : (n : ℕ) (x y : NodePlace D) (old new : List (Option (NodePlace D))) → place_of old n ≡ Some x → MovesOne n y old new → place_sizes (Some y) ≡ place_sizes (Some x) → MovesNode n old new
  one_moves n x y old new there moves alike = record {
    count = moves.count;
    sizes = told_one place_sizes n y x old new there moves alike;
    others = λ m apart. record {
      calls = told_apart place_calls n y old new moves m apart;
      sizes = told_apart place_sizes n y old new moves m apart;
      files = told_apart place_files n y old new moves m apart;
      copies = told_apart place_copies n y old new moves m apart;
    };
  }

-- ---- in the terms of a call

module _ {D : Type 0} (planned : D → Plans) (names : D → List Name) (r now : Run) (carries later : List Bool) (cut after : Bool) (board : Board) (old new : List (Option (NodePlace D)))
    (was : record { calls_left = calls_in carries old; cut = cut; sizes = sizes_in old; jobs = jobs_in old; copies = copies_in old; tasks = board; plans = plans_in planned old; names = names_in names old } ≡ r.rest)
    (is : record { calls_left = calls_in later new; cut = after; sizes = sizes_in new; jobs = jobs_in new; copies = copies_in new; tasks = board; plans = plans_in planned new; names = names_in names new } ≡ now.rest) (same : after ≡ cut) where
  -- the commit of one node moved
  pub commit_kept : (cells : D → Cells) (n : ℕ) → MovesCommit cells planned n old new → OwnsSame n carries later → KeepsButCommit n r now
  commit_kept cells n t owns = record {
    rest =
        let sizes : sizes_in new ≡ sizes_in old = sizes_first new ∙ (ap first_sizes (map_same place_sizes old new t.count (λ k. t.sizes (suc k))) ∙ sym (sizes_first old)) in
        let jobs : jobs_in new ≡ jobs_in old = map_same place_files old new t.count (λ k. t.files (suc k)) in
        let copies : copies_in new ≡ copies_in old = map_same place_copies old new t.count (λ k. t.copies (suc k)) in
        sym is
        ∙ ((λ i. record { calls_left = calls_in later new; cut = same i; sizes = sizes i; jobs = jobs i; copies = copies i; tasks = board; plans = plans_in planned new; names = names_in names new })
        ∙ (λ i. record (was i) { calls_left = (is i).calls_left; plans = (is i).plans; names = (is i).names }));
    calls = calls_others n r now carries later old new (sym (ap (λ (x : Rest). x.calls_left) was)) (sym (ap (λ (x : Rest). x.calls_left) is)) t.count t.calls owns;
    plans = λ m apart. plans_are planned m now new (sym (ap (λ (x : Rest). x.plans) is)) ∙ (t.plans m apart ∙ sym (plans_are planned m r old (sym (ap (λ (x : Rest). x.plans) was))));
    names = names_apart names n r now old new (sym (ap (λ (x : Rest). x.names) was)) (sym (ap (λ (x : Rest). x.names) is)) t.others;
  }

  -- one node moved, or what is told of it alone
  pub node_kept : (n : ℕ) → MovesNode n old new → OwnsSame n carries later → KeepsButNode n r now
  node_kept n t owns = record {
    rest =
        let sizes : sizes_in new ≡ sizes_in old = sizes_first new ∙ (ap first_sizes (map_same place_sizes old new t.count (λ k. t.sizes (suc k))) ∙ sym (sizes_first old)) in
        sym is
        ∙ ((λ i. record { calls_left = calls_in later new; cut = same i; sizes = sizes i; jobs = jobs_in new; copies = copies_in new; tasks = board; plans = plans_in planned new; names = names_in names new })
        ∙ (λ i. record (was i) { calls_left = (is i).calls_left; jobs = (is i).jobs; copies = (is i).copies; plans = (is i).plans; names = (is i).names }));
    calls = calls_others n r now carries later old new (sym (ap (λ (x : Rest). x.calls_left) was)) (sym (ap (λ (x : Rest). x.calls_left) is)) t.count (λ m apart. (t.others m apart).calls) owns;
    files = λ m apart. files_are m now new (sym (ap (λ (x : Rest). x.jobs) is)) ∙ ((t.others m apart).files ∙ sym (files_are m r old (sym (ap (λ (x : Rest). x.jobs) was))));
    copies = λ m apart. merged_are m now new (sym (ap (λ (x : Rest). x.copies) is)) ∙ ((t.others m apart).copies ∙ sym (merged_are m r old (sym (ap (λ (x : Rest). x.copies) was))));
  }

  -- the disks of the others have met nothing
  pub disks_kept : (n : ℕ) (y : NodePlace D) → MovesOne n y old new → TellsSameOfOthers plans_at n r now
  disks_kept n y moves m apart = plans_are planned m now new (sym (ap (λ (x : Rest). x.plans) is)) ∙ (told_apart (place_plans planned) n y old new moves m apart ∙ sym (plans_are planned m r old (sym (ap (λ (x : Rest). x.plans) was))))

  -- nor have their files other names
  pub names_left : (n : ℕ) (y : NodePlace D) → MovesOne n y old new → TellsSameOfOthers names_at n r now
  names_left n y moves = names_apart names n r now old new (sym (ap (λ (x : Rest). x.names) was)) (sym (ap (λ (x : Rest). x.names) is)) (told_apart (λ o. o) n y old new moves)

-- ---- a node that is down

module _ {D : Type 0} (cells : D → Cells) where
  -- it has no sizes
  pub down_sizes : (log : Log) (size n : ℕ) (places : List (Option (NodePlace D))) → Shows cells log size places → IsNode size n → is_running n (printed log) ≡ false → (x : NodePlace D) → place_of places n ≡ Some x → place_sizes (Some x) ≡ None
  down_sizes log size n places shows node down x there = by x (subst (λ (o : Option (NodePlace D)). IsSomeAnd o (PlaceShows cells log n)) there (shows.each n node))
    where
      at : (y : Node D) (held : Vec HeldTicket Global) → NodeShows cells log n y → place_sizes (Some (record { node = y; held = held })) ≡ None
      at (Primary p) held shown = absurd (true≢false (sym shown.running ∙ down))
      at (Replica r) held shown = refl
      at (Down d) held shown = refl

      by : (z : NodePlace D) → PlaceShows cells log n z → place_sizes (Some z) ≡ None
      by z shown = at z.node z.held shown.node_shows

-- ---- a line that was refused, or waits

alike_calls : (n : ℕ) (old new : Run) → new.rest.calls_left ≡ old.rest.calls_left → TellsSameOfOthers calls_at n old new
alike_calls n old new is zero apart = refl
alike_calls n old new is (suc k) apart = ap (λ (l : List ℕ). unwrap_or (slice_get l k) 0) is

alike_copies : (n : ℕ) (old new : Run) → new.rest.copies ≡ old.rest.copies → TellsSameOfOthers merged_at n old new
alike_copies n old new is zero apart = refl
alike_copies n old new is (suc k) apart = ap (λ (l : List (List MergedCopy)). unwrap_or (slice_get l k) []) is

pub alike_plans : (n : ℕ) (old new : Run) → new.rest.plans ≡ old.rest.plans → TellsSameOfOthers plans_at n old new
alike_plans n old new is zero apart = refl
alike_plans n old new is (suc k) apart = ap (λ (l : List Plans). unwrap_or (slice_get l k) no_plans) is

pub alike_names : (n : ℕ) (old new : Run) → new.rest.names ≡ old.rest.names → TellsSameOfOthers names_at n old new
alike_names n old new is m apart = names_same old new is m

pub commit_same : (n : ℕ) (old new : Run) → KeepsRest old new → new.rest.plans ≡ old.rest.plans → new.rest.names ≡ old.rest.names → KeepsButCommit n old new
commit_same n old new kept plans names = record {
  rest = kept ∙ ap (λ (x : Rest). record old.rest { calls_left = x.calls_left; plans = new.rest.plans; names = new.rest.names }) (sym kept);
  calls = alike_calls n old new (ap (λ (x : Rest). x.calls_left) kept);
  plans = alike_plans n old new plans;
  names = alike_names n old new names;
}

pub node_same : (n : ℕ) (old new : Run) → KeepsRest old new → KeepsButNode n old new
node_same n old new kept = record {
  rest = kept ∙ ap (λ (x : Rest). record old.rest { calls_left = x.calls_left; jobs = x.jobs; copies = x.copies; plans = new.rest.plans; names = new.rest.names }) (sym kept);
  calls = alike_calls n old new (ap (λ (x : Rest). x.calls_left) kept);
  files = λ m apart. files_same m old new (ap (λ (x : Rest). x.jobs) kept);
  copies = alike_copies n old new (ap (λ (x : Rest). x.copies) kept);
}

pub commit_refused : {T E : Type 0} (r : Result T E) (n : ℕ) (old new : Run) → OnOk r (KeepsRest old new) → OnOk r (new.rest.plans ≡ old.rest.plans) → OnOk r (new.rest.names ≡ old.rest.names) → OnOk r (KeepsButCommit n old new)
commit_refused (Ok x) n old new kept plans names = commit_same n old new kept plans names
commit_refused (Err e) n old new kept plans names = tt
