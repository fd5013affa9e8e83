-- What callers are told beside the log where one node moved, or the primary and a replica did.
use Rattle.std.proofs.Common.{◌≡◌, ◌==◌, ℕ, zero, suc, Bool, true, false, List, [], length, Some, None, Option, slice_get, refl, ap, ◌∙◌, sym, subst, if◌then◌else◌}
use Rattle.std.specs.Prelude.{unwrap_or, option_map}
use Rattle.std.proofs.lemmas.Bool.{eqb-true}
use Rattle.std.proofs.lemmas.Option.{slice_get-map}
use Rattle.disk_model.specs.Disk.{Name}
use Rattle.disk_model.specs.Faults.{Plans}
use Rattle.merge_tasks.specs.Board.{Board}
use Rattle.cluster_nodes.specs.declared.nodes.NodePlace.{NodePlace}
use Rattle.cluster_nodes.specs.JobPlaces.{MovesBoth, MovesOne}
use Rattle.cluster_nodes.specs.Places.{place_of, unwrapped}
use Rattle.cluster_state.specs.Run.{MergedCopy, Rest, Run, files_at, merged_at, KeepsRest}
use Rattle.cluster_state.specs.Keeping.{TellsSameOfOthers, KeepsButFiles, KeepsButJob}
use Rattle.cluster_state.specs.CallsLeft.{place_calls, with_own, calls_in}
use Rattle.cluster_state.specs.JobsIn.{place_files, jobs_in}
use Rattle.cluster_state.specs.MergedCopies.{place_copies, copies_in}
use Rattle.cluster_state.specs.Sizes.{sizes_in}
use Rattle.cluster_state.proofs.JobsLeft.{files_are}
use Rattle.cluster_state.proofs.RestKept.{first_sizes, place_sizes, sizes_first, map_same, TellsSame}

-- ---- over places

module _ {D : Type 0} where
  -- what is told of the places but that of the replica, where a primary moved in the other, of which the same is told
  pub told_beside : {X : Type 0} (f : Option (NodePlace D) → X) (p n : ℕ) (x y w : NodePlace D) (old new : List (Option (NodePlace D))) → place_of old p ≡ Some w → MovesBoth p n x y old new → f (Some x) ≡ f (Some w)
      → (m : ℕ) → (n == m) ≡ false → f (place_of new m) ≡ f (place_of old m)
  told_beside f p n x y w old new there moves same m apart =
      ap f (moves.there m ∙ ap (λ (b : Bool). if b then Some y else if p == m then Some x else place_of old m) apart) ∙ by (p == m) refl
    where
      by : (t : Bool) → (p == m) ≡ t → f (if p == m then Some x else place_of old m) ≡ f (place_of old m)
      by true here = ap (λ (b : Bool). f (if b then Some x else place_of old m)) here ∙ (same ∙ ap f (sym there ∙ ap (place_of old) (eqb-true p m here)))
      by false away = ap (λ (b : Bool). f (if b then Some x else place_of old m)) away

  -- of all places, where it is told of the replica too
  pub told_both : {X : Type 0} (f : Option (NodePlace D) → X) (p n : ℕ) (x y w z : NodePlace D) (old new : List (Option (NodePlace D))) → place_of old p ≡ Some w → place_of old n ≡ Some z → MovesBoth p n x y old new → f (Some x) ≡ f (Some w) → f (Some y) ≡ f (Some z)
      → (m : ℕ) → f (place_of new m) ≡ f (place_of old m)
  told_both f p n x y w z old new at_p at_n moves same_p same_n m = by (n == m) refl
    where
      by : (t : Bool) → (n == m) ≡ t → f (place_of new m) ≡ f (place_of old m)
      by true here =
          ap f (moves.there m ∙ ap (λ (b : Bool). if b then Some y else if p == m then Some x else place_of old m) here)
          ∙ (same_n ∙ ap f (sym at_n ∙ ap (place_of old) (eqb-true n m here)))
      by false away = told_beside f p n x y w old new at_p moves same_p m away

  -- of the places but one that moved
  pub told_apart : {X : Type 0} (f : Option (NodePlace D) → X) (n : ℕ) (x : NodePlace D) (old new : List (Option (NodePlace D))) → MovesOne n x old new → (m : ℕ) → (n == m) ≡ false → f (place_of new m) ≡ f (place_of old m)
  told_apart f n x old new moves m apart = ap f (moves.there m ∙ ap (λ (b : Bool). if b then Some x else place_of old m) apart)

  -- of all places, where it is told of that one too
  pub told_one : {X : Type 0} (f : Option (NodePlace D) → X) (n : ℕ) (x w : NodePlace D) (old new : List (Option (NodePlace D))) → place_of old n ≡ Some w → MovesOne n x old new → f (Some x) ≡ f (Some w)
      → (m : ℕ) → f (place_of new m) ≡ f (place_of old m)
  told_one f n x w old new there moves same m = by (n == m) refl
    where
      by : (t : Bool) → (n == m) ≡ t → f (place_of new m) ≡ f (place_of old m)
      by true here = ap f (moves.there m ∙ ap (λ (b : Bool). if b then Some x else place_of old m) here) ∙ (same ∙ ap f (sym there ∙ ap (place_of old) (eqb-true n m here)))
      by false away = told_apart f n x old new moves m away

  -- callers are told the same of all places
  pub record AllTell (old new : List (Option (NodePlace D))) : Type 0 where
    pub count : length new ≡ length old
    pub each : (m : ℕ) → TellsSame (place_of old m) (place_of new m)

  -- the same but for the job of this one, and its copies of merged segments
  pub record TellsButJob (n : ℕ) (old new : List (Option (NodePlace D))) : Type 0 where
    pub count : length new ≡ length old
    pub calls : (m : ℕ) → place_calls (place_of new m) ≡ place_calls (place_of old m)
    pub sizes : (m : ℕ) → place_sizes (place_of new m) ≡ place_sizes (place_of old m)
    pub files : (m : ℕ) → (n == m) ≡ false → place_files (place_of new m) ≡ place_files (place_of old m)
    pub copies : (m : ℕ) → (n == m) ≡ false → place_copies (place_of new m) ≡ place_copies (place_of old m)

  -- what is told of the other places and of this one is told of all
  told_all : {X : Type 0} (f : Option (NodePlace D) → X) (n : ℕ) (old new : List (Option (NodePlace D))) → ((m : ℕ) → (n == m) ≡ false → f (place_of new m) ≡ f (place_of old m)) → f (place_of new n) ≡ f (place_of old n)
      → (m : ℕ) → f (place_of new m) ≡ f (place_of old m)
  told_all f n old new others here m = by (n == m) refl
    where
      by : (t : Bool) → (n == m) ≡ t → f (place_of new m) ≡ f (place_of old m)
      by true at_n = subst (λ (k : ℕ). f (place_of new k) ≡ f (place_of old k)) (eqb-true n m at_n) here
      by false away = others m away

  -- where the job and the copies of merged segments at that one are told as before too
  pub all_tell : (n : ℕ) (old new : List (Option (NodePlace D))) → TellsButJob n old new → place_files (place_of new n) ≡ place_files (place_of old n) → place_copies (place_of new n) ≡ place_copies (place_of old n) → AllTell old new
  all_tell n old new t files copies = record {
    count = t.count;
    each = λ m. record { calls = t.calls m; sizes = t.sizes m; files = told_all place_files n old new t.files files m; copies = told_all place_copies n old new t.copies copies m };
  }

  -- the copies of merged segments at a node are those of what stands in its place
  pub merged_are : (n : ℕ) (r : Run) (places : List (Option (NodePlace D))) → r.rest.copies ≡ copies_in places → merged_at n r ≡ place_copies (place_of places n)
  merged_are zero r places is = refl
  merged_are (suc k) r places is =
      ap (λ (l : List (List MergedCopy)). unwrap_or (slice_get l k) []) is ∙ (ap (λ (o : Option (List MergedCopy)). unwrap_or o []) (slice_get-map place_copies places k) ∙ told (slice_get places k))
    where
      told : (o : Option (Option (NodePlace D))) → unwrap_or (option_map place_copies o) [] ≡ place_copies (unwrapped o)
      told None = refl
      told (Some place) = refl

-- ---- in the terms of a call

module _ {D : Type 0} {named names : List (List Name)} (r now : Run) (carries : List Bool) (cut later : Bool) (board : Board) (plans next : List Plans) (old new : List (Option (NodePlace D)))
    (was : record { calls_left = calls_in carries old; cut = cut; sizes = sizes_in old; jobs = jobs_in old; copies = copies_in old; tasks = board; plans = plans; names = named } ≡ r.rest)
    (is : record { calls_left = calls_in carries new; cut = later; sizes = sizes_in new; jobs = jobs_in new; copies = copies_in new; tasks = board; plans = next; names = names } ≡ now.rest) (same : later ≡ cut) where
  calls_same : length new ≡ length old → ((m : ℕ) → place_calls (place_of new m) ≡ place_calls (place_of old m)) → calls_in carries new ≡ calls_in carries old
  calls_same count each = ap (with_own carries) (map_same place_calls old new count (λ k. each (suc k)))

  sizes_same : length new ≡ length old → ((m : ℕ) → place_sizes (place_of new m) ≡ place_sizes (place_of old m)) → sizes_in new ≡ sizes_in old
  sizes_same count each = sizes_first new ∙ (ap first_sizes (map_same place_sizes old new count (λ k. each (suc k))) ∙ sym (sizes_first old))

  -- where the same is told of all places
  pub all_kept : AllTell old new → KeepsRest r now
  all_kept t =
      let calls = calls_same t.count (λ m. (t.each m).calls) in
      let sizes = sizes_same t.count (λ m. (t.each m).sizes) in
      let jobs : jobs_in new ≡ jobs_in old = map_same place_files old new t.count (λ k. (t.each (suc k)).files) in
      let copies : copies_in new ≡ copies_in old = map_same place_copies old new t.count (λ k. (t.each (suc k)).copies) in
      sym is
      ∙ ((λ i. record { calls_left = calls i; cut = same i; sizes = sizes i; jobs = jobs i; copies = copies i; tasks = board; plans = next; names = names })
      ∙ (λ i. record (was i) { plans = (is i).plans; names = (is i).names }))

  -- where it is but for the job at one
  pub but_job : (n : ℕ) → TellsButJob n old new → KeepsButJob n r now
  but_job n t = record {
    rest =
        let calls = calls_same t.count t.calls in
        let sizes = sizes_same t.count t.sizes in
        sym is
        ∙ ((λ i. record { calls_left = calls i; cut = same i; sizes = sizes i; jobs = jobs_in new; copies = copies_in new; tasks = board; plans = next; names = names })
        ∙ (λ i. record (was i) { jobs = (is i).jobs; copies = (is i).copies; plans = (is i).plans; names = (is i).names }));
    files = files_apart n t;
    copies = λ m apart. merged_are m now new (sym (ap (λ (x : Rest). x.copies) is)) ∙ (t.copies m apart ∙ sym (merged_are m r old (sym (ap (λ (x : Rest). x.copies) was))));
  }
    where
      files_apart : (n : ℕ) → TellsButJob n old new → TellsSameOfOthers files_at n r now
      files_apart n t m apart = files_are m now new (sym (ap (λ (x : Rest). x.jobs) is)) ∙ (t.files m apart ∙ sym (files_are m r old (sym (ap (λ (x : Rest). x.jobs) was))))

  -- where it is of the copies of merged segments at that one too
  pub but_files : (n : ℕ) → TellsButJob n old new → place_copies (place_of new n) ≡ place_copies (place_of old n) → KeepsButFiles n r now
  but_files n t here = record {
    rest =
        let calls = calls_same t.count t.calls in
        let sizes = sizes_same t.count t.sizes in
        let copies : copies_in new ≡ copies_in old = map_same place_copies old new t.count (λ k. told_all place_copies n old new t.copies here (suc k)) in
        sym is
        ∙ ((λ i. record { calls_left = calls i; cut = same i; sizes = sizes i; jobs = jobs_in new; copies = copies i; tasks = board; plans = next; names = names })
        ∙ (λ i. record (was i) { jobs = (is i).jobs; plans = (is i).plans; names = (is i).names }));
    files = (but_job n t).files;
  }
