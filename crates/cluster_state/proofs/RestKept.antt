-- What callers are told beside the log stays where the node of one place is another that tells the same.
use Rattle.std.proofs.Common.{◌≡◌, ◌==◌, ℕ, zero, suc, Bool, true, false, List, [], ◌∷◌, map, length, Some, None, Option, Vec, Global, slice_get, refl, ap, ◌∙◌, sym, arith, if◌then◌else◌}
use Rattle.std.proofs.lemmas.Bool.{eqb-true}
use Rattle.disk_model.specs.Disk.{Name, Cells}
use Rattle.disk_model.specs.Faults.{Plans}
use Rattle.segment_infos.specs.declared.infos.SegRecord.{SegRecord}
use Rattle.segment_steps.specs.Starting.{size_by}
use Rattle.history_tables.proofs.RowLemmas.{by_test}
use Rattle.history_book.specs.Log.{Log}
use Rattle.merge_tasks.specs.Board.{Board}
use Rattle.merge_tasks.specs.Merging.{Sheet}
use Rattle.index_primary.specs.declared.parts.PrimaryParts.{PrimaryParts}
use Rattle.index_primary.specs.Merges.{merge_inputs}
use Rattle.replica_node.specs.declared.parts.ReplicaParts.{ReplicaParts}
use Rattle.cluster_nodes.specs.declared.held.HeldTicket.{HeldTicket}
use Rattle.cluster_nodes.specs.declared.nodes.Node.{Node}
use Rattle.cluster_nodes.specs.declared.nodes.Node.TheVariants.{Primary, Replica, Down}
use Rattle.cluster_nodes.specs.declared.nodes.NodePlace.{NodePlace}
use Rattle.cluster_nodes.specs.Changes.{KeepsNode}
use Rattle.cluster_nodes.specs.Given.{merge_sizes}
use Rattle.cluster_nodes.specs.Places.{place_of, unwrapped}
use Rattle.cluster_state.specs.Run.{Rest, Run, KeepsRest}
use Rattle.cluster_state.specs.CallsLeft.{stage_calls, place_calls, with_own, calls_in}
use Rattle.cluster_state.specs.JobsIn.{job_files, place_files, jobs_in}
use Rattle.cluster_state.specs.MergedCopies.{told_copy, place_copies, copies_in}
use Rattle.cluster_state.specs.Sizes.{sizes_in}
use Rattle.cluster_state.proofs.Frames.{PutsBack}

-- ---- over a run

-- where all but the faults that disks met and the names of their files is the same
pub kept_rest : (r : Run) {ended : Bool} {nodes : ℕ} {log : Log} (left now : Rest) → record { ended = ended; nodes = nodes; log = log; rest = left } ≡ r
    → now.calls_left ≡ left.calls_left → now.cut ≡ left.cut → now.sizes ≡ left.sizes → now.jobs ≡ left.jobs → now.copies ≡ left.copies → now.tasks ≡ left.tasks
    → now ≡ record r.rest { plans = now.plans; names = now.names }
kept_rest r left now view calls cut sizes jobs copies tasks =
    (λ i. record { calls_left = calls i; cut = cut i; sizes = sizes i; jobs = jobs i; copies = copies i; tasks = tasks i; plans = now.plans; names = now.names })
    ∙ ap (λ (x : Run). record x.rest { plans = now.plans; names = now.names }) view

pub rest_then : (a b c : Run) → KeepsRest a b → KeepsRest b c → KeepsRest a c
rest_then a b c first second = second ∙ ap (λ (left : Rest). record left { plans = c.rest.plans; names = c.rest.names }) first

-- ---- over places

abbrev pub first_sizes : List (Option (List (Option ℕ))) → List (Option ℕ)
first_sizes [] = []
first_sizes (None ∷ l) = first_sizes l
first_sizes (Some s ∷ l) = s

module _ {D : Type 0} where
  -- the sizes of the primary in a place, where one is there
  abbrev pub place_sizes : Option (NodePlace D) → Option (List (Option ℕ))
  place_sizes None = None
  place_sizes (Some place) = elim place.node [ Primary p ↦ Some (merge_sizes p) | Replica r ↦ None | Down d ↦ None ]

  pub sizes_first : (places : List (Option (NodePlace D))) → sizes_in places ≡ first_sizes (map place_sizes places)
  sizes_first [] = refl
  sizes_first (None ∷ places) = sizes_first places
  sizes_first (Some place ∷ places) = by place.node (sizes_first places)
    where
      by : (x : Node D) → sizes_in places ≡ first_sizes (map place_sizes places)
          → elim x [ Primary p ↦ merge_sizes p | Replica r ↦ sizes_in places | Down d ↦ sizes_in places ] ≡ first_sizes (elim x [ Primary p ↦ Some (merge_sizes p) | Replica r ↦ None | Down d ↦ None ] ∷ map place_sizes places)
      by (Primary p) rest = refl
      by (Replica r) rest = rest
      by (Down d) rest = rest

  pub map_same : {X : Type 0} (f : Option (NodePlace D) → X) (old new : List (Option (NodePlace D))) → length new ≡ length old → ((k : ℕ) → f (unwrapped (slice_get new k)) ≡ f (unwrapped (slice_get old k))) → map f new ≡ map f old
  map_same f [] [] count same = refl
  map_same f [] (y ∷ new) count same = absurd (omega (arith, count))
  map_same f (x ∷ old) [] count same = absurd (omega (arith, count))
  map_same f (x ∷ old) (y ∷ new) count same = λ i. same zero i ∷ map_same f old new (omega (arith, count)) (λ k. same (suc k)) i

  -- what callers are told of two places is the same
  pub record TellsSame (old new : Option (NodePlace D)) : Type 0 where
    pub calls : place_calls new ≡ place_calls old
    pub sizes : place_sizes new ≡ place_sizes old
    pub files : place_files new ≡ place_files old
    pub copies : place_copies new ≡ place_copies old

  -- a primary with the commits, the records and the merges of before
  pub primary_tells : (p q : PrimaryParts D) (held : Vec HeldTicket Global) → q.commits ≡ p.commits → q.infos.segs ≡ p.infos.segs → q.merges ≡ p.merges
      → TellsSame (Some (record { node = Primary p; held = held })) (Some (record { node = Primary q; held = held }))
  primary_tells p q held commits segs merges = record {
    calls = λ i. stage_calls (commits i).stage;
    sizes = λ i. Some (map (size_by (merge_inputs (merges i))) (segs i));
    files = refl;
    copies = refl;
  }

  -- a node that is as it was but for its tickets, its counts and its directory
  pub node_tells : (cells : D → Cells) (old new : NodePlace D) → KeepsNode cells old.node new.node → TellsSame (Some old) (Some new)
  node_tells cells old new = by old.node new.node old.held new.held
    where
      by : (x y : Node D) (had held : Vec HeldTicket Global) → KeepsNode cells x y → TellsSame (Some (record { node = x; held = had })) (Some (record { node = y; held = held }))
      by (Primary p) (Primary q) had held kept = record {
        calls = ap (λ (z : PrimaryParts D). stage_calls z.commits.stage) kept.0;
        sizes = ap (λ (z : PrimaryParts D). Some (merge_sizes z)) kept.0;
        files = refl;
        copies = refl;
      }
      by (Replica p) (Replica q) had held kept = record {
        calls = ap (λ (z : ReplicaParts D). stage_calls z.commits.stage) kept.0;
        sizes = refl;
        files = ap (λ (z : ReplicaParts D). job_files z.seen.0 z.job) kept.0;
        copies = ap (λ (z : ReplicaParts D). map told_copy z.copies.running) kept.0;
      }
      by (Down d) (Down e) had held kept = record { calls = refl; sizes = refl; files = refl; copies = refl }
      by (Primary p) (Replica q) had held kept = absurd kept
      by (Primary p) (Down e) had held kept = absurd kept
      by (Replica p) (Primary q) had held kept = absurd kept
      by (Replica p) (Down e) had held kept = absurd kept
      by (Down d) (Primary q) had held kept = absurd kept
      by (Down d) (Replica q) had held kept = absurd kept

-- ---- in the terms of a call

module _ {D : Type 0} (cells : D → Cells) where
  -- one place was taken out of its number, and another that tells the same was put there
  pub put_keeps : (r : Run) (b0 b1 b2 : Sheet) (board : Board) (carries : List Bool) (old mid new : List (Option (NodePlace D))) (n : ℕ) (x y : NodePlace D) {ended : Bool} {plans later : List Plans} {named names : List (List Name)}
      → record { ended = ended; nodes = b0.nodes; log = b0.log; rest = record { calls_left = calls_in carries old; cut = b0.cut; sizes = sizes_in old; jobs = jobs_in old; copies = copies_in old; tasks = board; plans = plans; names = named } } ≡ r
      → b1.cut ≡ b0.cut → b2.cut ≡ b1.cut → PutsBack cells old mid new n x → place_of old n ≡ Some y → TellsSame (Some y) (Some x)
      → record { calls_left = calls_in carries new; cut = b2.cut; sizes = sizes_in new; jobs = jobs_in new; copies = copies_in new; tasks = board; plans = later; names = names } ≡ record r.rest { plans = later; names = names }
  put_keeps r b0 b1 b2 board carries old mid new n x y {ended} {plans} {later} {named} {names} view c1 c2 put there same =
      kept_rest r (record { calls_left = calls_in carries old; cut = b0.cut; sizes = sizes_in old; jobs = jobs_in old; copies = copies_in old; tasks = board; plans = plans; names = named })
      (record { calls_left = calls_in carries new; cut = b2.cut; sizes = sizes_in new; jobs = jobs_in new; copies = copies_in new; tasks = board; plans = later; names = names })
      view (ap (with_own carries) (each place_calls same.calls)) (c2 ∙ c1) (sizes_first new ∙ (ap first_sizes (each place_sizes same.sizes) ∙ sym (sizes_first old))) (each place_files same.files) (each place_copies same.copies) refl
    where
      at_place : {X : Type 0} (f : Option (NodePlace D) → X) → f (Some x) ≡ f (Some y) → (m : ℕ) → f (place_of new m) ≡ f (place_of old m)
      at_place f is m =
          by_test (n == m) (λ b. (n == m) ≡ b → f (place_of new m) ≡ f (place_of old m))
          (λ here q. ap f (put.there m ∙ ap (λ (b : Bool). if b then Some x else place_of mid m) here) ∙ (is ∙ ap f (sym there ∙ ap (place_of old) (eqb-true n m here))))
          (λ apart q. ap f ((put.there m ∙ ap (λ (b : Bool). if b then Some x else place_of mid m) apart) ∙ (put.taken m ∙ ap (λ (b : Bool). if b then None else place_of old m) apart)))
          refl

      each : {X : Type 0} (f : Option (NodePlace D) → X) → f (Some x) ≡ f (Some y) → map f new ≡ map f old
      each f is = map_same f old new (put.again ∙ put.count) (λ k. at_place f is (suc k))
