-- What the crash of a node leaves of the others: what they are, their names, their commits and their jobs.
use Rattle.std.proofs.Common.{◌≡◌, ◌==◌, ℕ, Bool, true, false, List, Some, None, Option, Vec, Global, refl, ap, ◌∙◌, sym, subst, arith}
use Rattle.std.specs.Prelude.{IsSomeAnd}
use Rattle.std.specs.Option.{option_map}
use Rattle.std.proofs.lemmas.Bool.{eqb-true}
use Rattle.nrt_base.specs.declared.numbers.Gen.{Gen}
use Rattle.nrt_base.specs.declared.numbers.NodeNo.{NodeNo}
use Rattle.disk_model.specs.Disk.{Cells}
use Rattle.index_primary.specs.declared.parts.PrimaryParts.{PrimaryParts}
use Rattle.index_primary.specs.declared.states.Out.{Out}
use Rattle.replica_node.specs.declared.job.PointJob.{PointJob}
use Rattle.replica_node.specs.declared.parts.ReplicaParts.{ReplicaParts}
use Rattle.replica_node.specs.Jobs.{stopped_job}
use Rattle.history_rules.specs.Nodes.{Past, IsNode, is_at}
use Rattle.history_tables.proofs.RowLemmas.{by_test}
use Rattle.history_book.specs.Log.{Log}
use Rattle.cluster_nodes.specs.declared.held.HeldTicket.{HeldTicket}
use Rattle.cluster_nodes.specs.declared.nodes.Node.{Node}
use Rattle.cluster_nodes.specs.declared.nodes.Node.TheVariants.{Primary, Replica, Down}
use Rattle.cluster_nodes.specs.declared.nodes.NodePlace.{NodePlace}
use Rattle.cluster_nodes.specs.Places.{place_of, disk_of}
use Rattle.cluster_nodes.specs.Outs.{want_of, want_at}
use Rattle.cluster_state.proofs.FileJobs.{stopped_want}
use Rattle.cluster_nodes.specs.Ends.{NodeOutlives, Outlives, PlaceOutlives, OthersOutlive}
use Rattle.cluster_state.specs.Run.{JobFiles}
use Rattle.cluster_state.specs.JobsIn.{job_files, place_files}
use Rattle.cluster_state.specs.State.{PlaceShows}
use Rattle.cluster_state.specs.Names.{NamesShow}
use Rattle.cluster_state.proofs.Drawn.{Grows}
use Rattle.cluster_state.proofs.Naming.{node_steps, node_grows, altered_steps, altered_job}
use Rattle.cluster_state.proofs.Disks.{disk_same}
use Rattle.cluster_state.proofs.Frames.{some_then}
use Rattle.cluster_state.proofs.JobMoves.{primary_place, replica_place}

module _ {D : Type 0} (cells : D → Cells) where
  -- ---- what a node is

  node_outlives : (log : Log) (m : ℕ) (crashed this : Bool) (state : Option Out) (x y : Node D) (held : Vec HeldTicket Global) → NodeOutlives cells crashed this state x y
      → PlaceShows cells log m (record { node = x; held = held }) → PlaceShows cells log m (record { node = y; held = held })
  node_outlives log m true this state (Replica r) (Replica s) held out was =
      let same : s.seen.0 ≡ r.seen.0 = ap (λ (g : Gen). g.0) out.seen in
      let low = was.node_shows.seen in
      replica_place cells log m r s held out.alters (omega (arith, same, low)) was
  node_outlives log m true this state (Replica r) (Primary q) held out was = subst (λ (z : Node D). PlaceShows cells log m (record { node = z; held = held })) (sym out) was
  node_outlives log m true this state (Replica r) (Down e) held out was = subst (λ (z : Node D). PlaceShows cells log m (record { node = z; held = held })) (sym out) was
  node_outlives log m true this state (Primary p) y held out was = subst (λ (z : Node D). PlaceShows cells log m (record { node = z; held = held })) (sym out) was
  node_outlives log m true this state (Down d) y held out was = subst (λ (z : Node D). PlaceShows cells log m (record { node = z; held = held })) (sym out) was
  node_outlives log m false true state (Primary p) (Primary q) held out was = primary_place cells log m p q held out.alters was
  node_outlives log m false true state (Primary p) (Replica s) held out was = absurd out
  node_outlives log m false true state (Primary p) (Down e) held out was = absurd out
  node_outlives log m false true state (Replica r) y held out was = absurd out
  node_outlives log m false true state (Down d) y held out was = absurd out
  node_outlives log m false false state x y held out was = subst (λ (z : Node D). PlaceShows cells log m (record { node = z; held = held })) (sym out) was

  pub place_outlives : (log : Log) (m : ℕ) (crashed this : Bool) (state : Option Out) (x y : NodePlace D) → Outlives cells crashed this state x y → PlaceShows cells log m x → PlaceShows cells log m y
  place_outlives log m crashed this state x y out was =
      node_outlives log m crashed this state x.node y.node y.held out.node (subst (λ (h : Vec HeldTicket Global). PlaceShows cells log m (record { node = x.node; held = h })) (sym out.held) was)

  -- ---- its commits and its names

  pub disk_outlives : (crashed this : Bool) (state : Option Out) (x y : Node D) → NodeOutlives cells crashed this state x y → disk_of y ≡ disk_of x
  disk_outlives true this state (Replica r) (Replica s) out = disk_same r.commits s.commits (ap (λ (z : ReplicaParts D). z.commits) out.alters.others)
  disk_outlives true this state (Replica r) (Primary q) out = ap (λ (z : Node D). disk_of z) out
  disk_outlives true this state (Replica r) (Down e) out = ap (λ (z : Node D). disk_of z) out
  disk_outlives true this state (Primary p) y out = ap (λ (z : Node D). disk_of z) out
  disk_outlives true this state (Down d) y out = ap (λ (z : Node D). disk_of z) out
  disk_outlives false true state (Primary p) (Primary q) out = disk_same p.commits q.commits (ap (λ (z : PrimaryParts D). z.commits) out.alters.others)
  disk_outlives false true state (Primary p) (Replica s) out = absurd out
  disk_outlives false true state (Primary p) (Down e) out = absurd out
  disk_outlives false true state (Replica r) y out = absurd out
  disk_outlives false true state (Down d) y out = absurd out
  disk_outlives false false state x y out = ap (λ (z : Node D). disk_of z) out

  pub names_outlive : (past now : Past) (crashed this : Bool) (state : Option Out) (x y : Node D) → Grows past now → NodeOutlives cells crashed this state x y → NamesShow cells past x → NamesShow cells now y
  names_outlive past now true this state (Replica r) (Replica s) grows out was = node_steps cells past now (Replica r) (Replica s) grows (altered_job cells now r s out.alters) was
  names_outlive past now true this state (Replica r) (Primary q) grows out was = subst (λ (z : Node D). NamesShow cells now z) (sym out) (node_grows cells past now (Replica r) grows was)
  names_outlive past now true this state (Replica r) (Down e) grows out was = tt
  names_outlive past now true this state (Primary p) y grows out was = subst (λ (z : Node D). NamesShow cells now z) (sym out) (node_grows cells past now (Primary p) grows was)
  names_outlive past now true this state (Down d) y grows out was = subst (λ (z : Node D). NamesShow cells now z) (sym out) tt
  names_outlive past now false true state (Primary p) (Primary q) grows out was = node_steps cells past now (Primary p) (Primary q) grows (altered_steps cells now p q out.alters) was
  names_outlive past now false true state (Primary p) (Replica s) grows out was = absurd out
  names_outlive past now false true state (Primary p) (Down e) grows out was = absurd out
  names_outlive past now false true state (Replica r) y grows out was = absurd out
  names_outlive past now false true state (Down d) y grows out was = absurd out
  names_outlive past now false false state x y grows out was = subst (λ (z : Node D). NamesShow cells now z) (sym out) (node_grows cells past now x grows was)

  -- ---- its job

  want_ends : (this : Bool) (state : Option Out) (x y : Node D) (held : Vec HeldTicket Global) → NodeOutlives cells true this state x y → want_at (Some (record { node = y; held = held })) ≡ None
  want_ends this state (Replica r) (Replica s) held out = ap want_of out.stops ∙ stopped_want r.job
  want_ends this state (Replica r) (Primary q) held out = refl
  want_ends this state (Replica r) (Down e) held out = refl
  want_ends this state (Primary p) y held out = ap (λ (z : Node D). want_at (Some (record { node = z; held = held }))) out
  want_ends this state (Down d) y held out = ap (λ (z : Node D). want_at (Some (record { node = z; held = held }))) out

  want_stays : (this : Bool) (state : Option Out) (x y : Node D) (one two : Vec HeldTicket Global) → NodeOutlives cells false this state x y → want_at (Some (record { node = y; held = two })) ≡ want_at (Some (record { node = x; held = one }))
  want_stays true state (Primary p) (Primary q) one two out = refl
  want_stays true state (Primary p) (Replica s) one two out = absurd out
  want_stays true state (Primary p) (Down e) one two out = absurd out
  want_stays true state (Replica r) y one two out = absurd out
  want_stays true state (Down d) y one two out = absurd out
  want_stays false state x y one two out = ap (λ (z : Node D). want_at (Some (record { node = z; held = two }))) out

  -- no job is left where the primary crashed
  pub wants_end : (this : Bool) (state : Option Out) (o new : Option (NodePlace D)) → PlaceOutlives cells true this state o new → want_at new ≡ None
  wants_end this state None new is = ap want_at is
  wants_end this state (Some x) None is = absurd is
  wants_end this state (Some x) (Some y) is = want_ends this state x.node y.node y.held is.node

  -- each has its job where another crashed
  pub wants_stay : (this : Bool) (state : Option Out) (o new : Option (NodePlace D)) → PlaceOutlives cells false this state o new → want_at new ≡ want_at o
  wants_stay this state None new is = ap want_at is
  wants_stay this state (Some x) None is = absurd is
  wants_stay this state (Some x) (Some y) is = want_stays this state x.node y.node x.held y.held is.node

  -- ---- all of them

  pub each_outlives : {P Q : ℕ → NodePlace D → Type 0} (size : ℕ) (primary : Option NodeNo) (n : ℕ) (left : NodePlace D) (old new : List (Option (NodePlace D))) → place_of new n ≡ Some left → OthersOutlive cells primary n old new
      → ((m : ℕ) → IsNode size m → IsSomeAnd (place_of old m) (P m))
      → ((m : ℕ) (x y : NodePlace D) → IsNode size m → (n == m) ≡ false → Outlives cells (is_at primary n) (is_at primary m) (want_at (place_of old n)) x y → P m x → Q m y)
      → Q n left → (m : ℕ) → IsNode size m → IsSomeAnd (place_of new m) (Q m)
  each_outlives {P = P} {Q = Q} size primary n left old new here others was step mine m node =
      by_test (n == m) (λ b. (n == m) ≡ b → IsSomeAnd (place_of new m) (Q m))
      (λ same q. subst (λ (k : ℕ). IsSomeAnd (place_of new k) (Q k)) (eqb-true n m same) (subst (λ (o : Option (NodePlace D)). IsSomeAnd o (Q n)) (sym here) mine))
      (λ apart q. found (place_of old m) apart (was m node) (others m apart))
      refl
    where
      found : (o : Option (NodePlace D)) → (n == m) ≡ false → IsSomeAnd o (P m) → PlaceOutlives cells (is_at primary n) (is_at primary m) (want_at (place_of old n)) o (place_of new m) → IsSomeAnd (place_of new m) (Q m)
      found None apart has out = absurd has
      found (Some x) apart has out = some_then (place_of new m) out (λ y lives. step m x y node apart lives has)

  -- ---- what is seen of jobs

  files_outlive : (crashed this : Bool) (state : Option Out) (x y : NodePlace D) → NodeOutlives cells crashed this state x.node y.node → place_files (Some y) ≡ place_files (Some x)
  files_outlive crashed this state x y = by crashed this x.node y.node
    where
      seen : Node D → JobFiles
      seen z = place_files (Some (record { node = z; held = x.held }))

      same_files : (seen_then seen_now : ℕ) (o p : Option PointJob) → seen_now ≡ seen_then → p ≡ option_map stopped_job o → job_files seen_now p ≡ job_files seen_then o
      same_files a c o p same stops = (λ i. job_files (same i) (stops i)) ∙ stopped o
        where
          stopped : (q : Option PointJob) → job_files a (option_map stopped_job q) ≡ job_files a q
          stopped None = refl
          stopped (Some j) = refl

      by : (c t : Bool) (u v : Node D) → NodeOutlives cells c t state u v → seen v ≡ seen u
      by true t (Replica r) (Replica s) out = same_files r.seen.0 s.seen.0 r.job s.job (ap (λ (g : Gen). g.0) out.seen) out.stops
      by true t (Replica r) (Primary q) out = ap seen out
      by true t (Replica r) (Down e) out = ap seen out
      by true t (Primary p) v out = ap seen out
      by true t (Down d) v out = ap seen out
      by false true (Primary p) (Primary q) out = refl
      by false true (Primary p) (Replica s) out = absurd out
      by false true (Primary p) (Down e) out = absurd out
      by false true (Replica r) v out = absurd out
      by false true (Down d) v out = absurd out
      by false false u v out = ap seen out

  -- what another node's job lacks and has is as before
  pub jobs_outlive : (crashed this : Bool) (state : Option Out) (o new : Option (NodePlace D)) → PlaceOutlives cells crashed this state o new → place_files new ≡ place_files o
  jobs_outlive crashed this state None new is = ap place_files is
  jobs_outlive crashed this state (Some x) None is = absurd is
  jobs_outlive crashed this state (Some x) (Some y) is = files_outlive crashed this state x y is.node
