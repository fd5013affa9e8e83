-- What a copy takes, in the terms of a call.
use Rattle.std.proofs.Common.{◌≡◌, ◌≢◌, ◌==◌, ℕ, Bool, false, List, Option, Some, None, refl, sym, ap, subst, ◌∙◌, length, if◌then◌else◌}
use Rattle.std.specs.Prelude.{Vec}
use Rattle.std.specs.Global.{Global}
use Rattle.std.proofs.lemmas.Bool.{eq-eqb}
use Rattle.std.proofs.lemmas.Option.{none-some, same_Some}
use Rattle.nrt_base.specs.declared.numbers.NodeNo.{NodeNo}
use Rattle.nrt_base.specs.declared.numbers.Version.{Version}
use Rattle.disk_model.specs.Disk.{Name, Cells, reads_of}
use Rattle.copy_state.specs.declared.state.CopyState.{CopyState}
use Rattle.index_primary.specs.declared.parts.PrimaryParts.{PrimaryParts}
use Rattle.index_primary.specs.Cut.{last_number}
use Rattle.index_primary.specs.States.{IsStateOf}
use Rattle.history_rules.specs.Nodes.{IsNode, IsReplica, is_at, primary_of}
use Rattle.history_book.specs.Log.{Log, printed}
use Rattle.cluster_nodes.specs.declared.held.HeldTicket.{HeldTicket}
use Rattle.cluster_nodes.specs.declared.nodes.Node.TheVariants.{Primary, Replica, Down}
use Rattle.cluster_nodes.specs.declared.nodes.NodePlace.{NodePlace}
use Rattle.cluster_nodes.specs.Places.{place_of, dir_of, IsSlot, HasPrimary}
use Rattle.cluster_nodes.specs.Outs.{jobs_like}
use Rattle.cluster_state.specs.Met.{ClusterStands}
use Rattle.cluster_state.specs.Run.{Rest, Run}
use Rattle.cluster_state.proofs.Frames.{slot_kept}
use Rattle.cluster_state.proofs.FileJobs.{PrimaryHere, ReplicaHere, primary_here, replica_here}
use Rattle.cluster_state.specs.NamesIn.{place_names, names_in}
use Rattle.cluster_state.proofs.NodeDirs.{names_are}
use Rattle.cluster_copies.specs.Sends.{IsStateNow, AreOfCluster}

-- ---- the copy state of a primary

-- a record of which only the directory is another
with_dir : {D : Type 0} (cells : D → Cells) (p q : PrimaryParts D) (state : CopyState) → q ≡ record p { dir = q.dir } → cells q.dir ≡ cells p.dir → IsStateNow cells q state → IsStateNow cells p state
with_dir {D = D} cells p q state others same is =
    subst (λ (c : Cells). IsStateOf (reads_of c) p.point_infos p.searchers.point.names (last_number p.commits) p.completed state) same
    (subst (λ (x : PrimaryParts D). IsStateOf (reads_of (cells q.dir)) x.point_infos x.searchers.point.names (last_number x.commits) x.completed state) others is)

-- the state that was taken where plans were put off first
pub state_taken : {D : Type 0} (cells : D → Cells) (p q s : PrimaryParts D) (state : CopyState) → q ≡ record p { dir = q.dir } → cells q.dir ≡ cells p.dir → s ≡ record q { dir = s.dir } → cells s.dir ≡ cells q.dir
    → IsStateNow cells s state → IsStateNow cells p state
state_taken cells p q s state put_off same stopped same_too is = with_dir cells p q state put_off same (with_dir cells q s state stopped same_too is)

-- ---- the two nodes in their places

abbrev primary_or : {D : Type 0} → PrimaryParts D → Option (NodePlace D) → PrimaryParts D
primary_or d None = d
primary_or d (Some place) = elim place.node [ Primary p ↦ p | Replica r ↦ d | Down x ↦ d ]

-- one place has one primary
one_primary : {D : Type 0} (q s : PrimaryParts D) (a b : Vec HeldTicket Global) → ◌≡◌ {A = Option (NodePlace D)} (Some (record { node = Primary q; held = a })) (Some (record { node = Primary s; held = b })) → q ≡ s
one_primary {D = D} q s a b same = ap (λ (o : Option (NodePlace D)). primary_or q o) same

module _ {D : Type 0} (cells : D → Cells) (r : Run) (ended : Bool) (size : ℕ) (log : Log) (places : List (Option (NodePlace D))) (rest : Rest) (view : record { ended = ended; nodes = size; log = log; rest = rest } ≡ r)
    (running : r.ended ≡ false) (all : ended ≡ false → ClusterStands cells size places rest.cut rest.tasks log) (p n : NodeNo) (node_p : IsNode r.nodes p.0) (node_n : IsNode r.nodes n.0) (primary : primary_of (printed r.log) ≡ Some p)
    (replica : IsReplica (printed r.log) n.0) where
  stands : ClusterStands cells r.nodes places r.rest.cut r.rest.tasks r.log
  stands = subst (λ (x : Run). x.ended ≡ false → ClusterStands cells x.nodes places x.rest.cut x.rest.tasks x.log) view all running

  here_p : PrimaryHere cells stands.1.source r.log (λ s. jobs_like places s r.nodes) p.0 places
  here_p = primary_here cells r.log r.nodes p.0 places stands.0 stands.1 node_p (ap (λ (o : Option NodeNo). is_at o p.0) primary ∙ eq-eqb p.0 p.0 refl)

  here_n : ReplicaHere cells stands.1.source r.log n.0 places
  here_n = replica_here cells r.log r.nodes n.0 places stands.0 stands.1 node_n replica

  apart : (p.0 == n.0) ≡ false
  apart = sym (ap (λ (o : Option NodeNo). is_at o n.0) primary) ∙ replica.other

  pub primary_slot : IsSlot places p.0
  primary_slot = here_p.at.slot

  pub primary_there : HasPrimary (place_of places p.0)
  primary_there = subst HasPrimary (sym here_p.at.there) tt

  module _ (mid : List (Option (NodePlace D))) (count : length mid ≡ length places) (moved : (m : ℕ) → place_of mid m ≡ (if p.0 == m then None else place_of places m)) where
    -- the replica stands in its place still
    pub replica_slot : IsSlot mid n.0
    replica_slot = slot_kept cells places mid n.0 count here_n.at.slot

    still : place_of mid n.0 ≡ place_of places n.0
    still = moved n.0 ∙ ap (λ (b : Bool). if b then None else place_of places n.0) apart

    pub replica_there : place_of mid n.0 ≢ None
    replica_there none = none-some (record { node = Replica here_n.at.parts; held = here_n.at.held }) (sym none ∙ (still ∙ here_n.at.there))

    -- what was taken of the two places is the primary and the directory of the replica
    pub both_taken : (names : D → List Name) → rest.names ≡ names_in names places → (q : PrimaryParts D) (held : Vec HeldTicket Global) (y : NodePlace D) (theirs : D) → place_of places p.0 ≡ Some (record { node = Primary q; held = held }) → place_of mid n.0 ≡ Some y → theirs ≡ dir_of y.node
        → AreOfCluster cells names r p.0 n.0 q theirs
    both_taken names named q held y theirs there_p there_n theirs_is = record {
      places = places;
      stands = stands;
      both = record { primary = here_p.at; replica = here_n.at; apart = apart };
      primary_is = same_parts;
      theirs_is = theirs_is ∙ ap (λ (z : NodePlace D). dir_of z.node) same_place;
      newest =
          ap (λ (x : PrimaryParts D). x.point_infos.version.0) same_parts
          ∙ ap (λ (v : Version). v.0) (sym here_p.shows.node_shows.whole.versions)
          ∙ here_p.shows.node_shows.writer.version;
      ours_told = names_are names p.0 r places told ∙ ap (place_names names) there_p;
      theirs_told = names_are names n.0 r places told ∙ (ap (place_names names) (sym still ∙ there_n) ∙ ap names (sym theirs_is));
    }
      where
        told : r.rest.names ≡ names_in names places
        told = ap (λ (x : Run). x.rest.names) (sym view) ∙ named

        same_parts : q ≡ here_p.at.parts
        same_parts = one_primary q here_p.at.parts held here_p.at.held (sym there_p ∙ here_p.at.there)

        same_place : y ≡ record { node = Replica here_n.at.parts; held = here_n.at.held }
        same_place = same_Some y (record { node = Replica here_n.at.parts; held = here_n.at.held }) (sym there_n ∙ (still ∙ here_n.at.there))
