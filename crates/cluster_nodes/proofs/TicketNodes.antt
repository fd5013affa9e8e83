-- What a ticket that is opened or closed leaves of the files of its node.
use Rattle.std.proofs.Common.{◌≡◌, ◌∙◌, ℕ, List, refl, ap, sym, subst}
use Rattle.disk_model.specs.Disk.{Cells}
use Rattle.searcher_switch.specs.Appearing.{NoneAppears}
use Rattle.replica_node.specs.declared.parts.ReplicaParts.{ReplicaParts}
use Rattle.replica_node.specs.Sources.{KeepsSource}
use Rattle.segment_infos.specs.declared.infos.Infos.{Infos}
use Rattle.index_primary.specs.declared.parts.PrimaryParts.{PrimaryParts}
use Rattle.index_primary.specs.Held.{IsUndrawn}
use Rattle.index_primary.specs.Primary.{KeepsHeldBytes, loose_of, filled_of}
use Rattle.index_primary.specs.Calls.{HoldsNoNew}
use Rattle.seg_reader.specs.Shown.{Shown}
use Rattle.searcher_switch.specs.declared.open.SearchPoint.{SearchPoint}
use Rattle.cluster_nodes.specs.declared.nodes.Node.{Node}
use Rattle.cluster_nodes.specs.declared.nodes.Node.TheVariants.{Primary, Replica, Down}
use Rattle.cluster_nodes.specs.KeptFiles.{KeepsNodeFiles}

module _ {D : Type 0} (cells : D → Cells) where
  -- a ticket of the primary was closed
  pub primary_closed : (p q : PrimaryParts D) → q ≡ record p { dir = q.dir; files = q.files; searchers = q.searchers } → KeepsHeldBytes cells p q → HoldsNoNew p q → NoneAppears (cells p.dir) (cells q.dir) → KeepsNodeFiles cells (Primary p) (Primary q)
  primary_closed p q others stays no_new appears = (
    record {
      stays = stays;
      no_new = no_new;
      drawn = record { each = λ name is. subst (λ (x : Infos × (List ℕ × List ℕ)). IsUndrawn x.0 x.1.0 x.1.1 name) (λ i. (ap (λ (z : PrimaryParts D). z.infos) others i, (ap (λ (z : PrimaryParts D). loose_of z) others i, ap (λ (z : PrimaryParts D). filled_of z) others i))) is };
      appears = appears;
      commits = ap (λ (z : PrimaryParts D). z.commits) others;
      point = ap (λ (z : PrimaryParts D). z.point_infos) others;
      generation = ap (λ (z : PrimaryParts D). z.infos.generation) others;
    },
    ap (λ (z : PrimaryParts D). z.states) others,
  )

  -- or opened
  pub primary_opened : (p q : PrimaryParts D) → q ≡ record p { files = q.files; searchers = q.searchers } → KeepsHeldBytes cells p q → HoldsNoNew p q → KeepsNodeFiles cells (Primary p) (Primary q)
  primary_opened p q others stays no_new = (
    record {
      stays = stays;
      no_new = no_new;
      drawn = record { each = λ name is. subst (λ (x : Infos × (List ℕ × List ℕ)). IsUndrawn x.0 x.1.0 x.1.1 name) (λ i. (ap (λ (z : PrimaryParts D). z.infos) others i, (ap (λ (z : PrimaryParts D). loose_of z) others i, ap (λ (z : PrimaryParts D). filled_of z) others i))) is };
      appears = record { each = λ name none. ap (λ (z : PrimaryParts D). (cells z.dir name).now) others ∙ none };
      commits = ap (λ (z : PrimaryParts D). z.commits) others;
      point = ap (λ (z : PrimaryParts D). z.point_infos) others;
      generation = ap (λ (z : PrimaryParts D). z.infos.generation) others;
    },
    ap (λ (z : PrimaryParts D). z.states) others,
  )

  -- in the terms of a call on a node that is the primary
  pub opened_node : (x : Node D) (p q : PrimaryParts D) → x ≡ Primary p → q ≡ record p { files = q.files; searchers = q.searchers } → KeepsHeldBytes cells p q → HoldsNoNew p q → KeepsNodeFiles cells x (Primary q)
  opened_node x p q is others stays no_new = subst (λ (z : Node D). KeepsNodeFiles cells z (Primary q)) (sym is) (primary_opened p q others stays no_new)

  pub closed_node : (x : Node D) (p q : PrimaryParts D) → x ≡ Primary p → q ≡ record p { dir = q.dir; files = q.files; searchers = q.searchers } → KeepsHeldBytes cells p q → HoldsNoNew p q → NoneAppears (cells p.dir) (cells q.dir) → KeepsNodeFiles cells x (Primary q)
  closed_node x p q is others stays no_new appears = subst (λ (z : Node D). KeepsNodeFiles cells z (Primary q)) (sym is) (primary_closed p q others stays no_new appears)

  -- a ticket of a replica was opened
  pub opened_replica : (x : Node D) (r s : ReplicaParts D) → x ≡ Replica r → s ≡ record r { files = s.files; searchers = s.searchers } → s.searchers.point ≡ r.searchers.point → KeepsSource cells r s → KeepsNodeFiles cells x (Replica s)
  opened_replica x r s is others point sourced = subst (λ (z : Node D). KeepsNodeFiles cells z (Replica s)) (sym is) (record {
    sourced = sourced;
    appears = record { each = λ name none. ap (λ (z : ReplicaParts D). (cells z.dir name).now) others ∙ none };
    commits = ap (λ (z : ReplicaParts D). z.commits) others;
    infos = ap (λ (z : ReplicaParts D). z.infos) others;
    job = ap (λ (z : ReplicaParts D). z.job) others;
    jobs = ap (λ (z : ReplicaParts D). z.jobs) others;
    copies = ap (λ (z : ReplicaParts D). z.copies) others;
    version = ap (λ (z : SearchPoint Shown). z.version) point;
  })

  -- a node that no call changed
  pub node_alone : (x : Node D) → KeepsNodeFiles cells x x
  node_alone (Primary p) = (
    record {
      stays = record { held = λ q old new. refl };
      no_new = record { each = λ q is. is };
      drawn = record { each = λ q is. is };
      appears = record { each = λ q none. none };
      commits = refl;
      point = refl;
      generation = refl;
    },
    refl,
  )
  node_alone (Replica r) = record { sourced = λ source is. is; appears = record { each = λ q none. none }; commits = refl; infos = refl; job = refl; jobs = refl; copies = refl; version = refl }
  node_alone (Down d) = refl
