-- The state of a cluster crosses threads where its parts do, and so does a site.
use denote.RattleType.{RattleType}
use denote.Struct.Struct.{Struct}
use denote.Struct.Declared.{shape as struct_shape}
use denote.Param.Send.{IsSend, SendAt, FieldsAt, struct_send_at, recorded_send_of, view_send}
use Rattle.disk_model.specs.declared.dir.FaultDir.{Ghosts as FaultGhosts}
use Rattle.disk_model.specs.declared.dir.Dir.{Ghosts as DirGhosts}
use Rattle.cluster_state.specs.contracts.cluster.ClusterState as state
use Rattle.cluster_state.specs.contracts.cluster.ClusterState.TheInside as inside
use Rattle.cluster_site.specs.contracts.site.Site as site
use Rattle.cluster_site.specs.contracts.site.Site.TheInside as parts

module _ (T : RattleType) (f : FaultGhosts T.Denot) (g : DirGhosts T.Denot) where
  pub state_send : ((d : (inside.the_type T f g).D) → FieldsAt SendAt (struct_shape (inside.the_type T f g)).fields ((inside.the_type T f g).to d)) → IsSend (state.the_row T f g)
  state_send fields =
      view_send (inside.the_row T f g) _ _ _ _
      (recorded_send_of (Struct (struct_shape (inside.the_type T f g))) (inside.the_type T f g).D (inside.the_type T f g).to (inside.the_type T f g).to_one
      (λ d. struct_send_at (struct_shape (inside.the_type T f g)) ((inside.the_type T f g).to d) (fields d)))

  pub site_send : ((d : (parts.the_type T f g).D) → FieldsAt SendAt (struct_shape (parts.the_type T f g)).fields ((parts.the_type T f g).to d)) → IsSend (site.the_row T f g)
  site_send fields =
      view_send (parts.the_row T f g) _ _ _ _
      (recorded_send_of (Struct (struct_shape (parts.the_type T f g))) (parts.the_type T f g).D (parts.the_type T f g).to (parts.the_type T f g).to_one
      (λ d. struct_send_at (struct_shape (parts.the_type T f g)) ((parts.the_type T f g).to d) (fields d)))
