-- The infos of a copy state.
use Rattle.std.proofs.Common.{◌≡◌, List, ℕ, subst}
use Rattle.segment_infos.specs.declared.infos.Infos.{Infos}
use Rattle.segment_infos.specs.Infos.{IsInfosFile}
use Rattle.segment_infos.proofs.FileLaws.{infos_files_one_to_one}
use Rattle.copy_state.specs.declared.state.CopyState.{CopyState}
use Rattle.replica_node.specs.Replica.{IsPointState}

-- what was read is what the state spells
pub state_read : (state : CopyState) (slice : List ℕ) → slice ≡ state.infos → (due : Infos) → IsPointState state due → (infos : Infos) → IsInfosFile infos slice → IsPointState state infos
state_read state slice same due is infos read =
    subst (IsPointState state) (infos_files_one_to_one.one_value state.infos due infos is.spelled (subst (λ (bytes : List ℕ). IsInfosFile infos bytes) same read)) is
