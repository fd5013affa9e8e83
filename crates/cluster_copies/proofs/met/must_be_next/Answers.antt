use Rattle.std.proofs.Common.{◌≡◌, Option, subst, sym}
use Rattle.std.specs.Prelude.{IsSomeAnd}
use Rattle.disk_model.specs.Disk.{Name}
use Rattle.disk_model.proofs.CellLemmas.{same_true}
use Rattle.copy_state.specs.declared.meta.FileMetaData.{FileMetaData}
use Rattle.cluster_copies.proofs.met.must_be_next.Goals as goal

pub returns-then-eq : goal.returns-then-eq
returns-then-eq c = subst (λ (o : Option (Name × FileMetaData)). IsSomeAnd o (λ f. f.0 ≡ c.args.name.now)) (sym c.in-Some.is) (same_true c.in-Some.first.0 c.args.name.now (sym c.if-eq.ensures))
