use Rattle.std.proofs.Common.{◌≡◌, ◌∙◌, rules, ap, List, ℕ}
use Rattle.std.proofs.Math.Dec.{ltb as nat_lt}
use Rattle.disk_model.specs.Disk.{Name}
use Rattle.file_deleter.specs.Holdings.{count_of}
use Rattle.copy_state.specs.declared.meta.FileMetaData.{FileMetaData}
use Rattle.copy_state.specs.States.{meta_in}
use Rattle.replica_opening.proofs.Metas.{held_kept}
use Rattle.replica_opening.proofs.known.Known.keep_held.Goals as goal

pub returns : goal.returns
returns c q some =
    held_kept _ (λ f. f.0.now) (λ f k v b w g t. let h : (w ≡ v) × (b ≡ nat_lt 0 (count_of f.0.now k)) × (g.0.now ≡ f.0.now) = search rules in h) c.self.inside.metas.entries c.retain.new.self.entries _ c.retain.ensures.filtered q some
    ∙ ap (λ (entries : List (Name × FileMetaData)). meta_in entries q) c.self.view_is
