use Rattle.std.proofs.Common.{◌≡◌, ◌+◌, ℕ, [], ◌∷◌, ◌++◌, length, ap, ◌∙◌, sym, subst}
use Rattle.std.specs.List.{All}
use Rattle.std.proofs.lemmas.List.{length_push}
use Rattle.std.proofs.lemmas.List.Elements.{All-push}
use Rattle.disk_memory.specs.declared.memory.MemDir.{MemDir}
use Rattle.disk_memory.specs.Memory.{cells_in}
use Rattle.cluster_state.specs.Starting.{IsEmptyDir}
use Rattle.cluster_run.proofs.script.empty_dirs.Goals as goal

pub loop-preserved : goal.loop-preserved
loop-preserved c =
    let dirs = c.loop.dirs.items in
    let dir = c.in_ok-empty_dir.field-0 in
    let pushed : c.push.new.self.items ≡ dirs ++ dir ∷ [] = c.in_ok-push.ensures.items in (
      ap length pushed ∙ (length_push dirs dir ∙ ap (λ (n : ℕ). n + 1) c.loop.invariant.0),
      subst (All (λ (d : MemDir). IsEmptyDir (cells_in d))) (sym pushed) (All-push (λ (d : MemDir). IsEmptyDir (cells_in d)) dirs dir c.loop.invariant.1 c.in_ok-empty_dir.ensures),
    )
