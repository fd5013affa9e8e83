use Rattle.std.proofs.Common.{◌≡◌, rules, refl, ◌∙◌}
use Rattle.disk_memory.specs.Held.{held_settled, has_file}
use Rattle.disk_memory.proofs.WalkLemmas.{retained, settles, stays, settled_walk, settled_gone}
use Rattle.disk_memory.proofs.table.settle_all.Goals as goal

pub returns : goal.returns
returns c = λ q.
    retained settles stays _ (λ _. 0) (λ f k v b w g t. let h : (w ≡ held_settled v) × (b ≡ has_file w) = search rules in (h.0, h.1, refl)) (λ x v. settled_gone v) c.args.slots.now.entries c.retain.new.self.entries _ c.retain.ensures.filtered c.retain.ensures.was_ordered q
    ∙ settled_walk c.args.slots.now.entries q
