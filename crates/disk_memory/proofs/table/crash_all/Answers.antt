use Rattle.std.proofs.Common.{◌≡◌, ℕ, rules, ◌∙◌}
use Rattle.disk_memory.specs.Held.{has_file}
use Rattle.disk_memory.specs.Crash.{started, left_at, number_at}
use Rattle.disk_memory.proofs.WalkLemmas.{retained, crashes, goes_on, crashed_walk, started_gone}
use Rattle.disk_memory.proofs.table.crash_all.Goals as goal

pub returns : goal.returns
returns c = λ q.
    retained crashes goes_on _ (λ (f : ℕ × ℕ). (f.1, f.0)) (λ f k v b w g t. let h : (w ≡ started (left_at f.1 f.0 v)) × (b ≡ has_file w) × (g.0 ≡ number_at f.0 v) × (g.1 ≡ f.1) = search rules in (h.0, h.1, λ i. (h.3 i, h.2 i))) (λ s v. started_gone (left_at s.0 s.1 v)) c.args.slots.now.entries c.retain.new.self.entries (c.args.pick, c.args.pick) c.retain.ensures.filtered c.retain.ensures.was_ordered q
    ∙ crashed_walk c.args.pick c.args.pick c.args.slots.now.entries q
