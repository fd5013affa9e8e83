-- Whether a name is of a segment that was drawn, by the one segment that it is of.
use Rattle.std.proofs.Common.{◌≡◌, ℕ, ◌↔◌, Bool, true, false, Option, Some, None, IsTrue, sym, ap, ◌∙◌}
use Rattle.nrt_base.specs.declared.numbers.SegNo.{SegNo}
use Rattle.history_rules.specs.Nodes.{Past}
use Rattle.history_rules.specs.Points.{is_drawn}

one_segment : (s t : SegNo) → ◌≡◌ {A = Option SegNo} (Some s) (Some t) → s.0 ≡ t.0
one_segment s t e = cc

no_segment : (s : SegNo) → ◌≡◌ {A = Option SegNo} None (Some s) → ⊥
no_segment s e = cc

-- where the segment was found, its own name was drawn
pub drawn_where : (P : ℕ → Type 0) (past : Past) (found : SegNo) (b : Bool) → b ≡ is_drawn found.0 past → P found.0
    → ((seg : SegNo) → P seg.0 → ◌≡◌ {A = Option SegNo} (Some found) (Some seg)) → IsTrue b ↔ ((seg : ℕ) × (is_drawn seg past ≡ true) × P seg)
drawn_where P past found b is p all = (
  λ h. (found.0, sym is ∙ h, p),
  λ w. is ∙ (ap (λ (k : ℕ). is_drawn k past) (one_segment found (record { 0 = w.0 }) (all (record { 0 = w.0 }) w.2)) ∙ w.1),
)

-- where none was found, there is none
pub drawn_nowhere : (P : ℕ → Type 0) (past : Past) → ((seg : SegNo) → P seg.0 → ◌≡◌ {A = Option SegNo} None (Some seg))
    → IsTrue false ↔ ((seg : ℕ) × (is_drawn seg past ≡ true) × P seg)
drawn_nowhere P past all = (λ h. absurd cc, λ w. absurd (no_segment (record { 0 = w.0 }) (all (record { 0 = w.0 }) w.2)))
