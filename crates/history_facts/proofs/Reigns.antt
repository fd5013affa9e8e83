-- Who is the primary after a crash.
use Rattle.std.proofs.Common.{◌≡◌, ◌==◌, ℕ, Bool, true, false, Option, Some, None, refl, ap, ◌∙◌, sym, if◌then◌else◌}
use Rattle.std.proofs.lemmas.Bool.{eqb-true}
use Rattle.nrt_base.specs.declared.numbers.NodeNo.{NodeNo}
use Rattle.history_rules.specs.Nodes.{is_at}

-- a node that crashed is not
pub crashed_self : (p : Option NodeNo) (m n : ℕ) → (m == n) ≡ true → is_at (if is_at p m then None else p) n ≡ false
crashed_self p m n same = by (is_at p m) refl
  where
    by : (b : Bool) → is_at p m ≡ b → is_at (if b then None else p) n ≡ false
    by true e = refl
    by false e = ap (is_at p) (sym (eqb-true m n same)) ∙ e

-- another one stays what it was
pub crashed_other : (p : Option NodeNo) (m n : ℕ) → (m == n) ≡ false → is_at (if is_at p m then None else p) n ≡ is_at p n
crashed_other None m n apart = refl
crashed_other (Some q) m n apart = by (q.0 == m) refl
  where
    by : (b : Bool) → (q.0 == m) ≡ b → is_at (if b then None else Some q) n ≡ (q.0 == n)
    by true e = sym (ap (λ (k : ℕ). k == n) (eqb-true q.0 m e) ∙ apart)
    by false e = refl
