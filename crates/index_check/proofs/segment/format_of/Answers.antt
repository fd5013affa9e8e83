use Rattle.std.proofs.Common.{◌≡◌, ℕ, refl, arith}
use Rattle.postings_plain.specs.declared.format.Format.{Format}
use Rattle.postings_plain.specs.declared.format.Format.TheVariants.{One, Two}
use Rattle.postings_plain.specs.Postings.{format_number}
use Rattle.index_check.proofs.segment.format_of.Goals as goal

first : (number : ℕ) (format : Format) → number ≡ 1 → number ≡ format_number format → One ≡ format
first number One a e = refl
first number Two a e = absurd (omega (arith, a, e))

second : (number : ℕ) (format : Format) → (number ≡ 1 → ⊥) → number ≡ format_number format → Two ≡ format
second number One a e = absurd (a e)
second number Two a e = refl

pub returns-then-number-eq1 : goal.returns-then-number-eq1
returns-then-number-eq1 c format e = first c.args.number format (omega (arith, c.if-number-eq1.true)) e

pub returns-else-number-eq1 : goal.returns-else-number-eq1
returns-else-number-eq1 c format e = second c.args.number format (λ h. omega (arith, h, c.if-number-eq1.false)) e
