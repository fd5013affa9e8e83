-- Where the operations of a point come from.
use Rattle.std.proofs.Common.{◌≡◌, ◌≤◌, ◌+◌, ◌∙◌, ℕ, List, [], ◌∷◌, ◌++◌, length, ap, refl, arith}
use Rattle.std.proofs.lemmas.List.{length-append}
use Rattle.std.specs.Prelude.{Bool, true, false, ◌&&◌, if◌then◌else◌}
use Rattle.std.proofs.lemmas.Grind.{common_steps}
use Rattle.nrt_base.specs.declared.numbers.At.{At}
use Rattle.documents.specs.declared.operation.Op.{Op}
use Rattle.history_rules.specs.declared.entry.Event.{Event}
use Rattle.history_rules.specs.declared.entry.Event.TheVariants.{Accepted, Promoted}
use Rattle.history_rules.specs.Nodes.{Past, accepted_count}
use Rattle.history_rules.specs.Lines.{same_at, is_start, before_start}
use Rattle.history_rules.specs.Points.{operations_written, operations_at_start, operations_at, operations_of_generation}
use Rattle.history_rules.specs.Steps.{written_by, accepted_ops_by}
use Rattle.history_facts.specs.Origins.{operations_base_by, operations_before_generation}
use Rattle.history_rules.proofs.PointLemmas.{length-documents_at-le, operations_counted}

written_step : (e : Event) (past : Past) (points : ℕ → List Op) (base own written : List Op) → written ≡ base ++ own
    → written_by e past points written ≡ operations_base_by e past points base ++ accepted_ops_by e own
written_step (Accepted seq op) past points base own written is = grind (arith, common_steps)
written_step (Promoted m g f w) past points base own written is = grind (arith, common_steps)
written_step e past points base own written is = is

-- what was written is what the generation started on, and what it accepted
pub written : (past : Past) → operations_written past ≡ operations_before_generation past ++ operations_of_generation past
written [] = refl
written (e ∷ past) =
    written_step e.event past (operations_at past) (operations_before_generation past) (operations_of_generation past) (operations_written past) (written past)

started_step : (here : Bool) (now old : List Op) (at_start before : Past) → now ≡ operations_written at_start → old ≡ operations_written before
    → (if here then now else old) ≡ operations_written (if here then at_start else before)
started_step true now old at_start before is was = is
started_step false now old at_start before is was = was

-- what was written at the start entry of a line is what was written by the entries before it
pub started : (at : At) (past : Past) → operations_at_start at past ≡ operations_written (before_start at past)
started at [] = refl
started at (e ∷ past) =
    started_step (is_start e.event && same_at e.at at) (operations_written past) (operations_at_start at past) past (before_start at past) refl (started at past)

-- a point has no more documents than operations were accepted
pub ruleset few_documents = (length-documents_at-le)

-- as many operations are written as the generation started on and accepted
pub written_length : (past : Past) → length (operations_written past) ≡ length (operations_before_generation past) + length (operations_of_generation past)
written_length past = ap length (written past) ∙ length-append (operations_before_generation past) (operations_of_generation past)

-- no more are written than were accepted
pub written_few : (past : Past) → length (operations_before_generation past) + length (operations_of_generation past) ≤ accepted_count past
written_few past = omega (arith, written_length past, (operations_counted past).written)

-- a point has no more than were accepted
pub point_few : (past : Past) (v : ℕ) → length (operations_at past v) ≤ accepted_count past
point_few past v = (operations_counted past).points v
