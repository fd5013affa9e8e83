-- What a log has, and what a promotion has still to accept again of it.
use Rattle.std.specs.Prelude.{List, [], ◌∷◌, ◌++◌, Bool, drop, length, if◌then◌else◌}
use Rattle.documents.specs.declared.operation.Op.{Op}
use Rattle.history_rules.specs.declared.entry.Event.TheVariants.{Accepted, Promoted}
use Rattle.history_rules.specs.Nodes.{Past, over}
use Rattle.history_rules.specs.Lines.{is_answered}
use Rattle.history_rules.specs.Points.{operations_at}

-- the operations that a log has: those that were accepted as the reply of their line, in order
abbrev pub logged_operations : Past → List Op
logged_operations = over [] (λ e past ops.
    let answered = is_answered e.at past in
    elim e.event [ Accepted seq op ↦ if answered then ops else ops ++ op ∷ [] | _ ↦ ops ])

-- the operations that are left to accept again: behind a promotion those of the log that its point lacks,
-- and one fewer behind each that is accepted
abbrev pub replay_due : Past → List Op
replay_due = over [] (λ e past left. elim e.event [
  | Promoted m g f v ↦
      drop (length (operations_at (e ∷ past) v.0)) (logged_operations past)
  | Accepted seq op ↦ drop 1 left
  | _ ↦ left
])

-- the operations that are due to be accepted again, where there is a log
abbrev pub due : Bool → Past → List Op
due log past = if log then replay_due past else []
