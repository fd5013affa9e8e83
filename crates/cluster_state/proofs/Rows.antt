-- What the calls of a line ask for, from how far the line has come.
use Rattle.std.proofs.Common.{◌≡◌, ◌≢◌, ◌==◌, ℕ, Bool, true, false, true≢false, [], Some, None, Option, ap, ◌∙◌, sym, subst, inl}
use Rattle.std.specs.Prelude.{not}
use Rattle.std.proofs.lemmas.Bool.{eq-eqb}
use Rattle.nrt_base.specs.declared.numbers.At.{At}
use Rattle.history_rules.specs.declared.cause.Cause.{Cause}
use Rattle.history_rules.specs.declared.cause.Cause.TheVariants.{Down}
use Rattle.history_rules.specs.declared.entry.Event.{Event}
use Rattle.history_rules.specs.declared.entry.Event.TheVariants.{Publishing, Refused}
use Rattle.history_rules.specs.Nodes.{Past, primary_crashes, is_running}
use Rattle.history_rules.specs.Lines.{entries_of_line, start_entry, before_start, publish_in_flight}
use Rattle.history_rules.specs.Commits.{is_disk_fault}
use Rattle.history_rules.specs.Rules.{MayRefuseLine}
use Rattle.history_rules.specs.Legal.{KeepsRule, IsLegalPast}
use Rattle.history_book.specs.Turns.{InTurn, AreInTurn}
use Rattle.history_book.specs.Laws.{IsFresh}
use Rattle.history_book.specs.Log.{Log, printed}
use Rattle.history_book.specs.Told.{IsSo}
use Rattle.cluster_state.specs.Run.{Run}
use Rattle.history_book.proofs.FreshLaws.{fresh}
use Rattle.history_book.proofs.LineLaws.{flying}
use Rattle.history_book.proofs.ToldLaws.{so_unstarted}
use Rattle.cluster_state.proofs.Turning.{fresh_turn, fresh_line}
use Rattle.script_serving.specs.Refusals.{when, without_node}

-- ---- a line of which no entry stands there

pub fresh_start : (past : Past) (at : At) → entries_of_line at past ≡ [] → start_entry at past ≢ Some Publishing
fresh_start past at none = fresh_line past at (fresh at past none)

pub refusal_rule : (size : ℕ) (past : Past) (at : At) (cause : Cause) → entries_of_line at past ≡ [] → is_disk_fault cause ≡ false → KeepsRule size past at (Refused cause)
refusal_rule size past at cause none calm =
    subst (λ (o : Option Event). MayRefuseLine size past at o cause) (sym (fresh at past none).begun) (calm ∙ sym (fresh at past none).spared)

pub refusal_told : (log : Log) (at : At) (cause : Cause) → entries_of_line at (printed log) ≡ [] → IsSo log at (Refused cause)
refusal_told log at cause none = so_unstarted log at cause (fresh at (printed log) none).begun

pub refusal_turn : (past : Past) (at : At) (cause : Cause) → entries_of_line at past ≡ [] → InTurn past at (Refused cause)
refusal_turn past at cause none = fresh_turn past at (Refused cause) (fresh at past none) (inl (fresh at past none).begun)

-- in the terms of a call, whose cluster has this state
pub fresh_in : (at : At) (s r : Run) → s ≡ r → entries_of_line at (printed r.log) ≡ [] → IsFresh at (printed s.log)
fresh_in at s r is none = fresh at (printed s.log) (subst (λ (x : Run). entries_of_line at (printed x.log) ≡ []) (sym is) none)

-- ---- what the book tells is of the log

pub legal_at : (size m : ℕ) (log l : Log) → m ≡ size → l ≡ log → IsLegalPast m (printed l) → IsLegalPast size (printed log)
legal_at size m log l nodes same legal = subst (λ (x : ℕ × Log). IsLegalPast x.0 (printed x.1)) (λ i. (nodes i, same i)) legal

pub turns_at : (log l : Log) → l ≡ log → AreInTurn (printed l) → AreInTurn (printed log)
turns_at log l same turns = subst (λ (x : Log). AreInTurn (printed x)) same turns

-- ---- a line that is lost

pub lost_flight : (size : ℕ) (past : Past) (at : At) → IsLegalPast size past → AreInTurn past → (primary_crashes past == primary_crashes (before_start at past)) ≡ false → publish_in_flight past ≢ Some at
lost_flight size past at legal turns crashed flight =
    true≢false (sym (eq-eqb (primary_crashes past) (primary_crashes (before_start at past)) (flying size past at legal turns flight).source) ∙ crashed)

-- ---- files

pub up_unrefused : (n : ℕ) (past : Past) → is_running n past ≡ true → without_node n past ≡ None
up_unrefused n past up = ap (λ (b : Bool). when (not b) Down) up
