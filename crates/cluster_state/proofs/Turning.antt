-- Entries in their turn, and what the log of a call has.
use Rattle.std.proofs.Common.{List, ℕ, ◌≡◌, ◌≢◌, Bool, true, false, Some, None, ap, ◌∙◌, sym, subst}
use Rattle.nrt_base.specs.declared.numbers.At.{At}
use Rattle.history_rules.specs.declared.entry.Event.{Event}
use Rattle.history_rules.specs.declared.entry.Event.TheVariants.{Publishing}
use Rattle.history_rules.specs.Nodes.{Past}
use Rattle.history_rules.specs.Lines.{is_start, start_entry}
use Rattle.history_book.specs.Log.{Log, printed}
use Rattle.merge_tasks.specs.Merging.{Sheet}
use Rattle.history_book.specs.Laws.{IsFresh}
use Rattle.history_book.specs.Turns.{StartsOnce, EndsFlight, InTurn}
use Rattle.cluster_state.specs.Run.{Rest, Run}

starts_fresh : (b : Bool) (past : Past) (at : At) → IsFresh at past → StartsOnce b at past
starts_fresh true past at fresh = record { begun = fresh.begun; replied = fresh.replied }
starts_fresh false past at fresh = tt

-- an entry of a line of which none stands there comes in its turn
pub fresh_turn : (past : Past) (at : At) (e : Event) → IsFresh at past → EndsFlight at past e → InTurn past at e
fresh_turn past at e fresh ends = record { once = starts_fresh (is_start e) past at fresh; flight = ends }

-- an entry that starts no line does so where it ends nothing that is not in flight
pub later_turn : (past : Past) (at : At) (e : Event) → is_start e ≡ false → EndsFlight at past e → InTurn past at e
later_turn past at e is ends = record { once = subst (λ (b : Bool). StartsOnce b at past) (sym is) tt; flight = ends }

-- such a line has not started as a publish
pub fresh_line : (past : Past) (at : At) → IsFresh at past → start_entry at past ≢ Some Publishing
fresh_line past at fresh is = none (sym fresh.begun ∙ is)
  where
    none : None ≡ Some Publishing → ⊥
    none same = absurd (cc)

-- ---- in the terms of a call

-- the log of the book is that of the cluster
pub log_is : (r : Run) (ended : Bool) (b : Sheet) → {left : Rest} → record { ended = ended; nodes = b.nodes; log = b.log; rest = left } ≡ r → b.log ≡ r.log
log_is r ended b view = ap (λ (x : Run). x.log) view

pub nodes_is : (r : Run) (ended : Bool) (b : Sheet) → {left : Rest} → record { ended = ended; nodes = b.nodes; log = b.log; rest = left } ≡ r → b.nodes ≡ r.nodes
nodes_is r ended b view = ap (λ (x : Run). x.nodes) view

-- what the book has of the past the cluster has
pub past_has : (P : Past → Type 0) (r : Run) (ended : Bool) (b : Sheet) → {left : Rest} → record { ended = ended; nodes = b.nodes; log = b.log; rest = left } ≡ r → P (printed b.log) → P (printed r.log)
past_has P r ended b view has = subst (λ (l : Log). P (printed l)) (log_is r ended b view) has

-- what is true of a cluster that runs
pub running_has : {X : Type 0} {r : Run} {ended : Bool} {nodes : ℕ} {log : Log} {rest : Rest} → record { ended = ended; nodes = nodes; log = log; rest = rest } ≡ r → r.ended ≡ false → (ended ≡ false → X) → X
running_has view running all = all (ap (λ (x : Run). x.ended) view ∙ running)

-- the turn of an entry at what a call has of the book after it made room
pub turn_at : (r : Run) (ended : Bool) (b0 b1 : Sheet) (at : At) (e : Event) → {left : Rest} → record { ended = ended; nodes = b0.nodes; log = b0.log; rest = left } ≡ r
    → b1.log ≡ b0.log → InTurn (printed r.log) at e → InTurn (printed b1.log) at e
turn_at r ended b0 b1 at e view same turn = subst (λ (l : Log). InTurn (printed l) at e) (sym (same ∙ log_is r ended b0 view)) turn

-- such a turn of a line of which nothing stands there
pub fresh_turn_at : (b0 b1 : Sheet) (at : At) (e : Event) → b1.log ≡ b0.log → IsFresh at (printed b0.log) → EndsFlight at (printed b0.log) e → InTurn (printed b1.log) at e
fresh_turn_at b0 b1 at e same fresh ends = subst (λ (l : Log). InTurn (printed l) at e) (sym same) (fresh_turn (printed b0.log) at e fresh ends)
