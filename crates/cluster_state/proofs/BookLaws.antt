-- What the book says of the primary, and of a line that publishes nothing.
use Rattle.std.proofs.Common.{◌≡◌, ◌≢◌, ◌≤◌, ℕ, Bool, true, false, if◌then◌else◌, List, [], ◌∷◌, Some, None, Option, ap, ◌∙◌, sym, subst, arith}
use Rattle.std.specs.Prelude.{IfSome}
use Rattle.nrt_base.specs.declared.numbers.At.{At}
use Rattle.nrt_base.specs.declared.numbers.NodeNo.{NodeNo}
use Rattle.disk_model.specs.Disk.{Cells}
use Rattle.history_rules.specs.declared.entry.Event.TheVariants.{Publishing, Crashed, Promoted}
use Rattle.history_rules.specs.Nodes.{IsNode, primary_of, Past, is_at}
use Rattle.history_rules.specs.Lines.{start_entry, publish_in_flight}
use Rattle.history_rules.specs.Legal.{KeepsRule, IsLegalPast}
use Rattle.history_book.specs.Log.{printed}
use Rattle.merge_tasks.specs.Merging.{Sheet}
use Rattle.history_book.specs.Turns.{AreInTurn}
use Rattle.cluster_nodes.specs.declared.nodes.NodePlace.{NodePlace}
use Rattle.cluster_state.specs.Run.{Rest, Run}
use Rattle.cluster_state.specs.State.{Shows}
use Rattle.cluster_state.proofs.Growing.{not_flying}
use Rattle.cluster_state.proofs.Frames.{was}
use Rattle.cluster_state.proofs.Turning.{past_has}
use Rattle.history_rules.specs.declared.entry.Event.{Event}

primary_step : (size : ℕ) (past : Past) (at : At) (e : Event) (p : NodeNo) → KeepsRule size past at e → (primary_of past ≡ Some p → IsNode size p.0)
    → primary_of (record { at = at; event = e } ∷ past) ≡ Some p → IsNode size p.0
primary_step size past at (Crashed m) p keeps was is = crash (is_at (primary_of past) m.0) is
  where
    crash : (b : Bool) → (if b then None else primary_of past) ≡ Some p → IsNode size p.0
    crash true got = absurd (cc)
    crash false got = was got
primary_step size past at (Promoted m g f v) p keeps was is = let same : m ≡ p = cc in subst (λ (q : NodeNo). IsNode size q.0) same keeps.node
primary_step size past at e p keeps was is = was is

-- the primary is a node
pub primary_node : (size : ℕ) (past : Past) (p : NodeNo) → 1 ≤ size → IsLegalPast size past → primary_of past ≡ Some p → IsNode size p.0
primary_node size [] p some legal is = let same : ◌≡◌ {A = NodeNo} (record { 0 = 1 }) p = cc in subst (λ (q : NodeNo). IsNode size q.0) same (omega arith, some)
primary_node size (e ∷ past) p some legal is = primary_step size past e.at e.event p legal.0 (λ was. primary_node size past p some legal.1 was) is

-- the publish in flight is not that of a line which did not start as one
pub apart_of : (r : Run) (ended : Bool) (b : Sheet) (at : At) → {left : Rest} → record { ended = ended; nodes = b.nodes; log = b.log; rest = left } ≡ r → IsLegalPast b.nodes (printed b.log) → AreInTurn (printed b.log)
    → start_entry at (printed r.log) ≢ Some Publishing → publish_in_flight (printed r.log) ≢ Some at
apart_of r ended b at view legal turns line = not_flying r.nodes (printed r.log) at (subst (λ (x : Run). IsLegalPast x.nodes (printed x.log)) view legal) (past_has AreInTurn r ended b view turns) line

-- the primary of the book is a node
pub primary_is_node : {D : Type 0} (cells : D → Cells) (r : Run) (ended : Bool) (b : Sheet) (places : List (Option (NodePlace D))) (o : Option NodeNo)
    → {left : Rest} → record { ended = ended; nodes = b.nodes; log = b.log; rest = left } ≡ r → r.ended ≡ false → (ended ≡ false → Shows cells b.log b.nodes places)
    → IsLegalPast b.nodes (printed b.log) → o ≡ primary_of (printed b.log) → IfSome o (λ p. IsNode r.nodes p.0)
primary_is_node cells r ended b places None view running shows legal is = tt
primary_is_node cells r ended b places (Some p) view running shows legal is =
    primary_node r.nodes (printed r.log) p (was cells r ended b.nodes b.log places view running shows).some
    (subst (λ (x : Run). IsLegalPast x.nodes (printed x.log)) view legal)
    (sym (ap (λ (x : Run). primary_of (printed x.log)) view) ∙ sym is)
