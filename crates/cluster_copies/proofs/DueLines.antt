-- What the words of a line and of a job are behind the faults that a file meets, and the rule of a line that such a fault refuses.
use Rattle.std.proofs.Common.{◌≡◌, ◌≢◌, ◌==◌, ◌||◌, ◌&&◌, ℕ, nat_lt, Bool, true, false, true≢false, List, [], ◌∷◌, Some, Option, refl, ap, ◌∙◌, sym, subst}
use Rattle.std.specs.Prelude.{not}
use Rattle.std.proofs.lemmas.Bool.{eqb-true}
use Rattle.nrt_base.specs.declared.numbers.At.{At}
use Rattle.nrt_base.specs.declared.numbers.NodeNo.{NodeNo}
use Rattle.history_rules.specs.declared.cause.FaultKind.{FaultKind}
use Rattle.history_rules.specs.declared.cause.FaultKind.TheVariants.{Link, Damage, Disk, Stop}
use Rattle.history_rules.specs.declared.entry.Event.{Event}
use Rattle.history_rules.specs.declared.entry.Event.TheVariants.{Fault, Refused}
use Rattle.history_rules.specs.Nodes.{Past}
use Rattle.history_rules.specs.Lines.{same_at, start_entry, before_start, has_switched}
use Rattle.history_rules.specs.Started.{is_node_of, is_lost, is_copy}
use Rattle.history_rules.specs.Points.{IsDrawnFile}
use Rattle.history_rules.specs.Faults.{has_damage, has_fault, is_of_disk, same_kind}
use Rattle.history_rules.specs.Rules.{MayRefuseLine}
use Rattle.history_rules.specs.Legal.{KeepsRule}
use Rattle.history_tables.specs.declared.jobs.JobRow.{JobRow}
use Rattle.history_book.specs.Log.{Log, printed}
use Rattle.history_book.specs.Jobs.{LaneJobShows}
use Rattle.history_book.specs.Told.{IsSo}
use Rattle.link_model.specs.declared.fate.Fate.{Fate}
use Rattle.link_model.specs.declared.fate.Fate.TheVariants.{Whole, Fail, Damage as DamageFate}
use Rattle.cluster_state.specs.Run.{Run}
use Rattle.cluster_state.specs.Copies.{FailsFor}
use Rattle.cluster_state.specs.DueFaults.{MeetsFate, fate_cause, with_due}
use Rattle.cluster_state.specs.Met.{with_met}
use Rattle.cluster_state.proofs.Faulted.{met_keeps}
use Rattle.cluster_state.proofs.FilesDue.{due_has}
use Rattle.cluster_copies.proofs.MetLines.{SameWords, MeetsFault, same_words, fault_words, met_words, lost_still, lane_step}

-- ---- words

-- the words of a line are behind the faults that a file meets what they were
pub due_words : (at by : At) (n : ℕ) (log : Log) → SameWords at log (with_due false by n log)
due_words at by n log = due_has (SameWords at log) false by (λ m kind l is. fault_words at by log m kind l is) n log (same_words at log)

pub lane_due_still : (size : ℕ) (row : JobRow) (by : At) (n : ℕ) (log : Log) → LaneJobShows size (printed log) row → LaneJobShows size (printed (with_due false by n log)) row
lane_due_still size row by n log was = due_has (λ l. LaneJobShows size (printed l) row) false by (λ m kind l is. lane_step size row by m kind l is) n log was

-- ---- what a line met in a file

-- a line that met such a fault at such a node met it at one of more
wider : (p q : ℕ → Bool) (kinds : FaultKind → Bool) → ((k : ℕ) → p k ≡ true → q k ≡ true) → (at : At) (past : Past) → has_fault p kinds at past ≡ true → has_fault q kinds at past ≡ true
wider p q kinds more at [] met = absurd (true≢false (sym met))
wider p q kinds more at (e ∷ past) met = step (λ was. wider p q kinds more at past was) e.event met
  where
    either : (b c x : Bool) → (b ≡ true → c ≡ true) → (x ≡ true → has_fault q kinds at past ≡ true) → (b || x) ≡ true → (c || has_fault q kinds at past) ≡ true
    either true c x keeps later some = ap (λ (y : Bool). y || has_fault q kinds at past) (keeps refl)
    either false true x keeps later some = refl
    either false false x keeps later some = later some

    one : (a b d s : Bool) → (a ≡ true → b ≡ true) → ((a && d) && s) ≡ true → ((b && d) && s) ≡ true
    one true b d s to so = ap (λ (y : Bool). (y && d) && s) (to refl) ∙ so
    one false b d s to so = absurd (true≢false (sym so))

    step : (has_fault p kinds at past ≡ true → has_fault q kinds at past ≡ true) → (x : Event) → has_fault p kinds at (record { at = e.at; event = x } ∷ past) ≡ true → has_fault q kinds at (record { at = e.at; event = x } ∷ past) ≡ true
    step rest (Fault k kind) some = either ((p k.0 && kinds kind) && same_at e.at at) ((q k.0 && kinds kind) && same_at e.at at) (has_fault p kinds at past)
        (λ so. one (p k.0) (q k.0) (kinds kind) (same_at e.at at) (more k.0) so) rest some
    step rest x some = rest some

-- faults of a kind are none of another
no_other : (at by : At) (q : ℕ → Bool) (kinds : FaultKind → Bool) (m : ℕ) (kind : FaultKind) (past : Past) → kinds kind ≡ false
    → has_fault q kinds at (record { at = by; event = Fault (record { 0 = m }) kind } ∷ past) ≡ has_fault q kinds at past
no_other at by q kinds m kind past other = ap (λ (b : Bool). b || has_fault q kinds at past) (none (q m) (kinds kind) (same_at by at) other)
  where
    none : (a d s : Bool) → d ≡ false → ((a && d) && s) ≡ false
    none true true s is = absurd (true≢false is)
    none true false s is = refl
    none false d s is = refl

link_other : (kind : FaultKind) → is_of_disk kind ≡ true → same_kind Link kind ≡ false
link_other Disk disk = refl
link_other Stop disk = refl
link_other Link disk = absurd (true≢false (sym disk))
link_other Damage disk = refl

damage_other : (kind : FaultKind) → is_of_disk kind ≡ true → same_kind Damage kind ≡ false
damage_other Disk disk = refl
damage_other Stop disk = refl
damage_other Link disk = refl
damage_other Damage disk = absurd (true≢false (sym disk))

-- what a line has met in a file, it has met behind faults of disks
pub fate_still : (fate : Fate) (at by : At) (n : ℕ) (olds news : List (ℕ × ℕ)) (log : Log) → MeetsFate fate at n (printed log) → MeetsFate fate at n (printed (with_met false by 1 olds news log))
fate_still Whole at by n olds news log met = tt
fate_still Fail at by n olds news log met =
    met_keeps (λ l. has_fault (λ m. m == n) (same_kind Link) at (printed l) ≡ true) false by
    (λ m kind l disk was. no_other at by (λ k. k == n) (same_kind Link) m kind (printed l) (link_other kind disk) ∙ was) 1 olds news log met
fate_still (DamageFate byte) at by n olds news log met =
    met_keeps (λ l. has_damage (λ m. m == n) at (printed l) ≡ true) false by
    (λ m kind l disk was.
    no_other at by (λ k. (k == n) && not (has_fault (λ j. j == k) (same_kind Link) at (record { at = by; event = Fault (record { 0 = m }) kind } ∷ printed l))) (same_kind Damage) m kind (printed l) (damage_other kind disk)
    ∙ wider (λ k. (k == n) && not (has_fault (λ j. j == k) (same_kind Link) at (printed l)))
    (λ k. (k == n) && not (has_fault (λ j. j == k) (same_kind Link) at (record { at = by; event = Fault (record { 0 = m }) kind } ∷ printed l))) (same_kind Damage)
    (λ k is. ap (λ (b : Bool). (k == n) && not b) (no_other at by (λ j. j == k) (same_kind Link) m kind (printed l) (link_other kind disk)) ∙ is) at (printed l) was)
    1 olds news log met

-- ---- the rule

-- a line that has started is refused for what it met in a file for a node of its own
may_break : (size : ℕ) (past : Past) (at : At) (begun : Event) (n : ℕ) (fate : Fate) (name : List ℕ) → start_entry at past ≡ Some begun → is_lost past (before_start at past) begun ≡ false → (is_copy begun && has_switched at past) ≡ false
    → is_node_of size (before_start at past) begun n ≡ true → fate ≢ Whole → MeetsFate fate at n past → IsDrawnFile past name → KeepsRule size past at (Refused (fate_cause fate name))
may_break size past at begun n Whole name started lost switched mine broken met drawn = absurd (broken refl)
may_break size past at begun n Fail name started lost switched mine broken met drawn =
    subst (λ (o : Option Event). MayRefuseLine size past at o (fate_cause Fail name)) (sym started) (record {
      lost = sym lost;
      met = λ other. wider (λ k. k == n) (λ k. is_node_of size (before_start at past) begun k) (same_kind Link)
          (λ k is. subst (λ (j : ℕ). is_node_of size (before_start at past) begun j ≡ true) (sym (eqb-true k n is)) mine) at past met;
      unswitched = switched;
    })
may_break size past at begun n (DamageFate byte) name started lost switched mine broken met drawn =
    subst (λ (o : Option Event). MayRefuseLine size past at o (fate_cause (DamageFate byte) name)) (sym started) (record {
      lost = sym lost;
      met = λ other. (
        wider (λ k. (k == n) && not (has_fault (λ j. j == k) (same_kind Link) at past)) (λ k. is_node_of size (before_start at past) begun k && not (has_fault (λ j. j == k) (same_kind Link) at past)) (same_kind Damage)
            (λ k is. own k (not (has_fault (λ j. j == k) (same_kind Link) at past)) (k == n) refl is) at past met,
        drawn,
      );
      unswitched = switched;
    })
  where
    own : (k : ℕ) (x b : Bool) → (k == n) ≡ b → (b && x) ≡ true → (is_node_of size (before_start at past) begun k && x) ≡ true
    own k x true here is = ap (λ (y : Bool). y && x) (subst (λ (j : ℕ). is_node_of size (before_start at past) begun j ≡ true) (sym (eqb-true k n here)) mine) ∙ is
    own k x false here is = absurd (true≢false (sym is))

-- and tells what is so
pub fate_told : (fate : Fate) (name : List ℕ) (at : At) (log : Log) → IsSo log at (Refused (fate_cause fate name))
fate_told Whole name at log = tt
fate_told Fail name at log = tt
fate_told (DamageFate byte) name at log = tt

-- and needs no disk that failed
pub fate_spared : (fate : Fate) (name : List ℕ) (n : NodeNo) (old new : Run) → fate ≢ Whole → FailsFor n (fate_cause fate name) old new
fate_spared Whole name n old new broken = absurd (broken refl)
fate_spared Fail name n old new broken = tt
fate_spared (DamageFate byte) name n old new broken = tt

-- behind faults of disks too
pub breaks_met : (size : ℕ) (at : At) (n : ℕ) (olds news : List (ℕ × ℕ)) (log : Log) (fate : Fate) (name : List ℕ) (k : MeetsFault size (printed log) at n) → is_node_of size (before_start at (printed log)) k.begun n ≡ true
    → fate ≢ Whole → MeetsFate fate at n (printed log) → IsDrawnFile (printed (with_met false at 1 olds news log)) name → KeepsRule size (printed (with_met false at 1 olds news log)) at (Refused (fate_cause fate name))
breaks_met size at n olds news log fate name k mine broken met drawn =
    may_break size (printed now) at k.begun n fate name (w.begun ∙ k.started) (lost_still at log now w k.begun k.unlost k.copies)
    (ap (λ (h : ℕ). is_copy k.begun && nat_lt 0 h) w.switched ∙ k.unswitched) (ap (λ (p : Past). is_node_of size p k.begun n) w.before ∙ mine)
    broken (fate_still fate at at n olds news log met) drawn
  where
    now : Log
    now = with_met false at 1 olds news log

    w : SameWords at log now
    w = met_words at at olds news log
