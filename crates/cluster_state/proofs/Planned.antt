-- A fault leaves what is planned at other nodes, and of other kinds; and a fault that rose stands in the log.
use Rattle.std.proofs.Common.{◌≡◌, ◌≤◌, ◌<◌, ◌+◌, ◌==◌, ◌&&◌, ◌||◌, ℕ, Bool, true, false, true≢false, List, [], ◌∷◌, refl, ap, ◌∙◌, sym, subst, arith, if◌then◌else◌, nat_lt}
use Rattle.std.proofs.lemmas.Bool.{eqb-true, or_right}
use Rattle.std.proofs.lemmas.Bool.Decides.{nat_tests}
use Rattle.nrt_base.specs.declared.numbers.At.{At}
use Rattle.history_rules.specs.declared.cause.FaultKind.{FaultKind}
use Rattle.history_rules.specs.declared.cause.FaultKind.TheVariants.{Disk, Stop}
use Rattle.history_rules.specs.Nodes.{Past, is_running}
use Rattle.history_rules.specs.Lines.{same_at}
use Rattle.history_rules.specs.Faults.{is_planned, is_of_disk, has_fault, same_kind}
use Rattle.history_tables.proofs.RowLemmas.{same_at_self}
use Rattle.history_book.specs.Log.{Log, printed}
use Rattle.cluster_state.specs.Met.{fault_by, fault_on, fault_if, with_met, IsPlannedIf, ArePlanned, has_risen}
use Rattle.cluster_state.proofs.Faulted.{met_has}

-- a node runs as before
runs_on : (task b : Bool) (at : At) (m n : ℕ) (met : FaultKind) (log : Log) → is_running n (printed (fault_on b task at m met log)) ≡ is_running n (printed log)
runs_on true true at m n met log = refl
runs_on false true at m n met log = refl
runs_on task false at m n met log = refl

neither : (b c : Bool) → (if b && false then c else c) ≡ c
neither true c = refl
neither false c = refl

-- what is planned of another kind
kept_on : (task b : Bool) (at : At) (n : ℕ) (log : Log) → is_planned n Stop (printed (fault_on b task at n Disk log)) ≡ is_planned n Stop (printed log)
kept_on true true at n log = neither (n == n) (is_planned n Stop (printed log))
kept_on false true at n log = neither (n == n) (is_planned n Stop (printed log))
kept_on task false at n log = refl

pub stop_over : (task : Bool) (at : At) (n before now b0 w0 : ℕ) (log new : Log) → new ≡ fault_if task at n Disk b0 w0 log → IsPlannedIf n Stop before now (printed log) → IsPlannedIf n Stop before now (printed new)
stop_over task at n before now b0 w0 log new is planned rose = (
  ap (λ (l : Log). is_planned n Stop (printed l)) is ∙ (kept_on task (nat_lt b0 w0) at n log ∙ (planned rose).0),
  ap (λ (l : Log). is_running n (printed l)) is ∙ (runs_on task (nat_lt b0 w0) at n n Disk log ∙ (planned rose).1),
)

-- and at another node
away : (m n : ℕ) → m < n → (m == n) ≡ false
away m n less = grind (arith, nat_tests, less)

apart_on : (task b : Bool) (at : At) (m n : ℕ) (met kind : FaultKind) (log : Log) → m < n → is_planned n kind (printed (fault_on b task at m met log)) ≡ is_planned n kind (printed log)
apart_on true true at m n met kind log less = ap (λ (c : Bool). if c && same_kind met kind then same_kind Stop kind && is_planned n kind (printed log) else is_planned n kind (printed log)) (away m n less)
apart_on false true at m n met kind log less = ap (λ (c : Bool). if c && same_kind met kind then same_kind Stop kind && is_planned n kind (printed log) else is_planned n kind (printed log)) (away m n less)
apart_on task false at m n met kind log less = refl

planned_past : (n : ℕ) (olds news : List (ℕ × ℕ)) (past now : Past) → ((k : ℕ) (kind : FaultKind) → n ≤ k → is_planned k kind now ≡ is_planned k kind past) → ((k : ℕ) → is_running k now ≡ is_running k past)
    → ArePlanned n olds news past → ArePlanned n olds news now
planned_past n [] news past now same runs was = tt
planned_past n (o ∷ olds) [] past now same runs was = tt
planned_past n (o ∷ olds) (w ∷ news) past now same runs was = (
  (λ rose. (same n Disk (omega arith) ∙ (was.0.0 rose).0, runs n ∙ (was.0.0 rose).1), λ rose. (same n Stop (omega arith) ∙ (was.0.1 rose).0, runs n ∙ (was.0.1 rose).1)),
  planned_past (n + 1) olds news past now (λ k kind low. same k kind (omega (arith, low))) runs was.1,
)

pub rest_over : (task : Bool) (at : At) (n : ℕ) (olds news : List (ℕ × ℕ)) (a b c d : ℕ) (log new : Log) → new ≡ fault_if task at n Stop a b (fault_if task at n Disk c d log) → ArePlanned (n + 1) olds news (printed log) → ArePlanned (n + 1) olds news (printed new)
rest_over task at n olds news a b c d log new is was =
    subst (λ (l : Log). ArePlanned (n + 1) olds news (printed l)) (sym is)
    (planned_past (n + 1) olds news (printed log) (printed (fault_if task at n Stop a b (fault_if task at n Disk c d log)))
    (λ k kind low. apart_on task (nat_lt a b) at n k Stop kind (fault_if task at n Disk c d log) (omega (arith, low)) ∙ apart_on task (nat_lt c d) at n k Disk kind log (omega (arith, low)))
    (λ k. runs_on task (nat_lt a b) at n k Stop (fault_if task at n Disk c d log) ∙ runs_on task (nat_lt c d) at n k Disk log) was)

-- one node more
pub next_met : (task : Bool) (at : At) (i : ℕ) (olds news olds' news' : List (ℕ × ℕ)) (o w : ℕ × ℕ) (log new was : Log) → olds ≡ o ∷ olds' → news ≡ w ∷ news' → new ≡ fault_if task at i Stop o.1 w.1 (fault_if task at i Disk o.0 w.0 log)
    → with_met task at i olds news log ≡ was → ArePlanned i olds news (printed log) → (with_met task at (i + 1) olds' news' new ≡ was) × ArePlanned (i + 1) olds' news' (printed new)
next_met task at i olds news olds' news' o w log new was first second is same planned = (
  ap (λ (l : Log). with_met task at (i + 1) olds' news' l) is ∙ ((λ j. with_met task at i (sym first j) (sym second j) log) ∙ same),
  rest_over task at i olds' news' o.1 w.1 o.0 w.0 log new is (subst (λ (z : List (ℕ × ℕ) × List (ℕ × ℕ)). ArePlanned i z.0 z.1 (printed log)) (λ j. (first j, second j)) planned).1,
)

-- ---- a fault that rose stands there

-- the line has met a fault of a disk at the node
abbrev pub HasMet : At → ℕ → Log → Type 0
HasMet at p log = has_fault (λ m. p == m) is_of_disk at (printed log) ≡ true

stays_met : (at : At) (p n : ℕ) (kind : FaultKind) (log : Log) → HasMet at p log → HasMet at p (fault_by false at n kind ∷ log)
stays_met at p n kind log was = or_right (((p == n) && is_of_disk kind) && same_at at at) (has_fault (λ m. p == m) is_of_disk at (printed log)) was

on_met : (b : Bool) (at : At) (p n : ℕ) (kind : FaultKind) (log : Log) → HasMet at p log → HasMet at p (fault_on b false at n kind log)
on_met true at p n kind log was = stays_met at p n kind log was
on_met false at p n kind log was = was

is_met : (at : At) (p n : ℕ) (kind : FaultKind) (log : Log) → (p == n) ≡ true → is_of_disk kind ≡ true → HasMet at p (fault_by false at n kind ∷ log)
is_met at p n kind log here disk = ap (λ (z : Bool × (Bool × Bool)). ((z.0 && z.1.0) && z.1.1) || has_fault (λ m. p == m) is_of_disk at (printed log)) (λ i. (here i, (disk i, same_at_self at i)))

head_met : (at : At) (p n : ℕ) (a b : Bool) (log : Log) → (p == n) ≡ true → (a || b) ≡ true → HasMet at p (fault_on b false at n Stop (fault_on a false at n Disk log))
head_met at p n true b log here some = on_met b at p n Stop (fault_by false at n Disk ∷ log) (is_met at p n Disk log here refl)
head_met at p n false true log here some = is_met at p n Stop log here refl
head_met at p n false false log here some = absurd (true≢false (sym some))

pub met_there : (at : At) (p n : ℕ) (olds news : List (ℕ × ℕ)) (log : Log) → has_risen p n olds news ≡ true → HasMet at p (with_met false at n olds news log)
met_there at p n [] news log risen = absurd (true≢false (sym risen))
met_there at p n (o ∷ olds) [] log risen = absurd (true≢false (sym risen))
met_there at p n (o ∷ olds) (w ∷ news) log risen = by (p == n) (nat_lt o.0 w.0 || nat_lt o.1 w.1) refl refl risen (λ more. met_there at p (n + 1) olds news (fault_if false at n Stop o.1 w.1 (fault_if false at n Disk o.0 w.0 log)) more)
  where
    by : (b c : Bool) → (p == n) ≡ b → (nat_lt o.0 w.0 || nat_lt o.1 w.1) ≡ c → ((b && c) || has_risen p (n + 1) olds news) ≡ true
        → (has_risen p (n + 1) olds news ≡ true → HasMet at p (with_met false at (n + 1) olds news (fault_if false at n Stop o.1 w.1 (fault_if false at n Disk o.0 w.0 log))))
        → HasMet at p (with_met false at (n + 1) olds news (fault_if false at n Stop o.1 w.1 (fault_if false at n Disk o.0 w.0 log)))
    by true true here some got more =
        met_has (HasMet at p) false at (λ m kind l was. stays_met at p m kind l was) (n + 1) olds news (fault_if false at n Stop o.1 w.1 (fault_if false at n Disk o.0 w.0 log))
        (head_met at p n (nat_lt o.0 w.0) (nat_lt o.1 w.1) log here some)
    by true false here some got more = more got
    by false c here some got more = more got
