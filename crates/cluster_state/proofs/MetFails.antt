-- Behind faults of disks that a line met, it fails now.
use Rattle.std.proofs.Common.{◌≡◌, ◌+◌, ◌==◌, ◌||◌, ◌&&◌, nat_lt, ℕ, Bool, true, false, true≢false, List, [], ◌∷◌, ◌⊎◌, inl, inr, refl, sym}
use Rattle.nrt_base.specs.declared.numbers.At.{At}
use Rattle.history_rules.specs.declared.cause.FaultKind.{FaultKind}
use Rattle.history_rules.specs.declared.cause.FaultKind.TheVariants.{Disk, Stop}
use Rattle.history_rules.specs.declared.entry.Event.{Event}
use Rattle.history_rules.specs.declared.entry.Event.TheVariants.{Fault}
use Rattle.history_rules.specs.Nodes.{Past}
use Rattle.history_rules.specs.Faults.{has_just_failed, fails_now, is_of_disk}
use Rattle.history_tables.proofs.RowLemmas.{same_at_self}
use Rattle.history_book.specs.Log.{Log, printed}
use Rattle.cluster_state.specs.Met.{fault_on, fault_if, with_met, has_risen}

-- the newest entry is a fault of a disk, where one rose
fails_on : (at : At) (n : ℕ) (kind : FaultKind) → is_of_disk kind ≡ true → (b : Bool) (log : Log) → b ≡ true ⊎ (has_just_failed at (printed log) ≡ true) → has_just_failed at (printed (fault_on b false at n kind log)) ≡ true
fails_on at n kind disk true log some = rw (disk, same_at_self at) refl
fails_on at n kind disk false log (inl none) = absurd (true≢false (sym none))
fails_on at n kind disk false log (inr was) = was

still_fails : (at : At) (n : ℕ) (olds news : List (ℕ × ℕ)) (log : Log) → has_just_failed at (printed log) ≡ true → has_just_failed at (printed (with_met false at n olds news log)) ≡ true
still_fails at n [] news log was = was
still_fails at n (o ∷ olds) [] log was = was
still_fails at n (o ∷ olds) (w ∷ news) log was =
    still_fails at (n + 1) olds news (fault_if false at n Stop o.1 w.1 (fault_if false at n Disk o.0 w.0 log))
    (fails_on at n Stop refl (nat_lt o.1 w.1) (fault_if false at n Disk o.0 w.0 log) (inr (fails_on at n Disk refl (nat_lt o.0 w.0) log (inr was))))

pub risen_fails : (at : At) (p n : ℕ) (olds news : List (ℕ × ℕ)) (log : Log) → has_risen p n olds news ≡ true → has_just_failed at (printed (with_met false at n olds news log)) ≡ true
risen_fails at p n [] news log none = absurd (true≢false (sym none))
risen_fails at p n (o ∷ olds) [] log none = absurd (true≢false (sym none))
risen_fails at p n (o ∷ olds) (w ∷ news) log risen =
    by (p == n) (nat_lt o.0 w.0) (nat_lt o.1 w.1) refl refl risen (λ more. risen_fails at p (n + 1) olds news (fault_if false at n Stop o.1 w.1 (fault_if false at n Disk o.0 w.0 log)) more)
  where
    inner : Log
    inner = fault_if false at n Stop o.1 w.1 (fault_if false at n Disk o.0 w.0 log)

    by : (here disk stop : Bool) → nat_lt o.0 w.0 ≡ disk → nat_lt o.1 w.1 ≡ stop → ((here && (disk || stop)) || has_risen p (n + 1) olds news) ≡ true
        → (has_risen p (n + 1) olds news ≡ true → has_just_failed at (printed (with_met false at (n + 1) olds news inner)) ≡ true) → has_just_failed at (printed (with_met false at (n + 1) olds news inner)) ≡ true
    by true disk true d s some later = still_fails at (n + 1) olds news inner (fails_on at n Stop refl (nat_lt o.1 w.1) (fault_if false at n Disk o.0 w.0 log) (inl s))
    by true true false d s some later =
        still_fails at (n + 1) olds news inner (fails_on at n Stop refl (nat_lt o.1 w.1) (fault_if false at n Disk o.0 w.0 log) (inr (fails_on at n Disk refl (nat_lt o.0 w.0) log (inl d))))
    by true false false d s some later = later some
    by false disk stop d s some later = later some

-- where the newest entry is such a fault of the line, it fails now
pub just_fails_now : (at : At) (past : Past) → has_just_failed at past ≡ true → fails_now at past ≡ true
just_fails_now at [] none = absurd (true≢false (sym none))
just_fails_now at (e ∷ past) failed = step e.event failed
  where
    step : (x : Event) → has_just_failed at (record { at = e.at; event = x } ∷ past) ≡ true → fails_now at (record { at = e.at; event = x } ∷ past) ≡ true
    step (Fault m kind) is = is
    step x none = absurd (true≢false (sym none))

-- so it does behind the faults, where one rose
pub fails_behind : (at : At) (p : ℕ) (olds news : List (ℕ × ℕ)) (log : Log) → has_risen p 1 olds news ≡ true → fails_now at (printed (with_met false at 1 olds news log)) ≡ true
fails_behind at p olds news log risen = just_fails_now at (printed (with_met false at 1 olds news log)) (risen_fails at p 1 olds news log risen)
