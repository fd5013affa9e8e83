-- A node may always reopen at the version that it has for certain.
use Rattle.std.proofs.Common.{◌≡◌, ◌==◌, ℕ, List, [], ◌∷◌, Bool, true, false, ◌||◌, if◌then◌else◌, sym, ap, ◌∙◌}
use Rattle.std.specs.List.{list_any}
use Rattle.std.proofs.lemmas.Bool.{or_right, eq-eqb}
use Rattle.history_rules.specs.declared.entry.Event.{Event}
use Rattle.history_rules.specs.declared.entry.Event.TheVariants.{Published, Switched, Committing, Committed, Reopened, Promoted}
use Rattle.history_rules.specs.Nodes.{Past, is_at, primary_of}
use Rattle.history_rules.specs.Commits.{base_version, late_commit, more_by, reopenable_versions}
use Rattle.history_rules.proofs.CommitLemmas.{more_found}

reopens_at : (n v : ℕ) (past : Past) → base_version n past ≡ v → list_any (λ w. w == v) (reopenable_versions n past) ≡ true
reopens_at n v [] is = ap (λ (b : Bool). b || false) (eq-eqb 1 v is)
reopens_at n v (e ∷ past) is = by_event e.event is (reopens_at n v past)
  where
    old : List ℕ
    old = reopenable_versions n past

    -- a commit or a reopening that gives the node this base version
    gives : (w : ℕ) (b : Bool) → (if b then w else base_version n past) ≡ v → (base_version n past ≡ v → list_any (λ u. u == v) old ≡ true) → list_any (λ u. u == v) (if b then w ∷ [] else old) ≡ true
    gives w true is more = ap (λ (b : Bool). b || false) (eq-eqb w v is)
    gives w false is more = more is

    -- what was searched while a late commit was in flight
    adds : (w : ℕ) (b : Bool) → list_any (λ u. u == v) old ≡ true → list_any (λ u. u == v) (if b then more_by (late_commit n past) w old else old) ≡ true
    adds w true found = more_found (late_commit n past) w v old found
    adds w false found = found

    starts : (w : ℕ) (b : Bool) → list_any (λ u. u == v) old ≡ true → list_any (λ u. u == v) (if b then w ∷ old else old) ≡ true
    starts w true found = or_right (w == v) _ found
    starts w false found = found

    by_event : (event : Event) → base_version n (record { at = e.at; event = event } ∷ past) ≡ v → (base_version n past ≡ v → list_any (λ u. u == v) old ≡ true)
        → list_any (λ u. u == v) (reopenable_versions n (record { at = e.at; event = event } ∷ past)) ≡ true
    by_event (Committed m w) is more = gives w.0 (m.0 == n) is more
    by_event (Reopened m w) is more = gives w.0 (m.0 == n) is more
    by_event (Committing m w) is more = starts w.0 (m.0 == n) (more is)
    by_event (Published g w) is more = adds w.0 (is_at (primary_of past) n) (more is)
    by_event (Switched m w) is more = adds w.0 (m.0 == n) (more is)
    by_event (Promoted m g f w) is more = adds w.0 (m.0 == n) (more is)
    by_event event is more = more is

-- a node reopens at its base version
pub reopens_at_base : (n v base : ℕ) (past : Past) → base ≡ base_version n past → base ≡ v → true ≡ list_any (λ w. w == v) (reopenable_versions n past)
reopens_at_base n v base past known is = sym (reopens_at n v past (sym known ∙ is))
