-- The commit in flight: its node has not crashed since its line's start, and the line has no reply. It may be acknowledged for the
-- version of the start.
use Rattle.std.proofs.Common.{◌≡◌, ◌≢◌, ◌+◌, ◌&&◌, ◌||◌, ◌==◌, ℕ, Bool, true, false, true≢false, [], ◌∷◌, Some, None, Option, length, refl, ap, ◌∙◌, sym, subst, if◌then◌else◌}
use Rattle.std.specs.Prelude.{not}
use Rattle.std.proofs.lemmas.Bool.{eqb-true, eq-eqb, or_left, or_right}
use Rattle.nrt_base.specs.declared.numbers.At.{At}
use Rattle.nrt_base.specs.declared.numbers.NodeNo.{NodeNo}
use Rattle.nrt_base.specs.declared.numbers.Version.{Version}
use Rattle.history_rules.specs.declared.entry.Entry.{Entry}
use Rattle.history_rules.specs.declared.entry.Event.{Event}
use Rattle.history_rules.specs.declared.entry.Event.TheVariants.{Publishing, Copying, Switched, Settling, Opened, Asking, Committing, Crashed, Fault}
use Rattle.history_rules.specs.Nodes.{Past, crashes, version_of}
use Rattle.history_rules.specs.Lines.{same_at, is_start, start_entry, before_start, without_at, commit_in_flight}
use Rattle.history_rules.specs.Commits.{starts_commit, was_searched_since}
use Rattle.history_rules.specs.Points.{operations_of_generation}
use Rattle.history_rules.specs.Rules.{MayStartCommit, MayCommit}
use Rattle.history_rules.specs.Legal.{KeepsRule, IsLegalPast}
use Rattle.history_rules.specs.Steps.{crashes_by, commit_by}
use Rattle.history_tables.proofs.RowLemmas.{by_test, same_at_self}
use Rattle.history_tables.specs.Begins.{begun_by, open_line}
use Rattle.history_book.specs.Turns.{StartsOnce, InTurn, AreInTurn}
use Rattle.history_book.specs.Laws.{CommitFound, CommitFlies}
use Rattle.history_book.proofs.LineLaws.{without_some, fresh_apart}
use Rattle.history_book.proofs.OpenLaws.{before_apart}
use Rattle.history_book.proofs.ReignLaws.{start_kept}
use Rattle.history_book.proofs.FoundLaws.{commit_found}

-- after an entry of another line
flies_apart : (past : Past) (x : At) (e : Event) (n : ℕ) (at : At) → same_at x at ≡ false → crashes_by n e (crashes n past) ≡ crashes n past → CommitFlies past n at
    → CommitFlies (record { at = x; event = e } ∷ past) n at
flies_apart past x e n at apart same was =
    let line : open_line at (record { at = x; event = e } ∷ past) ≡ open_line at past =
    ap (λ (s : Bool). if s then begun_by e (length past) (length (operations_of_generation past)) (open_line at past) else open_line at past) apart in
    record {
      alive = same ∙ (was.alive ∙ ap (crashes n) (sym (before_apart (record { at = x; event = e }) past at apart)));
      is_open = λ none. was.is_open (sym line ∙ none);
    }

-- after an entry that neither starts a line nor ends one
flies_in : (past : Past) (x : At) (e : Event) (n : ℕ) (at : At) → crashes_by n e (crashes n past) ≡ crashes n past
    → before_start at (record { at = x; event = e } ∷ past) ≡ before_start at past → open_line at (record { at = x; event = e } ∷ past) ≡ open_line at past → CommitFlies past n at
    → CommitFlies (record { at = x; event = e } ∷ past) n at
flies_in past x e n at same before line was = record {
  alive = same ∙ (was.alive ∙ ap (crashes n) (sym before));
  is_open = λ none. was.is_open (sym line ∙ none);
}

flies_step : (past : Past) (x : At) (e : Event) (n : NodeNo) (at : At) → InTurn past x e
    → (commit_in_flight n.0 past ≡ Some at → CommitFlies past n.0 at × CommitFound past n at)
    → commit_by n.0 x e (commit_in_flight n.0 past) ≡ Some at → CommitFlies (record { at = x; event = e } ∷ past) n.0 at
flies_step past x (Committing m v) n at turn was is = commits (m.0 == n.0) is
  where
    commits : (b : Bool) → (if b then Some x else commit_in_flight n.0 past) ≡ Some at → CommitFlies (record { at = x; event = Committing m v } ∷ past) n.0 at
    commits true got =
        let mine : x ≡ at = cc in
        subst (λ (a : At). CommitFlies (record { at = x; event = Committing m v } ∷ past) n.0 a) mine (record {
          alive = ap (λ (s : Bool). crashes n.0 (if s then past else before_start x past)) (sym (same_at_self x));
          is_open = λ none.
              let line : open_line x (record { at = x; event = Committing m v } ∷ past) ≡ begun_by (Committing m v) (length past) (length (operations_of_generation past)) (open_line x past) =
              ap (λ (s : Bool). if s then begun_by (Committing m v) (length past) (length (operations_of_generation past)) (open_line x past) else open_line x past) (same_at_self x) in
              begun (sym line ∙ none);
        })
      where
        begun : begun_by (Committing m v) (length past) (length (operations_of_generation past)) (open_line x past) ≡ None → ⊥
        begun none = absurd (cc)
    commits false got = let w = was got in flies_apart past x (Committing m v) n.0 at (fresh_apart past x at (Committing n w.1.version) turn.once.begun w.1.entry) refl w.0
flies_step past x (Crashed m) n at turn was is = crash (m.0 == n.0) refl is
  where
    crash : (b : Bool) → (m.0 == n.0) ≡ b → (if b then None else without_at x (commit_in_flight n.0 past)) ≡ Some at → CommitFlies (record { at = x; event = Crashed m } ∷ past) n.0 at
    crash true here none = absurd (cc)
    crash false other got =
        let old = without_some x at (commit_in_flight n.0 past) got in
        flies_apart past x (Crashed m) n.0 at old.1 (ap (λ (b : Bool). if b then crashes n.0 past + 1 else crashes n.0 past) other) (was old.0).0
flies_step past x (Switched m v) n at turn was is = flies_in past x (Switched m v) n.0 at refl refl
    (by_test (same_at x at) (λ s. (if s then open_line at past else open_line at past) ≡ open_line at past) (λ s. refl) (λ s. refl)) (was is).0
flies_step past x (Fault m k) n at turn was is = flies_in past x (Fault m k) n.0 at refl refl
    (by_test (same_at x at) (λ s. (if s then open_line at past else open_line at past) ≡ open_line at past) (λ s. refl) (λ s. refl)) (was is).0
flies_step past x Publishing n at turn was is = let w = was is in flies_apart past x Publishing n.0 at (fresh_apart past x at (Committing n w.1.version) turn.once.begun w.1.entry) refl w.0
flies_step past x (Copying m v) n at turn was is = let w = was is in flies_apart past x (Copying m v) n.0 at (fresh_apart past x at (Committing n w.1.version) turn.once.begun w.1.entry) refl w.0
flies_step past x (Settling v) n at turn was is = let w = was is in flies_apart past x (Settling v) n.0 at (fresh_apart past x at (Committing n w.1.version) turn.once.begun w.1.entry) refl w.0
flies_step past x (Asking m t v) n at turn was is = let w = was is in flies_apart past x (Asking m t v) n.0 at (fresh_apart past x at (Committing n w.1.version) turn.once.begun w.1.entry) refl w.0
flies_step past x (Opened m t v) n at turn was is = opens (t.0 == 0) is turn.once
  where
    opens : (z : Bool) → (if not z then without_at x (commit_in_flight n.0 past) else commit_in_flight n.0 past) ≡ Some at → StartsOnce z x past
        → CommitFlies (record { at = x; event = Opened m t v } ∷ past) n.0 at
    opens true same once = let w = was same in flies_apart past x (Opened m t v) n.0 at (fresh_apart past x at (Committing n w.1.version) once.begun w.1.entry) refl w.0
    opens false same once = let old = without_some x at (commit_in_flight n.0 past) same in flies_apart past x (Opened m t v) n.0 at old.1 refl (was old.0).0
flies_step past x e n at turn was is = let old = without_some x at (commit_in_flight n.0 past) is in flies_apart past x e n.0 at old.1 refl (was old.0).0

-- the commit in flight
pub commit_flies : (size : ℕ) (past : Past) (n : NodeNo) (at : At) → IsLegalPast size past → AreInTurn past → commit_in_flight n.0 past ≡ Some at → CommitFlies past n.0 at
commit_flies size [] n at legal turns is = absurd (cc)
commit_flies size (e ∷ past) n at legal turns is = flies_step past e.at e.event n at turns.0
    (λ older. (commit_flies size past n at legal.1 turns.1 older, commit_found size past n at legal.1 turns.1 older)) is

-- the node searched the version of a commit's start then
pub start_searched : (size : ℕ) (past : Past) (at : At) (n : NodeNo) (v : Version) → IsLegalPast size past → start_entry at past ≡ Some (Committing n v) → was_searched_since at n.0 v.0 past ≡ true
start_searched size [] at n v legal is = absurd (cc)
start_searched size (e ∷ past) at n v legal is = tests (is_start e.event && same_at e.at at) is (λ older. start_searched size past at n v legal.1 older)
  where
    searched : (e' : Event) → KeepsRule size past e.at e' → e' ≡ Committing n v → (version_of n.0 (record { at = e.at; event = e' } ∷ past) == v.0) ≡ true
    searched e' keeps same =
        let rule : MayStartCommit size past e.at n v = subst (λ (x : Event). KeepsRule size past e.at x) same keeps in
        ap (λ (x : Event). version_of n.0 (record { at = e.at; event = x } ∷ past) == v.0) same ∙ eq-eqb _ _ (sym rule.searched)

    tests : (b : Bool) → (if b then Some e.event else start_entry at past) ≡ Some (Committing n v) → (start_entry at past ≡ Some (Committing n v) → was_searched_since at n.0 v.0 past ≡ true)
        → ((version_of n.0 (e ∷ past) == v.0) || (if b then false else was_searched_since at n.0 v.0 past)) ≡ true
    tests true got was = let same : e.event ≡ Committing n v = cc in or_left _ false (searched e.event legal.0 same)
    tests false got was = or_right (version_of n.0 (e ∷ past) == v.0) _ (was got)

-- the commit in flight may be acknowledged for the version of its start
pub commit_ends : (size : ℕ) (past : Past) (n : NodeNo) (v : Version) (at : At) → IsLegalPast size past → AreInTurn past → commit_in_flight n.0 past ≡ Some at
    → start_entry at past ≡ Some (Committing n v) → MayCommit size past at n v
commit_ends size past n v at legal turns flight started =
    let rule : MayStartCommit size (before_start at past) at n v = start_kept size at past (Committing n v) legal started in
    record {
      node = rule.node;
      started = ap (starts_commit n.0) started ∙ eq-eqb n.0 n.0 refl;
      survives = record { node = (commit_flies size past n at legal turns flight).alive };
      searched = start_searched size past at n v legal started;
      exact = λ free. started;
    }
