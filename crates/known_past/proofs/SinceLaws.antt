-- What has not changed since the start of a line is as it was there.
use Rattle.std.proofs.Common.{◌≡◌, ◌==◌, ◌≤◌, ◌+◌, ◌↔◌, ℕ, [], ◌∷◌, length, Bool, true, false, ◌&&◌, if◌then◌else◌, Option, None, refl, sym, ap, ◌∙◌, arith}
use Rattle.nrt_base.specs.declared.numbers.At.{At}
use Rattle.nrt_base.specs.declared.numbers.NodeNo.{NodeNo}
use Rattle.history_rules.specs.declared.entry.Entry.{Entry}
use Rattle.history_rules.specs.declared.entry.Event.{Event}
use Rattle.history_rules.specs.declared.entry.Event.TheVariants.{Crashed, Reopened, Promoted}
use Rattle.history_rules.specs.Nodes.{Past, IsReplica, is_at, primary_of, is_running}
use Rattle.history_rules.specs.Lines.{same_at, is_start, before_start}
use Rattle.history_tables.specs.Numbering.{primary_crashed}
use Rattle.history_book.proofs.ReignLaws.{start_short}
use Rattle.known_past.specs.Nodes.{last_changed}
use Rattle.known_past.specs.Versions.{promoted_place}

-- the entries before a start are all but the newest, or stand before those
cut : (past : Past) (at : At) (e : Entry) (P : Past → Type 0) → P past → P (before_start at past) → P (before_start at (e ∷ past))
cut past at e P here there = elim (is_start e.event && same_at e.at at) as (λ b. P (if b then past else before_start at past)) [ true ↦ here | false ↦ there ]

started_low : (past : Past) (at : At) (e : Entry) → length (before_start at (e ∷ past)) ≤ length past
started_low past at e = cut past at e (λ start. length start ≤ length past) (omega arith) (start_short at past)

-- a node that neither crashed nor reopened since runs as it did then
runs_as_then : (n : ℕ) (at : At) (past : Past) → last_changed n past ≤ length (before_start at past) → is_running n past ≡ is_running n (before_start at past)
runs_as_then n at [] low = refl
runs_as_then n at (e ∷ past) low = by_event (cut past at e (λ s. last_changed n past ≤ length s → is_running n past ≡ is_running n s) (λ _. refl) (runs_as_then n at past)) e.event low
  where
    start : Past
    start = before_start at (e ∷ past)

    short : length start ≤ length past
    short = started_low past at e

    changes : (last_changed n past ≤ length start → is_running n past ≡ is_running n start) → (b now : Bool) → (if b then length past + 1 else last_changed n past) ≤ length start → (if b then now else is_running n past) ≡ is_running n start
    changes before true now low = absurd (omega (arith, low, short))
    changes before false now low = before low

    by_event : (last_changed n past ≤ length start → is_running n past ≡ is_running n start) → (event : Event) → last_changed n (record { at = e.at; event = event } ∷ past) ≤ length start → is_running n (record { at = e.at; event = event } ∷ past) ≡ is_running n start
    by_event before (Crashed m) low = changes before (m.0 == n) false low
    by_event before (Reopened m v) low = changes before (m.0 == n) true low
    by_event before event low = before low

-- where the primary neither crashed nor was promoted since, it is the one of then
reigns_as_then : (at : At) (past : Past) → primary_crashed past ≤ length (before_start at past) → promoted_place past ≤ length (before_start at past) → primary_of past ≡ primary_of (before_start at past)
reigns_as_then at [] crash promotion = refl
reigns_as_then at (e ∷ past) crash promotion =
    by_event (cut past at e (λ s. primary_crashed past ≤ length s → promoted_place past ≤ length s → primary_of past ≡ primary_of s) (λ _ _. refl) (reigns_as_then at past)) e.event crash promotion
  where
    start : Past
    start = before_start at (e ∷ past)

    short : length start ≤ length past
    short = started_low past at e

    crashes : (primary_crashed past ≤ length start → promoted_place past ≤ length start → primary_of past ≡ primary_of start) → (b : Bool) → (if b then length past + 1 else primary_crashed past) ≤ length start → promoted_place past ≤ length start → (if b then None else primary_of past) ≡ primary_of start
    crashes before true crash promotion = absurd (omega (arith, crash, short))
    crashes before false crash promotion = before crash promotion

    by_event : (primary_crashed past ≤ length start → promoted_place past ≤ length start → primary_of past ≡ primary_of start) → (event : Event) → primary_crashed (record { at = e.at; event = event } ∷ past) ≤ length start → promoted_place (record { at = e.at; event = event } ∷ past) ≤ length start
        → primary_of (record { at = e.at; event = event } ∷ past) ≡ primary_of start
    by_event before (Crashed m) crash promotion = crashes before (is_at (primary_of past) m.0) crash promotion
    by_event before (Promoted m g f v) crash promotion = absurd (omega (arith, promotion, short))
    by_event before event crash promotion = before crash promotion

-- a node that did not change since the start of a line, under a primary that did not either, is a replica where it was one then
pub replica_as_then : (n changed crashed promoted count : ℕ) (at : At) (past : Past) → changed ≡ last_changed n past → crashed ≡ primary_crashed past → promoted ≡ promoted_place past
    → count ≡ length (before_start at past) → changed ≤ count → crashed ≤ count → promoted ≤ count → IsReplica past n ↔ IsReplica (before_start at past) n
replica_as_then n changed crashed promoted count at past change crash promotion start one two three =
    let runs : is_running n past ≡ is_running n (before_start at past) = runs_as_then n at past (omega (arith, change, start, one)) in
    let reigns : primary_of past ≡ primary_of (before_start at past) = reigns_as_then at past (omega (arith, crash, start, two)) (omega (arith, promotion, start, three)) in
    let other : is_at (primary_of past) n ≡ is_at (primary_of (before_start at past)) n = ap (λ (p : Option NodeNo). is_at p n) reigns in (
      λ now. record { running = sym runs ∙ now.running; other = sym other ∙ now.other },
      λ was. record { running = runs ∙ was.running; other = other ∙ was.other },
    )
