-- While the source of a line has not crashed its generation goes on; what is written.
use Rattle.std.proofs.Common.{◌≡◌, ◌≢◌, ◌≤◌, ◌+◌, ◌&&◌, ◌==◌, ◌++◌, ℕ, Bool, true, false, List, [], ◌∷◌, Some, None, Option, length, nat_le, max, take, refl, ap, ◌∙◌, sym, subst, arith, if◌then◌else◌, append_assoc, length-append}
use Rattle.std.proofs.lemmas.Bool.{eq-eqb}
use Rattle.std.proofs.lemmas.Bool.Decides.{nat_tests}
use Rattle.std.proofs.lemmas.List.{take-append-drop, take-append-le, append-nil}
use Rattle.std.proofs.Math.Seq.{take-length}
use Rattle.nrt_base.specs.declared.numbers.At.{At}
use Rattle.nrt_base.specs.declared.numbers.NodeNo.{NodeNo}
use Rattle.documents.specs.declared.operation.Op.{Op}
use Rattle.history_rules.specs.declared.entry.Event.{Event}
use Rattle.history_rules.specs.declared.entry.Event.TheVariants.{Accepted, Publishing, Published, Crashed, Promoted}
use Rattle.history_rules.specs.Nodes.{Past, is_at, primary_of, primary_crashes, newest_version, is_made_in_generation, crashes, version_of}
use Rattle.history_rules.specs.Lines.{same_at, is_start, start_entry, before_start}
use Rattle.history_rules.specs.Points.{accepted_at_start, published_in_generation, operations_of_generation, operations_at, operations_at_start, cut_of}
use Rattle.history_facts.specs.Origins.{operations_before_generation}
use Rattle.history_rules.specs.Legal.{KeepsRule, IsLegalPast}
use Rattle.history_rules.specs.Steps.{crashes_by}
use Rattle.history_book.specs.Steps.{primary_crashes_by, crashed_by, primary_crashed_by}
use Rattle.history_tables.specs.NodeRows.{crashed_at}
use Rattle.history_tables.specs.Numbering.{primary_crashed}
use Rattle.history_book.specs.Laws.{Reigns, Written, Flying, Flushed}
use Rattle.history_rules.proofs.PastLemmas.{legal_before}
use Rattle.history_facts.proofs.WrittenLemmas.{written as base_written, started as start_written}
use Rattle.history_tables.proofs.RowLemmas.{same_at_is}

-- the start entry of a line kept its rule
pub start_kept : (size : ℕ) (at : At) (past : Past) (e : Event) → IsLegalPast size past → start_entry at past ≡ Some e → KeepsRule size (before_start at past) at e
start_kept size at [] e legal is = absurd (cc)
start_kept size at (x ∷ past) e legal is = since (is_start x.event) (same_at x.at at) refl is (start_kept size at past e legal.1)
  where
    since : (b s : Bool) → same_at x.at at ≡ s → (if b && s then Some x.event else start_entry at past) ≡ Some e
        → (start_entry at past ≡ Some e → KeepsRule size (before_start at past) at e) → KeepsRule size (if b && s then past else before_start at past) at e
    since true true here got was =
        let same : x.event ≡ e = cc in
        subst (λ (y : Event). KeepsRule size past at y) same (subst (λ (a : At). KeepsRule size past a x.event) (same_at_is x.at at here) legal.0)
    since true false apart got was = was got
    since false s apart got was = was got

pub primary_crashes_rise : (e : Event) (p : Option NodeNo) (k : ℕ) → k ≤ primary_crashes_by e p k
primary_crashes_rise (Crashed m) p k = elim (is_at p m.0) as (λ b. k ≤ (if b then k + 1 else k)) [ true ↦ omega arith | false ↦ omega arith ]
primary_crashes_rise e p k = omega arith

crashes_since : (newer older : Past) → primary_crashes older ≤ primary_crashes (newer ++ older)
crashes_since [] older = omega arith
crashes_since (e ∷ newer) older =
    let rise : primary_crashes (newer ++ older) ≤ primary_crashes (e ∷ newer ++ older) =
    primary_crashes_rise e.event (primary_of (newer ++ older)) (primary_crashes (newer ++ older)) in
    let rest = crashes_since newer older in omega (arith, rest, rise)

reigns_step : (size : ℕ) (older past : Past) (at : At) (e : Event) → KeepsRule size past at e → primary_of older ≢ None
    → primary_crashes_by e (primary_of past) (primary_crashes past) ≡ primary_crashes past → Reigns older past → Reigns older (record { at = at; event = e } ∷ past)
reigns_step size older past at (Crashed m) keeps runs same was = crash (is_at (primary_of past) m.0) refl same
  where
    crash : (b : Bool) → is_at (primary_of past) m.0 ≡ b → (if b then primary_crashes past + 1 else primary_crashes past) ≡ primary_crashes past → Reigns older (record { at = at; event = Crashed m } ∷ past)
    crash true here more = absurd (omega arith)
    crash false here more = record { primary = rw here was.primary; generation = was.generation; made = was.made; base = was.base; more = was.more; accepted = was.accepted; newest = was.newest }
reigns_step size older past at (Promoted m g f w) keeps runs same was = absurd (runs (sym was.primary ∙ keeps.vacant))
reigns_step size older past at (Accepted seq op) keeps runs same was = record {
  primary = was.primary;
  generation = was.generation;
  made = was.made;
  base = was.base;
  more = was.more ++ op ∷ [];
  accepted = ap (λ (ops : List Op). ops ++ op ∷ []) was.accepted ∙ append_assoc (operations_of_generation older) was.more (op ∷ []);
  newest = was.newest;
}
reigns_step size older past at (Published g w) keeps runs same was = record {
  primary = was.primary;
  generation = was.generation;
  made = λ v is. elim (w.0 == v) as (λ b. (if b then true else is_made_in_generation v past) ≡ true) [ true ↦ refl | false ↦ was.made v is ];
  base = was.base;
  more = was.more;
  accepted = was.accepted;
  newest = let low = was.newest in omega arith;
}
reigns_step size older past at e keeps runs same was = record { primary = was.primary; generation = was.generation; made = was.made; base = was.base; more = was.more; accepted = was.accepted; newest = was.newest }

-- while the primary has not crashed, its generation goes on
pub reigns : (size : ℕ) (newer older : Past) → IsLegalPast size (newer ++ older) → primary_of older ≢ None
    → primary_crashes (newer ++ older) ≡ primary_crashes older → Reigns older (newer ++ older)
reigns size [] older legal runs same = record { primary = refl; generation = refl; made = λ v is. is; base = refl; more = []; accepted = sym (append-nil (operations_of_generation older)); newest = omega arith }
reigns size (e ∷ newer) older legal runs same =
    let low = crashes_since newer older in
    let rise = primary_crashes_rise e.event (primary_of (newer ++ older)) (primary_crashes (newer ++ older)) in
    let all : primary_crashes_by e.event (primary_of (newer ++ older)) (primary_crashes (newer ++ older)) ≡ primary_crashes older = same in
    reigns_step size older (newer ++ older) e.at e.event legal.0 runs (omega arith) (reigns size newer older legal.1 runs (omega arith))

pub record Since (at : At) (past : Past) : Type 0 where
  pub newer : Past
  pub split : past ≡ newer ++ before_start at past

pub since_start : (at : At) (past : Past) → Since at past
since_start at [] = record { newer = []; split = refl }
since_start at (e ∷ past) = let c = choose (is_start e.event && same_at e.at at) (since_start at past) in record { newer = c.0; split = c.1 }
  where
    choose : (b : Bool) → Since at past → (newer : Past) × (e ∷ past ≡ newer ++ (if b then past else before_start at past))
    choose true was = (e ∷ [], refl)
    choose false was = (e ∷ was.newer, ap (λ (p : Past). e ∷ p) was.split)

-- while the source of a line has not crashed, its generation goes on
pub reigns_on : (size : ℕ) (at : At) (past : Past) → IsLegalPast size past → primary_of (before_start at past) ≢ None
    → primary_crashes past ≡ primary_crashes (before_start at past) → Reigns (before_start at past) past
reigns_on size at past legal runs same =
    let s = since_start at past in
    subst (λ (p : Past). Reigns (before_start at past) p) (sym s.split)
    (reigns size s.newer (before_start at past) (subst (IsLegalPast size) s.split legal) runs (ap primary_crashes (sym s.split) ∙ same))

-- what a publish that ends has, and what it leaves
published_keeps : (size : ℕ) (at : At) (past : Past) (w : ℕ) → IsLegalPast size past → start_entry at past ≡ Some Publishing → primary_crashes past ≡ primary_crashes (before_start at past)
    → (operations_at_start at past ≡ operations_before_generation past ++ take (accepted_at_start at past) (operations_of_generation past))
    × (accepted_at_start at past ≤ length (operations_of_generation past))
published_keeps size at past w legal started same =
    let start = before_start at past in
    let r = reigns_on size at past legal (start_kept size at past Publishing legal started).running same in
    let front : take (length (operations_of_generation start)) (operations_of_generation past) ≡ operations_of_generation start =
    ap (take (length (operations_of_generation start))) r.accepted
    ∙ (take-append-le (length (operations_of_generation start)) (operations_of_generation start) r.more (omega arith) ∙ take-length (operations_of_generation start)) in (
      start_written at past ∙ (base_written start ∙ (ap (λ (ops : List Op). ops ++ operations_of_generation start) (sym r.base)
          ∙ ap (λ (ops : List Op). operations_before_generation past ++ ops) (sym front))),
      omega (arith, ap length r.accepted, length-append (operations_of_generation start) r.more),
    )

written_of : (past : Past) → operations_at past (newest_version past) ≡ operations_before_generation past ++ take (published_in_generation past) (operations_of_generation past)
    → published_in_generation past ≤ length (operations_of_generation past) → Written past
written_of past newest within = record {
  newest = newest;
  within = within;
  written =
      base_written past
      ∙ (ap (λ (ops : List Op). operations_before_generation past ++ ops) (sym (take-append-drop (published_in_generation past) (operations_of_generation past)))
      ∙ (sym (append_assoc (operations_before_generation past) (take (published_in_generation past) (operations_of_generation past)) (cut_of past))
      ∙ ap (λ (ops : List Op). ops ++ cut_of past) (sym newest)));
}

written_step : (size : ℕ) (past : Past) (at : At) (e : Event) → KeepsRule size past at e → IsLegalPast size past → Written past → Written (record { at = at; event = e } ∷ past)
written_step size past at (Accepted seq op) keeps legal was =
    written_of (record { at = at; event = Accepted seq op } ∷ past)
    (was.newest ∙ ap (λ (ops : List Op). operations_before_generation past ++ ops) (sym (take-append-le (published_in_generation past) (operations_of_generation past) (op ∷ []) was.within)))
    (let n = was.within in omega (arith, length-append (operations_of_generation past) (op ∷ [])))
written_step size past at (Published g w) keeps legal was =
    let next : w.0 ≡ newest_version past + 1 = keeps.next in
    let top : max (newest_version past) w.0 ≡ w.0 = omega arith in
    let p = published_keeps size at past w.0 legal keeps.started keeps.survives.source in
    written_of (record { at = at; event = Published g w } ∷ past)
    (ap (operations_at (record { at = at; event = Published g w } ∷ past)) top ∙ (ap (λ (b : Bool). if b then operations_at_start at past else operations_at past w.0) (eq-eqb w.0 w.0 refl) ∙ p.0))
    p.1
written_step size past at (Promoted m g f w) keeps legal was =
    let above : w.0 ≡ f.0 + 1 = keeps.above in
    let high : newest_version past ≤ f.0 = keeps.high in
    let top : max (newest_version past) w.0 ≡ w.0 = omega arith in
    written_of (record { at = at; event = Promoted m g f w } ∷ past)
    (ap (operations_at (record { at = at; event = Promoted m g f w } ∷ past)) top ∙ (ap (λ (b : Bool). if b then operations_at past (version_of m.0 past) else operations_at past w.0) (eq-eqb w.0 w.0 refl) ∙ sym (append-nil (operations_at past (version_of m.0 past)))))
    (omega arith)
written_step size past at e keeps legal was = written_of (record { at = at; event = e } ∷ past) was.newest was.within

pub written : (size : ℕ) (past : Past) → IsLegalPast size past → Written past
written size [] legal = written_of [] refl (omega arith)
written size (e ∷ past) legal = written_step size past e.at e.event legal.0 legal.1 (written size past legal.1)

pub crashed_low : (n : ℕ) (past : Past) → crashed_at n past ≤ length past
crashed_low n [] = omega arith
crashed_low n (e ∷ past) = step e.event (crashed_low n past)
  where
    step : (e' : Event) → crashed_at n past ≤ length past → crashed_by n e' (length past) (crashed_at n past) ≤ length (e ∷ past)
    step (Crashed m) low = elim (m.0 == n) as (λ b. (if b then length past + 1 else crashed_at n past) ≤ length (e ∷ past)) [ true ↦ omega arith | false ↦ omega arith ]
    step e' low = omega arith

pub start_short : (at : At) (past : Past) → length (before_start at past) ≤ length past
start_short at [] = omega arith
start_short at (e ∷ past) = let rest = start_short at past in elim (is_start e.event && same_at e.at at) as (λ b. length (if b then past else before_start at past) ≤ length (e ∷ past)) [ true ↦ omega arith | false ↦ omega arith ]

pub node_crashes_rise : (n : ℕ) (at : At) (past : Past) → crashes n (before_start at past) ≤ crashes n past
node_crashes_rise n at [] = omega arith
node_crashes_rise n at (e ∷ past) = step e.event (node_crashes_rise n at past) (is_start e.event && same_at e.at at)
  where
    step : (e' : Event) → crashes n (before_start at past) ≤ crashes n past → (b : Bool) → crashes n (if b then past else before_start at past) ≤ crashes_by n e' (crashes n past)
    step (Crashed m) low b = elim (m.0 == n) as (λ t. crashes n (if b then past else before_start at past) ≤ (if t then crashes n past + 1 else crashes n past)) [ true ↦ (elim b as (λ s. crashes n (if s then past else before_start at past) ≤ crashes n past + 1) [ true ↦ omega arith | false ↦ omega arith ]) | false ↦ (elim b as (λ s. crashes n (if s then past else before_start at past) ≤ crashes n past) [ true ↦ omega arith | false ↦ omega arith ]) ]
    step e' low b = elim b as (λ s. crashes n (if s then past else before_start at past) ≤ crashes n past) [ true ↦ omega arith | false ↦ omega arith ]

node_alive_step : (n : ℕ) (at : At) (past : Past) (x : At) (e : Event) → nat_le (crashed_at n past) (length (before_start at past)) ≡ (crashes n past == crashes n (before_start at past))
    → nat_le (crashed_by n e (length past) (crashed_at n past)) (length (before_start at (record { at = x; event = e } ∷ past))) ≡ (crashes_by n e (crashes n past) == crashes n (before_start at (record { at = x; event = e } ∷ past)))
node_alive_step n at past x (Crashed m) was = crash (m.0 == n) was
  where
    crash : (b : Bool) → nat_le (crashed_at n past) (length (before_start at past)) ≡ (crashes n past == crashes n (before_start at past))
        → nat_le (if b then length past + 1 else crashed_at n past) (length (before_start at past)) ≡ ((if b then crashes n past + 1 else crashes n past) == crashes n (before_start at past))
    crash true was = let short = start_short at past in let rise = node_crashes_rise n at past in grind (arith, nat_tests)
    crash false was = was
node_alive_step n at past x e was = starts (is_start e && same_at x at) was
  where
    starts : (b : Bool) → nat_le (crashed_at n past) (length (before_start at past)) ≡ (crashes n past == crashes n (before_start at past))
        → nat_le (crashed_at n past) (length (if b then past else before_start at past)) ≡ (crashes n past == crashes n (if b then past else before_start at past))
    starts true was = let low = crashed_low n past in grind (arith, nat_tests)
    starts false was = was

-- a node has not crashed since the start of a line where its last crash was not after it
pub node_alive : (n : ℕ) (at : At) (past : Past) → nat_le (crashed_at n past) (length (before_start at past)) ≡ (crashes n past == crashes n (before_start at past))
node_alive n at [] = refl
node_alive n at (e ∷ past) = node_alive_step n at past e.at e.event (node_alive n at past)

pub source_crashes_rise : (at : At) (past : Past) → primary_crashes (before_start at past) ≤ primary_crashes past
source_crashes_rise at past = let s = since_start at past in subst (λ (p : Past). primary_crashes (before_start at past) ≤ primary_crashes p) (sym s.split) (crashes_since s.newer (before_start at past))

pub primary_crashed_low : (past : Past) → primary_crashed past ≤ length past
primary_crashed_low [] = omega arith
primary_crashed_low (e ∷ past) = step e.event (primary_crashed_low past)
  where
    step : (e' : Event) → primary_crashed past ≤ length past → primary_crashed_by e' (primary_of past) (length past) (primary_crashed past) ≤ length (e ∷ past)
    step (Crashed m) low = elim (is_at (primary_of past) m.0) as (λ b. (if b then length past + 1 else primary_crashed past) ≤ length (e ∷ past)) [ true ↦ omega arith | false ↦ omega arith ]
    step e' low = omega arith

source_alive_step : (at : At) (past : Past) (x : At) (e : Event) → nat_le (primary_crashed past) (length (before_start at past)) ≡ (primary_crashes past == primary_crashes (before_start at past))
    → nat_le (primary_crashed_by e (primary_of past) (length past) (primary_crashed past)) (length (before_start at (record { at = x; event = e } ∷ past)))
    ≡ (primary_crashes_by e (primary_of past) (primary_crashes past) == primary_crashes (before_start at (record { at = x; event = e } ∷ past)))
source_alive_step at past x (Crashed m) was = crash (is_at (primary_of past) m.0) was
  where
    crash : (b : Bool) → nat_le (primary_crashed past) (length (before_start at past)) ≡ (primary_crashes past == primary_crashes (before_start at past))
        → nat_le (if b then length past + 1 else primary_crashed past) (length (before_start at past)) ≡ ((if b then primary_crashes past + 1 else primary_crashes past) == primary_crashes (before_start at past))
    crash true was = let short = start_short at past in let rise = source_crashes_rise at past in grind (arith, nat_tests)
    crash false was = was
source_alive_step at past x e was = starts (is_start e && same_at x at) was
  where
    starts : (b : Bool) → nat_le (primary_crashed past) (length (before_start at past)) ≡ (primary_crashes past == primary_crashes (before_start at past))
        → nat_le (primary_crashed past) (length (if b then past else before_start at past)) ≡ (primary_crashes past == primary_crashes (if b then past else before_start at past))
    starts true was = let low = primary_crashed_low past in grind (arith, nat_tests)
    starts false was = was

-- the source of a line has not crashed since its start where the last crash of a primary was not after it
pub source_alive : (at : At) (past : Past) → nat_le (primary_crashed past) (length (before_start at past)) ≡ (primary_crashes past == primary_crashes (before_start at past))
source_alive at [] = refl
source_alive at (e ∷ past) = source_alive_step at past e.at e.event (source_alive at past)

legal_start : (size : ℕ) (at : At) (past : Past) → IsLegalPast size past → IsLegalPast size (before_start at past)
legal_start size at past legal = let s = since_start at past in legal_before size s.newer (before_start at past) (subst (IsLegalPast size) s.split legal)

-- what the publish in flight found written
pub flushed : (size : ℕ) (past : Past) (at : At) → IsLegalPast size past → Flying past at → Flushed past at
flushed size past at legal f =
    let start = before_start at past in
    let w = written size start (legal_start size at past legal) in
    let p = published_keeps size at past 0 legal f.entry f.source in
    record {
      found = start_written at past ∙ w.written;
      within = let within = w.within in let same = f.published in omega arith;
      accepted = p.1;
    }
