-- What an entry does to the merges in flight.
use Rattle.std.proofs.Common.{◌≡◌, ◌≢◌, ◌≤◌, ◌<◌, ◌+◌, ◌&&◌, ◌==◌, ◌⊎◌, ⊎_elim, inl, inr, ℕ, Bool, true, false, true≢false, List, [], ◌∷◌, Some, None, Option, length, refl, ap, ◌∙◌, sym, subst, arith, if◌then◌else◌}
use Rattle.std.proofs.lemmas.Bool.Decides.{nat_tests}
use Rattle.nrt_base.specs.declared.numbers.At.{At}
use Rattle.nrt_base.specs.declared.numbers.Gen.{Gen}
use Rattle.nrt_base.specs.declared.numbers.NodeNo.{NodeNo}
use Rattle.nrt_base.specs.declared.numbers.SegNo.{SegNo}
use Rattle.nrt_base.specs.declared.numbers.Version.{Version}
use Rattle.nrt_base.specs.SegNumbers.{segment_number}
use Rattle.history_rules.specs.declared.entry.Event.{Event}
use Rattle.history_rules.specs.declared.entry.Event.TheVariants.{Publishing, Published, Crashed, Promoted, Merging, Fault}
use Rattle.history_rules.specs.declared.cause.FaultKind.{FaultKind}
use Rattle.history_rules.specs.Nodes.{Past, is_at, primary_of, primary_by, generation_of, newest_version}
use Rattle.history_rules.specs.Rules.{MayPublish}
use Rattle.history_book.specs.Laws.{Flying}
use Rattle.history_rules.specs.Lines.{same_at, is_start, is_reply, before_start, without_at, publish_in_flight}
use Rattle.history_rules.specs.Points.{operations_of_generation, accepted_at_start, published_in_generation, names_drawn, merges_started, idle_publishes, adds_none, cut_of, cut_has_put}
use Rattle.history_rules.specs.Legal.{IsLegalPast}
use Rattle.history_tables.proofs.RowLemmas.{same_at_self}
use Rattle.history_book.specs.Turns.{StartsOnce, InTurn, AreInTurn}
use Rattle.history_book.specs.Log.{Log, printed, shown, kept, mark_for}
use Rattle.history_book.specs.Told.{cut_since, IsSo}
use Rattle.history_book.specs.Steps.{publish_by}
use Rattle.history_book.specs.declared.inner.Inner.{Inner}
use Rattle.history_book.specs.declared.inner.Inner.TheVariants.{MergeEnd}
use Rattle.history_book.proofs.LineLaws.{without_some, fresh_apart, flying}
use Rattle.merge_tasks.specs.declared.merges.MergeRow.{MergeRow}
use Rattle.merge_tasks.specs.Merging.{MergeTable, line_of, cut_after, merge_by, merge_on, next_name, cut_overs, MergesShow, ends_reign, is_apart, ends_no_merge}

-- the publish in flight after such an entry was so before, and started where it did
flight_back : (size : ℕ) (past : Past) (x : At) (e : Event) (at : At) → IsLegalPast size past → AreInTurn past → InTurn past x e → is_apart e ≡ true
    → publish_by x e (primary_of past) (publish_in_flight past) ≡ Some at
    → (publish_in_flight past ≡ Some at) × (before_start at (record { at = x; event = e } ∷ past) ≡ before_start at past)
flight_back size past x Publishing at legal turns turn apart is = absurd (true≢false (sym apart))
flight_back size past x (Published g v) at legal turns turn apart is = absurd (true≢false (sym apart))
flight_back size past x (Crashed m) at legal turns turn apart is = crash (is_at (primary_of past) m.0) is
  where
    crash : (b : Bool) → (if b then None else without_at x (publish_in_flight past)) ≡ Some at → (publish_in_flight past ≡ Some at) × (before_start at past ≡ before_start at past)
    crash true none = absurd (cc)
    crash false got = ((without_some x at (publish_in_flight past) got).0, refl)
flight_back size past x e at legal turns turn apart is = back (is_reply e) is
  where
    back : (b : Bool) → (if b then without_at x (publish_in_flight past) else publish_in_flight past) ≡ Some at
        → (publish_in_flight past ≡ Some at) × ((if is_start e && same_at x at then past else before_start at past) ≡ before_start at past)
    back true got = let old = without_some x at (publish_in_flight past) got in
        (old.0, ap (λ (s : Bool). if is_start e && s then past else before_start at past) old.1 ∙ elim (is_start e) as (λ b. (if b && false then past else before_start at past) ≡ before_start at past) [ true ↦ refl | false ↦ refl ])
    back false got = (got, starts (is_start e) turn.once)
      where
        starts : (b : Bool) → StartsOnce b x past → (if b && same_at x at then past else before_start at past) ≡ before_start at past
        starts true once = ap (λ (s : Bool). if s then past else before_start at past) (fresh_apart past x at Publishing once.begun (flying size past at legal turns got).entry)
        starts false once = refl

pub record NumbersStay (now past : Past) : Type 0 where
  pub idle : idle_publishes now ≡ idle_publishes past
  pub merges : merges_started now ≡ merges_started past
  pub next : next_name now ≡ next_name past
  pub published : published_in_generation now ≡ published_in_generation past

numbers_apart : (x : At) (past : Past) (e : Event) → is_apart e ≡ true → NumbersStay (record { at = x; event = e } ∷ past) past
numbers_apart x past Publishing apart = absurd (true≢false (sym apart))
numbers_apart x past (Published g v) apart = absurd (true≢false (sym apart))
numbers_apart x past (Merging seg) apart = absurd (true≢false (sym apart))
numbers_apart x past (Promoted m g f v) apart = absurd (true≢false (sym apart))
numbers_apart x past e apart = record { idle = refl; merges = refl; next = refl; published = refl }

primary_apart : (e : Event) (p : Option NodeNo) → is_apart e ≡ true → ends_reign e p ≡ false → primary_by e p ≡ p
primary_apart (Crashed m) p apart reigns = rw reigns refl
primary_apart (Promoted m g f v) p apart reigns = absurd (true≢false (sym apart))
primary_apart e p apart reigns = refl

merge_apart : (seg : ℕ) (x : At) (e : Event) (p : Option NodeNo) (old : Option At) → is_apart e ≡ true → ends_reign e p ≡ false → merge_by seg x e p old ≡ old
merge_apart seg x (Merging s) p old apart reigns = absurd (true≢false (sym apart))
merge_apart seg x e p old apart reigns = ap (λ (b : Bool). if b then None else old) reigns

-- what a table shows is shown where merges, numbers, primary and publish are as they were
stays : (log now : Log) (t : MergeTable) → cut_since now ≡ cut_since log → ((seg : ℕ) → merge_on seg now ≡ merge_on seg log) → NumbersStay (printed now) (printed log) → primary_of (printed now) ≡ primary_of (printed log)
    → ((at : At) → publish_in_flight (printed now) ≡ Some at → (publish_in_flight (printed log) ≡ Some at) × (before_start at (printed now) ≡ before_start at (printed log)))
    → MergesShow log t → MergesShow now t
stays log now t cut same n primary back s = record {
  lines = λ seg. s.lines seg ∙ sym (same seg);
  names = λ seg on. subst (λ (k : ℕ). seg < k) (sym n.next) (s.names seg (λ none. on (same seg ∙ none)));
  paid = let p = s.paid in let idle = n.idle in let merges = n.merges in omega arith;
  flight = λ at is low.
      let was = back at is in
      let few : accepted_at_start at (printed now) ≡ accepted_at_start at (printed log) = ap (λ (p : Past). length (operations_of_generation p)) was.1 in
      let published = n.published in
      s.flight at was.0 (omega arith);
  vacant = λ none. s.vacant (sym primary ∙ none);
  since = s.since ∙ sym cut;
}

cut_still : (log : Log) (x : At) (e : Event) → is_apart e ≡ true → ends_reign e (primary_of (printed log)) ≡ false → cut_since (shown x e ∷ log) ≡ cut_since log
cut_still log x (Published g v) apart reigns = absurd (true≢false (sym apart))
cut_still log x (Promoted n g f v) apart reigns = absurd (true≢false (sym apart))
cut_still log x (Crashed n) apart reigns = ap (λ (b : Bool). if b then false else cut_since log) reigns
cut_still log x e apart reigns = refl

-- most entries leave the merges in flight as they are
pub merges_still : (size : ℕ) (log : Log) (t : MergeTable) (x : At) (e : Event) → IsLegalPast size (printed log) → AreInTurn (printed log) → InTurn (printed log) x e → is_apart e ≡ true → ends_reign e (primary_of (printed log)) ≡ false
    → MergesShow log t → MergesShow (shown x e ∷ log) t
merges_still size log t x e legal turns turn apart reigns s =
    stays log (shown x e ∷ log) t (cut_still log x e apart reigns) (λ seg. merge_apart seg x e (primary_of (printed log)) (merge_on seg log) apart reigns) (numbers_apart x (printed log) e apart)
    (primary_apart e (primary_of (printed log)) apart reigns) (λ at is. flight_back size (printed log) x e at legal turns turn apart is) s

-- so does a fault of a merge's task
pub merges_faulted : (log : Log) (t : MergeTable) (x : At) (n : NodeNo) (kind : FaultKind) → MergesShow log t → MergesShow (mark_for true (record { at = x; event = Fault n kind }) ∷ log) t
merges_faulted log t x n kind s = record { lines = s.lines; names = s.names; paid = s.paid; flight = s.flight; vacant = s.vacant; since = s.since }

-- and an entry of inner work that ends no merge
pub merges_kept : (log : Log) (t : MergeTable) (i : Inner) → ends_no_merge i ≡ true → MergesShow log t → MergesShow (kept i ∷ log) t
merges_kept log t (MergeEnd seg cut) apart s = absurd (true≢false (sym apart))
merges_kept log t i apart s = record { lines = s.lines; names = s.names; paid = s.paid; flight = s.flight; vacant = s.vacant; since = s.since }

-- the room of a table says nothing of merges
pub merges_same : (log : Log) (t new : MergeTable) → new.rows ≡ t.rows → new.cut ≡ t.cut → MergesShow log t → MergesShow log new
merges_same log t new rows cut s = record {
  lines = λ seg. ap (λ (l : List MergeRow). line_of l seg) rows ∙ s.lines seg;
  names = s.names;
  paid = let p = s.paid in let r : length new.rows ≡ length t.rows = ap length rows in let c : cut_overs new.cut ≡ cut_overs t.cut = ap cut_overs cut in omega arith;
  flight = λ at is low. cut ∙ s.flight at is low;
  vacant = λ none. (rows ∙ (s.vacant none).0, cut ∙ (s.vacant none).1);
  since = cut ∙ s.since;
}

-- a publish starts where there is an operation to publish, or a cut-over
pub merges_publishing : (log : Log) (t : MergeTable) (x : At) → (length (operations_of_generation (printed log)) ≤ published_in_generation (printed log) → t.cut ≡ true) → MergesShow log t → MergesShow (shown x Publishing ∷ log) t
merges_publishing log t x some s = record {
  lines = s.lines;
  names = λ seg on. more seg (cut_has_put (printed log)) (s.names seg on);
  paid = s.paid;
  vacant = s.vacant;
  since = s.since;
  flight = λ at is low.
      let same : x ≡ at = cc in
      let here : before_start at (record { at = x; event = Publishing } ∷ printed log) ≡ printed log =
      ap (λ (a : At). before_start a (record { at = x; event = Publishing } ∷ printed log)) (sym same) ∙ ap (λ (b : Bool). if b then printed log else before_start x (printed log)) (same_at_self x) in
      some (subst (λ (p : Past). length (operations_of_generation p) ≤ published_in_generation (printed log)) here low);
}
  where
    more : (seg : ℕ) (b : Bool) → seg < segment_number (generation_of (printed log)) (names_drawn (printed log))
        → seg < segment_number (generation_of (printed log)) (if b then names_drawn (printed log) + 1 else names_drawn (printed log))
    more seg true low = omega arith
    more seg false low = low

-- the rule of a publish that ends: those that add nothing are no more than merges
pub publish_paid : (log : Log) (t : MergeTable) (x : At) (g : Gen) (v : Version) → publish_in_flight (printed log) ≡ Some x → MergesShow log t
    → idle_publishes (record { at = x; event = Published g v } ∷ printed log) + length t.rows ≤ merges_started (printed log)
publish_paid log t x g v is s = tests (adds_none x (printed log)) refl
  where
    tests : (b : Bool) → adds_none x (printed log) ≡ b → (if b then idle_publishes (printed log) + 1 else idle_publishes (printed log)) + length t.rows ≤ merges_started (printed log)
    tests true idle =
        let low : accepted_at_start x (printed log) ≤ published_in_generation (printed log) = grind (arith, nat_tests) in
        let paid : idle_publishes (printed log) + 1 + length t.rows ≤ merges_started (printed log) = subst (λ (b : Bool). idle_publishes (printed log) + cut_overs b + length t.rows ≤ merges_started (printed log)) (s.flight x is low) s.paid in
        paid
    tests false idle = let paid = s.paid in omega arith

pub merges_published : (log : Log) (t new : MergeTable) (x : At) (g : Gen) (v : Version) → publish_in_flight (printed log) ≡ Some x → new.rows ≡ t.rows → new.cut ≡ false → MergesShow log t
    → MergesShow (shown x (Published g v) ∷ log) new
merges_published log t new x g v is rows cut s = record {
  lines = λ seg. ap (λ (l : List MergeRow). line_of l seg) rows ∙ s.lines seg;
  names = s.names;
  vacant = λ none. (rows ∙ (s.vacant none).0, cut);
  since = cut;
  paid = let p = publish_paid log t x g v is s in let r : length new.rows ≡ length t.rows = ap length rows in let c : cut_overs new.cut ≡ 0 = ap cut_overs cut in omega arith;
  flight = λ at some low.
      let old = without_some x at (publish_in_flight (printed log)) some in
      let line : Some x ≡ Some at = sym is ∙ old.0 in
      let same : x ≡ at = cc in
      absurd (true≢false (sym (same_at_self x) ∙ subst (λ (a : At). same_at x a ≡ false) (sym same) old.1));
}

-- a merge starts, into the next name
pub merges_begun : (log : Log) (t new : MergeTable) (x : At) (seg : SegNo) → seg.0 ≡ next_name (printed log) → primary_of (printed log) ≢ None
    → ((s : ℕ) → line_of new.rows s ≡ (if seg.0 == s then Some x else line_of t.rows s)) → length new.rows ≡ length t.rows + 1 → new.cut ≡ t.cut → MergesShow log t
    → MergesShow (shown x (Merging seg) ∷ log) new
merges_begun log t new x seg next runs lines count cut s = record {
  vacant = λ none. absurd (runs none);
  since = cut ∙ s.since;
  lines = λ n. lines n ∙ ap (λ (o : Option At). if seg.0 == n then Some x else o) (s.lines n);
  names = λ n on. low n (seg.0 == n) refl on;
  paid = let p = s.paid in let c : cut_overs new.cut ≡ cut_overs t.cut = ap cut_overs cut in omega arith;
  flight = λ at some few.
      let old = without_some x at (publish_in_flight (printed log)) some in cut ∙ s.flight at old.0 few;
}
  where
    low : (n : ℕ) (b : Bool) → (seg.0 == n) ≡ b → (if b then Some x else merge_on n log) ≢ None → n < segment_number (generation_of (printed log)) (names_drawn (printed log) + 1)
    low n true here on = let same : seg.0 ≡ n = grind (arith, nat_tests) in omega arith
    low n false apart on = let was = s.names n on in omega arith

-- no merge is in flight into the next name
pub next_free : (log : Log) (t : MergeTable) (seg : SegNo) → seg.0 ≡ next_name (printed log) → MergesShow log t → line_of t.rows seg.0 ≡ None
next_free log t seg next s = free (merge_on seg.0 log) refl
  where
    free : (o : Option At) → merge_on seg.0 log ≡ o → line_of t.rows seg.0 ≡ None
    free None is = s.lines seg.0 ∙ is
    free (Some at) is = let low = s.names seg.0 (λ none. absurd (let both : Some at ≡ None = sym is ∙ none in cc)) in absurd (omega arith)

-- a merge ends; where it was cut over, no publish is in flight
pub merges_ended : (log : Log) (t new : MergeTable) (seg : SegNo) (cut : Bool) → line_of t.rows seg.0 ≢ None → (cut ≡ true → publish_in_flight (printed log) ≡ None)
    → ((n : ℕ) → line_of new.rows n ≡ (if seg.0 == n then None else line_of t.rows n)) → length new.rows + 1 ≤ length t.rows → new.cut ≡ cut_after cut t.cut
    → MergesShow log t → MergesShow (kept (MergeEnd seg cut) ∷ log) new
merges_ended log t new seg cut there calm lines fewer after s = record {
  vacant = λ none. absurd (there (ap (λ (l : List MergeRow). line_of l seg.0) (s.vacant none).0));
  lines = λ n. lines n ∙ ap (λ (o : Option At). if seg.0 == n then None else o) (s.lines n);
  names = λ n on. s.names n (λ none. on (ended n (seg.0 == n) none));
  paid = paid cut after;
  since = since cut after s.since;
  flight = λ at is low. flight cut after calm at is low;
}
  where
    since : (c : Bool) → new.cut ≡ cut_after c t.cut → t.cut ≡ cut_since log → new.cut ≡ (if c then true else cut_since log)
    since true is was = is
    since false is was = is ∙ was

    ended : (n : ℕ) (b : Bool) → merge_on n log ≡ None → (if b then None else merge_on n log) ≡ None
    ended n true none = refl
    ended n false none = none

    paid : (c : Bool) → new.cut ≡ cut_after c t.cut → idle_publishes (printed log) + cut_overs new.cut + length new.rows ≤ merges_started (printed log)
    paid true is = let p = s.paid in let one : cut_overs new.cut ≡ 1 = ap cut_overs is in omega arith
    paid false is = let p = s.paid in let one : cut_overs new.cut ≡ cut_overs t.cut = ap cut_overs is in omega arith

    flight : (c : Bool) → new.cut ≡ cut_after c t.cut → (c ≡ true → publish_in_flight (printed log) ≡ None) → (at : At) → publish_in_flight (printed log) ≡ Some at
        → accepted_at_start at (printed log) ≤ published_in_generation (printed log) → new.cut ≡ true
    flight true is none at some low = is
    flight false is none at some low = is ∙ s.flight at some low

-- a crash of the primary ends its merges
pub merges_crashed : (log : Log) (t new : MergeTable) (x : At) (m : NodeNo) → is_at (primary_of (printed log)) m.0 ≡ true → new.rows ≡ [] → new.cut ≡ false → MergesShow log t → MergesShow (shown x (Crashed m) ∷ log) new
merges_crashed log t new x m here rows cut s = record {
  lines = λ seg. ap (λ (l : List MergeRow). line_of l seg) rows ∙ sym (ap (λ (b : Bool). if b then None else merge_on seg log) here);
  names = λ seg on. absurd (on (ap (λ (b : Bool). if b then None else merge_on seg log) here));
  paid = let p = s.paid in let r : length new.rows ≡ 0 = ap length rows in let c : cut_overs new.cut ≡ 0 = ap cut_overs cut in omega arith;
  flight = λ at is low. let none : publish_in_flight (record { at = x; event = Crashed m } ∷ printed log) ≡ None = ap (λ (b : Bool). if b then None else without_at x (publish_in_flight (printed log))) here in absurd (cc);
  vacant = λ none. (rows, cut);
  since = cut ∙ sym (ap (λ (b : Bool). if b then false else cut_since log) here);
}

-- a new generation has no merge
pub merges_promoted : (size : ℕ) (log : Log) (t : MergeTable) (x : At) (m : NodeNo) (g : Gen) (f v : Version) → IsLegalPast size (printed log) → AreInTurn (printed log) → primary_of (printed log) ≡ None → MergesShow log t → MergesShow (shown x (Promoted m g f v) ∷ log) t
merges_promoted size log t x m g f v legal turns none s =
    let v0 = s.vacant none in
    let lines0 : (seg : ℕ) → merge_on seg log ≡ None = λ seg. sym (s.lines seg) ∙ ap (λ (l : List MergeRow). line_of l seg) v0.0 in
    record {
      lines = s.lines;
      names = λ seg on. absurd (on (lines0 seg));
      paid = let rows : length t.rows ≡ 0 = ap length v0.0 in let cut : cut_overs t.cut ≡ 0 = ap cut_overs v0.1 in omega arith;
      flight = λ at is low. let old = without_some x at (publish_in_flight (printed log)) is in absurd ((flying size (printed log) at legal turns old.0).runs none);
      vacant = λ is. absurd (cc);
      since = v0.1;
    }

-- what is shown at the start of a publish: an operation, or a merge that none took
pub publish_some : (log : Log) (t : MergeTable) → t.cut ≡ true → MergesShow log t → idle_publishes (printed log) < merges_started (printed log)
publish_some log t cut s = let p = s.paid in let one : cut_overs t.cut ≡ 1 = ap cut_overs cut in omega arith

-- the publish in flight ends by its rule
pub publish_rule : (log : Log) (t : MergeTable) (at : At) (g : Gen) (v : Version) → publish_in_flight (printed log) ≡ Some at → Flying (printed log) at → g.0 ≡ generation_of (printed log) → v.0 ≡ newest_version (printed log) + 1 → MergesShow log t
    → MayPublish (printed log) at g v
publish_rule log t at g v flight flies present next shows = record {
  started = flies.entry;
  survives = record { source = flies.source };
  present = present;
  next = next;
  merged = let p = publish_paid log t at g v flight shows in omega (arith, p);
}

-- what a publish tells that starts so
pub publish_told : (log : Log) (t : MergeTable) (x : At) → (0 < length (cut_of (printed log))) ⊎ (t.cut ≡ true) → MergesShow log t → IsSo log x Publishing
publish_told log t x some s = ⊎_elim (λ ops. inl ops) (λ cut. inr (sym s.since ∙ cut)) some
