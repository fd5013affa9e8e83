-- The entries at the places that are known of a line.
use Rattle.std.proofs.Common.{◌≡◌, ◌⊎◌, ⊎_elim, inl, inr, ℕ, ◌≤◌, ◌+◌, List, [], ◌∷◌, ◌++◌, length, take, reverse, Bool, true, false, ◌&&◌, if◌then◌else◌, Option, Some, None, refl, sym, ap, ◌∙◌, append_assoc, arith}
use Rattle.std.specs.List.{slice_get}
use Rattle.std.proofs.lemmas.List.{reverse-append, reverse-reverse, length-reverse, length-append}
use Rattle.std.proofs.lemmas.Option.{none-some}
use Rattle.std.proofs.Math.Seq.{take-append_seam}
use Rattle.nrt_base.specs.declared.numbers.At.{At}
use Rattle.history_rules.specs.declared.entry.Entry.{Entry}
use Rattle.history_rules.specs.declared.entry.Event.{Event}
use Rattle.history_rules.specs.declared.entry.Event.TheVariants.{Fault}
use Rattle.history_rules.specs.Nodes.{Past}
use Rattle.history_rules.specs.Lines.{same_at, is_start, last_of_line, start_entry, before_start}
use Rattle.known_past.specs.Lines.{is_fault, newest_place, start_place}

-- an entry with so many before it
record Stands (past : Past) (k : ℕ) (e : Entry) : Type 0 where
  newer : Past
  older : Past
  whole : past ≡ newer ++ e ∷ older
  count : length older ≡ k

-- it stands so too where there are more behind it
later : (past : Past) (k : ℕ) (e x : Entry) → Stands past k e → Stands (x ∷ past) k e
later past k e x s = record { newer = x ∷ s.newer; older = s.older; whole = ap (λ (p : Past). x ∷ p) s.whole; count = s.count }

-- the newest one stands behind all others
last_stands : (past : Past) (k : ℕ) (e : Entry) → length past ≡ k → Stands (e ∷ past) k e
last_stands past k e count = record { newer = []; older = past; whole = refl; count = count }

some_is : (a b : ℕ) → Some a ≡ Some b → a ≡ b
some_is a b e = cc

item_behind : (xs ys : List Entry) (y : Entry) → slice_get (xs ++ y ∷ ys) (length xs) ≡ Some y
item_behind [] ys y = refl
item_behind (x ∷ xs) ys y = item_behind xs ys y

-- the entries in order, cut at it
in_order : (past : Past) (k : ℕ) (e : Entry) (s : Stands past k e) → reverse past ≡ reverse s.older ++ e ∷ reverse s.newer
in_order past k e s =
    ap reverse s.whole ∙ reverse-append s.newer (e ∷ s.older) ∙ ap (λ (es : List Entry). es ++ reverse s.newer) (reverse-append (e ∷ []) s.older)
    ∙ append_assoc (reverse s.older) (e ∷ []) (reverse s.newer)

item_there : (entries : List Entry) (k : ℕ) (e : Entry) → Stands (reverse entries) k e → slice_get entries k ≡ Some e
item_there entries k e s =
    let size : length (reverse s.older) ≡ k = length-reverse s.older ∙ s.count in
    let order : entries ≡ reverse s.older ++ e ∷ reverse s.newer = sym (reverse-reverse entries) ∙ in_order (reverse entries) k e s in
    ap (λ (es : List Entry). slice_get es k) order ∙ ap (λ (n : ℕ). slice_get (reverse s.older ++ e ∷ reverse s.newer) n) (sym size)
    ∙ item_behind (reverse s.older) (reverse s.newer) e

-- the event of what stands there
pub event_of : (found e : Entry) (item : Option Entry) → Some found ≡ item → item ≡ Some e → Some found.event ≡ Some e.event
event_of found e item is there = let same : found ≡ e = entry_is found e (is ∙ there) in ap (λ (x : Entry). Some x.event) same
  where
    entry_is : (a b : Entry) → Some a ≡ Some b → a ≡ b
    entry_is a b e = cc

-- nothing stands where nothing is found
pub no_event : (e : Entry) (item : Option Entry) → None ≡ item → item ≡ Some e → None ≡ Some e.event
no_event e item none there = absurd (cc)

-- ---- the newest entry of a line

abbrev place_by : Event → Bool → ℕ → Option ℕ → Option ℕ
place_by e same size k = if same then (if is_fault e then k else Some size) else k

abbrev last_by : Event → Bool → Option Event → Option Event
last_by e same last = if same then elim e [ Fault n kind ↦ last | event ↦ Some event ] else last

-- the newest entry after one more: it is that one, or the one before
newest_step : (e : Event) (same : Bool) (size k : ℕ) (place : Option ℕ) (last : Option Event) → place_by e same size place ≡ Some k
    → ((place ≡ Some k) × (last_by e same last ≡ last)) ⊎ ((size ≡ k) × (last_by e same last ≡ Some e))
newest_step (Fault n kind) true size k place last is = inl (is, refl)
newest_step e true size k place last is = inr (some_is size k is, refl)
newest_step e false size k place last is = inl (is, refl)

none_step : (e : Event) (same : Bool) (size : ℕ) (place : Option ℕ) (last : Option Event) → None ≡ place_by e same size place → (None ≡ place) × (last_by e same last ≡ last)
none_step (Fault n kind) true size place last is = (is, refl)
none_step e true size place last is = absurd (none-some size is)
none_step e false size place last is = (is, refl)

record IsNewest (at : At) (past : Past) (k : ℕ) : Type 0 where
  entry : Entry
  stands : Stands past k entry
  is : last_of_line at past ≡ Some entry.event

newest_at : (at : At) (past : Past) (k : ℕ) → newest_place at past ≡ Some k → IsNewest at past k
newest_at at [] k is = absurd (none-some k is)
newest_at at (e ∷ past) k is =
    ⊎_elim
    (λ before.
    let n = newest_at at past k before.0 in
    record { entry = n.entry; stands = later past k n.entry e n.stands; is = before.1 ∙ n.is })
    (λ here. record { entry = e; stands = last_stands past k e here.0; is = here.1 })
    (newest_step e.event (same_at e.at at) (length past) k (newest_place at past) (last_of_line at past) is)

pub newest_none : (at : At) (past : Past) → None ≡ newest_place at past → None ≡ last_of_line at past
newest_none at [] is = refl
newest_none at (e ∷ past) is =
    let before = none_step e.event (same_at e.at at) (length past) (newest_place at past) (last_of_line at past) is in
    newest_none at past before.0 ∙ sym before.1

pub newest_there : (at : At) (entries : List Entry) (k : ℕ) → Some k ≡ newest_place at (reverse entries)
    → (e : Entry) × (slice_get entries k ≡ Some e) × (Some e.event ≡ last_of_line at (reverse entries))
newest_there at entries k is = let n = newest_at at (reverse entries) k (sym is) in (n.entry, item_there entries k n.entry n.stands, sym n.is)

-- ---- the start entry of a line

record IsStart (at : At) (past : Past) (k : ℕ) : Type 0 where
  entry : Entry
  stands : Stands past k entry
  is : start_entry at past ≡ Some entry.event
  before : before_start at past ≡ stands.older

start_at : (at : At) (past : Past) (k : ℕ) → start_place at past ≡ Some k → IsStart at past k
unfolding later last_stands
start_at at [] k is = absurd (none-some k is)
start_at at (e ∷ past) k is = by_test (is_start e.event && same_at e.at at) refl is (start_at at past k)
  where
    by_test : (t : Bool) → (is_start e.event && same_at e.at at) ≡ t → (if t then Some (length past) else start_place at past) ≡ Some k
        → (start_place at past ≡ Some k → IsStart at past k) → IsStart at (e ∷ past) k
    by_test true here is more = record {
      entry = e;
      stands = last_stands past k e (some_is (length past) k is);
      is = ap (λ (b : Bool). if b then Some e.event else start_entry at past) here;
      before = ap (λ (b : Bool). if b then past else before_start at past) here;
    }
    by_test false other is more =
        let s = more is in
        record {
          entry = s.entry;
          stands = later past k s.entry e s.stands;
          is = ap (λ (b : Bool). if b then Some e.event else start_entry at past) other ∙ s.is;
          before = ap (λ (b : Bool). if b then past else before_start at past) other ∙ s.before;
        }

-- where a line has not started
record IsUnstarted (at : At) (past : Past) : Type 0 where
  start : start_entry at past ≡ None
  before : before_start at past ≡ []

unstarted : (at : At) (past : Past) → start_place at past ≡ None → IsUnstarted at past
unstarted at [] is = record { start = refl; before = refl }
unstarted at (e ∷ past) is = by_test (is_start e.event && same_at e.at at) refl is (unstarted at past)
  where
    by_test : (t : Bool) → (is_start e.event && same_at e.at at) ≡ t → (if t then Some (length past) else start_place at past) ≡ None
        → (start_place at past ≡ None → IsUnstarted at past) → IsUnstarted at (e ∷ past)
    by_test true here is more = absurd (none-some (length past) (sym is))
    by_test false other is more =
        let u = more is in
        record {
          start = ap (λ (b : Bool). if b then Some e.event else start_entry at past) other ∙ u.start;
          before = ap (λ (b : Bool). if b then past else before_start at past) other ∙ u.before;
        }

pub start_there : (at : At) (entries : List Entry) (k : ℕ) → Some k ≡ start_place at (reverse entries)
    → (e : Entry) × (slice_get entries k ≡ Some e) × (Some e.event ≡ start_entry at (reverse entries))
start_there at entries k is = let s = start_at at (reverse entries) k (sym is) in (s.entry, item_there entries k s.entry s.stands, sym s.is)

pub start_none : (at : At) (past : Past) → None ≡ start_place at past → None ≡ start_entry at past
start_none at past is = sym (unstarted at past (sym is)).start

pub before_there : (at : At) (entries : List Entry) (k : ℕ) → Some k ≡ start_place at (reverse entries) → (reverse (take k entries) ≡ before_start at (reverse entries)) × (k ≤ length entries)
before_there at entries k is =
    let s = start_at at (reverse entries) k (sym is) in
    let front = reverse s.stands.older in
    let back = s.entry ∷ reverse s.stands.newer in
    let size : length front ≡ k = length-reverse s.stands.older ∙ s.stands.count in
    let order : entries ≡ front ++ back = sym (reverse-reverse entries) ∙ in_order (reverse entries) k s.entry s.stands in
    let taken : take k entries ≡ front = ap (take k) order ∙ ap (λ (n : ℕ). take n (front ++ back)) (sym size) ∙ take-append_seam front back in
    let whole : length entries ≡ length front + length back = ap length order ∙ length-append front back in
    (ap reverse taken ∙ reverse-reverse s.stands.older ∙ sym s.before, omega (arith, whole, size))

pub before_none : (at : At) (past : Past) → None ≡ start_place at past → [] ≡ before_start at past
before_none at past is = sym (unstarted at past (sym is)).before

pub count_there : (at : At) (past : Past) (k : ℕ) → Some k ≡ start_place at past → k ≡ length (before_start at past)
count_there at past k is = let s = start_at at past k (sym is) in sym s.stands.count ∙ ap length (sym s.before)

pub count_none : (at : At) (past : Past) → None ≡ start_place at past → 0 ≡ length (before_start at past)
count_none at past is = ap length (sym (unstarted at past (sym is)).before)
