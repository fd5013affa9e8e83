-- What a crash picks is an image, and what is listed are the names that exist.
use Rattle.std.proofs.Common.{◌≡◌, ℕ, zero, suc, ◌+◌, Bool, true, false, ◌||◌, ◌&&◌, cond, nat_lt, is_some, List, [], ◌∷◌, length, Some, None, get_or, refl, sym, ap, ◌∙◌, true≢false}
use Rattle.std.proofs.Math.Bool.{or-true}
use Rattle.std.proofs.lemmas.Cmp.{nat_list_eq_equiv}
use Rattle.std.specs.declared.cmp.Ordering.TheVariants.{Less}
use Rattle.std.specs.Ordering.{nat_cmp}
use Rattle.std.specs.Cmp.Lexicographic.{slice_cmp}
use Rattle.std.specs.List.{AllByRecursion}
use Rattle.std.specs.List.Sorted.{IsStrictlySortedBy}
use Rattle.std.specs.Map.{lookup, keys_of}
use Rattle.std.proofs.lemmas.Map.Text.{is_eq-slice_cmp}
use Rattle.disk_model.specs.Disk.{Name, Content, same, may_leave, left_by, IsImage, is_among}
use Rattle.disk_model.proofs.CellLemmas.{same_true}
use Rattle.disk_memory.specs.declared.state.State.{State}
use Rattle.disk_memory.specs.declared.state.State.TheVariants.{Absent, Loose, Synced}
use Rattle.disk_memory.specs.declared.state.Outcome.{Outcome}
use Rattle.disk_memory.specs.declared.state.Outcome.TheVariants.{Gone, Exactly, Any}
use Rattle.disk_memory.specs.Held.{Held, untouched, content_of, has_file, is_synced, outcome_of, may_be, past_of, cell}
use Rattle.disk_memory.specs.Table.{held_at, held_in, names_in, cells_of}
use Rattle.disk_memory.specs.Crash.{next_number, place_picked, content_left, outcome_at, picked, is_picked, number_at, left_at, contents_left, content_at, image_picked, started}
use Rattle.disk_memory.proofs.CellBridge.{left_of}
use Rattle.disk_memory.proofs.WalkLemmas.{at, at_same, apart_above}
use Rattle.disk_memory.proofs.TableLemmas.{held_at-cond}

-- an outcome may be the content that it becomes
may_be_left : (pick x : ℕ) (o : Outcome) → may_be o (content_left pick x o) ≡ true
may_be_left pick x Gone = refl
may_be_left pick x (Exactly bytes) = nat_list_eq_equiv.refl bytes
may_be_left pick x (Any bytes) = refl

-- what an outcome at a place may be is an outcome
at_place : (past : List Outcome) (i : ℕ) (last : Outcome) (c : Content) → may_be (get_or past i last) c ≡ true → (past_of past c || may_be last c) ≡ true
at_place [] i last c e = e
at_place (o ∷ past) zero last c e = front (may_be o c) (past_of past c) (may_be last c) e
  where
    front : (a rest b : Bool) → a ≡ true → ((a || rest) || b) ≡ true
    front true rest b h = refl
    front false rest b h = absurd (true≢false (sym h))
at_place (o ∷ past) (suc i) last c e = behind (may_be o c) (past_of past c) (may_be last c) (at_place past i last c e)
  where
    behind : (a rest b : Bool) → (rest || b) ≡ true → ((a || rest) || b) ≡ true
    behind true rest b h = refl
    behind false rest b h = h

picked_left : (pick x : ℕ) (h : Held) → may_leave (cell h) (picked pick x h) ≡ true
picked_left pick x h =
    let place = place_picked pick x (length h.past + 1) in
    sym (ap (λ b. past_of h.past (picked pick x h) || b) (left_of h.state (picked pick x h)))
    ∙ at_place h.past place (outcome_of h.state) (picked pick x h) (may_be_left pick x (outcome_at h place))

-- where there is nothing to pick, nothing is there
nothing_left : (h : Held) → is_picked h ≡ false → may_leave (cell h) None ≡ true
nothing_left h e = by h.state h.past e
  where
    by : (state : State) (past : List Outcome) → (is_some (content_of state) || nat_lt 0 (length past)) ≡ false → (past_of past None || left_by (content_of state) (is_synced state) None) ≡ true
    by Absent past e = or-true (past_of past None)
    by (Loose bytes) past e = absurd (true≢false e)
    by (Synced bytes) past e = absurd (true≢false e)

left_is_outcome : (pick x : ℕ) (h : Held) → may_leave (cell h) (left_at pick x h) ≡ true
left_is_outcome pick x h = by (is_picked h) refl
  where
    by : (t : Bool) → is_picked h ≡ t → may_leave (cell h) (cond t (picked pick (next_number x) h) None) ≡ true
    by true e = picked_left pick (next_number x) h
    by false e = nothing_left h e

image_from : (pick x : ℕ) (entries : List (Name × Held)) (q : Name) → may_leave (cell (held_in entries q)) (content_at (lookup (at q) (contents_left pick x entries))) ≡ true
image_from pick x [] q = refl
image_from pick x (e ∷ entries) q = by (at q e.0) (image_from pick (number_at x e.1) entries q)
  where
    by : (t : Bool) → may_leave (cell (held_in entries q)) (content_at (lookup (at q) (contents_left pick (number_at x e.1) entries))) ≡ true
        → may_leave (cell (held_at (cond t (Some e.1) (lookup (at q) entries)))) (content_at (cond t (Some (left_at pick x e.1)) (lookup (at q) (contents_left pick (number_at x e.1) entries)))) ≡ true
    by true h = left_is_outcome pick x e.1
    by false h = h

pub picks_image : (pick : ℕ) (entries : List (Name × Held)) → IsImage (cells_of (held_in entries)) (image_picked pick entries)
picks_image pick entries q = image_from pick pick entries q

-- a name that starts from a content
pub started_cell : (c : Content) → cell (started c) ≡ record { now = c; synced = is_some c; past = λ _. false }
started_cell None = refl
started_cell (Some bytes) = refl

-- ---- the list of names
at_here : (q k : Name) → at q k ≡ true → same k q ≡ true
at_here q k e = ap (λ (n : Name). same k n) (at_same q k e) ∙ nat_list_eq_equiv.refl k

at_apart : (q k : Name) → at q k ≡ false → same k q ≡ false
at_apart q k e = by (same k q) refl
  where
    by : (t : Bool) → same k q ≡ t → same k q ≡ false
    by true h = absurd (true≢false (sym (nat_list_eq_equiv.refl q) ∙ sym (is_eq-slice_cmp q q) ∙ ap (λ (n : Name). at q n) (sym (same_true k q h)) ∙ e))
    by false h = h

listed : (b s t rest : Bool) (here below : Held) → b ≡ has_file here → (t ≡ true → s ≡ true) → (t ≡ false → s ≡ false) → (t ≡ true → below ≡ untouched) → rest ≡ has_file below
    → ((b && s) || rest) ≡ has_file (cond t here below)
listed true true true rest here below there on off past e = there
listed true false true rest here below there on off past e = absurd (true≢false (sym (on refl)))
listed false s true rest here below there on off past e = e ∙ ap has_file (past refl) ∙ there
listed true true false rest here below there on off past e = absurd (true≢false (off refl))
listed true false false rest here below there on off past e = e
listed false s false rest here below there on off past e = e

front : (b : Bool) (k q : Name) (names : List Name) → is_among (cond b (k ∷ names) names) q ≡ ((b && same k q) || is_among names q)
front true k q names = refl
front false k q names = refl

pub names_there : (entries : List (Name × Held)) → IsStrictlySortedBy (slice_cmp nat_cmp) (keys_of entries) → (q : Name) → is_among (names_in entries) q ≡ is_some (content_of (held_in entries q).state)
unfolding IsStrictlySortedBy
names_there [] sorted q = refl
names_there (e ∷ entries) sorted q =
    front (has_file e.1) e.0 q (names_in entries)
    ∙ listed (has_file e.1) (same e.0 q) (at q e.0) (is_among (names_in entries) q) e.1 (held_in entries q) refl (at_here q e.0) (at_apart q e.0) (λ t. ap held_at (apart_above e.0 q entries t sorted.0)) (names_there entries sorted.1 q)
    ∙ ap has_file (sym (held_at-cond (at q e.0) e.1 (lookup (at q) entries)))

some_above : (P : Name → Type 0) (entries : List (Name × Held)) → AllByRecursion P (keys_of entries) → AllByRecursion P (names_in entries)
some_above P [] every = every
some_above P (e ∷ entries) every = by (has_file e.1) (some_above P entries every.1)
  where
    by : (b : Bool) → AllByRecursion P (names_in entries) → AllByRecursion P (cond b (e.0 ∷ names_in entries) (names_in entries))
    by true rest = (every.0, rest)
    by false rest = rest

ascends : (b : Bool) (k : Name) (names : List Name) → AllByRecursion (λ y. slice_cmp nat_cmp k y ≡ Less) names → IsStrictlySortedBy (slice_cmp nat_cmp) names → IsStrictlySortedBy (slice_cmp nat_cmp) (cond b (k ∷ names) names)
unfolding IsStrictlySortedBy
ascends true k names above rest = (above, rest)
ascends false k names above rest = rest

pub names_ascend : (entries : List (Name × Held)) → IsStrictlySortedBy (slice_cmp nat_cmp) (keys_of entries) → IsStrictlySortedBy (slice_cmp nat_cmp) (names_in entries)
unfolding IsStrictlySortedBy
names_ascend [] sorted = sorted
names_ascend (e ∷ entries) sorted = ascends (has_file e.1) e.0 (names_in entries) (some_above (λ y. slice_cmp nat_cmp e.0 y ≡ Less) entries sorted.0) (names_ascend entries sorted.1)
