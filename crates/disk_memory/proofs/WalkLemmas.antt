-- Over all names in order: each is changed, and those that are then gone are forgotten.
use Rattle.std.proofs.Common.{◌≡◌, ℕ, Bool, true, false, cond, is_some, List, [], ◌∷◌, Option, Some, None, refl, sym, ap, subst, ◌∙◌, true≢false}
use Rattle.std.specs.declared.cmp.Ordering.TheVariants.{Less}
use Rattle.std.specs.Ordering.{nat_cmp, is_eq}
use Rattle.std.specs.Cmp.Lexicographic.{slice_cmp}
use Rattle.std.specs.List.{AllByRecursion}
use Rattle.std.specs.List.Sorted.{IsStrictlySortedBy}
use Rattle.std.specs.BTreeMap.{is_at}
use Rattle.std.specs.Map.{lookup, keys_of}
use Rattle.std.specs.Map.Calls.{RetainsPairs}
use Rattle.std.proofs.lemmas.Map.Text.{is_eq-slice_cmp}
use Rattle.disk_model.specs.Disk.{Name, Content}
use Rattle.disk_model.proofs.CellLemmas.{same_true}
use Rattle.disk_memory.specs.declared.state.State.{State}
use Rattle.disk_memory.specs.declared.state.State.TheVariants.{Absent, Loose, Synced}
use Rattle.disk_memory.specs.Held.{Held, untouched, content_of, has_file, held_settled}
use Rattle.disk_memory.specs.Table.{held_at, held_in}
use Rattle.disk_memory.specs.Crash.{left_at, number_at, contents_left, content_at, started}

-- the test of a name against a key
abbrev pub at : Name → Name → Bool
at q k = is_at (slice_cmp nat_cmp q) k

pub at_same : (q k : Name) → at q k ≡ true → q ≡ k
at_same q k e = same_true q k (sym (is_eq-slice_cmp q k) ∙ e)

-- a name that is below each key is none of them
pub apart_above : {X : Type 0} (k q : Name) (entries : List (Name × X)) → at q k ≡ true → AllByRecursion (λ y. slice_cmp nat_cmp k y ≡ Less) (keys_of entries) → lookup (at q) entries ≡ None
apart_above k q [] e above = refl
apart_above {X} k q (x ∷ entries) e above =
    ap (λ t. cond t (Some x.1) (lookup (at q) entries)) (ap (λ (n : Name). at n x.0) (at_same q k e) ∙ ap is_eq above.0) ∙ apart_above k q entries e above.1

-- a change of each name in order, by a state that goes along
module _ {S : Type 0} (after : S → Held → Held) (next : S → Held → S) where
  abbrev pub walked : S → List (Name × Held) → List (Name × Held)
  walked x [] = []
  walked x (e ∷ entries) = (e.0, after x e.1) ∷ walked (next x e.1) entries

  walked_keys : (x : S) (entries : List (Name × Held)) → keys_of (walked x entries) ≡ keys_of entries
  walked_keys x [] = refl
  walked_keys x (e ∷ entries) = ap (λ ks. e.0 ∷ ks) (walked_keys (next x e.1) entries)

  module _ {F : Type 0} (T : F → Name → Held → Bool → Held → F → Type 0) (number : F → S)
      (says : (f : F) (k : Name) (v : Held) (b : Bool) (w : Held) (g : F) → T f k v b w g → (w ≡ after (number f) v) × (b ≡ has_file w) × (number g ≡ next (number f) v))
      (gone : (x : S) (v : Held) → has_file (after x v) ≡ false → after x v ≡ untouched) where
    step : (b t : Bool) (w v : Held) (rest kept : Option Held) → b ≡ has_file v → w ≡ v → (has_file v ≡ false → v ≡ untouched) → (t ≡ true → held_at kept ≡ untouched) → held_at rest ≡ held_at kept
        → held_at (cond b (cond t (Some w) rest) rest) ≡ held_at (cond t (Some v) kept)
    step true true w v rest kept there is none past e = is
    step true false w v rest kept there is none past e = e
    step false true w v rest kept there is none past e = e ∙ past refl ∙ sym (none (sym there))
    step false false w v rest kept there is none past e = e

    front : (b : Bool) (q k : Name) (w : Held) (rest : List (Name × Held)) → lookup (at q) (cond b ((k, w) ∷ rest) rest) ≡ cond b (cond (at q k) (Some w) (lookup (at q) rest)) (lookup (at q) rest)
    front true q k w rest = refl
    front false q k w rest = refl

    pub retained : (entries kept : List (Name × Held)) (f : F) → RetainsPairs T f entries kept → IsStrictlySortedBy (slice_cmp nat_cmp) (keys_of entries) → (q : Name) → held_in kept q ≡ held_in (walked (number f) entries) q
    unfolding IsStrictlySortedBy
    retained [] kept f h sorted q = ap (λ (ks : List (Name × Held)). held_in ks q) h
    retained (e ∷ entries) kept f h sorted q =
        let s = says f e.0 e.1 h.0 h.1 h.2 h.4 in
        let later : held_in h.3 q ≡ held_in (walked (next (number f) e.1) entries) q =
        retained entries h.3 h.2 h.5 sorted.1 q ∙ ap (λ x. held_in (walked x entries) q) s.2 in
        ap (λ (ks : List (Name × Held)). held_in ks q) h.6
        ∙ ap held_at (front h.0 q e.0 h.1 h.3)
        ∙ step h.0 (at q e.0) h.1 (after (number f) e.1) (lookup (at q) h.3) (lookup (at q) (walked (next (number f) e.1) entries)) (s.1 ∙ ap has_file s.0) s.0 (gone (number f) e.1)
        (λ t. ap held_at (apart_above e.0 q (walked (next (number f) e.1) entries) t (subst (AllByRecursion (λ y. slice_cmp nat_cmp e.0 y ≡ Less)) (sym (walked_keys (next (number f) e.1) entries)) sorted.0)))
        later

-- every name settled
abbrev pub settles : ℕ → Held → Held
settles x h = held_settled h

abbrev pub stays : ℕ → Held → ℕ
stays x h = x

pub settled_walk : (entries : List (Name × Held)) (q : Name) → held_in (walked settles stays 0 entries) q ≡ held_settled (held_in entries q)
settled_walk [] q = refl
settled_walk (e ∷ entries) q = by (at q e.0) (settled_walk entries q)
  where
    by : (t : Bool) → held_in (walked settles stays 0 entries) q ≡ held_settled (held_in entries q)
        → held_at (cond t (Some (held_settled e.1)) (lookup (at q) (walked settles stays 0 entries))) ≡ held_settled (held_at (cond t (Some e.1) (lookup (at q) entries)))
    by true h = refl
    by false h = h

-- every name crashed; the state is the pick and the number
abbrev pub crashes : ℕ × ℕ → Held → Held
crashes s h = started (left_at s.0 s.1 h)

abbrev pub goes_on : ℕ × ℕ → Held → ℕ × ℕ
goes_on s h = (s.0, number_at s.1 h)

pub crashed_walk : (pick x : ℕ) (entries : List (Name × Held)) (q : Name) → held_in (walked crashes goes_on (pick, x) entries) q ≡ started (content_at (lookup (at q) (contents_left pick x entries)))
crashed_walk pick x [] q = refl
crashed_walk pick x (e ∷ entries) q = by (at q e.0) (crashed_walk pick (number_at x e.1) entries q)
  where
    by : (t : Bool) → held_in (walked crashes goes_on (pick, number_at x e.1) entries) q ≡ started (content_at (lookup (at q) (contents_left pick (number_at x e.1) entries)))
        → held_at (cond t (Some (crashes (pick, x) e.1)) (lookup (at q) (walked crashes goes_on (pick, number_at x e.1) entries))) ≡ started (content_at (cond t (Some (left_at pick x e.1)) (lookup (at q) (contents_left pick (number_at x e.1) entries))))
    by true h = refl
    by false h = h

-- what is gone then is untouched
pub started_gone : (c : Content) → has_file (started c) ≡ false → started c ≡ untouched
started_gone None e = refl
started_gone (Some bytes) e = absurd (true≢false e)

state_gone : (state : State) → is_some (content_of state) ≡ false → state ≡ Absent
state_gone Absent e = refl
state_gone (Loose bytes) e = absurd (true≢false e)
state_gone (Synced bytes) e = absurd (true≢false e)

pub settled_gone : (h : Held) → has_file (held_settled h) ≡ false → held_settled h ≡ untouched
settled_gone h e = λ i. record { state = state_gone h.state e i; past = [] }
