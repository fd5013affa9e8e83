-- What a change of one entry of the map is to the table.
use Rattle.std.proofs.Common.{◌≡◌, ℕ, ◌+◌, ◌<◌, [], ◌∷◌, ◌++◌, length, take, get_or, All, subst, Bool, true, false, cond, List, Option, Some, Result, Ok, Err, OnErr, refl, sym, ap, ◌∙◌}
use Rattle.std.specs.BTreeMap.{BTreeMap, get, get_by, is_at, UpdatesBy}
use Rattle.std.specs.Cmp.Lexicographic.{slice_cmp}
use Rattle.std.specs.Ordering.{nat_cmp, is_eq}
use Rattle.std.proofs.lemmas.Map.Text.{is_eq-slice_cmp}
use Rattle.std.proofs.lemmas.List.{take_more}
use Rattle.std.proofs.lemmas.List.Elements.{All-push}
use Rattle.std.proofs.lemmas.Map.Steps.{set_value_same}
use Rattle.std.specs.Map.{set_value}
use Rattle.disk_model.specs.Disk.{Name, put}
use Rattle.disk_memory.specs.Held.{Held}
use Rattle.disk_memory.specs.Table.{held_at, held_in}

abbrev pub Slots : Type 0
Slots = BTreeMap Name Held

pub held_at-cond : (t : Bool) (h : Held) (rest : Option Held) → held_at (cond t (Some h) rest) ≡ cond t h (held_at rest)
held_at-cond true h rest = refl
held_at-cond false h rest = refl

-- an entry takes a value
pub held_put : (old new : Slots) (name : Name) (h : Held) → UpdatesBy (slice_cmp nat_cmp) (slice_cmp nat_cmp name) old new (Some h) → held_in new.entries ≡ put (held_in old.entries) name h
held_put old new name h updates =
    λ i q. (ap held_at (updates.0 q) ∙ held_at-cond (is_eq (slice_cmp nat_cmp name q)) h (get (slice_cmp nat_cmp) old q) ∙ ap (λ t. cond t h (held_in old.entries q)) (is_eq-slice_cmp name q)) i

-- an entry that is there is changed
pub held_changed : (old new : Slots) (name : Name) (f : Held → Held) (found h : Held) → Some found ≡ get_by (slice_cmp nat_cmp name) old → h ≡ f found
    → UpdatesBy (slice_cmp nat_cmp) (slice_cmp nat_cmp name) old new (Some h) → held_in new.entries ≡ put (held_in old.entries) name (f (held_in old.entries name))
held_changed old new name f found h there is updates =
    held_put old new name h updates ∙ ap (put (held_in old.entries) name) (is ∙ ap (λ o. f (held_at o)) there)

-- an entry that is there is written as it is
pub held_same : (old new : Slots) (name : Name) (found h : Held) → Some found ≡ get_by (slice_cmp nat_cmp name) old → h ≡ found
    → new.entries ≡ set_value (is_at (slice_cmp nat_cmp name)) old.entries h → held_in new.entries ≡ held_in old.entries
held_same old new name found h there is written = ap held_in (written ∙ set_value_same (is_at (slice_cmp nat_cmp name)) old.entries h (sym there ∙ ap Some (sym is)))

-- a fact holds where there is an error too
pub on_err : {T E P : Type 0} (r : Result T E) → P → OnErr r P
on_err (Ok x) p = tt
on_err (Err e) p = p

-- what holds of the items so far and of the next one holds of one more
pub all_more : {X : Type 0} (P : X → Type 0) (xs : List X) (i : ℕ) (x : X) → i < length xs → x ≡ get_or xs i x → All P (take i xs) → P x → All P (take (i + 1) xs)
all_more P xs i x lt at sofar here =
    subst (λ ys. All P ys) (sym (take_more xs i x lt ∙ ap (λ y. take i xs ++ y ∷ []) (sym at))) (All-push P (take i xs) x sofar here)

-- the item at a place
pub all_at : {X : Type 0} (P : X → Type 0) (xs : List X) (i : ℕ) (x : X) → i < length xs → x ≡ get_or xs i x → All P xs → P x
all_at P xs i x lt at every = subst P (sym at) (every i x lt)
