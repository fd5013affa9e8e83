-- A list of names is synced, or settled, one name at a time.
use Rattle.std.proofs.Common.{◌≡◌, ℕ, ◌+◌, ◌<◌, Bool, true, false, ◌||◌, cond, List, [], ◌∷◌, ◌++◌, length, take, get_or, is_some, refl, sym, ap, ◌∙◌}
use Rattle.std.proofs.lemmas.List.{take_more}
use Rattle.std.proofs.lemmas.List.Folds.{list_any-append}
use Rattle.disk_model.specs.Disk.{Name, same, put, is_among}
use Rattle.disk_model.proofs.CellLemmas.{same_true}
use Rattle.disk_memory.specs.declared.state.State.{State}
use Rattle.disk_memory.specs.declared.state.State.TheVariants.{Absent, Loose, Synced}
use Rattle.disk_memory.specs.Held.{Held, content_of, synced, held_flushed}
use Rattle.disk_memory.specs.Table.{Table}

synced_there : (state : State) → is_some (content_of (synced state)) ≡ is_some (content_of state)
synced_there Absent = refl
synced_there (Loose bytes) = refl
synced_there (Synced bytes) = refl

pub same_there : (t : Bool) (h : Held) → is_some (content_of (cond t (held_flushed h) h).state) ≡ is_some (content_of h.state)
same_there true h = synced_there h.state
same_there false h = refl

synced_twice : (state : State) → synced (synced state) ≡ synced state
synced_twice Absent = refl
synced_twice (Loose bytes) = refl
synced_twice (Synced bytes) = refl

pub flushed_twice : (h : Held) → held_flushed (held_flushed h) ≡ held_flushed h
flushed_twice h = λ i. record { state = synced_twice h.state i; past = h.past }

-- a list of names is changed one name at a time, where a name that is changed twice is as if it was changed once
module _ (f : Held → Held) (twice : (h : Held) → f (f h) ≡ f h) where
  one : (a s : Bool) (here mid h : Held) → mid ≡ cond a (f h) h → (s ≡ true → here ≡ f mid) → cond s here mid ≡ cond (a || (s || false)) (f h) h
  one true true here mid h is e = e refl ∙ ap f is ∙ twice h
  one false true here mid h is e = e refl ∙ ap f is
  one true false here mid h is e = is
  one false false here mid h is e = is

  pub change_more : (init mid new : Table) (names : List Name) (i : ℕ) (x : Name) → i < length names → x ≡ get_or names i x → new ≡ put mid x (f (mid x))
      → ((q : Name) → mid q ≡ cond (is_among (take i names) q) (f (init q)) (init q))
      → (q : Name) → new q ≡ cond (is_among (take (i + 1) names) q) (f (init q)) (init q)
  change_more init mid new names i x lt at call sofar q =
      let grown : is_among (take (i + 1) names) q ≡ (is_among (take i names) q || (same x q || false)) =
      ap (λ ns. is_among ns q) (take_more names i x lt) ∙ ap (λ y. is_among (take i names ++ y ∷ []) q) (sym at) ∙ list_any-append (λ y. same y q) (take i names) (x ∷ []) in
      ap (λ (table : Table). table q) call
      ∙ one (is_among (take i names) q) (same x q) (f (mid x)) (mid q) (init q) (sofar q) (λ e. ap (λ (k : Name). f (mid k)) (same_true x q e))
      ∙ ap (λ b. cond b (f (init q)) (init q)) (sym grown)
