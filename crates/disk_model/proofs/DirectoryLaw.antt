-- The law of a directory: a call leaves every name that it does not name as it was, and of the outcomes only `sync_names` takes some away.
use Rattle.std.proofs.Common.{◌≡◌, ◌≢◌, Bool, true, false, cond, is_some, is_none, Result, Ok, Err, List, ℕ, refl, sym, ap, ◌∙◌}
use Rattle.std.proofs.lemmas.Bool.{or_left}
use Rattle.disk_model.specs.declared.dir.DirFault.{DirFault}
use Rattle.disk_model.specs.declared.dir.DirFault.TheVariants.{Memory, Missing, Exists, Failed}
use Rattle.disk_model.specs.Disk.{Name, Content, Cell, Cells, same, is_among, put, left_by, written, half_written, removed, half_removed, replaced, half_replaced, flushed, after_write, after_remove, after_rename, after_sync, after_sync_names, IsKept}
use Rattle.disk_model.proofs.CellLemmas.{same_true, put_apart, settled_kept}

-- ---- names that a call does not name
module _ {T : Type 0} where
  pub write_others : (cells : Cells) (name : Name) (bytes : List ℕ) (r : Result T DirFault) (q : Name) → name ≢ q → after_write cells name bytes r q ≡ cells q
  write_others cells name bytes (Ok x) q apart = put_apart cells name (written bytes (cells name)) q apart
  write_others cells name bytes (Err Failed) q apart = put_apart cells name (half_written (cells name)) q apart
  write_others cells name bytes (Err Memory) q apart = refl
  write_others cells name bytes (Err Missing) q apart = refl
  write_others cells name bytes (Err Exists) q apart = refl

  pub remove_others : (cells : Cells) (name : Name) (r : Result T DirFault) (q : Name) → name ≢ q → after_remove cells name r q ≡ cells q
  remove_others cells name (Ok x) q apart = put_apart cells name (removed (cells name)) q apart
  remove_others cells name (Err Failed) q apart = put_apart cells name (half_removed (cells name)) q apart
  remove_others cells name (Err Memory) q apart = refl
  remove_others cells name (Err Missing) q apart = refl
  remove_others cells name (Err Exists) q apart = refl

  pub sync_others : (cells : Cells) (names : List Name) (r : Result T DirFault) (q : Name) → is_among names q ≡ false → after_sync cells names r q ≡ cells q
  sync_others cells names (Ok x) q apart = ap (λ t. cond t (flushed (cells q)) (cells q)) apart
  sync_others cells names (Err e) q apart = refl

  -- `sync_names` names no name: each reads as before, and a crash leaves nothing more
  pub sync_names_others : (cells : Cells) (r : Result T DirFault) (q : Name) → IsKept (cells q) (after_sync_names cells r q)
  sync_names_others cells (Ok x) q = settled_kept (cells q)
  sync_names_others cells (Err e) q = record { now = refl; fewer = λ c h. h }

-- ---- outcomes that stay
-- the past outcomes of the old cell are outcomes of the new one
abbrev pub KeepsPast : Cell → Cell → Type 0
KeepsPast old new = (c : Content) → old.past c ≡ true → new.past c ≡ true

one : (t : Bool) (here old : Cell) → (t ≡ true → KeepsPast old here) → KeepsPast old (cond t here old)
one true here old h = h refl
one false here old h = λ c past. past

at_name : (cells : Cells) (name : Name) (here : Cell) → KeepsPast (cells name) here → (q : Name) → KeepsPast (cells q) (put cells name here q)
at_name cells name here kept q = one (same name q) here (cells q) (λ e c past. kept c (ap (λ (n : Name). (cells n).past c) (same_true name q e) ∙ past))

module _ {T : Type 0} where
  pub write_keeps_past : (cells : Cells) (name : Name) (bytes : List ℕ) (r : Result T DirFault) (q : Name) → KeepsPast (cells q) (after_write cells name bytes r q)
  write_keeps_past cells name bytes (Ok x) q = at_name cells name (written bytes (cells name)) (λ c. or_left ((cells name).past c) (left_by (cells name).now (cells name).synced c)) q
  write_keeps_past cells name bytes (Err Failed) q = at_name cells name (half_written (cells name)) (λ c. or_left ((cells name).past c) (is_some c)) q
  write_keeps_past cells name bytes (Err Memory) q = λ c past. past
  write_keeps_past cells name bytes (Err Missing) q = λ c past. past
  write_keeps_past cells name bytes (Err Exists) q = λ c past. past

  pub remove_keeps_past : (cells : Cells) (name : Name) (r : Result T DirFault) (q : Name) → KeepsPast (cells q) (after_remove cells name r q)
  remove_keeps_past cells name (Ok x) q = at_name cells name (removed (cells name)) (λ c. or_left ((cells name).past c) (left_by (cells name).now (cells name).synced c)) q
  remove_keeps_past cells name (Err Failed) q = at_name cells name (half_removed (cells name)) (λ c. or_left ((cells name).past c) (is_none c)) q
  remove_keeps_past cells name (Err Memory) q = λ c past. past
  remove_keeps_past cells name (Err Missing) q = λ c past. past
  remove_keeps_past cells name (Err Exists) q = λ c past. past

  pub rename_keeps_past : (cells : Cells) (from to : Name) (r : Result T DirFault) (q : Name) → from ≢ to → KeepsPast (cells q) (after_rename cells from to r q)
  rename_keeps_past cells from to (Ok x) q apart = λ c past.
      at_name (put cells to (replaced (cells from) (cells to))) from (removed (cells from))
      (λ o h. or_left ((cells from).past o) (left_by (cells from).now (cells from).synced o) (sym (ap (λ (k : Cell). k.past o) (put_apart cells to (replaced (cells from) (cells to)) from (λ e. apart (sym e)))) ∙ h)) q c
      (at_name cells to (replaced (cells from) (cells to)) (λ o. or_left ((cells to).past o) (left_by (cells to).now (cells to).synced o)) q c past)
  rename_keeps_past cells from to (Err Failed) q apart = λ c past.
      at_name (put cells to (half_replaced (cells from) (cells to))) from (half_removed (cells from))
      (λ o h. or_left ((cells from).past o) (is_none o) (sym (ap (λ (k : Cell). k.past o) (put_apart cells to (half_replaced (cells from) (cells to)) from (λ e. apart (sym e)))) ∙ h)) q c
      (at_name cells to (half_replaced (cells from) (cells to)) (λ o. or_left ((cells to).past o) (left_by (cells from).now (cells from).synced o)) q c past)
  rename_keeps_past cells from to (Err Memory) q apart = λ c past. past
  rename_keeps_past cells from to (Err Missing) q apart = λ c past. past
  rename_keeps_past cells from to (Err Exists) q apart = λ c past. past

  pub sync_keeps_past : (cells : Cells) (names : List Name) (r : Result T DirFault) (q : Name) → KeepsPast (cells q) (after_sync cells names r q)
  sync_keeps_past cells names (Ok x) q = one (is_among names q) (flushed (cells q)) (cells q) (λ e c past. past)
  sync_keeps_past cells names (Err e) q = λ c past. past
