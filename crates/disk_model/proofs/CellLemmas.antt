-- What callers of a directory cite.
use Rattle.std.proofs.Common.{◌≡◌, ◌≢◌, ◌⊎◌, ◌<◌, ◌+◌, Bool, true, false, ◌||◌, Some, None, List, [], ◌∷◌, ◌++◌, length, take, get_or, ℕ, refl, sym, ap, ◌∙◌, cond, true≢false, inl, inr, Result, Ok, Err}
use Rattle.std.proofs.Math.Bool.{or-true}
use Rattle.std.specs.Ordering.{nat_cmp, is_eq}
use Rattle.std.specs.Cmp.Lexicographic.{slice_cmp}
use Rattle.std.specs.declared.cmp.Ordering.TheVariants.{Less}
use Rattle.std.proofs.lemmas.Cmp.{nat_list_eq_equiv}
use Rattle.std.proofs.lemmas.List.{take_more}
use Rattle.std.proofs.lemmas.List.Folds.{list_any-append}
use Rattle.std.proofs.lemmas.Map.Text.{is_eq-slice_cmp}
use Rattle.std.proofs.lemmas.Slice.Eq.{bytes_eq-Decides}
use Rattle.disk_model.specs.Disk.{Name, Content, Cell, Cells, same, is_among, left_by, may_leave, put, settled, replaced, removed, half_replaced, half_removed, after_rename, IsKept, IsImage}
use Rattle.disk_model.specs.declared.dir.DirFault.{DirFault}
use Rattle.disk_model.specs.declared.dir.DirFault.TheVariants.{Memory, Missing, Exists, Failed}

pub same_true : (a b : Name) → same a b ≡ true → a ≡ b
same_true a b e = (bytes_eq-Decides a b).0 e

pub same_apart : (a b : Name) → a ≢ b → same a b ≡ false
same_apart a b apart = by (same a b) refl
  where
    by : (t : Bool) → same a b ≡ t → same a b ≡ false
    by true e = absurd (apart (same_true a b e))
    by false e = e

-- no name is below itself
pub never_less : (q : Name) → slice_cmp nat_cmp q q ≡ Less → ⊥
never_less q e = let self : same q q ≡ true = nat_list_eq_equiv.refl q in true≢false (sym self ∙ sym (is_eq-slice_cmp q q) ∙ ap is_eq e)

-- one more name
pub among_more : (names : List Name) (i : ℕ) (x q : Name) → i < length names → x ≡ get_or names i x → is_among (take (i + 1) names) q ≡ (is_among (take i names) q || (same x q || false))
among_more names i x q lt is = ap (λ (ns : List Name). is_among ns q) (take_more names i x lt ∙ ap (λ (n : Name). take i names ++ n ∷ []) (sym is)) ∙ list_any-append (λ (y : Name). same y q) (take i names) (x ∷ [])

pub put_here : {X : Type 0} (table : Name → X) (name : Name) (x : X) → put table name x name ≡ x
put_here cells name c = ap (λ b. cond b c (cells name)) (nat_list_eq_equiv.refl name)

pub put_apart : {X : Type 0} (table : Name → X) (name : Name) (x : X) (q : Name) → name ≢ q → put table name x q ≡ table q
put_apart cells name c q apart = ap (λ b. cond b c (cells q)) (same_apart name q apart)

pub same_kept : (old new : Cell) → new ≡ old → IsKept old new
same_kept old new e = record { now = ap (λ (k : Cell). k.now) e; fewer = λ o may. ap (λ (k : Cell). may_leave k o) (sym e) ∙ may }

-- what a crash may leave of synced bytes
pub left_synced : (now : Content) (synced : Bool) (bytes : List ℕ) (c : Content) → now ≡ Some bytes → synced ≡ true → left_by now synced c ≡ true → c ≡ Some bytes
left_synced now synced bytes None is on h = absurd (true≢false (sym h ∙ ap (λ n. left_by n synced None) is ∙ ap (λ s. left_by (Some bytes) s None) on))
left_synced now synced bytes (Some other) is on h = ap Some (sym (same_true bytes other (sym (ap (λ n. left_by n synced (Some other)) is ∙ ap (λ s. left_by (Some bytes) s (Some other)) on) ∙ h)))

-- a settled name leaves nothing more
pub settled_kept : (c : Cell) → IsKept c (settled c)
settled_kept c = record { now = refl; fewer = λ o h. ap (λ b. c.past o || b) h ∙ or-true (c.past o) }

-- ---- a rename, whatever it answers
pub rename_others : {T : Type 0} (cells : Cells) (from to : Name) (r : Result T DirFault) (q : Name) → from ≢ q → to ≢ q → after_rename cells from to r q ≡ cells q
rename_others cells from to (Ok x) q a b = put_apart (put cells to (replaced (cells from) (cells to))) from (removed (cells from)) q a ∙ put_apart cells to (replaced (cells from) (cells to)) q b
rename_others cells from to (Err Failed) q a b = put_apart (put cells to (half_replaced (cells from) (cells to))) from (half_removed (cells from)) q a ∙ put_apart cells to (half_replaced (cells from) (cells to)) q b
rename_others cells from to (Err Memory) q a b = refl
rename_others cells from to (Err Missing) q a b = refl
rename_others cells from to (Err Exists) q a b = refl

-- the target gains what a crash may leave of the source's synced bytes, and nothing else
gained : (past : Bool) (now : Content) (synced : Bool) (bytes : List ℕ) (c : Content) → now ≡ Some bytes → synced ≡ true → (past || left_by now synced c) ≡ true → (past ≡ true) ⊎ (c ≡ Some bytes)
gained true now synced bytes c is on h = inl refl
gained false now synced bytes c is on h = inr (left_synced now synced bytes c is on h)

split : (past source own : Bool) {P : Type 0} → (source ≡ true → P) → ((past || source) || own) ≡ true → ((past || own) ≡ true) ⊎ P
split true source own is h = inl refl
split false true own is h = inr (is refl)
split false false own is h = inl h

pub rename_target : {T : Type 0} (cells : Cells) (from to : Name) (r : Result T DirFault) (bytes : List ℕ) → from ≢ to → (cells from).now ≡ Some bytes → (cells from).synced ≡ true
    → (c : Content) → may_leave (after_rename cells from to r to) c ≡ true → (may_leave (cells to) c ≡ true) ⊎ (c ≡ Some bytes)
rename_target cells from to (Ok x) bytes apart is on c h =
    gained (may_leave (cells to) c) (cells from).now (cells from).synced bytes c is on (sym (ap (λ (k : Cell). may_leave k c) (put_apart (put cells to (replaced (cells from) (cells to))) from (removed (cells from)) to apart ∙ put_here cells to (replaced (cells from) (cells to)))) ∙ h)
rename_target cells from to (Err Failed) bytes apart is on c h = split ((cells to).past c) (left_by (cells from).now (cells from).synced c) (left_by (cells to).now (cells to).synced c) (left_synced (cells from).now (cells from).synced bytes c is on) (sym (ap (λ (k : Cell). may_leave k c) (put_apart (put cells to (half_replaced (cells from) (cells to))) from (half_removed (cells from)) to apart ∙ put_here cells to (half_replaced (cells from) (cells to)))) ∙ h)
rename_target cells from to (Err Memory) bytes apart is on c h = inl h
rename_target cells from to (Err Missing) bytes apart is on c h = inl h
rename_target cells from to (Err Exists) bytes apart is on c h = inl h

-- what reads now is one of the outcomes
pub leaves_now : (c : Cell) → may_leave c c.now ≡ true
leaves_now c = ap (λ b. c.past c.now || b) (by c.now c.synced) ∙ or-true (c.past c.now)
  where
    by : (now : Content) (synced : Bool) → left_by now synced now ≡ true
    by None synced = refl
    by (Some bytes) true = nat_list_eq_equiv.refl bytes
    by (Some bytes) false = refl

pub image_now : (cells : Cells) → IsImage cells (λ q. (cells q).now)
image_now cells q = leaves_now (cells q)
