-- The list of the names that a job holds, beside its parts.
use Rattle.std.proofs.Common.{◌≡◌, ℕ, zero, suc, ◌+◌, ◌-◌, List, [], ◌∷◌, ◌++◌, length, Option, Some, refl, sym, ap, subst, ◌∙◌, arith, cond, length-append}
use Rattle.std.specs.Prelude.{slice_set, slice_get, IfSome, insert, take, drop}
use Rattle.std.proofs.Math.ListN.{length-set}
use Rattle.std.proofs.lemmas.List.{set-append_right, take-append-drop}
use Rattle.disk_model.specs.Disk.{Name, same}
use Rattle.file_deleter.specs.Holdings.{times}
use Rattle.file_deleter.proofs.NameLemmas.{times-cons, times-append}
use Rattle.copy_job.specs.declared.part.JobPart.{JobPart}
use Rattle.copy_job.specs.Parts.{placed, part_at, present_names, own_names, parts_below, insert_part}

pub length-present_names : (ps : List JobPart) → length (present_names ps) ≡ length ps
length-present_names [] = refl
length-present_names (p ∷ ps) = ap suc (length-present_names ps)

pub present_names-append : (ps qs : List JobPart) → present_names (ps ++ qs) ≡ present_names ps ++ present_names qs
present_names-append [] qs = refl
present_names-append (p ∷ ps) qs = ap (λ (ns : List Name). p.now ∷ ns) (present_names-append ps qs)

pub own_names-append : (ps qs : List JobPart) → own_names (ps ++ qs) ≡ own_names ps ++ own_names qs
own_names-append [] qs = refl
own_names-append (p ∷ ps) qs = ap (λ (ns : List Name). p.own ∷ ns) (own_names-append ps qs)

present_names-set : (ps : List JobPart) (i : ℕ) (p : JobPart) → part_at ps i ≡ Some p → slice_set (present_names ps) i p.own ≡ present_names (slice_set ps i (placed p))
present_names-set [] i p h = cc
present_names-set (y ∷ ps) zero p h = refl
present_names-set (y ∷ ps) (suc i) p h = ap (λ (ns : List Name). y.now ∷ ns) (present_names-set ps i p h)

settled_parts : (parts now : List JobPart) (place : ℕ) (p : JobPart) → Some p ≡ slice_get parts place → IfSome (slice_get parts place) (λ part. now ≡ slice_set parts place (placed part)) → now ≡ slice_set parts place (placed p)
settled_parts parts now place p at settles = subst (λ (o : Option JobPart). IfSome o (λ part. now ≡ slice_set parts place (placed part))) (sym at) settles

pub settled_length : (parts now : List JobPart) (place : ℕ) (p : JobPart) → Some p ≡ slice_get parts place → IfSome (slice_get parts place) (λ part. now ≡ slice_set parts place (placed part)) → length now ≡ length parts
settled_length parts now place p at settles = ap length (settled_parts parts now place p at settles) ∙ length-set parts place (placed p)

-- a part that has its own name has it in the names too
pub settled_names : (parts now : List JobPart) (names new front xs : List Name) (ys : List JobPart) (place : ℕ) (p : JobPart) → Some p ≡ slice_get parts place
    → IfSome (slice_get parts place) (λ part. now ≡ slice_set parts place (placed part)) → xs ≡ names → ys ≡ now → length now ≡ length parts
    → new ≡ slice_set names (length xs - length ys + place) p.own → names ≡ front ++ present_names parts → new ≡ front ++ present_names now
settled_names parts now names new front xs ys place p at settles xs_are ys_are size is was =
    let now_is : now ≡ slice_set parts place (placed p) = settled_parts parts now place p at settles in
    let long : length names ≡ length front + length parts = ap length was ∙ length-append front (present_names parts) ∙ ap (λ k. length front + k) (length-present_names parts) in
    let first : length xs - length ys + place ≡ length front + place = omega (arith, ap length xs_are, ap length ys_are, size, long) in
    let rest : length front + place - length front ≡ place = omega arith in
    is ∙ ap (λ k. slice_set names k p.own) first ∙ ap (λ (ns : List Name). slice_set ns (length front + place) p.own) was
    ∙ set-append_right front (present_names parts) (length front) (length front + place) p.own refl (omega arith)
    ∙ ap (λ k. front ++ slice_set (present_names parts) k p.own) rest
    ∙ ap (λ (ns : List Name). front ++ ns) (present_names-set parts place p (sym at) ∙ ap present_names (sym now_is))

-- ---- a part that is put in
present_names-insert : (ps : List JobPart) (k : ℕ) (p : JobPart) → present_names (insert ps k p) ≡ insert (present_names ps) k p.now
present_names-insert [] zero p = refl
present_names-insert [] (suc k) p = refl
present_names-insert (y ∷ ps) zero p = refl
present_names-insert (y ∷ ps) (suc k) p = ap (λ (ns : List Name). y.now ∷ ns) (present_names-insert ps k p)

own_names-insert : (ps : List JobPart) (k : ℕ) (p : JobPart) → own_names (insert ps k p) ≡ insert (own_names ps) k p.own
own_names-insert [] zero p = refl
own_names-insert [] (suc k) p = refl
own_names-insert (y ∷ ps) zero p = refl
own_names-insert (y ∷ ps) (suc k) p = ap (λ (ns : List Name). y.own ∷ ns) (own_names-insert ps k p)

times-insert : (xs : List Name) (k : ℕ) (x q : Name) → times (insert xs k x) q ≡ times xs q + cond (same x q) 1 0
times-insert xs k x q =
    let all : times (take k xs ++ drop k xs) q ≡ times xs q = ap (λ (ns : List Name). times ns q) (take-append-drop k xs) in
    omega (arith, all, times-append (take k xs) (x ∷ drop k xs) q, times-cons x (drop k xs) q, times-append (take k xs) (drop k xs) q)

-- one part more counts one name more, wherever it is put in
pub times-own_insert : (p : JobPart) (ps : List JobPart) (q : Name) → times (own_names (insert_part p ps)) q ≡ times (own_names ps) q + cond (same p.own q) 1 0
times-own_insert p ps q = ap (λ (ns : List Name). times ns q) (own_names-insert ps (parts_below p.own ps) p) ∙ times-insert (own_names ps) (parts_below p.own ps) p.own q

pub times-present_insert : (p : JobPart) (ps : List JobPart) (q : Name) → times (present_names (insert_part p ps)) q ≡ times (present_names ps) q + cond (same p.now q) 1 0
times-present_insert p ps q = ap (λ (ns : List Name). times ns q) (present_names-insert ps (parts_below p.own ps) p) ∙ times-insert (present_names ps) (parts_below p.own ps) p.now q

insert-append : (front xs : List Name) (n k : ℕ) (y : Name) → n ≡ length front + k → insert (front ++ xs) n y ≡ front ++ insert xs k y
insert-append [] xs n k y is = ap (λ m. insert xs m y) (let e : n ≡ k = omega (arith, is) in e)
insert-append (x ∷ front) xs zero k y is = absurd (omega (arith, is))
insert-append (x ∷ front) xs (suc n) k y is = ap (λ (ns : List Name). x ∷ ns) (insert-append front xs n k y (omega (arith, is)))

pub names_put : (names new front xs : List Name) (parts now ys : List JobPart) (place first : ℕ) (p : JobPart) → xs ≡ names → ys ≡ parts → first ≡ length xs - length ys
    → new ≡ insert names (first + place) p.now → now ≡ insert parts place p → names ≡ front ++ present_names parts → new ≡ front ++ present_names now
names_put names new front xs parts now ys place first p xs_are ys_are at is now_is was =
    let long : length names ≡ length front + length parts = ap length was ∙ length-append front (present_names parts) ∙ ap (λ k. length front + k) (length-present_names parts) in
    let place_is : first + place ≡ length front + place = omega (arith, at, ap length xs_are, ap length ys_are, long) in
    is ∙ ap (λ (ns : List Name). insert ns (first + place) p.now) was ∙ insert-append front (present_names parts) (first + place) place p.now place_is
    ∙ ap (λ (ns : List Name). front ++ ns) (sym (present_names-insert parts place p) ∙ ap present_names (sym now_is))

pub length-insert : {X : Type 0} (xs : List X) (k : ℕ) (x : X) → length (insert xs k x) ≡ length xs + 1
length-insert xs k x =
    let all : length (take k xs ++ drop k xs) ≡ length xs = ap length (take-append-drop k xs) in
    omega (arith, all, length-append (take k xs) (x ∷ drop k xs), length-append (take k xs) (drop k xs))
