-- Copies in a list, by their numbers.
use Rattle.std.proofs.Common.{◌≡◌, ◌==◌, ℕ, zero, suc, ◌+◌, ◌<◌, ◌≤◌, Bool, true, false, if◌then◌else◌, List, [], ◌∷◌, ◌++◌, length, take, drop, get_or, Option, Some, None, is_some, refl, sym, ap, subst, ◌∙◌, arith, true≢false, slice_get}
use Rattle.std.specs.Prelude.{slice_set, IfSome}
use Rattle.std.specs.List.{remove, AllByRecursion}
use Rattle.std.proofs.lemmas.Bool.{eqb-true}
use Rattle.disk_model.specs.Disk.{Name, Cells}
use Rattle.file_deleter.specs.Holdings.{Holdings, times, AreCounted}
use Rattle.file_deleter.specs.Moves.{LetsGo, MovesCounts}
use Rattle.file_deleter.proofs.Keeping.{keeps_then}
use Rattle.file_deleter.proofs.NameLemmas.{times-append}
use Rattle.copy_job.specs.Jobs.{Job, IsJob, job_names}
use Rattle.replica_node.specs.Moving.{SetsCopy, ChangesCopy}
use Rattle.replica_node.specs.Merges.{copy_at, copies_without, copies_with, copy_place, running_names, copied_names, CopyApart, AreCopiesApart}

-- ---- the place of a number
pub record CopyPlaces (number : ℕ) (cs : List Job) : Type 0 where
  pub within : copy_place number cs < length cs
  pub rest : remove cs (copy_place number cs) ≡ copies_without number cs
  pub item : slice_get cs (copy_place number cs) ≡ copy_at number cs

pub copy_places : (number : ℕ) (cs : List Job) → is_some (copy_at number cs) ≡ true → CopyPlaces number cs
copy_places number [] h = absurd (true≢false (sym h))
copy_places number (c ∷ cs) h = let all = by (copy_places number cs) (c.number == number) h in record { within = all.0; rest = all.1; item = all.2 }
  where
    by : (is_some (copy_at number cs) ≡ true → CopyPlaces number cs) → (b : Bool) → is_some (if b then Some c else copy_at number cs) ≡ true
        → ((if b then 0 else suc (copy_place number cs)) < length (c ∷ cs)) × (remove (c ∷ cs) (if b then 0 else suc (copy_place number cs)) ≡ (if b then cs else c ∷ copies_without number cs))
        × (slice_get (c ∷ cs) (if b then 0 else suc (copy_place number cs)) ≡ (if b then Some c else copy_at number cs))
    by more true h = (omega arith, refl, refl)
    by more false h = let m : CopyPlaces number cs = more h in let lt : copy_place number cs < length cs = m.within in (omega (arith, lt), ap (λ (l : List Job). c ∷ l) m.rest, m.item)

pub copy_found : (number : ℕ) (cs : List Job) → slice_get cs (copy_place number cs) ≡ copy_at number cs
copy_found number [] = refl
copy_found number (c ∷ cs) = by (copy_found number cs) (c.number == number)
  where
    by : slice_get cs (copy_place number cs) ≡ copy_at number cs → (b : Bool) → slice_get (c ∷ cs) (if b then 0 else suc (copy_place number cs)) ≡ (if b then Some c else copy_at number cs)
    by more true = refl
    by more false = more

pub found_in : (number : ℕ) (slice now : List Job) (at : ℕ) → slice ≡ now → at ≡ copy_place number slice → slice_get slice at ≡ copy_at number now
found_in number slice now at e f = ap (slice_get slice) f ∙ copy_found number slice ∙ ap (copy_at number) e

pub found_within : (number : ℕ) (slice now : List Job) (at : ℕ) → slice ≡ now → at ≡ copy_place number slice → is_some (copy_at number now) ≡ true → at < length now
found_within number slice now at e f h =
    let within : copy_place number now < length now = (copy_places number now h).within in
    let same : at ≡ copy_place number now = f ∙ ap (copy_place number) e in
    omega (arith, within, same)

pub item_at : (number : ℕ) (cs : List Job) (c : Job) → slice_get cs (copy_place number cs) ≡ Some c → copy_at number cs ≡ Some c
item_at number cs c e = sym (copy_found number cs) ∙ e

pub set_with : (number : ℕ) (cs : List Job) (now : Job) → slice_set cs (copy_place number cs) now ≡ copies_with number now cs
set_with number [] now = refl
set_with number (c ∷ cs) now = by (set_with number cs now) (c.number == number)
  where
    by : slice_set cs (copy_place number cs) now ≡ copies_with number now cs → (b : Bool) → slice_set (c ∷ cs) (if b then 0 else suc (copy_place number cs)) now ≡ (if b then now ∷ cs else c ∷ copies_with number now cs)
    by more true = refl
    by more false = ap (λ (l : List Job). c ∷ l) more

-- ---- the copy at a place is another one
item_of : (cs : List Job) (at : ℕ) (c : Job) → at < length cs → c ≡ get_or cs at c → slice_get cs at ≡ Some c
item_of [] at c lt e = absurd (omega (arith, lt))
item_of (x ∷ xs) zero c lt e = ap (λ (y : Job). Some y) (sym e)
item_of (x ∷ xs) (suc at) c lt e = item_of xs at c (omega (arith, lt)) e

item_set : (cs : List Job) (at : ℕ) (c d : Job) → at < length cs → get_or (slice_set cs at c) at d ≡ c
item_set [] at c d lt = absurd (omega (arith, lt))
item_set (x ∷ xs) zero c d lt = refl
item_set (x ∷ xs) (suc at) c d lt = item_set xs at c d (omega (arith, lt))

length_set : (cs : List Job) (at : ℕ) (c : Job) → length (slice_set cs at c) ≡ length cs
length_set [] at c = refl
length_set (x ∷ xs) zero c = refl
length_set (x ∷ xs) (suc at) c = ap suc (length_set xs at c)

pub set_here : (P : Job → Job → Type 0) (cs : List Job) (at : ℕ) (c now d : Job) → at < length cs → c ≡ get_or cs at c → (IsJob now → P c now) → IsJob (get_or (slice_set cs at now) at d) → IfSome (slice_get cs at) (λ k. SetsCopy (P k) at cs (slice_set cs at now))
set_here P cs at c now d lt e turns is = subst (λ (o : Option Job). IfSome o (λ k. SetsCopy (P k) at cs (slice_set cs at now))) (sym (item_of cs at c lt e))
    (record { copy = now; all = refl; is = turns (subst IsJob (item_set cs at now d lt) is) })

-- a list written back over one of the same length
written_back : (xs ys : List Job) → length ys ≡ length xs → take (length xs) (ys ++ drop (length ys) xs) ≡ ys
written_back [] [] e = refl
written_back [] (y ∷ ys) e = absurd (omega (arith, e))
written_back (x ∷ xs) [] e = absurd (omega (arith, e))
written_back (x ∷ xs) (y ∷ ys) e = ap (λ (zs : List Job). y ∷ zs) (written_back xs ys (omega (arith, e)))

some_turns : (P Q : Job → Type 0) (o : Option Job) → ((c : Job) → P c → Q c) → IfSome o P → IfSome o Q
some_turns P Q None turns h = tt
some_turns P Q (Some c) turns h = turns c h

module _ (number : ℕ) (items slice first : List Job) (at : ℕ) (slice_is : slice ≡ items) (first_is : first ≡ items) (at_is : at ≡ copy_place number first) where
  pub item_is : slice_get slice at ≡ copy_at number items
  item_is = ap (λ (xs : List Job). slice_get xs at) (slice_is ∙ sym first_is) ∙ found_in number first items at first_is at_is

  pub within_slice : is_some (copy_at number items) ≡ true → at < length slice
  within_slice h = subst (λ (xs : List Job). at < length xs) (sym slice_is) (found_within number first items at first_is at_is h)

  pub change_in : (P : Job → Job → Type 0) (n : ℕ) (new : List Job) → length slice ≡ n → IfSome (slice_get slice at) (λ c. SetsCopy (P c) at slice new)
      → IfSome (copy_at number items) (λ c. ChangesCopy (P c) number items (take n (new ++ drop (length new) items)))
  change_in P n new long h = some_turns (λ c. SetsCopy (P c) at slice new) (λ c. ChangesCopy (P c) number items (take n (new ++ drop (length new) items))) (copy_at number items)
      (λ c s. record {
        copy = s.copy;
        all =
            let same_long : length new ≡ length items = ap (λ (xs : List Job). length xs) s.all ∙ length_set slice at s.copy ∙ ap (λ (xs : List Job). length xs) slice_is in
            let n_is : n ≡ length items = sym long ∙ ap (λ (xs : List Job). length xs) slice_is in
            ap (λ (k : ℕ). take k (new ++ drop (length new) items)) n_is ∙ written_back items new same_long ∙ s.all
            ∙ ap (λ (xs : List Job). slice_set xs at s.copy) slice_is ∙ ap (λ (k : ℕ). slice_set items k s.copy) (at_is ∙ ap (copy_place number) first_is) ∙ set_with number items s.copy;
        is = s.is;
      })
      (subst (λ (o : Option Job). IfSome o (λ c. SetsCopy (P c) at slice new)) item_is h)

pub number_at : (number : ℕ) (cs : List Job) (c : Job) → copy_at number cs ≡ Some c → c.number ≡ number
number_at number [] c e = cc
number_at number (x ∷ xs) c e = by (number_at number xs c) (x.number == number) refl e
  where
    by : (copy_at number xs ≡ Some c → c.number ≡ number) → (b : Bool) → (x.number == number) ≡ b → (if b then Some x else copy_at number xs) ≡ Some c → c.number ≡ number
    by more true t f = let is : x ≡ c = cc in ap (λ (y : Job). y.number) (sym is) ∙ eqb-true x.number number t
    by more false t f = more f

-- ---- the names that copies hold
pub names-push : (cs : List Job) (c : Job) (q : Name) → times (running_names (cs ++ c ∷ [])) q ≡ times (running_names cs) q + times (job_names c) q
names-push [] c q = times-append (job_names c) [] q ∙ grind arith
names-push (x ∷ xs) c q = omega (arith, names-push xs c q, times-append (job_names x) (running_names (xs ++ c ∷ [])) q, times-append (job_names x) (running_names xs) q)

pub names-without : (number : ℕ) (cs : List Job) (c : Job) (q : Name) → copy_at number cs ≡ Some c → times (running_names cs) q ≡ times (running_names (copies_without number cs)) q + times (job_names c) q
names-without number [] c q e = cc
names-without number (x ∷ xs) c q e = by (names-without number xs c q) (x.number == number) e
  where
    by : (copy_at number xs ≡ Some c → times (running_names xs) q ≡ times (running_names (copies_without number xs)) q + times (job_names c) q) → (b : Bool) → (if b then Some x else copy_at number xs) ≡ Some c
        → times (job_names x ++ running_names xs) q ≡ times (running_names (if b then xs else x ∷ copies_without number xs)) q + times (job_names c) q
    by more true f =
        let is : x ≡ c = cc in
        let n : times (job_names x) q ≡ times (job_names c) q = ap (λ (y : Job). times (job_names y) q) is in
        omega (arith, n, times-append (job_names x) (running_names xs) q)
    by more false f = omega (arith, more f, times-append (job_names x) (running_names xs) q, times-append (job_names x) (running_names (copies_without number xs)) q)

pub names-with : (number : ℕ) (cs : List Job) (c now : Job) (q : Name) → copy_at number cs ≡ Some c
    → times (running_names (copies_with number now cs)) q + times (job_names c) q ≡ times (running_names cs) q + times (job_names now) q
names-with number [] c now q e = cc
names-with number (x ∷ xs) c now q e = by (names-with number xs c now q) (x.number == number) e
  where
    by : (copy_at number xs ≡ Some c → times (running_names (copies_with number now xs)) q + times (job_names c) q ≡ times (running_names xs) q + times (job_names now) q) → (b : Bool) → (if b then Some x else copy_at number xs) ≡ Some c
        → times (running_names (if b then now ∷ xs else x ∷ copies_with number now xs)) q + times (job_names c) q ≡ times (job_names x ++ running_names xs) q + times (job_names now) q
    by more true f =
        let is : x ≡ c = cc in
        let n : times (job_names x) q ≡ times (job_names c) q = ap (λ (y : Job). times (job_names y) q) is in
        omega (arith, n, times-append (job_names x) (running_names xs) q, times-append (job_names now) (running_names xs) q)
    by more false f = omega (arith, more f, times-append (job_names x) (running_names xs) q, times-append (job_names x) (running_names (copies_with number now xs)) q)

-- ---- claims of each copy
pub all_map : (P Q : Job → Type 0) (cs : List Job) → ((c : Job) → P c → Q c) → AllByRecursion P cs → AllByRecursion Q cs
all_map P Q [] turns h = tt
all_map P Q (c ∷ cs) turns h = (turns c h.0, all_map P Q cs turns h.1)

pub all_both : (P Q : Job → Type 0) (cs : List Job) → AllByRecursion P cs → AllByRecursion Q cs → AllByRecursion (λ c. P c × Q c) cs
all_both P Q [] h k = tt
all_both P Q (c ∷ cs) h k = ((h.0, k.0), all_both P Q cs h.1 k.1)

pub all_at : (P : Job → Type 0) (number : ℕ) (cs : List Job) (c : Job) → copy_at number cs ≡ Some c → AllByRecursion P cs → P c
all_at P number [] c e h = cc
all_at P number (x ∷ xs) c e h = by (λ f. all_at P number xs c f h.1) (x.number == number) e
  where
    by : (copy_at number xs ≡ Some c → P c) → (b : Bool) → (if b then Some x else copy_at number xs) ≡ Some c → P c
    by more true f = let is : x ≡ c = cc in subst P is h.0
    by more false f = more f

pub all_push : (P : Job → Type 0) (cs : List Job) (c : Job) → AllByRecursion P cs → P c → AllByRecursion P (cs ++ c ∷ [])
all_push P [] c h k = (k, tt)
all_push P (x ∷ xs) c h k = (h.0, all_push P xs c h.1 k)

pub all_dropped : (P : Job → Type 0) (number : ℕ) (cs : List Job) → AllByRecursion P cs → AllByRecursion P (copies_without number cs)
all_dropped P number [] h = tt
all_dropped P number (x ∷ xs) h = by (all_dropped P number xs h.1) (x.number == number)
  where
    by : AllByRecursion P (copies_without number xs) → (b : Bool) → AllByRecursion P (if b then xs else x ∷ copies_without number xs)
    by more true = h.1
    by more false = (h.0, more)

all_replaced : (P : Job → Type 0) (number : ℕ) (cs : List Job) (now : Job) → P now → AllByRecursion P cs → AllByRecursion P (copies_with number now cs)
all_replaced P number [] now k h = tt
all_replaced P number (x ∷ xs) now k h = by (all_replaced P number xs now k h.1) (x.number == number)
  where
    by : AllByRecursion P (copies_with number now xs) → (b : Bool) → AllByRecursion P (if b then now ∷ xs else x ∷ copies_with number now xs)
    by more true = (k, h.1)
    by more false = (h.0, more)

-- each copy holds what all hold
pub all_held : (cs : List Job) (names : List Name) → ((q : Name) → times (running_names cs) q ≤ times names q) → AllByRecursion (λ c. (q : Name) → times (job_names c) q ≤ times names q) cs
all_held [] names within = tt
all_held (c ∷ cs) names within = (
  λ q. omega (arith, within q, times-append (job_names c) (running_names cs) q),
  all_held cs names (λ q. omega (arith, within q, times-append (job_names c) (running_names cs) q)),
)

-- ---- copies that are apart
pub apart_sym : (a b : Job) → CopyApart a b → CopyApart b a
apart_sym a b h = record { numbers = λ e. h.numbers (sym e); files = λ q some. none q some (times (copied_names a) q) refl }
  where
    none : (q : Name) → 0 < times (copied_names b) q → (n : ℕ) → times (copied_names a) q ≡ n → times (copied_names a) q ≡ 0
    none q some zero e = e
    none q some (suc n) e = absurd (omega (arith, some, h.files q (omega (arith, e))))

-- the other copies are apart from the one of the number
pub all_without : (P : Job → Type 0) (number : ℕ) (cs : List Job) (c : Job) → copy_at number cs ≡ Some c → AreCopiesApart cs → AllByRecursion P cs → AllByRecursion (λ d. P d × CopyApart c d) (copies_without number cs)
all_without P number [] c e apart h = tt
all_without P number (x ∷ xs) c e apart h = by (λ f. all_without P number xs c f apart.1 h.1) (λ f. all_at (CopyApart x) number xs c f apart.0) (x.number == number) e
  where
    by : (copy_at number xs ≡ Some c → AllByRecursion (λ d. P d × CopyApart c d) (copies_without number xs)) → (copy_at number xs ≡ Some c → CopyApart x c) → (b : Bool) → (if b then Some x else copy_at number xs) ≡ Some c
        → AllByRecursion (λ d. P d × CopyApart c d) (if b then xs else x ∷ copies_without number xs)
    by more here true f = let is : x ≡ c = cc in all_both P (CopyApart c) xs h.1 (subst (λ (y : Job). AllByRecursion (CopyApart y) xs) is apart.0)
    by more here false f = ((h.0, apart_sym x c (here f)), more f)

pub apart_without : (number : ℕ) (cs : List Job) → AreCopiesApart cs → AreCopiesApart (copies_without number cs)
apart_without number [] h = tt
apart_without number (x ∷ xs) h = by (apart_without number xs h.1) (x.number == number)
  where
    by : AreCopiesApart (copies_without number xs) → (b : Bool) → AreCopiesApart (if b then xs else x ∷ copies_without number xs)
    by more true = h.1
    by more false = (all_dropped (CopyApart x) number xs h.0, more)

-- the copy of the number is another one now
pub all_with : (P Q : Job → Type 0) (number : ℕ) (cs : List Job) (c now : Job) → copy_at number cs ≡ Some c → AreCopiesApart cs → Q now → ((d : Job) → P d → CopyApart c d → Q d) → AllByRecursion P cs → AllByRecursion Q (copies_with number now cs)
all_with P Q number [] c now e apart k turns h = tt
all_with P Q number (x ∷ xs) c now e apart k turns h = by (λ f. all_with P Q number xs c now f apart.1 k turns h.1) (λ f. all_at (CopyApart x) number xs c f apart.0) (x.number == number) e
  where
    by : (copy_at number xs ≡ Some c → AllByRecursion Q (copies_with number now xs)) → (copy_at number xs ≡ Some c → CopyApart x c) → (b : Bool) → (if b then Some x else copy_at number xs) ≡ Some c
        → AllByRecursion Q (if b then now ∷ xs else x ∷ copies_with number now xs)
    by more here true f =
        let is : x ≡ c = cc in
        (k, all_map (λ d. P d × CopyApart c d) Q xs (λ d both. turns d both.0 both.1) (all_both P (CopyApart c) xs h.1 (subst (λ (y : Job). AllByRecursion (CopyApart y) xs) is apart.0)))
    by more here false f = (turns x h.0 (apart_sym x c (here f)), more f)

-- the copy of the number is another one, and the others are as they were
pub all_put : (P : Job → Type 0) (number : ℕ) (cs : List Job) (now : Job) → P now → AllByRecursion P (copies_without number cs) → AllByRecursion P (copies_with number now cs)
all_put P number [] now k h = tt
all_put P number (x ∷ xs) now k h = by (all_put P number xs now k) (x.number == number) h
  where
    by : (AllByRecursion P (copies_without number xs) → AllByRecursion P (copies_with number now xs)) → (b : Bool) → AllByRecursion P (if b then xs else x ∷ copies_without number xs) → AllByRecursion P (if b then now ∷ xs else x ∷ copies_with number now xs)
    by more true rest = (k, rest)
    by more false rest = (rest.0, more rest.1)

pub apart_with : (number : ℕ) (cs : List Job) (c now : Job) → copy_at number cs ≡ Some c → ((d : Job) → CopyApart c d → CopyApart now d) → AreCopiesApart cs → AreCopiesApart (copies_with number now cs)
apart_with number [] c now e turns h = tt
apart_with number (x ∷ xs) c now e turns h = by (λ f. apart_with number xs c now f turns h.1) (λ f. all_at (CopyApart x) number xs c f h.0) (x.number == number) e
  where
    by : (copy_at number xs ≡ Some c → AreCopiesApart (copies_with number now xs)) → (copy_at number xs ≡ Some c → CopyApart x c) → (b : Bool) → (if b then Some x else copy_at number xs) ≡ Some c
        → AreCopiesApart (if b then now ∷ xs else x ∷ copies_with number now xs)
    by more here true f = let is : x ≡ c = cc in (all_map (CopyApart x) (CopyApart now) xs (λ d was. turns d (subst (λ (y : Job). CopyApart y d) is was)) h.0, h.1)
    by more here false f = (all_replaced (CopyApart x) number xs now (apart_sym now x (turns x (apart_sym x c (here f)))) h.0, more f)

pub apart_push : (cs : List Job) (c : Job) → AreCopiesApart cs → AllByRecursion (λ d. CopyApart d c) cs → AreCopiesApart (cs ++ c ∷ [])
apart_push [] c h k = (tt, tt)
apart_push (x ∷ xs) c h k = (all_push (CopyApart x) xs c h.0 k.0, apart_push xs c h.1 k.1)

-- ---- copies that end, one after the other
pub copies_left : (was now rest : List Job) (c : Job) (h0 h1 : Holdings) (a b : Cells) → now ≡ rest ++ c ∷ [] → MovesCounts [] (running_names was) (running_names now) h0 h1 a b → AreCounted (running_names was) h0 → AreCounted (job_names c) h1
copies_left was now rest c h0 h1 a b e moves counted = record {
  each = λ q.
      let all : times (running_names now) q ≡ times (running_names rest) q + times (job_names c) q = ap (λ (cs : List Job). times (running_names cs) q) e ∙ names-push rest c q in
      omega (arith, all, moves.balance q, counted.each q);
}

pub copies_ended : (was now rest : List Job) (c : Job) (h0 h1 h2 : Holdings) (a b d : Cells) → now ≡ rest ++ c ∷ [] → MovesCounts [] (running_names was) (running_names now) h0 h1 a b → LetsGo (job_names c) h1 h2 b d
    → MovesCounts [] (running_names was) (running_names rest) h0 h2 a d
copies_ended was now rest c h0 h1 h2 a b d e moves lets_go = record {
  balance = λ q.
      let all : times (running_names now) q ≡ times (running_names rest) q + times (job_names c) q = ap (λ (cs : List Job). times (running_names cs) q) e ∙ names-push rest c q in
      omega (arith, all, moves.balance q, lets_go.counts q);
  keeps = keeps_then [] [] h0 h1 h2 a b d moves.keeps lets_go.keeps (λ q had has. omega (arith, has, lets_go.counts q));
}
