use Rattle.std.proofs.Common.{◌≡◌, ◌==◌, ℕ, zero, suc, ◌+◌, ◌<◌, ◌≤◌, Bool, true, false, if◌then◌else◌, List, [], ◌∷◌, ◌++◌, length, Option, Some, None, IfSome, subst, get_or, is_some, refl, sym, ap, ◌∙◌, arith, true≢false, slice_get}
use Rattle.std.specs.List.{remove}
use Rattle.std.proofs.lemmas.Bool.Decides.{nat_tests}
use Rattle.disk_model.specs.Disk.{Name, Cells}
use Rattle.file_deleter.specs.Holdings.{Holdings, count_of, times}
use Rattle.file_deleter.specs.Moves.{HoldsFiles, LetsGo, MovesCounts}
use Rattle.searcher_switch.specs.Node.{AddsOnly}
use Rattle.file_deleter.proofs.Keeping.{moves_held, moves_released, moves_switched}
use Rattle.searcher_switch.specs.declared.open.SearchPoint.{SearchPoint}
use Rattle.file_deleter.proofs.NameLemmas.{times-append}
use Rattle.searcher_switch.specs.declared.open.Open.{Open}
use Rattle.searcher_switch.specs.declared.searchers.Lease.{Lease}
use Rattle.searcher_switch.specs.Searching.{IsLeaseOf}
use Rattle.searcher_switch.specs.Tickets.{ticket_at, tickets_without, ticket_place, ticket_names}

-- what stands at a ticket's place
pub record Places {R : Type 0} (number : ℕ) (ts : List (Open R)) : Type 0 where
  pub within : ticket_place number ts < length ts
  pub rest : remove ts (ticket_place number ts) ≡ tickets_without number ts
  pub item : slice_get ts (ticket_place number ts) ≡ ticket_at number ts

pub places : {R : Type 0} (number : ℕ) (ts : List (Open R)) → is_some (ticket_at number ts) ≡ true → Places number ts
places number [] h = absurd (true≢false (sym h))
places {R} number (t ∷ ts) h = let all = by (places number ts) (t.number == number) h in record { within = all.0; rest = all.1; item = all.2 }
  where
    by : (is_some (ticket_at number ts) ≡ true → Places number ts) → (b : Bool) → is_some (if b then Some t else ticket_at number ts) ≡ true
        → ((if b then 0 else suc (ticket_place number ts)) < length (t ∷ ts)) × (remove (t ∷ ts) (if b then 0 else suc (ticket_place number ts)) ≡ (if b then ts else t ∷ tickets_without number ts))
        × (slice_get (t ∷ ts) (if b then 0 else suc (ticket_place number ts)) ≡ (if b then Some t else ticket_at number ts))
    by more true h = (omega arith, refl, refl)
    by more false h = let m : Places number ts = more h in let lt : ticket_place number ts < length ts = m.within in (omega (arith, lt), ap (λ (l : List (Open R)). t ∷ l) m.rest, m.item)

-- what the tickets hold, with one more and without one
pub names-push : {R : Type 0} (ts : List (Open R)) (t : Open R) (q : Name) → times (ticket_names (ts ++ t ∷ [])) q ≡ times (ticket_names ts) q + times t.point.names q
names-push [] t q = times-append t.point.names [] q ∙ grind arith
names-push (x ∷ ts) t q =
    let a : times (x.point.names ++ ticket_names (ts ++ t ∷ [])) q ≡ times x.point.names q + times (ticket_names (ts ++ t ∷ [])) q = times-append x.point.names (ticket_names (ts ++ t ∷ [])) q in
    let b : times (x.point.names ++ ticket_names ts) q ≡ times x.point.names q + times (ticket_names ts) q = times-append x.point.names (ticket_names ts) q in
    omega (arith, a, b, names-push ts t q)

pub names-without : {R : Type 0} (number : ℕ) (ts : List (Open R)) (t : Open R) (q : Name) → Some t ≡ ticket_at number ts
    → times (ticket_names ts) q ≡ times (ticket_names (tickets_without number ts)) q + times t.point.names q
names-without number [] t q h = cc
names-without {R} number (x ∷ ts) t q h = by (names-without number ts t q) (x.number == number) h
  where
    by : (Some t ≡ ticket_at number ts → times (ticket_names ts) q ≡ times (ticket_names (tickets_without number ts)) q + times t.point.names q) → (b : Bool) → Some t ≡ (if b then Some x else ticket_at number ts)
        → times (x.point.names ++ ticket_names ts) q ≡ times (ticket_names (if b then ts else x ∷ tickets_without number ts)) q + times t.point.names q
    by more true h = let is : t ≡ x = cc in let n : times t.point.names q ≡ times x.point.names q = ap (λ (y : Open R). times y.point.names q) is in
        let b : times (x.point.names ++ ticket_names ts) q ≡ times x.point.names q + times (ticket_names ts) q = times-append x.point.names (ticket_names ts) q in omega (arith, b, n)
    by more false h =
        let a : times (x.point.names ++ ticket_names ts) q ≡ times x.point.names q + times (ticket_names ts) q = times-append x.point.names (ticket_names ts) q in
        let b : times (x.point.names ++ ticket_names (tickets_without number ts)) q ≡ times x.point.names q + times (ticket_names (tickets_without number ts)) q = times-append x.point.names (ticket_names (tickets_without number ts)) q in
        omega (arith, a, b, more h)

pub fresh_push : {R : Type 0} (next : ℕ) (ts : List (Open R)) (t : Open R) → t.number ≡ next → ((n : ℕ) → next ≤ n → is_some (ticket_at n ts) ≡ false)
    → (n : ℕ) → next + 1 ≤ n → is_some (ticket_at n (ts ++ t ∷ [])) ≡ false
fresh_push {R} next [] t is h n le = let apart : (t.number == n) ≡ false = grind (arith, nat_tests) in ap (λ b. is_some {T = Open R} (if b then Some t else None)) apart
fresh_push {R} next (x ∷ ts) t is h n le = by (fresh_push next ts t is (λ m lem. rest m (x.number == m) (h m lem)) n le) (x.number == n) (h n (omega (arith, le)))
  where
    rest : (m : ℕ) (b : Bool) → is_some (if b then Some x else ticket_at m ts) ≡ false → is_some (ticket_at m ts) ≡ false
    rest m true e = absurd (true≢false e)
    rest m false e = e

    by : is_some (ticket_at n (ts ++ t ∷ [])) ≡ false → (b : Bool) → is_some (if b then Some x else ticket_at n ts) ≡ false → is_some (if b then Some x else ticket_at n (ts ++ t ∷ [])) ≡ false
    by more true e = absurd (true≢false e)
    by more false e = more

pub fresh_without : {R : Type 0} (next number : ℕ) (ts : List (Open R)) → ((n : ℕ) → next ≤ n → is_some (ticket_at n ts) ≡ false)
    → (n : ℕ) → next ≤ n → is_some (ticket_at n (tickets_without number ts)) ≡ false
fresh_without next number [] h n le = refl
fresh_without {R} next number (x ∷ ts) h n le =
    let tail : (m : ℕ) → next ≤ m → is_some (ticket_at m ts) ≡ false = λ m lem. rest m (x.number == m) (h m lem) in
    by (fresh_without next number ts tail n le) (tail n le) (x.number == number)
  where
    rest : (m : ℕ) (b : Bool) → is_some (if b then Some x else ticket_at m ts) ≡ false → is_some (ticket_at m ts) ≡ false
    rest m true e = absurd (true≢false e)
    rest m false e = e

    other : (a : Bool) → is_some (ticket_at n (tickets_without number ts)) ≡ false → is_some (if a then Some x else ticket_at n ts) ≡ false → is_some (if a then Some x else ticket_at n (tickets_without number ts)) ≡ false
    other true more e = absurd (true≢false e)
    other false more e = more

    by : is_some (ticket_at n (tickets_without number ts)) ≡ false → is_some (ticket_at n ts) ≡ false → (b : Bool) → is_some (ticket_at n (if b then ts else x ∷ tickets_without number ts)) ≡ false
    by more tail true = tail
    by more tail false = other (x.number == n) more (h n le)

-- ---- how the names of the searchers move
pub moves_opened : {R : Type 0} (point : SearchPoint R) (t : Open R) (ts tickets : List (Open R)) (old new : Holdings) (cells : Cells)
    → HoldsFiles point.names old new cells → tickets ≡ ts ++ t ∷ [] → t.point ≡ point
    → MovesCounts [] (point.names ++ ticket_names ts) (point.names ++ ticket_names tickets) old new cells cells
moves_opened {R} point t ts tickets old new cells h is at = moves_held point.names (point.names ++ ticket_names ts) (point.names ++ ticket_names tickets) old new cells h
    (λ q.
    let a : times (point.names ++ ticket_names ts) q ≡ times point.names q + times (ticket_names ts) q = times-append point.names (ticket_names ts) q in
    let b : times (point.names ++ ticket_names tickets) q ≡ times point.names q + times (ticket_names tickets) q = times-append point.names (ticket_names tickets) q in
    let e : times (ticket_names tickets) q ≡ times (ticket_names (ts ++ t ∷ [])) q = ap (λ (l : List (Open R)). times (ticket_names l) q) is in
    let f : times t.point.names q ≡ times point.names q = ap (λ (p : SearchPoint R). times p.names q) at in
    omega (arith, a, b, e, f, names-push ts t q))

pub moves_closed : {R : Type 0} (point : SearchPoint R) (number : ℕ) (t : Open R) (ts tickets : List (Open R)) (names : List Name) (old new : Holdings) (before after : Cells)
    → LetsGo names old new before after → names ≡ t.point.names → Some t ≡ ticket_at number ts → tickets ≡ tickets_without number ts
    → MovesCounts [] (point.names ++ ticket_names ts) (point.names ++ ticket_names tickets) old new before after
moves_closed {R} point number t ts tickets names old new before after h named at is = moves_released names (point.names ++ ticket_names ts) (point.names ++ ticket_names tickets) old new before after h
    (λ q.
    let a : times (point.names ++ ticket_names ts) q ≡ times point.names q + times (ticket_names ts) q = times-append point.names (ticket_names ts) q in
    let b : times (point.names ++ ticket_names tickets) q ≡ times point.names q + times (ticket_names tickets) q = times-append point.names (ticket_names tickets) q in
    let e : times (ticket_names tickets) q ≡ times (ticket_names (tickets_without number ts)) q = ap (λ (l : List (Open R)). times (ticket_names l) q) is in
    let f : times names q ≡ times t.point.names q = ap (λ (l : List Name). times l q) named in
    omega (arith, a, b, e, f, names-without number ts t q at))

-- what a closed ticket gives back is counted
pub closed_counted : {R : Type 0} (point : SearchPoint R) (number : ℕ) (t : Open R) (ts : List (Open R)) (names : List Name) (es : Holdings)
    → ((q : Name) → times (point.names ++ ticket_names ts) q ≤ count_of es q) → names ≡ t.point.names → Some t ≡ ticket_at number ts
    → (q : Name) → times names q ≤ count_of es q
closed_counted point number t ts names es counts named at q =
    let a : times (point.names ++ ticket_names ts) q ≡ times point.names q + times (ticket_names ts) q = times-append point.names (ticket_names ts) q in
    let f : times names q ≡ times t.point.names q = ap (λ (l : List Name). times l q) named in
    omega (arith, a, f, names-without number ts t q at, counts q)

pub moves_to : {R : Type 0} (point next : SearchPoint R) (ts : List (Open R)) (olds news : List Name) (old mid new : Holdings) (before after : Cells)
    → HoldsFiles news old mid before → LetsGo olds mid new before after → olds ≡ point.names → news ≡ next.names
    → MovesCounts [] (point.names ++ ticket_names ts) (next.names ++ ticket_names ts) old new before after
moves_to point next ts olds news old mid new before after h r o n = moves_switched news olds (point.names ++ ticket_names ts) (next.names ++ ticket_names ts) old mid new before after h r
    (λ q.
    let a : times (point.names ++ ticket_names ts) q ≡ times point.names q + times (ticket_names ts) q = times-append point.names (ticket_names ts) q in
    let b : times (next.names ++ ticket_names ts) q ≡ times next.names q + times (ticket_names ts) q = times-append next.names (ticket_names ts) q in
    let e : times olds q ≡ times point.names q = ap (λ (l : List Name). times l q) o in
    let f : times news q ≡ times next.names q = ap (λ (l : List Name). times l q) n in
    omega (arith, a, b, e, f))

pub switched_counted : {R : Type 0} (point : SearchPoint R) (ts : List (Open R)) (olds news : List Name) (old mid : Holdings) (cells : Cells)
    → ((q : Name) → times (point.names ++ ticket_names ts) q ≤ count_of old q) → HoldsFiles news old mid cells → olds ≡ point.names
    → (q : Name) → times olds q ≤ count_of mid q
switched_counted point ts olds news old mid cells counts h o q =
    let a : times (point.names ++ ticket_names ts) q ≡ times point.names q + times (ticket_names ts) q = times-append point.names (ticket_names ts) q in
    let e : times olds q ≡ times point.names q = ap (λ (l : List Name). times l q) o in
    omega (arith, a, e, h.counts q, counts q)

pub point_names : {R : Type 0} (p q : SearchPoint R) → p ≡ q → p.names ≡ q.names
point_names p q e = λ i. (e i).names

-- the ticket at the place where it was found
pub leased : {R : Type 0} (number at : ℕ) (ts : List (Open R)) (t : Open R) → at ≡ ticket_place number ts → is_some (ticket_at number ts) ≡ true → Some t ≡ slice_get ts at → Some t ≡ ticket_at number ts
leased number at ts t is there got = got ∙ ap (λ k. slice_get ts k) is ∙ (places number ts there).item

pub leases : {R : Type 0} (number at : ℕ) (ts : List (Open R)) (t : Open R) (lease : Lease R) → at ≡ ticket_place number ts → is_some (ticket_at number ts) ≡ true → Some t ≡ slice_get ts at
    → lease.version ≡ t.point.version → lease.readers ≡ t.point.readers → IfSome (ticket_at number ts) (IsLeaseOf lease)
leases {R} number at ts t lease is there got v r = subst (λ (o : Option (Open R)). IfSome o (IsLeaseOf lease)) (leased number at ts t is there got) (record { version = v; readers = r })

pub got_at : {R : Type 0} (xs : List R) (i : ℕ) (t : R) → i < length xs → t ≡ get_or xs i t → Some t ≡ slice_get xs i
got_at [] i t lt is = absurd (omega (arith, lt))
got_at (x ∷ xs) zero t lt is = ap Some is
got_at (x ∷ xs) (suc i) t lt is = got_at xs i t (omega (arith, lt)) is

-- ---- the value names no other files than before
pub opened_only : {R : Type 0} (point : SearchPoint R) (t : Open R) (ts tickets : List (Open R)) → tickets ≡ ts ++ t ∷ [] → t.point ≡ point
    → AddsOnly [] (point.names ++ ticket_names ts) (point.names ++ ticket_names tickets)
opened_only {R} point t ts tickets is at = record {
  each = λ q none nil.
      let a : times (point.names ++ ticket_names ts) q ≡ times point.names q + times (ticket_names ts) q = times-append point.names (ticket_names ts) q in
      let b : times (point.names ++ ticket_names tickets) q ≡ times point.names q + times (ticket_names tickets) q = times-append point.names (ticket_names tickets) q in
      let e : times (ticket_names tickets) q ≡ times (ticket_names (ts ++ t ∷ [])) q = ap (λ (l : List (Open R)). times (ticket_names l) q) is in
      let f : times t.point.names q ≡ times point.names q = ap (λ (p : SearchPoint R). times p.names q) at in
      omega (arith, none, a, b, e, f, names-push ts t q);
}

pub closed_only : {R : Type 0} (point : SearchPoint R) (number : ℕ) (t : Open R) (ts tickets : List (Open R)) → Some t ≡ ticket_at number ts → tickets ≡ tickets_without number ts
    → AddsOnly [] (point.names ++ ticket_names ts) (point.names ++ ticket_names tickets)
closed_only {R} point number t ts tickets at is = record {
  each = λ q none nil.
      let a : times (point.names ++ ticket_names ts) q ≡ times point.names q + times (ticket_names ts) q = times-append point.names (ticket_names ts) q in
      let b : times (point.names ++ ticket_names tickets) q ≡ times point.names q + times (ticket_names tickets) q = times-append point.names (ticket_names tickets) q in
      let e : times (ticket_names tickets) q ≡ times (ticket_names (tickets_without number ts)) q = ap (λ (l : List (Open R)). times (ticket_names l) q) is in
      omega (arith, none, a, b, e, names-without number ts t q at);
}

pub switched_only : {R : Type 0} (point next : SearchPoint R) (ts : List (Open R)) (news : List Name) → news ≡ next.names → AddsOnly news (point.names ++ ticket_names ts) (next.names ++ ticket_names ts)
switched_only point next ts news n = record {
  each = λ q none nil.
      let a : times (point.names ++ ticket_names ts) q ≡ times point.names q + times (ticket_names ts) q = times-append point.names (ticket_names ts) q in
      let b : times (next.names ++ ticket_names ts) q ≡ times next.names q + times (ticket_names ts) q = times-append next.names (ticket_names ts) q in
      let f : times news q ≡ times next.names q = ap (λ (l : List Name). times l q) n in
      omega (arith, none, nil, a, b, f);
}

-- the ticket that was opened last
pub pushed_there : {R : Type 0} (ts : List (Open R)) (t : Open R) (n : ℕ) → t.number ≡ n → is_some (ticket_at n (ts ++ t ∷ [])) ≡ true
pushed_there {R} [] t n e = let same : (t.number == n) ≡ true = grind (arith, nat_tests) in ap (λ b. is_some {T = Open R} (if b then Some t else None)) same
pushed_there {R} (x ∷ ts) t n e = by (x.number == n) (pushed_there ts t n e)
  where
    by : (b : Bool) → is_some (ticket_at n (ts ++ t ∷ [])) ≡ true → is_some (if b then Some x else ticket_at n (ts ++ t ∷ [])) ≡ true
    by true more = refl
    by false more = more
