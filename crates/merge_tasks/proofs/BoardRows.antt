-- The merges in flight once one has started, gone on or ended, and how many tasks may still come.
use Rattle.std.proofs.Common.{◌≡◌, ◌≢◌, ◌≤◌, ◌<◌, ◌+◌, ◌++◌, ◌==◌, ◌&&◌, ◌||◌, ℕ, zero, suc, Bool, true, false, List, [], ◌∷◌, Some, None, Option, length, get_or, refl, ap, ◌∙◌, sym, subst, arith, if◌then◌else◌}
use Rattle.std.specs.Prelude.{not, slice_set, IsSome, is_some}
use Rattle.std.proofs.lemmas.Bool.{false≢true}
use Rattle.std.specs.List.{filter, slice_get}
use Rattle.std.specs.Option.{option_map}
use Rattle.std.proofs.lemmas.Bool.Decides.{nat_tests}
use Rattle.std.proofs.lemmas.Option.{slice_get-get_or}
use Rattle.nrt_base.specs.declared.numbers.LineNo.{LineNo}
use Rattle.nrt_base.specs.declared.numbers.NodeNo.{NodeNo}
use Rattle.history_tables.proofs.RowLemmas.{by_test}
use Rattle.merge_tasks.specs.declared.tasks.OpenMerge.{OpenMerge}
use Rattle.merge_tasks.specs.declared.tasks.Sent.{Sent}
use Rattle.merge_tasks.specs.declared.tasks.Spread.{Spread}
use Rattle.merge_tasks.specs.Board.{open_merge, merge_at, spread_at, with_spread, without_merge, is_sent_in, without_sent, sent_more, all_sent, sent_less, due_of, due_all}

-- the line of a merge
abbrev pub line_told : Option OpenMerge → Option LineNo
line_told o = option_map (λ r. r.line) o

-- a merge that is not among these, put behind them
pub open_end : (rows : List OpenMerge) (r : OpenMerge) (s : ℕ) → open_merge r.seg.0 rows ≡ None → open_merge s (rows ++ r ∷ []) ≡ (if r.seg.0 == s then Some r else open_merge s rows)
open_end [] r s fresh = refl
open_end (q ∷ rows) r s fresh = ends (q.seg.0 == r.seg.0) refl fresh (open_end rows r s)
  where
    ends : (t : Bool) → (q.seg.0 == r.seg.0) ≡ t → (if t then Some q else open_merge r.seg.0 rows) ≡ None
        → (open_merge r.seg.0 rows ≡ None → open_merge s (rows ++ r ∷ []) ≡ (if r.seg.0 == s then Some r else open_merge s rows))
        → (if q.seg.0 == s then Some q else open_merge s (rows ++ r ∷ [])) ≡ (if r.seg.0 == s then Some r else if q.seg.0 == s then Some q else open_merge s rows)
    ends true is none more = absurd (cc)
    ends false is none more = let rest = more none in grind (arith, nat_tests, rest, is)

-- one that is left out
pub open_without : (rows : List OpenMerge) (seg s : ℕ) → open_merge s (without_merge seg rows) ≡ (if seg == s then None else open_merge s rows)
open_without [] seg s = grind (arith, nat_tests)
open_without (r ∷ rows) seg s = grind (arith, nat_tests, open_without rows seg s)

-- one that goes on keeps its line, and so do the others
pub lines_with : (rows : List OpenMerge) (seg : ℕ) (spread : Option Spread) (s : ℕ) → line_told (open_merge s (with_spread seg spread rows)) ≡ line_told (open_merge s rows)
lines_with [] seg spread s = refl
lines_with (r ∷ rows) seg spread s =
    by_test (r.seg.0 == seg) (λ b. line_told (open_merge s (if b then record r { spread = spread } ∷ rows else r ∷ with_spread seg spread rows)) ≡ line_told (if r.seg.0 == s then Some r else open_merge s rows))
    (λ here. elim (r.seg.0 == s) as (λ b. line_told (if b then Some (record r { spread = spread }) else open_merge s rows) ≡ line_told (if b then Some r else open_merge s rows)) [ true ↦ refl | false ↦ refl ])
    (λ apart. let rest = lines_with rows seg spread s in
    elim (r.seg.0 == s) as (λ b. line_told (if b then Some r else open_merge s (with_spread seg spread rows)) ≡ line_told (if b then Some r else open_merge s rows)) [ true ↦ refl | false ↦ rest ])

-- one that goes on, by its segment
pub open_with : (rows : List OpenMerge) (seg : ℕ) (spread : Option Spread) (r : OpenMerge) → open_merge seg rows ≡ Some r → (s : ℕ)
    → open_merge s (with_spread seg spread rows) ≡ (if seg == s then Some (record r { spread = spread }) else open_merge s rows)
open_with [] seg spread r is s = absurd (cc)
open_with (q ∷ rows) seg spread r is s =
    by_test (q.seg.0 == seg) (λ b. (if b then Some q else open_merge seg rows) ≡ Some r
    → open_merge s (if b then record q { spread = spread } ∷ rows else q ∷ with_spread seg spread rows) ≡ (if seg == s then Some (record r { spread = spread }) else if q.seg.0 == s then Some q else open_merge s rows))
    (λ here is. let same : q ≡ r = cc in let all : Some (record q { spread = spread }) ≡ Some (record r { spread = spread }) = ap (λ (z : OpenMerge). Some (record z { spread = spread })) same in grind (arith, nat_tests, here, all))
    (λ apart is. let rest = open_with rows seg spread r is s in grind (arith, nat_tests, apart, rest))
    is

-- twice, the last counts
pub with_last : (rows : List OpenMerge) (seg : ℕ) (a b : Option Spread) → with_spread seg a (with_spread seg b rows) ≡ with_spread seg a rows
with_last [] seg a b = refl
with_last (r ∷ rows) seg a b =
    by_test (r.seg.0 == seg) (λ t. (r.seg.0 == seg) ≡ t → with_spread seg a (if t then record r { spread = b } ∷ rows else r ∷ with_spread seg b rows) ≡ (if t then record r { spread = a } ∷ rows else r ∷ with_spread seg a rows))
    (λ here is. ap (λ (t : Bool). if t then record r { spread = a } ∷ rows else record r { spread = b } ∷ with_spread seg a rows) is)
    (λ apart is. ap (λ (t : Bool). if t then record r { spread = a } ∷ with_spread seg b rows else r ∷ with_spread seg a (with_spread seg b rows)) is ∙ ap (λ (l : List OpenMerge). r ∷ l) (with_last rows seg a b))
    refl

-- left out, it does not matter how far it had come
pub without_with : (rows : List OpenMerge) (seg : ℕ) (spread : Option Spread) → without_merge seg (with_spread seg spread rows) ≡ without_merge seg rows
without_with [] seg spread = refl
without_with (r ∷ rows) seg spread =
    by_test (r.seg.0 == seg) (λ t. (r.seg.0 == seg) ≡ t → without_merge seg (if t then record r { spread = spread } ∷ rows else r ∷ with_spread seg spread rows) ≡ without_merge seg (r ∷ rows))
    (λ here is.
    ap (λ (t : Bool). if not t then record r { spread = spread } ∷ without_merge seg rows else without_merge seg rows) is ∙ sym (ap (λ (t : Bool). if not t then r ∷ without_merge seg rows else without_merge seg rows) is))
    (λ apart is. ap (λ (l : List OpenMerge). if not (r.seg.0 == seg) then r ∷ l else l) (without_with rows seg spread))
    refl

-- it is still there
pub there_with : (rows : List OpenMerge) (seg : ℕ) (spread : Option Spread) → open_merge seg rows ≢ None → open_merge seg (with_spread seg spread rows) ≢ None
there_with [] seg spread there = λ is. there is
there_with (r ∷ rows) seg spread there =
    by_test (r.seg.0 == seg) (λ t. (r.seg.0 == seg) ≡ t → (if t then Some r else open_merge seg rows) ≢ None → open_merge seg (if t then record r { spread = spread } ∷ rows else r ∷ with_spread seg spread rows) ≢ None)
    (λ here is some none. let one : Some (record r { spread = spread }) ≡ None = sym (ap (λ (t : Bool). if t then Some (record r { spread = spread }) else open_merge seg rows) is) ∙ none in absurd (cc))
    (λ apart is some none. there_with rows seg spread some (sym (ap (λ (t : Bool). if t then Some r else open_merge seg (with_spread seg spread rows)) is) ∙ none))
    refl there

-- ---- what may still come

pub due_end : (size : ℕ) (rows : List OpenMerge) (r : OpenMerge) → due_all size (rows ++ r ∷ []) ≡ due_all size rows + due_of size r.spread
due_end size [] r = omega arith
due_end size (q ∷ rows) r = let rest = due_end size rows r in omega (arith, rest)

due_no_more : (size : ℕ) (rows : List OpenMerge) (seg : ℕ) → due_all size (without_merge seg rows) ≤ due_all size rows
due_no_more size [] seg = omega arith
due_no_more size (r ∷ rows) seg =
    let rest = due_no_more size rows seg in
    elim (r.seg.0 == seg) as (λ b. due_all size (if not b then r ∷ without_merge seg rows else without_merge seg rows) ≤ due_all size (r ∷ rows)) [ true ↦ omega (arith, rest) | false ↦ omega (arith, rest) ]

pub due_without : (size : ℕ) (rows : List OpenMerge) (seg : ℕ) (r : OpenMerge) → open_merge seg rows ≡ Some r → due_all size (without_merge seg rows) + due_of size r.spread ≤ due_all size rows
due_without size [] seg r is = absurd (cc)
due_without size (q ∷ rows) seg r is =
    by_test (q.seg.0 == seg) (λ b. (if b then Some q else open_merge seg rows) ≡ Some r → due_all size (if not b then q ∷ without_merge seg rows else without_merge seg rows) + due_of size r.spread ≤ due_all size (q ∷ rows))
    (λ here is. let same : q ≡ r = cc in let due : due_of size q.spread ≡ due_of size r.spread = ap (λ (z : OpenMerge). due_of size z.spread) same in let rest = due_no_more size rows seg in omega (arith, rest, due))
    (λ apart is. let rest = due_without size rows seg r is in omega (arith, rest))
    is

pub due_with : (size : ℕ) (rows : List OpenMerge) (seg : ℕ) (spread : Option Spread) (r : OpenMerge) → open_merge seg rows ≡ Some r
    → due_all size (with_spread seg spread rows) + due_of size r.spread ≡ due_all size rows + due_of size spread
due_with size [] seg spread r is = absurd (cc)
due_with size (q ∷ rows) seg spread r is =
    by_test (q.seg.0 == seg) (λ b. (if b then Some q else open_merge seg rows) ≡ Some r
    → due_all size (if b then record q { spread = spread } ∷ rows else q ∷ with_spread seg spread rows) + due_of size r.spread ≡ due_all size (q ∷ rows) + due_of size spread)
    (λ here is. let same : q ≡ r = cc in let due : due_of size q.spread ≡ due_of size r.spread = ap (λ (z : OpenMerge). due_of size z.spread) same in omega (arith, due))
    (λ apart is. let rest = due_with size rows seg spread r is in omega (arith, rest))
    is

sent_no_more : (left : List Sent) (n job : ℕ) → length (without_sent n job left) ≤ length left
sent_no_more [] n job = omega arith
sent_no_more (s ∷ left) n job =
    let rest = sent_no_more left n job in
    elim ((s.node.0 == n) && (s.job == job)) as (λ b. length (if not b then s ∷ without_sent n job left else without_sent n job left) ≤ length (s ∷ left)) [ true ↦ omega (arith, rest) | false ↦ omega (arith, rest) ]

-- one copy less
pub length-without_sent : (left : List Sent) (n job : ℕ) → is_sent_in n job left ≡ true → length (without_sent n job left) + 1 ≤ length left
length-without_sent [] n job is = absurd (cc)
length-without_sent (s ∷ left) n job is =
    by_test ((s.node.0 == n) && (s.job == job)) (λ b. (b || is_sent_in n job left) ≡ true → length (if not b then s ∷ without_sent n job left else without_sent n job left) + 1 ≤ length (s ∷ left))
    (λ here is. let rest = sent_no_more left n job in omega (arith, rest))
    (λ apart is. let rest = length-without_sent left n job is in omega (arith, rest))
    is

-- ---- the place of a merge

pub place_inside : (rows : List OpenMerge) (seg : ℕ) → open_merge seg rows ≢ None → merge_at seg rows < length rows
place_inside [] seg there = absurd (there refl)
place_inside (r ∷ rows) seg there =
    by_test (r.seg.0 == seg) (λ b. (if b then Some r else open_merge seg rows) ≢ None → (if b then 0 else suc (merge_at seg rows)) < length (r ∷ rows))
    (λ here some. omega arith) (λ apart some. let rest = place_inside rows seg some in omega (arith, rest)) there

pub place_get : (rows : List OpenMerge) (seg : ℕ) → slice_get rows (merge_at seg rows) ≡ open_merge seg rows
place_get [] seg = refl
place_get (r ∷ rows) seg =
    by_test (r.seg.0 == seg) (λ b. slice_get (r ∷ rows) (if b then 0 else suc (merge_at seg rows)) ≡ (if b then Some r else open_merge seg rows)) (λ here. refl) (λ apart. place_get rows seg)

pub place_set : (rows : List OpenMerge) (seg : ℕ) (spread : Option Spread) (r : OpenMerge) → open_merge seg rows ≡ Some r → slice_set rows (merge_at seg rows) (record r { spread = spread }) ≡ with_spread seg spread rows
place_set [] seg spread r is = absurd (cc)
place_set (q ∷ rows) seg spread r is =
    by_test (q.seg.0 == seg) (λ b. (if b then Some q else open_merge seg rows) ≡ Some r
    → slice_set (q ∷ rows) (if b then 0 else suc (merge_at seg rows)) (record r { spread = spread }) ≡ (if b then record q { spread = spread } ∷ rows else q ∷ with_spread seg spread rows))
    (λ here is. let same : q ≡ r = cc in ap (λ (z : OpenMerge). record z { spread = spread } ∷ rows) (sym same))
    (λ apart is. ap (λ (l : List OpenMerge). q ∷ l) (place_set rows seg spread r is))
    is

-- the row that is read at its place
pub row_read : (rows : List OpenMerge) (seg at : ℕ) (v d : OpenMerge) → open_merge seg rows ≢ None → at ≡ merge_at seg rows → v ≡ get_or rows at d → open_merge seg rows ≡ Some v
row_read rows seg at v d there is value =
    let within = place_inside rows seg there in
    sym (place_get rows seg) ∙ (slice_get-get_or rows (merge_at seg rows) d within ∙ ap Some (ap (λ (k : ℕ). get_or rows k d) (sym is) ∙ sym value))

-- and the rows once it is written
pub row_written : (rows : List OpenMerge) (seg at : ℕ) (v d : OpenMerge) (spread : Option Spread) → open_merge seg rows ≢ None → at ≡ merge_at seg rows → v ≡ get_or rows at d
    → slice_set rows at (record { seg = v.seg; line = v.line; spread = spread }) ≡ with_spread seg spread rows
row_written rows seg at v d spread there is value =
    ap (λ (k : ℕ). slice_set rows k (record { seg = v.seg; line = v.line; spread = spread })) is ∙ place_set rows seg spread v (row_read rows seg at v d there is value)

-- a merge of which something is written is in flight
pub some_open : (rows : List OpenMerge) (seg : ℕ) → IsSome (spread_at (open_merge seg rows)) → open_merge seg rows ≢ None
some_open rows seg some none = absurd (false≢true (sym (ap (λ (o : Option OpenMerge). is_some (spread_at o)) none) ∙ some))

-- it is there also once that was taken
pub taken_open : (rows taken : List OpenMerge) (seg : ℕ) → IsSome (spread_at (open_merge seg rows)) → taken ≡ with_spread seg None rows → open_merge seg taken ≢ None
taken_open rows taken seg some is = λ none. there_with rows seg None (some_open rows seg some) (sym (ap (open_merge seg) is) ∙ none)

-- what was taken is put back so
pub put_again : (rows taken new : List OpenMerge) (seg : ℕ) (spread : Option Spread) → taken ≡ with_spread seg None rows → new ≡ with_spread seg spread taken → new ≡ with_spread seg spread rows
put_again rows taken new seg spread took is = is ∙ (ap (λ (l : List OpenMerge). with_spread seg spread l) took ∙ with_last rows seg spread None)

-- one copy more has begun
pub sent_rows : (rows taken new : List OpenMerge) (seg : ℕ) (n : NodeNo) (job : ℕ) (spread : Spread) (left : List Sent) → taken ≡ with_spread seg None rows → Some spread ≡ spread_at (open_merge seg rows)
    → left ≡ spread.left ++ record { node = n; job = job } ∷ [] → new ≡ with_spread seg (Some (record spread { left = left })) taken → new ≡ with_spread seg (sent_more n job (spread_at (open_merge seg rows))) rows
sent_rows rows taken new seg n job spread left took was more is =
    put_again rows taken new seg (Some (record spread { left = left })) took is
    ∙ (ap (λ (l : List Sent). with_spread seg (Some (record spread { left = l })) rows) more ∙ ap (λ (o : Option Spread). with_spread seg (sent_more n job o) rows) was)

-- all copies have begun
pub all_rows : (rows taken new : List OpenMerge) (seg : ℕ) (spread : Spread) → taken ≡ with_spread seg None rows → Some spread ≡ spread_at (open_merge seg rows)
    → new ≡ with_spread seg (Some (record spread { all = true })) taken → new ≡ with_spread seg (all_sent (spread_at (open_merge seg rows))) rows
all_rows rows taken new seg spread took was is = put_again rows taken new seg (Some (record spread { all = true })) took is ∙ ap (λ (o : Option Spread). with_spread seg (all_sent o) rows) was

-- a copy has ended
pub settled_rows : (rows taken new : List OpenMerge) (seg n job : ℕ) (spread : Spread) (left : List Sent) → taken ≡ with_spread seg None rows → Some spread ≡ spread_at (open_merge seg rows) → left ≡ without_sent n job spread.left
    → new ≡ with_spread seg (Some (record spread { left = left })) taken → new ≡ with_spread seg (sent_less n job (spread_at (open_merge seg rows))) rows
settled_rows rows taken new seg n job spread left took was less is =
    put_again rows taken new seg (Some (record spread { left = left })) took is
    ∙ (ap (λ (l : List Sent). with_spread seg (Some (record spread { left = l })) rows) less ∙ ap (λ (o : Option Spread). with_spread seg (sent_less n job o) rows) was)

-- ---- what is due once a copy has begun, all have, or one has ended

pub due_written : (size : ℕ) (rows : List OpenMerge) (seg : ℕ) (r : OpenMerge) (s : Spread) → open_merge seg rows ≡ Some r → r.spread ≡ None → s.all ≡ false → due_all size (with_spread seg (Some s) rows) ≡ due_all size rows
due_written size rows seg r s is none all =
    let move = due_with size rows seg (Some s) r is in
    let was : due_of size r.spread ≡ size + 1 = ap (due_of size) none in
    let now : due_of size (Some s) ≡ size + 1 = ap (λ (b : Bool). if b then length s.left + 1 else size + 1) all in
    omega (arith, move, was, now)

pub due_sent : (size : ℕ) (rows : List OpenMerge) (seg : ℕ) (r : OpenMerge) (s : Spread) (n : NodeNo) (job : ℕ) → open_merge seg rows ≡ Some r → r.spread ≡ Some s → s.all ≡ false
    → due_all size (with_spread seg (sent_more n job r.spread) rows) ≡ due_all size rows
due_sent size rows seg r s n job is some all =
    let move = due_with size rows seg (sent_more n job r.spread) r is in
    let was : due_of size r.spread ≡ size + 1 = ap (due_of size) some ∙ ap (λ (b : Bool). if b then length s.left + 1 else size + 1) all in
    let now : due_of size (sent_more n job r.spread) ≡ size + 1 =
    ap (λ (o : Option Spread). due_of size (sent_more n job o)) some ∙ ap (λ (b : Bool). if b then length (s.left ++ record { node = n; job = job } ∷ []) + 1 else size + 1) all in
    omega (arith, move, was, now)

-- the task to build ends, where fewer copies were sent than there are nodes
pub due_posted : (size : ℕ) (rows : List OpenMerge) (seg : ℕ) (r : OpenMerge) (s : Spread) → open_merge seg rows ≡ Some r → r.spread ≡ Some s → s.all ≡ false → length s.left < size
    → 1 + due_all size (with_spread seg (all_sent r.spread) rows) ≤ due_all size rows
due_posted size rows seg r s is some all few =
    let move = due_with size rows seg (all_sent r.spread) r is in
    let was : due_of size r.spread ≡ size + 1 = ap (due_of size) some ∙ ap (λ (b : Bool). if b then length s.left + 1 else size + 1) all in
    let now : due_of size (all_sent r.spread) ≡ length s.left + 1 = ap (λ (o : Option Spread). due_of size (all_sent o)) some in
    omega (arith, move, was, now, few)

-- a copy ends that was among those of a merge
pub due_settled : (size : ℕ) (rows : List OpenMerge) (seg : ℕ) (r : OpenMerge) (s : Spread) (n job : ℕ) → open_merge seg rows ≡ Some r → r.spread ≡ Some s → s.all ≡ true → is_sent_in n job s.left ≡ true
    → 1 + due_all size (with_spread seg (sent_less n job r.spread) rows) ≤ due_all size rows
due_settled size rows seg r s n job is some all sent =
    let move = due_with size rows seg (sent_less n job r.spread) r is in
    let less = length-without_sent s.left n job sent in
    let was : due_of size r.spread ≡ length s.left + 1 = ap (due_of size) some ∙ ap (λ (b : Bool). if b then length s.left + 1 else size + 1) all in
    let now : due_of size (sent_less n job r.spread) ≡ length (without_sent n job s.left) + 1 =
    ap (λ (o : Option Spread). due_of size (sent_less n job o)) some ∙ ap (λ (b : Bool). if b then length (without_sent n job s.left) + 1 else size + 1) all in
    omega (arith, move, was, now, less)

-- a merge is cut over
pub due_closed : (size : ℕ) (rows : List OpenMerge) (seg : ℕ) (r : OpenMerge) → open_merge seg rows ≡ Some r → 1 + due_all size (without_merge seg rows) ≤ due_all size rows
due_closed size rows seg r is = let less = due_without size rows seg r is in let one = at_least r.spread in omega (arith, less, one)
  where
    at_least : (o : Option Spread) → 1 ≤ due_of size o
    at_least None = omega arith
    at_least (Some s) = elim s.all as (λ b. 1 ≤ (if b then length s.left + 1 else size + 1)) [ true ↦ omega arith | false ↦ omega arith ]
