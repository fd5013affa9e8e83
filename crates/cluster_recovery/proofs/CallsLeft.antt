-- How many calls of its directory the commit at a node still needs, before and after the calls of the two paths.
use Rattle.std.proofs.Common.{◌≡◌, ◌≢◌, ◌+◌, ℕ, zero, suc, Bool, true, false, true≢false, List, Some, None, Option, refl, ap, ◌∙◌, sym, subst, if◌then◌else◌, arith, ◌-◌, ◌≤◌, [], ◌∷◌, get_or, nat_lt}
use Rattle.std.specs.Prelude.{unwrap_or, option_map, IsSome, IsSomeAnd, map}
use Rattle.std.specs.List.{slice_get}
use Rattle.std.proofs.lemmas.Bool.{eq-eqb, lt-ltb, ltb-true}
use Rattle.std.proofs.lemmas.Option.{slice_get-map, none-some, same_Some}
use Rattle.disk_model.specs.Disk.{Cells}
use Rattle.segment_infos.specs.declared.infos.Infos.{Infos}
use Rattle.commit_steps.specs.declared.stage.Stage.{Stage}
use Rattle.commit_steps.specs.declared.stage.Stage.TheVariants.{Begun, Synced, Written, Pending, Named, Renamed}
use Rattle.commit_steps.specs.declared.stage.CommitBook.{CommitBook}
use Rattle.commit_steps.specs.Book.{HasBegun, IsBegun, book_by, is_last_step}
use Rattle.cluster_nodes.specs.declared.nodes.Node.{Node}
use Rattle.cluster_nodes.specs.declared.nodes.Node.TheVariants.{Primary, Replica, Down}
use Rattle.cluster_nodes.specs.declared.nodes.NodePlace.{NodePlace}
use Rattle.cluster_nodes.specs.Places.{place_of, unwrapped, disk_of}
use Rattle.cluster_nodes.specs.JobPlaces.{MovesOne}
use Rattle.cluster_nodes.specs.Commits.{StepsBook, AltersCommits, CommitsIn, HasStageAt, HasStage, KeepsBook}
use Rattle.cluster_state.specs.Run.{Run, calls_at}
use Rattle.cluster_state.specs.CallsLeft.{stage_calls, book_calls, place_calls, calls_in, own_calls, has_own, with_own}
use Rattle.cluster_recovery.specs.Commits.{CarriesIn}
use Rattle.cluster_state.specs.Lives.{MakesCall, stopped_calls}

-- ---- books

begun_needs : (number : ℕ) (infos : Infos) (s : Option Stage) → IsBegun number infos s → stage_calls s ≡ 6
begun_needs number infos (Some (Begun s)) begun = refl
begun_needs number infos s begun = absurd begun

-- a call that is not the last
record Falls (before after : ℕ) : Type 0 where
  one : before ≡ after + 1
  more : after ≢ 0

goes_on : (book : CommitBook) (s : Option Stage) → IsSome s → is_last_step s ≡ false → Falls (stage_calls s) (stage_calls (book_by book s).stage)
goes_on book (Some (Begun s)) some last = record { one = refl; more = λ none. absurd (omega (arith, none)) }
goes_on book (Some (Synced s)) some last = record { one = refl; more = λ none. absurd (omega (arith, none)) }
goes_on book (Some (Written s)) some last = record { one = refl; more = λ none. absurd (omega (arith, none)) }
goes_on book (Some (Pending s)) some last = record { one = refl; more = λ none. absurd (omega (arith, none)) }
goes_on book (Some (Named s)) some last = record { one = refl; more = λ none. absurd (omega (arith, none)) }
goes_on book (Some (Renamed s)) some last = absurd (true≢false last)
goes_on book None some last = absurd (true≢false (sym some))

ends_with : (s : Option Stage) → is_last_step s ≡ true → stage_calls s ≡ 1
ends_with (Some (Renamed s)) last = refl
ends_with s last = absurd (true≢false (sym last))

-- where a commit is in flight, it needs at least one call, and at most six
stage_low : (s : Option Stage) → IsSome s → (1 ≤ stage_calls s) × (stage_calls s ≤ 6)
stage_low (Some (Begun s)) some = (omega arith, omega arith)
stage_low (Some (Synced s)) some = (omega arith, omega arith)
stage_low (Some (Written s)) some = (omega arith, omega arith)
stage_low (Some (Pending s)) some = (omega arith, omega arith)
stage_low (Some (Named s)) some = (omega arith, omega arith)
stage_low (Some (Renamed s)) some = (omega arith, omega arith)
stage_low None some = absurd (true≢false (sym some))

-- these are left once the line's own is none
stopped_left : (k : ℕ) (own : Bool) → 1 ≤ k → k ≤ 6 → k + own_calls false ≡ stopped_calls (k + own_calls own)
stopped_left k true low high =
    let more : nat_lt 6 (k + 6) ≡ true = lt-ltb 6 (k + 6) (omega (arith, low)) in
    let less : k + 0 ≡ k + 6 - 6 = omega arith in
    less ∙ sym (ap (λ (b : Bool). if b then k + 6 - 6 else k + 6) more)
stopped_left k false low high = tests (nat_lt 6 (k + 0)) refl
  where
    tests : (b : Bool) → nat_lt 6 (k + 0) ≡ b → k + 0 ≡ (if b then k + 0 - 6 else k + 0)
    tests true more = absurd (let high' = ltb-true 6 (k + 0) more in omega (arith, high, high'))
    tests false less = refl

-- the calls at one place, with those of an own commit
with_own_at : (carries : List Bool) (calls : List ℕ) (k x : ℕ) → slice_get calls k ≡ Some x → unwrap_or (slice_get (with_own carries calls) k) 0 ≡ x + own_calls (get_or carries k false)
with_own_at carries [] k x is = absurd (none-some x is)
with_own_at [] (y ∷ calls) k x is = ap (λ (o : Option ℕ). unwrap_or o 0) is ∙ omega arith
with_own_at (c ∷ carries) (y ∷ calls) zero x is = ap (λ (z : ℕ). z + own_calls c) (same_Some y x is)
with_own_at (c ∷ carries) (y ∷ calls) (suc k) x is = with_own_at carries calls k x is

-- ---- places

module _ {D : Type 0} (cells : D → Cells) where
  -- where none is in flight
  node_rests : (x : Node D) → HasStage (λ stage. stage ≡ None) (disk_of x).book → book_calls (disk_of x).book ≡ 0
  node_rests (Primary p) none = ap stage_calls none
  node_rests (Replica r) none = ap stage_calls none
  node_rests (Down d) none = refl

  node_begins : (x y : Node D) → AltersCommits HasBegun cells x y → book_calls (disk_of y).book ≡ 6
  node_begins (Primary p) (Primary q) alters = begun_needs p.commits.next p.point_infos q.commits.stage alters.1.begun
  node_begins (Replica r) (Replica s) alters = begun_needs r.commits.next r.infos s.commits.stage alters.1.begun
  node_begins x y alters = absurd alters

  -- where a commit is in flight
  abbrev Flies : Node D → Type 0
  Flies x = IsSomeAnd (disk_of x).book (λ (b : CommitBook). IsSome b.stage)

  node_goes : (done : Bool) (x y : Node D) → done ≡ false → Flies x → AltersCommits (StepsBook done) cells x y → Falls (book_calls (disk_of x).book) (book_calls (disk_of y).book)
  node_goes done (Primary p) (Primary q) is flies alters =
      subst (λ (b : CommitBook). Falls (stage_calls p.commits.stage) (stage_calls b.stage)) (sym alters.1.after) (goes_on p.commits p.commits.stage flies (sym alters.1.ends ∙ is))
  node_goes done (Replica r) (Replica s) is flies alters =
      subst (λ (b : CommitBook). Falls (stage_calls r.commits.stage) (stage_calls b.stage)) (sym alters.1.after) (goes_on r.commits r.commits.stage flies (sym alters.1.ends ∙ is))
  node_goes done x y is flies alters = absurd alters

  node_ends : (done : Bool) (x y : Node D) → done ≡ true → AltersCommits (StepsBook done) cells x y → book_calls (disk_of x).book ≡ 1
  node_ends done (Primary p) (Primary q) is alters = ends_with p.commits.stage (sym alters.1.ends ∙ is)
  node_ends done (Replica r) (Replica s) is alters = ends_with r.commits.stage (sym alters.1.ends ∙ is)
  node_ends done x y is alters = absurd alters

  -- as before where the disk failed
  node_stays : (x y : Node D) → AltersCommits KeepsBook cells x y → book_calls (disk_of y).book ≡ book_calls (disk_of x).book
  node_stays (Primary p) (Primary q) alters = ap (λ (c : CommitBook). stage_calls c.stage) alters.1
  node_stays (Replica r) (Replica s) alters = ap (λ (c : CommitBook). stage_calls c.stage) alters.1
  node_stays x y alters = absurd alters

  node_low : (x : Node D) → Flies x → (1 ≤ book_calls (disk_of x).book) × (book_calls (disk_of x).book ≤ 6)
  node_low (Primary p) flies = stage_low p.commits.stage flies
  node_low (Replica r) flies = stage_low r.commits.stage flies
  node_low (Down d) flies = absurd flies

  -- ---- what callers see of it

  told : (o : Option (Option (NodePlace D))) (z : NodePlace D) → unwrapped o ≡ Some z → option_map place_calls o ≡ Some (book_calls (disk_of z.node).book)
  told None z none = absurd (none-some z none)
  told (Some place) z is = ap (λ (p : Option (NodePlace D)). Some (place_calls p)) is

  pub calls_there : (n : ℕ) (r : Run) (carries : List Bool) (places : List (Option (NodePlace D))) (z : NodePlace D) → r.rest.calls_left ≡ calls_in carries places → place_of places n ≡ Some z
      → calls_at n r ≡ book_calls (disk_of z.node).book + own_calls (has_own n carries)
  calls_there zero r carries places z is there = absurd (none-some z there)
  calls_there (suc k) r carries places z is there =
      let before : suc k - 1 ≡ k = omega arith in
      ap (λ (l : List ℕ). unwrap_or (slice_get l k) 0) is
      ∙ (with_own_at carries (map place_calls places) k (book_calls (disk_of z.node).book) (slice_get-map place_calls places k ∙ told (slice_get places k) z there)
      ∙ ap (λ (j : ℕ). book_calls (disk_of z.node).book + own_calls (get_or carries j false)) (sym before))

  there_now : (n : ℕ) (x : NodePlace D) (old new : List (Option (NodePlace D))) → MovesOne n x old new → place_of new n ≡ Some x
  there_now n x old new moves = moves.there n ∙ ap (λ (b : Bool). if b then Some x else place_of old n) (eq-eqb n n refl)

  module _ (n : ℕ) (r now : Run) (carries later : List Bool) (old new : List (Option (NodePlace D))) (was : r.rest.calls_left ≡ calls_in carries old) (is : now.rest.calls_left ≡ calls_in later new) where
    -- one begins: six more
    pub begun_calls : later ≡ carries → HasStageAt (λ stage. stage ≡ None) (place_of old n) → CommitsIn HasBegun cells n old new → calls_at n now ≡ calls_at n r + 6
    begun_calls same none b =
        let first : calls_at n r ≡ book_calls (disk_of b.place.node).book + own_calls (has_own n carries) = calls_there n r carries old b.place was b.there in
        let second : calls_at n now ≡ book_calls (disk_of b.node).book + own_calls (has_own n later) = calls_there n now later new (record { node = b.node; held = b.place.held }) is (there_now n (record { node = b.node; held = b.place.held }) old new b.moves) in
        let rests : book_calls (disk_of b.place.node).book ≡ 0 = node_rests b.place.node (subst (HasStageAt (λ stage. stage ≡ None)) b.there none) in
        let begins : book_calls (disk_of b.node).book ≡ 6 = node_begins b.place.node b.node b.alters in
        let own : own_calls (has_own n later) ≡ own_calls (has_own n carries) = ap (λ (l : List Bool). own_calls (has_own n l)) same in
        omega (arith, first, second, rests, begins, own)

    -- or waits for one that was stopped
    pub waiting_calls : new ≡ old → (z : NodePlace D) → place_of old n ≡ Some z → has_own n carries ≡ false → has_own n later ≡ true → calls_at n now ≡ calls_at n r + 6
    waiting_calls same z there none own =
        let first : calls_at n r ≡ book_calls (disk_of z.node).book + own_calls (has_own n carries) = calls_there n r carries old z was there in
        let second : calls_at n now ≡ book_calls (disk_of z.node).book + own_calls (has_own n later) = calls_there n now later new z is (ap (λ (l : List (Option (NodePlace D))). place_of l n) same ∙ there) in
        let no_own : own_calls (has_own n carries) ≡ 0 = ap own_calls none in
        let six : own_calls (has_own n later) ≡ 6 = ap own_calls own in
        omega (arith, first, second, no_own, six)

    -- a call that is not the last
    pub made_call : later ≡ carries → HasStageAt IsSome (place_of old n) → CommitsIn (StepsBook false) cells n old new → MakesCall n r now
    made_call same flies b =
        let first : calls_at n r ≡ book_calls (disk_of b.place.node).book + own_calls (has_own n carries) = calls_there n r carries old b.place was b.there in
        let second : calls_at n now ≡ book_calls (disk_of b.node).book + own_calls (has_own n later) = calls_there n now later new (record { node = b.node; held = b.place.held }) is (there_now n (record { node = b.node; held = b.place.held }) old new b.moves) in
        let falls = node_goes false b.place.node b.node refl (subst (HasStageAt IsSome) b.there flies) b.alters in
        let one = falls.one in
        let own : own_calls (has_own n later) ≡ own_calls (has_own n carries) = ap (λ (l : List Bool). own_calls (has_own n l)) same in
        record { one = omega (arith, first, second, one, own); more = λ none. falls.more (omega (arith, second, none)) }

    -- the last one for a commit that was stopped, behind which the line's own begins
    pub carried_call : has_own n carries ≡ true → has_own n later ≡ false → CarriesIn cells n old new → MakesCall n r now
    carried_call own none b =
        let first : calls_at n r ≡ book_calls (disk_of b.made.place.node).book + own_calls (has_own n carries) = calls_there n r carries old b.made.place was b.made.there in
        let second : calls_at n now ≡ book_calls (disk_of b.begun.node).book + own_calls (has_own n later) =
        calls_there n now later new (record { node = b.begun.node; held = b.begun.place.held }) is (there_now n (record { node = b.begun.node; held = b.begun.place.held }) b.mid new b.begun.moves) in
        let last : book_calls (disk_of b.made.place.node).book ≡ 1 = node_ends true b.made.place.node b.made.node refl b.made.alters in
        let begins : book_calls (disk_of b.begun.node).book ≡ 6 = node_begins b.begun.place.node b.begun.node b.begun.alters in
        let six : own_calls (has_own n carries) ≡ 6 = ap own_calls own in
        let no_own : own_calls (has_own n later) ≡ 0 = ap own_calls none in
        record { one = omega (arith, first, second, last, begins, six, no_own); more = λ none_left. omega (arith, second, begins, none_left) }

    -- the disk failed
    pub stopped_here : HasStageAt IsSome (place_of old n) → has_own n later ≡ false → CommitsIn KeepsBook cells n old new → (calls_at n now ≡ stopped_calls (calls_at n r)) × (calls_at n now ≢ 0)
    stopped_here flies none b =
        let first : calls_at n r ≡ book_calls (disk_of b.place.node).book + own_calls (has_own n carries) = calls_there n r carries old b.place was b.there in
        let second : calls_at n now ≡ book_calls (disk_of b.node).book + own_calls (has_own n later) = calls_there n now later new (record { node = b.node; held = b.place.held }) is (there_now n (record { node = b.node; held = b.place.held }) old new b.moves) in
        let stays : book_calls (disk_of b.node).book ≡ book_calls (disk_of b.place.node).book = node_stays b.place.node b.node b.alters in
        let low = node_low b.place.node (subst (HasStageAt IsSome) b.there flies) in
        let alone : calls_at n now ≡ book_calls (disk_of b.place.node).book + own_calls false = second ∙ (λ i. stays i + own_calls (none i)) in (
          alone ∙ (stopped_left (book_calls (disk_of b.place.node).book) (has_own n carries) low.0 low.1 ∙ ap stopped_calls (sym first)),
          λ none_left. (let least = low.0 in omega (arith, alone, least, none_left)),
        )

  module _ (n : ℕ) (r : Run) (carries : List Bool) (old : List (Option (NodePlace D))) (was : r.rest.calls_left ≡ calls_in carries old) where
    -- none was in flight
    pub rests_here : has_own n carries ≡ false → (z : NodePlace D) → place_of old n ≡ Some z → HasStageAt (λ stage. stage ≡ None) (place_of old n) → calls_at n r ≡ 0
    rests_here none z there rests =
        let first : calls_at n r ≡ book_calls (disk_of z.node).book + own_calls (has_own n carries) = calls_there n r carries old z was there in
        let no_calls : book_calls (disk_of z.node).book ≡ 0 = node_rests z.node (subst (HasStageAt (λ stage. stage ≡ None)) there rests) in
        let no_own : own_calls (has_own n carries) ≡ 0 = ap own_calls none in
        omega (arith, first, no_calls, no_own)

    -- the last call
    pub made_last : has_own n carries ≡ false → (new : List (Option (NodePlace D))) → CommitsIn (StepsBook true) cells n old new → calls_at n r ≡ 1
    made_last none new b =
        let first : calls_at n r ≡ book_calls (disk_of b.place.node).book + own_calls (has_own n carries) = calls_there n r carries old b.place was b.there in
        let last : book_calls (disk_of b.place.node).book ≡ 1 = node_ends true b.place.node b.node refl b.alters in
        let no_own : own_calls (has_own n carries) ≡ 0 = ap own_calls none in
        omega (arith, first, last, no_own)

-- in the terms of a call, whose cluster has this state
pub calls_was : (r x : Run) → x ≡ r → r.rest.calls_left ≡ x.rest.calls_left
calls_was r x view = sym (ap (λ (y : Run). y.rest.calls_left) view)
