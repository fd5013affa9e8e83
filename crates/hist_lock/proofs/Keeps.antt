-- Each step of the lock keeps its rule.
use Rattle.std.proofs.Math.Nat.{add-mod}
use Rattle.std.proofs.lemmas.List.Sums.{sum_by-append}
use Rattle.std.proofs.Common.{◌≡◌, ◌≢◌, ℕ, ◌+◌, ◌%◌, ◌^◌, ◌<◌, ◌≤◌, List, [], ◌∷◌, ◌++◌, set, get_or, cond, true, true≢false, eqb, eq-eqb, ne_eqb, Option, Some, refl, sym, ap, ◌∙◌, subst, inl, inr, ⊎_elim, arith, length, length-set, zero, suc}
use mathlib.Core.Logic.{dite}
use mathlib.Core.Option.{some, none, some-injective, some-ne-none}
use mathlib.Core.List.{IsPrefix}
use native.Mathlib.Decide.{ℕ_discrete}
use lib.Seq.{set-get_or}
use lib.ListN.{get_elem?}
use Rattle.atomic_table.specs.Table.{rest, State, Me, step, Act, Valid, carried_after, keeps, takes, gives, stepped, Allows, Splits, Joins, opening, Final, Seen}
use Rattle.atomic_table.proofs.Lists.{at_set, at_snoc, one_turn, set_else, set_again}
use Rattle.hist_lock.specs.declared.view.SeatTurn.{SeatTurn}
use Rattle.hist_lock.specs.declared.view.SeatTurn.TheVariants.{Idle, Waiting, Inside}
use Rattle.hist_lock.specs.declared.view.JoinedSeat.{JoinedSeat}
use Rattle.hist_lock.specs.declared.view.View.{View}
use Rattle.hist_lock.specs.History.{Each, longer_of, shorter_of, entries_by, MayAppend, Extends, HasJust, Continues}
use Rattle.hist_lock.specs.Views.{all_room, turn_ticket, first_view, splitter_view, new_seat_view, note_view, spent_view, joiner_view, hearer_view, waiting_view, inside_view, outside_view}
use Rattle.hist_lock.specs.Rule.{Desk, Owns, HoldsTicket, Fits, EachFits, AnswersFor, IsHome, IsOut, IsKept}
use Rattle.hist_lock.specs.Steps.{DrewTicket, Looked, ServedNext, Compared}
use Rattle.hist_lock.proofs.Histories.{sum_by-set_at, sum_by-at, at_end, each_map, each-append, prefix_refl, prefix_more, prefix_both, longer_prefix, shorter_prefix, shorter_length, longer_first, by_same, by_none, by_between}

-- the function that answers a at n, and as f elsewhere
abbrev pub but : (ℕ → ℕ) → ℕ → ℕ → ℕ → ℕ
but f n a x = cond (eqb x n) a (f x)

but_here : (f : ℕ → ℕ) (n a : ℕ) → but f n a n ≡ a
but_here f n a = ap (λ b. cond b a (f n)) (eq-eqb n n refl)

but_else : (f : ℕ → ℕ) (n a x : ℕ) → x ≢ n → but f n a x ≡ f x
but_else f n a x other = ap (λ b. cond b a (f x)) (ne_eqb x n other)

-- what the seat `other` answers for, the seat a answers for
abbrev pub taken : (ℕ → ℕ) → ℕ → ℕ → ℕ → ℕ
taken f other a x = cond (eqb (f x) other) a (f x)

taken_here : (f : ℕ → ℕ) (other a x : ℕ) → f x ≡ other → taken f other a x ≡ a
taken_here f other a x e = ap (λ b. cond b a (f x)) (eq-eqb (f x) other e)

taken_not : (f : ℕ → ℕ) (other a x : ℕ) → f x ≢ other → taken f other a x ≡ f x
taken_not f other a x e = ap (λ b. cond b a (f x)) (ne_eqb (f x) other e)

single : {A : Type 0} (l : List A) (a : A) → length l ≡ 1 → get_elem? l 0 ≡ some a → l ≡ a ∷ []
single [] a one e = absurd (omega arith)
single (x ∷ []) a one e = ap (λ y. y ∷ []) (some-injective x a e)
single (x ∷ y ∷ ys) a one e = absurd (omega arith)

module _ {T E : Type 0} (history : T → List E) (names : E → ℕ) where
  abbrev V : Type 0
  V = View E

  abbrev St : Type 0
  St = State (Option T) V

  abbrev K : St → Type 0
  K = IsKept history names

  -- a turn reads these of the desk alone
  same_turn : (d d' : Desk E) → d'.log ≡ d.log → d'.drawn ≡ d.drawn → d'.served ≡ d.served → d'.next ≡ d.next → d'.holder ≡ d.holder → (j : ℕ) (seen : List E) (turn : SeatTurn) → HoldsTicket names d j seen turn → HoldsTicket names d' j seen turn
  same_turn d d' log drawn served next holder j seen Idle h = tt
  same_turn d d' log drawn served next holder j seen (Waiting t) h = let a = h.0 in let b = h.1 in (omega arith, omega arith, ap (λ (f : ℕ → ℕ). f t) holder ∙ h.2)
  same_turn d d' log drawn served next holder j seen (Inside t) h = let a = h.0 in let b = h.1 in (omega arith, omega arith, ap (λ (f : ℕ → ℕ). f t) holder ∙ h.2, h.3 ∙ sym log)

  fits_set : (d : Desk E) (views : List V) (id : ℕ) (w : V) → ((j : ℕ) (u : V) → j ≢ id → get_elem? views j ≡ some u → Fits names d j u) → Fits names d id w → EachFits names d (set views id w)
  fits_set d views id w others mine j u e =
      ⊎_elim
      (λ (x : (j ≡ id) × (w ≡ u)). subst (λ (y : ℕ × V). Fits names d y.0 y.1) (λ i. (sym x.0 i, x.1 i)) mine)
      (λ (x : (j ≢ id) × (get_elem? views j ≡ some u)). others j u x.0 x.1)
      (at_set views id j w u e)

  -- a step that changes nothing
  unmoved : (s : St) (k : K s) (i id : ℕ) (v : V) → get_elem? s.views id ≡ some v → K (stepped s i (get_or s.words i 0) id [] v keeps)
  unmoved s k i id v at = subst (λ (p : List ℕ × List V). K record { words = p.0; homes = s.homes; views = p.1 }) (λ j. (sym (set-get_or s.words i 0) j, sym (set_again s.views id v at) j)) record {
    desk = k.desk;
    words = k.words;
    room = k.room;
    in_order = k.in_order;
    fresh = k.fresh;
    slot = k.slot;
    seats = k.seats;
  }

  draw_turn : (d : Desk E) (id j : ℕ) (seen : List E) (turn : SeatTurn) → HoldsTicket names d j seen turn → HoldsTicket names (record d { drawn = d.drawn + 1; holder = but d.holder d.drawn id }) j seen turn
  draw_turn d id j seen Idle h = tt
  draw_turn d id j seen (Waiting t) h = (h.0, (let a = h.1 in omega arith), but_else d.holder d.drawn id t (let a = h.1 in λ e. omega arith) ∙ h.2)
  draw_turn d id j seen (Inside t) h = (h.0, (let a = h.1 in omega arith), but_else d.holder d.drawn id t (let a = h.1 in λ e. omega arith) ∙ h.2, h.3)

  pub draws : (slots id : ℕ) (m : Me (Option T) V) → m.0.turn ≡ Idle → 1 ≤ m.0.room → Allows K slots id m 0 (λ n. (n + 1) % 2 ^ 64) (DrewTicket history names (step slots 0 1 0 none) m)
  draws slots id m idle room s k _ at _ =
      let d = k.desk in
      let v = m.0 in
      let t = d.drawn in
      let w = waiting_view v t in
      let f = k.seats id v at in
      let d' : Desk E = record d { drawn = d.drawn + 1; holder = but d.holder d.drawn id } in
      let sum = sum_by-set_at (λ (u : V). u.room) s.views id v w at in
      let all = k.room in
      let order = k.in_order in
      let move : (j : ℕ) (u : V) → Fits names d j u → Fits names d' j u = λ j u f. record { seen = f.seen; told = f.told; turn = draw_turn d id j u.seen u.turn f.turn; own = f.own; recalls = f.recalls; joined = f.joined; is_first = f.is_first } in (
        w,
        keeps,
        tt,
        record {
          desk = d';
          words = subst (λ (ws : List ℕ). set ws 0 ((get_or ws 0 0 + 1) % 2 ^ 64) ≡ ((d.drawn + 1) % 2 ^ 64) ∷ (d.served % 2 ^ 64) ∷ []) (sym k.words) (ap (λ (n : ℕ). n ∷ (d.served % 2 ^ 64) ∷ []) (sym (add-mod d.drawn 1 (2 ^ 64))));
          room = omega arith;
          in_order = omega arith;
          fresh = k.fresh;
          slot = k.slot;
          seats = fits_set d' s.views id w (λ j u _ e. move j u (k.seats j u e))
              record { seen = f.seen; told = f.told; turn = (order, omega arith, but_here d.holder d.drawn id); own = f.own; recalls = f.recalls; joined = f.joined; is_first = f.is_first };
        },
        (t, ap (λ (ws : List ℕ). get_or ws 0 0) k.words, refl),
      )

  -- the history that a seat finds
  knows : (s : St) (k : K s) (id : ℕ) (v : V) (log : List E) → log ≡ k.desk.log → get_elem? s.views id ≡ some v → Continues names v log
  knows s k id v log same at = let f = k.seats id v at in subst (λ (l : List E). Continues names v l) (sym same)
      record { seen = f.seen; own = λ h. (f.own h).3; joined = each_map (AnswersFor names k.desk id v.number) (HasJust names k.desk.log) (λ (x : JoinedSeat E) h p. (h p).0.3) v.joined f.joined; others = λ h n above. let e = (f.is_first h).1 in k.fresh n (omega arith) }

  let_in : (d : Desk E) (id t j : ℕ) (seen : List E) → t ≡ d.served → d.next ≡ d.served → d.holder t ≡ id → j ≢ id → (turn : SeatTurn) → HoldsTicket names d j seen turn → HoldsTicket names (record d { next = d.served + 1 }) j seen turn
  let_in d id t j seen here next mine other Idle h = tt
  let_in d id t j seen here next mine other (Waiting x) h =
      let a = h.0 in
      let not : x ≢ d.served = λ e. other (sym h.2 ∙ (ap d.holder (e ∙ sym here) ∙ mine)) in
      (omega arith, h.1, h.2)
  let_in d id t j seen here next mine other (Inside x) h = h

  abbrev Entered : St → ℕ → ℕ → V → Type 0
  Entered s id t v = (value : T) × (get_elem? s.homes 0 ≡ some (some (Some value))) × K (stepped s 1 (get_or s.words 1 0) id [] (inside_view v t (history value)) (takes 0 (Some value))) × Continues names v (history value)

  -- the seat whose ticket is served takes the value
  enters : (s : St) (k : K s) (id t : ℕ) (v : V) → get_elem? s.views id ≡ some v → v.turn ≡ Waiting t → get_or s.words 1 0 ≡ t % 2 ^ 64 → Entered s id t v
  enters s k id t v at is hit = ⊎_elim home away k.slot
    where
      d : Desk E
      d = k.desk

      f : Fits names d id v
      f = k.seats id v at

      mine : HoldsTicket names d id v.seen (Waiting t)
      mine = subst (HoldsTicket names d id v.seen) is f.turn

      same : d.served % 2 ^ 64 ≡ t % 2 ^ 64
      same = sym (ap (λ (ws : List ℕ). get_or ws 1 0) k.words) ∙ hit

      here : d.served ≤ d.next → t ≡ d.served
      here le = let a = mine.0 in let b = mine.1 in let all = k.room in sym (one_turn d.served t (2 ^ 64) (omega arith) (omega arith) same)

      home : IsHome history names d s → Entered s id t v
      home h =
          let value : T = h.0 in
          let next = h.3 in
          let first = here (omega arith) in
          let less = mine.1 in
          let w = inside_view v t (history value) in
          let d' : Desk E = record d { next = d.served + 1 } in
          let sum = sum_by-set_at (λ (u : V). u.room) s.views id v w at in
          let all = k.room in
          let away : IsOut history names d' (stepped s 1 (get_or s.words 1 0) id [] w (takes 0 (Some value))) = (ap (λ l. set l 0 none) h.1, refl) in (
            value,
            ap (λ l. get_elem? l 0) h.1,
            record {
              desk = d';
              words = subst (λ (ws : List ℕ). set ws 1 (get_or ws 1 0) ≡ (d.drawn % 2 ^ 64) ∷ (d.served % 2 ^ 64) ∷ []) (sym k.words) refl;
              room = omega arith;
              in_order = omega arith;
              fresh = k.fresh;
              slot = inr away;
              seats = fits_set d' s.views id w
                  (λ j u other e. let x = k.seats j u e in record { seen = x.seen; told = x.told; turn = let_in d id t j u.seen first next mine.2 other u.turn x.turn; own = x.own; recalls = x.recalls; joined = x.joined; is_first = x.is_first })
                  record { seen = subst (λ l. IsPrefix l d.log) (sym h.2) (prefix_refl d.log); told = f.told; turn = (first, less, mine.2, h.2); own = f.own; recalls = λ p. ap (entries_by names v.number) h.2 ∙ (f.own p).3; joined = f.joined; is_first = f.is_first };
            },
            knows s k id v (history value) h.2 at,
          )

      away : IsOut history names d s → Entered s id t v
      away o = let e = o.1 in let a = mine.0 in let b = here (omega arith) in absurd (omega arith)

  pub looks : (slots id t : ℕ) (m : Me (Option T) V) → m.0.turn ≡ Waiting t → m.1 ≡ [] → Allows K slots id m 1 (λ n. n) (Looked history names (step slots 1 0 0 none) m)
  looks slots id t m is empty s k _ at _ =
      let v = m.0 in
      let same : turn_ticket v.turn ≡ t = ap turn_ticket is in
      let is' : v.turn ≡ Waiting (turn_ticket v.turn) = is ∙ ap Waiting (sym same) in
      subst (λ (cs : List (ℕ × Option T)). (w : V) × (a : Act (Option T)) × Valid s.homes cs a × K (stepped s 1 (get_or s.words 1 0) id cs w a) × Looked history names (step slots 1 0 0 none) (v, cs) (get_or s.words 1 0) (w, carried_after cs a)) (sym empty)
      (dite (ℕ_discrete (get_or s.words 1 0) (turn_ticket v.turn % 2 ^ 64))
      (λ hit. let e = enters s k id (turn_ticket v.turn) v at is' hit in (inside_view v (turn_ticket v.turn) (history e.0), takes 0 (Some e.0), e.1, e.2, ((λ _. (e.0, refl, e.3)), (λ miss. absurd (miss hit)))))
      (λ miss. (v, keeps, tt, unmoved s k 1 id v at, ((λ hit. absurd (miss hit)), (λ _. refl)))))

  serve : (d : Desk E) (log : List E) (id t j : ℕ) (seen : List E) → t ≡ d.served → d.served ≤ d.next → d.holder t ≡ id → j ≢ id → (turn : SeatTurn) → HoldsTicket names d j seen turn
      → HoldsTicket names (record d { log = log; served = d.served + 1; next = d.served + 1 }) j seen turn
  serve d log id t j seen here le mine other Idle h = tt
  serve d log id t j seen here le mine other (Waiting x) h =
      let a = h.0 in
      let not : x ≢ d.served = λ e. other (sym h.2 ∙ (ap d.holder (e ∙ sym here) ∙ mine)) in
      (omega arith, h.1, h.2)
  serve d log id t j seen here le mine other (Inside x) h = absurd (other (sym h.2 ∙ (ap d.holder (h.0 ∙ sym here) ∙ mine)))

  one_home : (s : St) (k : K s) (x : Option T) → set s.homes 0 (some x) ≡ some x ∷ []
  one_home s k x = ⊎_elim (λ (h : IsHome history names k.desk s). ap (λ l. set l 0 (some x)) h.1) (λ (o : IsOut history names k.desk s). ap (λ l. set l 0 (some x)) o.0) k.slot

  waits : (s : St) (k : K s) → k.desk.served ≤ k.desk.next
  waits s k = ⊎_elim (λ (h : IsHome history names k.desk s). let e = h.3 in omega arith) (λ (o : IsOut history names k.desk s). let e = o.1 in omega arith) k.slot

  -- an entry list that another seat goes on with has the same entries of this number
  still_owns : (d d' : Desk E) (es : List E) (m j n : ℕ) (own : List E) → d'.log ≡ d.log ++ es → d'.splits ≡ d.splits → d'.owner ≡ d.owner → Each (MayAppend names m) es → n ≢ m → Owns names d j n own → Owns names d' j n own
  still_owns d d' es m j n own log splits owner may other h =
      let a = h.0 in
      let b = h.1 in
      (a, omega arith, ap (λ (f : ℕ → ℕ). f n) owner ∙ h.2, ap (entries_by names n) log ∙ (by_same names n m a other d.log es may ∙ h.3))

  gives_back : (s : St) (k : K s) (id t : ℕ) (v : V) (value : T) → get_elem? s.views id ≡ some v → v.turn ≡ Inside t → Extends names v.number v.seen (history value)
      → K (stepped s 1 ((get_or s.words 1 0 + 1) % 2 ^ 64) id ((0, Some value) ∷ []) (outside_view names v (history value)) gives)
  gives_back s k id t v value at is more = record {
    desk = d';
    words = subst (λ (ws : List ℕ). set ws 1 ((get_or ws 1 0 + 1) % 2 ^ 64) ≡ (d.drawn % 2 ^ 64) ∷ ((d.served + 1) % 2 ^ 64) ∷ []) (sym k.words) (ap (λ (n : ℕ). (d.drawn % 2 ^ 64) ∷ n ∷ []) (sym (add-mod d.served 1 (2 ^ 64))));
    room = (let sum = sum_by-set_at (λ (u : V). u.room) s.views id v w at in let all = k.room in omega arith);
    in_order = (let a = mine.0 in let b = mine.1 in omega arith);
    fresh = λ n above. ap (entries_by names n) grown ∙ (by_same names n v.number (omega arith) (λ e. let o = (f.own (omega arith)).1 in omega arith) d.log more.0 more.2 ∙ k.fresh n above);
    slot = inl (value, one_home s k (Some value), refl, refl);
    seats = fits_set d' s.views id w others here;
  }
    where
      d : Desk E
      d = k.desk

      d' : Desk E
      d' = record d { log = history value; served = d.served + 1; next = d.served + 1 }

      w : V
      w = outside_view names v (history value)

      f : Fits names d id v
      f = k.seats id v at

      mine : HoldsTicket names d id v.seen (Inside t)
      mine = subst (HoldsTicket names d id v.seen) is f.turn

      grown : history value ≡ d.log ++ more.0
      grown = more.1 ∙ ap (λ l. l ++ more.0) mine.3

      longer_now : (l : List E) → IsPrefix l d.log → IsPrefix l (history value)
      longer_now l h = subst (λ z. IsPrefix l z) (sym grown) (prefix_more l d.log more.0 h)

      keeps_own : (j n : ℕ) (own : List E) → n ≢ v.number → Owns names d j n own → Owns names d' j n own
      keeps_own j n own other h = still_owns d d' more.0 v.number j n own grown refl refl more.2 other h

      apart : (j n : ℕ) (own : List E) → j ≢ id → Owns names d j n own → n ≢ v.number
      apart j n own other h e = let a = h.0 in let o = f.own (omega arith) in other (sym h.2 ∙ (ap d.owner e ∙ o.2))

      others : (j : ℕ) (u : V) → j ≢ id → get_elem? s.views j ≡ some u → Fits names d' j u
      others j u other e = let x = k.seats j u e in record {
        seen = longer_now u.seen x.seen;
        told = longer_now u.told x.told;
        turn = serve d (history value) id t j u.seen mine.0 (waits s k) mine.2 other u.turn x.turn;
        own = λ h. keeps_own j u.number u.own (apart j u.number u.own other (x.own h)) (x.own h);
        recalls = x.recalls;
        joined = each_map (AnswersFor names d j u.number) (AnswersFor names d' j u.number) (λ (y : JoinedSeat E) h p. let o = h p in (keeps_own j y.number y.own (apart j y.number y.own other o.0) o.0, o.1)) u.joined x.joined;
        is_first = x.is_first;
      }

      here : Fits names d' id w
      here = record {
        seen = prefix_refl (history value);
        told = longer_now v.told f.told;
        turn = tt;
        own = λ h. let o = f.own h in (o.0, o.1, o.2, refl);
        recalls = λ _. refl;
        joined = each_map (AnswersFor names d id v.number) (AnswersFor names d' id v.number) (λ (y : JoinedSeat E) h p. let o = h p in (keeps_own id y.number y.own o.1 o.0, o.1)) v.joined f.joined;
        is_first = f.is_first;
      }

  -- the seat that is inside gives the value back
  pub leaves : (slots id t : ℕ) (m : Me (Option T) V) (value : T) → m.0.turn ≡ Inside t → m.1 ≡ (0, Some value) ∷ [] → Extends names m.0.number m.0.seen (history value)
      → Allows K slots id m 1 (λ n. (n + 1) % 2 ^ 64) (ServedNext history names (step slots 1 1 0 none) m)
  leaves slots id t m value is out more s k _ at _ =
      let v = m.0 in
      subst (λ (cs : List (ℕ × Option T)). (w : V) × (a : Act (Option T)) × Valid s.homes cs a × K (stepped s 1 ((get_or s.words 1 0 + 1) % 2 ^ 64) id cs w a) × ServedNext history names (step slots 1 1 0 none) (v, cs) (get_or s.words 1 0) (w, carried_after cs a)) (sym out)
      (outside_view names v (history value), gives, tt, gives_back s k id t v value at is more, λ (x : T) (e : (0, Some value) ∷ [] ≡ (0, Some x) ∷ []). let back : Some value ≡ Some x = ap (λ (l : List (ℕ × Option T)). (get_or l 0 (0, Some value)).1) e in let same : value ≡ x = cc in ap (λ y. (outside_view names v (history y), [])) same)

  -- the first seat splits off another
  branch_owns : (d : Desk E) (at j n : ℕ) (own : List E) → Owns names d j n own → Owns names (record d { splits = d.splits + 1; owner = but d.owner (d.splits + 1) at }) j n own
  branch_owns d at j n own h = let a = h.1 in (h.0, omega arith, but_else d.owner (d.splits + 1) at n (λ e. omega arith) ∙ h.2, h.3)

  pub branches : (id : ℕ) (v : V) → v.is_first ≡ true → 1 < v.room → Splits K id v (splitter_view v) (new_seat_view v)
  branches id v first room s k at = record {
    desk = d';
    words = k.words;
    room = (let sum = sum_by-set_at (λ (u : V). u.room) s.views id v (splitter_view v) at in let end = sum_by-append (λ (u : V). u.room) (set s.views id (splitter_view v)) (new_seat_view v ∷ []) in let all = k.room in omega arith);
    in_order = k.in_order;
    fresh = λ n above. k.fresh n (omega arith);
    slot = k.slot;
    seats = each;
  }
    where
      d : Desk E
      d = k.desk

      n : ℕ
      n = length s.views

      d' : Desk E
      d' = record d { splits = d.splits + 1; owner = but d.owner (d.splits + 1) n }

      f : Fits names d id v
      f = k.seats id v at

      count : v.splits ≡ d.splits
      count = (f.is_first first).1

      move : (j : ℕ) (u : V) → j ≢ id → Fits names d j u → Fits names d' j u
      move j u other x = record {
        seen = x.seen;
        told = x.told;
        turn = same_turn d d' refl refl refl refl refl j u.seen u.turn x.turn;
        own = λ h. branch_owns d n j u.number u.own (x.own h);
        recalls = x.recalls;
        joined = each_map (AnswersFor names d j u.number) (AnswersFor names d' j u.number) (λ (y : JoinedSeat E) h p. let o = h p in (branch_owns d n j y.number y.own o.0, o.1)) u.joined x.joined;
        is_first = λ h. absurd (other ((x.is_first h).0 ∙ sym (f.is_first first).0));
      }

      here : Fits names d' id (splitter_view v)
      here = record {
        seen = f.seen;
        told = f.told;
        turn = same_turn d d' refl refl refl refl refl id v.seen v.turn f.turn;
        own = λ h. branch_owns d n id v.number v.own (f.own h);
        recalls = f.recalls;
        joined = each_map (AnswersFor names d id v.number) (AnswersFor names d' id v.number) (λ (y : JoinedSeat E) h p. let o = h p in (branch_owns d n id y.number y.own o.0, o.1)) v.joined f.joined;
        is_first = λ h. ((f.is_first h).0, ap (λ x. x + 1) count);
      }

      new : Fits names d' n (new_seat_view v)
      new = record {
        seen = f.seen;
        told = (d.log, refl);
        turn = tt;
        own = λ h. let c = count in (omega arith, omega arith, ap (but d.owner (d.splits + 1) n) (ap (λ x. x + 1) c) ∙ but_here d.owner (d.splits + 1) n, k.fresh (v.splits + 1) (omega arith));
        recalls = λ _. let c = count in by_none names (v.splits + 1) v.seen d.log f.seen (k.fresh (v.splits + 1) (omega arith));
        joined = tt;
        is_first = λ h. absurd (true≢false (sym h));
      }

      each : EachFits names d' (set s.views id (splitter_view v) ++ new_seat_view v ∷ [])
      each j u e = ⊎_elim
          (λ was. fits_set d' s.views id (splitter_view v) (λ i x other y. move i x other (k.seats i x y)) here j u was)
          (λ (end : (j ≡ length (set s.views id (splitter_view v))) × (new_seat_view v ≡ u)). subst (λ (y : ℕ × V). Fits names d' y.0 y.1) (λ i. (sym (end.0 ∙ length-set s.views id (splitter_view v)) i, end.1 i)) new)
          (at_end (set s.views id (splitter_view v)) (new_seat_view v) u j e)

  -- a note is made
  pub notes : (id : ℕ) (v : V) → Splits K id v v (note_view v)
  notes id v s k at = record {
    desk = k.desk;
    words = k.words;
    room = (let sum = sum_by-set_at (λ (u : V). u.room) s.views id v v at in let end = sum_by-append (λ (u : V). u.room) (set s.views id v) (note_view v ∷ []) in let all = k.room in omega arith);
    in_order = k.in_order;
    fresh = k.fresh;
    slot = k.slot;
    seats = λ j u e. ⊎_elim
        (λ was. fits_set k.desk s.views id v (λ i x _ y. k.seats i x y) (k.seats id v at) j u was)
        (λ (end : note_view v ≡ u). subst (λ (y : V). Fits names k.desk j y) end record { seen = (k.seats id v at).seen; told = (k.desk.log, refl); turn = tt; own = λ h. absurd (omega arith); recalls = λ h. absurd (omega arith); joined = tt; is_first = λ h. absurd (true≢false (sym h)) })
        (at_snoc (set s.views id v) (note_view v) u j e);
  }

  longer_recalls : (d : Desk E) (v w : V) → entries_by names v.number v.seen ≡ v.own → entries_by names v.number d.log ≡ v.own → IsPrefix v.seen d.log → IsPrefix w.seen d.log → entries_by names v.number (longer_of v.seen w.seen) ≡ v.own
  longer_recalls d v w seen all p q = by_between names v.number v.own v.seen (longer_of v.seen w.seen) d.log seen all (longer_first v.seen w.seen d.log p q) (longer_prefix v.seen w.seen d.log p q)

  -- of two seats that are joined
  merge_owns : (d : Desk E) (id other j n : ℕ) (own : List E) → j ≢ other → Owns names d j n own → Owns names (record d { owner = taken d.owner other id }) j n own
  merge_owns d id other j n own apart h = (h.0, h.1, taken_not d.owner other id n (λ e. apart (sym h.2 ∙ e)) ∙ h.2, h.3)

  give_owns : (d : Desk E) (id other n : ℕ) (own : List E) → Owns names d other n own → Owns names (record d { owner = taken d.owner other id }) id n own
  give_owns d id other n own h = (h.0, h.1, taken_here d.owner other id n h.2, h.3)

  nobody : (d : Desk E) (j : ℕ) → Fits names d j spent_view
  nobody d j = record { seen = (d.log, refl); told = (d.log, refl); turn = tt; own = λ h. absurd (omega arith); recalls = λ h. absurd (omega arith); joined = tt; is_first = λ h. absurd (true≢false (sym h)) }

  -- the views after a join, seat by seat
  after_join : (d d' : Desk E) (views : List V) (id other : ℕ) (both w : V) → ¬ (other ≡ id) → get_elem? (set views id both) other ≡ some w
      → ((j : ℕ) (u : V) → j ≢ id → j ≢ other → get_elem? views j ≡ some u → Fits names d' j u) → Fits names d' id both → EachFits names d' (set (set views id both) other spent_view)
  after_join d d' views id other both w apart there others mine = fits_set d' (set views id both) other spent_view
      (λ j u not e. ⊎_elim
      (λ (x : (j ≡ id) × (both ≡ u)). subst (λ (y : ℕ × V). Fits names d' y.0 y.1) (λ i. (sym x.0 i, x.1 i)) mine)
      (λ (x : (j ≢ id) × (get_elem? views j ≡ some u)). others j u x.0 not x.1)
      (at_set views id j both u e))
      (nobody d' other)

  was_there : (views : List V) (id other : ℕ) (both w : V) → ¬ (other ≡ id) → get_elem? (set views id both) other ≡ some w → get_elem? views other ≡ some w
  was_there views id other both w apart there = sym (set_else views id other both apart) ∙ there

  pub merges : (id : ℕ) (v : V) (other : ℕ) (w : V) → v.turn ≡ Idle → Joins K id v other w (joiner_view v w) spent_view
  merges id v other w idle s k at apart there = record {
    desk = d';
    words = k.words;
    room = (let one = sum_by-set_at (λ (u : V). u.room) s.views id v both at in let two = sum_by-set_at (λ (u : V). u.room) (set s.views id both) other w spent_view there in let all = k.room in omega arith);
    in_order = k.in_order;
    fresh = k.fresh;
    slot = k.slot;
    seats = after_join d d' s.views id other both w apart there others mine;
  }
    where
      both : V
      both = joiner_view v w

      d : Desk E
      d = k.desk

      d' : Desk E
      d' = record d { owner = taken d.owner other id }

      f : Fits names d id v
      f = k.seats id v at

      g : Fits names d other w
      g = k.seats other w (was_there s.views id other both w apart there)

      differs : (n : ℕ) (own : List E) → Owns names d other n own → n ≢ v.number
      differs n own h e = let a = h.0 in let o = f.own (omega arith) in apart (sym h.2 ∙ (ap d.owner e ∙ o.2))

      others : (j : ℕ) (u : V) → j ≢ id → j ≢ other → get_elem? s.views j ≡ some u → Fits names d' j u
      others j u not not' e = let x = k.seats j u e in record {
        seen = x.seen;
        told = x.told;
        turn = same_turn d d' refl refl refl refl refl j u.seen u.turn x.turn;
        own = λ h. merge_owns d id other j u.number u.own not' (x.own h);
        recalls = x.recalls;
        joined = each_map (AnswersFor names d j u.number) (AnswersFor names d' j u.number) (λ (y : JoinedSeat E) h p. let o = h p in (merge_owns d id other j y.number y.own not' o.0, o.1)) u.joined x.joined;
        is_first = x.is_first;
      }

      mine : Fits names d' id both
      mine = record {
        seen = longer_prefix v.seen w.seen d.log f.seen g.seen;
        told = shorter_prefix v.seen w.seen d.log f.seen g.seen;
        turn = subst (HoldsTicket names d' id (longer_of v.seen w.seen)) (sym idle) tt;
        own = λ h. merge_owns d id other id v.number v.own (λ e. apart (sym e)) (f.own h);
        recalls = λ h. longer_recalls d v w (f.recalls h) (f.own h).3 f.seen g.seen;
        joined = each-append (AnswersFor names d' id v.number) v.joined (record { number = w.number; own = w.own } ∷ w.joined)
            (each_map (AnswersFor names d id v.number) (AnswersFor names d' id v.number) (λ (y : JoinedSeat E) h p. let o = h p in (merge_owns d id other id y.number y.own (λ e. apart (sym e)) o.0, o.1)) v.joined f.joined)
            ((λ p. (give_owns d id other w.number w.own (g.own p), differs w.number w.own (g.own p))), each_map (AnswersFor names d other w.number) (AnswersFor names d' id v.number) (λ (y : JoinedSeat E) h p. let o = h p in (give_owns d id other y.number y.own o.0, differs y.number y.own o.0)) w.joined g.joined);
        is_first = f.is_first;
      }

  -- a note is joined
  pub hears : (id : ℕ) (v : V) (other : ℕ) (w : V) → v.turn ≡ Idle → w.room ≡ 0 → Joins K id v other w (hearer_view v w) spent_view
  hears id v other w idle empty s k at apart there = record {
    desk = d;
    words = k.words;
    room = (let one = sum_by-set_at (λ (u : V). u.room) s.views id v both at in let two = sum_by-set_at (λ (u : V). u.room) (set s.views id both) other w spent_view there in let all = k.room in omega arith);
    in_order = k.in_order;
    fresh = k.fresh;
    slot = k.slot;
    seats = after_join d d s.views id other both w apart there (λ j u _ _ e. k.seats j u e) record {
      seen = longer_prefix v.seen w.seen d.log f.seen g.seen;
      told = shorter_prefix v.seen w.seen d.log f.seen g.seen;
      turn = subst (HoldsTicket names d id (longer_of v.seen w.seen)) (sym idle) tt;
      own = f.own;
      recalls = λ h. longer_recalls d v w (f.recalls h) (f.own h).3 f.seen g.seen;
      joined = f.joined;
      is_first = f.is_first;
    };
  }
    where
      both : V
      both = hearer_view v w

      d : Desk E
      d = k.desk

      f : Fits names d id v
      f = k.seats id v at

      g : Fits names d other w
      g = k.seats other w (was_there s.views id other both w apart there)

  -- what was told is compared with what was seen
  pub compares : (slots id : ℕ) (m : Me (Option T) V) → m.1 ≡ [] → length m.0.told ≤ length m.0.seen → Allows K slots id m 0 (λ n. n) (Compared history names (step slots 0 0 0 none) m)
  compares slots id m empty less s k _ at _ =
      let v = m.0 in
      let f = k.seats id v at in
      subst (λ (cs : List (ℕ × Option T)). (w : V) × (a : Act (Option T)) × Valid s.homes cs a × K (stepped s 0 (get_or s.words 0 0) id cs w a) × Compared history names (step slots 0 0 0 none) (v, cs) (get_or s.words 0 0) (w, carried_after cs a)) (sym empty)
      (v, keeps, tt, unmoved s k 0 id v at, (refl, prefix_both v.told v.seen k.desk.log f.told f.seen less, f.recalls))

  -- the table at the start
  pub opens : (value : T) → history value ≡ [] → K (opening (0 ∷ 0 ∷ []) (Some value ∷ []) first_view)
  opens value empty = record {
    desk = d;
    words = refl;
    room = refl;
    in_order = omega arith;
    fresh = λ n _. refl;
    slot = inl (value, refl, empty, refl);
    seats = first;
  }
    where
      d : Desk E
      d = record { log = []; drawn = 0; served = 0; next = 0; splits = 0; first = 0; holder = λ n. n; owner = λ n. n }

      first : EachFits names d (first_view ∷ [])
      first zero v e = subst (Fits names d 0) (some-injective _ _ e) record { seen = ([], refl); told = ([], refl); turn = tt; own = λ h. absurd (omega arith); recalls = λ h. absurd (omega arith); joined = tt; is_first = λ _. (refl, refl) }
      first (suc j) v e = absurd (some-ne-none v (sym e))

  -- the table at the end, where every other seat was joined
  pub closes : (id : ℕ) (v : V) (ws : List ℕ) (xs : List (Option T)) → v.room ≡ all_room → Final (Seen K id v) ws xs → (value : T) × (xs ≡ Some value ∷ []) × Continues names v (history value)
  closes id v ws xs all final = ⊎_elim home away k.slot
    where
      s : St
      s = final.0

      k : K s
      k = final.1.0

      at : get_elem? s.views id ≡ some v
      at = final.1.1

      home : IsHome history names k.desk s → (value : T) × (xs ≡ Some value ∷ []) × Continues names v (history value)
      home h = (h.0, single xs (Some h.0) (sym final.3 ∙ ap length h.1) (final.4 0 (Some h.0) (ap (λ l. get_elem? l 0) h.1)), knows s k id v (history h.0) h.2 at)

      away : IsOut history names k.desk s → (value : T) × (xs ≡ Some value ∷ []) × Continues names v (history value)
      away o = let a = sum_by-at (λ (u : V). u.room) s.views id v at in let b = k.room in let c = k.in_order in let e = o.1 in absurd (omega arith)

  -- after a join, the shorter of the two that were seen is compared with the longer
  pub compares_two : (slots id : ℕ) (m : Me (Option T) V) (xs ys : List E) → m.1 ≡ [] → m.0.told ≡ shorter_of xs ys → m.0.seen ≡ longer_of xs ys → Allows K slots id m 0 (λ n. n) (Compared history names (step slots 0 0 0 none) m)
  compares_two slots id m xs ys empty told seen = compares slots id m empty (subst (λ (p : List E × List E). length p.0 ≤ length p.1) (λ i. (sym told i, sym seen i)) (shorter_length xs ys))

  -- what the seat knows once its ticket was served
  pub entered : (m m1 m2 m3 : Me (Option T) V) (t ticket serving : ℕ) → m1 ≡ (waiting_view m.0 t, m.1) → m.1 ≡ [] → m2 ≡ m1 → ticket ≡ t % 2 ^ 64 → serving ≡ ticket → Looked history names (step 0 1 0 0 none) m2 serving m3
      → (value : T) × (m3 ≡ (inside_view (waiting_view m.0 t) t (history value), (0, Some value) ∷ [])) × Continues names m.0 (history value)
  entered m m1 m2 m3 t ticket serving drew empty stays mine hit look =
      let at : m2 ≡ (waiting_view m.0 t, []) = stays ∙ (drew ∙ ap (λ cs. (waiting_view m.0 t, cs)) empty) in
      let found = (subst (λ (x : Me (Option T) V). Looked history names (step 0 1 0 0 none) x serving m3) at look).0 (hit ∙ mine) in
      let c = found.2 in (found.0, found.1, record { seen = c.seen; own = c.own; joined = c.joined; others = c.others })

  pub entered_else : (m m1 m2 m3 : Me (Option T) V) (t ticket serving : ℕ) → m1 ≡ (waiting_view m.0 t, m.1) → m2 ≡ m1 → ticket ≡ t % 2 ^ 64 → serving ≢ ticket → Looked history names (step 0 1 0 0 none) m2 serving m3 → m3 ≡ m1
  entered_else m m1 m2 m3 t ticket serving drew stays mine miss look =
      look.1 (λ e. miss (e ∙ (ap (λ (x : Me (Option T) V). turn_ticket x.0.turn % 2 ^ 64) (stays ∙ drew) ∙ sym mine))) ∙ stays

  -- the value that was taken out
  pub taken_out : (cs : List (ℕ × Option T)) (x y : Option T) → cs ≡ (0, x) ∷ [] → cs ≡ (0, y) ∷ rest cs → y ≡ x
  taken_out cs x y a b = ap (λ (l : List (ℕ × Option T)). (get_or l 0 (0, x)).1) (sym b ∙ a)
