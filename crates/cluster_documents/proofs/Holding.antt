-- What a node shows after a ticket of it was opened or closed.
use Rattle.std.proofs.Common.{◌≡◌, ◌≢◌, ◌==◌, ◌⊎◌, ⊎_elim, ℕ, Bool, true, false, true≢false, List, [], ◌∷◌, ◌++◌, Some, None, Option, refl, ap, ◌∙◌, sym, subst, arith, if◌then◌else◌}
use Rattle.std.specs.Prelude.{IsSomeAnd, is_some}
use Rattle.std.proofs.lemmas.Bool.{eqb-true}
use Rattle.std.proofs.lemmas.Bool.Decides.{nat_tests}
use Rattle.nrt_base.specs.declared.numbers.At.{At}
use Rattle.disk_model.specs.Disk.{Cells}
use Rattle.seg_reader.specs.Shown.{Shown}
use Rattle.segment_infos.specs.declared.infos.Infos.{Infos}
use Rattle.searcher_switch.specs.declared.open.Open.{Open}
use Rattle.searcher_switch.specs.declared.open.SearchPoint.{SearchPoint}
use Rattle.searcher_switch.specs.Tickets.{ticket_at, tickets_without}
use Rattle.history_rules.specs.Nodes.{Past, version_of}
use Rattle.history_rules.specs.Lines.{publish_in_flight}
use Rattle.history_rules.specs.Tickets.{open_ticket, IsTicketOf}
use Rattle.history_tables.proofs.RowLemmas.{by_test}
use Rattle.history_book.specs.Log.{Log, printed}
use Rattle.index_primary.specs.declared.parts.PrimaryParts.{PrimaryParts}
use Rattle.index_primary.specs.declared.parts.Publish.{Publish}
use Rattle.replica_node.specs.declared.parts.ReplicaParts.{ReplicaParts}
use Rattle.cluster_nodes.specs.declared.held.HeldTicket.{HeldTicket}
use Rattle.cluster_nodes.specs.declared.held.HeldKey.{HeldKey}
use Rattle.cluster_nodes.specs.declared.held.HeldKey.TheVariants.{Search}
use Rattle.cluster_nodes.specs.declared.nodes.Node.{Node}
use Rattle.cluster_nodes.specs.declared.nodes.Node.TheVariants.{Primary, Replica, Down}
use Rattle.cluster_nodes.specs.Held.{same_key, held_number}
use Rattle.cluster_state.specs.Lookups.{IsSearching}
use Rattle.cluster_state.specs.TicketsOut.{is_ticket_out}
use Rattle.cluster_state.specs.State.{StandForVersion, IsPointAt, IsOpenOn, HoldsAt, ticket_key, HoldsTickets, FlightShows, WritesAt, PrimaryShows, ReplicaShows, NodeShows}
use Rattle.cluster_nodes.specs.Changes.{KeepsNode}
use Rattle.cluster_nodes.proofs.Keys.{same_key_is}
use Rattle.cluster_state.proofs.Frames.{some_then}

-- ---- open tickets by their numbers

ticket_more : (P : Open Shown → Type 0) (number : ℕ) (ts us : List (Open Shown)) → IsSomeAnd (ticket_at number ts) P → IsSomeAnd (ticket_at number (ts ++ us)) P
ticket_more P number [] us is = absurd is
ticket_more P number (t ∷ ts) us is = go (t.number == number) (ticket_more P number ts us) is
  where
    go : (b : Bool) → (IsSomeAnd (ticket_at number ts) P → IsSomeAnd (ticket_at number (ts ++ us)) P)
        → IsSomeAnd (if b then Some t else ticket_at number ts) P → IsSomeAnd (if b then Some t else ticket_at number (ts ++ us)) P
    go true rest here = here
    go false rest there = rest there

pub ticket_last : (P : Open Shown → Type 0) (number : ℕ) (ts : List (Open Shown)) (o : Open Shown) → is_some (ticket_at number ts) ≡ false → o.number ≡ number → P o
    → IsSomeAnd (ticket_at number (ts ++ o ∷ [])) P
ticket_last P number [] o fresh same holds =
    let here : (o.number == number) ≡ true = grind (arith, nat_tests) in
    subst (λ (b : Bool). IsSomeAnd (if b then Some o else None) P) (sym here) holds
ticket_last P number (t ∷ ts) o fresh same holds = go (t.number == number) (λ none. ticket_last P number ts o none same holds) fresh
  where
    go : (b : Bool) → (is_some (ticket_at number ts) ≡ false → IsSomeAnd (ticket_at number (ts ++ o ∷ [])) P)
        → is_some (if b then Some t else ticket_at number ts) ≡ false → IsSomeAnd (if b then Some t else ticket_at number (ts ++ o ∷ [])) P
    go true rest got = absurd (true≢false got)
    go false rest got = rest got

not_fresh : (P : Open Shown → Type 0) (x : Option (Open Shown)) → IsSomeAnd x P → is_some x ≡ false → ⊥
not_fresh P None is fresh = is
not_fresh P (Some o) is fresh = true≢false fresh

pub ticket_left : (P : Open Shown → Type 0) (number gone : ℕ) (ts : List (Open Shown)) → number ≢ gone → IsSomeAnd (ticket_at number ts) P → IsSomeAnd (ticket_at number (tickets_without gone ts)) P
ticket_left P number gone [] apart is = is
ticket_left P number gone (t ∷ ts) apart is =
    by_test (t.number == gone) (λ b. IsSomeAnd (ticket_at number (if b then ts else t ∷ tickets_without gone ts)) P)
    (λ here. subst (λ (b : Bool). IsSomeAnd (if b then Some t else ticket_at number ts) P) (not_here here) is)
    (λ there. go (t.number == number) (ticket_left P number gone ts apart) is)
  where
    not_here : (t.number == gone) ≡ true → (t.number == number) ≡ false
    not_here here = let same : t.number ≡ gone = eqb-true t.number gone here in grind (arith, nat_tests)

    go : (b : Bool) → (IsSomeAnd (ticket_at number ts) P → IsSomeAnd (ticket_at number (tickets_without gone ts)) P)
        → IsSomeAnd (if b then Some t else ticket_at number ts) P → IsSomeAnd (if b then Some t else ticket_at number (tickets_without gone ts)) P
    go true rest here = here
    go false rest there = rest there

-- ---- one more

-- what is shown of a key afterwards: it is the new one, at the point's version, or it was shown before
abbrev pub IsNewOr : Bool → ℕ → ℕ → Type 0 → Type 0
IsNewOr same v w before = ((same ≡ true) × (w ≡ v)) ⊎ ((same ≡ false) × before)

module _ (past now : Past) (n number v : ℕ) (key : HeldKey) (point : SearchPoint Shown) (tickets after : List (Open Shown)) (held rows : List HeldTicket)
    (fresh : is_some (ticket_at number tickets) ≡ false) (more : after ≡ tickets ++ record { number = number; point = point } ∷ [])
    (holds : (k : HeldKey) → held_number rows k ≡ (if same_key key k then Some number else held_number held k)) where
  new_there : (P : Open Shown → Type 0) → P (record { number = number; point = point }) → IsSomeAnd (ticket_at number after) P
  new_there P is = subst (λ (ts : List (Open Shown)). IsSomeAnd (ticket_at number ts) P) (sym more) (ticket_last P number tickets (record { number = number; point = point }) fresh refl is)

  old_there : (P : Open Shown → Type 0) (k : ℕ) → IsSomeAnd (ticket_at k tickets) P → IsSomeAnd (ticket_at k after) P
  old_there P k is = subst (λ (ts : List (Open Shown)). IsSomeAnd (ticket_at k ts) P) (sym more) (ticket_more P k tickets (record { number = number; point = point } ∷ []) is)

  row_new : (k : HeldKey) → same_key key k ≡ true → held_number rows k ≡ Some number
  row_new k same = holds k ∙ ap (λ (b : Bool). if b then Some number else held_number held k) same

  row_old : (k : HeldKey) → same_key key k ≡ false → held_number rows k ≡ held_number held k
  row_old k apart = holds k ∙ ap (λ (b : Bool). if b then Some number else held_number held k) apart

  held_new : (k : HeldKey) (w : ℕ) → point.version.0 ≡ v → same_key key k ≡ true → w ≡ v → HoldsAt after rows k w
  held_new k w version same is =
      subst (λ (o : Option ℕ). IsSomeAnd o (λ m. IsSomeAnd (ticket_at m after) (λ t. t.point.version.0 ≡ w))) (sym (row_new k same)) (new_there (λ t. t.point.version.0 ≡ w) (version ∙ sym is))

  held_old : (k : HeldKey) (w : ℕ) → same_key key k ≡ false → HoldsAt tickets held k w → HoldsAt after rows k w
  held_old k w apart was =
      subst (λ (o : Option ℕ). IsSomeAnd o (λ m. IsSomeAnd (ticket_at m after) (λ t. t.point.version.0 ≡ w))) (sym (row_old k apart)) (some_then (held_number held k) was (λ m is. old_there (λ t. t.point.version.0 ≡ w) m is))

  each_more : ((w : ℕ) (segs : List Shown) → StandForVersion past w segs → StandForVersion now w segs) → IsPointAt now v point → HoldsTickets past n tickets held
      → (k : HeldKey) (m : ℕ) → held_number rows k ≡ Some m → IsOpenOn now after m
  each_more stands at was k m is =
      by_test (same_key key k) (λ b. same_key key k ≡ b → IsOpenOn now after m)
      (λ same q. let here : Some number ≡ Some m = sym (row_new k same) ∙ is in let eq : number ≡ m = cc in
      subst (λ (j : ℕ). IsOpenOn now after j) eq (new_there (λ o. StandForVersion now o.point.version.0 o.point.readers) (subst (λ (w : ℕ). StandForVersion now w point.readers) (sym at.version) at.stands)))
      (λ apart q. old_there (λ o. StandForVersion now o.point.version.0 o.point.readers) m (some_then (ticket_at m tickets) (was.each k m (sym (row_old k apart) ∙ is)) (λ o s. stands o.point.version.0 o.point.readers s)))
      refl

  apart_more : HoldsTickets past n tickets held → (a b : HeldKey) (m : ℕ) → held_number rows a ≡ Some m → held_number rows b ≡ Some m → same_key a b ≡ true
  apart_more was a b m is is' =
      by_test (same_key key a) (λ t. same_key key a ≡ t → same_key a b ≡ true)
      (λ sa q. by_test (same_key key b) (λ t. same_key key b ≡ t → same_key a b ≡ true)
      (λ sb r. subst (λ (k : HeldKey). same_key k b ≡ true) (same_key_is key a sa) sb)
      (λ ob r. absurd (other a b m is is' sa ob)) refl)
      (λ oa q. by_test (same_key key b) (λ t. same_key key b ≡ t → same_key a b ≡ true)
      (λ sb r. absurd (other b a m is' is sb oa))
      (λ ob r. was.apart a b m (sym (row_old a oa) ∙ is) (sym (row_old b ob) ∙ is')) refl)
      refl
    where
      other : (k l : HeldKey) (m : ℕ) → held_number rows k ≡ Some m → held_number rows l ≡ Some m → same_key key k ≡ true → same_key key l ≡ false → ⊥
      other k l m ik il sk ol =
          let here : Some number ≡ Some m = sym (row_new k sk) ∙ ik in let eq : number ≡ m = cc in
          not_fresh (λ o. StandForVersion past o.point.version.0 o.point.readers) (ticket_at m tickets) (was.each l m (sym (row_old l ol) ∙ il)) (subst (λ (j : ℕ). is_some (ticket_at j tickets) ≡ false) eq fresh)

  -- the new one is out, and so are the others still
  out_more : ((k : HeldKey) → same_key key k ≡ true → is_ticket_out n k now ≡ true) → ((k : HeldKey) → is_ticket_out n k past ≡ true → is_ticket_out n k now ≡ true) → HoldsTickets past n tickets held
      → (k : HeldKey) (m : ℕ) → held_number rows k ≡ Some m → is_ticket_out n k now ≡ true
  out_more mine others was k m is =
      by_test (same_key key k) (λ b. same_key key k ≡ b → is_ticket_out n k now ≡ true)
      (λ same q. mine k same) (λ apart q. others k (was.out k m (sym (row_old k apart) ∙ is))) refl

  pub holds_more : ((w : ℕ) (segs : List Shown) → StandForVersion past w segs → StandForVersion now w segs) → IsPointAt now v point
      → ((k : HeldKey) → same_key key k ≡ true → is_ticket_out n k now ≡ true) → ((k : HeldKey) → is_ticket_out n k past ≡ true → is_ticket_out n k now ≡ true)
      → ((lane t w : ℕ) → IsTicketOf n w (open_ticket lane t now) → IsNewOr (same_key key (ticket_key lane t)) v w (IsTicketOf n w (open_ticket lane t past)))
      → ((a : At) (w : ℕ) → IsSearching now a n w → IsNewOr (same_key key (Search a)) v w (IsSearching past a n w))
      → HoldsTickets past n tickets held → HoldsTickets now n after rows
  holds_more stands at mine others opened searched was = record {
    each = each_more stands at was;
    out = out_more mine others was;
    apart = apart_more was;
    opened = λ lane t w is. ⊎_elim (λ new. held_new (ticket_key lane t) w at.version new.0 new.1) (λ old. held_old (ticket_key lane t) w old.0 (was.opened lane t w old.1)) (opened lane t w is);
    searched = λ a w is. ⊎_elim (λ new. held_new (Search a) w at.version new.0 new.1) (λ old. held_old (Search a) w old.0 (was.searched a w old.1)) (searched a w is);
  }

-- ---- the node itself

module _ {D : Type 0} (cells : D → Cells) where
  primary_kept : (log : Log) (n : ℕ) (p q : PrimaryParts D) → KeepsNode cells (Primary p) (Primary q) → PrimaryShows cells log n p → PrimaryShows cells log n q
  primary_kept log n p q k was = record {
    running = was.running;
    primary = was.primary;
    whole = k.2 was.whole;
    point = subst (λ (o : SearchPoint Shown). IsPointAt (printed log) (version_of n (printed log)) o) (sym k.1) was.point;
    writer = subst (λ (x : Infos × List Shown). WritesAt (printed log) x.0 x.1) (λ i. (sym (ap (λ (z : PrimaryParts D). z.infos) k.0) i, sym (ap (λ (z : PrimaryParts D). z.segs) k.0) i)) was.writer;
    waiting = ap (λ (z : PrimaryParts D). z.waiting) k.0 ∙ was.waiting;
    accepted = ap (λ (z : PrimaryParts D). z.accepted) k.0 ∙ was.accepted;
    uncut = λ none. ap (λ (z : PrimaryParts D). z.has_cut_over) k.0 ∙ was.uncut none;
    calm = λ none. ap (λ (z : PrimaryParts D). z.merges) k.0 ∙ was.calm none;
    flight = subst (λ (x : Option Publish × List Shown). FlightShows log (publish_in_flight (printed log)) x.0 x.1)
        (λ i. (sym (ap (λ (z : PrimaryParts D). z.publish) k.0) i, sym (ap (λ (z : PrimaryParts D). z.segs) k.0) i)) was.flight;
  }

  replica_kept : (past : Past) (n : ℕ) (p q : ReplicaParts D) → KeepsNode cells (Replica p) (Replica q) → ReplicaShows cells past n p → ReplicaShows cells past n q
  replica_kept past n p q k was = record {
    running = was.running;
    other = was.other;
    whole = k.2 was.whole;
    standing = k.3 was.standing;
    point = subst (λ (o : SearchPoint Shown). IsPointAt past (version_of n past) o) (sym k.1) was.point;
    seen = omega (arith, was.seen, ap (λ (z : ReplicaParts D). z.seen.0) k.0);
  }

  pub node_kept : (log : Log) (n : ℕ) (x y : Node D) → KeepsNode cells x y → NodeShows cells log n x → NodeShows cells log n y
  node_kept log n (Primary p) (Primary q) k was = primary_kept log n p q k was
  node_kept log n (Replica p) (Replica q) k was = replica_kept (printed log) n p q k was
  node_kept log n (Down d) (Down e) k was = record { down = was.down; other = was.other }
  node_kept log n (Primary p) (Replica q) k was = absurd k
  node_kept log n (Primary p) (Down q) k was = absurd k
  node_kept log n (Replica p) (Primary q) k was = absurd k
  node_kept log n (Replica p) (Down q) k was = absurd k
  node_kept log n (Down p) (Primary q) k was = absurd k
  node_kept log n (Down p) (Replica q) k was = absurd k
