-- Nodes that are taken out of their places and put back.
use Rattle.std.proofs.Common.{◌≡◌, ◌≢◌, ◌==◌, ℕ, arith, ◌≤◌, Bool, true, false, List, Some, None, Option, is_some, Vec, Global, refl, ap, ◌∙◌, sym, subst, if◌then◌else◌, length}
use Rattle.std.specs.Prelude.{IfSome, IfOk, OnOk}
use Rattle.std.proofs.lemmas.Bool.{eqb-true, eq-eqb}
use Rattle.std.proofs.lemmas.Option.{same_Some}
use Rattle.std.proofs.Common.{Result, Ok, Err}
use Rattle.std.specs.declared.alloc.AllocError.{AllocError}
use Rattle.copy_job.specs.declared.copying.Part.{Part}
use Rattle.index_primary.specs.Primary.{IsPrimary}
use Rattle.index_primary.specs.Calls.{HoldsNoNew}
use Rattle.index_primary.specs.States.{is_out}
use Rattle.cluster_nodes.proofs.Stopping.{reads_alters}
use Rattle.disk_model.specs.Disk.{Name, Cells}
use Rattle.index_primary.specs.declared.parts.PrimaryParts.{PrimaryParts}
use Rattle.replica_node.specs.declared.parts.ReplicaParts.{ReplicaParts}
use Rattle.replica_node.specs.Jobs.{running_point}
use Rattle.cluster_nodes.specs.declared.held.HeldTicket.{HeldTicket}
use Rattle.cluster_nodes.specs.declared.nodes.Node.TheVariants.{Primary, Replica, Down}
use Rattle.cluster_nodes.specs.declared.nodes.NodePlace.{NodePlace}
use Rattle.cluster_nodes.specs.Outs.{want_of}
use Rattle.cluster_nodes.specs.Places.{place_of, IsSlot, HasPrimary}
use Rattle.cluster_nodes.specs.JobChanges.{HasReplica, AltersStates, BeginsAt, BeginsNot, FinishesAt, ReadsFor, StopsFor, TakesPart}
use Rattle.cluster_nodes.specs.JobPlaces.{StandThere, HoldsOfBoth, AreBoth, MovesOne, MovesBoth, MayStop, CanStop, AltersIn, StopsIn, BeginsIn, FinishesIn, ReadsIn, TakesIn}
use Rattle.cluster_nodes.specs.declared.went.Went.{Went}
use Rattle.cluster_nodes.specs.declared.went.Went.TheVariants.{Done, Failed}
use Rattle.cluster_nodes.specs.Went.{ByWent}

module _ {D : Type 0} where
  pub primary_some : (o : Option (NodePlace D)) → HasPrimary o → o ≢ None
  primary_some None has = λ none. has
  primary_some (Some place) has = λ none. absurd (cc)

  pub replica_some : (o : Option (NodePlace D)) → HasReplica o → o ≢ None
  replica_some None has = λ none. has
  replica_some (Some place) has = λ none. absurd (cc)

  pub primary_found : (o : Option (NodePlace D)) (place : NodePlace D) → o ≡ Some place → HasPrimary o → HasPrimary (Some place)
  primary_found o place is has = subst HasPrimary is has

  pub replica_found : (o : Option (NodePlace D)) (place : NodePlace D) → o ≡ Some place → HasReplica o → HasReplica (Some place)
  replica_found o place is has = subst HasReplica is has

  -- what stands in another place than the one that was taken
  pub other_still : (old mid : List (Option (NodePlace D))) (p n : ℕ) → (p == n) ≡ false → ((m : ℕ) → place_of mid m ≡ (if p == m then None else place_of old m)) → place_of mid n ≡ place_of old n
  other_still old mid p n apart taken = taken n ∙ ap (λ (b : Bool). if b then None else place_of old n) apart

  -- the two were taken out and put back
  pub moved_both : (old a b new : List (Option (NodePlace D))) (p n : ℕ) (x y : NodePlace D) → length a ≡ length old → ((m : ℕ) → place_of a m ≡ (if p == m then None else place_of old m))
      → length b ≡ length a → ((m : ℕ) → place_of b m ≡ (if n == m then None else place_of a m)) → length new ≡ length b
      → ((m : ℕ) → place_of new m ≡ (if n == m then Some y else if p == m then Some x else place_of b m)) → MovesBoth p n x y old new
  moved_both old a b new p n x y ca ta cb tb cn tn = record { count = cn ∙ (cb ∙ ca); there = λ m. tests m (n == m) (p == m) refl refl }
    where
      tests : (m : ℕ) (s t : Bool) → (n == m) ≡ s → (p == m) ≡ t → place_of new m ≡ (if n == m then Some y else if p == m then Some x else place_of old m)
      tests m true t here q = (tn m ∙ ap (λ (c : Bool). if c then Some y else if p == m then Some x else place_of b m) here) ∙ sym (ap (λ (c : Bool). if c then Some y else if p == m then Some x else place_of old m) here)
      tests m false true away here =
          (tn m ∙ (ap (λ (c : Bool). if c then Some y else if p == m then Some x else place_of b m) away ∙ ap (λ (c : Bool). if c then Some x else place_of b m) here))
          ∙ sym (ap (λ (c : Bool). if c then Some y else if p == m then Some x else place_of old m) away ∙ ap (λ (c : Bool). if c then Some x else place_of old m) here)
      tests m false false away far =
          (tn m ∙ (ap (λ (c : Bool). if c then Some y else if p == m then Some x else place_of b m) away ∙ (ap (λ (c : Bool). if c then Some x else place_of b m) far
          ∙ (tb m ∙ (ap (λ (c : Bool). if c then None else place_of a m) away ∙ (ta m ∙ ap (λ (c : Bool). if c then None else place_of old m) far))))))
          ∙ sym (ap (λ (c : Bool). if c then Some y else if p == m then Some x else place_of old m) away ∙ ap (λ (c : Bool). if c then Some x else place_of old m) far)

  pub moved_one : (old mid new : List (Option (NodePlace D))) (n : ℕ) (x : NodePlace D) → length mid ≡ length old → ((m : ℕ) → place_of mid m ≡ (if n == m then None else place_of old m))
      → length new ≡ length mid → ((m : ℕ) → place_of new m ≡ (if n == m then Some x else place_of mid m)) → MovesOne n x old new
  moved_one old mid new n x cm tm cn tn = record { count = cn ∙ cm; there = λ m. tests m (n == m) refl }
    where
      tests : (m : ℕ) (s : Bool) → (n == m) ≡ s → place_of new m ≡ (if n == m then Some x else place_of old m)
      tests m true here = (tn m ∙ ap (λ (c : Bool). if c then Some x else place_of mid m) here) ∙ sym (ap (λ (c : Bool). if c then Some x else place_of old m) here)
      tests m false away = (tn m ∙ (ap (λ (c : Bool). if c then Some x else place_of mid m) away ∙ (tm m ∙ ap (λ (c : Bool). if c then None else place_of old m) away))) ∙ sym (ap (λ (c : Bool). if c then Some x else place_of old m) away)

  -- the same of two puts
  pub put_twice : (old mid new : List (Option (NodePlace D))) (p n : ℕ) (x y : NodePlace D) → ((m : ℕ) → place_of mid m ≡ (if p == m then Some x else place_of old m)) → ((m : ℕ) → place_of new m ≡ (if n == m then Some y else place_of mid m))
      → (m : ℕ) → place_of new m ≡ (if n == m then Some y else if p == m then Some x else place_of old m)
  put_twice old mid new p n x y first second m = second m ∙ ap (λ (o : Option (NodePlace D)). if n == m then Some y else o) (first m)

  abbrev pub are_both : (old a : List (Option (NodePlace D))) (p n : ℕ) (q : PrimaryParts D) (r : ReplicaParts D) (hq hr : Vec HeldTicket Global) → StandThere p n old → ((m : ℕ) → place_of a m ≡ (if p == m then None else place_of old m))
      → place_of old p ≡ Some (record { node = Primary q; held = hq }) → place_of a n ≡ Some (record { node = Replica r; held = hr }) → AreBoth old p n
  are_both old a p n q r hq hr stand taken there_q there_r = record {
    primary = record { slot = stand.slot_primary; parts = q; held = hq; there = there_q };
    replica = record { slot = stand.slot_replica; parts = r; held = hr; there = sym (other_still old a p n stand.apart taken) ∙ there_r };
    apart = stand.apart;
  }

  -- what holds of the two that stand there
  pub may_of : (P : PrimaryParts D → ReplicaParts D → Type 0) (old a : List (Option (NodePlace D))) (p n : ℕ) (q : PrimaryParts D) (r : ReplicaParts D) (hq hr : Vec HeldTicket Global) → StandThere p n old
      → ((m : ℕ) → place_of a m ≡ (if p == m then None else place_of old m)) → place_of old p ≡ Some (record { node = Primary q; held = hq }) → place_of a n ≡ Some (record { node = Replica r; held = hr }) → HoldsOfBoth P p n old → P q r
  may_of P old a p n q r hq hr stand taken there_q there_r holds = holds q r hq hr there_q (sym (other_still old a p n stand.apart taken) ∙ there_r)

  -- the one of the two that alone is another
  pub one_primary : (old new : List (Option (NodePlace D))) (p n : ℕ) (x y : NodePlace D) → (p == n) ≡ false → MovesBoth p n x y old new → place_of old n ≡ Some y → MovesOne p x old new
  one_primary old new p n x y apart moves there = record { count = moves.count; there = λ m. tests m (n == m) refl }
    where
      tests : (m : ℕ) (b : Bool) → (n == m) ≡ b → place_of new m ≡ (if p == m then Some x else place_of old m)
      tests m true here =
          let same : n ≡ m = eqb-true n m here in
          moves.there m ∙ (ap (λ (c : Bool). if c then Some y else if p == m then Some x else place_of old m) here
          ∙ (sym there ∙ (ap (place_of old) same ∙ sym (ap (λ (c : Bool). if c then Some x else place_of old m) (ap (λ (k : ℕ). p == k) (sym same) ∙ apart)))))
      tests m false away = moves.there m ∙ ap (λ (c : Bool). if c then Some y else if p == m then Some x else place_of old m) away

  pub one_replica : (old new : List (Option (NodePlace D))) (p n : ℕ) (x y : NodePlace D) → MovesBoth p n x y old new → place_of old p ≡ Some x → MovesOne n y old new
  one_replica old new p n x y moves there = record { count = moves.count; there = λ m. moves.there m ∙ ap (λ (o : Option (NodePlace D)). if n == m then Some y else o) (tests m (p == m) refl) }
    where
      tests : (m : ℕ) (b : Bool) → (p == m) ≡ b → (if b then Some x else place_of old m) ≡ place_of old m
      tests m true here = sym there ∙ ap (place_of old) (eqb-true p m here)
      tests m false away = refl

  -- the two were taken out, changed and put back
  module _ (cells : D → Cells) (old a b new : List (Option (NodePlace D))) (p n : ℕ) (q q' : PrimaryParts D) (r r' : ReplicaParts D) (hq hr : Vec HeldTicket Global) (stand : StandThere p n old)
      (ca : length a ≡ length old) (ta : (m : ℕ) → place_of a m ≡ (if p == m then None else place_of old m)) (cb : length b ≡ length a) (tb : (m : ℕ) → place_of b m ≡ (if n == m then None else place_of a m)) (cn : length new ≡ length b)
      (tn : (m : ℕ) → place_of new m ≡ (if n == m then Some (record { node = Replica r'; held = hr }) else if p == m then Some (record { node = Primary q'; held = hq }) else place_of b m))
      (there_q : place_of old p ≡ Some (record { node = Primary q; held = hq })) (there_r : place_of a n ≡ Some (record { node = Replica r; held = hr })) where
    abbrev both_there : AreBoth old p n
    both_there = are_both old a p n q r hq hr stand ta there_q there_r

    both_moved : MovesBoth p n (record { node = Primary q'; held = hq }) (record { node = Replica r'; held = hr }) old new
    both_moved = moved_both old a b new p n (record { node = Primary q'; held = hq }) (record { node = Replica r'; held = hr }) ca ta cb tb cn tn

    -- the primary alone is another
    abbrev altered_alone : AltersStates cells q q' → q'.states ≡ q.states → r' ≡ r → AltersIn cells p old new
    altered_alone altered states same = record {
      at = both_there.primary;
      primary = q';
      moves = one_primary old new p n (record { node = Primary q'; held = hq }) (record { node = Replica r'; held = hr }) stand.apart both_moved
          (both_there.replica.there ∙ ap (λ (z : ReplicaParts D). Some (record { node = Replica z; held = hr })) (sym same));
      alters = altered;
      states = states;
    }

    stopped_at : (part : Option Part) → StopsFor cells part q q' r r' → StopsIn cells part p n old new
    stopped_at part stops = record { both = both_there; primary = q'; replica = r'; moves = both_moved; stops = stops }

    pub begun_in : (result : Result (Went ℕ) AllocError) → IfOk result (ByWent (λ number. BeginsAt cells number q q' r r') (BeginsNot cells q q' r r')) → IfOk result (ByWent (λ number. BeginsIn cells p n number old new) (AltersIn cells p old new))
    begun_in (Ok (Done number)) begins = record { both = both_there; primary = q'; replica = r'; moves = both_moved; begins = begins }
    begun_in (Ok Failed) not = altered_alone not.primary not.states not.replica
    begun_in (Err fault) none = tt

    pub stopped_in : (result : Result Unit AllocError) → OnOk result (StopsFor cells None q q' r r') → OnOk result (StopsIn cells None p n old new)
    stopped_in (Ok x) stops = stopped_at None stops
    stopped_in (Err fault) none = tt

    pub finished_in : (result : Result (Went Unit) AllocError) → IfOk result (ByWent (λ done. IfSome (running_point r.job) (λ j. FinishesAt cells j q q' r r')) (StopsFor cells None q q' r r'))
        → IfOk result (ByWent (λ done. FinishesIn cells p n old new) (StopsIn cells None p n old new))
    finished_in (Ok (Done x)) finishes = record { both = both_there; primary = q'; replica = r'; moves = both_moved; finishes = finishes }
    finished_in (Ok Failed) stops = stopped_at None stops
    finished_in (Err fault) none = tt

    pub read_in : (name : Name) (result : Result (Went (List ℕ)) AllocError) → IfOk result (ByWent (λ bytes. ReadsFor cells name bytes q q' r r') (StopsFor cells None q q' r r'))
        → IfOk result (ByWent (λ bytes. ReadsIn cells p name bytes old new) (StopsIn cells None p n old new))
    read_in name (Ok (Done bytes)) reads =
        let alone = altered_alone reads.primary reads.states reads.replica in
        record { at = alone.at; primary = alone.primary; moves = alone.moves; alters = alone.alters; states = alone.states; there = reads.there }
    read_in name (Ok Failed) stops = stopped_at None stops
    read_in name (Err fault) none = tt

  -- ---- a replica was taken out, changed and put back

  abbrev parts_of : ReplicaParts D → NodePlace D → ReplicaParts D
  parts_of r place = elim place.node [ Primary q ↦ r | Replica s ↦ s | Down d ↦ r ]

  -- one replica alone stands in a place
  same_there : (places : List (Option (NodePlace D))) (n : ℕ) (r s : ReplicaParts D) (h k : Vec HeldTicket Global) → place_of places n ≡ Some (record { node = Replica r; held = h }) → place_of places n ≡ Some (record { node = Replica s; held = k })
      → (s ≡ r) × (k ≡ h)
  same_there places n r s h k first second =
      let x : NodePlace D = record { node = Replica r; held = h } in
      let y : NodePlace D = record { node = Replica s; held = k } in
      let same : y ≡ x = same_Some y x (sym second ∙ first) in
      (ap (parts_of r) same, ap (λ (z : NodePlace D). z.held) same)

  module _ (cells : D → Cells) (old mid back : List (Option (NodePlace D))) (n : ℕ) (r s : ReplicaParts D) (held : Vec HeldTicket Global) (slot : IsSlot old n)
      (cm : length mid ≡ length old) (tm : (m : ℕ) → place_of mid m ≡ (if n == m then None else place_of old m)) (cn : length back ≡ length mid)
      (tn : (m : ℕ) → place_of back m ≡ (if n == m then Some (record { node = Replica s; held = held }) else place_of mid m)) (there : place_of old n ≡ Some (record { node = Replica r; held = held })) where
    abbrev put_back : MovesOne n (record { node = Replica s; held = held }) old back
    put_back = moved_one old mid back n (record { node = Replica s; held = held }) cm tm cn tn

    -- it took a part, or did not lack it
    pub took_there : (part : Part) → TakesPart cells part r s → TakesIn cells n part old back
    took_there part takes = record { at = record { slot = slot; parts = r; held = held; there = there }; replica = s; moves = put_back; takes = takes }

    there_now : place_of back n ≡ Some (record { node = Replica s; held = held })
    there_now = put_back.there n ∙ ap (λ (b : Bool). if b then Some (record { node = Replica s; held = held }) else place_of old n) (eq-eqb n n refl)

    module _ (p : ℕ) (stand : StandThere p n old) where
      primary_still : place_of back p ≡ place_of old p
      primary_still =
          let apart = stand.apart in
          let turned : (n == p) ≡ false = grind arith in
          put_back.there p ∙ ap (λ (b : Bool). if b then Some (record { node = Replica s; held = held }) else place_of old p) turned

      -- its job can be stopped then
      pub may_stop_back : s ≡ record r { dir = s.dir; files = s.files } → HoldsOfBoth MayStop p n old → CanStop p n back
      may_stop_back left may = record {
        stand = record {
          slot_primary = (stand.slot_primary.0, subst (λ (k : ℕ). p ≤ k) (sym put_back.count) stand.slot_primary.1);
          slot_replica = (slot.0, subst (λ (k : ℕ). n ≤ k) (sym put_back.count) slot.1);
          apart = stand.apart;
          primary = subst HasPrimary (sym primary_still) stand.primary;
          replica = subst HasReplica (sym there_now) tt;
        };
        may = λ q t hq ht there_q there_t.
            let was : MayStop q r = may q r hq held (sym primary_still ∙ there_q) there in
            subst (MayStop q) (sym (same_there back n s t held ht there_now there_t).0) (record {
              some = ap (λ (x : ReplicaParts D). is_some (running_point x.job)) left ∙ was.some;
              out = subst (λ (x : ReplicaParts D). IfSome (want_of x.job) (λ o. is_out o q.states ≡ true)) (sym left) was.out;
            });
      }

      -- and it was, as a part was not written
      pub stopped_there : (part : Part) (new : List (Option (NodePlace D))) → ((q q' : PrimaryParts D) (t : ReplicaParts D) → StopsFor cells None q q' s t → StopsFor cells (Some part) q q' r t) → StopsIn cells None p n back new → StopsIn cells (Some part) p n old new
      stopped_there part new writing b = record {
        both = record {
          primary = record { slot = stand.slot_primary; parts = b.both.primary.parts; held = b.both.primary.held; there = sym primary_still ∙ b.both.primary.there };
          replica = record { slot = slot; parts = r; held = held; there = there };
          apart = stand.apart;
        };
        primary = b.primary;
        replica = b.replica;
        moves = record { count = b.moves.count ∙ put_back.count; there = λ m. b.moves.there m ∙ still m (n == m) refl };
        stops = writing b.both.primary.parts b.primary b.replica (subst (λ (z : ReplicaParts D). StopsFor cells None b.both.primary.parts b.primary z b.replica) same.0 b.stops);
      }
        where
          same : (b.both.replica.parts ≡ s) × (b.both.replica.held ≡ held)
          same = same_there back n s b.both.replica.parts held b.both.replica.held there_now b.both.replica.there

          x : NodePlace D
          x = record { node = Primary b.primary; held = b.both.primary.held }

          y : Vec HeldTicket Global → NodePlace D
          y h = record { node = Replica b.replica; held = h }

          still : (m : ℕ) (t : Bool) → (n == m) ≡ t → (if n == m then Some (y b.both.replica.held) else if p == m then Some x else place_of back m) ≡ (if n == m then Some (y held) else if p == m then Some x else place_of old m)
          still m true here =
              ap (λ (c : Bool). if c then Some (y b.both.replica.held) else if p == m then Some x else place_of back m) here
              ∙ (ap (λ (h : Vec HeldTicket Global). Some (y h)) same.1 ∙ sym (ap (λ (c : Bool). if c then Some (y held) else if p == m then Some x else place_of old m) here))
          still m false away =
              ap (λ (c : Bool). if c then Some (y b.both.replica.held) else if p == m then Some x else place_of back m) away
              ∙ (ap (λ (o : Option (NodePlace D)). if p == m then Some x else o) (put_back.there m ∙ ap (λ (c : Bool). if c then Some (record { node = Replica s; held = held }) else place_of old m) away)
              ∙ sym (ap (λ (c : Bool). if c then Some (y held) else if p == m then Some x else place_of old m) away))

  pub read_at : (cells : D → Cells) (bytes : List ℕ) (name : Name) (old mid new : List (Option (NodePlace D))) (p : ℕ) (q q' : PrimaryParts D) (held : Vec HeldTicket Global) → IsSlot old p
      → length mid ≡ length old → ((m : ℕ) → place_of mid m ≡ (if p == m then None else place_of old m)) → length new ≡ length mid → ((m : ℕ) → place_of new m ≡ (if p == m then Some (record { node = Primary q'; held = held }) else place_of mid m))
      → place_of old p ≡ Some (record { node = Primary q; held = held }) → (cells q.dir name).now ≡ Some bytes → cells q'.dir ≡ cells q.dir → q' ≡ record q { dir = q'.dir } → HoldsNoNew q q' → IsPrimary cells q' → ReadsIn cells p name bytes old new
  read_at cells bytes name old mid new p q q' held slot cm tm cn tn there reads same is no_new whole = record {
    at = record { slot = slot; parts = q; held = held; there = there };
    primary = q';
    moves = moved_one old mid new p (record { node = Primary q'; held = held }) cm tm cn tn;
    alters = reads_alters cells q q' same is no_new whole;
    states = ap (λ (x : PrimaryParts D). x.states) is;
    there = reads;
  }

  -- the primary's disk failed
  pub unread_at : (cells : D → Cells) (old mid new : List (Option (NodePlace D))) (p : ℕ) (q q' : PrimaryParts D) (held : Vec HeldTicket Global) → IsSlot old p
      → length mid ≡ length old → ((m : ℕ) → place_of mid m ≡ (if p == m then None else place_of old m)) → length new ≡ length mid → ((m : ℕ) → place_of new m ≡ (if p == m then Some (record { node = Primary q'; held = held }) else place_of mid m))
      → place_of old p ≡ Some (record { node = Primary q; held = held }) → cells q'.dir ≡ cells q.dir → q' ≡ record q { dir = q'.dir } → HoldsNoNew q q' → IsPrimary cells q' → AltersIn cells p old new
  unread_at cells old mid new p q q' held slot cm tm cn tn there same is no_new whole = record {
    at = record { slot = slot; parts = q; held = held; there = there };
    primary = q';
    moves = moved_one old mid new p (record { node = Primary q'; held = held }) cm tm cn tn;
    alters = reads_alters cells q q' same is no_new whole;
    states = ap (λ (x : PrimaryParts D). x.states) is;
  }
