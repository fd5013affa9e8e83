-- Copies of merged segments that end one after the other, at one node after the other.
use Rattle.std.proofs.Common.{inl, inr, ◌≡◌, ◌≤◌, ◌<◌, ◌+◌, ◌==◌, ◌&&◌, ◌||◌, ℕ, zero, suc, Bool, true, false, true≢false, nat_le, List, [], ◌∷◌, Some, None, Option, is_some, length, drop, get_or, refl, ap, ◌∙◌, sym, subst, arith}
use Rattle.std.specs.Prelude.{◌⊎◌, IsSomeAnd}
use Rattle.std.specs.Option.{option_map}
use Rattle.std.proofs.lemmas.Bool.{eqb-true}
use Rattle.std.proofs.lemmas.Bool.Decides.{nat_tests}
use Rattle.disk_model.specs.Disk.{Cells}
use Rattle.copy_job.specs.Jobs.{Job}
use Rattle.replica_node.specs.declared.parts.ReplicaParts.{ReplicaParts}
use Rattle.replica_node.specs.declared.merges.MergeCopies.{MergeCopies}
use Rattle.replica_node.specs.Merges.{copy_at, copies_without}
use Rattle.replica_node.specs.Replica.{IsWholeReplica}
use Rattle.merge_tasks.specs.declared.tasks.OpenMerge.{OpenMerge}
use Rattle.merge_tasks.specs.declared.tasks.Sent.{Sent}
use Rattle.merge_tasks.specs.declared.tasks.Spread.{Spread}
use Rattle.merge_tasks.specs.Board.{is_sent_in, is_sent_to}
use Rattle.cluster_nodes.specs.declared.nodes.NodePlace.{NodePlace}
use Rattle.cluster_nodes.specs.Places.{place_of}
use Rattle.node_merges.specs.MergeChanges.{DropsMerged}
use Rattle.cluster_state.specs.Merging.{RunsNoOther}
use Rattle.cluster_state.proofs.MergingPaths.{at_without, gone_without}
use Rattle.cluster_recovery.specs.Falls.{are_sent, LosesCopies, EndsSent, EndsSpread, EndsCopies, PlaceLoses, AllLose}

-- ---- one copy

none_is : (o : Option Job) → is_some o ≡ false → o ≡ None
none_is None none = refl
none_is (Some c) none = absurd (true≢false none)

runs_then : (a b c : List Job) → RunsNoOther a b → RunsNoOther b c → RunsNoOther a c
runs_then a b c first second k d at = by (copy_at k b) refl (second k d at)
  where
    more : (e : Job) → d.want ≡ e.want → (o : Option Job) → IsSomeAnd o (λ f. e.want ≡ f.want) → IsSomeAnd o (λ f. d.want ≡ f.want)
    more e same None none = none
    more e same (Some f) is = same ∙ is

    by : (o : Option Job) → copy_at k b ≡ o → IsSomeAnd o (λ e. d.want ≡ e.want) → IsSomeAnd (copy_at k a) (λ e. d.want ≡ e.want)
    by None e none = absurd none
    by (Some x) e is = more x is (copy_at k a) (first k x e)

-- what did not run does not run
none_runs : (a b : List Job) (k : ℕ) → RunsNoOther a b → copy_at k a ≡ None → copy_at k b ≡ None
none_runs a b k runs none = by (copy_at k b) refl
  where
    by : (o : Option Job) → copy_at k b ≡ o → copy_at k b ≡ None
    by None e = e
    by (Some c) e = absurd (subst (λ (o : Option Job). IsSomeAnd o (λ d. c.want ≡ d.want)) none (runs k c e))

module _ {D : Type 0} (cells : D → Cells) where
  loses_none : (r : ReplicaParts D) → IsWholeReplica cells r → LosesCopies cells r r
  loses_none r whole = record {
    others = refl;
    runs = λ k c at. subst (λ (o : Option Job). IsSomeAnd o (λ d. c.want ≡ d.want)) (sym at) refl;
    whole = whole;
    standing = λ w. w;
    sourced = λ source was. was;
    appears = record { each = λ q none. none };
  }

  loses_then : (r s t : ReplicaParts D) → LosesCopies cells r s → LosesCopies cells s t → LosesCopies cells r t
  loses_then r s t a b = record {
    others = b.others ∙ ap (λ (x : ReplicaParts D). record x { dir = t.dir; files = t.files; copies = t.copies }) a.others;
    runs = runs_then r.copies.running s.copies.running t.copies.running a.runs b.runs;
    whole = b.whole;
    standing = λ w. b.standing (a.standing w);
    sourced = λ source was. b.sourced source (a.sourced source was);
    appears = record { each = λ q none. b.appears.each q (a.appears.each q none) };
  }

  running_now : (number : ℕ) (r s : ReplicaParts D) → DropsMerged cells number r s → s.copies.running ≡ copies_without number r.copies.running
  running_now number r s drops = ap (λ (c : MergeCopies). c.running) drops.copies

  loses_one : (number : ℕ) (r s : ReplicaParts D) → IsWholeReplica cells r → DropsMerged cells number r s → LosesCopies cells r s
  loses_one number r s whole drops = record {
    others = drops.others;
    runs = λ k c at. subst (λ (o : Option Job). IsSomeAnd o (λ d. c.want ≡ d.want))
        (sym (at_without number r.copies.running k c whole.merges.apart (sym (ap (copy_at k) (running_now number r s drops)) ∙ at))) refl;
    whole = drops.whole;
    standing = drops.standing;
    sourced = drops.sourced;
    appears = drops.appears;
  }

  -- ---- copies that one merge sent

  -- the first of these copies have ended
  pub record SentEnd (n : ℕ) (left : List Sent) (i : ℕ) (old new : ReplicaParts D) : Type 0 where
    pub loses : LosesCopies cells old new
    pub gone : (k : ℕ) → is_sent_in n k left ≡ true → (is_sent_in n k (drop i left) ≡ true) ⊎ (copy_at k new.copies.running ≡ None)

  pub none_sent : (n : ℕ) (left : List Sent) (r : ReplicaParts D) → IsWholeReplica cells r → SentEnd n left 0 r r
  none_sent n left r whole = record { loses = loses_none r whole; gone = λ k sent. inl sent }

  is_next : (n k : ℕ) (left : List Sent) (i : ℕ) (x d : Sent) → i < length left → x ≡ get_or left i d → is_sent_in n k (drop i left) ≡ true → (((x.node.0 == n) && (x.job == k)) ≡ true) ⊎ (is_sent_in n k (drop (i + 1) left) ≡ true)
  is_next n k left i x d within is sent = subst (λ (j : ℕ). (((x.node.0 == n) && (x.job == k)) ≡ true) ⊎ (is_sent_in n k (drop j left) ≡ true)) (let e : suc i ≡ i + 1 = omega arith in e) (by left i within is sent)
    where
      tests : (b : Bool) (rest : List Sent) → (b || is_sent_in n k rest) ≡ true → (b ≡ true) ⊎ (is_sent_in n k rest ≡ true)
      tests true rest e = inl refl
      tests false rest e = inr e

      by : (xs : List Sent) (j : ℕ) → j < length xs → x ≡ get_or xs j d → is_sent_in n k (drop j xs) ≡ true → (((x.node.0 == n) && (x.job == k)) ≡ true) ⊎ (is_sent_in n k (drop (suc j) xs) ≡ true)
      by [] j lt is sent = absurd (omega (arith, lt))
      by (y ∷ ys) zero lt is sent = subst (λ (z : Sent). (((z.node.0 == n) && (z.job == k)) ≡ true) ⊎ (is_sent_in n k ys ≡ true)) (sym is) (tests ((y.node.0 == n) && (y.job == k)) ys sent)
      by (y ∷ ys) (suc j) lt is sent = by ys j (omega (arith, lt)) is sent

  -- the next one has ended
  pub sent_next : (n : ℕ) (left : List Sent) (i : ℕ) (x d : Sent) (old mid new : ReplicaParts D) → i < length left → x ≡ get_or left i d → SentEnd n left i old mid → EndsSent cells n x mid new → SentEnd n left (i + 1) old new
  sent_next n left i x d old mid new within is was one = record { loses = loses_then old mid new was.loses one.loses; gone = λ k sent. after k (was.gone k sent) }
    where
      ended : (k : ℕ) → ((x.node.0 == n) && (x.job == k)) ≡ true → copy_at k new.copies.running ≡ None
      ended k same = tests (x.node.0 == n) (x.job == k) refl refl same
        where
          tests : (b t : Bool) → (x.node.0 == n) ≡ b → (x.job == k) ≡ t → (b && t) ≡ true → copy_at k new.copies.running ≡ None
          tests true true here e same = ap (λ (j : ℕ). copy_at j new.copies.running) (sym (eqb-true x.job k e)) ∙ one.gone here
          tests true false here e same = absurd (true≢false (sym same))
          tests false t here e same = absurd (true≢false (sym same))

      after : (k : ℕ) → (is_sent_in n k (drop i left) ≡ true) ⊎ (copy_at k mid.copies.running ≡ None) → (is_sent_in n k (drop (i + 1) left) ≡ true) ⊎ (copy_at k new.copies.running ≡ None)
      after k (inr none) = inr (none_runs mid.copies.running new.copies.running k one.loses.runs none)
      after k (inl sent) = elim (is_next n k left i x d within is sent) [ inl same ↦ inr (ended k same) | inr rest ↦ inl rest ]

  pub other_node : (n : ℕ) (x : Sent) (r : ReplicaParts D) → IsWholeReplica cells r → (x.node.0 == n) ≡ false → EndsSent cells n x r r
  other_node n x r whole apart = record { loses = loses_none r whole; gone = λ here. absurd (true≢false (sym here ∙ apart)) }

  pub not_running : {A : Type 0} (n : ℕ) (x : Sent) (r : ReplicaParts D) (o : Option A) (f : A → Job) → IsWholeReplica cells r → option_map f o ≡ copy_at x.job r.copies.running → ((a : A) → o ≡ Some a → ⊥) → EndsSent cells n x r r
  not_running n x r o f whole at none = record { loses = loses_none r whole; gone = λ here. by o at none }
    where
      by : (o : Option _) → option_map f o ≡ copy_at x.job r.copies.running → ((a : _) → o ≡ Some a → ⊥) → copy_at x.job r.copies.running ≡ None
      by None at none = sym at
      by (Some a) at none = absurd (none a refl)

  pub dropped : (n : ℕ) (x : Sent) (r s : ReplicaParts D) → IsWholeReplica cells r → DropsMerged cells x.job r s → EndsSent cells n x r s
  dropped n x r s whole drops = record { loses = loses_one x.job r s whole drops; gone = λ here. ap (copy_at x.job) (running_now x.job r s drops) ∙ gone_without x.job r.copies.running whole.merges.apart }

  past_end : {A : Type 0} (xs : List A) (i : ℕ) → length xs ≤ i → drop i xs ≡ []
  past_end [] zero low = refl
  past_end [] (suc i) low = refl
  past_end (x ∷ xs) zero low = absurd (omega (arith, low))
  past_end (x ∷ xs) (suc i) low = past_end xs i (omega (arith, low))

  pub all_ended : (n : ℕ) (left : List Sent) (i : ℕ) (old new : ReplicaParts D) → length left ≤ i → SentEnd n left i old new → (k : ℕ) → is_sent_in n k left ≡ true → copy_at k new.copies.running ≡ None
  all_ended n left i old new low was k sent = by (was.gone k sent)
    where
      by : (is_sent_in n k (drop i left) ≡ true) ⊎ (copy_at k new.copies.running ≡ None) → copy_at k new.copies.running ≡ None
      by (inr none) = none
      by (inl some) = absurd (true≢false (sym some ∙ ap (is_sent_in n k) (past_end left i low)))

  -- ---- those of all merges

  pub record RowsEnd (n : ℕ) (rows : List OpenMerge) (i : ℕ) (old new : ReplicaParts D) : Type 0 where
    pub loses : LosesCopies cells old new
    pub gone : (k : ℕ) → are_sent n k rows ≡ true → (are_sent n k (drop i rows) ≡ true) ⊎ (copy_at k new.copies.running ≡ None)

  pub no_rows : (n : ℕ) (rows : List OpenMerge) (r : ReplicaParts D) → IsWholeReplica cells r → RowsEnd n rows 0 r r
  no_rows n rows r whole = record { loses = loses_none r whole; gone = λ k sent. inl sent }

  next_row : (n k : ℕ) (rows : List OpenMerge) (i : ℕ) (x : OpenMerge) → i < length rows → x ≡ get_or rows i x → are_sent n k (drop i rows) ≡ true → (is_sent_to n k x.spread ≡ true) ⊎ (are_sent n k (drop (i + 1) rows) ≡ true)
  next_row n k rows i x within is sent = subst (λ (j : ℕ). (is_sent_to n k x.spread ≡ true) ⊎ (are_sent n k (drop j rows) ≡ true)) (let e : suc i ≡ i + 1 = omega arith in e) (by rows i within is sent)
    where
      tests : (b : Bool) (rest : List OpenMerge) → (b || are_sent n k rest) ≡ true → (b ≡ true) ⊎ (are_sent n k rest ≡ true)
      tests true rest e = inl refl
      tests false rest e = inr e

      by : (xs : List OpenMerge) (j : ℕ) → j < length xs → x ≡ get_or xs j x → are_sent n k (drop j xs) ≡ true → (is_sent_to n k x.spread ≡ true) ⊎ (are_sent n k (drop (suc j) xs) ≡ true)
      by [] j lt is sent = absurd (omega (arith, lt))
      by (y ∷ ys) zero lt is sent = subst (λ (z : OpenMerge). (is_sent_to n k z.spread ≡ true) ⊎ (are_sent n k ys ≡ true)) (sym is) (tests (is_sent_to n k y.spread) ys sent)
      by (y ∷ ys) (suc j) lt is sent = by ys j (omega (arith, lt)) is sent

  -- those of the next merge have ended
  pub row_next : (n : ℕ) (rows : List OpenMerge) (i : ℕ) (x : OpenMerge) (old mid new : ReplicaParts D) → i < length rows → x ≡ get_or rows i x → RowsEnd n rows i old mid → EndsSpread cells n x.spread mid new → RowsEnd n rows (i + 1) old new
  row_next n rows i x old mid new within is was one = record { loses = loses_then old mid new was.loses one.loses; gone = λ k sent. after k (was.gone k sent) }
    where
      after : (k : ℕ) → (are_sent n k (drop i rows) ≡ true) ⊎ (copy_at k mid.copies.running ≡ None) → (are_sent n k (drop (i + 1) rows) ≡ true) ⊎ (copy_at k new.copies.running ≡ None)
      after k (inr none) = inr (none_runs mid.copies.running new.copies.running k one.loses.runs none)
      after k (inl sent) = elim (next_row n k rows i x within is sent) [ inl same ↦ inr (one.gone k same) | inr rest ↦ inl rest ]

  pub no_spread : (n : ℕ) (o : Option Spread) (r : ReplicaParts D) → IsWholeReplica cells r → ((s : Spread) → o ≡ Some s → ⊥) → EndsSpread cells n o r r
  no_spread n None r whole none = record { loses = loses_none r whole; gone = λ k sent. absurd (true≢false (sym sent)) }
  no_spread n (Some s) r whole none = absurd (none s refl)

  pub some_spread : (n : ℕ) (o : Option Spread) (s : Spread) (r t : ReplicaParts D) → o ≡ Some s → LosesCopies cells r t → ((k : ℕ) → is_sent_in n k s.left ≡ true → copy_at k t.copies.running ≡ None) → EndsSpread cells n o r t
  some_spread n o s r t is loses gone = record { loses = loses; gone = λ k sent. gone k (sym (ap (is_sent_to n k) is) ∙ sent) }

  pub rows_ended : (n : ℕ) (rows : List OpenMerge) (i : ℕ) (old new : ReplicaParts D) → length rows ≤ i → RowsEnd n rows i old new → EndsCopies cells n rows old new
  rows_ended n rows i old new low was = record { loses = was.loses; gone = λ k sent. by k (was.gone k sent) }
    where
      by : (k : ℕ) → (are_sent n k (drop i rows) ≡ true) ⊎ (copy_at k new.copies.running ≡ None) → copy_at k new.copies.running ≡ None
      by k (inr none) = none
      by k (inl some) = absurd (true≢false (sym some ∙ ap (are_sent n k) (past_end rows i low)))

  -- ---- all places

  -- the first places have lost their copies, and the others are as before
  pub record LosesUpTo (rows : List OpenMerge) (old new : List (Option (NodePlace D))) (k : ℕ) : Type 0 where
    pub count : length new ≡ length old
    pub ended : (m : ℕ) → 1 ≤ m → m ≤ k → PlaceLoses cells m rows (place_of old m) (place_of new m)
    pub still : (m : ℕ) → suc k ≤ m → place_of new m ≡ place_of old m

  pub no_place : (rows : List OpenMerge) (places : List (Option (NodePlace D))) → LosesUpTo rows places places 0
  no_place rows places = record { count = refl; ended = λ m first low. absurd (omega (arith, first, low)); still = λ m above. refl }

  pub one_place : (rows : List OpenMerge) (old mid new : List (Option (NodePlace D))) (k : ℕ) → LosesUpTo rows old mid k → length new ≡ length mid → PlaceLoses cells (k + 1) rows (place_of mid (k + 1)) (place_of new (k + 1))
      → ((m : ℕ) → ((k + 1) == m) ≡ false → place_of new m ≡ place_of mid m) → LosesUpTo rows old new (k + 1)
  one_place rows old mid new k was count here others = record {
    count = count ∙ was.count;
    ended = λ m first low. tests m first low ((k + 1) == m) refl;
    still = λ m above. others m (let up : suc (k + 1) ≤ m = above in grind (arith, nat_tests)) ∙ was.still m (omega (arith, above));
  }
    where
      tests : (m : ℕ) → 1 ≤ m → m ≤ k + 1 → (b : Bool) → ((k + 1) == m) ≡ b → PlaceLoses cells m rows (place_of old m) (place_of new m)
      tests m first low true is =
          let same : k + 1 ≡ m = eqb-true (k + 1) m is in
          subst (λ (j : ℕ). PlaceLoses cells j rows (place_of old j) (place_of new j)) same
          (subst (λ (o : Option (NodePlace D)). PlaceLoses cells (k + 1) rows o (place_of new (k + 1))) (was.still (k + 1) (omega arith)) here)
      tests m first low false apart =
          subst (λ (o : Option (NodePlace D)). PlaceLoses cells m rows (place_of old m) o) (sym (others m apart)) (was.ended m first (let up : m ≤ k + 1 = low in let other : ((k + 1) == m) ≡ false = apart in grind (arith, nat_tests)))

  -- no place is above the last
  past_last : (places : List (Option (NodePlace D))) (m : ℕ) → suc (length places) ≤ m → place_of places m ≡ None
  past_last places zero above = refl
  past_last [] (suc m) above = refl
  past_last (x ∷ places) (suc zero) above = absurd (omega (arith, above))
  past_last (x ∷ places) (suc (suc m)) above = past_last places (suc m) (omega (arith, above))

  pub all_places : (rows : List OpenMerge) (old new : List (Option (NodePlace D))) (k : ℕ) → LosesUpTo rows old new k → k ≡ length old → AllLose cells rows old new
  all_places rows old new k was is = record { count = was.count; each = λ m. by m }
    where
      by : (m : ℕ) → PlaceLoses cells m rows (place_of old m) (place_of new m)
      by zero = refl
      by (suc m) = tests (nat_le (suc m) k) refl
        where
          tests : (b : Bool) → nat_le (suc m) k ≡ b → PlaceLoses cells (suc m) rows (place_of old (suc m)) (place_of new (suc m))
          tests true low = was.ended (suc m) (omega arith) (let l : nat_le (suc m) k ≡ true = low in grind (arith, nat_tests))
          tests false above =
              let up : suc k ≤ suc m = (let l : nat_le (suc m) k ≡ false = above in grind (arith, nat_tests)) in
              let none : place_of old (suc m) ≡ None = past_last old (suc m) (omega (arith, up, is)) in
              subst (λ (o : Option (NodePlace D)). PlaceLoses cells (suc m) rows o (place_of new (suc m))) (sym none) (was.still (suc m) up ∙ none)
