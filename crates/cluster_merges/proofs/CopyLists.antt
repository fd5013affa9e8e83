-- Copies that run once one has ended or has taken a part, and those that are left once the task of one has ended.
use Rattle.std.proofs.Common.{◌≡◌, ◌==◌, ◌&&◌, ◌||◌, ℕ, Bool, true, false, true≢false, List, [], ◌∷◌, Some, None, Option, refl, ap, ◌∙◌, sym, if◌then◌else◌}
use Rattle.std.specs.Prelude.{not, IsSomeAnd}
use Rattle.std.proofs.lemmas.Bool.{and_parts, eqb-true}
use Rattle.copy_job.specs.Jobs.{Job}
use Rattle.replica_node.specs.Merges.{copy_at, copies_with, copies_without, AreCopiesApart}
use Rattle.merge_tasks.specs.declared.tasks.Sent.{Sent}
use Rattle.merge_tasks.specs.Board.{is_sent_in, without_sent}
use Rattle.cluster_state.specs.Merging.{RunsNoOther}
use Rattle.cluster_state.proofs.MergingPaths.{at_without}

-- ---- copies that run

same_want : (o : Option Job) (c : Job) → o ≡ Some c → IsSomeAnd o (λ d. c.want ≡ d.want)
same_want None c is = absurd (cc)
same_want (Some d) c is = let same : d ≡ c = cc in ap (λ (j : Job). j.want) (sym same)

-- those that are left once one has ended ran before
pub without_runs : (cs : List Job) (k : ℕ) → AreCopiesApart cs → RunsNoOther cs (copies_without k cs)
without_runs cs k apart j c at = same_want (copy_at j cs) c (at_without k cs j c apart at)

-- one that took a part is of the copy state that it was
pub with_runs : (cs : List Job) (k : ℕ) (c d : Job) → copy_at k cs ≡ Some c → d.number ≡ k → d.want ≡ c.want → RunsNoOther cs (copies_with k d cs)
with_runs [] k c d at number want j e is = absurd (cc)
with_runs (x ∷ xs) k c d at number want j e is = by (x.number == k) (x.number == j) (d.number == j) refl refl refl at is (λ found held. with_runs xs k c d found number want j e held)
  where
    agree : (m n : ℕ) → m ≡ n → (t u : Bool) → (m == j) ≡ t → (n == j) ≡ u → t ≡ u
    agree m n same t u e f = sym e ∙ (ap (λ (i : ℕ). i == j) same ∙ f)

    by : (b t u : Bool) → (x.number == k) ≡ b → (x.number == j) ≡ t → (d.number == j) ≡ u → (if b then Some x else copy_at k xs) ≡ Some c → copy_at j (if b then d ∷ xs else x ∷ copies_with k d xs) ≡ Some e
        → (copy_at k xs ≡ Some c → copy_at j (copies_with k d xs) ≡ Some e → IsSomeAnd (copy_at j xs) (λ f. e.want ≡ f.want)) → IsSomeAnd (if t then Some x else copy_at j xs) (λ f. e.want ≡ f.want)
    by true true true here mine his found held more =
        let was : ◌≡◌ {A = Option Job} (Some x) (Some c) = found in
        let one : x ≡ c = cc in
        let got : ◌≡◌ {A = Option Job} (Some d) (Some e) = sym (ap (λ (t : Bool). if t then Some d else copy_at j xs) his) ∙ held in
        let same : d ≡ e = cc in
        ap (λ (i : Job). i.want) (sym same) ∙ (want ∙ ap (λ (i : Job). i.want) (sym one))
    by true true false here mine his found held more = absurd (true≢false (agree x.number d.number (eqb-true x.number k here ∙ sym number) true false mine his))
    by true false true here mine his found held more = absurd (true≢false (sym (agree x.number d.number (eqb-true x.number k here ∙ sym number) false true mine his)))
    by true false false here mine his found held more = same_want (copy_at j xs) e (sym (ap (λ (t : Bool). if t then Some d else copy_at j xs) his) ∙ held)
    by false true u other mine his found held more =
        let got : ◌≡◌ {A = Option Job} (Some x) (Some e) = sym (ap (λ (t : Bool). if t then Some x else copy_at j (copies_with k d xs)) mine) ∙ held in
        let same : x ≡ e = cc in
        ap (λ (i : Job). i.want) (sym same)
    by false false u other mine his found held more = more found (sym (ap (λ (t : Bool). if t then Some x else copy_at j (copies_with k d xs)) mine) ∙ held)

-- ---- copies that are left

-- one is left still that is not the one whose task has ended
pub sent_without : (left : List Sent) (n job m k : ℕ) → ((n ≡ m) → (job ≡ k) → ⊥) → is_sent_in m k left ≡ true → is_sent_in m k (without_sent n job left) ≡ true
sent_without [] n job m k apart is = absurd (true≢false (sym is))
sent_without (s ∷ left) n job m k apart is = by (sent_without left n job m k apart) ((s.node.0 == n) && (s.job == job)) ((s.node.0 == m) && (s.job == k)) refl refl is
  where
    by : (is_sent_in m k left ≡ true → is_sent_in m k (without_sent n job left) ≡ true) → (b t : Bool) → ((s.node.0 == n) && (s.job == job)) ≡ b → ((s.node.0 == m) && (s.job == k)) ≡ t → (t || is_sent_in m k left) ≡ true
        → is_sent_in m k (if not b then s ∷ without_sent n job left else without_sent n job left) ≡ true
    by more true true ended mine held =
        let a = and_parts (s.node.0 == n) (s.job == job) ended in
        let b = and_parts (s.node.0 == m) (s.job == k) mine in
        absurd (apart (sym (eqb-true s.node.0 n a.0) ∙ eqb-true s.node.0 m b.0) (sym (eqb-true s.job job a.1) ∙ eqb-true s.job k b.1))
    by more true false ended other held = more held
    by more false true stays mine held = ap (λ (t : Bool). t || is_sent_in m k (without_sent n job left)) mine
    by more false false stays other held = ap (λ (t : Bool). t || is_sent_in m k (without_sent n job left)) other ∙ more held
