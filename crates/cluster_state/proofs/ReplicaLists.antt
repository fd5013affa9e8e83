-- The replicas of a past below a number, in their order.
use Rattle.std.proofs.Common.{◌≡◌, ◌≤◌, ◌<◌, ◌+◌, ◌==◌, ◌⊎◌, ⊎_elim, inl, inr, ℕ, List, [], ◌∷◌, ◌++◌, refl, ap, sym, subst, arith}
use Rattle.std.specs.List.{All, AllPairs, Contains}
use Rattle.std.proofs.lemmas.Bool.{eqb-true}
use Rattle.std.proofs.lemmas.Bool.Decides.{nat_tests}
use Rattle.std.proofs.lemmas.List.Elements.{All-push, Contains-append_left, Contains-append_right}
use Rattle.std.proofs.lemmas.List.Quantifiers.{all_pairs_push}
use Rattle.nrt_base.specs.declared.numbers.NodeNo.{NodeNo}
use Rattle.history_rules.specs.Nodes.{Past, IsNode, IsReplica}
use Rattle.history_tables.proofs.RowLemmas.{by_test}
use Rattle.cluster_state.specs.Settles.{AreReplicas}

-- the replicas below a number, ascending
pub record AreReplicasTo (size : ℕ) (past : Past) (k : ℕ) (nodes : List NodeNo) : Type 0 where
  pub each : All (λ n. IsNode size n.0 × IsReplica past n.0) nodes
  pub below : All (λ n. n.0 < k) nodes
  pub ascending : AllPairs (λ m n. m.0 < n.0) nodes
  pub all : (n : NodeNo) → IsNode size n.0 → n.0 < k → IsReplica past n.0 → Contains nodes n

pub replicas_to_first : (size : ℕ) (past : Past) → AreReplicasTo size past 1 []
replicas_to_first size past = record {
  each = λ i d h. absurd (omega arith);
  below = λ i d h. absurd (omega arith);
  ascending = λ i j d l h. absurd (omega arith);
  all = λ n node low replica. absurd (let one : 1 ≤ n.0 = node.0 in omega arith);
}

-- a node below the next number is the last one, or below that
below_next : (n k : ℕ) → n < k + 1 → (n ≡ k) ⊎ (n < k)
below_next n k low =
    by_test (n == k) (λ b. (n == k) ≡ b → (n ≡ k) ⊎ (n < k)) (λ same q. inl (eqb-true n k same)) (λ apart q. inr (grind (arith, nat_tests))) refl

pub with_replica : (size : ℕ) (past : Past) (k : ℕ) (nodes : List NodeNo) → IsNode size k → IsReplica past k → AreReplicasTo size past k nodes → AreReplicasTo size past (k + 1) (nodes ++ record { 0 = k } ∷ [])
with_replica size past k nodes node replica was = record {
  each = All-push (λ (n : NodeNo). IsNode size n.0 × IsReplica past n.0) nodes (record { 0 = k }) was.each (node, replica);
  below = All-push (λ (n : NodeNo). n.0 < k + 1) nodes (record { 0 = k }) (λ i d h. let low = was.below i d h in omega arith) (omega arith);
  ascending = all_pairs_push (λ (m n : NodeNo). m.0 < n.0) nodes (record { 0 = k }) was.ascending (λ i d h. was.below i d h);
  all = λ n node low is. ⊎_elim
      (λ (same : n.0 ≡ k). Contains-append_right nodes (record { 0 = k } ∷ []) n (0, omega arith, ap (λ (j : ℕ). record { 0 = j }) (sym same)))
      (λ (lower : n.0 < k). Contains-append_left nodes (record { 0 = k } ∷ []) n (was.all n node lower is)) (below_next n.0 k low);
}

pub without_replica : (size : ℕ) (past : Past) (k : ℕ) (nodes : List NodeNo) → (IsReplica past k → ⊥) → AreReplicasTo size past k nodes → AreReplicasTo size past (k + 1) nodes
without_replica size past k nodes other was = record {
  each = was.each;
  below = λ i d h. let low = was.below i d h in omega arith;
  ascending = was.ascending;
  all = λ n node low is. ⊎_elim (λ (same : n.0 ≡ k). absurd (other (subst (IsReplica past) same is))) (λ (lower : n.0 < k). was.all n node lower is) (below_next n.0 k low);
}

pub replicas_all : (size : ℕ) (past : Past) (nodes : List NodeNo) → AreReplicasTo size past (size + 1) nodes → AreReplicas size past nodes
replicas_all size past nodes was = record {
  each = was.each;
  ascending = was.ascending;
  all = λ n node is. was.all n node (let high : n.0 ≤ size = node.1 in omega arith) is;
}
