-- There are fewer replicas than nodes, where a primary runs.
use Rattle.std.proofs.Common.{◌≡◌, ◌≢◌, ◌≤◌, ◌<◌, ◌+◌, ◌==◌, ℕ, suc, true, false, true≢false, nat_lt, List, [], ◌∷◌, length, refl, ap, ◌∙◌, sym, arith}
use Rattle.std.specs.List.{All, AllPairs}
use Rattle.std.proofs.lemmas.Bool.{ltb-true, ltb-false, ne_eqb}
use Rattle.std.proofs.lemmas.Bool.Decides.{nat_tests}
use Rattle.std.proofs.lemmas.List.Elements.{All-head, All-tail}
use Rattle.nrt_base.specs.declared.numbers.NodeNo.{NodeNo}
use Rattle.history_rules.specs.Nodes.{Past, IsNode, is_at, primary_of}
use Rattle.history_tables.proofs.RowLemmas.{by_test}
use Rattle.cluster_state.specs.Settles.{AreReplicas}

-- the first is below the others, which ascend
first_below : (n : NodeNo) (ns : List NodeNo) → AllPairs (λ a b. a.0 < b.0) (n ∷ ns) → All (λ m. n.0 < m.0) ns
first_below n ns pairs k d within = pairs 0 (suc k) d (omega arith) (omega (arith, within))

rest_ascend : (n : NodeNo) (ns : List NodeNo) → AllPairs (λ a b. a.0 < b.0) (n ∷ ns) → AllPairs (λ a b. a.0 < b.0) ns
rest_ascend n ns pairs i j d less within = pairs (suc i) (suc j) d (omega (arith, less)) (omega (arith, within))

-- numbers above one number and up to another that ascend
few_between : (low high : ℕ) (ns : List NodeNo) → All (λ n. low < n.0) ns → All (λ n. n.0 ≤ high) ns → AllPairs (λ a b. a.0 < b.0) ns → low ≤ high → low + length ns ≤ high
few_between low high [] above below pairs fits = omega (arith, fits)
few_between low high (n ∷ ns) above below pairs fits =
    let first = All-head (λ (m : NodeNo). low < m.0) n ns above in
    let top = All-head (λ (m : NodeNo). m.0 ≤ high) n ns below in
    let rest = few_between n.0 high ns (first_below n ns pairs) (All-tail (λ (m : NodeNo). m.0 ≤ high) n ns below) (rest_ascend n ns pairs) top in
    omega (arith, first, rest)

-- one of which is left out
fewer_between : (low high p : ℕ) (ns : List NodeNo) → All (λ n. low < n.0) ns → All (λ n. n.0 ≤ high) ns → All (λ n. n.0 ≢ p) ns → AllPairs (λ a b. a.0 < b.0) ns → low < p → p ≤ high → low + length ns < high
fewer_between low high p [] above below others pairs over under = omega (arith, over, under)
fewer_between low high p (n ∷ ns) above below others pairs over under =
    by_test (nat_lt n.0 p) (λ b. nat_lt n.0 p ≡ b → low + length (n ∷ ns) < high)
    (λ less e.
    let rest = fewer_between n.0 high p ns (first_below n ns pairs) (All-tail (λ (m : NodeNo). m.0 ≤ high) n ns below) (All-tail (λ (m : NodeNo). m.0 ≢ p) n ns others) (rest_ascend n ns pairs) (ltb-true n.0 p e) under in
    omega (arith, first, rest))
    (λ more e.
    let rest = few_between n.0 high ns (first_below n ns pairs) (All-tail (λ (m : NodeNo). m.0 ≤ high) n ns below) (rest_ascend n ns pairs) (All-head (λ (m : NodeNo). m.0 ≤ high) n ns below) in
    let past : p < n.0 = over_it (ltb-false n.0 p e) in
    omega (arith, over, past, rest))
    refl
  where
    first : low < n.0
    first = All-head (λ (m : NodeNo). low < m.0) n ns above

    over_it : p ≤ n.0 → p < n.0
    over_it least = let apart : (n.0 == p) ≡ false = ne_eqb n.0 p (All-head (λ (m : NodeNo). m.0 ≢ p) n ns others) in grind (arith, nat_tests, least, apart)

pub few_replicas : (size : ℕ) (past : Past) (p : ℕ) (nodes : List NodeNo) → IsNode size p → is_at (primary_of past) p ≡ true → AreReplicas size past nodes → length nodes < size
few_replicas size past p nodes node here are =
    let few = fewer_between 0 size p nodes above (λ k d within. (are.each k d within).0.1) apart are.ascending over node.1 in
    omega (arith, few)
  where
    above : All (λ (n : NodeNo). 0 < n.0) nodes
    above k d within = let least = (are.each k d within).0.0 in omega (arith, least)

    apart : All (λ (n : NodeNo). n.0 ≢ p) nodes
    apart k d within same = true≢false (sym here ∙ (ap (λ (m : ℕ). is_at (primary_of past) m) (sym same) ∙ (are.each k d within).1.other))

    over : 0 < p
    over = let least = node.0 in omega (arith, least)
