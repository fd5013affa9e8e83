-- Equal keys.
use Rattle.std.proofs.Common.{◌≡◌, ◌==◌, true, true≢false, ap, sym, arith}
use Rattle.std.proofs.lemmas.Bool.{eqb-true, and_parts}
use Rattle.std.proofs.lemmas.Bool.Decides.{nat_tests}
use Rattle.history_tables.proofs.RowLemmas.{same_at_self, same_at_is}
use Rattle.cluster_nodes.specs.declared.held.HeldKey.{HeldKey}
use Rattle.cluster_nodes.specs.declared.held.HeldKey.TheVariants.{Ticket, Search}
use Rattle.cluster_nodes.specs.Held.{same_key}

pub same_key_is : (a b : HeldKey) → same_key a b ≡ true → a ≡ b
same_key_is (Ticket lane t) (Ticket l u) same =
    let parts = and_parts (lane.0 == l.0) (t.0 == u.0) same in
    λ i. Ticket (record { 0 = eqb-true lane.0 l.0 parts.0 i }) (record { 0 = eqb-true t.0 u.0 parts.1 i })
same_key_is (Search at) (Search b) same = ap Search (same_at_is at b same)
same_key_is (Ticket lane t) (Search b) same = absurd (true≢false (sym same))
same_key_is (Search at) (Ticket l u) same = absurd (true≢false (sym same))

pub same_key_self : (a : HeldKey) → same_key a a ≡ true
same_key_self (Ticket lane t) = grind (arith, nat_tests)
same_key_self (Search at) = same_at_self at
