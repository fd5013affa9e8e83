-- What a test of two lists of hits tells.
use Rattle.std.proofs.Common.{◌≡◌, ℕ, List, Bool, true, ap, sym, ◌∙◌}
use Rattle.std.specs.Prelude.{◌↔◌, ◌&&◌, IsTrue, bytes_eq, nat_eq}
use Rattle.std.specs.Cmp.Lexicographic.{pointwise, pointwise_decides}
use Rattle.std.proofs.lemmas.Bool.{and_parts, and_from, eqb-true, eq-eqb}
use Rattle.std.proofs.lemmas.Slice.Eq.{bytes_eq-Decides}
use Rattle.documents.specs.declared.answer.Hit.{Hit}

hit_from : (k l : List ℕ) (m n : ℕ) → k ≡ l → m ≡ n → ◌≡◌ {A = Hit} (record { key = k; rank = m }) (record { key = l; rank = n })
hit_from k l m n e f = cc

hit_same : (a b : Hit) → ((bytes_eq a.key b.key && nat_eq a.rank b.rank) ≡ true) ↔ (a ≡ b)
hit_same a b = (equal, tested)
  where
    equal : (bytes_eq a.key b.key && nat_eq a.rank b.rank) ≡ true → a ≡ b
    equal e =
        let both = and_parts (bytes_eq a.key b.key) (nat_eq a.rank b.rank) e in
        hit_from a.key b.key a.rank b.rank ((bytes_eq-Decides a.key b.key).0 both.0) (eqb-true a.rank b.rank both.1)

    tested : a ≡ b → (bytes_eq a.key b.key && nat_eq a.rank b.rank) ≡ true
    tested e =
        and_from (bytes_eq a.key b.key) (nat_eq a.rank b.rank) ((bytes_eq-Decides a.key b.key).1 (ap (λ (h : Hit). h.key) e))
        (eq-eqb a.rank b.rank (ap (λ (h : Hit). h.rank) e))

-- the test of two lists of hits decides whether they are equal
pub hits_same : (test : Hit → Hit → Bool) → ((a b : Hit) → test a b ≡ (bytes_eq a.key b.key && nat_eq a.rank b.rank))
    → (r : Bool) (hits others : List Hit) → r ≡ pointwise test hits others → IsTrue r ↔ (hits ≡ others)
hits_same test is r hits others told =
    let both = pointwise_decides {E = test} decides hits others in
    (λ e. both.0 (sym told ∙ e), λ e. told ∙ both.1 e)
  where
    decides : (a b : Hit) → (test a b ≡ true) ↔ (a ≡ b)
    decides a b = (λ e. (hit_same a b).0 (sym (is a b) ∙ e), λ e. is a b ∙ (hit_same a b).1 e)
