-- What is kept of a log, one entry at a time.
use Rattle.std.proofs.Common.{◌≡◌, ℕ, zero, suc, ◌+◌, List, [], ◌∷◌, drop, refl, arith}
use Rattle.std.proofs.lemmas.Bool.{eq-eqb}
use Rattle.nrt_base.specs.declared.numbers.At.{At}
use Rattle.nrt_base.specs.declared.numbers.Gen.{Gen}
use Rattle.nrt_base.specs.declared.numbers.NodeNo.{NodeNo}
use Rattle.nrt_base.specs.declared.numbers.Version.{Version}
use Rattle.documents.specs.declared.operation.Op.{Op}
use Rattle.history_rules.specs.declared.entry.Event.TheVariants.{Promoted}
use Rattle.history_rules.specs.Nodes.{Past, version_of}
use Rattle.history_rules.specs.Points.{operations_at}

-- one more is dropped
pub drop_next : (n : ℕ) (ops : List Op) → drop (n + 1) ops ≡ drop 1 (drop n ops)
drop_next zero ops = refl
drop_next (suc n) [] = let e : suc n + 1 ≡ suc (n + 1) = omega arith in rw e refl
drop_next (suc n) (op ∷ ops) = let e : suc n + 1 ≡ suc (n + 1) = omega arith in rw e (drop_next n ops)

-- the point of a promotion has what the promoted node had
pub promoted_has : (at : At) (n : NodeNo) (g : Gen) (f v : Version) (past : Past)
    → operations_at (record { at = at; event = Promoted n g f v } ∷ past) v.0 ≡ operations_at past (version_of n.0 past)
promoted_has at n g f v past = rw (eq-eqb v.0 v.0 refl) refl
