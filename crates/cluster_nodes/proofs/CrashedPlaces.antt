-- A node that crashed, in its place.
use Rattle.std.proofs.Common.{◌≡◌, ◌==◌, ℕ, Bool, List, [], Some, None, Option, Vec, Global, Result, Ok, Err, length, refl, ap, ◌∙◌, sym, subst, if◌then◌else◌}
use Rattle.std.specs.Prelude.{OnOk, IsSomeAnd}
use Rattle.std.proofs.lemmas.Bool.{eq-eqb}
use Rattle.disk_model.specs.Disk.{Cells, HasCrashed}
use Rattle.cluster_nodes.specs.declared.held.HeldTicket.{HeldTicket}
use Rattle.cluster_nodes.specs.declared.nodes.Node.TheVariants.{Down}
use Rattle.cluster_nodes.specs.declared.nodes.NodePlace.{NodePlace}
use Rattle.cluster_nodes.specs.Places.{place_of, dir_of}
use Rattle.cluster_nodes.specs.Lives.{CrashesIn}
use Rattle.cluster_nodes.proofs.Taking.{moved_one}

module _ {D : Type 0} (cells : D → Cells) where
  pub crashed_in : {T E : Type 0} (result : Result T E) (old b new : List (Option (NodePlace D))) (n : ℕ) (place : NodePlace D) (dir : D) (held : Vec HeldTicket Global) → place_of old n ≡ Some place
      → held.items ≡ [] → length b ≡ length old → ((m : ℕ) → place_of b m ≡ (if n == m then None else place_of old m))
      → length new ≡ length b → ((m : ℕ) → place_of new m ≡ (if n == m then Some (record { node = Down dir; held = held }) else place_of b m))
      → OnOk result (HasCrashed (cells (dir_of place.node)) (cells dir)) → OnOk result (CrashesIn cells n old new)
  crashed_in (Ok x) old b new n place dir held there none cm tm cn tn crashed = record {
    place = place;
    there = there;
    dir = dir;
    held = held;
    none = none;
    crashed = crashed;
    moves = moved_one old b new n (record { node = Down dir; held = held }) cm tm cn tn;
  }
  crashed_in (Err e) old b new n place dir held there none cm tm cn tn crashed = tt

-- what a crash makes of its directory is so in its place
pub left_in : {D T E : Type 0} (so : D → D → Type 0) (result : Result T E) (old b new : List (Option (NodePlace D))) (n : ℕ) (place : NodePlace D) (dir : D) (held : Vec HeldTicket Global)
    → place_of old n ≡ Some place → ((m : ℕ) → place_of new m ≡ (if n == m then Some (record { node = Down dir; held = held }) else place_of b m))
    → OnOk result (so (dir_of place.node) dir) → OnOk result (IsSomeAnd (place_of old n) (λ x. IsSomeAnd (place_of new n) (λ y. so (dir_of x.node) (dir_of y.node))))
left_in {D} so (Ok x) old b new n place dir held there tn crashed =
    let left : NodePlace D = record { node = Down dir; held = held } in
    let now : place_of new n ≡ Some left = tn n ∙ ap (λ (t : Bool). if t then Some left else place_of b n) (eq-eqb n n refl) in
    subst (λ (z : Option (NodePlace D) × Option (NodePlace D)). IsSomeAnd z.0 (λ x. IsSomeAnd z.1 (λ y. so (dir_of x.node) (dir_of y.node)))) (λ i. (sym there i, sym now i)) crashed
left_in so (Err e) old b new n place dir held there tn crashed = tt
