use Rattle.std.proofs.Common.{◌≡◌, ◌<◌, ◌+◌, ◌∙◌, ap, sym, arith, get_or, drop, map, ℕ, List, ◌∷◌, Option, length}
use Rattle.std.proofs.lemmas.List.{drop_more}
use Rattle.cluster_nodes.specs.declared.nodes.NodePlace.{NodePlace}
use Rattle.cluster_state.specs.Met.{met_in}
use Rattle.cluster_state.proofs.Planned.{next_met}
use Rattle.cluster_state.proofs.met.show_all.Goals as goal

-- the items from here on
from_here : {X Y : Type 0} (f : X → Y) (xs : List X) (i : ℕ) (x : X) (y : Y) → i < length xs → x ≡ get_or xs i x → y ≡ f x → map f (drop i xs) ≡ y ∷ map f (drop (i + 1) xs)
from_here f xs i x y lt is same = ap (λ (l : List _). map f l) (drop_more xs i x lt) ∙ λ j. (ap f (sym is) ∙ sym same) j ∷ map f (drop (i + 1) xs)

pub loop-i-preserved : goal.loop-i-preserved
loop-i-preserved g c =
    let lt : c.loop-i.i < length c.args.before.now = c.loop-i-test.true in
    let same : length c.args.before.now ≡ length c.args.places.now.items = c.requires.count ∙ sym c.requires.places in
    let next = next_met c.args.task c.args.at (c.loop-i.i + 1) (drop c.loop-i.i c.args.before.now) (map (met_in g.D.FaultDir.planned) (drop c.loop-i.i c.args.places.now.items))
    (drop (c.loop-i.i + 1) c.args.before.now) (map (met_in g.D.FaultDir.planned) (drop (c.loop-i.i + 1) c.args.places.now.items))
    (get_or c.args.before.now c.loop-i.i (0, 0)) c.kinds_at.result c.loop-i.ledger.log c.show_node.new.ledger.log _ (drop_more c.args.before.now c.loop-i.i (0, 0) lt)
    (from_here (met_in g.D.FaultDir.planned) c.args.places.now.items c.loop-i.i c.index.result.now c.kinds_at.result (omega (arith, lt, same)) c.index.ensures c.kinds_at.ensures)
    c.show_node.ensures.log c.loop-i.invariant.0 c.loop-i.invariant.2 in
    let room = c.show_node.ensures.room in
    let was = c.loop-i.invariant.5 in (
      next.0,
      c.show_node.ensures.works,
      next.1,
      c.show_node.ensures.nodes ∙ c.loop-i.invariant.3,
      c.show_node.ensures.cut ∙ c.loop-i.invariant.4,
      omega (arith, room, was),
      c.show_node.ensures.jobs ∙ c.loop-i.invariant.6,
      c.show_node.ensures.places ∙ c.loop-i.invariant.7,
    )
