use Rattle.std.proofs.Common.{◌==◌, ◌∙◌, sym, ap, Option, if◌then◌else◌}
use Rattle.cluster_nodes.specs.Places.{place_of}
use Rattle.cluster_nodes.proofs.Slots.{place_read, place_set}
use Rattle.cluster_nodes.proofs.nodes.take.Goals as goal

pub returns-clause-place : goal.returns-clause-place
returns-clause-place g c = place_read _ _ _ _ c.requires.slot c.index_mut-slot.ensures.value ∙ (sym c.take.ensures.value ∙ c.unwrap.ensures)

pub returns-clause-places : goal.returns-clause-places
returns-clause-places g c = λ m. place_set c.args.places.now.items c.args.n.0 _ c.requires.slot m
    ∙ ap (λ (x : Option _). if c.args.n.0 == m then x else place_of c.args.places.now.items m) c.take.ensures.after
