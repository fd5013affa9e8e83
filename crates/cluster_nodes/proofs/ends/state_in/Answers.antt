use Rattle.std.proofs.Common.{◌≡◌, ◌∙◌, sym, subst, IfOk}
use Rattle.std.specs.Option.{option_map}
use Rattle.index_primary.specs.States.{out_of}
use Rattle.cluster_nodes.specs.Outs.{want_at}
use Rattle.cluster_nodes.proofs.Slots.{place_read}
use Rattle.cluster_nodes.proofs.ends.state_in.Goals as goal

pub returns-in-Some : goal.returns-in-Some
returns-in-Some g c = subst (λ o. IfOk c.state_at.result (λ state. option_map out_of state ≡ want_at o)) (sym (place_read c.args.places.now.items c.args.n.0 c.index.result.now _ c.requires c.index.ensures ∙ c.in-Some.is)) c.state_at.ensures
