use Rattle.std.proofs.Common.{◌≡◌, Some, sym, refl, ap, ◌∙◌, subst}
use Rattle.std.specs.Option.{IsSome}
use lib.ListN.{get_elem?}
use mathlib.Core.Option.{some-injective}
use Rattle.hist_lock.specs.Seats.{view_of}
use Rattle.hist_lock.specs.History.{Continues}
use Rattle.hist_lock.proofs.Keeps.{closes}
use Rattle.hist_lock.proofs.lock.HistLock.close.Goals as goal

pub unwrap-value-requires : goal.unwrap-value-requires
unwrap-value-requires g c =
    let e = closes g.T.Grows.history g.T.Grows.names _ _ _ _ c.requires.last.1 c.close_with-closed.ensures.values.2 in
    let is : Some e.0 ≡ c.take.result = some-injective _ _ (sym (ap (λ l. get_elem? l 0) e.1) ∙ c.take.ensures.value) in
    subst IsSome is refl

pub returns : goal.returns
returns g c =
    let e = closes g.T.Grows.history g.T.Grows.names _ _ _ _ c.requires.last.1 c.close_with-closed.ensures.values.2 in
    let is : Some e.0 ≡ c.take.result = some-injective _ _ (sym (ap (λ l. get_elem? l 0) e.1) ∙ c.take.ensures.value) in
    let all : Some e.0 ≡ Some c.unwrap-value.result = is ∙ c.unwrap-value.ensures in
    let same : e.0 ≡ c.unwrap-value.result = cc in
    subst (λ (x : g.row.T.Denot). Continues g.T.Grows.names (view_of c.args.seat) (g.T.Grows.history x)) same e.2
