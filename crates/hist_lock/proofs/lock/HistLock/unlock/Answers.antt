use Rattle.std.proofs.Common.{◌∷◌, Some, arith, sym, ap, ◌∙◌, subst}
use Rattle.atomic_table.specs.Table.{rest}
use Rattle.hist_lock.specs.declared.view.View.{View}
use Rattle.hist_lock.specs.History.{Extends}
use Rattle.hist_lock.proofs.Keeps.{leaves}
use Rattle.hist_lock.proofs.lock.HistLock.unlock.Goals as goal

pub fetch_add-served-requires : goal.fetch_add-served-requires
fetch_add-served-requires g c =
    let size = c.args.self.now.sized in
    let seat = c.args.seat.now in
    let e = c.exchange.ensures in
    let value = c.held.inside.value in
    let found : Extends g.T.Grows.names seat.seat.me.0.number seat.seat.me.0.seen (g.T.Grows.history value) = subst (λ (x : g.row.T.Denot). Extends g.T.Grows.names seat.seat.me.0.number seat.seat.me.0.seen (g.T.Grows.history x)) (sym c.held.view_is) c.requires.extends in (
      e.0 ∙ c.requires.of,
      omega arith,
      leaves g.T.Grows.history g.T.Grows.names _ _ c.requires.inside.0.0 _ value (ap (λ m. m.0.turn) e.3 ∙ c.requires.inside.0.1) (ap (λ m. m.1) e.3 ∙ ap (λ l. (0, Some value) ∷ rest l) c.requires.inside.1)
          (subst (λ (v : View g.row.T-Entry.Denot). Extends g.T.Grows.names v.number v.seen (g.T.Grows.history value)) (sym (ap (λ m. m.0) e.3)) found),
    )
