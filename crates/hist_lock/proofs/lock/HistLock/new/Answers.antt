use Rattle.std.proofs.Common.{List, [], ◌∷◌, ◌++◌, Option, Some, sym, ap, ◌∙◌, subst}
use Rattle.atomic_table.specs.Table.{opening}
use Rattle.hist_lock.specs.Rule.{IsKept}
use Rattle.hist_lock.specs.Views.{first_view}
use Rattle.hist_lock.proofs.Keeps.{opens}
use Rattle.hist_lock.proofs.lock.HistLock.new.Goals as goal

pub new-requires : goal.new-requires
new-requires g c = subst (λ (l : List (Option g.row.T.Denot)). IsKept g.T.Grows.history g.T.Grows.names (opening (0 ∷ 0 ∷ []) l first_view)) (sym (c.push_reserved.ensures.items ∙ ap (λ l. l ++ Some c.args.value ∷ []) c.in_ok-slots.ensures.items)) (opens g.T.Grows.history g.T.Grows.names c.args.value c.requires)
