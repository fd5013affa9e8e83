use Rattle.std.proofs.Common.{◌∙◌, sym, subst}
use Rattle.std.proofs.lemmas.List.Filters.{dedup_is}
use Rattle.index_primary.specs.CutOverCalls.{AreInBoth}
use Rattle.index_primary.proofs.CutMaking.{both_are}
use Rattle.index_primary.proofs.merge_cuts.ascending.Goals as goal

pub returns : goal.returns
returns c = subst (AreInBoth c.args.a.now c.args.b.now) (sym c.from_vec.ensures)
    (both_are c.args.a.now c.args.b.now c.into_vec-names.result.items c.sort_unstable.new.self.items c.dedup.new.self.items (c.into_vec-names.ensures ∙ c.in_ok-joined.ensures) c.sort_unstable.ensures.permutation
    c.sort_unstable.ensures.sorted (dedup_is _ _ _ c.dedup.ensures.filtered))
