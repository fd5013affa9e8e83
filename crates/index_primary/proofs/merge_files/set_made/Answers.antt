use Rattle.std.proofs.Common.{◌<◌, ◌∙◌, ℕ, List, Some, length, get_or, slice_set, sym, ap, subst}
use Rattle.index_primary.specs.declared.states.Merging.{Merging}
use Rattle.index_primary.proofs.Making.{place_within, made_at}
use Rattle.index_primary.proofs.merge_files.set_made.Goals as goal

pub index_mut-merging-requires : goal.index_mut-merging-requires
index_mut-merging-requires c =
    let items = c.into_vec-items.ensures ∙ c.replace.ensures.value in
    subst (λ (n : ℕ). c.place_of-at.result < n) (sym (c.into_vec-items.result.ok.0 ∙ ap (λ (l : List Merging). length l) items))
    (place_within c.args.merged.files.seg.0 c.args.merges.now c.place_of-at.result c.requires (rw c.as_slice.ensures at c.place_of-at.ensures))

pub returns : goal.returns
returns c =
    let ms = c.args.merges.now in
    let i = c.place_of-at.result in
    let x = c.index_mut-merging.result.now in
    let items = c.into_vec-items.ensures ∙ c.replace.ensures.value in
    c.from_vec.ensures ∙ ap (λ (l : List Merging). slice_set l i (record x { merged = Some c.args.merged; names = c.args.names })) items
    ∙ made_at c.args.merged c.args.names ms i x c.requires (rw c.as_slice.ensures at c.place_of-at.ensures) (c.index_mut-merging.ensures.value ∙ ap (λ (l : List Merging). get_or l i x) items)
