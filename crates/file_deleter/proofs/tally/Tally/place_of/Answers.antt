use Rattle.std.proofs.Common.{◌≡◌, ◌<◌, List, length, subst, Err}
use Rattle.std.specs.Cmp.Lexicographic.{slice_cmp}
use Rattle.std.specs.Ordering.{nat_cmp}
use Rattle.std.specs.declared.cmp.Ordering.TheVariants.{Equal}
use Rattle.std.specs.List.{HoldsAt}
use Rattle.std.specs.List.Sorted.{IsBinarySearchResult}
use Rattle.disk_model.specs.Disk.{Name}
use Rattle.file_deleter.proofs.NameLemmas.{found_at, found_nowhere}
use Rattle.file_deleter.proofs.tally.Tally.place_of.Goals as goal

pub returns-in-Ok : goal.returns-in-Ok
returns-in-Ok c = (
  subst (λ (ns : List Name). c.in-Ok.place < length ns) c.deref.ensures.value c.in-Ok.ensures.bound,
  found_at c.args.self.now.due.items c.args.name.now c.in-Ok.place (subst (λ (ns : List Name). HoldsAt (λ y. slice_cmp nat_cmp y c.args.name.now ≡ Equal) ns c.in-Ok.place) c.deref.ensures.value c.in-Ok.ensures.ok),
)

pub returns-in-Err : goal.returns-in-Err
returns-in-Err c = found_nowhere c.args.self.now.due.items c.args.name.now c.in-Err.field-0 c.requires
    (subst (λ (ns : List Name). IsBinarySearchResult (λ y. slice_cmp nat_cmp y c.args.name.now) ns (Err c.in-Err.field-0)) c.deref.ensures.value c.in-Err.ensures.position)
