use Rattle.std.proofs.Common.{◌||◌, ◌++◌, List, sym, ap, subst, ◌∙◌}
use Rattle.std.proofs.lemmas.List.Filters.{dedup_is}
use Rattle.std.specs.Map.{keys_of}
use Rattle.std.specs.Cmp.Lexicographic.{slice_cmp}
use Rattle.std.specs.Ordering.{nat_cmp}
use Rattle.std.specs.List.Sorted.{IsStrictlySortedBy}
use Rattle.disk_model.specs.Disk.{Name, same, is_among}
use Rattle.file_deleter.proofs.NameLemmas.{among-dedup, among-permutation, among-append, among-keys, dedup_ascends}
use Rattle.file_deleter.proofs.tally.Tally.names.Goals as goal

pub returns-clause-names : goal.returns-clause-names
returns-clause-names c = λ q.
    let entries = c.args.self.now.counts.entries in
    let due = c.args.self.now.due.items in
    ap (λ (ns : List Name). is_among ns q) (dedup_is same _ _ c.dedup.ensures.filtered)
    ∙ among-dedup c.sort_unstable.new.self.items q
    ∙ among-permutation _ _ q c.sort_unstable.ensures.permutation
    ∙ ap (λ (ns : List Name). is_among ns q) (c.in_ok-extend_from_slice.ensures.items ∙ ap (λ (ns : List Name). ns ++ c.as_slice.result.now) c.in_ok-names.ensures ∙ ap (λ (ns : List Name). keys_of entries ++ ns) c.as_slice.ensures.value)
    ∙ among-append (keys_of entries) due q
    ∙ ap (λ b. b || is_among due q) (among-keys entries q ∙ c.requires.order.positive.each q)

pub returns-clause-ascending : goal.returns-clause-ascending
returns-clause-ascending c = subst (IsStrictlySortedBy (slice_cmp nat_cmp)) (sym (dedup_is same _ _ c.dedup.ensures.filtered)) (dedup_ascends c.sort_unstable.new.self.items c.sort_unstable.ensures.sorted)
