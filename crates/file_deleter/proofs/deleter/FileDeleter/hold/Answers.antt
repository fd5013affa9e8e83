use Rattle.std.proofs.Common.{sym, ◌∙◌}
use Rattle.file_deleter.proofs.NameLemmas.{none_missing}
use Rattle.file_deleter.proofs.Keeping.{holds, due_held}
use Rattle.file_deleter.proofs.Sounding.{apart_counts}
use Rattle.file_deleter.proofs.deleter.FileDeleter.hold.Goals as goal

pub returns-clause-there : goal.returns-clause-there
returns-clause-there g c = none_missing _ _ (sym c.first_missing.ensures ∙ c.in_default.is)

pub returns-clause-holds : goal.returns-clause-holds
returns-clause-holds g c = rw (← c.self.view_is)
    (holds _ _ _ _ c.in_ok-hold.ensures.adds.counts c.in_ok-hold.ensures.adds.due (apart_counts _ _ c.in_ok-hold.ensures.sound.order) (returns-clause-there g c).each)

pub returns-clause-due : goal.returns-clause-due
returns-clause-due g c = rw (← c.self.view_is)
    (due_held _ _ _ c.in_ok-hold.ensures.adds (apart_counts _ _ c.self.invariant.order))
