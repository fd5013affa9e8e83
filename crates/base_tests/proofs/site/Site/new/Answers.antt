use Rattle.commit_steps.proofs.TestLaws.{counted_none}
use Rattle.base_tests.proofs.site.Site.new.Goals as goal

pub returns-clause-sound : goal.returns-clause-sound
returns-clause-sound g c = c.new-book.ensures.sound _ _ c.requires

pub returns-clause-counted : goal.returns-clause-counted
returns-clause-counted g c = counted_none _ _ _ c.new-book.ensures.book
