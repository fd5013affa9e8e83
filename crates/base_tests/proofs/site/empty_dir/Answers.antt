use Rattle.commit_steps.proofs.TestLaws.{shows_nothing}
use Rattle.base_tests.proofs.site.empty_dir.Goals as goal

pub returns : goal.returns
returns c = shows_nothing _ c.in_ok-dir.ensures.table
