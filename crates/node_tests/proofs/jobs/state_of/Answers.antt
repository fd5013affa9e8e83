use Rattle.node_tests.proofs.Listing.{copy_made}
use Rattle.node_tests.proofs.jobs.state_of.Goals as goal

pub returns-clause-copy : goal.returns-clause-copy
returns-clause-copy c =
    copy_made c.in_ok-infos.infos c.in_ok-names.names.items c.as_slice.result.now c.in_ok-names.ensures c.as_slice.ensures.value _ c.in_ok-files.ensures c.in_ok-spelled.ensures c.new.ensures
