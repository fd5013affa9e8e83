use Rattle.nrt_commands.proofs.NodeTextLaws.{sending_is_known}
use Rattle.nrt_commands.proofs.top.run_nrt.Goals as goal

pub returns-in-Some-number_asked-2-clause-usage : goal.returns-in-Some-number_asked-2-clause-usage
returns-in-Some-number_asked-2-clause-usage g c =
    (λ is known. c.node_source-in-Some-number_asked-2.ensures.others.0 is, λ unknown. absurd (unknown (sending_is_known c.args.words.now c.in-Some-number_asked-2.n c.in-Some-number_asked-2.ensures)))

pub returns-in-Some-number_asked-2-clause-small : goal.returns-in-Some-number_asked-2-clause-small
returns-in-Some-number_asked-2-clause-small g c = λ large memory usage. c.node_source-in-Some-number_asked-2.ensures.small large memory
