use Rattle.std.proofs.Common.{arith}
use Rattle.nrt_commands.specs.NodeTexts.{asking_word}
use Rattle.stream_commands.proofs.Numbers.{one_number}
use Rattle.nrt_commands.proofs.NodeTextLaws.{same_answer, node_answer}
use Rattle.nrt_commands.proofs.nodes.node_source.Goals as goal

pub returns-in-Ok-clause-answers : goal.returns-in-Ok-clause-answers
returns-in-Ok-clause-answers g c = λ k asked read large memory. same_answer c.args.kind c.args.n k _ _ _ _ _ (one_number (asking_word c.args.kind) 16 c.args.words.now c.args.n k (omega arith) c.requires.asked asked)
    (node_answer c.args.kind c.args.n _ _ _ _ _ c.in-Ok.bytes.items c.as_slice.result.now c.as_slice.ensures.value
    (record { taken = c.in-Ok.ensures.read.0; ended = c.in-Ok.ensures.read.1; within = c.in-Ok.ensures.read.2 }) (c.node_bytes.ensures.answers memory))
