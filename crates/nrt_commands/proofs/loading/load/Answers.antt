use Rattle.std.proofs.Common.{arith}
use Rattle.std.specs.Prelude.{codes}
use Rattle.nrt_commands.proofs.Loads.{same_summary, same_front}
use Rattle.stream_commands.proofs.Numbers.{one_number}
use Rattle.nrt_commands.proofs.loading.load.Goals as goal

pub returns-clause-done : goal.returns-clause-done
returns-clause-done g c k asked is =
    same_summary c.args.n k _ _ _ (one_number (codes "load") 10000 c.args.words.now c.args.n k (omega arith) c.requires.asked asked) (c.load_documents.ensures.done is)

pub returns-clause-part : goal.returns-clause-part
returns-clause-part g c k asked is =
    same_front c.args.n k _ _ _ (one_number (codes "load") 10000 c.args.words.now c.args.n k (omega arith) c.requires.asked asked) (c.load_documents.ensures.part is)
