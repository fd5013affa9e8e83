use Rattle.std.proofs.Common.{reverse}
use Rattle.std.proofs.lemmas.Result.{on_ok_weaker}
use Rattle.known_past.proofs.NodeLaws.{none_touched, one_touched}
use Rattle.known_past.proofs.nodes.note_node.Goals as goal

pub returns-in_default : goal.returns-in_default
returns-in_default c =
    none_touched (reverse c.args.before.now) c.args.entry.now c.args.nodes.now c.args.primary c.args.committer c.requires.nodes c.requires.primary c.requires.committer c.in_default.ensures

pub returns : goal.returns
returns c =
    on_ok_weaker c.set_node.result
    (λ noted. one_touched (reverse c.args.before.now) c.args.entry.now c.args.nodes.now c.set_node.new.nodes c.args.primary c.args.committer c.in-Some.n c.after-node.result
    c.requires.nodes c.requires.primary c.requires.committer c.in-Some.ensures c.after-node.ensures noted)
    c.set_node.ensures
