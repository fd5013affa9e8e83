use Rattle.std.proofs.Common.{◌≡◌, [], ◌∷◌, ◌++◌, rules}
use Rattle.disk_memory.proofs.SettleLemmas.{added_here}
use Rattle.disk_memory.proofs.changed.Changed.add.Goals as goal

pub returns-else-is_err-clause-here : goal.returns-else-is_err-clause-here
returns-else-is_err-clause-here c =
    let grown : c.push.new.self.items ≡ c.args.self.now.names.items ++ c.args.name.now ∷ [] = search rules in
    added_here c.args.self.now.all c.args.self.now.names.items c.push.new.self.items c.args.name.now grown
