use Rattle.std.proofs.Common.{◌∙◌, reverse, sym}
use Rattle.known_past.proofs.CopyLaws.{copy_flies, no_copy}
use Rattle.known_past.proofs.past.KnownPast.last_copy.Goals as goal

pub returns-in-Some : goal.returns-in-Some
returns-in-Some c = λ v high.
    c.unless_since.ensures
    ∙ copy_flies c.args.n.0 v (reverse c.args.entries.now) c.in-Some.copy c.replied-replied.result c.node.result.life.crashed c.args.self.now.numbers.primary_crashed
    high (sym c.in-Some.is ∙ c.node.ensures.life.copying) c.replied-replied.ensures c.node.ensures.life.crashed c.requires.numbers.crashed

pub returns-in-None : goal.returns-in-None
returns-in-None c = λ v high. no_copy c.args.n.0 v (reverse c.args.entries.now) high (sym c.in-None.is ∙ c.node.ensures.life.copying)
