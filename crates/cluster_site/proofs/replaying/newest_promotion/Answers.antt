use Rattle.cluster_site.proofs.Replays.{newest_is, none_newest}
use Rattle.cluster_site.proofs.replaying.newest_promotion.Goals as goal

pub returns-in-None : goal.returns-in-None
returns-in-None c = none_newest c.args.entries.now c.in-None.ensures.cases

pub returns-in-Some : goal.returns-in-Some
returns-in-Some c = newest_is c.args.entries.now _ c.in-Some.entry.now c.version_of_promotion.result c.in-Some.ensures.cases.0 c.version_of_promotion.ensures
