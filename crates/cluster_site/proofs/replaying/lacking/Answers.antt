use Rattle.std.proofs.Common.{◌∙◌, ap, sym, subst, reverse}
use Rattle.std.specs.Prelude.{Option}
use Rattle.std.specs.Option.{option_map}
use Rattle.nrt_base.specs.declared.numbers.Version.{Version}
use Rattle.trans_log.specs.declared.log.TransLog.{TransLog}
use Rattle.cluster_site.specs.Sites.{LogStands, records_of}
use Rattle.cluster_site.proofs.Replays.{lacks_unlogged, lacks_unpromoted, lacks_found}
use Rattle.cluster_site.proofs.replaying.lacking.Goals as goal

pub returns-in-None-clause-lacks : goal.returns-in-None-clause-lacks
returns-in-None-clause-lacks g c = lacks_unlogged (reverse c.args.entries.now) (records_of c.args.log.now) (ap records_of c.in-None.is)

pub returns-in-None-newest_promotion-clause-lacks : goal.returns-in-None-newest_promotion-clause-lacks
returns-in-None-newest_promotion-clause-lacks g c =
    lacks_unpromoted (reverse c.args.entries.now) (records_of c.args.log.now) c.in-Some.log.records.items (ap records_of c.in-Some.is) (sym c.newest_promotion.ensures ∙ ap (λ (o : Option Version). option_map (λ (v : Version). v.0) o) c.in-None-newest_promotion.is)

pub records_behind-requires : goal.records_behind-requires
records_behind-requires g c = subst (λ (o : Option (TransLog _)). LogStands g.D.Dir.cells g.D.Dir.plans o) c.in-Some.is c.requires

pub returns-in-Ok-clause-lacks : goal.returns-in-Ok-clause-lacks
returns-in-Ok-clause-lacks g c =
    lacks_found (reverse c.args.entries.now) (records_of c.args.log.now) c.in-Some.log.records.items c.in-Ok.found.items c.in-Some-newest_promotion.v.0 (ap records_of c.in-Some.is) (sym c.newest_promotion.ensures ∙ ap (λ (o : Option Version). option_map (λ (v : Version). v.0) o) c.in-Some-newest_promotion.is) c.in-Ok.ensures.records
