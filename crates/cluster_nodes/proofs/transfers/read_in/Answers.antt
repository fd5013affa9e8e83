use Rattle.cluster_nodes.proofs.Taking.{read_at, unread_at}
use Rattle.cluster_nodes.proofs.transfers.read_in.Goals as goal

pub source-read-requires : goal.source-read-requires
source-read-requires g c = record { out = c.requires.out _ _ c.take_primary-primary.ensures.place }

pub returns-in-Ok-clause-went : goal.returns-in-Ok-clause-went
returns-in-Ok-clause-went g c = read_at g.D.Dir.cells c.in-Ok.bytes c.args.name.now c.args.places.now.items c.take_primary-primary.new.places.items c.put.new.places.items c.args.p.0 _ _ _ c.requires.slot
    c.take_primary-primary.ensures.count c.take_primary-primary.ensures.places c.put.ensures.count c.put.ensures.places c.take_primary-primary.ensures.place
    c.in-Ok.ensures.bytes c.in-Ok.ensures.cells c.in-Ok.ensures.others c.in-Ok.ensures.no_new c.in-Ok.ensures.whole

pub returns-in_ok-is_failed-in-Err-clause-went : goal.returns-in_ok-is_failed-in-Err-clause-went
returns-in_ok-is_failed-in-Err-clause-went g c = unread_at g.D.Dir.cells c.args.places.now.items c.take_primary-primary.new.places.items c.put.new.places.items c.args.p.0 _ _ _ c.requires.slot
    c.take_primary-primary.ensures.count c.take_primary-primary.ensures.places c.put.ensures.count c.put.ensures.places c.take_primary-primary.ensures.place
    c.in-Err.ensures.cells c.in-Err.ensures.others c.in-Err.ensures.no_new c.in-Err.ensures.whole
