use Rattle.std.proofs.Common.{Err, ap, sym}
use Rattle.segment_infos.specs.declared.infos.Infos.{Infos}
use Rattle.index_primary.specs.declared.parts.PrimaryParts.{PrimaryParts}
use Rattle.node_tests.proofs.Unmade.{filled_at, seen_cut}
use Rattle.node_tests.proofs.calls.merge_cut.Goals as goal

pub merge_cut-requires-clause-ready : goal.merge_cut-requires-clause-ready
merge_cut-requires-clause-ready g c = filled_at c.args.primary.now c.args.primary.now c.args.seen.now c.requires c.in-Some.task (sym c.in-Some.ensures.value)

pub returns-in-Ok : goal.returns-in-Ok
returns-in-Ok g c = seen_cut c.args.primary.now c.merge_cut.new.self c.args.seen.now c.requires c.in-Some.task c.take.new.self (sym c.in-Some.ensures.value) c.take.ensures.after
    (ap (λ (i : Infos). i.version) c.in-Ok.ensures.cut.infos) c.in-Ok.ensures.others c.in-Ok.ensures.cut.merges

pub returns-in-Err-Failed : goal.returns-in-Err-Failed
returns-in-Err-Failed g c = seen_cut c.args.primary.now c.merge_cut.new.self c.args.seen.now c.requires c.in-Some.task c.take.new.self (sym c.in-Some.ensures.value) c.take.ensures.after
    (ap (λ (p : PrimaryParts g.row.D.Denot). p.infos.version) c.in-Err-Failed.ensures.err) c.in-Err-Failed.ensures.others (c.in-Err-Failed.ensures.ended (ap Err c.in-Err-Failed.field-0-is))
