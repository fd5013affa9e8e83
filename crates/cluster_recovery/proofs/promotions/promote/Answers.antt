use Rattle.std.proofs.Common.{Option, subst, sym}
use Rattle.std.specs.Prelude.{OnOk}
use Rattle.std.proofs.lemmas.Result.{on_ok_weaker}
use Rattle.history_rules.specs.declared.cause.Cause.{Cause}
use Rattle.history_rules.specs.declared.entry.Event.TheVariants.{Refused}
use Rattle.history_book.specs.Log.{printed}
use Rattle.cluster_state.proofs.Behind.{now_still}
use Rattle.cluster_recovery.specs.Promotions.{PromoteTells}
use Rattle.cluster_recovery.proofs.KeptPromotion.{unpromoted_rest}
use Rattle.cluster_recovery.proofs.PromoteRows.{refused_calm, is_refused, is_forced, unpromoted, promoted}
use Rattle.cluster_recovery.proofs.promotions.promote.Goals as goal

pub refuse-requires-clause-cause : goal.refuse-requires-clause-cause
refuse-requires-clause-cause g c =
    refused_calm c.args.n c.args.force (printed c.args.state.now.log) c.in-Err.cause (is_refused c.args.n c.args.force c.args.state.now.log _ c.forced_above.result c.book.ensures.log c.forced_above.ensures c.in-Err.cause c.in-Err.is)

pub returns-in-Err-clause-ok : goal.returns-in-Err-clause-ok
returns-in-Err-clause-ok g c = on_ok_weaker c.refuse.result
    (unpromoted c.args.at c.args.n c.args.force _ _ c.in-Err.cause (is_refused c.args.n c.args.force c.args.state.now.log _ c.forced_above.result c.book.ensures.log c.forced_above.ensures c.in-Err.cause c.in-Err.is)) (now_still c.refuse.result c.args.at (Refused c.in-Err.cause) c.args.state.now c.refuse.new.state c.refuse.ensures.ok c.refuse.ensures.plans)

pub returns-in-Err-clause-rest : goal.returns-in-Err-clause-rest
returns-in-Err-clause-rest g c =
    subst (λ (o : Option Cause). OnOk c.refuse.result (PromoteTells g.D.Dir.cells o c.args.n.0 c.args.state.now c.refuse.new.state)) (sym (is_refused c.args.n c.args.force c.args.state.now.log _ c.forced_above.result c.book.ensures.log c.forced_above.ensures c.in-Err.cause c.in-Err.is))
    (unpromoted_rest g.D.Dir.cells c.in-Err.cause c.refuse.result c.args.n.0 c.args.state.now c.refuse.new.state c.refuse.ensures.rest c.refuse.ensures.plans c.refuse.ensures.names)

pub promote_node-requires-clause-up : goal.promote_node-requires-clause-up
promote_node-requires-clause-up g c = (is_forced c.args.n c.args.force c.args.state.now.log _ c.forced_above.result c.book.ensures.log c.forced_above.ensures c.in-Ok.forced c.in-Ok.is).up

pub promote_node-requires-clause-vacant : goal.promote_node-requires-clause-vacant
promote_node-requires-clause-vacant g c = (is_forced c.args.n c.args.force c.args.state.now.log _ c.forced_above.result c.book.ensures.log c.forced_above.ensures c.in-Ok.forced c.in-Ok.is).vacant

pub promote_node-requires-clause-low : goal.promote_node-requires-clause-low
promote_node-requires-clause-low g c = (is_forced c.args.n c.args.force c.args.state.now.log _ c.forced_above.result c.book.ensures.log c.forced_above.ensures c.in-Ok.forced c.in-Ok.is).low

pub promote_node-requires-clause-high : goal.promote_node-requires-clause-high
promote_node-requires-clause-high g c = (is_forced c.args.n c.args.force c.args.state.now.log _ c.forced_above.result c.book.ensures.log c.forced_above.ensures c.in-Ok.forced c.in-Ok.is).high

pub returns-in-Ok-clause-ok : goal.returns-in-Ok-clause-ok
returns-in-Ok-clause-ok g c = on_ok_weaker c.promote_node.result
    (promoted c.args.at c.args.n c.args.force _ _ c.in-Ok.forced (is_forced c.args.n c.args.force c.args.state.now.log _ c.forced_above.result c.book.ensures.log c.forced_above.ensures c.in-Ok.forced c.in-Ok.is)) c.promote_node.ensures.ok

pub returns-in-Ok-clause-rest : goal.returns-in-Ok-clause-rest
returns-in-Ok-clause-rest g c =
    subst (λ (o : Option Cause). OnOk c.promote_node.result (PromoteTells g.D.Dir.cells o c.args.n.0 c.args.state.now c.promote_node.new.cluster)) (sym (is_forced c.args.n c.args.force c.args.state.now.log _ c.forced_above.result c.book.ensures.log c.forced_above.ensures c.in-Ok.forced c.in-Ok.is).none) c.promote_node.ensures.rest
