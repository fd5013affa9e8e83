use Rattle.std.proofs.Common.{List, Vec, Global, ap, sym, subst, reverse}
use Rattle.std.specs.Prelude.{Option, Some, None, is_some}
use Rattle.std.specs.Option.{option_map}
use Rattle.std.proofs.lemmas.Result.{on_ok_weaker}
use Rattle.history_book.specs.Log.{printed}
use Rattle.script_serving.specs.declared.script.LineCommand.TheVariants.{Promote}
use Rattle.trans_log.specs.declared.record.LogOp.{LogOp}
use Rattle.cluster_site.specs.Sites.{operations_in, records_of}
use Rattle.cluster_site.specs.Replays.{ReplaysTo}
use Rattle.cluster_site.proofs.Replays.{lacks_here, replay_begins, none_lacking, all_lacking, some_replayed, added_none}
use Rattle.cluster_site.proofs.replaying.accept_lacking.Goals as goal

pub returns-in-Ok-None-clause-done : goal.returns-in-Ok-None-clause-done
returns-in-Ok-None-clause-done g c =
    none_lacking c.args.at c.args.cluster.now.log (records_of c.args.log.now)
    (lacks_here (records_of c.args.log.now) (reverse c.entries.result.now) (printed c.args.cluster.now.log) _ None c.entries.ensures (ap (λ (o : Option (Vec LogOp Global)). option_map (λ (records : Vec LogOp Global). records.items) o) c.in-Ok-None.field-0-is) c.in-Ok-None.ensures.lacks)

pub replay-requires-clause-begun : goal.replay-requires-clause-begun
replay-requires-clause-begun g c =
    let lacks = lacks_here (records_of c.args.log.now) (reverse c.entries.result.now) (printed c.args.cluster.now.log) _ (Some c.in-Ok-Some.records.items) c.entries.ensures
    (ap (λ (o : Option (Vec LogOp Global)). option_map (λ (records : Vec LogOp Global). records.items) o) c.in-Ok-Some.field-0-is) c.in-Ok-Some.ensures.lacks in
    subst (λ (records : List LogOp). ReplaysTo c.args.at c.args.cluster.now.log c.args.cluster.now.log (operations_in records)) (sym c.deref.ensures.value)
    (replay_begins c.args.at c.args.cluster.now.log (records_of c.args.log.now) c.in-Ok-Some.records.items c.requires.owes lacks)

pub returns-in-Ok-Some-clause-done : goal.returns-in-Ok-Some-clause-done
returns-in-Ok-Some-clause-done g c =
    let lacks = lacks_here (records_of c.args.log.now) (reverse c.entries.result.now) (printed c.args.cluster.now.log) _ (Some c.in-Ok-Some.records.items) c.entries.ensures
    (ap (λ (o : Option (Vec LogOp Global)). option_map (λ (records : Vec LogOp Global). records.items) o) c.in-Ok-Some.field-0-is) c.in-Ok-Some.ensures.lacks in
    on_ok_weaker c.replay.result (λ done. all_lacking c.args.at c.args.cluster.now.log c.replay.new.cluster.log (records_of c.args.log.now) c.in-Ok-Some.records.items lacks done) c.replay.ensures.done

pub returns-in-Ok-Some-clause-goes : goal.returns-in-Ok-Some-clause-goes
returns-in-Ok-Some-clause-goes g c =
    let lacks = lacks_here (records_of c.args.log.now) (reverse c.entries.result.now) (printed c.args.cluster.now.log) _ (Some c.in-Ok-Some.records.items) c.entries.ensures
    (ap (λ (o : Option (Vec LogOp Global)). option_map (λ (records : Vec LogOp Global). records.items) o) c.in-Ok-Some.field-0-is) c.in-Ok-Some.ensures.lacks in
    some_replayed c.replay.result c.args.at c.args.cluster.now.log c.replay.new.cluster.log (records_of c.args.log.now) c.in-Ok-Some.records.items lacks c.replay.ensures.goes

pub returns-in-Err-clause-goes : goal.returns-in-Err-clause-goes
returns-in-Err-clause-goes g c = λ n force. added_none (is_some (records_of c.args.log.now)) (Promote n force) c.args.at c.args.cluster.now.log c.end.new.self.log c.end.ensures.log
