use denote.Exit.{yes}
use denote.Param.Send.{IsSend, sendable, param_send, arg_send}
use Rattle.disk_memory.specs.contracts.memory.MemDir as mem
use Rattle.disk_memory.specs.contracts.memory.MemDirFaultDir.TheImpl as fault
use Rattle.disk_memory.specs.contracts.memory.MemDirDir.TheImpl as dir
use Rattle.cluster_state.specs.contracts.cluster.ClusterState as state
use Rattle.cluster_site.proofs.StateParts.{state_send, site_send}
use Rattle.cluster_run.proofs.Scripts.{left_serves, left_tells}
use Rattle.cluster_run.proofs.script.run_script.Goals as goal

pub run_script-requires-clause-runs : goal.run_script-requires-clause-runs
run_script-requires-clause-runs g c = λ κs lives. c.requires.form.commands

pub returns-clause-serves : goal.returns-clause-serves
returns-clause-serves g c = left_serves c.args.script.now c.in_ok-left.left c.into_cluster-cluster.result c.in_ok-left.ensures.setup c.in_ok-left.ensures.serves c.into_cluster-cluster.ensures

pub returns-clause-told : goal.returns-clause-told
returns-clause-told g c = left_tells c.args.script.now c.in_ok-left.left c.into_cluster-cluster.result c.ended.ensures.told c.in_ok-left.ensures.none c.in_ok-left.ensures.first c.into_cluster-cluster.ensures

pub sent-requires-5-send-T : goal.sent-requires-5-send-T
sent-requires-5-send-T g c κs =
    let row : IsSend (state.the_row mem.the_row fault.ghosts dir.ghosts) =
    state_send mem.the_row fault.ghosts dir.ghosts (λ d. (
      (λ vs. c.sent.ensures.owned d.ledger vs, λ k. c.sent.ensures.leaving yes d.ledger),
      (
        (λ vs. c.sent-2.ensures.owned d.tasks vs, λ k. c.sent-2.ensures.leaving yes d.tasks),
        (
          (λ vs. c.sent-3.ensures.owned d.places vs, λ k. c.sent-3.ensures.leaving yes d.places),
          ((λ vs. c.sent-4.ensures.owned d.carries vs, λ k. c.sent-4.ensures.leaving yes d.carries), (search sendable, tt)),
        ),
      ),
    )) in
    param_send _ _ (arg_send _ yes _ row)

pub sent-requires-8-send-T : goal.sent-requires-8-send-T
sent-requires-8-send-T g c κs =
    let row =
    site_send mem.the_row fault.ghosts dir.ghosts (λ d. (
      (λ vs. c.sent-6.ensures.owned d.cluster vs, λ k. c.sent-6.ensures.leaving yes d.cluster),
      ((λ vs. c.sent-7.ensures.owned d.log vs, λ k. c.sent-7.ensures.leaving yes d.log), tt),
    )) in
    param_send _ _ (arg_send _ yes _ row)
