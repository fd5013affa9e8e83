use Rattle.nrt_commands.proofs.Loads.{summary_is}
use Rattle.nrt_commands.proofs.loading.run_load.Goals as goal

pub returns-in-Ok : goal.returns-in-Ok
returns-in-Ok g c =
    summary_is c.args.n c.in_ok-script.script c.in_ok-cluster.cluster c.entries.result.now c.in-Ok.text.items c.requires.most c.in_ok-script.ensures.script
    c.in_ok-cluster.ensures.running c.in_ok-cluster.ensures.legal c.in_ok-cluster.ensures.serves c.in_ok-cluster.ensures.told c.entries.ensures c.in-Ok.ensures
