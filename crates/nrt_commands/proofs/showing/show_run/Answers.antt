use Rattle.std.proofs.Common.{◌≡◌, ℕ, Vec, Global}
use Rattle.std.proofs.lemmas.Result.{IfOk-weaker}
use Rattle.stream_commands.specs.Pictures.{picture_by, ShowsScript}
use Rattle.nrt_commands.proofs.Shown.{run_shown}
use Rattle.nrt_commands.proofs.showing.show_run.Goals as goal

pub returns : goal.returns
returns g c =
    IfOk-weaker c.show-shown.result (λ (text : Vec ℕ Global). text.items ≡ picture_by c.args.kind c.args.script.now.nodes c.entries.result.now) (λ (text : Vec ℕ Global). ShowsScript (picture_by c.args.kind) c.args.script.now text.items)
    (λ text is. run_shown (picture_by c.args.kind) c.args.script.now c.in_ok-cluster.cluster c.entries.result.now text.items c.in_ok-cluster.ensures.legal c.in_ok-cluster.ensures.serves c.entries.ensures is) c.show-shown.ensures
