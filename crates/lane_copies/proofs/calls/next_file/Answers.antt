use Rattle.std.proofs.lemmas.Result.{on_err_weaker}
use Rattle.cluster_state.specs.Run.{IsEnded}
use Rattle.lane_copies.proofs.JobCalls.{is_copying, on_next_leaves}
use Rattle.lane_copies.proofs.calls.next_file.Goals as goal

pub copy_next-requires-clause-copying : goal.copy_next-requires-clause-copying
copy_next-requires-clause-copying g c = is_copying c.args.at c.args.task.now c.args.site.now.run.log c.has_job.result c.has_job.ensures c.if-not-has_job.false c.requires.copying

pub returns-clause-ok : goal.returns-clause-ok
returns-clause-ok g c =
    on_next_leaves c.args.at c.args.task.now c.args.site.now.run c.copy_next.new.self.run c.requires.copying
    (is_copying c.args.at c.args.task.now c.args.site.now.run.log c.has_job.result c.has_job.ensures c.if-not-has_job.false c.requires.copying) c.copy_next.result c.copy_next.ensures.ok c.copy_next.ensures.stops
    c.copy_next.ensures.settling

pub returns-clause-err : goal.returns-clause-err
returns-clause-err g c = on_err_weaker c.copy_next.result (λ (e : IsEnded c.args.site.now.run c.copy_next.new.self.run). e.log) c.copy_next.ensures.err
