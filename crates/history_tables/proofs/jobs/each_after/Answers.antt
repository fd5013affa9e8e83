use Rattle.std.proofs.Common.{◌≡◌, ◌∙◌, ◌<◌, ap, subst, rules, length, slice_set}
use Rattle.std.proofs.Math.ListN.{length-set}
use Rattle.std.proofs.lemmas.List.Edits.{map_over_more}
use Rattle.history_tables.specs.declared.jobs.KeyedJob.{KeyedJob}
use Rattle.history_tables.specs.JobRows.{keyed_by}
use Rattle.history_tables.proofs.jobs.each_after.Goals as goal

pub loop-i-preserved : goal.loop-i-preserved
loop-i-preserved c =
    let n : c.len-i-end.result ≡ length c.args.rows.now.items = search rules in
    let within : c.loop-i.i < length c.args.rows.now.items = subst (λ k. c.loop-i.i < k) n c.loop-i-test.true in
    record {
      count = simp length-set c.loop-i.invariant.count;
      capacity = c.loop-i.invariant.capacity;
      rows = ap (λ (r : KeyedJob). slice_set c.loop-i.rows.items c.loop-i.i r) c.after.ensures
          ∙ map_over_more (keyed_by c.args.step) c.args.rows.now.items c.loop-i.rows.items c.loop-i.i c.index-row.result.now within c.loop-i.invariant.rows c.index-row.ensures;
    }
