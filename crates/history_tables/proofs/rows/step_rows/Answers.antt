use Rattle.std.proofs.Common.{◌≡◌, ◌∷◌, rules, Some}
use Rattle.std.proofs.Math.ListN.{length-set}
use Rattle.std.proofs.lemmas.Option.{slice_get_read}
use Rattle.std.specs.List.{slice_get}
use Rattle.history_tables.proofs.NodeRowLemmas.{low_next, told_next, told_all}
use Rattle.history_tables.proofs.rows.step_rows.Goals as goal

pub loop-i-preserved : goal.loop-i-preserved
loop-i-preserved c =
    let there : slice_get c.loop-i.rows.items c.loop-i.i ≡ Some c.index-row.result.now = slice_get_read _ c.len-i-end.result c.loop-i.i _ (search rules) c.loop-i-test.true c.index-row.ensures in
    record {
      count = simp length-set c.loop-i.invariant.count;
      low = low_next c.args.size c.loop-i.i c.loop-i.rows.items c.after.result c.loop-i.invariant.low;
      told = λ past told was. told_next past (record { at = c.args.at; event = c.args.event.now } ∷ past) c.loop-i.i c.loop-i.rows.items c.after.result _ there (c.after.ensures past told) (c.loop-i.invariant.told past told was);
    }

pub returns-clause-rows : goal.returns-clause-rows
returns-clause-rows c = λ past told was. told_all past (record { at = c.args.at; event = c.args.event.now } ∷ past) c.loop-i.i c.loop-i.rows.items (search rules) (c.loop-i.invariant.told past told was)
