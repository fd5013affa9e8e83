use Rattle.std.proofs.Common.{◌-◌, ◌++◌, [], ◌∷◌, List}
use Rattle.script_serving.specs.declared.script.LineCommand.{LineCommand}
use Rattle.script_serving.specs.declared.script.LineCommand.TheVariants.{Put, Delete, Publish, Copy, Merge}
use Rattle.load_script.specs.Generated.{load_lane, load_key, load_text, at_multiple}
use Rattle.load_script.proofs.LoadLines.{adds_then}
use Rattle.load_script.proofs.commands.push_turn.Goals as goal

pub returns-clause-adds : goal.returns-clause-adds
returns-clause-adds c =
    let i = c.args.i in
    let puts : List LineCommand = Put (record { key = load_key i; text = load_text i }) ∷ [] in
    let deletes : List LineCommand = at_multiple 10 i (Delete (load_key (i - 4))) in
    let publishes : List LineCommand = at_multiple 50 i Publish in
    let copies : List LineCommand = at_multiple 100 i (Copy (record { 0 = 2 })) in
    let merges : List LineCommand = at_multiple 200 i (Merge 4) in
    adds_then 3 (load_lane i) puts (deletes ++ (publishes ++ (copies ++ merges))) c.args.lines.now.items c.push_put.new.lines.items c.push_at_multiple-3.new.lines.items c.in_ok-push_put.ensures.adds
    (adds_then 3 (load_lane i) deletes (publishes ++ (copies ++ merges)) c.push_put.new.lines.items c.push_delete.new.lines.items c.push_at_multiple-3.new.lines.items c.in_ok-push_delete.ensures.adds
    (adds_then 3 (load_lane i) publishes (copies ++ merges) c.push_delete.new.lines.items c.push_at_multiple.new.lines.items c.push_at_multiple-3.new.lines.items c.in_ok-push_at_multiple.ensures.adds
    (adds_then 3 (load_lane i) copies merges c.push_at_multiple.new.lines.items c.push_at_multiple-2.new.lines.items c.push_at_multiple-3.new.lines.items c.in_ok-push_at_multiple-2.ensures.adds c.in_ok-push_at_multiple-3.ensures.adds)))
