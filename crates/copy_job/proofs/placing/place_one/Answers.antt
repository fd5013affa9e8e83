use Rattle.std.proofs.Common.{sym}
use Rattle.disk_model.proofs.CellLemmas.{same_true}
use Rattle.file_deleter.proofs.NameLemmas.{unlike}
use Rattle.copy_job.proofs.Naming.{settled_length, settled_names}
use Rattle.copy_job.proofs.Placings.{other_name, nothing_placed, none_placed}
use Rattle.copy_job.proofs.placing.place_one.Goals as goal

pub returns-then-eq-clause-places : goal.returns-then-eq-clause-places
returns-then-eq-clause-places g c = nothing_placed c.args.parts.now.items c.args.place c.at-part.result _ _ c.at-part.ensures (same_true c.at-part.result.now c.at-part.result.own (sym c.if-eq.ensures))

pub rename-requires-clause-free : goal.rename-requires-clause-free
rename-requires-clause-free g c = (other_name c.args.files.now c.at-part.result (c.requires.placeable.each c.args.place c.at-part.result (sym c.at-part.ensures)) (unlike c.at-part.result.now c.at-part.result.own (sym c.if-eq.ensures))).1

pub returns-in-Err-Memory-clause-refused : goal.returns-in-Err-Memory-clause-refused
returns-in-Err-Memory-clause-refused g c = none_placed c.args.parts.now.items c.args.place c.at-part.result _ _ _ _ c.at-part.ensures (unlike c.at-part.result.now c.at-part.result.own (sym c.if-eq.ensures)) c.in-Err-Memory.ensures.renames.same c.in-Err-Memory.ensures.renames.keeps

pub returns-in-Err-Failed-clause-refused : goal.returns-in-Err-Failed-clause-refused
returns-in-Err-Failed-clause-refused g c = none_placed c.args.parts.now.items c.args.place c.at-part.result _ _ _ _ c.at-part.ensures (unlike c.at-part.result.now c.at-part.result.own (sym c.if-eq.ensures)) c.in-Err-Failed.ensures.renames.same c.in-Err-Failed.ensures.renames.keeps

pub returns-in-Ok-clause-names : goal.returns-in-Ok-clause-names
returns-in-Ok-clause-names g c front was =
    settled_names c.args.parts.now.items c.settle.new.parts.items c.args.names.now.items c.set_name.new.names.items front c.as_slice.result.now c.as_slice-in-Ok.result.now c.args.place c.at-part.result
    c.at-part.ensures c.settle.ensures.parts c.as_slice.ensures.value c.as_slice-in-Ok.ensures.value (settled_length c.args.parts.now.items c.settle.new.parts.items c.args.place c.at-part.result c.at-part.ensures c.settle.ensures.parts) c.set_name.ensures.names was
