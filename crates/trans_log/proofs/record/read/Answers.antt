use Rattle.std.proofs.Common.{refl, sym, subst, arith}
use Rattle.codec_frame.specs.declared.frame.FileFault.TheVariants.{Frame}
use Rattle.body_forms.specs.declared.read_fault.ReadFault.TheVariants.{File, Memory}
use Rattle.body_forms.proofs.FileLaws.{err_of, frame_lies, body_of, body_fits}
use Rattle.trans_log.specs.Records.{SpellsRecord}
use Rattle.trans_log.specs.Reading.{record_of_fields}
use Rattle.trans_log.proofs.FileLaws.{fields_spelled, none_spelled, frame_told, body_told, memory_told, record_told, same_record}
use Rattle.trans_log.proofs.record.read.Goals as goal

pub slice_bounds-fields_of-count : goal.slice_bounds-fields_of-count
slice_bounds-fields_of-count c = (frame_lies c.frame_of.ensures c.in_ok-frame.frame c.in_ok-frame.was).ordered

pub slice_bounds-fields_of-start : goal.slice_bounds-fields_of-start
slice_bounds-fields_of-start c = (frame_lies c.frame_of.ensures c.in_ok-frame.frame c.in_ok-frame.was).ordered

pub returns-in_err-frame : goal.returns-in_err-frame
returns-in_err-frame c =
    let from = c.from_residual.ensures in
    frame_told c.args.id.now c.args.bytes.now c.frame_of.result c.frame_of.ensures c.in_err-frame.field-0.0 c.from_residual.result c.in_err-frame.was (err_of c.from_residual.result (File (Frame c.in_err-frame.field-0.0)) from.1)

pub returns-in_default : goal.returns-in_default
returns-in_default c =
    body_told c.args.id.now c.args.bytes.now c.frame_of.result c.frame_of.ensures c.in_ok-frame.frame _ c.in_ok-frame.was (none_spelled (body_of c.args.bytes.now c.in_ok-frame.frame) c.in_default.ensures) refl

pub op_from-requires : goal.op_from-requires
op_from-requires c = (fields_spelled (body_of c.args.bytes.now c.in_ok-frame.frame) c.in-Some.fields (body_fits c.args.bytes.now c.in_ok-frame.frame (λ i. omega (arith, c.type_inv.bytes i))) c.in-Some.ensures).op

pub returns-in_err-op : goal.returns-in_err-op
returns-in_err-op c =
    let s = fields_spelled (body_of c.args.bytes.now c.in_ok-frame.frame) c.in-Some.fields (body_fits c.args.bytes.now c.in_ok-frame.frame (λ i. omega (arith, c.type_inv.bytes i))) c.in-Some.ensures in
    let from = c.from_residual-in_err-op.ensures in
    memory_told c.args.id.now c.args.bytes.now c.frame_of.result c.frame_of.ensures c.in_ok-frame.frame (record_of_fields c.in-Some.fields) c.from_residual-in_err-op.result c.in_ok-frame.was s (err_of c.from_residual-in_err-op.result Memory from.1)

pub returns : goal.returns
returns c =
    let s = fields_spelled (body_of c.args.bytes.now c.in_ok-frame.frame) c.in-Some.fields (body_fits c.args.bytes.now c.in_ok-frame.frame (λ i. omega (arith, c.type_inv.bytes i))) c.in-Some.ensures in
    let same = same_record c.in-Some.fields (record { generation = record { 0 = c.in-Some.fields.generation }; seq = c.in-Some.fields.seq; op = c.in_ok-op.op }) refl refl c.in_ok-op.ensures in
    record_told c.args.id.now c.args.bytes.now c.frame_of.result c.frame_of.ensures c.in_ok-frame.frame _ _ c.in_ok-frame.was (subst (SpellsRecord (body_of c.args.bytes.now c.in_ok-frame.frame)) (sym same) s) refl
