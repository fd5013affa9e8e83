use Rattle.std.proofs.Common.{List, ℕ, refl, sym, subst}
use Rattle.body_forms.proofs.FileLaws.{body_of, frame_lies}
use Rattle.live_bits.specs.LiveRows.{SpellsLiveRows}
use Rattle.live_bits.specs.Held.{rows_in}
use Rattle.live_bits.proofs.Bodies.{spelled}
use Rattle.live_bits.proofs.FileLaws.{refused_frame, refused_body, no_memory, read_whole}
use Rattle.live_bits.proofs.file.read_live.Goals as goal

pub slice_bounds-parts_of-count : goal.slice_bounds-parts_of-count
slice_bounds-parts_of-count c = (frame_lies c.frame_of.ensures c.in_ok-frame.frame c.in_ok-frame.was).ordered

pub slice_bounds-parts_of-start : goal.slice_bounds-parts_of-start
slice_bounds-parts_of-start c = (frame_lies c.frame_of.ensures c.in_ok-frame.frame c.in_ok-frame.was).ordered

pub returns-in_err-frame : goal.returns-in_err-frame
returns-in_err-frame c =
    let from = c.from_residual.ensures in
    refused_frame c.args.id.now c.args.live_gen c.frame_of.ensures c.from_residual.result c.in_err-frame.field-0.0 c.in_err-frame.was from.1

pub returns-in_err-from_slice-in-Some : goal.returns-in_err-from_slice-in-Some
returns-in_err-from_slice-in-Some c =
    let parts = c.in-Some.parts in
    let told = c.in-Some.ensures in
    let s = spelled (body_of c.args.bytes.now c.in_ok-frame.frame) parts.bits.now parts.rows parts.live told.some.held told.some.whole in
    let from = c.from_residual-in_err-from_slice-in-Some.ensures in
    no_memory c.args.id.now c.args.live_gen c.frame_of.ensures c.from_residual-in_err-from_slice-in-Some.result c.in_ok-frame.frame (rows_in parts.rows parts.bits.now) c.in_ok-frame.was s from.1

pub returns-in_ok-from_slice-in-Some : goal.returns-in_ok-from_slice-in-Some
returns-in_ok-from_slice-in-Some c =
    let parts = c.in-Some.parts in
    let told = c.in-Some.ensures in
    let body = body_of c.args.bytes.now c.in_ok-frame.frame in
    let s = spelled body parts.bits.now parts.rows parts.live told.some.held told.some.whole in
    let copied = c.in_ok-from_slice-in-Some.ensures in
    let t = subst (λ (bits : List ℕ). SpellsLiveRows body (rows_in parts.rows bits)) (sym copied.items) s in
    read_whole c.args.id.now c.args.live_gen c.frame_of.ensures _ c.in_ok-frame.frame (rows_in parts.rows c.in_ok-from_slice-in-Some.field-0.items) c.in_ok-frame.was t refl

pub returns-in-None : goal.returns-in-None
returns-in-None c =
    let told = c.in-None.ensures in
    refused_body c.args.id.now c.args.live_gen c.frame_of.ensures _ c.in_ok-frame.frame c.in_ok-frame.was told.none refl
