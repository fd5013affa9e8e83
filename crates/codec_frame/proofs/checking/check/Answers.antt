use Rattle.std.proofs.Common.{◌+◌, ◌≤◌, length, refl, ap, ◌∙◌, arith, Err}
use Rattle.std.proofs.lemmas.Result.{err_from_is_err_and}
use Rattle.codec_frame.specs.declared.frame.FrameFault.TheVariants.{Truncated}
use Rattle.codec_frame.specs.Bytes.{AreBytes}
use Rattle.codec_frame.specs.Frame.{wanted, header_length}
use Rattle.codec_frame.proofs.CheckLaws.{too_short, checked_fault, checked_frame}
use Rattle.codec_frame.proofs.checking.check.Goals as goal

pub returns-then-bytes-start : goal.returns-then-bytes-start
returns-then-bytes-start c =
    let fits : AreBytes c.args.bytes.now = λ i. omega (arith, c.type_inv.bytes i) in
    checked_fault (wanted c.args.want.now) c.args.bytes.now Truncated _ fits (λ long. absurd (omega arith)) (too_short (wanted c.args.want.now) c.args.bytes.now c.if-bytes-start.true) refl

pub returns-in_err-version : goal.returns-in_err-version
returns-in_err-version c =
    let fits : AreBytes c.args.bytes.now = λ i. omega (arith, c.type_inv.bytes i) in
    let header = c.in_err-version.ensures in
    let p = err_from_is_err_and c.from_residual.result c.from_residual.ensures.1 in
    checked_fault (wanted c.args.want.now) c.args.bytes.now _ _ fits (λ _. header.newest) header.err (p.1 ∙ ap Err p.2)

pub returns-in_err-check_footer : goal.returns-in_err-check_footer
returns-in_err-check_footer c =
    let fits : AreBytes c.args.bytes.now = λ i. omega (arith, c.type_inv.bytes i) in
    let header = c.in_ok-version.ensures in
    let footer = c.in_err-check_footer.ensures in
    let p = err_from_is_err_and c.from_residual-in_err-check_footer.result c.from_residual-in_err-check_footer.ensures.1 in
    checked_fault (wanted c.args.want.now) c.args.bytes.now _ _ fits (λ _. header.newest) footer.err (p.1 ∙ ap Err p.2)

pub returns : goal.returns
returns c =
    let fits : AreBytes c.args.bytes.now = λ i. omega (arith, c.type_inv.bytes i) in
    let long : header_length (wanted c.args.want.now) + 16 ≤ length c.args.bytes.now = c.if-bytes-start.false in
    let header = c.in_ok-version.ensures in
    checked_frame (wanted c.args.want.now) c.args.bytes.now _ fits long header.newest header.ok c.in_ok-check_footer.ensures.ok refl refl
