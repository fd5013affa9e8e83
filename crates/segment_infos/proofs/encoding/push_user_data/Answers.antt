use Rattle.segment_infos.proofs.WritingLaws.{adds_user_data}
use Rattle.segment_infos.proofs.encoding.push_user_data.Goals as goal

pub returns : goal.returns
returns c =
    let e1 = c.in_ok-push_u32.ensures in
    let e2 = c.in_ok-push_string.ensures in
    let e3 = c.in_ok-push_decimal.ensures in
    let e4 = c.in_ok-push_string-2.ensures in
    let e5 = c.in_ok-push_decimal-2.ensures in
    adds_user_data c.args.out.now.items c.push_u32.new.out.items c.push_string.new.out.items c.push_decimal.new.out.items c.push_string-2.new.out.items c.push_decimal-2.new.out.items c.args.generation.0 c.args.version.0 e1.ok e2 e3 e4 e5
