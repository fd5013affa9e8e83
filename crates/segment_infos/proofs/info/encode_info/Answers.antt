use Rattle.segment_infos.specs.SegmentInfo.{info_body}
use Rattle.segment_infos.proofs.FileLaws.{info_file}
use Rattle.segment_infos.proofs.info.encode_info.Goals as goal

pub returns : goal.returns
returns c =
    let h = c.in_ok-write_index_header.ensures in
    let b = c.in_ok-push_body.ensures in
    let f = c.in_ok-write_footer.ensures in
    let v = c.in_ok-from_vec.ensures in
    info_file c.args.id.now c.new-out.result.items c.write_index_header.new.out.items (info_body c.args.info.now) c.push_body.new.out.items c.write_footer.new.out.items c.in_ok-from_vec.field-0 c.args.info.now
    c.told-id c.new-out.ensures.items h.ok b.body b.spelled f.ok v.ok
