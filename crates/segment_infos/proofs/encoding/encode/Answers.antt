use Rattle.std.proofs.Common.{ap, length}
use Rattle.segment_infos.specs.Infos.{infos_body}
use Rattle.segment_infos.proofs.FileLaws.{infos_file}
use Rattle.segment_infos.proofs.encoding.encode.Goals as goal

pub returns : goal.returns
returns c =
    let h = c.in_ok-write_index_header.ensures in
    let b = c.in_ok-push_body.ensures in
    let f = c.in_ok-write_footer.ensures in
    let v = c.in_ok-from_vec.ensures in
    infos_file c.id_of-id.result c.new-out.result.items c.write_index_header.new.out.items (infos_body c.args.infos.now) c.push_body.new.out.items c.write_footer.new.out.items c.in_ok-from_vec.field-0 c.args.infos.now
    (ap length c.id_of-id.ensures) c.id_of-id.ensures c.new-out.ensures.items h.ok b.body b.spelled f.ok v.ok
