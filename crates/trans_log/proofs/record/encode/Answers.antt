use Rattle.std.proofs.Common.{ap, length}
use Rattle.trans_log.proofs.FileLaws.{record_file}
use Rattle.trans_log.proofs.record.encode.Goals as goal

pub returns : goal.returns
returns c =
    let h = c.in_ok-write_index_header.ensures in
    let b = c.in_ok-push_body.ensures in
    let f = c.in_ok-write_footer.ensures in
    let v = c.in_ok-from_vec.ensures in
    record_file c.args.number c.id_of-id.result c.new-out.result.items c.write_index_header.new.out.items b.body c.push_body.new.out.items c.write_footer.new.out.items c.in_ok-from_vec.field-0 c.args.entry.now
    (ap length c.id_of-id.ensures) c.id_of-id.ensures c.new-out.ensures.items h.ok b.added b.spelled f.ok v.ok
