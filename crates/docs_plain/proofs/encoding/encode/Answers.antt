use Rattle.docs_plain.proofs.FileLaws.{file_framed, small_file}
use Rattle.docs_plain.proofs.encoding.encode.Goals as goal

pub returns : goal.returns
returns c =
    let h = c.in_ok-write_index_header.ensures in
    let b = c.in_ok-push_body.ensures in
    let f = c.in_ok-write_footer.ensures in
    let v = c.in_ok-from_vec.ensures in
    let framed = file_framed c.args.id.now c.new-out.result.items c.write_index_header.new.out.items b.body c.push_body.new.out.items c.write_footer.new.out.items c.in_ok-from_vec.field-0 c.told-id c.new-out.ensures.items h.ok b.added f.ok v.ok in
    record { file = record { body = b.body; framed = framed; spelled = b.spelled.spelled }; small = small_file c.args.id.now c.in_ok-from_vec.field-0 b.body framed b.spelled.small }
