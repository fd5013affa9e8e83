use Rattle.std.proofs.Common.{ℕ, List, ◌++◌, [], ◌<◌, ◌^◌, length, refl, ap, ◌∙◌}
use Rattle.codec_frame.specs.Frame.{index_header}
use Rattle.body_forms.proofs.FileLaws.{framed_file, of_each_body}
use Rattle.postings_plain.specs.Body.{format_wanted}
use Rattle.postings_plain.proofs.FileLaws.{postings_kind}
use Rattle.postings_plain.proofs.encoding.encode_found.Goals as goal

pub returns : goal.returns
returns c =
    let format = c.args.format in
    let id = c.args.id.now in
    let h = c.in_ok-write_index_header.ensures in
    let f = c.in_ok-write_footer.ensures in
    let v = c.in_ok-from_vec.ensures in
    let one = (postings_kind format id).version in
    let w = c.requires in
    let b = c.in_ok-push_body.ensures w.0 w.1 w.2 w.3 in
    record {
      file = λ rows g few some.
          let b = c.in_ok-push_body.ensures rows g few some in
          let framed = framed_file (format_wanted format id) id c.new-out.result.items c.write_index_header.new.out.items b.body c.push_body.new.out.items c.write_footer.new.out.items c.in_ok-from_vec.field-0
          one c.told-id refl c.new-out.ensures.items (h.ok ∙ ap (λ (n : ℕ). c.new-out.result.items ++ index_header (format_wanted format id).name n id []) (c.from.ensures ∙ c.number.ensures.value)) b.added f.ok v.ok in
          (b.spelled.entries, b.spelled.are, record { body = b.body; framed = framed; spelled = b.spelled.spelled });
      small =
          let framed = framed_file (format_wanted format id) id c.new-out.result.items c.write_index_header.new.out.items b.body c.push_body.new.out.items c.write_footer.new.out.items c.in_ok-from_vec.field-0
          one c.told-id refl c.new-out.ensures.items (h.ok ∙ ap (λ (n : ℕ). c.new-out.result.items ++ index_header (format_wanted format id).name n id []) (c.from.ensures ∙ c.number.ensures.value)) b.added f.ok v.ok in
          of_each_body (format_wanted format id) id c.in_ok-from_vec.field-0 b.body (λ (body : List ℕ). length body < 2 ^ 32) one framed b.spelled.small;
    }
