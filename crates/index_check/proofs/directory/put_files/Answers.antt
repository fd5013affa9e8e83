use Rattle.std.proofs.Common.{List, [], ◌∷◌, ◌++◌, ap, sym, ◌∙◌, append_assoc}
use Rattle.std.specs.Vec.Iter.{into_iter_items}
use Rattle.disk_model.specs.Disk.{reads_of}
use Rattle.disk_memory.specs.Memory.{cells_in}
use Rattle.index_check.specs.Images.{NamedFile}
use Rattle.index_check.proofs.Filling.{next_unread, one_more}
use Rattle.index_check.proofs.directory.put_files.Goals as goal

pub put_file-requires : goal.put_file-requires
put_file-requires c =
    let whole = c.loop-name.invariant.left ∙ ap (λ (left : List NamedFile). c.loop-name.yielded ++ left) c.in-Some.ensures.steps.0 in
    next_unread (reads_of (cells_in c.loop-name.dir)) c.loop-name.yielded (into_iter_items c.next.new.self) c.args.files.items (c.in-Some.name, c.in-Some.bytes) c.loop-name.invariant.reads whole c.requires.ascending

pub loop-name-preserved : goal.loop-name-preserved
loop-name-preserved c =
    let whole = c.loop-name.invariant.left ∙ ap (λ (left : List NamedFile). c.loop-name.yielded ++ left) c.in-Some.ensures.steps.0 in
    record {
      reads = one_more c.loop-name.yielded c.in-Some.name c.in-Some.bytes (reads_of (cells_in c.loop-name.dir)) (reads_of (cells_in c.put_file.new.dir)) c.loop-name.invariant.reads c.in_ok-put_file.ensures;
      left = whole ∙ sym (append_assoc c.loop-name.yielded ((c.in-Some.name, c.in-Some.bytes) ∷ []) (into_iter_items c.next.new.self));
    }
