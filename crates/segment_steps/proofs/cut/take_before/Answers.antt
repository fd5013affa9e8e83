use Rattle.std.proofs.Common.{refl}
use Rattle.segment_steps.specs.declared.cut.Marks.{Marks}
use Rattle.segment_steps.proofs.CutRows.{put_marked, key_marked, word_marked}
use Rattle.segment_steps.proofs.cut.take_before.Goals as goal

pub returns-in_ok-insert-in-Put : goal.returns-in_ok-insert-in-Put
returns-in_ok-insert-in-Put c =
    let old = c.args.marks.now in
    let new : Marks = record { dead = c.push.new.self; gone = record { keys = c.insert.new.self; words = old.gone.words } } in
    put_marked c.args.op.now c.in-Put.doc c.in_ok-share-in-Put.field-0 c.in_ok-is_dead-in-Put.is_dead old new c.in-Put.is c.in_ok-share-in-Put.ensures c.in_ok-is_dead-in-Put.ensures c.in_ok-push-in-Put.ensures.items
    c.in_ok-insert-in-Put.ensures.updates.0 refl

pub returns-in_ok-insert-in-Delete : goal.returns-in_ok-insert-in-Delete
returns-in_ok-insert-in-Delete c =
    let old = c.args.marks.now in
    let new : Marks = record { dead = old.dead; gone = record { keys = c.insert-in-Delete.new.self; words = old.gone.words } } in
    key_marked c.args.op.now c.in-Delete.key c.in_ok-share-in-Delete.field-0 old new c.in-Delete.is c.in_ok-share-in-Delete.ensures refl c.in_ok-insert-in-Delete.ensures.updates.0 refl

pub returns-in_ok-insert-in-Drop : goal.returns-in_ok-insert-in-Drop
returns-in_ok-insert-in-Drop c =
    let old = c.args.marks.now in
    let new : Marks = record { dead = old.dead; gone = record { keys = old.gone.keys; words = c.insert-in-Drop.new.self } } in
    word_marked c.args.op.now c.in-Drop.word c.in_ok-share-in-Drop.field-0 old new c.in-Drop.is c.in_ok-share-in-Drop.ensures refl c.in_ok-insert-in-Drop.ensures.updates.0 refl
