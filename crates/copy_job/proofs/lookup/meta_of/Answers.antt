use Rattle.std.proofs.Common.{rules}
use Rattle.std.proofs.lemmas.List.Sorted.{answers_always}
use Rattle.copy_job.proofs.Lookups.{found_there, found_none}
use Rattle.copy_job.proofs.lookup.meta_of.Goals as goal

pub returns-in-Ok : goal.returns-in-Ok
returns-in-Ok c =
    found_there c.args.files.now c.args.name.now c.in-Ok.place c.index-files-place.result c.requires c.in-Ok.ensures.bound
    (c.in-Ok.ensures.position (λ file. file.0) (answers_always _ _ _ (λ f a r g called. search rules)) c.index-files-place.result)

pub returns-in-Err : goal.returns-in-Err
returns-in-Err c =
    found_none c.args.files.now c.args.name.now c.in-Err.field-0 c.requires c.in-Err.ensures.bound
    (c.in-Err.ensures.position (λ file. file.0) (answers_always _ _ _ (λ f a r g called. search rules)))
