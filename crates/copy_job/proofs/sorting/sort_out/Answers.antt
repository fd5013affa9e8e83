use Rattle.std.proofs.Common.{◌≡◌, ◌<◌, ℕ, suc, List, ◌∷◌, ◌++◌, length, take, drop, get_or, ap, sym, subst, ◌∙◌, drop-cons}
use Rattle.std.proofs.lemmas.List.{take-append-drop}
use Rattle.disk_model.specs.Disk.{Name}
use Rattle.copy_state.specs.declared.meta.FileMetaData.{FileMetaData}
use Rattle.copy_job.specs.Jobs.{IsBeginningFault}
use Rattle.copy_job.proofs.sorting.sort_out.Goals as goal

-- a list about one of its items
about : {X : Type 0} (xs : List X) (i : ℕ) (x : X) → i < length xs → x ≡ get_or xs i x → take i xs ++ x ∷ drop (suc i) xs ≡ xs
about {X} xs i x lt is = ap (λ (y : X). take i xs ++ y ∷ drop (suc i) xs) is ∙ ap (λ (ys : List X). take i xs ++ ys) (sym (drop-cons xs i x lt)) ∙ take-append-drop i xs

pub returns-in-Err-clause-err : goal.returns-in-Err-clause-err
returns-in-Err-clause-err c =
    let files = c.args.files.now in
    let i = c.loop-file.file-index in
    subst (λ (xs : List (Name × FileMetaData)). IsBeginningFault c.args.held.now xs c.in-Err.fault)
    (about files i c.file-item.result c.loop-file-test.true c.file-item.is)
    (c.in-Err.ensures.err (take i files) (drop (suc i) files) c.loop-file.invariant.agreed)
