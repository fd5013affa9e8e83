use Rattle.std.proofs.Common.{Option, Some, Err, sym, ap, subst, ◌∙◌, max}
use Rattle.std.proofs.lemmas.Result.{err_from_is_err_and}
use Rattle.std.specs.Prelude.{IfSome}
use Rattle.file_deleter.specs.Holdings.{Holdings}
use Rattle.file_deleter.specs.Removals.{directory_of}
use Rattle.commit_steps.specs.declared.stage.Stage.{Stage}
use Rattle.commit_steps.specs.declared.stage.Progress.{Progress}
use Rattle.commit_steps.specs.declared.stage.CommitBook.{CommitBook}
use Rattle.commit_steps.specs.Commits.{ImagesHave}
use Rattle.commit_steps.specs.Book.{commit_of, is_last_step, Leads, IsBookStep}
use Rattle.commit_steps.proofs.Books.{step_refused, going, going_not_last, made, made_images}
use Rattle.commit_steps.proofs.StepCounts.{uncounted, made_last, ends_commit}
use Rattle.commit_steps.proofs.stage.CommitBook.step_on.Goals as goal

pub returns-in_err-make_room-clause-step : goal.returns-in_err-make_room-clause-step
returns-in_err-make_room-clause-step g c =
    subst (λ (h : Holdings). IsBookStep (g.D.Dir.cells c.args.dir.now) (g.D.Dir.cells c.args.dir.now) c.args.files.now h c.args.self.now c.args.self.now) (sym c.in_err-make_room.ensures.err)
    (step_refused (g.D.Dir.cells c.args.dir.now) c.args.files.now c.args.self.now c.requires.sound c.requires.counted)

pub returns-in-Ok-Going-clause-step : goal.returns-in-Ok-Going-clause-step
returns-in-Ok-Going-clause-step g c = rw c.put.ensures
    (going (g.D.Dir.cells c.args.dir.now) (g.D.Dir.cells c.advance.new.dir) c.args.files.now c.make_room.new.self c.advance.new.files (max c.args.files.now.room 1) c.args.self.now c.in-Some.stage
    c.in_ok-make_room.ensures.ok (sym c.in-Some.ensures.value) c.requires.sound c.in-Ok-Going.stage (subst (λ (p : Progress). Leads (g.D.Dir.cells c.args.dir.now) (g.D.Dir.cells c.advance.new.dir) c.make_room.new.self c.advance.new.files c.in-Some.stage p) c.in-Ok-Going.field-0-is c.in-Ok-Going.ensures.advances.ok.1) c.requires.counted)

pub returns-in-Ok-Going-clause-done : goal.returns-in-Ok-Going-clause-done
returns-in-Ok-Going-clause-done g c = going_not_last c.in-Some.stage c.in-Ok-Going.stage (sym c.in-Ok-Going.field-0-is ∙ c.in-Ok-Going.ensures.advances.ok.0) ∙ ap is_last_step c.in-Some.ensures.value

pub returns-in-Ok-Made-clause-step : goal.returns-in-Ok-Made-clause-step
returns-in-Ok-Made-clause-step g c =
    subst (λ (b : CommitBook). IsBookStep (g.D.Dir.cells c.args.dir.now) (g.D.Dir.cells c.make.new.dir) c.args.files.now c.make.new.files c.args.self.now b)
    (sym (c.make.ensures.book ∙ ap (λ (o : Option Stage). record { last = Some c.in-Ok-Made.commit; stage = o; next = c.args.self.now.next }) c.take.ensures.after))
    (made (g.D.Dir.cells c.args.dir.now) (g.D.Dir.cells c.advance.new.dir) c.args.files.now c.make_room.new.self c.advance.new.files (max c.args.files.now.room 1) c.args.self.now c.in-Some.stage
    c.in_ok-make_room.ensures.ok (sym c.in-Some.ensures.value) c.requires.sound c.in-Ok-Made.commit (subst (λ (p : Progress). Leads (g.D.Dir.cells c.args.dir.now) (g.D.Dir.cells c.advance.new.dir) c.make_room.new.self c.advance.new.files c.in-Some.stage p) c.in-Ok-Made.field-0-is c.in-Ok-Made.ensures.advances.ok.1) c.requires.counted c.make.new.files (g.D.Dir.cells c.make.new.dir) c.make.ensures.lets)

pub returns-in-Ok-Made-clause-made : goal.returns-in-Ok-Made-clause-made
returns-in-Ok-Made-clause-made g c told =
    subst (λ (o : Option Stage). IfSome o (λ s. ImagesHave (g.D.Dir.cells c.make.new.dir) (commit_of s))) c.in-Some.ensures.value
    (subst (ImagesHave (g.D.Dir.cells c.make.new.dir)) (subst (λ (p : Progress). Leads (g.D.Dir.cells c.args.dir.now) (g.D.Dir.cells c.advance.new.dir) c.make_room.new.self c.advance.new.files c.in-Some.stage p) c.in-Ok-Made.field-0-is c.in-Ok-Made.ensures.advances.ok.1).same
    (made_images (g.D.Dir.cells c.args.dir.now) (g.D.Dir.cells c.advance.new.dir) c.args.files.now c.make_room.new.self c.advance.new.files (max c.args.files.now.room 1) c.args.self.now c.in-Some.stage
    c.in_ok-make_room.ensures.ok (sym c.in-Some.ensures.value) c.requires.sound c.in-Ok-Made.commit (subst (λ (p : Progress). Leads (g.D.Dir.cells c.args.dir.now) (g.D.Dir.cells c.advance.new.dir) c.make_room.new.self c.advance.new.files c.in-Some.stage p) c.in-Ok-Made.field-0-is c.in-Ok-Made.ensures.advances.ok.1) c.requires.counted c.make.new.files (g.D.Dir.cells c.make.new.dir) c.make.ensures.lets))

pub returns-in-Err-clause-step : goal.returns-in-Err-clause-step
returns-in-Err-clause-step g c = rw c.put-in-Err.ensures
    (subst (λ (s : Stage). IsBookStep (g.D.Dir.cells c.args.dir.now) (g.D.Dir.cells c.advance.new.dir) c.args.files.now c.advance.new.files c.args.self.now (record { last = c.args.self.now.last; stage = Some s; next = c.args.self.now.next }))
    (sym c.in-Err.ensures.advances.err.0)
    (going (g.D.Dir.cells c.args.dir.now) (g.D.Dir.cells c.advance.new.dir) c.args.files.now c.make_room.new.self c.advance.new.files (max c.args.files.now.room 1) c.args.self.now c.in-Some.stage
    c.in_ok-make_room.ensures.ok (sym c.in-Some.ensures.value) c.requires.sound c.in-Some.stage c.in-Err.ensures.advances.err.1 c.requires.counted))

pub returns-in_err-make_room-clause-calls : goal.returns-in_err-make_room-clause-calls
returns-in_err-make_room-clause-calls g c =
    let p = err_from_is_err_and c.from_residual.result c.from_residual.ensures.1 in rw (p.1 ∙ ap Err p.2) (uncounted (g.D.Dir.plans c.args.dir.now))

pub returns-in-Ok-Made-clause-calls : goal.returns-in-Ok-Made-clause-calls
returns-in-Ok-Made-clause-calls g c =
    let last = c.in-Ok-Made.ensures.last (made_last c.in-Some.stage c.in-Ok-Made.commit (sym c.in-Ok-Made.field-0-is ∙ c.in-Ok-Made.ensures.advances.ok.0)) in
    ends_commit c.args.self.now.last c.args.files.now c.make_room.new.self c.advance.new.files c.make.new.files (max c.args.files.now.room 1)
    (directory_of g.D.Dir.cells g.D.Dir.plans g.D.Dir.faults c.args.dir.now) (directory_of g.D.Dir.cells g.D.Dir.plans g.D.Dir.faults c.advance.new.dir) (directory_of g.D.Dir.cells g.D.Dir.plans g.D.Dir.faults c.make.new.dir)
    c.in_ok-make_room.ensures.ok last.0 last.1 c.in-Ok-Made.ensures.plans c.make.ensures.removals
