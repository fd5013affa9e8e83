use Rattle.std.proofs.Common.{◌≡◌, ℕ, List, sym, ap, subst, ◌∙◌, is_some}
use Rattle.std.specs.Prelude.{Contains}
use Rattle.std.specs.List.{flat_map}
use Rattle.disk_model.specs.Disk.{Name, Cells, reads_of}
use Rattle.file_names.specs.Names.{commit_name_of}
use Rattle.segment_infos.specs.Files.{files_of_segment}
use Rattle.segment_infos.specs.declared.infos.Infos.{Infos}
use Rattle.file_deleter.specs.Holdings.{AreThere, IsThere}
use Rattle.commit_steps.specs.declared.states.Commit.{Commit}
use Rattle.commit_steps.specs.Found.{ShowsCommit}
use Rattle.commit_steps.specs.Flights.{IsCommit}
use Rattle.commit_steps.proofs.Beginning.{names_there, opened_sound}
use Rattle.commit_steps.proofs.stage.CommitBook.opened.Goals as goal

opened_there : (cells : Cells) (c : Commit) (number : ℕ) (infos : Infos) (slice : List Name) → IsCommit c → c.number ≡ number → c.infos ≡ infos → ShowsCommit (reads_of cells) number infos
    → ((q : Name) → Contains (flat_map files_of_segment infos.segs) q → IsThere cells q) → slice ≡ c.names → AreThere cells slice
opened_there cells c number infos slice is number_is infos_is shown there slice_is =
    subst (AreThere cells) (sym slice_is) (names_there cells c is
    (λ q named. there q (subst (λ (x : Infos). Contains (flat_map files_of_segment x.segs) q) infos_is named))
    (ap is_some (ap (λ n. reads_of cells (commit_name_of n)) number_is ∙ shown.newest.there)))

pub hold_there-requires : goal.hold_there-requires
hold_there-requires g c =
    opened_there (g.D.Dir.cells c.args.dir.now) c.in_ok-commit.commit c.args.number c.args.infos.now c.as_slice.result.now c.in_ok-commit.ensures.commit c.in_ok-commit.ensures.number c.in_ok-commit.ensures.infos
    c.requires.shown c.requires.there c.as_slice.ensures

pub returns-in-Ok-clause-sound : goal.returns-in-Ok-clause-sound
returns-in-Ok-clause-sound g c images =
    opened_sound (g.D.Dir.cells c.args.dir.now) c.hold_there.new.self c.in_ok-commit.commit c.args.number c.args.infos.now c.args.next c.in_ok-commit.ensures.commit c.in_ok-commit.ensures.number c.in_ok-commit.ensures.infos
    images c.requires.next
