use Rattle.std.proofs.Common.{List, refl, sym, ap, subst, ◌∙◌}
use Rattle.file_deleter.specs.Holdings.{Holdings, count_of}
use Rattle.index_primary.specs.declared.states.Merging.{Merging}
use Rattle.index_primary.specs.Primary.{IsPrimary}
use Rattle.index_primary.specs.Calls.{DrawsOnly}
use Rattle.index_primary.proofs.Begins.{note_refused, start_fit, start_there, start_begins, start_draws, start_no_new, start_starts}
use Rattle.index_primary.proofs.merge_starts.begin.Goals as goal

pub note-requires : goal.note-requires
note-requires g c = rw (c.as_slice.ensures, c.in-Ok.ensures.held)
    (start_there g.D.Dir.cells c.args.parts.now c.requires.whole c.args.factor c.requires.factor c.args.start c.requires.start c.requires.more c.in-Ok.ready.task c.in-Ok.ensures.task c.in-Ok.ready.names c.in-Ok.ensures.names)

pub returns-in-Ok-note-clause-starts : goal.returns-in-Ok-note-clause-starts
returns-in-Ok-note-clause-starts g c = rw c.in-Ok-note.ensures.merges
    (start_starts g.D.Dir.cells c.args.parts.now c.requires.whole c.args.factor c.requires.factor c.args.start c.requires.start c.requires.more c.in-Ok.ready.task c.in-Ok.ensures.task c.in-Ok.ready.names c.in-Ok.ensures.names
    c.note.new.files (rw (c.as_slice.ensures, c.in-Ok.ensures.held) at c.in-Ok-note.ensures.holds))

pub returns-in-Ok-note-clause-fit : goal.returns-in-Ok-note-clause-fit
returns-in-Ok-note-clause-fit g c = start_fit g.D.Dir.cells c.args.parts.now c.requires.whole c.args.factor c.requires.factor c.args.start c.requires.start c.requires.more

pub returns-in-Ok-note-clause-whole : goal.returns-in-Ok-note-clause-whole
returns-in-Ok-note-clause-whole g c = rw c.in-Ok-note.ensures.merges
    (start_begins g.D.Dir.cells c.args.parts.now c.requires.whole c.args.factor c.requires.factor c.args.start c.requires.start c.requires.more c.in-Ok.ready.task c.in-Ok.ensures.task c.in-Ok.ready.names c.in-Ok.ensures.names
    c.note.new.files (rw (c.as_slice.ensures, c.in-Ok.ensures.held) at c.in-Ok-note.ensures.holds))

pub returns-in-Ok-note-clause-drawn : goal.returns-in-Ok-note-clause-drawn
returns-in-Ok-note-clause-drawn g c = rw c.in-Ok-note.ensures.merges
    (start_draws g.D.Dir.cells c.args.parts.now c.requires.whole c.args.factor c.requires.factor c.args.start c.requires.start c.requires.more c.in-Ok.ready.task c.in-Ok.ensures.task c.in-Ok.ready.names c.in-Ok.ensures.names
    c.note.new.files (rw (c.as_slice.ensures, c.in-Ok.ensures.held) at c.in-Ok-note.ensures.holds))

pub returns-in-Ok-note-clause-no_new : goal.returns-in-Ok-note-clause-no_new
returns-in-Ok-note-clause-no_new g c = rw c.in-Ok-note.ensures.merges
    (start_no_new g.D.Dir.cells c.args.parts.now c.requires.whole c.args.factor c.requires.factor c.args.start c.requires.start c.requires.more c.in-Ok.ready.task c.in-Ok.ensures.task c.in-Ok.ready.names c.in-Ok.ensures.names
    c.note.new.files (rw (c.as_slice.ensures, c.in-Ok.ensures.held) at c.in-Ok-note.ensures.holds))

pub returns-in-Ok-note-clause-stays : goal.returns-in-Ok-note-clause-stays
returns-in-Ok-note-clause-stays g c = record { held = λ q had has. refl }

-- nothing is drawn
pub returns-in_default-clause-stays : goal.returns-in_default-clause-stays
returns-in_default-clause-stays g c = record { held = λ q had has. refl }

pub returns-in_default-clause-no_new : goal.returns-in_default-clause-no_new
returns-in_default-clause-no_new g c = record { each = λ q none. none }

pub returns-in_default-clause-drawn : goal.returns-in_default-clause-drawn
returns-in_default-clause-drawn g c = record { each = λ q u. u }

pub returns-in_default-clause-whole : goal.returns-in_default-clause-whole
returns-in_default-clause-whole g c = c.requires.whole

pub returns-in-Err-clause-err : goal.returns-in-Err-clause-err
returns-in-Err-clause-err g c = note_refused c.args.parts.now c.note.new.files c.note.new.merges c.in-Err.ensures.err.0 c.in-Err.ensures.err.1

pub returns-in-Err-clause-stays : goal.returns-in-Err-clause-stays
returns-in-Err-clause-stays g c = record { held = λ q had has. refl }

pub returns-in-Err-clause-no_new : goal.returns-in-Err-clause-no_new
returns-in-Err-clause-no_new g c = record { each = λ q none. ap (λ (h : Holdings). count_of h q) c.in-Err.ensures.err.1 ∙ none }

pub returns-in-Err-clause-whole : goal.returns-in-Err-clause-whole
returns-in-Err-clause-whole g c = subst (IsPrimary g.D.Dir.cells) (sym (note_refused c.args.parts.now c.note.new.files c.note.new.merges c.in-Err.ensures.err.0 c.in-Err.ensures.err.1)) c.requires.whole

pub returns-in-Err-clause-drawn : goal.returns-in-Err-clause-drawn
returns-in-Err-clause-drawn g c = let p = c.args.parts.now in
    subst (λ (ms : List Merging). DrawsOnly p (record p { files = c.note.new.files; merges = ms })) (sym c.in-Err.ensures.err.0) (record { each = λ q u. u })
