use Rattle.std.proofs.Common.{◌∙◌, ap, sym, refl, Some, inl, true}
use Rattle.replica_node.proofs.Finished.{ready, point_counted, gone_counted}
use Rattle.replica_node.proofs.Beside.{standing_jobs}
use Rattle.replica_node.proofs.Keeping.{core_of}
use Rattle.replica_node.proofs.Parted.{copies_split, left_settled, left_unexpected, pending_parted}
use Rattle.replica_node.proofs.Switched.{noted_whole, noted_still, want_slice, refused_core, refused_whole, refused_sourced, refused_held, done_whole, done_sourced, done_held, done_stays, done_stands, done_standing}
use Rattle.searcher_switch.proofs.Appearing.{keeps_none, only_then_none}
use Rattle.replica_node.specs.Sources.{IsWantedName}
use Rattle.replica_node.proofs.Appears.{parts_appear}
use Rattle.replica_node.proofs.replica.Replica.finish.Goals as goal

pub advance-requires-clause-ready : goal.advance-requires-clause-ready
advance-requires-clause-ready g c = ready g.D.Dir.cells c.self.inside.parts (core_of g.D.Dir.cells c.self.inside.parts c.self.invariant) c.in-Some-take.field-0 (sym c.in-Some-take.ensures.value) (rw (← c.self.view_is) at c.requires.complete) (rw (← c.self.view_is) at c.requires.standing)

pub advance-requires-clause-counted : goal.advance-requires-clause-counted
advance-requires-clause-counted g c =
    point_counted g.D.Dir.cells c.self.inside.parts (core_of g.D.Dir.cells c.self.inside.parts c.self.invariant) c.in-Some-take.field-0 (sym c.in-Some-take.ensures.value) (rw (← c.self.view_is) at c.requires.complete) (rw (← c.self.view_is) at c.requires.standing)

pub release-requires : goal.release-requires
release-requires g c =
    gone_counted g.D.Dir.cells c.self.inside.parts (core_of g.D.Dir.cells c.self.inside.parts c.self.invariant) c.in-Some-take.field-0 (sym c.in-Some-take.ensures.value) (rw (← c.self.view_is) at c.requires.complete) (rw (← c.self.view_is) at c.requires.standing) c.advance.new.dir c.advance.new.files c.advance.new.copy c.in-Ok-advance.ensures.job c.in-Ok-advance.ensures.parts
    (record { running = c.self.inside.parts.copies.running; pending = c.in-Ok-part_pending.left.pending }) c.as_slice-2.result.now (copies_split c.self.inside.parts.copies c.want-2.result.now c.in-Ok-part_pending.left c.in-Ok-part_pending.ensures c.as_slice-2.result.now c.as_slice-2.ensures.value) c.in-Ok-advance.point c.in-Ok-advance.ensures.ok c.as_slice-in-Ok-advance.result.now c.as_slice-in-Ok-advance.ensures

pub invariant_of-self-in-Ok-advance : goal.invariant_of-self-in-Ok-advance
invariant_of-self-in-Ok-advance g c =
    done_whole g.D.Dir.cells c.self.inside.parts c.self.invariant c.in-Some-take.field-0 (sym c.in-Some-take.ensures.value) (rw (← c.self.view_is) at c.requires.complete) (rw (← c.self.view_is) at c.requires.standing) c.as_slice.result.now c.note_wanted.new.known (want_slice c.self.inside.parts.job c.in-Some.job c.in-Some-take.field-0 c.as_slice.result.now c.in-Some.is (sym c.in-Some-take.ensures.value) (c.as_slice.ensures ∙ ap (λ w. w.files) c.want.ensures)) c.note_wanted.ensures.some c.in-Ok.ensures.all c.advance.new.dir c.advance.new.files c.advance.new.copy c.in-Ok-advance.ensures.job c.in-Ok-advance.ensures.parts
    (record { running = c.self.inside.parts.copies.running; pending = c.in-Ok-part_pending.left.pending }) c.as_slice-2.result.now (copies_split c.self.inside.parts.copies c.want-2.result.now c.in-Ok-part_pending.left c.in-Ok-part_pending.ensures c.as_slice-2.result.now c.as_slice-2.ensures.value) refl (left_settled c.self.inside.parts.copies.pending c.want-2.result.now c.in-Ok-part_pending.left c.in-Ok-part_pending.ensures c.self.invariant.merges.pending) (left_unexpected c.self.inside.parts.copies.pending c.want-2.result.now c.in-Ok-part_pending.left c.in-Ok-part_pending.ensures c.self.invariant.merges.unexpected) c.in-Ok-advance.point c.in-Ok-advance.ensures.ok c.as_slice-in-Ok-advance.result.now c.as_slice-in-Ok-advance.ensures c.release.new.dir c.release.new.self c.replace.new.self c.take.new.self c.release.ensures.lets_go c.replace.ensures.point c.replace.ensures.tickets c.take.ensures.after
    c.keep_held.new.self c.keep_held.ensures

pub returns-in-Ok-advance-clause-whole : goal.returns-in-Ok-advance-clause-whole
returns-in-Ok-advance-clause-whole g c =
    done_whole g.D.Dir.cells c.self.inside.parts c.self.invariant c.in-Some-take.field-0 (sym c.in-Some-take.ensures.value) (rw (← c.self.view_is) at c.requires.complete) (rw (← c.self.view_is) at c.requires.standing) c.as_slice.result.now c.note_wanted.new.known (want_slice c.self.inside.parts.job c.in-Some.job c.in-Some-take.field-0 c.as_slice.result.now c.in-Some.is (sym c.in-Some-take.ensures.value) (c.as_slice.ensures ∙ ap (λ w. w.files) c.want.ensures)) c.note_wanted.ensures.some c.in-Ok.ensures.all c.advance.new.dir c.advance.new.files c.advance.new.copy c.in-Ok-advance.ensures.job c.in-Ok-advance.ensures.parts
    (record { running = c.self.inside.parts.copies.running; pending = c.in-Ok-part_pending.left.pending }) c.as_slice-2.result.now (copies_split c.self.inside.parts.copies c.want-2.result.now c.in-Ok-part_pending.left c.in-Ok-part_pending.ensures c.as_slice-2.result.now c.as_slice-2.ensures.value) refl (left_settled c.self.inside.parts.copies.pending c.want-2.result.now c.in-Ok-part_pending.left c.in-Ok-part_pending.ensures c.self.invariant.merges.pending) (left_unexpected c.self.inside.parts.copies.pending c.want-2.result.now c.in-Ok-part_pending.left c.in-Ok-part_pending.ensures c.self.invariant.merges.unexpected) c.in-Ok-advance.point c.in-Ok-advance.ensures.ok c.as_slice-in-Ok-advance.result.now c.as_slice-in-Ok-advance.ensures c.release.new.dir c.release.new.self c.replace.new.self c.take.new.self c.release.ensures.lets_go c.replace.ensures.point c.replace.ensures.tickets c.take.ensures.after
    c.keep_held.new.self c.keep_held.ensures

pub returns-in-Ok-advance-clause-sourced : goal.returns-in-Ok-advance-clause-sourced
returns-in-Ok-advance-clause-sourced g c = rw (← c.self.view_is)
    (done_sourced g.D.Dir.cells c.self.inside.parts c.self.invariant c.in-Some-take.field-0 (sym c.in-Some-take.ensures.value) (rw (← c.self.view_is) at c.requires.complete) (rw (← c.self.view_is) at c.requires.standing) c.as_slice.result.now c.note_wanted.new.known (want_slice c.self.inside.parts.job c.in-Some.job c.in-Some-take.field-0 c.as_slice.result.now c.in-Some.is (sym c.in-Some-take.ensures.value) (c.as_slice.ensures ∙ ap (λ w. w.files) c.want.ensures)) c.note_wanted.ensures.some c.in-Ok.ensures.all c.advance.new.dir c.advance.new.files c.advance.new.copy c.in-Ok-advance.ensures.job c.in-Ok-advance.ensures.parts
    (record { running = c.self.inside.parts.copies.running; pending = c.in-Ok-part_pending.left.pending }) c.as_slice-2.result.now (copies_split c.self.inside.parts.copies c.want-2.result.now c.in-Ok-part_pending.left c.in-Ok-part_pending.ensures c.as_slice-2.result.now c.as_slice-2.ensures.value) refl (left_settled c.self.inside.parts.copies.pending c.want-2.result.now c.in-Ok-part_pending.left c.in-Ok-part_pending.ensures c.self.invariant.merges.pending) (left_unexpected c.self.inside.parts.copies.pending c.want-2.result.now c.in-Ok-part_pending.left c.in-Ok-part_pending.ensures c.self.invariant.merges.unexpected) c.in-Ok-advance.point c.in-Ok-advance.ensures.ok c.as_slice-in-Ok-advance.result.now c.as_slice-in-Ok-advance.ensures c.release.new.dir c.release.new.self c.replace.new.self c.take.new.self c.release.ensures.lets_go c.replace.ensures.point c.replace.ensures.tickets c.take.ensures.after
    c.keep_held.new.self c.keep_held.ensures)

pub returns-in-Ok-advance-clause-held : goal.returns-in-Ok-advance-clause-held
returns-in-Ok-advance-clause-held g c = rw (← c.self.view_is)
    (done_held g.D.Dir.cells c.self.inside.parts c.self.invariant c.in-Some-take.field-0 (sym c.in-Some-take.ensures.value) (rw (← c.self.view_is) at c.requires.complete) (rw (← c.self.view_is) at c.requires.standing) c.as_slice.result.now c.note_wanted.new.known (want_slice c.self.inside.parts.job c.in-Some.job c.in-Some-take.field-0 c.as_slice.result.now c.in-Some.is (sym c.in-Some-take.ensures.value) (c.as_slice.ensures ∙ ap (λ w. w.files) c.want.ensures)) c.note_wanted.ensures.some c.in-Ok.ensures.all c.advance.new.dir c.advance.new.files c.advance.new.copy c.in-Ok-advance.ensures.job c.in-Ok-advance.ensures.parts
    (record { running = c.self.inside.parts.copies.running; pending = c.in-Ok-part_pending.left.pending }) c.as_slice-2.result.now (copies_split c.self.inside.parts.copies c.want-2.result.now c.in-Ok-part_pending.left c.in-Ok-part_pending.ensures c.as_slice-2.result.now c.as_slice-2.ensures.value) refl (left_settled c.self.inside.parts.copies.pending c.want-2.result.now c.in-Ok-part_pending.left c.in-Ok-part_pending.ensures c.self.invariant.merges.pending) (left_unexpected c.self.inside.parts.copies.pending c.want-2.result.now c.in-Ok-part_pending.left c.in-Ok-part_pending.ensures c.self.invariant.merges.unexpected) c.in-Ok-advance.point c.in-Ok-advance.ensures.ok c.as_slice-in-Ok-advance.result.now c.as_slice-in-Ok-advance.ensures c.release.new.dir c.release.new.self c.replace.new.self c.take.new.self c.release.ensures.lets_go c.replace.ensures.point c.replace.ensures.tickets c.take.ensures.after
    c.keep_held.new.self c.keep_held.ensures)

pub returns-in-Ok-advance-clause-stays : goal.returns-in-Ok-advance-clause-stays
returns-in-Ok-advance-clause-stays g c = rw (← c.self.view_is)
    (done_stays g.D.Dir.cells c.self.inside.parts c.self.invariant c.in-Some-take.field-0 (sym c.in-Some-take.ensures.value) (rw (← c.self.view_is) at c.requires.complete) (rw (← c.self.view_is) at c.requires.standing) c.as_slice.result.now c.note_wanted.new.known (want_slice c.self.inside.parts.job c.in-Some.job c.in-Some-take.field-0 c.as_slice.result.now c.in-Some.is (sym c.in-Some-take.ensures.value) (c.as_slice.ensures ∙ ap (λ w. w.files) c.want.ensures)) c.note_wanted.ensures.some c.in-Ok.ensures.all c.advance.new.dir c.advance.new.files c.advance.new.copy c.in-Ok-advance.ensures.job c.in-Ok-advance.ensures.parts
    (record { running = c.self.inside.parts.copies.running; pending = c.in-Ok-part_pending.left.pending }) c.as_slice-2.result.now (copies_split c.self.inside.parts.copies c.want-2.result.now c.in-Ok-part_pending.left c.in-Ok-part_pending.ensures c.as_slice-2.result.now c.as_slice-2.ensures.value) refl (left_settled c.self.inside.parts.copies.pending c.want-2.result.now c.in-Ok-part_pending.left c.in-Ok-part_pending.ensures c.self.invariant.merges.pending) (left_unexpected c.self.inside.parts.copies.pending c.want-2.result.now c.in-Ok-part_pending.left c.in-Ok-part_pending.ensures c.self.invariant.merges.unexpected) c.in-Ok-advance.point c.in-Ok-advance.ensures.ok c.as_slice-in-Ok-advance.result.now c.as_slice-in-Ok-advance.ensures c.release.new.dir c.release.new.self c.replace.new.self c.take.new.self c.release.ensures.lets_go c.replace.ensures.point c.replace.ensures.tickets c.take.ensures.after
    c.keep_held.new.self c.keep_held.ensures)

pub returns-in-Ok-advance-clause-stands : goal.returns-in-Ok-advance-clause-stands
returns-in-Ok-advance-clause-stands g c = rw (← c.self.view_is)
    (done_stands g.D.Dir.cells c.self.inside.parts c.self.invariant c.in-Some-take.field-0 (sym c.in-Some-take.ensures.value) (rw (← c.self.view_is) at c.requires.complete) (rw (← c.self.view_is) at c.requires.standing) c.as_slice.result.now c.note_wanted.new.known (want_slice c.self.inside.parts.job c.in-Some.job c.in-Some-take.field-0 c.as_slice.result.now c.in-Some.is (sym c.in-Some-take.ensures.value) (c.as_slice.ensures ∙ ap (λ w. w.files) c.want.ensures)) c.note_wanted.ensures.some c.in-Ok.ensures.all c.advance.new.dir c.advance.new.files c.advance.new.copy c.in-Ok-advance.ensures.job c.in-Ok-advance.ensures.parts
    (record { running = c.self.inside.parts.copies.running; pending = c.in-Ok-part_pending.left.pending }) c.as_slice-2.result.now (copies_split c.self.inside.parts.copies c.want-2.result.now c.in-Ok-part_pending.left c.in-Ok-part_pending.ensures c.as_slice-2.result.now c.as_slice-2.ensures.value) refl (left_settled c.self.inside.parts.copies.pending c.want-2.result.now c.in-Ok-part_pending.left c.in-Ok-part_pending.ensures c.self.invariant.merges.pending) (left_unexpected c.self.inside.parts.copies.pending c.want-2.result.now c.in-Ok-part_pending.left c.in-Ok-part_pending.ensures c.self.invariant.merges.unexpected) c.in-Ok-advance.point c.in-Ok-advance.ensures.ok c.as_slice-in-Ok-advance.result.now c.as_slice-in-Ok-advance.ensures c.release.new.dir c.release.new.self c.replace.new.self c.take.new.self c.release.ensures.lets_go c.replace.ensures.point c.replace.ensures.tickets c.take.ensures.after
    c.keep_held.new.self c.keep_held.ensures)

pub returns-in-Ok-advance-clause-standing : goal.returns-in-Ok-advance-clause-standing
returns-in-Ok-advance-clause-standing g c = rw (← c.self.view_is)
    (done_standing g.D.Dir.cells c.self.inside.parts c.self.invariant c.in-Some-take.field-0 (sym c.in-Some-take.ensures.value) (rw (← c.self.view_is) at c.requires.complete) (rw (← c.self.view_is) at c.requires.standing) c.as_slice.result.now c.note_wanted.new.known (want_slice c.self.inside.parts.job c.in-Some.job c.in-Some-take.field-0 c.as_slice.result.now c.in-Some.is (sym c.in-Some-take.ensures.value) (c.as_slice.ensures ∙ ap (λ w. w.files) c.want.ensures)) c.note_wanted.ensures.some c.in-Ok.ensures.all c.advance.new.dir c.advance.new.files c.advance.new.copy c.in-Ok-advance.ensures.job c.in-Ok-advance.ensures.parts
    (record { running = c.self.inside.parts.copies.running; pending = c.in-Ok-part_pending.left.pending }) c.as_slice-2.result.now (copies_split c.self.inside.parts.copies c.want-2.result.now c.in-Ok-part_pending.left c.in-Ok-part_pending.ensures c.as_slice-2.result.now c.as_slice-2.ensures.value) refl (left_settled c.self.inside.parts.copies.pending c.want-2.result.now c.in-Ok-part_pending.left c.in-Ok-part_pending.ensures c.self.invariant.merges.pending) (left_unexpected c.self.inside.parts.copies.pending c.want-2.result.now c.in-Ok-part_pending.left c.in-Ok-part_pending.ensures c.self.invariant.merges.unexpected) c.in-Ok-advance.point c.in-Ok-advance.ensures.ok c.as_slice-in-Ok-advance.result.now c.as_slice-in-Ok-advance.ensures c.release.new.dir c.release.new.self c.replace.new.self c.take.new.self c.release.ensures.lets_go c.replace.ensures.point c.replace.ensures.tickets c.take.ensures.after
    c.keep_held.new.self c.keep_held.ensures)

pub invariant_of-self-in-Err : goal.invariant_of-self-in-Err
invariant_of-self-in-Err g c =
    refused_whole g.D.Dir.cells c.self.inside.parts c.self.invariant c.in-Some-take.field-0 (sym c.in-Some-take.ensures.value) (rw (← c.self.view_is) at c.requires.complete) (rw (← c.self.view_is) at c.requires.standing) c.as_slice.result.now c.note_wanted.new.known (want_slice c.self.inside.parts.job c.in-Some.job c.in-Some-take.field-0 c.as_slice.result.now c.in-Some.is (sym c.in-Some-take.ensures.value) (c.as_slice.ensures ∙ ap (λ w. w.files) c.want.ensures)) c.note_wanted.ensures.some c.in-Ok.ensures.all c.advance.new.dir c.advance.new.files c.advance.new.copy c.in-Err.ensures.job c.in-Err.ensures.parts c.in-Err.ensures.err c.in-Err.ensures.able c.told.ensures c.in-Err.ensures.still

pub returns-in-Err-clause-whole : goal.returns-in-Err-clause-whole
returns-in-Err-clause-whole g c =
    refused_whole g.D.Dir.cells c.self.inside.parts c.self.invariant c.in-Some-take.field-0 (sym c.in-Some-take.ensures.value) (rw (← c.self.view_is) at c.requires.complete) (rw (← c.self.view_is) at c.requires.standing) c.as_slice.result.now c.note_wanted.new.known (want_slice c.self.inside.parts.job c.in-Some.job c.in-Some-take.field-0 c.as_slice.result.now c.in-Some.is (sym c.in-Some-take.ensures.value) (c.as_slice.ensures ∙ ap (λ w. w.files) c.want.ensures)) c.note_wanted.ensures.some c.in-Ok.ensures.all c.advance.new.dir c.advance.new.files c.advance.new.copy c.in-Err.ensures.job c.in-Err.ensures.parts c.in-Err.ensures.err c.in-Err.ensures.able c.told.ensures c.in-Err.ensures.still

pub returns-in-Err-clause-sourced : goal.returns-in-Err-clause-sourced
returns-in-Err-clause-sourced g c = rw (← c.self.view_is)
    (refused_sourced g.D.Dir.cells c.self.inside.parts c.self.invariant c.in-Some-take.field-0 (sym c.in-Some-take.ensures.value) (rw (← c.self.view_is) at c.requires.complete) (rw (← c.self.view_is) at c.requires.standing) c.as_slice.result.now c.note_wanted.new.known (want_slice c.self.inside.parts.job c.in-Some.job c.in-Some-take.field-0 c.as_slice.result.now c.in-Some.is (sym c.in-Some-take.ensures.value) (c.as_slice.ensures ∙ ap (λ w. w.files) c.want.ensures)) c.note_wanted.ensures.some c.in-Ok.ensures.all c.advance.new.dir c.advance.new.files c.advance.new.copy c.in-Err.ensures.job c.in-Err.ensures.parts c.in-Err.ensures.err c.in-Err.ensures.able c.told.ensures c.in-Err.ensures.still)

pub returns-in-Err-clause-held : goal.returns-in-Err-clause-held
returns-in-Err-clause-held g c = rw (← c.self.view_is)
    (refused_held g.D.Dir.cells c.self.inside.parts c.self.invariant c.in-Some-take.field-0 (sym c.in-Some-take.ensures.value) (rw (← c.self.view_is) at c.requires.complete) (rw (← c.self.view_is) at c.requires.standing) c.as_slice.result.now c.note_wanted.new.known (want_slice c.self.inside.parts.job c.in-Some.job c.in-Some-take.field-0 c.as_slice.result.now c.in-Some.is (sym c.in-Some-take.ensures.value) (c.as_slice.ensures ∙ ap (λ w. w.files) c.want.ensures)) c.note_wanted.ensures.some c.in-Ok.ensures.all c.advance.new.dir c.advance.new.files c.advance.new.copy c.in-Err.ensures.job c.in-Err.ensures.parts c.in-Err.ensures.err c.in-Err.ensures.able c.told.ensures c.in-Err.ensures.still)

pub returns-in-Err-clause-standing : goal.returns-in-Err-clause-standing
returns-in-Err-clause-standing g c = rw (← c.self.view_is)
    (standing_jobs g.D.Dir.cells c.self.inside.parts (core_of g.D.Dir.cells c.self.inside.parts c.self.invariant) c.advance.new.dir c.advance.new.files (Some (record { copy = c.advance.new.copy; infos = c.in-Some-take.field-0.infos; stopped = true })) c.note_wanted.new.known
    (refused_core g.D.Dir.cells c.self.inside.parts c.self.invariant c.in-Some-take.field-0 (sym c.in-Some-take.ensures.value) (rw (← c.self.view_is) at c.requires.complete) (rw (← c.self.view_is) at c.requires.standing) c.as_slice.result.now c.note_wanted.new.known (want_slice c.self.inside.parts.job c.in-Some.job c.in-Some-take.field-0 c.as_slice.result.now c.in-Some.is (sym c.in-Some-take.ensures.value) (c.as_slice.ensures ∙ ap (λ w. w.files) c.want.ensures)) c.note_wanted.ensures.some c.in-Ok.ensures.all c.advance.new.dir c.advance.new.files c.advance.new.copy c.in-Err.ensures.job c.in-Err.ensures.parts c.in-Err.ensures.err c.in-Err.ensures.able c.told.ensures c.in-Err.ensures.still) c.in-Err.ensures.err.keeps.reads)

pub invariant_of-self : goal.invariant_of-self
invariant_of-self g c = noted_whole g.D.Dir.cells c.self.inside.parts c.self.invariant c.in-Some.job c.in-Some.is (rw (← c.self.view_is) at c.requires.complete) (rw (← c.self.view_is) at c.requires.standing) c.as_slice.result.now c.note_wanted.new.known (c.as_slice.ensures ∙ ap (λ w. w.files) c.want.ensures) c.note_wanted.ensures.some

pub returns-in_default-note_wanted-clause-whole : goal.returns-in_default-note_wanted-clause-whole
returns-in_default-note_wanted-clause-whole g c = noted_whole g.D.Dir.cells c.self.inside.parts c.self.invariant c.in-Some.job c.in-Some.is (rw (← c.self.view_is) at c.requires.complete) (rw (← c.self.view_is) at c.requires.standing) c.as_slice.result.now c.note_wanted.new.known (c.as_slice.ensures ∙ ap (λ w. w.files) c.want.ensures) c.note_wanted.ensures.some

pub returns-in_default-note_wanted-clause-standing : goal.returns-in_default-note_wanted-clause-standing
returns-in_default-note_wanted-clause-standing g c = rw (← c.self.view_is)
    (λ h.
    record { point = h.point; commits = h.commits })

pub returns-in_default-note_wanted-clause-sourced : goal.returns-in_default-note_wanted-clause-sourced
returns-in_default-note_wanted-clause-sourced g c = rw (← c.self.view_is)
    (λ source h.
    record { held = h.held; job = h.job; merges = h.merges })

pub returns-in_default-note_wanted-clause-held : goal.returns-in_default-note_wanted-clause-held
returns-in_default-note_wanted-clause-held g c = rw (← c.self.view_is)
    (λ q lasting some.
    inl some)

pub returns-in_default-note_wanted-clause-err : goal.returns-in_default-note_wanted-clause-err
returns-in_default-note_wanted-clause-err g c = rw (← c.self.view_is)
    (noted_still c.self.inside.parts c.note_wanted.new.known)

pub invariant_of-self-in_default-part_pending : goal.invariant_of-self-in_default-part_pending
invariant_of-self-in_default-part_pending g c = noted_whole g.D.Dir.cells c.self.inside.parts c.self.invariant c.in-Some.job c.in-Some.is (rw (← c.self.view_is) at c.requires.complete) (rw (← c.self.view_is) at c.requires.standing) c.as_slice.result.now c.note_wanted.new.known (c.as_slice.ensures ∙ ap (λ w. w.files) c.want.ensures) c.note_wanted.ensures.some

pub returns-in_default-part_pending-clause-whole : goal.returns-in_default-part_pending-clause-whole
returns-in_default-part_pending-clause-whole g c = noted_whole g.D.Dir.cells c.self.inside.parts c.self.invariant c.in-Some.job c.in-Some.is (rw (← c.self.view_is) at c.requires.complete) (rw (← c.self.view_is) at c.requires.standing) c.as_slice.result.now c.note_wanted.new.known (c.as_slice.ensures ∙ ap (λ w. w.files) c.want.ensures) c.note_wanted.ensures.some

pub returns-in_default-part_pending-clause-standing : goal.returns-in_default-part_pending-clause-standing
returns-in_default-part_pending-clause-standing g c = rw (← c.self.view_is)
    (λ h.
    record { point = h.point; commits = h.commits })

pub returns-in_default-part_pending-clause-sourced : goal.returns-in_default-part_pending-clause-sourced
returns-in_default-part_pending-clause-sourced g c = rw (← c.self.view_is)
    (λ source h.
    record { held = h.held; job = h.job; merges = h.merges })

pub returns-in_default-part_pending-clause-held : goal.returns-in_default-part_pending-clause-held
returns-in_default-part_pending-clause-held g c = rw (← c.self.view_is)
    (λ q lasting some.
    inl some)

pub returns-in_default-part_pending-clause-err : goal.returns-in_default-part_pending-clause-err
returns-in_default-part_pending-clause-err g c = rw (← c.self.view_is)
    (noted_still c.self.inside.parts c.note_wanted.new.known)

pub returns-in-Ok-advance-clause-pending : goal.returns-in-Ok-advance-clause-pending
returns-in-Ok-advance-clause-pending g c = rw (← c.self.view_is)
    (pending_parted c.self.inside.parts.copies c.self.inside.parts.job c.in-Some.job c.in-Some.is c.want-2.result.now c.want-2.ensures c.in-Ok-part_pending.left c.in-Ok-part_pending.ensures)

pub returns-in-Ok-advance-clause-appears : goal.returns-in-Ok-advance-clause-appears
returns-in-Ok-advance-clause-appears g c = rw (← c.self.view_is)
    (let p = c.self.inside.parts in
    only_then_none (IsWantedName p.job) (g.D.Dir.cells p.dir) (g.D.Dir.cells c.advance.new.dir) (g.D.Dir.cells c.release.new.dir)
    (parts_appear g.D.Dir.cells p c.in-Some-take.field-0 (sym c.in-Some-take.ensures.value) c.advance.new.dir c.advance.new.files c.self.invariant c.in-Ok-advance.ensures.ok.moves.keeps)
    (keeps_none c.advance.new.files c.release.new.self (g.D.Dir.cells c.advance.new.dir) (g.D.Dir.cells c.release.new.dir) c.release.ensures.lets_go.keeps))

pub returns-in-Err-clause-appears : goal.returns-in-Err-clause-appears
returns-in-Err-clause-appears g c = rw (← c.self.view_is)
    (parts_appear g.D.Dir.cells c.self.inside.parts c.in-Some-take.field-0 (sym c.in-Some-take.ensures.value) c.advance.new.dir c.advance.new.files c.self.invariant c.in-Err.ensures.err.keeps)
