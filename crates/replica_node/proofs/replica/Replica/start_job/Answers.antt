use Rattle.std.proofs.Common.{◌≡◌, ◌∙◌, ◌+◌, refl, ap, subst, Option, List, [], ◌++◌}
use Rattle.disk_model.specs.Disk.{Name, reads_of}
use Rattle.file_deleter.specs.Moves.{MovesCounts}
use Rattle.copy_state.specs.declared.meta.FileMetaData.{FileMetaData}
use Rattle.copy_state.specs.declared.state.CopyState.{CopyState}
use Rattle.copy_state.specs.States.{meta_names}
use Rattle.copy_job.specs.Jobs.{Job, job_names}
use Rattle.replica_node.specs.Held.{held_metas}
use Rattle.replica_node.specs.Jobs.{job_on, job_taking}
use Rattle.replica_node.specs.Merges.{running_names}
use Rattle.replica_node.specs.Replica.{names_of_job}
use Rattle.replica_node.specs.declared.job.PointJob.{PointJob}
use Rattle.copy_job.specs.declared.part.JobKind.TheVariants.{Point as PointKind}
use Rattle.replica_node.specs.Overlapping.{copies_beside}
use Rattle.replica_node.proofs.Begun.{Begins, begins, begun_few, both_moved, over_counted, copies_counted, begun_whole, begun_sourced, begun_only, begun_stays, begun_standing, none_appears}
use Rattle.replica_node.proofs.Beginnings.{begun_as, held_ascends, begun_agrees, begun_fault, begun_there}
use Rattle.replica_node.proofs.HeldFiles.{held_slice}
use Rattle.replica_node.proofs.replica.Replica.start_job.Goals as goal

pub returns-in_default-clause-whole : goal.returns-in_default-clause-whole
returns-in_default-clause-whole g c = rw (← c.self.view_is) c.self.invariant

pub begin-requires-clause-held : goal.begin-requires-clause-held
begin-requires-clause-held g c =
    let p = c.self.inside.parts in
    held_ascends (reads_of (g.D.Dir.cells p.dir)) p.files p.known c.as_slice-2.result.now c.self.invariant.known c.in-Ok.infos c.args.state c.in-Ok.ensures.files (held_slice p.known p.files c.args.state _ _ _ c.as_slice-2.ensures c.in-Ok-held_of.ensures c.as_slice.ensures)

pub hold_there-requires : goal.hold_there-requires
hold_there-requires g c =
    let p = c.self.inside.parts in
    let held : c.as_slice-2.result.now ≡ held_metas p.known p.files (meta_names c.args.state.files) = held_slice p.known p.files c.args.state _ _ _ c.as_slice-2.ensures c.in-Ok-held_of.ensures c.as_slice.ensures in
    let copy : Job = c.in-Ok-begin.copy in
    let copy_is : copy ≡ job_on (p.jobs + 1) c.args.state p.files = c.in-Ok-begin.ensures.job ∙ begun_as (reads_of (g.D.Dir.cells p.dir)) p.files p.known c.as_slice-2.result.now c.self.invariant.known c.in-Ok.infos c.args.state c.in-Ok.ensures.files held PointKind (p.jobs + 1) in
    let agreed = begun_agrees (reads_of (g.D.Dir.cells p.dir)) p.files p.known c.as_slice-2.result.now c.self.invariant.known c.in-Ok.infos c.args.state c.in-Ok.ensures.files held c.in-Ok-begin.ensures.agreed in
    begun_there g.D.Dir.cells p c.self.invariant PointKind (p.jobs + 1) c.args.state c.in-Ok.infos c.in-Ok.ensures.files agreed copy copy_is c.told.ensures c.reused.result.now c.reused.ensures

pub end_overlapping-requires-clause-apart : goal.end_overlapping-requires-clause-apart
end_overlapping-requires-clause-apart g c = c.self.invariant.merges.apart

pub end_overlapping-requires-clause-counted : goal.end_overlapping-requires-clause-counted
end_overlapping-requires-clause-counted g c = copies_counted g.D.Dir.cells c.self.inside.parts c.self.invariant c.reused.result.now c.hold_there.new.self c.in-Ok-hold_there.ensures.holds

pub take_over-requires-clause-none : goal.take_over-requires-clause-none
take_over-requires-clause-none g c =
    let p = c.self.inside.parts in
    let held : c.as_slice-2.result.now ≡ held_metas p.known p.files (meta_names c.args.state.files) = held_slice p.known p.files c.args.state _ _ _ c.as_slice-2.ensures c.in-Ok-held_of.ensures c.as_slice.ensures in
    let copy : Job = c.in-Ok-begin.copy in
    let copy_is : copy ≡ job_on (p.jobs + 1) c.args.state p.files = c.in-Ok-begin.ensures.job ∙ begun_as (reads_of (g.D.Dir.cells p.dir)) p.files p.known c.as_slice-2.result.now c.self.invariant.known c.in-Ok.infos c.args.state c.in-Ok.ensures.files held PointKind (p.jobs + 1) in
    ap (λ (j : Job). j.parts) copy_is

pub take_over-requires-clause-counted : goal.take_over-requires-clause-counted
take_over-requires-clause-counted g c =
    let p = c.self.inside.parts in
    let held : c.as_slice-2.result.now ≡ held_metas p.known p.files (meta_names c.args.state.files) = held_slice p.known p.files c.args.state _ _ _ c.as_slice-2.ensures c.in-Ok-held_of.ensures c.as_slice.ensures in
    let copy : Job = c.in-Ok-begin.copy in
    let copy_is : copy ≡ job_on (p.jobs + 1) c.args.state p.files = c.in-Ok-begin.ensures.job ∙ begun_as (reads_of (g.D.Dir.cells p.dir)) p.files p.known c.as_slice-2.result.now c.self.invariant.known c.in-Ok.infos c.args.state c.in-Ok.ensures.files held PointKind (p.jobs + 1) in
    let agreed = begun_agrees (reads_of (g.D.Dir.cells p.dir)) p.files p.known c.as_slice-2.result.now c.self.invariant.known c.in-Ok.infos c.args.state c.in-Ok.ensures.files held c.in-Ok-begin.ensures.agreed in
    over_counted g.D.Dir.cells p c.self.invariant (p.jobs + 1) c.args.state c.in-Ok.infos c.in-Ok.ensures agreed copy copy_is c.told.ensures c.reused.result.now c.reused.ensures c.hold_there.new.self c.in-Ok-hold_there.ensures.holds
    c.take.result c.take.ensures.value c.end_overlapping.new.running c.end_overlapping.new.files (g.D.Dir.cells c.end_overlapping.new.dir) c.end_overlapping.ensures.moves

pub invariant_of-self-2 : goal.invariant_of-self-2
invariant_of-self-2 g c =
    let p = c.self.inside.parts in
    let held : c.as_slice-2.result.now ≡ held_metas p.known p.files (meta_names c.args.state.files) = held_slice p.known p.files c.args.state _ _ _ c.as_slice-2.ensures c.in-Ok-held_of.ensures c.as_slice.ensures in
    let copy : Job = c.in-Ok-begin.copy in
    let copy_is : copy ≡ job_on (p.jobs + 1) c.args.state p.files = c.in-Ok-begin.ensures.job ∙ begun_as (reads_of (g.D.Dir.cells p.dir)) p.files p.known c.as_slice-2.result.now c.self.invariant.known c.in-Ok.infos c.args.state c.in-Ok.ensures.files held PointKind (p.jobs + 1) in
    let agreed = begun_agrees (reads_of (g.D.Dir.cells p.dir)) p.files p.known c.as_slice-2.result.now c.self.invariant.known c.in-Ok.infos c.args.state c.in-Ok.ensures.files held c.in-Ok-begin.ensures.agreed in
    let beside : c.end_overlapping.new.running ≡ copies_beside (meta_names c.args.state.files) p.copies.running =
    c.end_overlapping.ensures.rest ∙ ap (λ (fs : List (Name × FileMetaData)). copies_beside (meta_names fs) p.copies.running) (c.as_slice-3.ensures ∙ ap (λ (s : CopyState). s.files) (c.want.ensures ∙ ap (λ (j : Job). j.want) copy_is)) in
    let now : Job = c.take_over.new.copy in
    let takes : Begins p.job copy now = subst (λ (o : Option PointJob). Begins o copy now) c.take.ensures.value (begins c.take.result copy now (ap (λ (j : Job). j.parts) copy_is) c.take_over.ensures.job) in
    let taken : MovesCounts [] (job_names copy ++ names_of_job p.job) (job_names now) c.end_overlapping.new.files c.take_over.new.files (g.D.Dir.cells c.end_overlapping.new.dir) (g.D.Dir.cells c.take_over.new.dir) =
    subst (λ (o : Option PointJob). MovesCounts [] (job_names copy ++ names_of_job o) (job_names now) c.end_overlapping.new.files c.take_over.new.files (g.D.Dir.cells c.end_overlapping.new.dir) (g.D.Dir.cells c.take_over.new.dir)) c.take.ensures.value c.take_over.ensures.moves in
    let moves = both_moved (job_names copy) (names_of_job p.job) (job_names now) (running_names p.copies.running) (running_names c.end_overlapping.new.running) c.hold_there.new.self c.end_overlapping.new.files c.take_over.new.files
    (g.D.Dir.cells p.dir) (g.D.Dir.cells c.end_overlapping.new.dir) (g.D.Dir.cells c.take_over.new.dir) c.end_overlapping.ensures.moves taken (begun_few p.job copy now takes) in
    begun_whole g.D.Dir.cells p c.self.invariant (p.jobs + 1) refl c.args.state c.in-Ok.infos c.in-Ok.ensures (rw (← c.self.view_is) at c.requires.wanted).above agreed
    copy copy_is c.told.ensures c.reused.result.now c.reused.ensures c.hold_there.new.self c.in-Ok-hold_there.ensures.holds now c.take_over.ensures.is takes c.end_overlapping.new.running beside c.take_over.new.dir c.take_over.new.files moves (rw (← c.self.view_is) at c.requires.few)

pub returns-clause-whole : goal.returns-clause-whole
returns-clause-whole g c =
    let p = c.self.inside.parts in
    let held : c.as_slice-2.result.now ≡ held_metas p.known p.files (meta_names c.args.state.files) = held_slice p.known p.files c.args.state _ _ _ c.as_slice-2.ensures c.in-Ok-held_of.ensures c.as_slice.ensures in
    let copy : Job = c.in-Ok-begin.copy in
    let copy_is : copy ≡ job_on (p.jobs + 1) c.args.state p.files = c.in-Ok-begin.ensures.job ∙ begun_as (reads_of (g.D.Dir.cells p.dir)) p.files p.known c.as_slice-2.result.now c.self.invariant.known c.in-Ok.infos c.args.state c.in-Ok.ensures.files held PointKind (p.jobs + 1) in
    let agreed = begun_agrees (reads_of (g.D.Dir.cells p.dir)) p.files p.known c.as_slice-2.result.now c.self.invariant.known c.in-Ok.infos c.args.state c.in-Ok.ensures.files held c.in-Ok-begin.ensures.agreed in
    let beside : c.end_overlapping.new.running ≡ copies_beside (meta_names c.args.state.files) p.copies.running =
    c.end_overlapping.ensures.rest ∙ ap (λ (fs : List (Name × FileMetaData)). copies_beside (meta_names fs) p.copies.running) (c.as_slice-3.ensures ∙ ap (λ (s : CopyState). s.files) (c.want.ensures ∙ ap (λ (j : Job). j.want) copy_is)) in
    let now : Job = c.take_over.new.copy in
    let takes : Begins p.job copy now = subst (λ (o : Option PointJob). Begins o copy now) c.take.ensures.value (begins c.take.result copy now (ap (λ (j : Job). j.parts) copy_is) c.take_over.ensures.job) in
    let taken : MovesCounts [] (job_names copy ++ names_of_job p.job) (job_names now) c.end_overlapping.new.files c.take_over.new.files (g.D.Dir.cells c.end_overlapping.new.dir) (g.D.Dir.cells c.take_over.new.dir) =
    subst (λ (o : Option PointJob). MovesCounts [] (job_names copy ++ names_of_job o) (job_names now) c.end_overlapping.new.files c.take_over.new.files (g.D.Dir.cells c.end_overlapping.new.dir) (g.D.Dir.cells c.take_over.new.dir)) c.take.ensures.value c.take_over.ensures.moves in
    let moves = both_moved (job_names copy) (names_of_job p.job) (job_names now) (running_names p.copies.running) (running_names c.end_overlapping.new.running) c.hold_there.new.self c.end_overlapping.new.files c.take_over.new.files
    (g.D.Dir.cells p.dir) (g.D.Dir.cells c.end_overlapping.new.dir) (g.D.Dir.cells c.take_over.new.dir) c.end_overlapping.ensures.moves taken (begun_few p.job copy now takes) in
    begun_whole g.D.Dir.cells p c.self.invariant (p.jobs + 1) refl c.args.state c.in-Ok.infos c.in-Ok.ensures (rw (← c.self.view_is) at c.requires.wanted).above agreed
    copy copy_is c.told.ensures c.reused.result.now c.reused.ensures c.hold_there.new.self c.in-Ok-hold_there.ensures.holds now c.take_over.ensures.is takes c.end_overlapping.new.running beside c.take_over.new.dir c.take_over.new.files moves (rw (← c.self.view_is) at c.requires.few)

pub returns-clause-begun : goal.returns-clause-begun
returns-clause-begun g c = rw (← c.self.view_is)
    (let p = c.self.inside.parts in
    let held : c.as_slice-2.result.now ≡ held_metas p.known p.files (meta_names c.args.state.files) = held_slice p.known p.files c.args.state _ _ _ c.as_slice-2.ensures c.in-Ok-held_of.ensures c.as_slice.ensures in
    let copy : Job = c.in-Ok-begin.copy in
    let copy_is : copy ≡ job_on (p.jobs + 1) c.args.state p.files = c.in-Ok-begin.ensures.job ∙ begun_as (reads_of (g.D.Dir.cells p.dir)) p.files p.known c.as_slice-2.result.now c.self.invariant.known c.in-Ok.infos c.args.state c.in-Ok.ensures.files held PointKind (p.jobs + 1) in
    record {
      copy = c.take_over.ensures.job ∙ (λ i. job_taking (c.take.ensures.value i) (copy_is i));
      state_is = c.in-Ok.ensures;
      runs = refl;
    })

pub returns-clause-copies : goal.returns-clause-copies
returns-clause-copies g c = rw (← c.self.view_is)
    (let p = c.self.inside.parts in
    let held : c.as_slice-2.result.now ≡ held_metas p.known p.files (meta_names c.args.state.files) = held_slice p.known p.files c.args.state _ _ _ c.as_slice-2.ensures c.in-Ok-held_of.ensures c.as_slice.ensures in
    let copy : Job = c.in-Ok-begin.copy in
    let copy_is : copy ≡ job_on (p.jobs + 1) c.args.state p.files = c.in-Ok-begin.ensures.job ∙ begun_as (reads_of (g.D.Dir.cells p.dir)) p.files p.known c.as_slice-2.result.now c.self.invariant.known c.in-Ok.infos c.args.state c.in-Ok.ensures.files held PointKind (p.jobs + 1) in
    let beside : c.end_overlapping.new.running ≡ copies_beside (meta_names c.args.state.files) p.copies.running =
    c.end_overlapping.ensures.rest ∙ ap (λ (fs : List (Name × FileMetaData)). copies_beside (meta_names fs) p.copies.running) (c.as_slice-3.ensures ∙ ap (λ (s : CopyState). s.files) (c.want.ensures ∙ ap (λ (j : Job). j.want) copy_is)) in
    ap (λ (cs : List Job). record p.copies { running = cs }) beside)

pub returns-clause-agreed : goal.returns-clause-agreed
returns-clause-agreed g c = rw (← c.self.view_is)
    (let p = c.self.inside.parts in
    let held : c.as_slice-2.result.now ≡ held_metas p.known p.files (meta_names c.args.state.files) = held_slice p.known p.files c.args.state _ _ _ c.as_slice-2.ensures c.in-Ok-held_of.ensures c.as_slice.ensures in
    begun_agrees (reads_of (g.D.Dir.cells p.dir)) p.files p.known c.as_slice-2.result.now c.self.invariant.known c.in-Ok.infos c.args.state c.in-Ok.ensures.files held c.in-Ok-begin.ensures.agreed)

pub returns-in-Err-clause-fault : goal.returns-in-Err-clause-fault
returns-in-Err-clause-fault g c = rw (← c.self.view_is)
    (let p = c.self.inside.parts in
    begun_fault (reads_of (g.D.Dir.cells p.dir)) p.files p.known c.as_slice-2.result.now c.self.invariant.known c.in-Ok.infos c.args.state c.in-Ok.ensures.files
    (held_slice p.known p.files c.args.state _ _ _ c.as_slice-2.ensures c.in-Ok-held_of.ensures c.as_slice.ensures) c.in-Err.fault c.in-Err.ensures.fault)

pub returns-clause-standing : goal.returns-clause-standing
returns-clause-standing g c = rw (← c.self.view_is)
    (let p = c.self.inside.parts in
    let held : c.as_slice-2.result.now ≡ held_metas p.known p.files (meta_names c.args.state.files) = held_slice p.known p.files c.args.state _ _ _ c.as_slice-2.ensures c.in-Ok-held_of.ensures c.as_slice.ensures in
    let copy : Job = c.in-Ok-begin.copy in
    let copy_is : copy ≡ job_on (p.jobs + 1) c.args.state p.files = c.in-Ok-begin.ensures.job ∙ begun_as (reads_of (g.D.Dir.cells p.dir)) p.files p.known c.as_slice-2.result.now c.self.invariant.known c.in-Ok.infos c.args.state c.in-Ok.ensures.files held PointKind (p.jobs + 1) in
    let agreed = begun_agrees (reads_of (g.D.Dir.cells p.dir)) p.files p.known c.as_slice-2.result.now c.self.invariant.known c.in-Ok.infos c.args.state c.in-Ok.ensures.files held c.in-Ok-begin.ensures.agreed in
    let beside : c.end_overlapping.new.running ≡ copies_beside (meta_names c.args.state.files) p.copies.running =
    c.end_overlapping.ensures.rest ∙ ap (λ (fs : List (Name × FileMetaData)). copies_beside (meta_names fs) p.copies.running) (c.as_slice-3.ensures ∙ ap (λ (s : CopyState). s.files) (c.want.ensures ∙ ap (λ (j : Job). j.want) copy_is)) in
    let now : Job = c.take_over.new.copy in
    let takes : Begins p.job copy now = subst (λ (o : Option PointJob). Begins o copy now) c.take.ensures.value (begins c.take.result copy now (ap (λ (j : Job). j.parts) copy_is) c.take_over.ensures.job) in
    let taken : MovesCounts [] (job_names copy ++ names_of_job p.job) (job_names now) c.end_overlapping.new.files c.take_over.new.files (g.D.Dir.cells c.end_overlapping.new.dir) (g.D.Dir.cells c.take_over.new.dir) =
    subst (λ (o : Option PointJob). MovesCounts [] (job_names copy ++ names_of_job o) (job_names now) c.end_overlapping.new.files c.take_over.new.files (g.D.Dir.cells c.end_overlapping.new.dir) (g.D.Dir.cells c.take_over.new.dir)) c.take.ensures.value c.take_over.ensures.moves in
    let moves = both_moved (job_names copy) (names_of_job p.job) (job_names now) (running_names p.copies.running) (running_names c.end_overlapping.new.running) c.hold_there.new.self c.end_overlapping.new.files c.take_over.new.files
    (g.D.Dir.cells p.dir) (g.D.Dir.cells c.end_overlapping.new.dir) (g.D.Dir.cells c.take_over.new.dir) c.end_overlapping.ensures.moves taken (begun_few p.job copy now takes) in
    begun_standing g.D.Dir.cells p c.self.invariant (p.jobs + 1) refl c.args.state c.in-Ok.infos c.in-Ok.ensures (rw (← c.self.view_is) at c.requires.wanted).above agreed
    copy copy_is c.told.ensures c.reused.result.now c.reused.ensures c.hold_there.new.self c.in-Ok-hold_there.ensures.holds now c.take_over.ensures.is takes c.end_overlapping.new.running beside c.take_over.new.dir c.take_over.new.files moves)

pub returns-clause-sourced : goal.returns-clause-sourced
returns-clause-sourced g c = rw (← c.self.view_is)
    (let p = c.self.inside.parts in
    let held : c.as_slice-2.result.now ≡ held_metas p.known p.files (meta_names c.args.state.files) = held_slice p.known p.files c.args.state _ _ _ c.as_slice-2.ensures c.in-Ok-held_of.ensures c.as_slice.ensures in
    let copy : Job = c.in-Ok-begin.copy in
    let copy_is : copy ≡ job_on (p.jobs + 1) c.args.state p.files = c.in-Ok-begin.ensures.job ∙ begun_as (reads_of (g.D.Dir.cells p.dir)) p.files p.known c.as_slice-2.result.now c.self.invariant.known c.in-Ok.infos c.args.state c.in-Ok.ensures.files held PointKind (p.jobs + 1) in
    let agreed = begun_agrees (reads_of (g.D.Dir.cells p.dir)) p.files p.known c.as_slice-2.result.now c.self.invariant.known c.in-Ok.infos c.args.state c.in-Ok.ensures.files held c.in-Ok-begin.ensures.agreed in
    let beside : c.end_overlapping.new.running ≡ copies_beside (meta_names c.args.state.files) p.copies.running =
    c.end_overlapping.ensures.rest ∙ ap (λ (fs : List (Name × FileMetaData)). copies_beside (meta_names fs) p.copies.running) (c.as_slice-3.ensures ∙ ap (λ (s : CopyState). s.files) (c.want.ensures ∙ ap (λ (j : Job). j.want) copy_is)) in
    let now : Job = c.take_over.new.copy in
    let takes : Begins p.job copy now = subst (λ (o : Option PointJob). Begins o copy now) c.take.ensures.value (begins c.take.result copy now (ap (λ (j : Job). j.parts) copy_is) c.take_over.ensures.job) in
    let taken : MovesCounts [] (job_names copy ++ names_of_job p.job) (job_names now) c.end_overlapping.new.files c.take_over.new.files (g.D.Dir.cells c.end_overlapping.new.dir) (g.D.Dir.cells c.take_over.new.dir) =
    subst (λ (o : Option PointJob). MovesCounts [] (job_names copy ++ names_of_job o) (job_names now) c.end_overlapping.new.files c.take_over.new.files (g.D.Dir.cells c.end_overlapping.new.dir) (g.D.Dir.cells c.take_over.new.dir)) c.take.ensures.value c.take_over.ensures.moves in
    let moves = both_moved (job_names copy) (names_of_job p.job) (job_names now) (running_names p.copies.running) (running_names c.end_overlapping.new.running) c.hold_there.new.self c.end_overlapping.new.files c.take_over.new.files
    (g.D.Dir.cells p.dir) (g.D.Dir.cells c.end_overlapping.new.dir) (g.D.Dir.cells c.take_over.new.dir) c.end_overlapping.ensures.moves taken (begun_few p.job copy now takes) in
    begun_sourced g.D.Dir.cells p c.self.invariant (p.jobs + 1) refl c.args.state c.in-Ok.infos c.in-Ok.ensures (rw (← c.self.view_is) at c.requires.wanted).above agreed
    copy copy_is c.told.ensures c.reused.result.now c.reused.ensures c.hold_there.new.self c.in-Ok-hold_there.ensures.holds now c.take_over.ensures.is takes c.end_overlapping.new.running beside c.take_over.new.dir c.take_over.new.files moves)

pub returns-clause-held : goal.returns-clause-held
returns-clause-held g c = rw (← c.self.view_is)
    (let p = c.self.inside.parts in
    let held : c.as_slice-2.result.now ≡ held_metas p.known p.files (meta_names c.args.state.files) = held_slice p.known p.files c.args.state _ _ _ c.as_slice-2.ensures c.in-Ok-held_of.ensures c.as_slice.ensures in
    let copy : Job = c.in-Ok-begin.copy in
    let copy_is : copy ≡ job_on (p.jobs + 1) c.args.state p.files = c.in-Ok-begin.ensures.job ∙ begun_as (reads_of (g.D.Dir.cells p.dir)) p.files p.known c.as_slice-2.result.now c.self.invariant.known c.in-Ok.infos c.args.state c.in-Ok.ensures.files held PointKind (p.jobs + 1) in
    let agreed = begun_agrees (reads_of (g.D.Dir.cells p.dir)) p.files p.known c.as_slice-2.result.now c.self.invariant.known c.in-Ok.infos c.args.state c.in-Ok.ensures.files held c.in-Ok-begin.ensures.agreed in
    let beside : c.end_overlapping.new.running ≡ copies_beside (meta_names c.args.state.files) p.copies.running =
    c.end_overlapping.ensures.rest ∙ ap (λ (fs : List (Name × FileMetaData)). copies_beside (meta_names fs) p.copies.running) (c.as_slice-3.ensures ∙ ap (λ (s : CopyState). s.files) (c.want.ensures ∙ ap (λ (j : Job). j.want) copy_is)) in
    let now : Job = c.take_over.new.copy in
    let takes : Begins p.job copy now = subst (λ (o : Option PointJob). Begins o copy now) c.take.ensures.value (begins c.take.result copy now (ap (λ (j : Job). j.parts) copy_is) c.take_over.ensures.job) in
    let taken : MovesCounts [] (job_names copy ++ names_of_job p.job) (job_names now) c.end_overlapping.new.files c.take_over.new.files (g.D.Dir.cells c.end_overlapping.new.dir) (g.D.Dir.cells c.take_over.new.dir) =
    subst (λ (o : Option PointJob). MovesCounts [] (job_names copy ++ names_of_job o) (job_names now) c.end_overlapping.new.files c.take_over.new.files (g.D.Dir.cells c.end_overlapping.new.dir) (g.D.Dir.cells c.take_over.new.dir)) c.take.ensures.value c.take_over.ensures.moves in
    let moves = both_moved (job_names copy) (names_of_job p.job) (job_names now) (running_names p.copies.running) (running_names c.end_overlapping.new.running) c.hold_there.new.self c.end_overlapping.new.files c.take_over.new.files
    (g.D.Dir.cells p.dir) (g.D.Dir.cells c.end_overlapping.new.dir) (g.D.Dir.cells c.take_over.new.dir) c.end_overlapping.ensures.moves taken (begun_few p.job copy now takes) in
    begun_only g.D.Dir.cells p c.self.invariant (p.jobs + 1) refl c.args.state c.in-Ok.infos c.in-Ok.ensures (rw (← c.self.view_is) at c.requires.wanted).above agreed
    copy copy_is c.told.ensures c.reused.result.now c.reused.ensures c.hold_there.new.self c.in-Ok-hold_there.ensures.holds now c.take_over.ensures.is takes c.end_overlapping.new.running beside c.take_over.new.dir c.take_over.new.files moves)

pub returns-clause-stays : goal.returns-clause-stays
returns-clause-stays g c = rw (← c.self.view_is)
    (let p = c.self.inside.parts in
    let held : c.as_slice-2.result.now ≡ held_metas p.known p.files (meta_names c.args.state.files) = held_slice p.known p.files c.args.state _ _ _ c.as_slice-2.ensures c.in-Ok-held_of.ensures c.as_slice.ensures in
    let copy : Job = c.in-Ok-begin.copy in
    let copy_is : copy ≡ job_on (p.jobs + 1) c.args.state p.files = c.in-Ok-begin.ensures.job ∙ begun_as (reads_of (g.D.Dir.cells p.dir)) p.files p.known c.as_slice-2.result.now c.self.invariant.known c.in-Ok.infos c.args.state c.in-Ok.ensures.files held PointKind (p.jobs + 1) in
    let agreed = begun_agrees (reads_of (g.D.Dir.cells p.dir)) p.files p.known c.as_slice-2.result.now c.self.invariant.known c.in-Ok.infos c.args.state c.in-Ok.ensures.files held c.in-Ok-begin.ensures.agreed in
    let beside : c.end_overlapping.new.running ≡ copies_beside (meta_names c.args.state.files) p.copies.running =
    c.end_overlapping.ensures.rest ∙ ap (λ (fs : List (Name × FileMetaData)). copies_beside (meta_names fs) p.copies.running) (c.as_slice-3.ensures ∙ ap (λ (s : CopyState). s.files) (c.want.ensures ∙ ap (λ (j : Job). j.want) copy_is)) in
    let now : Job = c.take_over.new.copy in
    let takes : Begins p.job copy now = subst (λ (o : Option PointJob). Begins o copy now) c.take.ensures.value (begins c.take.result copy now (ap (λ (j : Job). j.parts) copy_is) c.take_over.ensures.job) in
    let taken : MovesCounts [] (job_names copy ++ names_of_job p.job) (job_names now) c.end_overlapping.new.files c.take_over.new.files (g.D.Dir.cells c.end_overlapping.new.dir) (g.D.Dir.cells c.take_over.new.dir) =
    subst (λ (o : Option PointJob). MovesCounts [] (job_names copy ++ names_of_job o) (job_names now) c.end_overlapping.new.files c.take_over.new.files (g.D.Dir.cells c.end_overlapping.new.dir) (g.D.Dir.cells c.take_over.new.dir)) c.take.ensures.value c.take_over.ensures.moves in
    let moves = both_moved (job_names copy) (names_of_job p.job) (job_names now) (running_names p.copies.running) (running_names c.end_overlapping.new.running) c.hold_there.new.self c.end_overlapping.new.files c.take_over.new.files
    (g.D.Dir.cells p.dir) (g.D.Dir.cells c.end_overlapping.new.dir) (g.D.Dir.cells c.take_over.new.dir) c.end_overlapping.ensures.moves taken (begun_few p.job copy now takes) in
    begun_stays g.D.Dir.cells p c.self.invariant (p.jobs + 1) refl c.args.state c.in-Ok.infos c.in-Ok.ensures (rw (← c.self.view_is) at c.requires.wanted).above agreed
    copy copy_is c.told.ensures c.reused.result.now c.reused.ensures c.hold_there.new.self c.in-Ok-hold_there.ensures.holds now c.take_over.ensures.is takes c.end_overlapping.new.running beside c.take_over.new.dir c.take_over.new.files moves)

pub returns-clause-appears : goal.returns-clause-appears
returns-clause-appears g c = rw (← c.self.view_is)
    (let p = c.self.inside.parts in
    let held : c.as_slice-2.result.now ≡ held_metas p.known p.files (meta_names c.args.state.files) = held_slice p.known p.files c.args.state _ _ _ c.as_slice-2.ensures c.in-Ok-held_of.ensures c.as_slice.ensures in
    let copy : Job = c.in-Ok-begin.copy in
    let copy_is : copy ≡ job_on (p.jobs + 1) c.args.state p.files = c.in-Ok-begin.ensures.job ∙ begun_as (reads_of (g.D.Dir.cells p.dir)) p.files p.known c.as_slice-2.result.now c.self.invariant.known c.in-Ok.infos c.args.state c.in-Ok.ensures.files held PointKind (p.jobs + 1) in
    let agreed = begun_agrees (reads_of (g.D.Dir.cells p.dir)) p.files p.known c.as_slice-2.result.now c.self.invariant.known c.in-Ok.infos c.args.state c.in-Ok.ensures.files held c.in-Ok-begin.ensures.agreed in
    let beside : c.end_overlapping.new.running ≡ copies_beside (meta_names c.args.state.files) p.copies.running =
    c.end_overlapping.ensures.rest ∙ ap (λ (fs : List (Name × FileMetaData)). copies_beside (meta_names fs) p.copies.running) (c.as_slice-3.ensures ∙ ap (λ (s : CopyState). s.files) (c.want.ensures ∙ ap (λ (j : Job). j.want) copy_is)) in
    let now : Job = c.take_over.new.copy in
    let takes : Begins p.job copy now = subst (λ (o : Option PointJob). Begins o copy now) c.take.ensures.value (begins c.take.result copy now (ap (λ (j : Job). j.parts) copy_is) c.take_over.ensures.job) in
    let taken : MovesCounts [] (job_names copy ++ names_of_job p.job) (job_names now) c.end_overlapping.new.files c.take_over.new.files (g.D.Dir.cells c.end_overlapping.new.dir) (g.D.Dir.cells c.take_over.new.dir) =
    subst (λ (o : Option PointJob). MovesCounts [] (job_names copy ++ names_of_job o) (job_names now) c.end_overlapping.new.files c.take_over.new.files (g.D.Dir.cells c.end_overlapping.new.dir) (g.D.Dir.cells c.take_over.new.dir)) c.take.ensures.value c.take_over.ensures.moves in
    let moves = both_moved (job_names copy) (names_of_job p.job) (job_names now) (running_names p.copies.running) (running_names c.end_overlapping.new.running) c.hold_there.new.self c.end_overlapping.new.files c.take_over.new.files
    (g.D.Dir.cells p.dir) (g.D.Dir.cells c.end_overlapping.new.dir) (g.D.Dir.cells c.take_over.new.dir) c.end_overlapping.ensures.moves taken (begun_few p.job copy now takes) in
    none_appears g.D.Dir.cells p c.self.invariant (p.jobs + 1) refl c.args.state c.in-Ok.infos c.in-Ok.ensures (rw (← c.self.view_is) at c.requires.wanted).above agreed
    copy copy_is c.told.ensures c.reused.result.now c.reused.ensures c.hold_there.new.self c.in-Ok-hold_there.ensures.holds now c.take_over.ensures.is takes c.end_overlapping.new.running beside c.take_over.new.dir c.take_over.new.files moves)
