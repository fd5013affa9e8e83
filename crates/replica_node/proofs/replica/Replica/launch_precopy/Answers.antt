use Rattle.std.proofs.Common.{◌≡◌, ◌∙◌, ◌+◌, List, [], ◌∷◌, ◌++◌, refl, sym, ap, subst}
use Rattle.disk_model.specs.Disk.{reads_of}
use Rattle.copy_state.specs.States.{meta_names}
use Rattle.copy_job.specs.declared.part.JobKind.TheVariants.{Merge as MergeKind}
use Rattle.copy_job.specs.Jobs.{Job}
use Rattle.replica_node.specs.Held.{held_metas}
use Rattle.replica_node.specs.Replica.{IsWholeReplica}
use Rattle.replica_node.specs.Sources.{KeepsSource}
use Rattle.replica_node.proofs.Beginnings.{begun_as, held_ascends, begun_agrees, begun_fault, begun_there}
use Rattle.replica_node.proofs.HeldFiles.{held_slice}
use Rattle.replica_node.proofs.Segments.{segment_infos, segment_files}
use Rattle.replica_node.proofs.Launched.{launched_whole, launched_sourced, launched_only}
use Rattle.replica_node.proofs.replica.Replica.launch_precopy.Goals as goal

pub begin-requires-clause-held : goal.begin-requires-clause-held
begin-requires-clause-held g c =
    let p = c.self.inside.parts in
    let held : c.as_slice-2.result.now ≡ held_metas p.known p.files (meta_names c.args.state.files) = held_slice p.known p.files c.args.state _ _ _ c.as_slice-2.ensures c.in-Ok.ensures c.as_slice.ensures in
    let infos = segment_infos (rw (← c.self.view_is) at c.requires.launch).segment.seg in
    let listed = segment_files c.args.state (rw (← c.self.view_is) at c.requires.launch).segment c.requires.state.files.ascending in
    held_ascends (reads_of (g.D.Dir.cells p.dir)) p.files p.known c.as_slice-2.result.now c.self.invariant.known infos c.args.state listed held

pub begin-requires-2 : goal.begin-requires-2
begin-requires-2 g c =
    let p = c.self.inside.parts in
    let held : c.as_slice-2.result.now ≡ held_metas p.known p.files (meta_names c.args.state.files) = held_slice p.known p.files c.args.state _ _ _ c.as_slice-2.ensures c.in-Ok.ensures c.as_slice.ensures in
    let infos = segment_infos (rw (← c.self.view_is) at c.requires.launch).segment.seg in
    let listed = segment_files c.args.state (rw (← c.self.view_is) at c.requires.launch).segment c.requires.state.files.ascending in
    let agreed = begun_agrees (reads_of (g.D.Dir.cells p.dir)) p.files p.known c.as_slice-2.result.now c.self.invariant.known infos c.args.state listed held c.in-Ok-begin.ensures.agreed in
    let copy_is = c.in-Ok-begin.ensures.job ∙ begun_as (reads_of (g.D.Dir.cells p.dir)) p.files p.known c.as_slice-2.result.now c.self.invariant.known infos c.args.state listed held MergeKind (p.jobs + 1) in
    begun_there g.D.Dir.cells p c.self.invariant MergeKind (p.jobs + 1) c.args.state infos listed agreed c.in-Ok-begin.copy copy_is c.told.ensures c.in-Ok-begin.copy.reused refl

pub invariant_of-self-2 : goal.invariant_of-self-2
invariant_of-self-2 g c =
    let p = c.self.inside.parts in
    let held : c.as_slice-2.result.now ≡ held_metas p.known p.files (meta_names c.args.state.files) = held_slice p.known p.files c.args.state _ _ _ c.as_slice-2.ensures c.in-Ok.ensures c.as_slice.ensures in
    let infos = segment_infos (rw (← c.self.view_is) at c.requires.launch).segment.seg in
    let listed = segment_files c.args.state (rw (← c.self.view_is) at c.requires.launch).segment c.requires.state.files.ascending in
    let agreed = begun_agrees (reads_of (g.D.Dir.cells p.dir)) p.files p.known c.as_slice-2.result.now c.self.invariant.known infos c.args.state listed held c.in-Ok-begin.ensures.agreed in
    let copy_is = c.in-Ok-begin.ensures.job ∙ begun_as (reads_of (g.D.Dir.cells p.dir)) p.files p.known c.as_slice-2.result.now c.self.invariant.known infos c.args.state listed held MergeKind (p.jobs + 1) in
    subst (λ (cs : List Job). IsWholeReplica g.D.Dir.cells (record p { files = c.begin-2.new.files; jobs = p.jobs + 1; copies = record { running = cs; pending = p.copies.pending } })) (sym c.in-Ok-begin-2.ensures.ok)
    (launched_whole g.D.Dir.cells p c.self.invariant (p.jobs + 1) refl c.args.state c.requires.state (rw (← c.self.view_is) at c.requires.launch) agreed c.in-Ok-begin.copy copy_is c.told.ensures c.in-Ok-begin.copy.reused refl c.begin-2.new.files c.in-Ok-begin-2.ensures.holds (rw (← c.self.view_is) at c.requires.few))

pub returns-clause-whole : goal.returns-clause-whole
returns-clause-whole g c =
    let p = c.self.inside.parts in
    let held : c.as_slice-2.result.now ≡ held_metas p.known p.files (meta_names c.args.state.files) = held_slice p.known p.files c.args.state _ _ _ c.as_slice-2.ensures c.in-Ok.ensures c.as_slice.ensures in
    let infos = segment_infos (rw (← c.self.view_is) at c.requires.launch).segment.seg in
    let listed = segment_files c.args.state (rw (← c.self.view_is) at c.requires.launch).segment c.requires.state.files.ascending in
    let agreed = begun_agrees (reads_of (g.D.Dir.cells p.dir)) p.files p.known c.as_slice-2.result.now c.self.invariant.known infos c.args.state listed held c.in-Ok-begin.ensures.agreed in
    let copy_is = c.in-Ok-begin.ensures.job ∙ begun_as (reads_of (g.D.Dir.cells p.dir)) p.files p.known c.as_slice-2.result.now c.self.invariant.known infos c.args.state listed held MergeKind (p.jobs + 1) in
    subst (λ (cs : List Job). IsWholeReplica g.D.Dir.cells (record p { files = c.begin-2.new.files; jobs = p.jobs + 1; copies = record { running = cs; pending = p.copies.pending } })) (sym c.in-Ok-begin-2.ensures.ok)
    (launched_whole g.D.Dir.cells p c.self.invariant (p.jobs + 1) refl c.args.state c.requires.state (rw (← c.self.view_is) at c.requires.launch) agreed c.in-Ok-begin.copy copy_is c.told.ensures c.in-Ok-begin.copy.reused refl c.begin-2.new.files c.in-Ok-begin-2.ensures.holds (rw (← c.self.view_is) at c.requires.few))

pub returns-clause-begun : goal.returns-clause-begun
returns-clause-begun g c = rw (← c.self.view_is)
    (let p = c.self.inside.parts in
    let held : c.as_slice-2.result.now ≡ held_metas p.known p.files (meta_names c.args.state.files) = held_slice p.known p.files c.args.state _ _ _ c.as_slice-2.ensures c.in-Ok.ensures c.as_slice.ensures in
    let infos = segment_infos (rw (← c.self.view_is) at c.requires.launch).segment.seg in
    let listed = segment_files c.args.state (rw (← c.self.view_is) at c.requires.launch).segment c.requires.state.files.ascending in
    let copy_is = c.in-Ok-begin.ensures.job ∙ begun_as (reads_of (g.D.Dir.cells p.dir)) p.files p.known c.as_slice-2.result.now c.self.invariant.known infos c.args.state listed held MergeKind (p.jobs + 1) in
    ap (λ (cs : List Job). record p.copies { running = cs }) (c.in-Ok-begin-2.ensures.ok ∙ ap (λ (k : Job). p.copies.running ++ k ∷ []) copy_is))

pub returns-clause-agreed : goal.returns-clause-agreed
returns-clause-agreed g c = rw (← c.self.view_is)
    (let p = c.self.inside.parts in
    let held : c.as_slice-2.result.now ≡ held_metas p.known p.files (meta_names c.args.state.files) = held_slice p.known p.files c.args.state _ _ _ c.as_slice-2.ensures c.in-Ok.ensures c.as_slice.ensures in
    let infos = segment_infos (rw (← c.self.view_is) at c.requires.launch).segment.seg in
    let listed = segment_files c.args.state (rw (← c.self.view_is) at c.requires.launch).segment c.requires.state.files.ascending in
    begun_agrees (reads_of (g.D.Dir.cells p.dir)) p.files p.known c.as_slice-2.result.now c.self.invariant.known infos c.args.state listed held c.in-Ok-begin.ensures.agreed)

pub returns-in-Err-clause-fault : goal.returns-in-Err-clause-fault
returns-in-Err-clause-fault g c = rw (← c.self.view_is)
    (let p = c.self.inside.parts in
    let held : c.as_slice-2.result.now ≡ held_metas p.known p.files (meta_names c.args.state.files) = held_slice p.known p.files c.args.state _ _ _ c.as_slice-2.ensures c.in-Ok.ensures c.as_slice.ensures in
    let infos = segment_infos (rw (← c.self.view_is) at c.requires.launch).segment.seg in
    let listed = segment_files c.args.state (rw (← c.self.view_is) at c.requires.launch).segment c.requires.state.files.ascending in
    begun_fault (reads_of (g.D.Dir.cells p.dir)) p.files p.known c.as_slice-2.result.now c.self.invariant.known infos c.args.state listed held c.in-Err.fault c.in-Err.ensures.fault)

pub returns-clause-sourced : goal.returns-clause-sourced
returns-clause-sourced g c = rw (← c.self.view_is)
    (let p = c.self.inside.parts in
    let held : c.as_slice-2.result.now ≡ held_metas p.known p.files (meta_names c.args.state.files) = held_slice p.known p.files c.args.state _ _ _ c.as_slice-2.ensures c.in-Ok.ensures c.as_slice.ensures in
    let infos = segment_infos (rw (← c.self.view_is) at c.requires.launch).segment.seg in
    let listed = segment_files c.args.state (rw (← c.self.view_is) at c.requires.launch).segment c.requires.state.files.ascending in
    let agreed = begun_agrees (reads_of (g.D.Dir.cells p.dir)) p.files p.known c.as_slice-2.result.now c.self.invariant.known infos c.args.state listed held c.in-Ok-begin.ensures.agreed in
    let copy_is = c.in-Ok-begin.ensures.job ∙ begun_as (reads_of (g.D.Dir.cells p.dir)) p.files p.known c.as_slice-2.result.now c.self.invariant.known infos c.args.state listed held MergeKind (p.jobs + 1) in
    subst (λ (cs : List Job). KeepsSource g.D.Dir.cells p (record p { files = c.begin-2.new.files; jobs = p.jobs + 1; copies = record { running = cs; pending = p.copies.pending } })) (sym c.in-Ok-begin-2.ensures.ok)
    (launched_sourced g.D.Dir.cells p c.self.invariant (p.jobs + 1) refl c.args.state c.requires.state (rw (← c.self.view_is) at c.requires.launch) agreed c.in-Ok-begin.copy copy_is c.told.ensures c.in-Ok-begin.copy.reused refl c.begin-2.new.files c.in-Ok-begin-2.ensures.holds))

pub returns-clause-held : goal.returns-clause-held
returns-clause-held g c = rw (← c.self.view_is)
    (let p = c.self.inside.parts in
    let held : c.as_slice-2.result.now ≡ held_metas p.known p.files (meta_names c.args.state.files) = held_slice p.known p.files c.args.state _ _ _ c.as_slice-2.ensures c.in-Ok.ensures c.as_slice.ensures in
    let infos = segment_infos (rw (← c.self.view_is) at c.requires.launch).segment.seg in
    let listed = segment_files c.args.state (rw (← c.self.view_is) at c.requires.launch).segment c.requires.state.files.ascending in
    let agreed = begun_agrees (reads_of (g.D.Dir.cells p.dir)) p.files p.known c.as_slice-2.result.now c.self.invariant.known infos c.args.state listed held c.in-Ok-begin.ensures.agreed in
    let copy_is = c.in-Ok-begin.ensures.job ∙ begun_as (reads_of (g.D.Dir.cells p.dir)) p.files p.known c.as_slice-2.result.now c.self.invariant.known infos c.args.state listed held MergeKind (p.jobs + 1) in
    launched_only g.D.Dir.cells p c.self.invariant (p.jobs + 1) refl c.args.state c.requires.state (rw (← c.self.view_is) at c.requires.launch) agreed c.in-Ok-begin.copy copy_is c.told.ensures c.in-Ok-begin.copy.reused refl c.begin-2.new.files c.in-Ok-begin-2.ensures.holds)
