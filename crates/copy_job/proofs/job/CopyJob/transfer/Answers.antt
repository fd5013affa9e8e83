use Rattle.std.proofs.Common.{◌≡◌, ◌≤◌, ◌+◌, ◌-◌, ◌∙◌, ap, sym, subst, refl, arith, ℕ, not, filter, take, List, [], ◌++◌, length, append-nil, length-append}
use Rattle.std.specs.List.Sorted.{IsStrictlySortedBy}
use Rattle.std.specs.Ordering.{nat_cmp}
use Rattle.std.specs.Cmp.Lexicographic.{slice_cmp}
use Rattle.disk_model.specs.Disk.{Name}
use Rattle.copy_state.specs.declared.meta.FileMetaData.{FileMetaData}
use Rattle.copy_state.specs.States.{meta_names}
use Rattle.copy_job.proofs.Ascending.{sorted_kept}
use Rattle.file_deleter.specs.Holdings.{times, AreCounted}
use Rattle.file_deleter.specs.Moves.{MovesCounts}
use Rattle.copy_job.specs.declared.part.JobPart.{JobPart}
use Rattle.copy_job.specs.Parts.{present_names, own_names}
use Rattle.copy_job.specs.Jobs.{Job, job_names, is_still_wanted, taken_over, taken_parts}
use Rattle.copy_job.proofs.Kept.{names_suffice}
use Rattle.copy_job.proofs.Naming.{length-present_names}
use Rattle.copy_job.proofs.Taking.{own_once, taken_is, taken_room, taken_as, left_as, missing_as, job_as, is_as, front_of, given_back, back_counted, moves_taken}
use Rattle.copy_job.proofs.job.CopyJob.transfer.Goals as goal

pub take_parts-kept-requires-clause-once : goal.take_parts-kept-requires-clause-once
take_parts-kept-requires-clause-once g c q = subst (λ (ps : List JobPart). times (own_names ps) q ≤ 1) (sym c.as_slice-4.ensures.value) (own_once _ c.old.invariant.1 q)

pub take_parts-kept-requires-clause-long : goal.take_parts-kept-requires-clause-long
take_parts-kept-requires-clause-long g c = omega (arith, ap length c.as_slice-4.ensures.value, names_suffice c.old.inside.names.items c.old.inside.reused c.old.inside.parts.items c.old.invariant.0)

pub take_parts-kept-requires-clause-ascend : goal.take_parts-kept-requires-clause-ascend
take_parts-kept-requires-clause-ascend g c = record {
  missing = subst (IsStrictlySortedBy (slice_cmp nat_cmp)) (sym c.as_slice.ensures.value) c.self.invariant.1.lacking;
  had = subst (λ (fs : List (Name × FileMetaData)). IsStrictlySortedBy (slice_cmp nat_cmp) (meta_names fs)) (sym c.as_slice-2.ensures) c.old.invariant.1.state.files.ascending;
  wanted = subst (λ (fs : List (Name × FileMetaData)). IsStrictlySortedBy (slice_cmp nat_cmp) (meta_names fs)) (sym c.as_slice-3.ensures) c.self.invariant.1.state.files.ascending;
}

pub strike_own-requires : goal.strike_own-requires
strike_own-requires g c =
    let older : IsStrictlySortedBy (slice_cmp nat_cmp) (own_names c.as_slice-4.result.now) = subst (λ (ps : List JobPart). IsStrictlySortedBy (slice_cmp nat_cmp) (own_names ps)) (sym c.as_slice-4.ensures.value) c.old.invariant.1.ascending in
    subst (λ (ps : List JobPart). IsStrictlySortedBy (slice_cmp nat_cmp) (own_names ps)) (sym (c.as_slice-5.ensures.value ∙ c.take_parts-kept.ensures.parts))
    (sorted_kept (is_still_wanted c.as_slice.result.now c.as_slice-2.result.now c.as_slice-3.result.now) c.as_slice-4.result.now older)

pub release-requires : goal.release-requires
release-requires g c =
    let j : Job = record { number = c.self.inside.number; kind = c.self.inside.kind; want = c.self.inside.want; missing = c.self.inside.missing.items; parts = c.self.inside.parts.items; reused = c.self.inside.reused } in
    let old : Job = record { number = c.old.inside.number; kind = c.old.inside.kind; want = c.old.inside.want; missing = c.old.inside.missing.items; parts = c.old.inside.parts.items; reused = c.old.inside.reused } in
    let split : (q : Name) → times c.as_slice-6.result.now q + times (present_names (taken_parts j old)) q ≡ times (job_names old) q =
    given_back j old c.as_slice-6.result.now (take (length c.old.inside.names.items - length c.as_slice-4.result.now) c.old.inside.names.items)
    (filter (λ p. not (is_still_wanted c.as_slice.result.now c.as_slice-2.result.now c.as_slice-3.result.now p)) c.as_slice-4.result.now)
    (c.as_slice-6.ensures.value ∙ c.truncate.ensures.items ∙ c.take_parts-kept.ensures.others)
    (front_of c.old.inside.names.items c.old.inside.reused c.old.inside.parts.items c.as_slice-4.result.now c.old.invariant.0 c.as_slice-4.ensures.value)
    (left_as j old c.as_slice.result.now c.as_slice-2.result.now c.as_slice-3.result.now c.as_slice-4.result.now c.as_slice.ensures.value c.as_slice-2.ensures c.as_slice-3.ensures c.as_slice-4.ensures.value) in
    back_counted j old c.as_slice-6.result.now c.args.files.now split
    (subst (λ (k : Job). AreCounted (job_names k ++ job_names old) c.args.files.now) (sym c.self.view_is) (subst (λ (k : Job). AreCounted (job_names c.args.self.now ++ job_names k) c.args.files.now) (sym c.old.view_is) c.requires.counted))

pub invariant_of-self : goal.invariant_of-self
invariant_of-self g c =
    let j : Job = record { number = c.self.inside.number; kind = c.self.inside.kind; want = c.self.inside.want; missing = c.self.inside.missing.items; parts = c.self.inside.parts.items; reused = c.self.inside.reused } in
    let old : Job = record { number = c.old.inside.number; kind = c.old.inside.kind; want = c.old.inside.want; missing = c.old.inside.missing.items; parts = c.old.inside.parts.items; reused = c.old.inside.reused } in
    let none : j.parts ≡ [] = ap (λ (k : Job). k.parts) c.self.view_is ∙ c.requires.none in
    let taken : c.take_parts-kept.new.parts.items ≡ taken_parts j old = c.take_parts-kept.ensures.parts
    ∙ taken_as j old c.as_slice.result.now c.as_slice-2.result.now c.as_slice-3.result.now c.as_slice-4.result.now c.as_slice.ensures.value c.as_slice-2.ensures c.as_slice-3.ensures c.as_slice-4.ensures.value in
    let missing : c.strike_own.new.names.items ≡ (taken_over j old).missing = missing_as j old c.self.inside.missing.items c.strike_own.new.names.items c.take_parts-kept.new.parts.items c.as_slice-5.result.now c.strike_own.ensures refl c.as_slice-5.ensures.value taken in
    let room = taken_room j old c.self.invariant.1 c.old.invariant.1 none in (
      c.take_parts-kept.ensures.names ∙ ap (λ (ns : List Name). ns ++ present_names c.take_parts-kept.new.parts.items) (c.self.invariant.0 ∙ ap (λ (ps : List JobPart). c.self.inside.reused ++ present_names ps) none ∙ append-nil c.self.inside.reused),
      is_as j old c.strike_own.new.names.items c.take_parts-kept.new.parts.items missing taken (taken_is j old c.self.invariant.1 c.old.invariant.1 none),
      omega (arith, room, ap length missing, ap length taken, c.self.invariant.2, c.take_parts-kept.ensures.parts_capacity),
      omega (arith, room, ap length missing, ap length taken, c.self.invariant.3, c.take_parts-kept.ensures.names_capacity, ap length c.take_parts-kept.ensures.names, length-append c.self.inside.names.items (present_names c.take_parts-kept.new.parts.items), length-present_names c.take_parts-kept.new.parts.items),
    )

pub returns-clause-job : goal.returns-clause-job
returns-clause-job g c =
    let j : Job = record { number = c.self.inside.number; kind = c.self.inside.kind; want = c.self.inside.want; missing = c.self.inside.missing.items; parts = c.self.inside.parts.items; reused = c.self.inside.reused } in
    let old : Job = record { number = c.old.inside.number; kind = c.old.inside.kind; want = c.old.inside.want; missing = c.old.inside.missing.items; parts = c.old.inside.parts.items; reused = c.old.inside.reused } in
    let taken : c.take_parts-kept.new.parts.items ≡ taken_parts j old = c.take_parts-kept.ensures.parts
    ∙ taken_as j old c.as_slice.result.now c.as_slice-2.result.now c.as_slice-3.result.now c.as_slice-4.result.now c.as_slice.ensures.value c.as_slice-2.ensures c.as_slice-3.ensures c.as_slice-4.ensures.value in
    let missing : c.strike_own.new.names.items ≡ (taken_over j old).missing = missing_as j old c.self.inside.missing.items c.strike_own.new.names.items c.take_parts-kept.new.parts.items c.as_slice-5.result.now c.strike_own.ensures refl c.as_slice-5.ensures.value taken in
    job_as j old c.args.self.now c.strike_own.new.names.items c.take_parts-kept.new.parts.items c.self.view_is missing taken c.args.old c.old.view_is

pub returns-clause-moves : goal.returns-clause-moves
returns-clause-moves g c =
    let j : Job = record { number = c.self.inside.number; kind = c.self.inside.kind; want = c.self.inside.want; missing = c.self.inside.missing.items; parts = c.self.inside.parts.items; reused = c.self.inside.reused } in
    let old : Job = record { number = c.old.inside.number; kind = c.old.inside.kind; want = c.old.inside.want; missing = c.old.inside.missing.items; parts = c.old.inside.parts.items; reused = c.old.inside.reused } in
    let none : j.parts ≡ [] = ap (λ (k : Job). k.parts) c.self.view_is ∙ c.requires.none in
    let taken : c.take_parts-kept.new.parts.items ≡ taken_parts j old = c.take_parts-kept.ensures.parts
    ∙ taken_as j old c.as_slice.result.now c.as_slice-2.result.now c.as_slice-3.result.now c.as_slice-4.result.now c.as_slice.ensures.value c.as_slice-2.ensures c.as_slice-3.ensures c.as_slice-4.ensures.value in
    let missing : c.strike_own.new.names.items ≡ (taken_over j old).missing = missing_as j old c.self.inside.missing.items c.strike_own.new.names.items c.take_parts-kept.new.parts.items c.as_slice-5.result.now c.strike_own.ensures refl c.as_slice-5.ensures.value taken in
    let split : (q : Name) → times c.as_slice-6.result.now q + times (present_names (taken_parts j old)) q ≡ times (job_names old) q =
    given_back j old c.as_slice-6.result.now (take (length c.old.inside.names.items - length c.as_slice-4.result.now) c.old.inside.names.items)
    (filter (λ p. not (is_still_wanted c.as_slice.result.now c.as_slice-2.result.now c.as_slice-3.result.now p)) c.as_slice-4.result.now)
    (c.as_slice-6.ensures.value ∙ c.truncate.ensures.items ∙ c.take_parts-kept.ensures.others)
    (front_of c.old.inside.names.items c.old.inside.reused c.old.inside.parts.items c.as_slice-4.result.now c.old.invariant.0 c.as_slice-4.ensures.value)
    (left_as j old c.as_slice.result.now c.as_slice-2.result.now c.as_slice-3.result.now c.as_slice-4.result.now c.as_slice.ensures.value c.as_slice-2.ensures c.as_slice-3.ensures c.as_slice-4.ensures.value) in
    let now : Job = record j { missing = c.strike_own.new.names.items; parts = c.take_parts-kept.new.parts.items } in
    let moves : MovesCounts [] (job_names j ++ job_names old) (job_names now) c.args.files.now c.release.new.self (g.D.Dir.cells c.args.dir.now) (g.D.Dir.cells c.release.new.dir) =
    moves_taken j old now c.as_slice-6.result.now c.args.files.now c.release.new.self (g.D.Dir.cells c.args.dir.now) (g.D.Dir.cells c.release.new.dir) none
    (job_as j old j c.strike_own.new.names.items c.take_parts-kept.new.parts.items refl missing taken old refl) split c.release.ensures.lets_go in
    subst (λ (k : Job). MovesCounts [] (job_names k ++ job_names c.args.old) (job_names now) c.args.files.now c.release.new.self (g.D.Dir.cells c.args.dir.now) (g.D.Dir.cells c.release.new.dir)) c.self.view_is
    (subst (λ (k : Job). MovesCounts [] (job_names j ++ job_names k) (job_names now) c.args.files.now c.release.new.self (g.D.Dir.cells c.args.dir.now) (g.D.Dir.cells c.release.new.dir)) c.old.view_is moves)
