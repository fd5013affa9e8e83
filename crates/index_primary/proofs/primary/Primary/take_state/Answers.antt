use Rattle.std.proofs.Common.{◌≡◌, ℕ, List, Err, ◌∙◌, length, sym, ap, subst, arith}
use Rattle.disk_model.specs.Disk.{Name, Cells, reads_of}
use Rattle.index_primary.proofs.Framing.{held_framed, held_short}
use Rattle.copy_state.specs.States.{AreShortNames}
use Rattle.file_deleter.specs.Holdings.{AreThere}
use Rattle.index_primary.proofs.Keeping.{point_names_there, primary_read, primary_states, states_only}
use Rattle.std.proofs.Common.{refl}
use Rattle.index_primary.proofs.NewFiles.{no_new_named}
use Rattle.index_primary.specs.declared.parts.PrimaryFault.TheVariants.{Failed}
use Rattle.index_primary.specs.Loads.{disk_answer}
use Rattle.commit_steps.specs.StepCalls.{CallsInRow}
use Rattle.index_primary.proofs.LoadCounts.{none_loaded, row_refused, stopped_at, failed_of}
use Rattle.index_primary.proofs.primary.Primary.take_state.Goals as goal

pub metas_of-requires : goal.metas_of-requires
metas_of-requires g c = rw (c.as_slice.ensures, c.in_ok-names.ensures) (held_framed (reads_of (g.D.Dir.cells c.self.inside.parts.dir)) c.self.inside.parts.point_infos c.self.inside.parts.searchers.point.readers c.self.inside.parts.searchers.point.names
    c.self.invariant.searched c.in_ok-infos.ensures.spelled.fit.records)

pub lend-requires-clause-there : goal.lend-requires-clause-there
lend-requires-clause-there g c = rw (c.as_slice-2.ensures, c.in_ok-names.ensures)
    (subst (λ (k : Cells). AreThere k c.self.inside.parts.searchers.point.names) (sym c.in-Ok.ensures.cells) (point_names_there g.D.Dir.cells c.self.inside.parts c.self.invariant))

pub invariant_of-self-2 : goal.invariant_of-self-2
invariant_of-self-2 g c =
    primary_states g.D.Dir.cells (record c.self.inside.parts { dir = c.metas_of.new.dir }) (primary_read g.D.Dir.cells c.self.inside.parts c.self.invariant c.metas_of.new.dir c.in-Ok.ensures.cells)
    c.metas_of.new.dir c.lend.new.files c.lend.new.states c.in-Ok-lend.ensures.moves (rw (c.as_slice-2.ensures, c.in_ok-names.ensures) at c.in-Ok-lend.ensures.only)

pub returns-clause-whole : goal.returns-clause-whole
returns-clause-whole g c =
    primary_states g.D.Dir.cells (record c.self.inside.parts { dir = c.metas_of.new.dir }) (primary_read g.D.Dir.cells c.self.inside.parts c.self.invariant c.metas_of.new.dir c.in-Ok.ensures.cells)
    c.metas_of.new.dir c.lend.new.files c.lend.new.states c.in-Ok-lend.ensures.moves (rw (c.as_slice-2.ensures, c.in_ok-names.ensures) at c.in-Ok-lend.ensures.only)

pub returns-clause-copy : goal.returns-clause-copy
returns-clause-copy g c =
    let p = c.self.inside.parts in
    record {
      infos = p.point_infos;
      spelled = c.in_ok-infos.ensures;
      files = subst AreShortNames (sym (c.in-Ok.ensures.names ∙ c.as_slice.ensures ∙ c.in_ok-names.ensures))
          (held_short (reads_of (g.D.Dir.cells p.dir)) p.point_infos p.searchers.point.readers p.searchers.point.names c.self.invariant.searched c.in_ok-infos.ensures.spelled.fit.records);
      completed = subst AreShortNames (sym c.in_ok-completed.ensures) c.self.invariant.completed;
    }

pub returns-clause-no_new : goal.returns-clause-no_new
returns-clause-no_new g c = rw (← c.self.view_is)
    (let p = c.self.inside.parts in
    let only = rw (c.as_slice-2.ensures, c.in_ok-names.ensures) at c.in-Ok-lend.ensures.only in
    let whole =
    primary_states g.D.Dir.cells (record p { dir = c.metas_of.new.dir }) (primary_read g.D.Dir.cells p c.self.invariant c.metas_of.new.dir c.in-Ok.ensures.cells) c.metas_of.new.dir c.lend.new.files c.lend.new.states
    c.in-Ok-lend.ensures.moves only in
    no_new_named g.D.Dir.cells p _ c.self.invariant whole refl (states_only p c.lend.new.states only))

pub returns-in_err-names-clause-calls : goal.returns-in_err-names-clause-calls
returns-in_err-names-clause-calls g c = rw (← c.self.view_is)
    (none_loaded (length c.self.inside.parts.searchers.point.names) (g.D.Dir.plans c.self.inside.parts.dir) c.from_residual.result c.from_residual.ensures.1)

pub returns-in_err-held-clause-calls : goal.returns-in_err-held-clause-calls
returns-in_err-held-clause-calls g c = rw (← c.self.view_is)
    (none_loaded (length c.self.inside.parts.searchers.point.names) (g.D.Dir.plans c.self.inside.parts.dir) c.from_residual-in_err-held.result c.from_residual-in_err-held.ensures.1)

pub returns-in_err-completed-clause-calls : goal.returns-in_err-completed-clause-calls
returns-in_err-completed-clause-calls g c = rw (← c.self.view_is)
    (none_loaded (length c.self.inside.parts.searchers.point.names) (g.D.Dir.plans c.self.inside.parts.dir) c.from_residual-in_err-completed.result c.from_residual-in_err-completed.ensures.1)

pub returns-in_err-infos-clause-calls : goal.returns-in_err-infos-clause-calls
returns-in_err-infos-clause-calls g c = rw (← c.self.view_is)
    (none_loaded (length c.self.inside.parts.searchers.point.names) (g.D.Dir.plans c.self.inside.parts.dir) c.from_residual-in_err-infos.result c.from_residual-in_err-infos.ensures.1)

pub returns-in-Err-clause-calls : goal.returns-in-Err-clause-calls
returns-in-Err-clause-calls g c = rw (← c.self.view_is)
    (subst (λ (n : ℕ). CallsInRow n (g.D.Dir.plans c.self.inside.parts.dir) (g.D.Dir.plans c.metas_of.new.dir) (disk_answer {T = Unit {0}} (Err c.refused.result))) (ap (λ (ns : List Name). length ns) (c.as_slice.ensures ∙ c.in_ok-names.ensures))
    (row_refused (Unit {0}) (length c.as_slice.result.now) (g.D.Dir.plans c.self.inside.parts.dir) (g.D.Dir.plans c.metas_of.new.dir) c.in-Err.fault c.refused.result c.refused.ensures c.in-Err.ensures.calls))

pub returns-in-Err-clause-failed : goal.returns-in-Err-clause-failed
returns-in-Err-clause-failed g c told = rw (← c.self.view_is) (c.in-Err.ensures.failed (ap Err (failed_of c.in-Err.fault c.refused.result c.refused.ensures (let e : c.refused.result ≡ Failed = cc in e))))

pub returns-in-Err-lend-clause-calls : goal.returns-in-Err-lend-clause-calls
returns-in-Err-lend-clause-calls g c = rw (← c.self.view_is)
    (let n = length c.self.inside.parts.searchers.point.names in
    stopped_at n n (g.D.Dir.plans c.self.inside.parts.dir) (g.D.Dir.plans c.metas_of.new.dir) (omega arith) (rw (c.as_slice.ensures, c.in_ok-names.ensures) at c.in-Ok.ensures.calls))

pub returns-clause-calls : goal.returns-clause-calls
returns-clause-calls g c = rw (← c.self.view_is) (rw (c.as_slice.ensures, c.in_ok-names.ensures) at c.in-Ok.ensures.calls)
