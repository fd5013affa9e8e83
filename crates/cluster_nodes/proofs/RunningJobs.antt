-- The copy state that the job of a point was begun with, where it runs.
use Rattle.std.proofs.Common.{◌≡◌, ◌∙◌, Bool, true, false, Some, None, Option, refl, ap, sym, subst}
use Rattle.std.specs.Prelude.{IfSome, if◌then◌else◌}
use Rattle.std.proofs.lemmas.Option.{none-some}
use Rattle.copy_state.specs.declared.state.CopyState.{CopyState}
use Rattle.copy_job.specs.Jobs.{Job}
use Rattle.index_primary.specs.declared.parts.PrimaryParts.{PrimaryParts}
use Rattle.index_primary.specs.declared.states.Out.{Out}
use Rattle.index_primary.specs.States.{out_of, is_out}
use Rattle.replica_node.specs.declared.job.PointJob.{PointJob}
use Rattle.replica_node.specs.Jobs.{running_point}
use Rattle.replica_node.proofs.Lent.{RunsHere}
use Rattle.cluster_nodes.specs.Outs.{want_of}

pub no_want : (o : Option PointJob) → running_point o ≡ None → None ≡ want_of o
no_want None none = refl
no_want (Some j) none = by j.stopped refl
  where
    by : (b : Bool) → j.stopped ≡ b → None ≡ want_of (Some j)
    by true e = sym (ap (λ (b : Bool). if b then None else Some (out_of j.copy.want)) e)
    by false e = absurd (none-some j (sym none ∙ ap (λ (b : Bool). if b then None else Some j) e))

pub want_is : (o : Option PointJob) (c : Job) (state : CopyState) → RunsHere c o → state ≡ c.want → Some (out_of state) ≡ want_of o
want_is o c state is same =
    ap (λ (s : CopyState). Some (out_of s)) (same ∙ ap (λ (x : Job). x.want) is.copy) ∙ sym (ap (λ (b : Bool). if b then None else Some (out_of is.job.copy.want)) is.going) ∙ sym (ap want_of is.there)

pub out_of_job : {D : Type 0} (o : Option PointJob) (c : Job) (state : CopyState) (p : PrimaryParts D) → RunsHere c o → state ≡ c.want → IfSome (want_of o) (λ s. is_out s p.states ≡ true) → is_out (out_of state) p.states ≡ true
out_of_job o c state p is same out = subst (λ (w : Option Out). IfSome w (λ s. is_out s p.states ≡ true)) (sym (want_is o c state is same)) out
