-- The pending files that a point leaves, beside the others.
use Rattle.std.proofs.Common.{◌≡◌, ◌+◌, Bool, true, false, not, List, [], ◌∷◌, ◌++◌, Option, Some, cond, refl, sym, ap, subst, ◌∙◌, arith}
use Rattle.std.specs.Prelude.{filter, IfSome}
use Rattle.file_names.specs.Names.{temp_name_of}
use Rattle.disk_model.specs.Disk.{Name, is_among}
use Rattle.file_deleter.specs.Holdings.{times}
use Rattle.file_deleter.proofs.NameLemmas.{times-append, times-cons}
use Rattle.copy_state.specs.declared.meta.FileMetaData.{FileMetaData}
use Rattle.copy_state.specs.declared.state.CopyState.{CopyState}
use Rattle.copy_state.specs.States.{meta_names}
use Rattle.merge_precopy.specs.Pending.{Pending, files_named, files_not_named}
use Rattle.replica_node.specs.declared.job.PointJob.{PointJob}
use Rattle.replica_node.specs.declared.merges.MergeCopies.{MergeCopies}
use Rattle.replica_node.specs.Merges.{running_names, copies_names}
use Rattle.replica_node.specs.Waiting.{HasNoTemporary}
use Rattle.replica_node.specs.declared.parting.Left.{Left}
use Rattle.replica_node.specs.Parting.{AreLeft, pending_after}

-- files are those that pass a test and those that do not
parts : (test : Name → Bool) (files : List (Name × FileMetaData)) (q : Name) → times (meta_names files) q ≡ times (meta_names (filter (λ f. test f.0) files)) q + times (meta_names (filter (λ f. not (test f.0)) files)) q
parts test [] q = let z : times [] q ≡ 0 = refl in omega (arith, z)
parts test (f ∷ fs) q = by (parts test fs q) (test f.0)
  where
    by : times (meta_names fs) q ≡ times (meta_names (filter (λ g. test g.0) fs)) q + times (meta_names (filter (λ g. not (test g.0)) fs)) q → (b : Bool)
        → times (f.0 ∷ meta_names fs) q ≡ times (meta_names (cond b (f ∷ filter (λ g. test g.0) fs) (filter (λ g. test g.0) fs))) q + times (meta_names (cond (not b) (f ∷ filter (λ g. not (test g.0)) fs) (filter (λ g. not (test g.0)) fs))) q
    by rest true = omega (arith, rest, times-cons f.0 (meta_names fs) q, times-cons f.0 (meta_names (filter (λ g. test g.0) fs)) q)
    by rest false = omega (arith, rest, times-cons f.0 (meta_names fs) q, times-cons f.0 (meta_names (filter (λ g. not (test g.0)) fs)) q)

module _ (p : Pending) (state : CopyState) (l : Left) (is : AreLeft p state l) where
  pub left_split : (q : Name) → times (meta_names p.files) q ≡ times (meta_names l.pending.files) q + times l.dropped.items q
  left_split q =
      let names : List Name = meta_names state.files in
      let kept : times (meta_names l.pending.files) q ≡ times (meta_names (files_not_named state.completed (files_not_named names p.files))) q = ap (λ (k : Pending). times (meta_names k.files) q) is.pending in
      let gone : times l.dropped.items q ≡ times (meta_names (files_named names p.files)) q + times (meta_names (files_named state.completed (files_not_named names p.files))) q =
      ap (λ (ns : List Name). times ns q) is.dropped ∙ times-append (meta_names (files_named names p.files)) (meta_names (files_named state.completed (files_not_named names p.files))) q in
      omega (arith, kept, gone, parts (is_among names) p.files q, parts (is_among state.completed) (files_not_named names p.files) q)

  pub left_settled : HasNoTemporary (meta_names p.files) → HasNoTemporary (meta_names l.pending.files)
  left_settled was = record { each = λ name job. omega (arith, was.each name job, left_split (temp_name_of name job)) }

  pub left_unexpected : p.expected ≡ [] → l.pending.expected ≡ []
  left_unexpected was = ap (λ (k : Pending). k.expected) is.pending ∙ was

-- the names that copies hold, where the pending files are parted
pub copies_split : (c : MergeCopies) (state : CopyState) (l : Left) → AreLeft c.pending state l → (dropped : List Name) → dropped ≡ l.dropped.items → (q : Name) → times (copies_names c) q ≡ times (copies_names (record { running = c.running; pending = l.pending })) q + times dropped q
copies_split c state l is dropped same q =
    let e : times dropped q ≡ times l.dropped.items q = ap (λ (ns : List Name). times ns q) same in
    omega (arith, e, left_split c.pending state l is q, times-append (running_names c.running) (meta_names c.pending.files) q, times-append (running_names c.running) (meta_names l.pending.files) q)

-- the files that two lists of names take out, one after the other
pub left_of : (p first mid last : Pending) (state : CopyState) (names completed taken more : List Name) → first ≡ p → names ≡ meta_names state.files → completed ≡ state.completed → mid ≡ record first { files = files_not_named names first.files }
    → last ≡ record mid { files = files_not_named completed mid.files } → taken ≡ meta_names (files_named names first.files) → more ≡ meta_names (files_named completed mid.files) → (l : Left) → l.pending ≡ last → l.dropped.items ≡ taken ++ more → AreLeft p state l
left_of p first mid last state names completed taken more first_is names_are completed_are mid_is last_is taken_is more_is l pending dropped = record {
  pending = pending ∙ last_is ∙ ap (λ (k : Pending). record k { files = files_not_named completed k.files }) mid_is ∙ ap (pending_after names completed) first_is ∙ ap (λ (ns : List Name). pending_after ns completed p) names_are
      ∙ ap (λ (ns : List Name). pending_after (meta_names state.files) ns p) completed_are;
  dropped = dropped ∙ ap (λ (ns : List Name). ns ++ more) taken_is ∙ ap (λ (ns : List Name). meta_names (files_named names first.files) ++ ns) more_is
      ∙ ap (λ (k : Pending). meta_names (files_named names first.files) ++ meta_names (files_named completed k.files)) mid_is
      ∙ ap (λ (k : Pending). meta_names (files_named names k.files) ++ meta_names (files_named completed (files_not_named names k.files))) first_is
      ∙ ap (λ (ns : List Name). meta_names (files_named ns p.files) ++ meta_names (files_named completed (files_not_named ns p.files))) names_are
      ∙ ap (λ (ns : List Name). meta_names (files_named (meta_names state.files) p.files) ++ meta_names (files_named ns (files_not_named (meta_names state.files) p.files))) completed_are;
}

-- what is pending once the job's point is searched
pub pending_parted : (c : MergeCopies) (job : Option PointJob) (j : PointJob) → job ≡ Some j → (state : CopyState) → state ≡ j.copy.want → (l : Left) → AreLeft c.pending state l
    → IfSome job (λ k. record c { pending = l.pending } ≡ record c { pending = pending_after (meta_names k.copy.want.files) k.copy.want.completed c.pending })
pending_parted c job j e state of l is = subst (λ (o : Option PointJob). IfSome o (λ k. record c { pending = l.pending } ≡ record c { pending = pending_after (meta_names k.copy.want.files) k.copy.want.completed c.pending })) (sym e)
    (ap (λ (k : Pending). record c { pending = k }) (is.pending ∙ ap (λ (w : CopyState). pending_after (meta_names w.files) w.completed c.pending) of))
