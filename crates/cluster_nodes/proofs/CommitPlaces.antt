-- What a commit that begins, or makes its next call, leaves of its node.
use Rattle.std.proofs.Common.{◌≡◌, ◌≢◌, ◌∙◌, ◌+◌, ℕ, Bool, List, [], ◌∷◌, ◌++◌, Some, None, Option, refl, ap, sym, subst, arith}
use Rattle.std.specs.Prelude.{IsSomeAnd}
use Rattle.disk_model.specs.Disk.{Name, Cells}
use Rattle.file_deleter.specs.Holdings.{Holdings, times}
use Rattle.file_deleter.proofs.NameLemmas.{times-append}
use Rattle.segment_infos.specs.declared.infos.Infos.{Infos}
use Rattle.segment_infos.specs.Files.{AreFilesOf}
use Rattle.commit_steps.specs.declared.stage.Stage.{Stage}
use Rattle.commit_steps.specs.declared.stage.CommitBook.{CommitBook}
use Rattle.commit_steps.specs.Book.{HasBegun, book_after, book_names, is_last_step}
use Rattle.searcher_switch.specs.Node.{IsWholeNode, HoldsNoMore}
use Rattle.searcher_switch.specs.Appearing.{NoneAppears, AppearsOnly, IsNameInFlight}
use Rattle.searcher_switch.proofs.Appearing.{only_none}
use Rattle.searcher_switch.specs.Tickets.{ticket_names}
use Rattle.searcher_switch.specs.Searching.{searcher_names}
use Rattle.index_primary.specs.declared.parts.PrimaryParts.{PrimaryParts}
use Rattle.index_primary.specs.Primary.{IsPrimary, KeepsHeldBytes, primary_names, rest_names}
use Rattle.replica_node.specs.declared.parts.ReplicaParts.{ReplicaParts}
use Rattle.replica_node.specs.Replica.{IsWholeReplica, AreStanding}
use Rattle.replica_node.specs.Sources.{KeepsSource}
use Rattle.cluster_nodes.specs.declared.nodes.Node.{Node}
use Rattle.cluster_nodes.specs.declared.nodes.Node.TheVariants.{Primary, Replica, Down}
use Rattle.cluster_nodes.specs.declared.nodes.NodePlace.{NodePlace}
use Rattle.cluster_nodes.specs.Places.{place_of, disk_of}
use Rattle.cluster_nodes.specs.Commits.{HasStage, HasStageAt, KeepsBook, StepsBook, AltersCommits}

-- what the laws on counts say
abbrev BeginLaw : Type 0
BeginLaw = (cells : Cells) (old new : Holdings) (hs : List Name) (was now : CommitBook) (infos : Infos) (names : List Name) → IsWholeNode cells old hs was → IsWholeNode cells new hs now → HasBegun infos was now → AreFilesOf infos names
    → ((q : Name) → times hs q ≡ 0 → times names q ≡ 0) → HoldsNoMore old new

abbrev StepLaw : Type 0
StepLaw = (before after : Cells) (old new : Holdings) (hs : List Name) (was now : CommitBook) → IsWholeNode before old hs was → IsWholeNode after new hs now → now ≡ book_after was → HoldsNoMore old new

-- with the same book no file is held more
same_holds : {before after : Cells} (old new : Holdings) (hs : List Name) (was now : CommitBook) → IsWholeNode before old hs was → IsWholeNode after new hs now → now ≡ was → HoldsNoMore old new
same_holds old new hs was now first second same = record {
  each = λ q plain pending none.
      let a = first.counts q in
      let b = second.counts q in
      let c : times (book_names now) q ≡ times (book_names was) q = ap (λ (k : CommitBook). times (book_names k) q) same in
      omega (arith, none, a, b, c);
}

module _ {D : Type 0} (cells : D → Cells) where
  -- a name of the point that is searched is one of the primary's
  point_named : (p : PrimaryParts D) (q : Name) → times (primary_names p) q ≡ 0 → times p.searchers.point.names q ≡ 0
  point_named p q none =
      let first : times (primary_names p) q ≡ times (searcher_names p.searchers) q + times (p.names ++ rest_names p) q = times-append (searcher_names p.searchers) (p.names ++ rest_names p) q in
      let second : times (searcher_names p.searchers) q ≡ times p.searchers.point.names q + times (ticket_names p.searchers.tickets) q = times-append p.searchers.point.names (ticket_names p.searchers.tickets) q in
      omega (arith, none, first, second)

  -- the primary begins a commit
  pub primary_begins : (law : BeginLaw) (x : Node D) (p q : PrimaryParts D) → x ≡ Primary p → q ≡ record p { files = q.files; commits = q.commits } → KeepsHeldBytes cells p q → IsPrimary cells q
      → HasBegun p.point_infos p.commits q.commits → AltersCommits HasBegun cells x (Primary q)
  primary_begins law x p q is others stays whole begun = subst (λ (z : Node D). AltersCommits HasBegun cells z (Primary q)) (sym is) (
    record {
      others = others ∙ ap (λ (d : D). record p { dir = d; files = q.files; commits = q.commits }) (sym (ap (λ (z : PrimaryParts D). z.dir) others));
      whole = whole;
      stays = stays;
      no_more = λ was. law (cells p.dir) p.files q.files (primary_names p) p.commits q.commits p.point_infos p.searchers.point.names was.node
          (subst (λ (x : D × List Name). IsWholeNode (cells x.0) q.files x.1 q.commits) (λ i. (ap (λ (z : PrimaryParts D). z.dir) others i, ap (λ (z : PrimaryParts D). primary_names z) others i)) whole.node)
          begun was.searched.files (λ name. point_named p name);
      appears = only_none (IsNameInFlight p.commits.stage) (cells p.dir) (cells q.dir) (record { each = λ name none. ap (λ (z : PrimaryParts D). (cells z.dir name).now) others ∙ none });
    },
    begun,
  )

  -- its commits moved so, and it holds no file of a segment that nobody held
  primary_alters : (Step : Infos → CommitBook → CommitBook → Type 0) (x : Node D) (p q : PrimaryParts D) → x ≡ Primary p → q ≡ record p { dir = q.dir; files = q.files; commits = q.commits } → KeepsHeldBytes cells p q
      → AppearsOnly (IsNameInFlight p.commits.stage) (cells p.dir) (cells q.dir) → IsPrimary cells q → (IsPrimary cells p → HoldsNoMore p.files q.files) → Step p.point_infos p.commits q.commits → AltersCommits Step cells x (Primary q)
  primary_alters Step x p q is others stays appears whole no_more step = subst (λ (z : Node D). AltersCommits Step cells z (Primary q)) (sym is) (
    record {
      others = others;
      whole = whole;
      stays = stays;
      no_more = no_more;
      appears = appears;
    },
    step,
  )

  -- the holders beside the commits are those that were
  whole_along : (p q : PrimaryParts D) → q ≡ record p { dir = q.dir; files = q.files; commits = q.commits } → IsPrimary cells q → IsWholeNode (cells q.dir) q.files (primary_names p) q.commits
  whole_along p q others whole = subst (λ (names : List Name). IsWholeNode (cells q.dir) q.files names q.commits) (ap (λ (z : PrimaryParts D). primary_names z) others) whole.node

  -- or makes the next call for it
  pub primary_steps : (law : StepLaw) (x : Node D) (p q : PrimaryParts D) (done : Bool) → x ≡ Primary p → q ≡ record p { dir = q.dir; files = q.files; commits = q.commits } → KeepsHeldBytes cells p q
      → AppearsOnly (IsNameInFlight p.commits.stage) (cells p.dir) (cells q.dir) → IsPrimary cells q → q.commits ≡ book_after p.commits → done ≡ is_last_step p.commits.stage → AltersCommits (StepsBook done) cells x (Primary q)
  primary_steps law x p q done is others stays appears whole after last =
      primary_alters (StepsBook done) x p q is others stays appears whole
      (λ was. law (cells p.dir) (cells q.dir) p.files q.files (primary_names p) p.commits q.commits was.node (whole_along p q others whole) after)
      (record { after = after; ends = last })

  -- or its disk fails
  pub primary_fails : (x : Node D) (p q : PrimaryParts D) → x ≡ Primary p → q ≡ record p { dir = q.dir; files = q.files; commits = q.commits } → KeepsHeldBytes cells p q
      → AppearsOnly (IsNameInFlight p.commits.stage) (cells p.dir) (cells q.dir) → IsPrimary cells q → q.commits ≡ p.commits → AltersCommits KeepsBook cells x (Primary q)
  primary_fails x p q is others stays appears whole same =
      primary_alters KeepsBook x p q is others stays appears whole (λ was. same_holds p.files q.files (primary_names p) p.commits q.commits was.node (whole_along p q others whole) same) same

  -- the same of a replica
  pub replica_begins : (x : Node D) (r s : ReplicaParts D) → x ≡ Replica r → s ≡ record r { files = s.files; commits = s.commits } → IsWholeReplica cells s → (AreStanding cells r → AreStanding cells s) → KeepsSource cells r s
      → HasBegun r.infos r.commits s.commits → AltersCommits HasBegun cells x (Replica s)
  replica_begins x r s is others whole standing sourced begun = subst (λ (z : Node D). AltersCommits HasBegun cells z (Replica s)) (sym is) (
    record {
      others = others ∙ ap (λ (d : D). record r { dir = d; files = s.files; commits = s.commits }) (sym (ap (λ (z : ReplicaParts D). z.dir) others));
      whole = whole;
      standing = standing;
      sourced = sourced;
      appears = only_none (IsNameInFlight r.commits.stage) (cells r.dir) (cells s.dir) (record { each = λ name none. ap (λ (z : ReplicaParts D). (cells z.dir name).now) others ∙ none });
    },
    begun,
  )

  -- its commits moved so
  replica_alters : (Step : Infos → CommitBook → CommitBook → Type 0) (x : Node D) (r s : ReplicaParts D) → x ≡ Replica r → s ≡ record r { dir = s.dir; files = s.files; commits = s.commits } → IsWholeReplica cells s → (AreStanding cells r → AreStanding cells s)
      → KeepsSource cells r s → AppearsOnly (IsNameInFlight r.commits.stage) (cells r.dir) (cells s.dir) → Step r.infos r.commits s.commits → AltersCommits Step cells x (Replica s)
  replica_alters Step x r s is others whole standing sourced appears step = subst (λ (z : Node D). AltersCommits Step cells z (Replica s)) (sym is) (
    record {
      others = others;
      whole = whole;
      standing = standing;
      sourced = sourced;
      appears = appears;
    },
    step,
  )

  pub replica_steps : (x : Node D) (r s : ReplicaParts D) (done : Bool) → x ≡ Replica r → s ≡ record r { dir = s.dir; files = s.files; commits = s.commits } → IsWholeReplica cells s → (AreStanding cells r → AreStanding cells s) → KeepsSource cells r s
      → AppearsOnly (IsNameInFlight r.commits.stage) (cells r.dir) (cells s.dir) → s.commits ≡ book_after r.commits → done ≡ is_last_step r.commits.stage → AltersCommits (StepsBook done) cells x (Replica s)
  replica_steps x r s done is others whole standing sourced appears after last = replica_alters (StepsBook done) x r s is others whole standing sourced appears (record { after = after; ends = last })

  pub replica_fails : (x : Node D) (r s : ReplicaParts D) → x ≡ Replica r → s ≡ record r { dir = s.dir; files = s.files; commits = s.commits } → IsWholeReplica cells s → (AreStanding cells r → AreStanding cells s) → KeepsSource cells r s
      → AppearsOnly (IsNameInFlight r.commits.stage) (cells r.dir) (cells s.dir) → s.commits ≡ r.commits → AltersCommits KeepsBook cells x (Replica s)
  replica_fails x r s is others whole standing sourced appears same = replica_alters KeepsBook x r s is others whole standing sourced appears same

  -- ---- in a place

  pub stage_here : (P : Option Stage → Type 0) (o : Option (NodePlace D)) (z : NodePlace D) → o ≡ Some z → HasStageAt P o → HasStage P (disk_of z.node).book
  stage_here P o z is has = subst (HasStageAt P) is has

  pub some_here : (P : Option Stage → Type 0) (o : Option (NodePlace D)) → HasStageAt P o → o ≢ None
  some_here P o has none = subst (HasStageAt P) none has
