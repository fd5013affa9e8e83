-- What a replica is once a copy of a merged segment has begun there, has taken a part, or has ended.
use Rattle.std.proofs.Common.{◌≡◌, ◌≢◌, ◌≤◌, ◌<◌, ◌+◌, ◌^◌, ◌++◌, ◌==◌, ℕ, Bool, true, false, true≢false, List, [], ◌∷◌, Some, None, Option, Result, inl, inr, refl, ap, ◌∙◌, sym, subst, arith, if◌then◌else◌, nat_lt}
use Rattle.std.specs.Prelude.{IfSome, IfOk, IsSome, IsSomeAnd, max, is_some, ⊤}
use Rattle.std.specs.Option.{option_map}
use Rattle.std.specs.List.{All, AllByRecursion}
use Rattle.std.proofs.lemmas.Bool.Decides.{nat_tests}
use Rattle.nrt_base.specs.declared.numbers.Gen.{Gen}
use Rattle.disk_model.specs.Disk.{Name, Content, Cells, is_among}
use Rattle.file_deleter.specs.Holdings.{Holdings, times}
use Rattle.file_deleter.proofs.NameLemmas.{among_times}
use Rattle.file_names.specs.Names.{temp_name_of}
use Rattle.searcher_switch.specs.Appearing.{NoneAppears, AppearsOnly}
use Rattle.searcher_switch.proofs.Appearing.{only_then_none}
use Rattle.copy_state.specs.declared.state.CopyState.{CopyState}
use Rattle.copy_state.specs.declared.meta.FileMetaData.{FileMetaData}
use Rattle.copy_state.specs.States.{meta_names, meta_in}
use Rattle.copy_job.specs.declared.copying.Part.{Part}
use Rattle.copy_job.specs.Jobs.{Job, IsJob, with_part}
use Rattle.replica_node.specs.declared.parts.ReplicaParts.{ReplicaParts}
use Rattle.replica_node.specs.declared.job.PointJob.{PointJob}
use Rattle.replica_node.specs.declared.merges.MergeCopies.{MergeCopies}
use Rattle.replica_node.specs.Merges.{copy_at, copies_with, copies_without, copies_seen, no_copies, SharesNone}
use Rattle.replica_node.specs.Jobs.{job_seen, merge_job_on, running_point}
use Rattle.replica_node.specs.Replica.{IsWholeReplica, AreStanding, MayLaunch}
use Rattle.replica_node.specs.Sources.{IsSourced, KeepsSource}
use Rattle.cluster_nodes.specs.Given.{running_job, with_job, without_job}
use Rattle.cluster_nodes.specs.declared.nodes.Node.{Node}
use Rattle.cluster_nodes.specs.declared.nodes.Node.TheVariants.{Primary, Replica, Down}
use Rattle.cluster_nodes.specs.declared.nodes.NodePlace.{NodePlace}
use Rattle.cluster_nodes.specs.JobChanges.{IsNextToFetch}
use Rattle.history_tables.proofs.RowLemmas.{by_test}
use Rattle.cluster_nodes.proofs.JobFiles.{wanted_meta}
use Rattle.index_primary.specs.declared.parts.PrimaryParts.{PrimaryParts}
use Rattle.node_merges.specs.declared.copies.CopyStep.{CopyStep}
use Rattle.node_merges.specs.declared.copies.CopyStep.TheVariants.{Gone}
use Rattle.node_merges.specs.MergeChanges.{is_copy_of, IsNameOfCopy, MaySend, SendsMerged, IsStepOf, TakesMerged, LosesMerged, DropsMerged}
use Rattle.node_merges.specs.MergePlaces.{IsStepAt}

-- what is told of the generation leaves the copies, or none of them
seen_copies : (P : MergeCopies → Type 0) (seen generation : ℕ) (c : MergeCopies) → P c → P no_copies → P (copies_seen seen generation c)
seen_copies P seen generation c one none = by_test (nat_lt seen generation) (λ b. P (if b then no_copies else c)) (λ above. none) (λ low. one)

nothing_shared : (names : List Name) → SharesNone [] names
nothing_shared names q some = absurd (omega (arith, some))

-- what is so of a job is so of what is left of it
seen_kept : (P : PointJob → Type 0) (seen generation : ℕ) (o : Option PointJob) → IfSome o P → IfSome (job_seen seen generation o) P
seen_kept P seen generation o is = by (nat_lt seen generation) o is
  where
    by : (b : Bool) (p : Option PointJob) → IfSome p P → IfSome (if b then running_point p else p) P
    by false p is = is
    by true None is = tt
    by true (Some j) is = elim j.stopped as (λ b. IfSome (if b then None else Some j) P) [ true ↦ tt | false ↦ is ]

module _ {D : Type 0} where
  -- the state can be launched once the replica was told of its generation
  pub may_launch : (state : CopyState) (r s : ReplicaParts D) → MaySend state r → s.seen.0 ≡ max r.seen.0 state.primary_gen.0 → s.copies ≡ copies_seen r.seen.0 state.primary_gen.0 r.copies → s.job ≡ job_seen r.seen.0 state.primary_gen.0 r.job → MayLaunch s state
  may_launch state r s may seen copies job = record {
    segment = may.segment;
    seen = gen_same state.primary_gen s.seen (let low = may.seen in omega (arith, seen, low));
    job = subst (λ (o : Option PointJob). IfSome o (λ j. SharesNone (meta_names j.copy.want.files) (meta_names state.files))) (sym job)
        (seen_kept (λ j. SharesNone (meta_names j.copy.want.files) (meta_names state.files)) r.seen.0 state.primary_gen.0 r.job may.job);
    copies = subst (λ (c : MergeCopies). AllByRecursion (λ j. SharesNone (meta_names j.want.files) (meta_names state.files)) c.running) (sym copies)
        (seen_copies (λ c. AllByRecursion (λ j. SharesNone (meta_names j.want.files) (meta_names state.files)) c.running) r.seen.0 state.primary_gen.0 r.copies may.copies (record {}));
    pending = subst (λ (c : MergeCopies). SharesNone (meta_names c.pending.files) (meta_names state.files)) (sym copies)
        (seen_copies (λ c. SharesNone (meta_names c.pending.files) (meta_names state.files)) r.seen.0 state.primary_gen.0 r.copies may.pending (nothing_shared (meta_names state.files)));
  }
    where
      gen_same : (a b : Gen) → b.0 ≡ a.0 → a ≡ b
      gen_same a b is = λ i. record { 0 = sym is i }

  -- a copy began
  pub sends : (cells : D → Cells) (state copy : CopyState) (number : ℕ) (r s t : ReplicaParts D) → copy ≡ state → MaySend state r
      → s.seen.0 ≡ max r.seen.0 state.primary_gen.0 → s.copies ≡ copies_seen r.seen.0 state.primary_gen.0 r.copies → s.job ≡ job_seen r.seen.0 state.primary_gen.0 r.job → s ≡ record r { dir = s.dir; files = s.files; seen = s.seen; job = s.job; copies = s.copies }
      → (AreStanding cells r → AreStanding cells s) → KeepsSource cells r s → NoneAppears (cells r.dir) (cells s.dir)
      → number ≡ s.jobs + 1 → t.jobs ≡ s.jobs + 1 → t.copies ≡ record s.copies { running = s.copies.running ++ merge_job_on (s.jobs + 1) copy s.files ∷ [] } → t ≡ record s { files = t.files; jobs = t.jobs; copies = t.copies }
      → IsWholeReplica cells t → (AreStanding cells s → AreStanding cells t) → KeepsSource cells s t → SendsMerged cells state number r t
  sends cells state copy number r s t same may seen copies left told standing sourced none next jobs begun launched whole standing2 sourced2 = record {
    next = next ∙ ap (λ (k : ℕ). k + 1) before;
    jobs = jobs ∙ ap (λ (k : ℕ). k + 1) before;
    seen = ap (λ (z : ReplicaParts D). z.seen) launched ∙ gen_same s.seen state.primary_gen (let low = may.seen in omega (arith, seen, low));
    holdings = s.files;
    copies = begun ∙ ap (λ (m : MergeCopies). record m { running = m.running ++ merge_job_on (s.jobs + 1) copy s.files ∷ [] }) copies
        ∙ ap (λ (k : ℕ). record (copies_seen r.seen.0 state.primary_gen.0 r.copies) { running = (copies_seen r.seen.0 state.primary_gen.0 r.copies).running ++ merge_job_on k copy s.files ∷ [] }) (sym next)
        ∙ ap (λ (z : CopyState). record (copies_seen r.seen.0 state.primary_gen.0 r.copies) { running = (copies_seen r.seen.0 state.primary_gen.0 r.copies).running ++ merge_job_on number z s.files ∷ [] }) same;
    job = ap (λ (z : ReplicaParts D). z.job) launched ∙ left;
    others = launched ∙ ap (λ (z : ReplicaParts D). record z { files = t.files; jobs = t.jobs; copies = t.copies }) (told ∙ ap (λ (g : Gen). record r { dir = s.dir; files = s.files; seen = g; job = s.job; copies = s.copies }) (sym (ap (λ (z : ReplicaParts D). z.seen) launched))) ∙ dirs;
    whole = whole;
    standing = λ is. standing2 (standing is);
    sourced = λ source is. sourced2 source (sourced source is);
    appears = subst (λ (d : D). NoneAppears (cells r.dir) (cells d)) (sym (ap (λ (z : ReplicaParts D). z.dir) launched)) none;
  }
    where
      before : s.jobs ≡ r.jobs
      before = ap (λ (z : ReplicaParts D). z.jobs) told

      gen_same : (a b : Gen) → a.0 ≡ b.0 → a ≡ b
      gen_same a b is = λ i. record { 0 = is i }

      dirs : record r { dir = s.dir; files = t.files; seen = t.seen; jobs = t.jobs; job = s.job; copies = t.copies } ≡ record r { dir = t.dir; files = t.files; seen = t.seen; jobs = t.jobs; job = t.job; copies = t.copies }
      dirs = ap (λ (x : D × Option PointJob). record r { dir = x.0; files = t.files; seen = t.seen; jobs = t.jobs; job = x.1; copies = t.copies })
          (λ i. (sym (ap (λ (z : ReplicaParts D). z.dir) launched) i, sym (ap (λ (z : ReplicaParts D). z.job) launched) i))

-- ---- a copy by its number

pub copy_told : (o : Option Job) (c : Job) → Some c ≡ o → o ≡ Some c
copy_told o c is = sym is

-- the copy that was changed is there under its number
pub with_at : (cs : List Job) (number : ℕ) (c d : Job) → copy_at number cs ≡ Some c → d.number ≡ number → copy_at number (copies_with number d cs) ≡ Some d
with_at [] number c d is same = absurd (cc)
with_at (x ∷ cs) number c d is same =
    by_test (x.number == number) (λ b. (x.number == number) ≡ b → (if b then Some x else copy_at number cs) ≡ Some c → copy_at number (if b then d ∷ cs else x ∷ copies_with number d cs) ≡ Some d)
    (λ here e at. ap (λ (b : Bool). if b then Some d else copy_at number cs) (hit d.number number same))
    (λ apart e at. ap (λ (b : Bool). if b then Some x else copy_at number (copies_with number d cs)) e ∙ with_at cs number c d at same)
    refl is
  where
    hit : (a b : ℕ) → a ≡ b → (a == b) ≡ true
    hit a b e = grind (arith, nat_tests, e)

pub number_at : (cs : List Job) (number : ℕ) (c : Job) → copy_at number cs ≡ Some c → c.number ≡ number
number_at [] number c is = absurd (cc)
number_at (x ∷ cs) number c is =
    by_test (x.number == number) (λ b. (x.number == number) ≡ b → (if b then Some x else copy_at number cs) ≡ Some c → c.number ≡ number)
    (λ here e at. let same : x ≡ c = cc in sym (ap (λ (z : Job). z.number) same) ∙ hit x.number number e)
    (λ apart e at. number_at cs number c at)
    refl is
  where
    hit : (a b : ℕ) → (a == b) ≡ true → a ≡ b
    hit a b e = grind (arith, nat_tests, e)

pub wants : (o : Option Job) (c : Job) (seg : ℕ) (answer : Option (Name × FileMetaData)) (f : Name × FileMetaData) → o ≡ Some c → is_copy_of seg c ≡ true → answer ≡ Some f → IsNextToFetch c answer
    → IsSomeAnd o (λ j. (is_copy_of seg j ≡ true) × IsNextToFetch j (Some (f.0, f.1)))
wants o c seg answer f at is same next = subst (λ (x : Option Job). IsSomeAnd x (λ j. (is_copy_of seg j ≡ true) × IsNextToFetch j (Some (f.0, f.1)))) (sym at)
    (is, subst (IsNextToFetch c) same next)

pub lacks_one : (o : Option Job) (c : Job) (seg : ℕ) (answer : Option (Name × FileMetaData)) (f : Name × FileMetaData) → o ≡ Some c → is_copy_of seg c ≡ true → answer ≡ Some f → IsNextToFetch c answer
    → IsSomeAnd o (λ j. (is_copy_of seg j ≡ true) × (j.missing ≢ []))
lacks_one o c seg answer f at is same next = subst (λ (x : Option Job). IsSomeAnd x (λ j. (is_copy_of seg j ≡ true) × (j.missing ≢ []))) (sym at)
    (is, λ none. let first = subst (IsNextToFetch c) same next in some_first f.0 first.0 (sym none ∙ first.1))
  where
    some_first : (q : Name) (rest : List Name) → [] ≡ q ∷ rest → ⊥
    some_first q rest e = absurd (cc)

-- whether a job runs is whether one is lent
pub lent_some : {A B C : Type 0} (f : A → C) (g : B → C) (answer : Option A) (o : Option B) → option_map f answer ≡ option_map g o → is_some answer ≡ is_some o
lent_some f g answer o same = sym (mapped f answer) ∙ (ap is_some same ∙ mapped g o)
  where
    mapped : {X Y : Type 0} (h : X → Y) (x : Option X) → is_some (option_map h x) ≡ is_some x
    mapped h None = refl
    mapped h (Some x) = refl

pub no_job : {A : Type 0} (answer : Option A) (o : Option PointJob) → is_some answer ≡ is_some o → is_some answer ≡ false → o ≡ None
no_job answer None same none = refl
no_job answer (Some j) same none = absurd (true≢false (sym same ∙ none))

-- what the law on numbers says
abbrev pub CopyLaw : (D : Type 0) → Type 0
CopyLaw D = (cells : D → Cells) (number : ℕ) (p : ReplicaParts D) (c : Job) → IsWholeReplica cells p → copy_at number p.copies.running ≡ Some c
    → (running_job number p ≡ Some c) × ((k : Job) → with_job number k p ≡ record p { copies = record p.copies { running = copies_with number k p.copies.running } })
    × (without_job number p ≡ record p { copies = record p.copies { running = copies_without number p.copies.running } })

module _ {D : Type 0} where
  -- what is next to do at the node that is there
  pub step_there : {E : Type 0} (result : Result CopyStep E) (seg number : ℕ) (o : Option (NodePlace D)) (place : NodePlace D) (r : ReplicaParts D) → o ≡ Some place → place.node ≡ Replica r
      → IfOk result (IsStepOf seg number r) → IfOk result (IsStepAt seg number o)
  step_there result seg number o place r is there step = subst (λ (x : Option (NodePlace D)). IfOk result (IsStepAt seg number x)) (sym (is ∙ ap (λ (z : Node D). Some (record place { node = z })) there)) step

  pub gone_primary : (seg number : ℕ) (o : Option (NodePlace D)) (place : NodePlace D) (p : PrimaryParts D) → o ≡ Some place → place.node ≡ Primary p → IsStepAt seg number o Gone
  gone_primary seg number o place p is there = subst (λ (x : Option (NodePlace D)). IsStepAt seg number x Gone) (sym (is ∙ ap (λ (z : Node D). Some (record place { node = z })) there)) refl

  pub gone_down : (seg number : ℕ) (o : Option (NodePlace D)) (place : NodePlace D) (d : D) → o ≡ Some place → place.node ≡ Down d → IsStepAt seg number o Gone
  gone_down seg number o place d is there = subst (λ (x : Option (NodePlace D)). IsStepAt seg number x Gone) (sym (is ∙ ap (λ (z : Node D). Some (record place { node = z })) there)) refl

module _ {D : Type 0} (cells : D → Cells) where
  -- a copy that lacks the part, of the metadata that is wanted
  pub part_fits : (o p : Option Job) (c : Job) (q : Name) (meta : FileMetaData) → o ≡ Some c → p ≡ Some c → IsJob c → is_among c.missing q ≡ true → IfSome p (λ j. (m : FileMetaData) → meta_in j.want.files q ≡ Some m → m ≡ meta)
      → IfSome o (λ j. meta_in j.want.files q ≡ Some meta)
  part_fits o p c q meta is at job lacks wanted = subst (λ (x : Option Job). IfSome x (λ j. meta_in j.want.files q ≡ Some meta)) (sym is)
      (let m = wanted_meta c q job (among_times c.missing q lacks) in m.1 ∙ ap Some (subst (λ (x : Option Job). IfSome x (λ j. (m : FileMetaData) → meta_in j.want.files q ≡ Some m → m ≡ meta)) at wanted m.0 m.1))

  pub part_lacks : (o : Option Job) (c : Job) (q : Name) → o ≡ Some c → is_among c.missing q ≡ true → IfSome o (λ j. 0 < times j.missing q)
  part_lacks o c q is lacks = subst (λ (x : Option Job). IfSome x (λ j. 0 < times j.missing q)) (sym is) (among_times c.missing q lacks)

  -- what a part that came in makes of the copy
  pub part_is : (number : ℕ) (q : Name) (r s : ReplicaParts D) (c : Job) → CopyLaw D → IsWholeReplica cells r → copy_at number r.copies.running ≡ Some c
      → IfSome (running_job number r) (λ j. s ≡ record (with_job number (with_part j q) r) { dir = s.dir; files = s.files })
      → s ≡ record (record r { copies = record r.copies { running = copies_with number (with_part c q) r.copies.running } }) { dir = s.dir; files = s.files }
  part_is number q r s c law whole at is =
      let all = law cells number r c whole at in
      subst (λ (o : Option Job). IfSome o (λ j. s ≡ record (with_job number (with_part j q) r) { dir = s.dir; files = s.files })) all.0 is
      ∙ ap (λ (z : ReplicaParts D). record z { dir = s.dir; files = s.files }) (all.1 (with_part c q))

  -- the copy ended
  pub drops : (number : ℕ) (r s : ReplicaParts D) → CopyLaw D → IsWholeReplica cells r → IsSome (copy_at number r.copies.running) → s ≡ record (without_job number r) { dir = s.dir; files = s.files }
      → IsWholeReplica cells s → (AreStanding cells r → AreStanding cells s) → KeepsSource cells r s → NoneAppears (cells r.dir) (cells s.dir) → DropsMerged cells number r s
  drops number r s law whole some gone whole2 standing sourced appears = by (copy_at number r.copies.running) refl some
    where
      by : (o : Option Job) → copy_at number r.copies.running ≡ o → IsSome o → DropsMerged cells number r s
      by None none some = absurd (true≢false (sym some))
      by (Some c) at some =
          let all = law cells number r c whole at in
          let is : s ≡ record (record r { copies = record r.copies { running = copies_without number r.copies.running } }) { dir = s.dir; files = s.files } = gone ∙ ap (λ (z : ReplicaParts D). record z { dir = s.dir; files = s.files }) all.2 in
          record {
            others = is ∙ ap (λ (m : MergeCopies). record r { dir = s.dir; files = s.files; copies = m }) (sym (ap (λ (z : ReplicaParts D). z.copies) is));
            copies = ap (λ (z : ReplicaParts D). z.copies) is;
            whole = whole2;
            standing = standing;
            sourced = sourced;
            appears = appears;
          }

  -- the replica as it was: the copy did not lack the part
  pub takes_none : (number : ℕ) (part : Part) (r : ReplicaParts D) (c : Job) → IsWholeReplica cells r → copy_at number r.copies.running ≡ Some c → TakesMerged cells number part r r
  takes_none number part r c whole at = record {
    others = refl;
    pending = refl;
    copies = subst (λ (o : Option Job). IfSome o (λ j. IsSomeAnd o (λ d. (d.want ≡ j.want) × (r.copies.running ≡ copies_with number d r.copies.running)))) (sym at) (refl, sym (with_same r.copies.running c at));
    whole = whole;
    standing = λ is. is;
    sourced = λ source reads is. is;
    appears = subst (λ (o : Option Job). IfSome o (λ j. AppearsOnly (λ q. (0 < times j.missing part.name) × (q ≡ temp_name_of part.name number)) (cells r.dir) (cells r.dir))) (sym at)
        (record { each = λ q none some. absurd (true≢false (sym some ∙ ap is_some none)) });
  }
    where
      with_same : (cs : List Job) (c : Job) → copy_at number cs ≡ Some c → copies_with number c cs ≡ cs
      with_same [] c at = refl
      with_same (x ∷ cs) c at =
          by_test (x.number == number) (λ b. (if b then Some x else copy_at number cs) ≡ Some c → (if b then c ∷ cs else x ∷ copies_with number c cs) ≡ x ∷ cs)
          (λ here at. let same : x ≡ c = cc in ap (λ (z : Job). z ∷ cs) (sym same)) (λ apart at. ap (λ (l : List Job). x ∷ l) (with_same cs c at)) at

  -- the part is in
  pub takes_part : (number : ℕ) (part : Part) (r s : ReplicaParts D) (c : Job) → copy_at number r.copies.running ≡ Some c → is_among c.missing part.name ≡ true
      → s ≡ record (record r { copies = record r.copies { running = copies_with number (with_part c part.name) r.copies.running } }) { dir = s.dir; files = s.files }
      → IsWholeReplica cells s → (AreStanding cells r → AreStanding cells s) → ((source : Name → Content) → source part.name ≡ Some part.bytes → IsSourced source cells r → IsSourced source cells s)
      → AppearsOnly (λ q. q ≡ temp_name_of part.name number) (cells r.dir) (cells s.dir) → TakesMerged cells number part r s
  takes_part number part r s c at lacks is whole standing sourced appears = record {
    others = is ∙ ap (λ (m : MergeCopies). record r { dir = s.dir; files = s.files; copies = m }) (sym copies_are);
    pending = ap (λ (m : MergeCopies). m.pending) copies_are;
    copies = subst (λ (o : Option Job). IfSome o (λ j. IsSomeAnd (copy_at number s.copies.running) (λ d. (d.want ≡ j.want) × (s.copies.running ≡ copies_with number d r.copies.running)))) (sym at)
        (subst (λ (o : Option Job). IsSomeAnd o (λ d. (d.want ≡ c.want) × (s.copies.running ≡ copies_with number d r.copies.running)))
        (sym (ap (λ (m : MergeCopies). copy_at number m.running) copies_are ∙ with_at r.copies.running number c (with_part c part.name) at (number_at r.copies.running number c at)))
        (refl, ap (λ (m : MergeCopies). m.running) copies_are));
    whole = whole;
    standing = standing;
    sourced = sourced;
    appears = subst (λ (o : Option Job). IfSome o (λ j. AppearsOnly (λ q. (0 < times j.missing part.name) × (q ≡ temp_name_of part.name number)) (cells r.dir) (cells s.dir))) (sym at)
        (record { each = λ q none some. (among_times c.missing part.name lacks, appears.each q none some) });
  }
    where
      copies_are : s.copies ≡ record r.copies { running = copies_with number (with_part c part.name) r.copies.running }
      copies_are = ap (λ (z : ReplicaParts D). z.copies) is

  -- ---- the disk failed

  -- as files were placed
  pub loses_placing : (number : ℕ) (r s : ReplicaParts D) → s ≡ record r { dir = s.dir; files = s.files; copies = s.copies; known = s.known } → s.copies ≡ record r.copies { running = copies_without number r.copies.running }
      → IsWholeReplica cells s → (AreStanding cells r → AreStanding cells s) → KeepsSource cells r s
      → IfSome (copy_at number r.copies.running) (λ c. AppearsOnly (λ q. 0 < times (meta_names c.want.files) q) (cells r.dir) (cells s.dir)) → LosesMerged cells (λ source. ⊤) number r s
  loses_placing number r s others copies whole standing sourced appears = record {
    others = others;
    copies = copies;
    whole = whole;
    standing = standing;
    sourced = λ source reads is. sourced source is;
    appears = by (copy_at number r.copies.running) appears;
  }
    where
      by : (o : Option Job) → IfSome o (λ c. AppearsOnly (λ q. 0 < times (meta_names c.want.files) q) (cells r.dir) (cells s.dir)) → IfSome o (λ c. AppearsOnly (IsNameOfCopy number c) (cells r.dir) (cells s.dir))
      by None is = tt
      by (Some c) is = record { each = λ q none some. inl (is.each q none some) }

  -- as a part was written, and the copy was ended behind it
  pub loses_writing : (number : ℕ) (part : Part) (r m s : ReplicaParts D) (c : Job) → copy_at number r.copies.running ≡ Some c → is_among c.missing part.name ≡ true → m ≡ record r { dir = m.dir; files = m.files } → (AreStanding cells r → AreStanding cells m)
      → ((source : Name → Content) → source part.name ≡ Some part.bytes → IsSourced source cells r → IsSourced source cells m) → AppearsOnly (λ q. q ≡ temp_name_of part.name number) (cells r.dir) (cells m.dir)
      → DropsMerged cells number m s → LosesMerged cells (λ source. source part.name ≡ Some part.bytes) number r s
  loses_writing number part r m s c at lacks same standing sourced appears drops = record {
    others = base ∙ ap (λ (z : ReplicaParts D). record r { dir = s.dir; files = s.files; copies = s.copies; known = z.known }) (sym base);
    copies = drops.copies ∙ ap (λ (z : ReplicaParts D). record z.copies { running = copies_without number z.copies.running }) same;
    whole = drops.whole;
    standing = λ is. drops.standing (standing is);
    sourced = λ source reads is. drops.sourced source (sourced source reads is);
    appears = subst (λ (o : Option Job). IfSome o (λ j. AppearsOnly (IsNameOfCopy number j) (cells r.dir) (cells s.dir))) (sym at) (record { each = λ q none some. inr (part.name, among_times c.missing part.name lacks, both.each q none some) });
  }
    where
      base : s ≡ record r { dir = s.dir; files = s.files; copies = s.copies }
      base = drops.others ∙ ap (λ (z : ReplicaParts D). record z { dir = s.dir; files = s.files; copies = s.copies }) same

      both : AppearsOnly (λ q. q ≡ temp_name_of part.name number) (cells r.dir) (cells s.dir)
      both = only_then_none (λ q. q ≡ temp_name_of part.name number) (cells r.dir) (cells m.dir) (cells s.dir) appears drops.appears
