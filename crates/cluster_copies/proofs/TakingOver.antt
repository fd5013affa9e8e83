-- What a job that begins takes over from the one before it.
use Rattle.std.proofs.Common.{◌≡◌, ◌&&◌, ◌||◌, ◌==◌, ℕ, Bool, true, false, true≢false, List, [], ◌∷◌, Some, None, Option, refl, ap, ◌∙◌, sym, subst, arith, if◌then◌else◌}
use Rattle.std.specs.Prelude.{not, IfSome, nat_lt}
use Rattle.std.specs.List.{All, filter}
use Rattle.std.proofs.lemmas.Bool.{eq-eqb}
use Rattle.std.proofs.lemmas.Bool.Decides.{nat_tests}
use Rattle.nrt_base.specs.declared.numbers.Gen.{Gen}
use Rattle.nrt_base.specs.declared.numbers.NodeNo.{NodeNo}
use Rattle.disk_model.specs.Disk.{Name, Content, Cells, same, is_among}
use Rattle.disk_model.proofs.CellLemmas.{same_true}
use Rattle.file_deleter.specs.Holdings.{Holdings}
use Rattle.file_deleter.proofs.NameLemmas.{among_times}
use Rattle.copy_state.specs.declared.meta.FileMetaData.{FileMetaData}
use Rattle.copy_state.specs.declared.state.CopyState.{CopyState}
use Rattle.copy_state.specs.States.{meta_in, meta_names}
use Rattle.copy_state.specs.Meta.{IsMetaOf}
use Rattle.copy_state.proofs.MetaLaws.{one_meta}
use Rattle.index_primary.specs.declared.parts.PrimaryParts.{PrimaryParts}
use Rattle.copy_job.specs.Parts.{own_names}
use Rattle.copy_job.specs.declared.part.JobPart.{JobPart}
use Rattle.copy_job.specs.Jobs.{Job as Copy, IsJob, is_same_meta, is_taken, taken_parts, taken_over}
use Rattle.copy_job.proofs.Taking.{meta_self}
use Rattle.replica_opening.specs.Known.{HasMeta}
use Rattle.replica_node.specs.declared.job.PointJob.{PointJob}
use Rattle.replica_node.specs.declared.parts.ReplicaParts.{ReplicaParts}
use Rattle.replica_node.specs.Jobs.{job_on, job_seen, job_taking, running_point}
use Rattle.replica_node.specs.Replica.{IsJobAbove}
use Rattle.replica_node.proofs.Metas.{some_meta}
use Rattle.history_rules.specs.Nodes.{IsNode, generation_of}
use Rattle.history_book.specs.Log.{Log, printed}
use Rattle.history_book.specs.Jobs.{job_at}
use Rattle.merge_tasks.specs.Merging.{Sheet}
use Rattle.cluster_nodes.specs.declared.nodes.Node.TheVariants.{Primary, Replica}
use Rattle.cluster_nodes.specs.declared.nodes.NodePlace.{NodePlace}
use Rattle.cluster_nodes.specs.Places.{place_of}
use Rattle.cluster_nodes.specs.Outs.{jobs_like}
use Rattle.cluster_nodes.specs.JobPlaces.{BeginsIn}
use Rattle.cluster_state.specs.Run.{JobFiles, Rest, Run, files_at}
use Rattle.cluster_state.specs.State.{Shows}
use Rattle.cluster_state.specs.Files.{JobShows, FilesShow}
use Rattle.cluster_state.specs.Copies.{TakesOver}
use Rattle.cluster_state.specs.JobsIn.{job_files, place_files, jobs_in}
use Rattle.cluster_state.proofs.Frames.{some_at, was}
use Rattle.cluster_state.proofs.FileFrames.{files_was, Both, both_of}
use Rattle.cluster_state.proofs.FileJobs.{had_metas}
use Rattle.cluster_state.proofs.JobsLeft.{files_are}
use Rattle.cluster_state.proofs.PointStands.{state_metas}
use Rattle.cluster_state.proofs.Wider.{meta_at_source}
use Rattle.cluster_state.proofs.Naming.{FilesLast}

-- ---- names of lists that a test passes

among_none : (f : Name → Bool) (q : Name) → f q ≡ false → (xs : List Name) → is_among (filter f xs) q ≡ false
among_none f q off [] = refl
among_none f q off (x ∷ xs) = tests (f x) (same x q) refl refl (among_none f q off xs)
  where
    tests : (b s : Bool) → f x ≡ b → same x q ≡ s → is_among (filter f xs) q ≡ false → is_among (if b then x ∷ filter f xs else filter f xs) q ≡ false
    tests true true passes here rest = absurd (true≢false (sym passes ∙ (ap f (same_true x q here) ∙ off)))
    tests true false passes here rest = ap (λ (b : Bool). b || is_among (filter f xs) q) here ∙ rest
    tests false s passes here rest = rest

or_none : (b c : Bool) → (b || c) ≡ false → (b ≡ false) × (c ≡ false)
or_none true c none = absurd (true≢false none)
or_none false c none = (refl, none)

among_less : (f : Name → Bool) (q : Name) (xs : List Name) → is_among xs q ≡ false → is_among (filter f xs) q ≡ false
among_less f q [] none = refl
among_less f q (x ∷ xs) none = let parts = or_none (same x q) (is_among xs q) none in tests (f x) parts.0 (among_less f q xs parts.1)
  where
    tests : (b : Bool) → same x q ≡ false → is_among (filter f xs) q ≡ false → is_among (if b then x ∷ filter f xs else filter f xs) q ≡ false
    tests true apart rest = ap (λ (b : Bool). b || is_among (filter f xs) q) apart ∙ rest
    tests false apart rest = rest

-- a part that passes is left
own_kept : (f : JobPart → Bool) (q : Name) → ((p : JobPart) → p.own ≡ q → f p ≡ true) → (parts : List JobPart) → is_among (own_names parts) q ≡ true → is_among (own_names (filter f parts)) q ≡ true
own_kept f q passes [] there = there
own_kept f q passes (p ∷ ps) there = tests (f p) (same p.own q) refl refl there (own_kept f q passes ps)
  where
    tests : (b s : Bool) → f p ≡ b → same p.own q ≡ s → (s || is_among (own_names ps) q) ≡ true → (is_among (own_names ps) q ≡ true → is_among (own_names (filter f ps)) q ≡ true)
        → is_among (own_names (if b then p ∷ filter f ps else filter f ps)) q ≡ true
    tests true true on here there rest = ap (λ (b : Bool). b || is_among (own_names (filter f ps)) q) here
    tests true false on here there rest = ap (λ (b : Bool). b || is_among (own_names (filter f ps)) q) here ∙ rest there
    tests false true off here there rest = absurd (true≢false (sym (passes p (same_true p.own q here)) ∙ off))
    tests false false off here there rest = rest there

same_bytes : (a b : List ℕ) → Some a ≡ Some b → a ≡ b
same_bytes a b e = cc

-- ---- the job

-- what the older job brought over is missing no more, where the files of both have their metadata at one source
pub nothing_twice : (source : Name → Content) (number : ℕ) (state : CopyState) (held : Holdings) (old : Copy) → IsJob old → All (λ f. HasMeta source f.0 f.1) old.want.files → All (λ f. HasMeta source f.0 f.1) state.files
    → (q : Name) → is_among (own_names old.parts) q ≡ true → is_among (taken_over (job_on number state held) old).missing q ≡ false
nothing_twice source number state held old is had wanted q brought = tests (is_among j.missing q) refl
  where
    j : Copy
    j = job_on number state held

    -- what is left of the missing files
    left : Name → Bool
    left n = not (is_among (own_names (taken_parts j old)) n)

    tests : (b : Bool) → is_among j.missing q ≡ b → is_among (filter left j.missing) q ≡ false
    tests false none = among_less left q j.missing none
    tests true lacks = among_none left q (ap not (own_kept (is_taken j old) q taken old.parts brought)) j.missing
      where
        named : is_among (meta_names state.files) q ≡ true
        named = by (is_among (meta_names state.files) q) refl
          where
            by : (b : Bool) → is_among (meta_names state.files) q ≡ b → is_among (meta_names state.files) q ≡ true
            by true there = there
            by false none = absurd (true≢false (sym lacks ∙ among_less _ q (meta_names state.files) none))

        theirs : (meta : FileMetaData) × (meta_in state.files q ≡ Some meta)
        theirs = some_meta state.files q (among_times (meta_names state.files) q named)

        ours : (meta : FileMetaData) × (meta_in old.want.files q ≡ Some meta)
        ours = some_meta old.want.files q (let all = is.each q in let own = among_times (own_names old.parts) q brought in omega (arith, all, own))

        one : ours.0 ≡ theirs.0
        one =
            let a = meta_at_source source old.want.files q ours.0 had ours.1 in
            let b = meta_at_source source state.files q theirs.0 wanted theirs.1 in
            one_meta a.bytes ours.0 theirs.0 a.meta_is (subst (λ (bytes : List ℕ). IsMetaOf bytes theirs.0) (same_bytes b.bytes a.bytes (sym b.there ∙ a.there)) b.meta_is)

        here : (is_among j.missing q && is_same_meta (meta_in old.want.files q) (meta_in state.files q)) ≡ true
        here = rw (lacks, ours.1, theirs.1, one) (meta_self theirs.0)

        taken : (p : JobPart) → p.own ≡ q → is_taken j old p ≡ true
        taken p own = subst (λ (n : Name). (is_among j.missing n && is_same_meta (meta_in old.want.files n) (meta_in state.files n)) ≡ true) (sym own) here

-- ---- in its place

module _ {D : Type 0} (cells : D → Cells) where
  taking : (log : Log) (size : ℕ) (old new : List (Option (NodePlace D))) (p n : NodeNo) (number : ℕ) → FilesLast → BeginsIn cells p.0 n.0 number old new → IsNode size p.0 → IsNode size n.0 → Shows cells log size old → FilesShow cells log size old
      → TakesOver (generation_of (printed log)) (place_files (place_of old n.0)) (place_files (place_of new n.0))
  taking log size old new p n number lasting b node_p node_n shows files =
      subst (λ (x : Option (NodePlace D) × Option (NodePlace D)). TakesOver (generation_of (printed log)) (place_files x.0) (place_files x.1)) (λ i. (sym b.both.replica.there i, sym there_n i))
      (subst (λ (o : Option PointJob). TakesOver (generation_of (printed log)) (job_files r.seen.0 r.job) (job_files s.seen.0 o)) (sym b.begins.there) (all r.job refl))
    where
      q : PrimaryParts D
      q = b.both.primary.parts

      r : ReplicaParts D
      r = b.both.replica.parts

      s : ReplicaParts D
      s = b.replica

      x : NodePlace D
      x = record { node = Primary b.primary; held = b.both.primary.held }

      y : NodePlace D
      y = record { node = Replica s; held = b.both.replica.held }

      there_n : place_of new n.0 ≡ Some y
      there_n = b.moves.there n.0 ∙ ap (λ (t : Bool). if t then Some y else if p.0 == n.0 then Some x else place_of old n.0) (eq-eqb n.0 n.0 refl)

      at_p : Both cells files.source log (λ t. jobs_like old t size) p.0 (record { node = Primary q; held = b.both.primary.held })
      at_p = some_at (Both cells files.source log (λ t. jobs_like old t size) p.0) (place_of old p.0) (record { node = Primary q; held = b.both.primary.held }) b.both.primary.there (both_of cells log size old shows files p.0 node_p)

      at_n : Both cells files.source log (λ t. jobs_like old t size) n.0 (record { node = Replica r; held = b.both.replica.held })
      at_n = some_at (Both cells files.source log (λ t. jobs_like old t size) n.0) (place_of old n.0) (record { node = Replica r; held = b.both.replica.held }) b.both.replica.there (both_of cells log size old shows files n.0 node_n)

      present : q.point_infos.generation.0 ≡ generation_of (printed log)
      present = ap (λ (g : Gen). g.0) at_p.1.generation ∙ at_p.0.node_shows.writer.generation

      seen : s.seen.0 ≡ generation_of (printed log)
      seen = ap (λ (g : Gen). g.0) b.begins.seen ∙ present

      same_seen : (a c : ℕ) → a ≡ c → nat_lt a c ≡ false
      same_seen a c same = grind (arith, nat_tests)

      takes : r.seen.0 ≡ generation_of (printed log) → (job : PointJob) → r.job ≡ Some job → (name : Name) → is_among (own_names job.copy.parts) name ≡ true → is_among b.begins.job.copy.missing name ≡ false
      takes same job is name brought =
          subst (λ (c : Copy). is_among c.missing name ≡ false) (sym copy)
          (nothing_twice files.source number b.begins.state b.begins.holdings job.copy above.copy
          (had_metas files.source log n.0 (job_at n.0 log) job (subst (JobShows files.source log n.0 (job_at n.0 log)) is at_n.1.job))
          (state_metas cells files.source q b.begins.state lasting at_p.0.node_shows.whole at_p.1.held b.begins.of_point) name brought)
        where
          above : IsJobAbove r.searchers.point.version.0 job
          above = subst (λ (o : Option PointJob). IfSome o (IsJobAbove r.searchers.point.version.0)) is at_n.0.node_shows.whole.newer

          seen_job : job_seen r.seen.0 q.point_infos.generation.0 r.job ≡ Some job
          seen_job = ap (λ (t : Bool). if t then running_point r.job else r.job) (same_seen r.seen.0 q.point_infos.generation.0 (same ∙ sym present)) ∙ is

          copy : b.begins.job.copy ≡ taken_over (job_on number b.begins.state b.begins.holdings) job.copy
          copy = b.begins.begun.copy ∙ ap (λ (o : Option PointJob). job_taking o (job_on number b.begins.state b.begins.holdings)) seen_job

      all : (o : Option PointJob) → r.job ≡ o → TakesOver (generation_of (printed log)) (job_files r.seen.0 o) (job_files s.seen.0 (Some b.begins.job))
      all None is = record { seen = seen; takes = λ same name none. absurd (true≢false (sym none)) }
      all (Some job) is = record { seen = seen; takes = λ same name brought. takes same job is name brought }

  -- in the terms of a call
  pub taken_by : (r now : Run) (ended : Bool) (b0 : Sheet) (old new : List (Option (NodePlace D))) (p n : NodeNo) (number : ℕ) {left : Rest} → record { ended = ended; nodes = b0.nodes; log = b0.log; rest = left } ≡ r → r.ended ≡ false
      → (ended ≡ false → Shows cells b0.log b0.nodes old × FilesShow cells b0.log b0.nodes old) → FilesLast → left.jobs ≡ jobs_in old → now.rest.jobs ≡ jobs_in new → IsNode r.nodes p.0 → IsNode r.nodes n.0 → BeginsIn cells p.0 n.0 number old new
      → TakesOver (generation_of (printed r.log)) (files_at n.0 r) (files_at n.0 now)
  taken_by r now ended b0 old new p n number view running pair lasting before after node_p node_n b =
      subst (λ (x : JobFiles × JobFiles). TakesOver (generation_of (printed r.log)) x.0 x.1)
      (λ i. (sym (files_are n.0 r old (sym (ap (λ (z : Run). z.rest.jobs) view) ∙ before)) i, sym (files_are n.0 now new after) i))
      (taking r.log r.nodes old new p n number lasting b node_p node_n (was cells r ended b0.nodes b0.log old view running (λ e. (pair e).0)) (files_was cells r ended b0.nodes b0.log old view running (λ e. (pair e).1)))
