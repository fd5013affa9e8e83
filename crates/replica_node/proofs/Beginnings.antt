-- A copy that begins.
use Rattle.replica_node.proofs.HeldFiles.{at_some, zero_test, above_test, missing_are, reused_are, held_ascend, all_agree, starting}
use Rattle.replica_node.proofs.Lasting.{listed_lasts}
use Rattle.std.proofs.Common.{◌≡◌, ◌==◌, ℕ, zero, suc, ◌+◌, ◌<◌, true, List, [], Some, is_some, refl, sym, ap, subst, ◌∙◌, arith, get_or, length}
use Rattle.std.specs.Prelude.{Contains, filter}
use Rattle.std.specs.List.{All}
use Rattle.std.specs.List.Sorted.{IsStrictlySortedBy}
use Rattle.std.specs.Ordering.{nat_cmp}
use Rattle.std.specs.Cmp.Lexicographic.{slice_cmp}
use Rattle.std.proofs.Math.Dec.{ltb as nat_lt}
use Rattle.std.proofs.lemmas.List.Elements.{All-contains}
use Rattle.file_names.specs.Names.{is_pending_name, temp_name_of}
use Rattle.disk_model.specs.Disk.{Name, Content, Cells, reads_of}
use Rattle.file_deleter.specs.Holdings.{Holdings, count_of, times, AreThere}
use Rattle.file_deleter.specs.Moves.{HoldsFiles}
use Rattle.file_deleter.proofs.NameLemmas.{times-append}
use Rattle.segment_infos.specs.declared.infos.Infos.{Infos}
use Rattle.segment_infos.specs.Files.{AreFilesOf}
use Rattle.file_deleter.proofs.Keeping.{known_counted}
use Rattle.copy_state.specs.declared.meta.FileMetaData.{FileMetaData}
use Rattle.copy_state.specs.declared.state.CopyState.{CopyState}
use Rattle.copy_state.specs.States.{meta_names, meta_in}
use Rattle.copy_job.specs.declared.part.JobKind.{JobKind}
use Rattle.copy_job.specs.declared.fault.JobFault.{JobFault}
use Rattle.copy_job.specs.Parts.{present_names, own_names}
use Rattle.copy_job.specs.Jobs.{Job, IsJob, begun_job, job_names, held_names, AreAgreed, IsBeginningFault}
use Rattle.replica_opening.specs.Known.{HasMeta, KnowsHeld, IsLasting}
use Rattle.replica_opening.proofs.Openings.{plain_none}
use Rattle.replica_node.specs.declared.parts.ReplicaParts.{ReplicaParts}
use Rattle.replica_node.specs.Held.{held_metas}
use Rattle.replica_node.specs.Jobs.{job_on, Agrees, IsStartingFault}
use Rattle.replica_node.specs.Replica.{HasMetas, IsWholeReplica}
use Rattle.replica_node.proofs.Carried.{HeldReads, JobReads, job_begins}
use Rattle.replica_node.specs.Sources.{CopiesFrom, HeldReadAs}
use Rattle.replica_node.proofs.Keeping.{Knows, HasWanted, Matches, knows_reads, reads_metas, reads_copies, as_reads}
use Rattle.replica_node.proofs.Sparing.{SparesJob}
use Rattle.replica_node.proofs.Metas.{listed_meta, passed}
use Rattle.replica_node.specs.Waiting.{IsWaiting}
use Rattle.replica_node.proofs.Waiting.{waits_begun}

-- ---- the copy
module _ (reads : Name → Content) (holdings : Holdings) (known held : List (Name × FileMetaData)) (knows : KnowsHeld reads holdings known) (infos : Infos) (state : CopyState) (listed : AreFilesOf infos (meta_names state.files))
    (held_is : held ≡ held_metas known holdings (meta_names state.files)) where
  pub begun_as : (kind : JobKind) (number : ℕ) → begun_job number kind state held ≡ record (job_on number state holdings) { kind = kind }
  begun_as kind number =
      ap (λ (h : List (Name × FileMetaData)). begun_job number kind state h) held_is
      ∙ ap (λ (ns : List Name). record { number = number; kind = kind; want = state; missing = ns; parts = []; reused = held_names (held_metas known holdings (meta_names state.files)) (meta_names state.files) }) (missing_are reads holdings known knows infos (meta_names state.files) listed)
      ∙ ap (λ (ns : List Name). record { number = number; kind = kind; want = state; missing = filter (λ q. count_of holdings q == 0) (meta_names state.files); parts = []; reused = ns }) (reused_are reads holdings known knows infos (meta_names state.files) listed)

  pub held_ascends : IsStrictlySortedBy (slice_cmp nat_cmp) (meta_names held)
  held_ascends = subst (λ (h : List (Name × FileMetaData)). IsStrictlySortedBy (slice_cmp nat_cmp) (meta_names h)) (sym held_is) (held_ascend reads holdings known knows infos (meta_names state.files) listed)

  pub begun_agrees : AreAgreed held state.files → All (Agrees reads holdings) state.files
  begun_agrees agreed = all_agree reads holdings known knows infos (meta_names state.files) listed state.files (λ q some. some) (subst (λ (h : List (Name × FileMetaData)). AreAgreed h state.files) held_is agreed)

  pub begun_fault : (fault : JobFault) → IsBeginningFault held state.files fault → IsStartingFault reads holdings state.files fault
  begun_fault fault h = starting reads holdings known knows infos (meta_names state.files) listed state.files refl fault (subst (λ (hs : List (Name × FileMetaData)). IsBeginningFault hs state.files fault) held_is h)

-- ---- the replica where it has begun
module _ {D : Type 0} (cells : D → Cells) (p : ReplicaParts D) (is : IsWholeReplica cells p) (kind : JobKind) (number : ℕ) (state : CopyState) (infos : Infos) (listed : AreFilesOf infos (meta_names state.files)) (agreed : All (Agrees (reads_of (cells p.dir)) p.files) state.files)
    (copy : Job) (copy_is : copy ≡ record (job_on number state p.files) { kind = kind }) (is_job : IsJob copy) where
  pub reused_is : copy.reused ≡ filter (λ q. nat_lt 0 (count_of p.files q)) (meta_names state.files)
  reused_is = ap (λ (j : Job). j.reused) copy_is

  pub missing_is : copy.missing ≡ filter (λ q. count_of p.files q == 0) (meta_names state.files)
  missing_is = ap (λ (j : Job). j.missing) copy_is

  pub want_is : copy.want ≡ state
  want_is = ap (λ (j : Job). j.want) copy_is

  reused_held : (q : Name) → 0 < times copy.reused q → (0 < count_of p.files q) × (0 < times (meta_names state.files) q)
  reused_held q some =
      let h = passed (λ x. nat_lt 0 (count_of p.files x)) (meta_names state.files) q (subst (λ (ns : List Name). 0 < times ns q) reused_is some) in
      (above_test (count_of p.files q) h.0, h.1)

  pub not_missing : (q : Name) → 0 < times copy.missing q → count_of p.files q ≡ 0
  not_missing q some = zero_test (count_of p.files q) (passed (λ x. count_of p.files x == 0) (meta_names state.files) q (subst (λ (ns : List Name). 0 < times ns q) missing_is some)).0

  pub zero_reused : (q : Name) → count_of p.files q ≡ 0 → times copy.reused q ≡ 0
  zero_reused q z = by (times copy.reused q) refl
    where
      by : (n : ℕ) → times copy.reused q ≡ n → times copy.reused q ≡ 0
      by zero e = e
      by (suc n) e = let some : 0 < count_of p.files q = (reused_held q (omega (arith, e))).0 in absurd (omega (arith, some, z))

  pub plain_reused : (q : Name) → is_pending_name q ≡ true → times copy.reused q ≡ 0
  plain_reused q named = by (times copy.reused q) refl
    where
      by : (n : ℕ) → times copy.reused q ≡ n → times copy.reused q ≡ 0
      by zero e = e
      by (suc n) e = absurd (let some : 0 < times (meta_names state.files) q = (reused_held q (omega (arith, e))).1 in let z : times (meta_names state.files) q ≡ 0 = plain_none infos (meta_names state.files) listed q named in omega (arith, some, z))

  pub begun_there : (slice : List Name) → slice ≡ copy.reused → AreThere (cells p.dir) slice
  begun_there slice e = record { each = λ k d lt. there_of (get_or slice k d) (held_at slice e k d lt) }
    where
      there_of : (q : Name) → 0 < count_of p.files q → is_some (cells p.dir q).now ≡ true
      there_of q some = is.node.whole.names q ∙ known_counted p.files q some

      held_at : (slice : List Name) → slice ≡ copy.reused → (k : ℕ) (d : Name) → k < length slice → 0 < count_of p.files (get_or slice k d)
      held_at slice e k d lt = (reused_held (get_or slice k d) (subst (λ (ns : List Name). 0 < times ns (get_or slice k d)) e (at_some slice k d lt))).0

  module _ (slice : List Name) (slice_is : slice ≡ copy.reused) (files : Holdings) (holds : HoldsFiles slice p.files files (cells p.dir)) where
    pub more : (q : Name) → count_of files q ≡ count_of p.files q + times copy.reused q
    more q = let e : times slice q ≡ times copy.reused q = ap (λ (ns : List Name). times ns q) slice_is in omega (arith, e, holds.counts q)

    pub names_begun : (q : Name) → times (job_names copy) q ≡ times copy.reused q
    names_begun q = let z : times (present_names copy.parts) q ≡ 0 = ap (λ (j : Job). times (present_names j.parts) q) copy_is in omega (arith, z, times-append (present_names copy.parts) copy.reused q)

    missing_none : (q : Name) → 0 < times copy.missing q → times copy.reused q ≡ 0
    missing_none q some = zero_reused q (not_missing q some)

    pub begun_waits : IsWaiting files copy
    begun_waits = waits_begun files copy (ap (λ (j : Job). j.parts) copy_is) (λ q some. omega (arith, more q, not_missing q some, missing_none q some))

    -- what is held was held
    pub begun_held : (q : Name) → 0 < count_of files q → 0 < count_of p.files q
    begun_held q some = by (times copy.reused q) refl
      where
        by : (n : ℕ) → times copy.reused q ≡ n → 0 < count_of p.files q
        by zero e = omega (arith, e, some, more q)
        by (suc n) e = (reused_held q (omega (arith, e))).0

    wanted_held : (q : Name) → 0 < times (meta_names copy.want.files) q → times copy.missing q ≡ 0 → 0 < count_of p.files q
    wanted_held q wanted gone =
        let z : times (present_names copy.parts) q ≡ 0 = ap (λ (j : Job). times (present_names j.parts) q) copy_is in
        let own : times (own_names copy.parts) q ≡ 0 = ap (λ (j : Job). times (own_names j.parts) q) copy_is in
        (reused_held q (omega (arith, wanted, gone, own, is_job.each q))).0

    wanted_lasts : (q : Name) → 0 < times (meta_names copy.want.files) q → IsLasting q
    wanted_lasts q wanted = listed_lasts infos (meta_names state.files) listed q (subst (λ (s : CopyState). 0 < times (meta_names s.files) q) want_is wanted)

    pub begun_reads : (H J : Name → Content → Type 0) → ((q : Name) → 0 < times (meta_names copy.want.files) q → 0 < count_of p.files q → H q (cells p.dir q).now → J q (cells p.dir q).now) → HeldReads H (cells p.dir) p.files → JobReads J (cells p.dir) copy
    begun_reads H J turns held = job_begins H J (cells p.dir) p.files copy (ap (λ (j : Job). j.parts) copy_is) wanted_held wanted_lasts turns held

    -- what is held has the metadata that is wanted
    pub agreed_meta : (q : Name) (meta : FileMetaData) → meta_in copy.want.files q ≡ Some meta → 0 < count_of p.files q → HasMeta (reads_of (cells p.dir)) q meta
    agreed_meta q meta e some =
        let listed : Contains state.files (q, meta) = listed_meta state.files q meta (subst (λ (s : CopyState). meta_in s.files q ≡ Some meta) want_is e) in
        All-contains (Agrees (reads_of (cells p.dir)) p.files) state.files (q, meta) agreed listed some

    pub reused_temporary : (name : Name) (number : ℕ) → times copy.reused (temp_name_of name number) ≡ 0
    reused_temporary name number = by (times copy.reused (temp_name_of name number)) refl
      where
        by : (n : ℕ) → times copy.reused (temp_name_of name number) ≡ n → times copy.reused (temp_name_of name number) ≡ 0
        by zero z = z
        by (suc n) z = absurd ((listed_lasts infos (meta_names state.files) listed (temp_name_of name number) (reused_held (temp_name_of name number) (omega (arith, z))).1).temporary name number refl)

    pub spares : (c : Job) → SparesJob c p.files files (cells p.dir) (cells p.dir)
    spares c = record {
      temporary = λ name number copied fewer. omega (arith, more (temp_name_of name number), reused_temporary name number);
      unheld = λ q copied z. omega (arith, more q, z, zero_reused q z);
      bytes = λ q some. refl;
    }

    pub begun_known : KnowsHeld (reads_of (cells p.dir)) files p.known
    begun_known = record { each = λ q lasting some. is.known.each q lasting (begun_held q some) }

    pub begun_metas : HasMetas (reads_of (cells p.dir)) copy
    begun_metas = reads_metas (cells p.dir) copy (begun_reads (Knows p.known) (HasWanted copy.want.files)
        (λ q wanted some k meta e. let h = agreed_meta q meta e some in record { bytes = h.bytes; there = h.there; meta_is = h.meta_is }) (knows_reads (cells p.dir) p.files p.known is.known))

    pub begun_held_as : (source : Name → Content) → HeldReadAs source (cells p.dir) p.files → HeldReadAs source (cells p.dir) files
    begun_held_as source h = record { each = λ q lasting some. h.each q lasting (begun_held q some) }

    pub begun_copies : (source : Name → Content) → HeldReadAs source (cells p.dir) p.files → CopiesFrom source (reads_of (cells p.dir)) copy
    begun_copies source h = reads_copies source (cells p.dir) copy (begun_reads (Matches source) (Matches source) (λ q wanted some k. k) (as_reads source (cells p.dir) p.files h))
