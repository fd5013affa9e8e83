-- What is known, and what is read, where the parts of a job get their own names.
use Rattle.std.proofs.Common.{◌≡◌, ◌⊎◌, ℕ, zero, suc, ◌+◌, ◌<◌, ◌≤◌, List, Option, Some, refl, sym, ap, subst, ◌∙◌, arith, inl, inr}
use Rattle.disk_model.specs.Disk.{Name, Content, Cells, reads_of}
use Rattle.file_deleter.specs.Holdings.{Holdings, count_of, times}
use Rattle.file_deleter.proofs.NameLemmas.{times-append}
use Rattle.copy_state.specs.declared.meta.FileMetaData.{FileMetaData}
use Rattle.copy_state.specs.States.{meta_names, meta_in}
use Rattle.copy_job.specs.declared.part.JobPart.{JobPart}
use Rattle.copy_job.specs.Parts.{part_at, present_names, own_names, placed_to}
use Rattle.copy_job.specs.Jobs.{Job, IsJob, job_names, present_of, reads_under}
use Rattle.copy_job.proofs.Points.{own_or_not}
use Rattle.replica_opening.specs.Known.{KnowsHeld, IsLasting}
use Rattle.replica_node.specs.Held.{LearnsSome, LearnsAll}
use Rattle.copy_state.specs.declared.state.CopyState.{CopyState}
use Rattle.replica_node.specs.Waiting.{IsWaiting}
use Rattle.replica_node.specs.Replica.{HasMetas, KeepsReads}
use Rattle.replica_node.proofs.Carried.{HeldReads, JobReads, placed_name}
use Rattle.replica_node.proofs.Keeping.{meta_here}
use Rattle.replica_node.proofs.Metas.{one_meta, listed_meta}

-- ---- what is wanted is noted
-- a file that the state names and that is held stands under its own name
pub own_held : (holdings : Holdings) (j : Job) → IsWaiting holdings j → (q : Name) → 0 < count_of holdings q → (times j.missing q ≡ 0) × (present_of j.parts q ≡ q)
own_held holdings j waits q some = (none (times j.missing q) refl, elim (own_or_not j.parts q) [ inl own ↦ stands own.place own.part own.at own.own own.present | inr not_own ↦ not_own.0 ])
  where
    none : (n : ℕ) → times j.missing q ≡ n → times j.missing q ≡ 0
    none zero e = e
    none (suc n) e = let z : count_of holdings q ≡ 0 = waits.missing q (omega (arith, e)) in absurd (omega (arith, z, some))

    stands : (place : ℕ) (p : JobPart) → part_at j.parts place ≡ Some p → p.own ≡ q → present_of j.parts q ≡ p.now → present_of j.parts q ≡ q
    stands place p at own present = elim (waits.each place p at) [
      | inl e ↦ present ∙ e ∙ own
      | inr l ↦ absurd (let z : count_of holdings q ≡ 0 = ap (count_of holdings) (sym own) ∙ l.free in omega (arith, z, some))
    ]

module _ (cells : Cells) (holdings : Holdings) (j : Job) (waits : IsWaiting holdings j) (ascending : (q : Name) → times (meta_names j.want.files) q ≤ 1) (copied : HasMetas (reads_of cells) j) (old new : List (Name × FileMetaData)) (some : LearnsSome j.want.files old new) where
  pub noted_held : KnowsHeld (reads_of cells) holdings old → KnowsHeld (reads_of cells) holdings new
  noted_held was = record {
    each = λ q lasting held. elim (some.each q) [
      | inl same ↦ (let k = was.each q lasting held in record { meta = k.meta; known_is = same ∙ k.known_is; has = k.has })
      | inr learned ↦ (
          let wanted : meta_in j.want.files q ≡ Some learned.0 = one_meta j.want.files ascending q learned.0 learned.1 in
          let own = own_held holdings j waits q held in
          record { meta = learned.0; known_is = learned.2; has = meta_here (reads_of cells) (reads_under j.parts (reads_of cells)) q q learned.0 (ap (λ (x : Name). (cells x).now) (sym own.1)) (copied.each q learned.0 wanted own.0) })
    ];
  }

-- all that is wanted is noted
pub noted_all : (files new : List (Name × FileMetaData)) → ((q : Name) → times (meta_names files) q ≤ 1) → LearnsAll files new → (q : Name) (meta : FileMetaData) → meta_in files q ≡ Some meta → meta_in new q ≡ Some meta
noted_all files new ascending all q meta e =
    let learned = all.each q meta (listed_meta files q meta e) in
    let same : ◌≡◌ {A = Option FileMetaData} (Some learned.0) (Some meta) = sym (one_meta files ascending q learned.0 learned.1) ∙ e in
    learned.2 ∙ same

-- ---- the first parts have their own names
module _ (a b : Cells) (h0 h1 : Holdings) (j now : Job) (is : IsJob j) (others : List Name) (n : ℕ) (parts : now.parts ≡ placed_to n j.parts) (reused : now.reused ≡ j.reused) (want : now.want ≡ j.want) (missing : (q : Name) → times j.missing q ≡ 0)
    (before : (q : Name) → count_of h0 q ≡ times others q + times (job_names j) q) (after : (q : Name) → count_of h1 q ≡ times others q + times (job_names now) q) (stays : (q : Name) → 0 < count_of h0 q → 0 < count_of h1 q → (b q).now ≡ (a q).now)
    (still : KeepsReads j now a b) where
  pub holds_refused : (q : Name) → 0 < count_of h1 q → (0 < count_of h0 q) ⊎ (0 < times (own_names j.parts) q)
  holds_refused q some = by (times others q + times j.reused q) refl
    where
      e : times (present_names now.parts) q ≡ times (present_names (placed_to n j.parts)) q
      e = ap (λ (ps : List JobPart). times (present_names ps) q) parts

      f : times now.reused q ≡ times j.reused q
      f = ap (λ (ns : List Name). times ns q) reused

      by : (m : ℕ) → times others q + times j.reused q ≡ m → (0 < count_of h0 q) ⊎ (0 < times (own_names j.parts) q)
      by zero z = elim (placed_name j.parts n q (omega (arith, some, z, e, f, after q, times-append (present_names now.parts) now.reused q))) [
        | inl had ↦ inl (omega (arith, had, before q, times-append (present_names j.parts) j.reused q))
        | inr own ↦ inr own
      ]
      by (suc m) z = inl (omega (arith, z, before q, times-append (present_names j.parts) j.reused q))

  has_some : (q : Name) → 0 < times (meta_names j.want.files) q → 0 < times (own_names j.parts) q + times j.reused q
  has_some q wanted = omega (arith, wanted, is.each q, missing q)

  module _ (J : Name → Content → Type 0) (job : JobReads J a j) where
    pub job_refused : JobReads J b now
    job_refused = record {
      each = λ q wanted gone.
          let w : 0 < times (meta_names j.want.files) q = subst (λ (s : CopyState). 0 < times (meta_names s.files) q) want wanted in
          subst (J q) (sym (still.each q (has_some q w))) (job.each q w (missing q));
    }

    -- a file of the point that is held now reads what the job has of it
    module _ (waits : IsWaiting h1 now) (H K : Name → Content → Type 0) (from_job : (q : Name) (content : Content) → 0 < times (meta_names j.want.files) q → J q content → K q content)
        (from_held : (q : Name) (content : Content) → times (meta_names j.want.files) q ≡ 0 → H q content → K q content) (held : HeldReads H a h0) where
      pub held_refused : HeldReads K b h1
      held_refused = record { each = λ q lasting some. by q lasting some (times (meta_names j.want.files) q) refl }
        where
          by : (q : Name) → IsLasting q → 0 < count_of h1 q → (m : ℕ) → times (meta_names j.want.files) q ≡ m → K q (b q).now
          by q lasting some (suc m) e =
              let w : 0 < times (meta_names j.want.files) q = omega (arith, e) in
              let own : present_of now.parts q ≡ q = (own_held h1 now waits q some).1 in
              subst (λ (x : Name). K q (b x).now) own (from_job q (b (present_of now.parts q)).now w (subst (J q) (sym (still.each q (has_some q w))) (job.each q w (missing q))))
          by q lasting some zero e = elim (holds_refused q some) [
            | inl had ↦ subst (K q) (sym (stays q had some)) (from_held q (a q).now e (held.each q lasting had))
            | inr own ↦ absurd (omega (arith, own, e, is.each q))
          ]
