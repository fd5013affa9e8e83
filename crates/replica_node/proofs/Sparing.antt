-- What calls leave of jobs beside them.
use Rattle.std.proofs.Common.{◌≡◌, ◌+◌, ◌<◌, ◌^◌, ℕ, zero, suc, not, Bool, true, false, Some, cond, refl, sym, ap, subst, ◌∙◌, arith, inl, inr}
use Rattle.std.specs.Prelude.{filter}
use Rattle.file_names.specs.Names.{temp_name_of}
use Rattle.disk_model.specs.Disk.{Name, Cells, same}
use Rattle.disk_model.proofs.CellLemmas.{same_true}
use Rattle.file_deleter.specs.Holdings.{Holdings, count_of, times}
use Rattle.file_deleter.proofs.NameLemmas.{times-append}
use Rattle.segment_infos.specs.declared.infos.Infos.{Infos}
use Rattle.segment_infos.specs.Files.{AreFilesOf}
use Rattle.copy_state.specs.States.{meta_names}
use Rattle.copy_job.specs.declared.part.JobPart.{JobPart}
use Rattle.copy_job.specs.Parts.{part_at, own_names, insert_part}
use Rattle.copy_job.proofs.Naming.{times-own_insert}
use Rattle.copy_job.specs.Jobs.{Job, IsJob, job_names, with_part}
use Rattle.replica_opening.specs.Known.{IsLasting}
use Rattle.replica_node.specs.Merges.{copied_names}
use Rattle.replica_node.specs.Waiting.{IsWaiting}
use Rattle.replica_node.proofs.Lasting.{listed_lasts}
use Rattle.replica_node.proofs.Waiting.{own_some, filtered}

-- the temporary names of what the job copies are counted as before, what it copies is still held by nobody else, and what it holds reads the same
pub record SparesJob (j : Job) (old new : Holdings) (a b : Cells) : Type 0 where
  pub temporary : (name : Name) (number : ℕ) → 0 < times (copied_names j) name → number < 2 ^ 64 → count_of new (temp_name_of name number) ≡ count_of old (temp_name_of name number)
  pub unheld : (q : Name) → 0 < times (copied_names j) q → count_of old q ≡ 0 → count_of new q ≡ 0
  pub bytes : (q : Name) → 0 < times (job_names j) q → (b q).now ≡ (a q).now

pub copied_own : (j : Job) (place : ℕ) (p : JobPart) → part_at j.parts place ≡ Some p → 0 < times (copied_names j) p.own
copied_own j place p at = omega (arith, own_some j.parts place p at, times-append j.missing (own_names j.parts) p.own)

pub copied_missing : (j : Job) (q : Name) → 0 < times j.missing q → 0 < times (copied_names j) q
copied_missing j q some = omega (arith, some, times-append j.missing (own_names j.parts) q)

-- what a job copies are files of its state
pub copied_wanted : (j : Job) → IsJob j → (q : Name) → 0 < times (copied_names j) q → 0 < times (meta_names j.want.files) q
copied_wanted j is q some = omega (arith, some, is.each q, times-append j.missing (own_names j.parts) q)

pub copied_lasts : (infos : Infos) (j : Job) → IsJob j → AreFilesOf infos (meta_names j.want.files) → (q : Name) → 0 < times (copied_names j) q → IsLasting q
copied_lasts infos j is files q some = listed_lasts infos (meta_names j.want.files) files q (copied_wanted j is q some)

pub waits_spared : (j : Job) (old new : Holdings) (a b : Cells) → SparesJob j old new a b → IsWaiting old j → IsWaiting new j
waits_spared j old new a b s waits = record {
  each = λ place p at. elim (waits.each place p at) [
    | inl own ↦ inl own
    | inr l ↦ inr (record {
      job = l.job;
      small = l.small;
      temporary = l.temporary;
      once = ap (count_of new) l.temporary ∙ s.temporary p.own l.job (copied_own j place p at) l.small ∙ sym (ap (count_of old) l.temporary) ∙ l.once;
      free = s.unheld p.own (copied_own j place p at) l.free;
    })
  ];
  missing = λ q some. s.unheld q (copied_missing j q some) (waits.missing q some);
}

-- with one part more a job copies what it copied
pub copied_part : (j : Job) (name : Name) → 0 < times j.missing name → (q : Name) → 0 < times (copied_names (with_part j name)) q → 0 < times (copied_names j) q
copied_part j name missing q some = by (times (filter (λ x. not (same x name)) j.missing) q) refl (same name q) refl
  where
    all : times (copied_names (with_part j name)) q ≡ times (filter (λ x. not (same x name)) j.missing) q + times (own_names (insert_part (record { own = name; now = temp_name_of name j.number }) j.parts)) q
    all = times-append (filter (λ x. not (same x name)) j.missing) (own_names (insert_part (record { own = name; now = temp_name_of name j.number }) j.parts)) q

    own_one : (b : Bool) → same name q ≡ b → ◌≡◌ {A = ℕ} (cond (same name q) 1 0) (cond b 1 0)
    own_one b e = ap (λ t. let n : ℕ = cond t 1 0 in n) e

    by : (n : ℕ) → times (filter (λ x. not (same x name)) j.missing) q ≡ n → (b : Bool) → same name q ≡ b → 0 < times (copied_names j) q
    by (suc n) e b f = let was : 0 < times j.missing q = filtered j.missing name q (omega (arith, e)) in copied_missing j q was
    by zero e true f = subst (λ (x : Name). 0 < times (copied_names j) x) (same_true name q f) (copied_missing j name missing)
    by zero e false f = omega (arith, e, all, some, times-own_insert (record { own = name; now = temp_name_of name j.number }) j.parts q, own_one false f, times-append j.missing (own_names j.parts) q)
