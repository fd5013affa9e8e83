-- What a recovery answers where the directory is refused.
use Rattle.std.proofs.Common.{◌≡◌, ◌⊎◌, ℕ, List, Option, Some, None, Result, Ok, Err, refl, sym, ap, subst, inl, inr}
use Rattle.disk_model.specs.Disk.{Image, Cells, reads_of}
use Rattle.segment_infos.specs.declared.infos.Infos.{Infos}
use Rattle.segment_infos.specs.declared.infos.SegRecord.{SegRecord}
use Rattle.seg_reader.specs.declared.parts.SegFault.{SegFault}
use Rattle.commit_steps.specs.declared.recovery.RecoverFault.{RecoverFault}
use Rattle.commit_steps.specs.declared.recovery.RecoverFault.TheVariants.{Memory as RecoverMemory, Failed as RecoverFailed, Broken, Gone}
use Rattle.commit_steps.specs.Recovery.{Recovers, SaysHowBroken, IsAnswered, IsRecoverAnswer}
use Rattle.replica_opening.specs.declared.fault.StartFault.{StartFault}
use Rattle.replica_opening.specs.declared.fault.StartFault.TheVariants.{Memory, Recover, Segment, Failed}
use Rattle.replica_opening.specs.Readers.{AreReaders, IsFirstRefusedSegment}
use Rattle.replica_opening.specs.Opening.{IsDiskFault, IsStartRefusal, IsStartCutOff, IsCutOffOr, IsStartFaultOf, IsOfFirstRefused, IsRecovered, IsRecoveredBefore, CanOpen, RecoversOpen, start_fault_of}

abbrev Recovery : Type 0
Recovery = Result (Option (ℕ × Infos)) RecoverFault

some_not_err : {Q : Type 0} (x : Option (ℕ × Infos)) (e : RecoverFault) → ◌≡◌ {A = Recovery} (Ok x) (Err e) → Q
some_not_err x e same = cc

same_found : (x y : ℕ × Infos) → ◌≡◌ {A = Recovery} (Ok (Some x)) (Ok (Some y)) → x ≡ y
same_found x y same = cc

none_not_some : {Q : Type 0} (x : ℕ × Infos) → ◌≡◌ {A = Recovery} (Ok None) (Ok (Some x)) → Q
none_not_some x same = cc

same_fault : (d e : RecoverFault) → ◌≡◌ {A = Recovery} (Err d) (Err e) → d ≡ e
same_fault d e same = cc

err_not_found : {Q : Type 0} (x : Option (ℕ × Infos)) (e : RecoverFault) → ◌≡◌ {A = Recovery} (Err e) (Ok x) → Q
err_not_found x e same = cc

-- an answer that is a commit is not a fault
not_refused : {Q : Type 0} (x : Option (ℕ × Infos)) (e : RecoverFault) → IsAnswered {X = Option (ℕ × Infos)} (Ok x) (Err e) → Q
not_refused x e (inl h) = some_not_err x RecoverMemory h
not_refused x e (inr (inl h)) = some_not_err x RecoverFailed h
not_refused x e (inr (inr h)) = some_not_err x e h

pub found_is : (image : Image) (found : Option (ℕ × Infos)) → Recovers image (Ok found) → IsRecovered image found
found_is image None h = h
found_is image (Some x) h = h

module _ (image : Image) where
  pub recovered_before : (found : Option (ℕ × Infos)) (due : StartFault) → IsRecoverAnswer image (Ok found) → IsStartRefusal image due → IsRecoveredBefore image due (Ok found)
  recovered_before found (Recover (Broken name fault)) r h = not_refused found (Broken name fault) (r.broken name fault h)
  recovered_before found (Recover (Gone name)) r h = not_refused found (Gone name) (r.gone name h)
  recovered_before found (Recover RecoverMemory) r h = absurd h
  recovered_before found (Recover RecoverFailed) r h = absurd h
  recovered_before found Memory r h = absurd h
  recovered_before found Failed r h = absurd h
  recovered_before found (Segment seg fault) r h = by found (r.whole h.number h.infos h.whole)
    where
      by : (x : Option (ℕ × Infos)) → IsAnswered {X = Option (ℕ × Infos)} (Ok x) (Ok (Some (h.number, h.infos))) → IsRecoveredBefore image (Segment seg fault) (Ok x)
      by x (inl e) = some_not_err x RecoverMemory e
      by x (inr (inl e)) = some_not_err x RecoverFailed e
      by None (inr (inr e)) = none_not_some (h.number, h.infos) e
      by (Some x) (inr (inr e)) = record {
        segment = h.segment;
        fault = fault;
        due_is = ap (λ s. Segment s fault) h.seg_is;
        first = subst (λ (y : ℕ × Infos). IsFirstRefusedSegment image y.1.segs h.segment fault) (sym (same_found x (h.number, h.infos) e)) h.first;
      }

  refused_by : (e due : RecoverFault) → IsAnswered {X = Option (ℕ × Infos)} (Err e) (Err due) → IsCutOffOr (start_fault_of due) (start_fault_of e)
  refused_by e due (inl h) = inl (subst (λ (f : RecoverFault). IsStartCutOff (start_fault_of f)) (sym (same_fault e RecoverMemory h)) tt)
  refused_by e due (inr (inl h)) = inl (subst (λ (f : RecoverFault). IsStartCutOff (start_fault_of f)) (sym (same_fault e RecoverFailed h)) tt)
  refused_by e due (inr (inr h)) = inr (ap start_fault_of (same_fault e due h))

  -- where a commit or nothing was due, the recovery was cut off
  cut_by : (e : RecoverFault) (found : Option (ℕ × Infos)) → IsAnswered {X = Option (ℕ × Infos)} (Err e) (Ok found) → IsStartCutOff (start_fault_of e)
  cut_by e found (inl k) = subst (λ (f : RecoverFault). IsStartCutOff (start_fault_of f)) (sym (same_fault e RecoverMemory k)) tt
  cut_by e found (inr (inl k)) = subst (λ (f : RecoverFault). IsStartCutOff (start_fault_of f)) (sym (same_fault e RecoverFailed k)) tt
  cut_by e found (inr (inr k)) = err_not_found found e k

  pub refused_before : (e : RecoverFault) (due : StartFault) → IsRecoverAnswer image (Err e) → IsStartRefusal image due → IsCutOffOr due (start_fault_of e)
  refused_before e (Recover (Broken name fault)) r h = refused_by e (Broken name fault) (r.broken name fault h)
  refused_before e (Recover (Gone name)) r h = refused_by e (Gone name) (r.gone name h)
  refused_before e (Recover RecoverMemory) r h = absurd h
  refused_before e (Recover RecoverFailed) r h = absurd h
  refused_before e Memory r h = absurd h
  refused_before e Failed r h = absurd h
  refused_before e (Segment seg fault) r h = inl (cut_by e (Some (h.number, h.infos)) (r.whole h.number h.infos h.whole))

  -- a directory that opens is not refused
  pub refused_open : (e : RecoverFault) → IsRecoverAnswer image (Err e) → CanOpen image → IsStartCutOff (start_fault_of e)
  refused_open e r (inl nothing) = cut_by e None (r.none nothing)
  refused_open e r (inr opens) = cut_by e (Some (opens.number, opens.infos)) (r.whole opens.number opens.infos opens.whole)

  pub recovered_open : (found : Option (ℕ × Infos)) → IsRecoverAnswer image (Ok found) → CanOpen image → RecoversOpen image (Ok found)
  recovered_open None r opens = tt
  recovered_open (Some x) r (inl nothing) = by (r.none nothing)
    where
      by : IsAnswered {X = Option (ℕ × Infos)} (Ok (Some x)) (Ok None) → RecoversOpen image (Ok (Some x))
      by (inl e) = some_not_err (Some x) RecoverMemory e
      by (inr (inl e)) = some_not_err (Some x) RecoverFailed e
      by (inr (inr e)) = none_not_some x (sym e)
  recovered_open (Some x) r (inr opens) = by (r.whole opens.number opens.infos opens.whole)
    where
      by : IsAnswered {X = Option (ℕ × Infos)} (Ok (Some x)) (Ok (Some (opens.number, opens.infos))) → RecoversOpen image (Ok (Some x))
      by (inl e) = some_not_err (Some x) RecoverMemory e
      by (inr (inl e)) = some_not_err (Some x) RecoverFailed e
      by (inr (inr e)) = (opens.segs, subst (λ (y : ℕ × Infos). AreReaders image y.1.segs opens.segs) (sym (same_found x (opens.number, opens.infos) e)) opens.read)

  pub recover_fault : (e : RecoverFault) → SaysHowBroken image e → IsStartFaultOf image (start_fault_of e)
  recover_fault RecoverMemory h = inl tt
  recover_fault RecoverFailed h = inl tt
  recover_fault (Broken name fault) h = inr h
  recover_fault (Gone name) h = inr h

pub disk_fault : {Q : Type 0} (e : RecoverFault) → (e ≡ RecoverFailed → Q) → IsDiskFault (start_fault_of e) → Q
disk_fault RecoverMemory h d = absurd d
disk_fault RecoverFailed h d = h refl
disk_fault (Broken name fault) h d = absurd d
disk_fault (Gone name) h d = absurd d

-- ---- the point of a commit
pub due_among : (a b : Image) (records : List SegRecord) (due given : StartFault) → b ≡ a → IsOfFirstRefused a records due
    → ((r : SegRecord) (fault : SegFault) → IsFirstRefusedSegment b records r fault → IsCutOffOr (Segment r.seg fault) given) → IsCutOffOr due given
due_among a b records due given same is refused =
    subst (λ (d : StartFault). IsCutOffOr d given) (sym is.due_is) (refused is.segment is.fault (subst (λ (i : Image). IsFirstRefusedSegment i records is.segment is.fault) (sym same) is.first))

pub none_among : (a b : Image) (records : List SegRecord) (due : StartFault) → b ≡ a → IsOfFirstRefused a records due
    → ((r : SegRecord) (fault : SegFault) → IsFirstRefusedSegment b records r fault → ⊥) → ⊥
none_among a b records due same is refused = refused is.segment is.fault (subst (λ (i : Image). IsFirstRefusedSegment i records is.segment is.fault) (sym same) is.first)
