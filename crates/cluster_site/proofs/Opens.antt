-- The log of an empty directory.
use Rattle.std.proofs.Common.{◌≡◌, true, List, [], refl, sym, subst}
use Rattle.std.specs.Prelude.{Result, Ok, Err, IfErr, MatchResult, Option, Some}
use Rattle.disk_model.specs.Disk.{Cells, reads_of}
use Rattle.disk_model.specs.Faults.{Plans}
use Rattle.trans_log.specs.declared.record.LogOp.{LogOp}
use Rattle.trans_log.specs.declared.log.TransLog.{TransLog}
use Rattle.trans_log.specs.declared.log.LogFault.{LogFault}
use Rattle.trans_log.specs.declared.log.LogFault.TheVariants.{Memory as LogMemory, Failed as LogFailed, Broken, Gap}
use Rattle.trans_log.specs.declared.opening.LogRefused.{LogRefused}
use Rattle.trans_log.specs.Names.{log_name_of}
use Rattle.trans_log.specs.Logs.{ReadsRecords, IsCalm}
use Rattle.trans_log.specs.Opening.{IsLogCutOff}
use Rattle.history_book.specs.Log.{Log, printed}
use Rattle.lane_threads.specs.Owes.{FaultsFit}
use Rattle.cluster_state.specs.Run.{Run}
use Rattle.cluster_state.specs.Starting.{IsEmptyDir}
use Rattle.cluster_site.specs.Sites.{SiteStands, LogGoesOn, AreLogged}

-- an empty directory reads as no records
pub reads_none : (cells : Cells) → IsEmptyDir cells → ReadsRecords (reads_of cells) []
reads_none cells empty = record { each = tt; none = λ n above number. empty.now (log_name_of n) }

cut_for_memory : (fault : LogFault) → IsLogCutOff fault → (fault ≡ LogFailed → ⊥) → fault ≡ LogMemory
cut_for_memory LogMemory cut unfailed = refl
cut_for_memory LogFailed cut unfailed = absurd (unfailed refl)
cut_for_memory (Broken name fault) cut unfailed = absurd cut
cut_for_memory (Gap n) cut unfailed = absurd cut

module _ {D : Type 0} (r : Result (TransLog D) (LogRefused D)) (whole : MatchResult r (λ (log : TransLog D). log.records.items ≡ []) (λ (refused : LogRefused D). IsLogCutOff refused.fault)) where
  -- what refuses it is want of memory
  pub refused_for_memory : (refused : LogRefused D) → r ≡ Err refused → IfErr r (λ (x : LogRefused D). x.fault ≡ LogFailed → ⊥) → refused.fault ≡ LogMemory
  refused_for_memory refused is unfailed =
      cut_for_memory refused.fault (subst (λ (z : Result (TransLog D) (LogRefused D)). MatchResult z (λ (log : TransLog D). log.records.items ≡ []) (λ (x : LogRefused D). IsLogCutOff x.fault)) is whole)
      (subst (λ (z : Result (TransLog D) (LogRefused D)). IfErr z (λ (x : LogRefused D). x.fault ≡ LogFailed → ⊥)) is unfailed)

  pub opened_none : (log : TransLog D) → r ≡ Ok log → log.records.items ≡ []
  opened_none log is = subst (λ (z : Result (TransLog D) (LogRefused D)). MatchResult z (λ (l : TransLog D). l.records.items ≡ []) (λ (x : LogRefused D). IsLogCutOff x.fault)) is whole

-- the log goes on
pub opened_calm : {D : Type 0} (plans : D → Option Plans) (r : Result (TransLog D) (LogRefused D)) (log : TransLog D) → r ≡ Ok log → MatchResult r (λ (l : TransLog D). IsCalm (plans l.dir)) (λ (x : LogRefused D). IsCalm (plans x.dir)) → IsCalm (plans log.dir)
opened_calm {D} plans r log is calm = subst (λ (z : Result (TransLog D) (LogRefused D)). MatchResult z (λ (l : TransLog D). IsCalm (plans l.dir)) (λ (x : LogRefused D). IsCalm (plans x.dir))) is calm

-- a new site with a log that has no record
pub logged_stands : {D : Type 0} (cells : D → Cells) (plans : D → Option Plans) (r : Run) (log : TransLog D) → r.log ≡ [] → log.records.items ≡ [] → LogGoesOn cells plans log → SiteStands cells plans r (Some log)
logged_stands cells plans r log none empty goes_on = record {
  faults = subst (λ (l : Log). FaultsFit true l) (sym none) (record { follow = tt; wait = tt });
  in_step = λ _. subst (λ (x : List LogOp × Log). AreLogged x.0 (printed x.1)) (λ i. (sym empty i, sym none i)) (record { operations = refl; replayed = refl });
  stands = λ _. goes_on;
}
