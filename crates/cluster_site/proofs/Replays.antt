-- How a line accepts again, behind its promotion, what is due.
use Rattle.std.proofs.Common.{◌≡◌, ◌&&◌, ◌≤◌, ◌<◌, ◌⊎◌, suc, drop-cons, get_or, inl, inr, arith, ◌+◌, ◌∷◌, ◌++◌, ℕ, Bool, true, List, [], Option, Some, None, refl, ap, ◌∙◌, sym, subst, if◌then◌else◌, drop, length, reverse}
use Rattle.std.specs.Prelude.{Result, Ok, Err, OnOk, OnErr, is_some}
use Rattle.std.specs.Option.{option_map}
use Rattle.std.proofs.lemmas.Bool.{or_right}
use Rattle.std.proofs.lemmas.List.{drop_all, reverse-append}
use Rattle.nrt_base.specs.declared.numbers.At.{At}
use Rattle.nrt_base.specs.declared.numbers.NodeNo.{NodeNo}
use Rattle.nrt_base.specs.declared.numbers.Version.{Version}
use Rattle.documents.specs.declared.operation.Op.{Op}
use Rattle.history_rules.specs.declared.entry.Entry.{Entry}
use Rattle.history_rules.specs.declared.entry.Event.TheVariants.{Accepted}
use Rattle.history_rules.specs.Nodes.{Past, accepted_count}
use Rattle.history_rules.specs.Lines.{same_at, is_reply, is_answered}
use Rattle.history_rules.specs.Points.{operations_at}
use Rattle.history_tables.proofs.RowLemmas.{same_at_self}
use Rattle.history_book.specs.Log.{Log, printed, shown}
use Rattle.script_serving.specs.declared.script.Force.{Force}
use Rattle.script_serving.specs.declared.script.LineCommand.{LineCommand}
use Rattle.script_serving.specs.declared.script.LineCommand.TheVariants.{Promote}
use Rattle.script_serving.specs.Replays.{logged_operations, replay_due, due}
use Rattle.lane_threads.specs.Owes.{SuitsOrReplays, GoesByLine}
use Rattle.trans_log.specs.declared.record.LogOp.{LogOp}
use Rattle.disk_model.specs.Disk.{Name}
use Rattle.disk_model.specs.Faults.{Plans}
use Rattle.cluster_state.specs.Run.{Run, KeepsRest}
use Rattle.cluster_site.specs.Sites.{operations_in}
use Rattle.cluster_site.specs.Replays.{with_accepted, version_promoted, newest_promoted, LacksBehind, Lacks, MayAcceptAgain, OwesRecords, OwesLacking, ReplaysTo, AcceptsRecords, AcceptsLacking}

pub some_none : {X : Type 0} (x : X) → ◌≡◌ {A = Option X} (Some x) None → ⊥
some_none x is = absurd (cc)

pub on_err : {X E : Type 0} {P : Type 0} (r : Result X E) → P → OnErr r P
on_err (Ok x) p = tt
on_err (Err e) p = p

-- what callers are told beside the log is as before, as what was planned for disks and met and the names of files are too
pub rest_same : {X E : Type 0} (r : Result X E) (old new : Run) → OnOk r (KeepsRest old new) → OnOk r (new.rest.plans ≡ old.rest.plans) → OnOk r (new.rest.names ≡ old.rest.names) → OnOk r (new.rest ≡ old.rest)
rest_same (Ok x) old new kept plans names =
    let both : ◌≡◌ {A = List Plans × List (List Name)} (new.rest.plans, new.rest.names) (old.rest.plans, old.rest.names) = λ i. (plans i, names i) in
    kept ∙ ap (λ (z : List Plans × List (List Name)). record old.rest { plans = z.0; names = z.1 }) both
rest_same (Err e) old new kept plans names = tt

-- ---- one operation more

module _ (at : At) (op : Op) (k : ℕ) (past : Past) where
  may_still : MayAcceptAgain at past → MayAcceptAgain at (record { at = at; event = Accepted k op } ∷ past)
  may_still may = record {
    newest = same_at_self at;
    replied = or_right (is_reply (Accepted k op) && same_at at at) (is_answered at past) may.replied;
    begun = may.begun;
    primary = may.primary;
  }

  logged_still : is_answered at past ≡ true → logged_operations (record { at = at; event = Accepted k op } ∷ past) ≡ logged_operations past
  logged_still replied = ap (λ (b : Bool). if b then logged_operations past else logged_operations past ++ op ∷ []) replied

  due_less : (ops : List Op) → replay_due past ≡ op ∷ ops → replay_due (record { at = at; event = Accepted k op } ∷ past) ≡ ops
  due_less ops is = ap (drop 1) is

-- the next of what is due
pub replays_one : (at : At) (base old new : Log) (op : Op) (ops : List Op) → ReplaysTo at base old (op ∷ ops) → new ≡ shown at (Accepted (accepted_count (printed old) + 1) op) ∷ old → ReplaysTo at base new ops
replays_one at base old new op ops r is = let k : ℕ = accepted_count (printed old) + 1 in subst (λ (l : Log). ReplaysTo at base l ops) (sym is) (record {
  may = may_still at op k (printed old) r.may;
  due = due_less at op k (printed old) ops r.due;
  whole = r.whole;
  logged = logged_still at op k (printed old) r.may.replied ∙ r.logged;
  goes = λ n force.
      let was = r.goes n force in
      let fits : SuitsOrReplays (due true (printed old)) (Promote n force) at (printed old) (Accepted k op) =
      subst (λ (left : List Op). SuitsOrReplays left (Promote n force) at (printed old) (Accepted k op)) (sym r.due) (refl, r.may.newest) in
      record {
        more = shown at (Accepted k op) ∷ was.more;
        log = ap (λ (l : Log). shown at (Accepted k op) ∷ l) was.log;
        adds = (refl, subst (λ (l : Log). SuitsOrReplays (due true (printed l)) (Promote n force) at (printed l) (Accepted k op)) was.log fits, was.adds);
      };
})

-- the same by its place
pub replays_next : (at : At) (base old new : Log) (records : List LogOp) (i : ℕ) (entry : LogOp) → i < length records → entry ≡ get_or records i entry → ReplaysTo at base old (operations_in (drop i records))
    → new ≡ shown at (Accepted (accepted_count (printed old) + 1) entry.op) ∷ old → ReplaysTo at base new (operations_in (drop (i + 1) records))
replays_next at base old new records i entry within item r is =
    let next : suc i ≡ i + 1 = omega arith in
    let here : drop i records ≡ entry ∷ drop (i + 1) records =
    subst (λ (k : ℕ). drop i records ≡ entry ∷ drop k records) next (drop-cons records i entry within ∙ ap (λ (x : LogOp). x ∷ drop (suc i) records) (sym item)) in
    replays_one at base old new entry.op (operations_in (drop (i + 1) records)) (subst (λ (rs : List LogOp). ReplaysTo at base old (operations_in rs)) here r) is

pub replays_all : (at : At) (base now : Log) (records : List LogOp) (i : ℕ) → length records ≤ i → ReplaysTo at base now (operations_in (drop i records)) → ReplaysTo at base now []
replays_all at base now records i all r = subst (λ (rs : List LogOp). ReplaysTo at base now (operations_in rs)) (drop_all i records all) r

-- nothing was accepted again yet
pub replays_none : (at : At) (log : Log) (left : List Op) → MayAcceptAgain at (printed log) → replay_due (printed log) ≡ left → ReplaysTo at log log left
replays_none at log left may is = record { may = may; due = is; whole = ap (λ (ops : List Op). with_accepted at ops log) (sym is); logged = refl; goes = λ n force. record { more = []; log = refl; adds = tt } }

-- ---- what is lacking

-- from the point's operations on, or from the end
pub dropped : (count len from : ℕ) (records : List LogOp) → len ≡ length records → (from ≡ count) ⊎ ((len ≤ count) × (from ≡ len)) → drop from records ≡ drop count records
dropped count len from records is (inl same) = ap (λ (k : ℕ). drop k records) same
dropped count len from records is (inr last) =
    let end : length records ≤ from = omega (arith, is, last.1) in
    let most : length records ≤ count = omega (arith, is, last.0) in
    drop_all from records end ∙ sym (drop_all count records most)

-- the newest entry stands last
pub newest_is : (entries rest : List Entry) (e : Entry) (o : Option Version) → entries ≡ rest ++ e ∷ [] → option_map (λ v. v.0) o ≡ version_promoted e.event → option_map (λ v. v.0) o ≡ newest_promoted (reverse entries)
newest_is entries rest e o is told = told ∙ sym (ap newest_promoted (ap reverse is ∙ reverse-append rest (e ∷ [])))

pub none_newest : (entries : List Entry) → length entries ≡ 0 → ◌≡◌ {A = Option ℕ} None (newest_promoted (reverse entries))
none_newest [] none = refl
none_newest (e ∷ entries) none = absurd (let some : suc (length entries) ≡ 0 = none in omega (arith, some))

-- what was found for the newest promotion
lacks_at : (records found : List LogOp) (past : Past) (o : Option ℕ) (v : ℕ) → o ≡ Some v → found ≡ drop (length (operations_at past v)) records → LacksBehind records past o found
lacks_at records found past o v is same = subst (λ (x : Option ℕ). LacksBehind records past x found) (sym is) same

module _ (past : Past) (kept : Option (List LogOp)) where
  pub lacks_unlogged : kept ≡ None → Lacks kept past None
  lacks_unlogged is = subst (λ (k : Option (List LogOp)). Lacks k past None) (sym is) refl

  pub lacks_unpromoted : (records : List LogOp) → kept ≡ Some records → newest_promoted past ≡ None → Lacks kept past None
  lacks_unpromoted records is none = subst (λ (k : Option (List LogOp)). Lacks k past None) (sym is) none

  pub lacks_found : (records found : List LogOp) (v : ℕ) → kept ≡ Some records → newest_promoted past ≡ Some v → found ≡ drop (length (operations_at past v)) records → Lacks kept past (Some found)
  lacks_found records found v is promoted same = subst (λ (k : Option (List LogOp)). Lacks k past (Some found)) (sym is) (lacks_at records found past (newest_promoted past) v promoted same)

-- what a call found, in the terms of its caller
pub lacks_here : (kept : Option (List LogOp)) (past now : Past) (o p : Option (List LogOp)) → past ≡ now → o ≡ p → Lacks kept past o → Lacks kept now p
lacks_here kept past now o p same is lacks = subst (λ (x : Past × Option (List LogOp)). Lacks kept x.0 x.1) (λ i. (same i, is i)) lacks

-- ---- what is owed, and what was done

-- the records that were found are due
pub replay_begins : (at : At) (log : Log) (kept : Option (List LogOp)) (found : List LogOp) → OwesLacking at (printed log) kept → Lacks kept (printed log) (Some found) → ReplaysTo at log log (operations_in found)
replay_begins at log None found owes lacks = absurd (some_none found lacks)
replay_begins at log (Some records) found owes lacks = by (newest_promoted (printed log)) owes lacks
  where
    by : (o : Option ℕ) → OwesRecords at (printed log) records o → LacksBehind records (printed log) o found → ReplaysTo at log log (operations_in found)
    by None owes lacks = absurd lacks
    by (Some v) owes lacks = replays_none at log (operations_in found) owes.0 (owes.1 ∙ ap operations_in (sym lacks))

-- nothing was lacking
pub none_lacking : (at : At) (log : Log) (kept : Option (List LogOp)) → Lacks kept (printed log) None → AcceptsLacking at log log kept
none_lacking at log None lacks = refl
none_lacking at log (Some records) lacks = subst (λ (o : Option ℕ). AcceptsRecords at log log o) (sym lacks) refl

-- all that was lacking was accepted again
pub all_lacking : (at : At) (old new : Log) (kept : Option (List LogOp)) (found : List LogOp) → Lacks kept (printed old) (Some found) → ReplaysTo at old new [] → AcceptsLacking at old new kept
all_lacking at old new None found lacks done = absurd (some_none found lacks)
all_lacking at old new (Some records) found lacks done = by (newest_promoted (printed old)) lacks
  where
    by : (o : Option ℕ) → LacksBehind records (printed old) o found → AcceptsRecords at old new o
    by None lacks = absurd lacks
    by (Some v) lacks = done

-- some of it was
some_lacking : (at : At) (old new : Log) (kept : Option (List LogOp)) (found : List LogOp) (n : NodeNo) (force : Force) → Lacks kept (printed old) (Some found) → GoesByLine true (Promote n force) at old new
    → GoesByLine (is_some kept) (Promote n force) at old new
some_lacking at old new None found n force lacks goes = absurd (some_none found lacks)
some_lacking at old new (Some records) found n force lacks goes = goes

pub some_replayed : {X E : Type 0} (r : Result X E) (at : At) (old new : Log) (kept : Option (List LogOp)) (found : List LogOp) → Lacks kept (printed old) (Some found) → OnErr r ((n : NodeNo) (force : Force) → GoesByLine true (Promote n force) at old new)
    → OnErr r ((n : NodeNo) (force : Force) → GoesByLine (is_some kept) (Promote n force) at old new)
some_replayed (Ok x) at old new kept found lacks goes = tt
some_replayed (Err e) at old new kept found lacks goes = λ n force. some_lacking at old new kept found n force lacks (goes n force)

pub added_none : (logged : Bool) (command : LineCommand) (at : At) (old new : Log) → new ≡ old → GoesByLine logged command at old new
added_none logged command at old new same = record { more = []; log = same; adds = tt }
