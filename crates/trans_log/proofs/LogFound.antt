-- What an opening of the log finds, step by step.
use Rattle.std.proofs.Common.{◌≡◌, ◌≢◌, ◌⊎◌, ℕ, suc, ◌+◌, ◌<◌, ◌≤◌, ◌^◌, ◌||◌, Bool, true, false, List, [], ◌∷◌, ◌++◌, length, take, Option, Some, None, Result, Ok, Err, refl, sym, ap, subst, ◌∙◌, arith, inl, inr, true≢false}
use Rattle.std.specs.Prelude.{get_or, IsSome, IfErr, IsErrAnd, is_some}
use Rattle.std.proofs.Math.Bool.{or-true}
use Rattle.std.proofs.lemmas.Bool.{cases_eq, cases_lt}
use Rattle.std.proofs.lemmas.Option.{same_Some}
use Rattle.std.proofs.lemmas.Cmp.{nat_list_eq_equiv}
use Rattle.codec_frame.specs.declared.frame.FileFault.{FileFault}
use Rattle.codec_frame.specs.declared.frame.FileFault.TheVariants.{Frame, Body}
use Rattle.body_forms.specs.File.{IsFileAnswer}
use Rattle.body_forms.specs.declared.read_fault.ReadFault.{ReadFault}
use Rattle.body_forms.specs.declared.read_fault.ReadFault.TheVariants.{File, Memory as ReadMemory}
use Rattle.disk_model.specs.Disk.{Name, Content, Cell, Cells, Image, reads_of, same, is_among, put, removed, half_removed, after_remove, may_leave}
use Rattle.disk_model.specs.declared.dir.DirFault.{DirFault}
use Rattle.disk_model.specs.declared.dir.DirFault.TheVariants.{Memory as DirMemory, Missing, Exists, Failed as DirFailed}
use Rattle.disk_model.proofs.CellLemmas.{put_here, put_apart, same_true, same_apart, among_more}
use Rattle.trans_log.specs.declared.record.LogOp.{LogOp}
use Rattle.trans_log.specs.declared.log.LogFault.{LogFault}
use Rattle.trans_log.specs.declared.log.LogFault.TheVariants.{Memory, Failed, Broken, Gap}
use Rattle.trans_log.specs.Records.{SpellsRecord, log_file_id, record_wanted, IsRecordFile}
use Rattle.trans_log.specs.Names.{IsRecordNumber, log_name_of, pending_log_name_of, IsLogName, IsPendingLogName}
use Rattle.trans_log.specs.Logs.{Numbered, HasRecord, ReadsRecords, KeepsRecord, IsLogSafe, SameLogs, IsClear, IsOpenLog}
use Rattle.trans_log.specs.Opening.{HasEach, IsGap, IsRefusedRecord, IsRefusedAt, IsBrokenRecord, IsLogCutOff, IsFaultOrCutOff, SaysRecord, SaysRecords, SaysLog, IsLastNumber, IsFirstGap, KeepsButPending}
use Rattle.trans_log.proofs.LogNames.{log_not_pending}
use Rattle.trans_log.proofs.Appending.{numbered_map}
use Rattle.trans_log.proofs.FileLaws.{one_record}

none_of : {X : Type 0} (o : Option X) → is_some o ≡ false → o ≡ None
none_of None e = refl
none_of (Some x) e = absurd (true≢false e)

none_not : {X : Type 0} (o : Option X) → o ≡ None → IsSome o → ⊥
none_not o e h = true≢false (sym h ∙ ap (λ x. is_some x) e)

-- ---- names

-- one more name: the greatest number so far
module _ (names : List Name) (i : ℕ) (x : Name) (last new : ℕ) (lt : i < length names) (is : x ≡ get_or names i x) (one : (new ≡ last) ⊎ IsLogName new x) (most : (n : ℕ) → IsLogName n x → n ≤ new) (more : last ≤ new) (old : IsLastNumber (take i names) last) where
  still : (q : Name) → is_among (take i names) q ≡ true → is_among (take (i + 1) names) q ≡ true
  still q h = among_more names i x q lt is ∙ ap (λ b. b || (same x q || false)) h

  here : (q : Name) → x ≡ q → is_among (take (i + 1) names) q ≡ true
  here q e = among_more names i x q lt is ∙ ap (λ b. is_among (take i names) q || (b || false)) (ap (λ (n : Name). same n q) e ∙ nat_list_eq_equiv.refl q) ∙ or-true (is_among (take i names) q)

  there : (new ≡ last) ⊎ IsLogName new x → (last ≡ 0) ⊎ (IsRecordNumber last × (is_among (take i names) (log_name_of last) ≡ true)) → (new ≡ 0) ⊎ (IsRecordNumber new × (is_among (take (i + 1) names) (log_name_of new) ≡ true))
  there (inl e) (inl z) = inl (e ∙ z)
  there (inl e) (inr h) = inr (subst IsRecordNumber (sym e) h.0, ap (λ (n : ℕ). is_among (take (i + 1) names) (log_name_of n)) e ∙ still (log_name_of last) h.1)
  there (inr h) was = inr (h.0, here (log_name_of new) h.1)

  pub last_more : IsLastNumber (take (i + 1) names) new
  last_more = record {
    there = there one old.there;
    above = λ n gt number. among_more names i x (log_name_of n) lt is
        ∙ ap (λ b. b || (same x (log_name_of n) || false)) (old.above n (omega (arith, gt, more)) number)
        ∙ ap (λ b. false || (b || false)) (same_apart x (log_name_of n) (λ e. omega (arith, gt, most n (number, e))));
  }

-- ---- files

pub numbered_at : (P : ℕ → LogOp → Type 0) (n : ℕ) (records : List LogOp) (k : ℕ) → Numbered P n records → n < k → k ≤ n + length records → (r : LogOp) × P k r
numbered_at P n [] k h lt le = absurd (omega (arith, lt, le))
numbered_at P n (r ∷ records) k h lt le = elim (cases_eq k (suc n)) [
  | inl e ↦ (r, subst (λ (j : ℕ). P j r) (sym e) h.0)
  | inr apart ↦ numbered_at P (suc n) records k h.1 (omega (arith, lt, apart)) (omega (arith, le))
]

pub each_more : (image : Image) (i : ℕ) → HasEach image i → IsSome (image (log_name_of (i + 1))) → HasEach image (i + 1)
each_more image i h next n pos le = elim (cases_eq n (i + 1)) [
  | inl e ↦ subst (λ (k : ℕ). IsSome (image (log_name_of k))) (sym e) next
  | inr apart ↦ h n pos (omega (arith, le, apart))
]

pub each_before : (image : Image) (i : ℕ) → HasEach image i → (m : ℕ) → 0 < m → m < i + 1 → IsSome (image (log_name_of m))
each_before image i h m pos lt = h m pos (omega (arith, lt))

pub read_more : (image : Image) (records : List LogOp) (r : LogOp) (n : ℕ) → n ≡ suc (length records) → Numbered (HasRecord image) 0 records → HasRecord image n r → Numbered (HasRecord image) 0 (records ++ r ∷ [])
read_more image records r n e h here = more 0 records h (subst (λ (k : ℕ). HasRecord image k r) (let f : n ≡ suc (0 + length records) = omega (arith, e) in f) here)
  where
    more : (n : ℕ) (records : List LogOp) → Numbered (HasRecord image) n records → HasRecord image (suc (n + length records)) r → Numbered (HasRecord image) n (records ++ r ∷ [])
    more n [] h p = let e : suc (n + 0) ≡ suc n = omega arith in (subst (λ (k : ℕ). HasRecord image k r) e p, tt)
    more n (x ∷ records) h p = let e : suc (n + length (x ∷ records)) ≡ suc (suc n + length records) = omega arith in (h.0, more (suc n) records h.1 (subst (λ (k : ℕ). HasRecord image k r) e p))

pub says_record : (image : Image) (number : ℕ) (fault : LogFault) → IsLogCutOff fault → SaysRecord image number fault
says_record image number Memory h = tt
says_record image number Failed h = tt
says_record image number (Broken name fault) h = absurd h
says_record image number (Gap n) h = absurd h

pub says_log : (image : Image) (fault : LogFault) → IsLogCutOff fault → SaysLog image fault
says_log image Memory h = tt
says_log image Failed h = tt
says_log image (Broken name fault) h = absurd h
says_log image (Gap n) h = absurd h

-- the next record is refused
pub says_records : (image : Image) (records : List LogOp) (number : ℕ) (fault : LogFault) → number < 2 ^ 32 → number ≡ suc (length records) → Numbered (HasRecord image) 0 records → SaysRecord image number fault → SaysRecords image fault
says_records image records number Memory small e read h = tt
says_records image records number Failed small e read h = tt
says_records image records number (Broken name fault) small e read h = record { before = records; number = (omega arith, omega (arith, small, e)); reads = read; refused = subst (λ (k : ℕ). IsRefusedAt image k name fault) e h }
says_records image records number (Gap n) small e read h = absurd h

-- the record of this number is looked at: it is the broken one, or before it
pub broken_here : (image : Image) (i : ℕ) (name : Name) (fault : FileFault) (b : IsBrokenRecord image name fault) (e : LogFault) → i ≤ length b.before → ((r : LogOp) → HasRecord image (i + 1) r → IsLogCutOff e)
    → ((q : Name) (f : FileFault) → IsRefusedAt image (i + 1) q f → IsFaultOrCutOff (Broken q f) e) → IsFaultOrCutOff (Broken name fault) e
broken_here image i name fault b e le whole refused = elim (cases_eq i (length b.before)) [
  | inl is ↦ let at : suc (length b.before) ≡ i + 1 = omega (arith, is) in refused name fault (subst (λ (k : ℕ). IsRefusedAt image k name fault) at b.refused)
  | inr apart ↦ let has = numbered_at (HasRecord image) 0 b.before (i + 1) b.reads (omega arith) (omega (arith, le, apart)) in inl (whole has.0 has.1)
]

pub passed_more : (image : Image) (i : ℕ) (name : Name) (fault : FileFault) (b : IsBrokenRecord image name fault) → i ≤ length b.before → ((q : Name) (f : FileFault) → IsRefusedAt image (i + 1) q f → ⊥) → i + 1 ≤ length b.before
passed_more image i name fault b le never = elim (cases_eq i (length b.before)) [
  | inl is ↦ let at : suc (length b.before) ≡ i + 1 = omega (arith, is) in absurd (never name fault (subst (λ (k : ℕ). IsRefusedAt image k name fault) at b.refused))
  | inr apart ↦ omega (arith, le, apart)
]

-- a file is refused
pub refused_at : (image : Image) (number : ℕ) (name : Name) (bytes : List ℕ) (result : Result LogOp ReadFault) (fault : FileFault) → name ≡ log_name_of number → image name ≡ Some bytes → result ≡ Err (File fault)
    → IsFileAnswer SpellsRecord (record_wanted number) (λ _. log_file_id number) File bytes result → IsRefusedAt image number name fault
refused_at image number name bytes result (Frame fault) is there e a = (is, (bytes, ap image (sym is) ∙ there, (a.frame fault).0 e))
refused_at image number name bytes result Body is there e a = (is, (bytes, ap image (sym is) ∙ there, a.body.0 e))

-- the file of a record is not
pub never_refused : (image : Image) (number : ℕ) (r : LogOp) (bytes : List ℕ) (result : Result LogOp ReadFault) (fault : FileFault) → image (log_name_of number) ≡ Some bytes → HasRecord image number r
    → ((r : LogOp) → IsRecordFile number r bytes → IfErr result (λ f. f ≡ ReadMemory)) → result ≡ Err (File fault) → ⊥
never_refused image number r bytes result fault there has whole e =
    let same_bytes : has.0 ≡ bytes = same_Some has.0 bytes (sym has.1 ∙ there) in
    file_never_memory fault (subst (λ (x : Result LogOp ReadFault). IfErr x (λ f. f ≡ ReadMemory)) e (whole r (subst (λ (b : List ℕ). IsRecordFile number r b) same_bytes has.2)))
  where
    file_never_memory : (fault : FileFault) → ◌≡◌ {A = ReadFault} (File fault) ReadMemory → ⊥
    file_never_memory fault e = cc

-- what is told of a file that is refused
pub told_at : (image : Image) (number : ℕ) (name : Name) (bytes : List ℕ) (result : Result LogOp ReadFault) (fault : FileFault) → image (log_name_of number) ≡ Some bytes
    → IsFileAnswer SpellsRecord (record_wanted number) (λ _. log_file_id number) File bytes result → IsRefusedAt image number name fault → result ≡ Err (File fault)
told_at image number name bytes result (Frame fault) there a h =
    (a.frame fault).1 (subst (λ (b : List ℕ). IsRefusedRecord number b (Frame fault)) (same_Some h.1.0 bytes (sym h.1.1 ∙ there)) h.1.2)
told_at image number name bytes result Body there a h = a.body.1 (subst (λ (b : List ℕ). IsRefusedRecord number b Body) (same_Some h.1.0 bytes (sym h.1.1 ∙ there)) h.1.2)

pub same_told : (fault other : FileFault) → ◌≡◌ {A = Result LogOp ReadFault} (Err (File fault)) (Err (File other)) → fault ≡ other
same_told fault other e = cc

-- a file that is refused is told
pub refused_told : (image : Image) (number : ℕ) (name q : Name) (bytes : List ℕ) (result : Result LogOp ReadFault) (fault f : FileFault) → name ≡ log_name_of number → image (log_name_of number) ≡ Some bytes → result ≡ Err (File fault)
    → IsFileAnswer SpellsRecord (record_wanted number) (λ _. log_file_id number) File bytes result → IsRefusedAt image number q f → IsFaultOrCutOff (Broken q f) (Broken name fault)
refused_told image number name q bytes result fault f is there e a h =
    let n : name ≡ q = is ∙ sym h.0 in
    let same_fault : fault ≡ f = same_told fault f (sym e ∙ told_at image number q bytes result f there a h) in
    inr cc

pub ok_never_told : (r : LogOp) (fault : FileFault) → ◌≡◌ {A = Result LogOp ReadFault} (Ok r) (Err (File fault)) → ⊥
ok_never_told r fault e = cc

-- ---- the names and the files

-- the record of a number up to the last that has a file
pub record_at : (image : Image) (records : List LogOp) (last k : ℕ) → last ≤ length records → Numbered (HasRecord image) 0 records → k < last → (r : LogOp) × HasRecord image (k + 1) r
record_at image records last k le each lt = numbered_at (HasRecord image) 0 records (k + 1) each (omega arith) (omega (arith, lt, le))

module _ (names : List Name) (cells : Cells) (list : (q : Name) → is_among names q ≡ is_some (cells q).now) (last : ℕ) (is_last : IsLastNumber names last) where
  abbrev image : Image
  image = reads_of cells

  none_above : (n : ℕ) → last < n → IsRecordNumber n → image (log_name_of n) ≡ None
  none_above n gt number = none_of (cells (log_name_of n)).now (sym (list (log_name_of n)) ∙ is_last.above n gt number)

  pub last_small : last < 2 ^ 32
  last_small = elim is_last.there [ inl e ↦ omega (arith, e) | inr h ↦ h.0.1 ]

  pub no_gap : HasEach image last → (n : ℕ) → IsGap image n → ⊥
  no_gap each n gap = elim (cases_lt last n) [
    | inl gt ↦ none_not (image (log_name_of gap.greater.0)) (none_above gap.greater.0 (omega (arith, gt, gap.greater.1)) gap.greater.2) gap.greater.3
    | inr le ↦ none_not (image (log_name_of n)) gap.missing (each n gap.number.0 (omega (arith, le)))
  ]

  pub a_gap : (n : ℕ) → IsFirstGap image last (Some n) → IsGap image n
  a_gap n h = elim is_last.there [
    | inl e ↦ absurd (omega (arith, e, h.0, h.1))
    | inr there ↦ let is_there : IsSome (image (log_name_of last)) = sym (list (log_name_of last)) ∙ there.1 in elim (cases_eq n last) [
      | inl e ↦ absurd (none_not (image (log_name_of n)) h.2 (subst (λ (k : ℕ). IsSome (image (log_name_of k))) (sym e) is_there))
      | inr apart ↦ record {
        number = (h.0, omega (arith, h.1, there.0.1));
        missing = h.2;
        before = h.3;
        greater = (last, omega (arith, apart, h.1), there.0, is_there);
      }
    ]
  ]

  pub reads_all : (records : List LogOp) → length records ≡ last → Numbered (HasRecord image) 0 records → ReadsRecords image records
  reads_all records len each = record { each = each; none = λ n gt number. none_above n (omega (arith, gt, len)) number }

  -- a log that reads as records has files up to the last, and no gap
  pub last_within : (records : List LogOp) → ReadsRecords image records → last ≤ length records
  last_within records reads = elim is_last.there [
    | inl e ↦ omega (arith, e)
    | inr there ↦ elim (cases_lt (length records) last) [
      | inl gt ↦ absurd (none_not (image (log_name_of last)) (reads.none last gt there.0) (sym (list (log_name_of last)) ∙ there.1))
      | inr le ↦ omega (arith, le)
    ]
  ]

  pub never_gap : (records : List LogOp) (n : ℕ) → ReadsRecords image records → IsFirstGap image last (Some n) → ⊥
  never_gap records n reads h =
      let has = numbered_at (HasRecord image) 0 records n reads.each h.0 (omega (arith, h.1, last_within records reads)) in
      none_not (image (log_name_of n)) h.2 (ap (λ x. is_some x) has.1.1)

  pub says_found : (fault : LogFault) → HasEach image last → SaysRecords image fault → SaysLog image fault
  says_found Memory each h = tt
  says_found Failed each h = tt
  says_found (Broken name fault) each h = record { first = h; gapless = no_gap each }
  says_found (Gap n) each h = absurd h

  -- a file that is refused is among the first
  pub broken_within : (name : Name) (fault : FileFault) (b : IsBrokenRecord image name fault) → length b.before < last
  broken_within name fault b = elim (cases_lt last (suc (length b.before))) [
    | inl gt ↦ absurd (none_not (image (log_name_of (suc (length b.before)))) (none_above (suc (length b.before)) gt b.number) (ap (λ x. is_some x) b.refused.1.1))
    | inr le ↦ omega (arith, le)
  ]

-- ---- a removal

module _ (cells : Cells) (name : Name) (m : ℕ) (pending : IsPendingLogName m name) where
  apart_from : (q : Name) → ((k : ℕ) → IsPendingLogName k q → ⊥) → name ≢ q
  apart_from q never e = never m (subst (λ (x : Name). IsPendingLogName m x) e pending)

  pub removed_others : (a : Result (Unit {0}) DirFault) → KeepsButPending cells (after_remove cells name a)
  removed_others (Ok x) q never = put_apart cells name (removed (cells name)) q (apart_from q never)
  removed_others (Err DirFailed) q never = put_apart cells name (half_removed (cells name)) q (apart_from q never)
  removed_others (Err DirMemory) q never = refl
  removed_others (Err Missing) q never = refl
  removed_others (Err Exists) q never = refl

put_none : (cells : Cells) (name : Name) (new : Cell) (q : Name) → ((cells name).now ≡ None → new.now ≡ None) → (cells q).now ≡ None → (put cells name new q).now ≡ None
put_none cells name new q keep none = by (same name q) refl
  where
    by : (b : Bool) → same name q ≡ b → (put cells name new q).now ≡ None
    by true e = let is = same_true name q e in ap (λ (x : Name). (put cells name new x).now) (sym is) ∙ ap (λ (c : Cell). c.now) (put_here cells name new) ∙ keep (ap (λ (x : Name). (cells x).now) is ∙ none)
    by false e = ap (λ (c : Cell). c.now) (put_apart cells name new q (λ is. true≢false (sym (ap (λ (x : Name). same name x) (sym is) ∙ nat_list_eq_equiv.refl name) ∙ e))) ∙ none

pub removed_none : (cells : Cells) (name : Name) (a : Result (Unit {0}) DirFault) (q : Name) → (cells q).now ≡ None → (after_remove cells name a q).now ≡ None
removed_none cells name (Ok x) q = put_none cells name (removed (cells name)) q (λ _. refl)
removed_none cells name (Err DirFailed) q = put_none cells name (half_removed (cells name)) q (λ e. e)
removed_none cells name (Err DirMemory) q = λ e. e
removed_none cells name (Err Missing) q = λ e. e
removed_none cells name (Err Exists) q = λ e. e

pub removed_here : (cells : Cells) (name : Name) → (after_remove {T = Unit {0}} cells name (Ok tt) name).now ≡ None
removed_here cells name = ap (λ (c : Cell). c.now) (put_here cells name (removed (cells name)))

-- no file has a pending name among the names so far
pub gone_more : (names : List Name) (i : ℕ) (x : Name) (before after : Cells) → i < length names → x ≡ get_or names i x
    → ((m : ℕ) → IsRecordNumber m → is_among (take i names) (pending_log_name_of m) ≡ true → (before (pending_log_name_of m)).now ≡ None)
    → ((m : ℕ) → IsPendingLogName m x → (after x).now ≡ None) → ((q : Name) → (before q).now ≡ None → (after q).now ≡ None)
    → (m : ℕ) → IsRecordNumber m → is_among (take (i + 1) names) (pending_log_name_of m) ≡ true → (after (pending_log_name_of m)).now ≡ None
gone_more names i x before after lt is was here none m number among =
    by (is_among (take i names) (pending_log_name_of m)) (same x (pending_log_name_of m)) refl refl (sym (among_more names i x (pending_log_name_of m) lt is) ∙ among)
  where
    by : (a b : Bool) → is_among (take i names) (pending_log_name_of m) ≡ a → same x (pending_log_name_of m) ≡ b
        → (is_among (take i names) (pending_log_name_of m) || (same x (pending_log_name_of m) || false)) ≡ true → (after (pending_log_name_of m)).now ≡ None
    by true b e f h = none (pending_log_name_of m) (was m number e)
    by false true e f h = let named = same_true x (pending_log_name_of m) f in ap (λ (q : Name). (after q).now) (sym named) ∙ here m (number, named)
    by false false e f h = absurd (true≢false (sym h ∙ ap (λ a. a || (same x (pending_log_name_of m) || false)) e ∙ ap (λ b. b || false) f))

-- nor any other, where the names are those of all the files
pub all_clear : (names : List Name) (before after : Cells) → ((q : Name) → is_among names q ≡ is_some (before q).now) → ((m : ℕ) → IsRecordNumber m → is_among names (pending_log_name_of m) ≡ true → (after (pending_log_name_of m)).now ≡ None)
    → ((q : Name) → (before q).now ≡ None → (after q).now ≡ None) → IsClear after 0
all_clear names before after list gone none m gt number = by (is_among names (pending_log_name_of m)) refl
  where
    by : (b : Bool) → is_among names (pending_log_name_of m) ≡ b → (after (pending_log_name_of m)).now ≡ None
    by true e = gone m number e
    by false e = none (pending_log_name_of m) (none_of (before (pending_log_name_of m)).now (sym (list (pending_log_name_of m)) ∙ e))

-- ---- the log is open

-- the files of records stay as they are
logs_kept : (before after : Cells) → KeepsButPending before after → (n : ℕ) → after (log_name_of n) ≡ before (log_name_of n)
logs_kept before after keeps n = keeps (log_name_of n) (λ m p. log_not_pending n m p.1)

pub open_start : (before after : Cells) (records : List LogOp) → ReadsRecords (reads_of before) records → KeepsButPending before after → IsClear after 0 → IsOpenLog after records
open_start before after records reads keeps clear = record {
  reads = record {
    each = numbered_map (HasRecord (reads_of before)) (HasRecord (reads_of after)) 0 records (λ k x lt le p. (p.0, ap (λ (c : Cell). c.now) (logs_kept before after keeps k) ∙ p.1, p.2)) reads.each;
    none = λ n gt number. ap (λ (c : Cell). c.now) (logs_kept before after keeps n) ∙ reads.none n gt number;
  };
  clear = λ m gt number. clear m number.0 number;
}

pub safe_start : (before after : Cells) (records : List LogOp) → length records < 2 ^ 32 → ReadsRecords (reads_of before) records → KeepsButPending before after → SameLogs before → IsLogSafe after records None
safe_start before after records few reads keeps same_logs =
    let left : (n : ℕ) → IsRecordNumber n → (o : Content) → may_leave (after (log_name_of n)) o ≡ true → o ≡ (before (log_name_of n)).now =
    λ n number o may. same_logs n number o (ap (λ (c : Cell). may_leave c o) (sym (logs_kept before after keeps n)) ∙ may) in
    record {
      kept = numbered_map (HasRecord (reads_of before)) (KeepsRecord after) 0 records (λ k x lt le p. (p.0, p.2, λ o may. left k (omega (arith, lt), omega (arith, le, few)) o may ∙ p.1)) reads.each;
      next = λ number o may. inl (left (suc (length records)) number o may ∙ reads.none (suc (length records)) (omega arith) number);
      beyond = λ n gt number o may. left n number o may ∙ reads.none n (omega (arith, gt)) number;
    }

pub err_and_from : {X E : Type 0} (P : E → Type 0) (result : Result X E) (e : E) → result ≡ Err e → P e → IsErrAnd result P
err_and_from {X = X} {E = E} P result e is p = subst (λ (r : Result X E). IsErrAnd r P) (sym is) p

pub err_from : {X E : Type 0} (P : E → Type 0) (result : Result X E) (e : E) → result ≡ Err e → P e → IfErr result P
err_from {X = X} {E = E} P result e is p = subst (λ (r : Result X E). IfErr r P) (sym is) p

-- ---- what is so is answered

-- a log that reads as records has no gap
reads_no_gap : (image : Image) (rs : List LogOp) (n : ℕ) → ReadsRecords image rs → IsGap image n → ⊥
reads_no_gap image rs n reads gap = elim (cases_lt (length rs) n) [
  | inl gt ↦ none_not (image (log_name_of gap.greater.0)) (reads.none gap.greater.0 (omega (arith, gt, gap.greater.1)) gap.greater.2) gap.greater.3
  | inr le ↦ let has = numbered_at (HasRecord image) 0 rs n reads.each gap.number.0 (omega (arith, le)) in none_not (image (log_name_of n)) gap.missing (ap (λ x. is_some x) has.1.1)
]

pub ok_no_gap : (image : Image) (rs : List LogOp) (n : ℕ) (X : Type 0) → ReadsRecords image rs → IsGap image n → X
ok_no_gap image rs n X reads gap = absurd (reads_no_gap image rs n reads gap)

-- two gaps are one
one_gap : (image : Image) (n m : ℕ) → IsGap image n → IsGap image m → m ≡ n
one_gap image n m a b = elim (cases_eq m n) [
  | inl e ↦ e
  | inr apart ↦ elim (cases_lt m n) [
    | inl lt ↦ absurd (none_not (image (log_name_of m)) b.missing (a.before m b.number.0 lt))
    | inr le ↦ absurd (none_not (image (log_name_of n)) a.missing (b.before n a.number.0 (omega (arith, le, apart))))
  ]
]

pub gap_told : (image : Image) (n : ℕ) (fault : LogFault) → IsGap image n → SaysLog image fault → IsFaultOrCutOff (Gap n) fault
gap_told img n Memory gap h = inl tt
gap_told img n Failed gap h = inl tt
gap_told img n (Broken name fault) gap h = absurd (h.gapless n gap)
gap_told img n (Gap m) gap h = inr (ap Gap (one_gap img n m gap h))

-- an image reads as one list of records
one_numbered : (image : Image) (n : ℕ) (rs ss : List LogOp) → length rs ≡ length ss → Numbered (HasRecord image) n rs → Numbered (HasRecord image) n ss → rs ≡ ss
one_numbered image n [] [] len a b = refl
one_numbered image n [] (y ∷ ss) len a b = absurd (omega (arith, len))
one_numbered image n (x ∷ rs) [] len a b = absurd (omega (arith, len))
one_numbered image n (x ∷ rs) (y ∷ ss) len a b =
    let same_bytes : b.0.0 ≡ a.0.0 = same_Some b.0.0 a.0.0 (sym b.0.1 ∙ a.0.1) in
    let one : x ≡ y = one_record (suc n) a.0.0 x y a.0.2 (subst (λ (bytes : List ℕ). IsRecordFile (suc n) y bytes) same_bytes b.0.2) in
    let rest : rs ≡ ss = one_numbered image (suc n) rs ss (omega (arith, len)) a.1 b.1 in
    cc

no_longer : (image : Image) (rs ss : List LogOp) → length ss < 2 ^ 32 → ReadsRecords image rs → ReadsRecords image ss → length ss ≤ length rs
no_longer image rs ss few a b = elim (cases_lt (length rs) (length ss)) [
  | inl lt ↦
      let has = numbered_at (HasRecord image) 0 ss (suc (length rs)) b.each (omega arith) (omega (arith, lt)) in
      absurd (none_not (image (log_name_of (suc (length rs)))) (a.none (suc (length rs)) (omega arith) (omega arith, omega (arith, lt, few))) (ap (λ x. is_some x) has.1.1))
  | inr le ↦ le
]

pub one_log : (image : Image) (rs ss : List LogOp) → length rs < 2 ^ 32 → length ss < 2 ^ 32 → ReadsRecords image rs → ReadsRecords image ss → rs ≡ ss
one_log image rs ss few_rs few_ss a b =
    let up = no_longer image rs ss few_ss a b in
    let down = no_longer image ss rs few_rs b a in
    one_numbered image 0 rs ss (omega (arith, up, down)) a.each b.each
