-- What an append does to the directory, and what a crash leaves of it.
use Rattle.std.proofs.Common.{◌≡◌, ◌≢◌, ◌⊎◌, ℕ, suc, ◌+◌, ◌<◌, ◌≤◌, ◌^◌, Bool, true, false, List, [], ◌∷◌, ◌++◌, length, Option, Some, None, Result, Ok, Err, refl, sym, ap, subst, ◌∙◌, arith, inl, inr}
use Rattle.std.specs.Prelude.{IsSomeAnd, OnOk, IsErr}
use Rattle.std.proofs.lemmas.List.{length-append}
use Rattle.std.specs.Prelude.{nat_lt}
use Rattle.std.proofs.lemmas.Bool.{cases_eq, lt-ltb, ltb-true, true≢false}
use Rattle.disk_model.specs.Disk.{Name, Cell, Cells, Image, IsImage, IsKept, may_leave, put, settled, removed, replaced, after_rename, after_sync_names}
use Rattle.disk_model.specs.declared.dir.DirFault.{DirFault}
use Rattle.disk_model.proofs.CellLemmas.{put_here, put_apart, left_synced, leaves_now, settled_kept, rename_others, rename_target, same_kept}
use Rattle.trans_log.specs.declared.record.LogOp.{LogOp}
use Rattle.trans_log.specs.Names.{IsRecordNumber, log_name_of, pending_log_name_of}
use Rattle.trans_log.specs.Logs.{Numbered, IsFileContent, HasRecord, ReadsRecords, ImagesRead, KeepsRecord, IsLogSafe, IsOpenLog, in_flight, IsWritten, IsPublished, MayShow, KeepsOthers, Appends}
use Rattle.trans_log.proofs.LogNames.{log_name_apart, pending_log_name_apart, log_not_pending}

-- ---- lists of records with their numbers

pub numbered_map : (P Q : ℕ → LogOp → Type 0) (n : ℕ) (records : List LogOp) → ((k : ℕ) (r : LogOp) → n < k → k ≤ n + length records → P k r → Q k r) → Numbered P n records → Numbered Q n records
numbered_map P Q n [] f h = tt
numbered_map P Q n (r ∷ records) f h = (f (suc n) r (omega arith) (omega arith) h.0, numbered_map P Q (suc n) records (λ k x lt le p. f k x (omega (arith, lt)) (omega (arith, le)) p) h.1)

pub numbered_more : (P : ℕ → LogOp → Type 0) (n : ℕ) (records : List LogOp) (r : LogOp) → Numbered P n records → P (suc (n + length records)) r → Numbered P n (records ++ r ∷ [])
numbered_more P n [] r h p = let e : suc (n + 0) ≡ suc n = omega arith in (subst (λ (k : ℕ). P k r) e p, tt)
numbered_more P n (x ∷ records) r h p = let e : suc (n + length (x ∷ records)) ≡ suc (suc n + length records) = omega arith in (h.0, numbered_more P (suc n) records r h.1 (subst (λ (k : ℕ). P k r) e p))

kept_then : (a b c : Cell) → IsKept a b → IsKept b c → IsKept a c
kept_then a b c x y = record { now = y.now ∙ x.now; fewer = λ o h. x.fewer o (y.fewer o h) }

err_done : {T E : Type 0} (P : Type 0) (result : Result T E) → IsErr result → OnOk result P
err_done P (Ok x) bad = absurd (true≢false (sym bad))
err_done P (Err e) err = tt

-- ---- the file is renamed, and the names are synced

module _ (before : Cells) (number : ℕ) (r : LogOp) (w : IsWritten number r (before (pending_log_name_of number))) where
  abbrev P : Name
  P = pending_log_name_of number

  abbrev L : Name
  L = log_name_of number

  apart : P ≢ L
  apart e = log_not_pending number number (sym e)

  renamed_kept : (a : Result (Unit {0}) DirFault) → KeepsOthers number before (after_rename before P L a)
  renamed_kept a q l p = same_kept (before q) (after_rename before P L a q) (rename_others before P L a q p l)

  renamed_shows : (a : Result (Unit {0}) DirFault) → MayShow number r before (after_rename before P L a)
  renamed_shows a o may = elim (rename_target before P L a w.0 apart w.2 w.3 o may) [ inl was ↦ inl was | inr is ↦ inr (w.0, is, w.1) ]

  -- the rename was refused
  pub rename_refused : {T E : Type 0} (result : Result T E) → IsErr result → (after : Cells) (a : Result (Unit {0}) DirFault) → after ≡ after_rename before P L a → Appends number r before after result
  rename_refused {T} {E} result err after a e =
      subst (λ (c : Cells). Appends {T = T} {E = E} number r before c result) (sym e) (record { others = renamed_kept a; shows = renamed_shows a; done = err_done _ result err })

  abbrev mid : Cells
  mid = after_rename {T = Unit {0}} before P L (Ok tt)

  mid_here : mid L ≡ replaced (before P) (before L)
  mid_here = put_apart (put before L (replaced (before P) (before L))) P (removed (before P)) L apart ∙ put_here before L (replaced (before P) (before L))

  mid_gone : (mid P).now ≡ None
  mid_gone = ap (λ (c : Cell). c.now) (put_here (put before L (replaced (before P) (before L))) P (removed (before P)))

  -- the sync of the names was refused
  pub names_refused : {T E : Type 0} (result : Result T E) → IsErr result → (after : Cells) (renamed : Cells) → renamed ≡ mid → after ≡ renamed → Appends number r before after result
  names_refused result err after renamed a b = rename_refused result err after (Ok tt) (b ∙ a)

  -- all was done
  pub names_synced : {E : Type 0} (after : Cells) (renamed : Cells) → renamed ≡ mid → after ≡ after_sync_names {T = Unit {0}} renamed (Ok tt) → Appends {T = Unit {0}} {E = E} number r before after (Ok tt)
  names_synced {E} after renamed a b =
      subst (λ (c : Cells). Appends {T = Unit {0}} {E = E} number r before c (Ok tt)) (sym (b ∙ ap (λ (m : Cells). after_sync_names {T = Unit {0}} m (Ok tt)) a)) (record {
        others = λ q l p. kept_then (before q) (mid q) (settled (mid q)) (renamed_kept (Ok tt) q l p) (settled_kept (mid q));
        shows = λ o may. renamed_shows (Ok tt) o ((settled_kept (mid L)).fewer o may);
        done = (
          mid_gone,
          (
            w.0,
            w.1,
            λ o may. left_synced (mid L).now (mid L).synced w.0 o (ap (λ (c : Cell). c.now) mid_here ∙ w.2) (ap (λ (c : Cell). c.synced) mid_here ∙ w.3) may,
          ),
        );
      })

-- ---- the four calls

-- the file was not written, or not synced
pub not_written : {T E : Type 0} (before after : Cells) (number : ℕ) (r : LogOp) (result : Result T E) → IsErr result → ((q : Name) → pending_log_name_of number ≢ q → after q ≡ before q) → Appends number r before after result
not_written before after number r result err others = record {
  others = λ q l p. same_kept (before q) (after q) (others q p);
  shows = λ o may. inl (ap (λ (c : Cell). may_leave c o) (sym (others (log_name_of number) (λ e. log_not_pending number number (sym e)))) ∙ may);
  done = err_done _ result err;
}

-- it was, and then the rest was done or refused
pub appends_after : {T E : Type 0} (before mid after : Cells) (number : ℕ) (r : LogOp) (result : Result T E) → ((q : Name) → pending_log_name_of number ≢ q → mid q ≡ before q)
    → Appends number r mid after result → Appends number r before after result
appends_after before mid after number r result others a = record {
  others = λ q l p. kept_then (before q) (mid q) (after q) (same_kept (before q) (mid q) (others q p)) (a.others q l p);
  shows = λ o may. elim (a.shows o may) [
    | inl was ↦ inl (ap (λ (c : Cell). may_leave c o) (sym (others (log_name_of number) (λ e. log_not_pending number number (sym e)))) ∙ was)
    | inr file ↦ inr file
  ];
  done = a.done;
}

-- ---- the log

abbrev next_of : List LogOp → ℕ
next_of records = suc (length records)

module _ (before after : Cells) (records : List LogOp) (r : LogOp) (few : IsRecordNumber (next_of records)) (others : KeepsOthers (next_of records) before after) where
  -- a name of another record's number
  other_log : (n : ℕ) → n < 2 ^ 32 → (n ≡ next_of records → ⊥) → IsKept (before (log_name_of n)) (after (log_name_of n))
  other_log n small apart = others (log_name_of n) (λ e. apart (sym (log_name_apart (next_of records) n (omega (arith, few.1)) (omega (arith, small)) e))) (λ e. log_not_pending n (next_of records) (sym e))

  other_pending : (n : ℕ) → n < 2 ^ 32 → (n ≡ next_of records → ⊥) → IsKept (before (pending_log_name_of n)) (after (pending_log_name_of n))
  other_pending n small apart =
      others (pending_log_name_of n) (λ e. log_not_pending (next_of records) n e) (λ e. apart (sym (pending_log_name_apart (next_of records) n (omega (arith, few.1)) (omega (arith, small)) e)))

  kept_over : Numbered (KeepsRecord before) 0 records → Numbered (KeepsRecord after) 0 records
  kept_over kept = numbered_map (KeepsRecord before) (KeepsRecord after) 0 records
      (λ k x lt le p. (p.0, p.1, λ o may. p.2 o ((other_log k (omega (arith, few.1, le)) (λ e. omega (arith, e, le))).fewer o may))) kept

  -- after a refusal a crash may show the record too
  pub safe_refused : IsLogSafe before records None → MayShow (next_of records) r before after → IsLogSafe after records (Some r)
  safe_refused safe shows = record {
    kept = kept_over safe.kept;
    next = λ number o may. elim (shows o may) [
      | inl was ↦ elim (safe.next number o was) [ inl none ↦ inl none | inr bad ↦ absurd bad ]
      | inr file ↦ inr file
    ];
    beyond = λ n above number o may. safe.beyond n above number o ((other_log n number.1 (λ e. omega (arith, e, above))).fewer o may);
  }

  -- after an append it is one of the records
  pub safe_done : IsLogSafe before records None → KeepsRecord after (next_of records) r → IsLogSafe after (records ++ r ∷ []) None
  safe_done safe here =
      let len : length (records ++ r ∷ []) ≡ next_of records = omega (arith, length-append records (r ∷ [])) in
      record {
        kept = numbered_more (KeepsRecord after) 0 records r (kept_over safe.kept) (subst (λ (k : ℕ). KeepsRecord after k r) (let e : next_of records ≡ suc (0 + length records) = omega arith in e) here);
        next = λ number o may.
            let n = suc (length (records ++ r ∷ [])) in
            inl (safe.beyond n (omega (arith, len)) number o ((other_log n number.1 (λ e. omega (arith, e, len))).fewer o may));
        beyond = λ n above number o may. safe.beyond n (omega (arith, above, len)) number o ((other_log n number.1 (λ e. omega (arith, e, above, len))).fewer o may);
      }

  -- and the log goes on
  pub open_done : IsOpenLog before records → IsPublished (next_of records) r after → IsOpenLog after (records ++ r ∷ [])
  open_done was done =
      let len : length (records ++ r ∷ []) ≡ next_of records = omega (arith, length-append records (r ∷ [])) in
      let last : HasRecord (λ q. (after q).now) (next_of records) r = (done.1.0, done.1.2 (after (log_name_of (next_of records))).now (leaves_now (after (log_name_of (next_of records)))), done.1.1) in
      record {
        reads = record {
          each = numbered_more (HasRecord (λ q. (after q).now)) 0 records r
              (numbered_map (HasRecord (λ q. (before q).now)) (HasRecord (λ q. (after q).now)) 0 records
              (λ k x lt le p. (p.0, (other_log k (omega (arith, few.1, le)) (λ e. omega (arith, e, le))).now ∙ p.1, p.2)) was.reads.each)
              (subst (λ (k : ℕ). HasRecord (λ q. (after q).now) k r) (let e : next_of records ≡ suc (0 + length records) = omega arith in e) last);
          none = λ n above number. (other_log n number.1 (λ e. omega (arith, e, above, len))).now ∙ was.reads.none n (omega (arith, above, len)) number;
        };
        clear = λ m above number. (other_pending m number.1 (λ e. omega (arith, e, above, len))).now ∙ was.clear m (omega (arith, above, len)) number;
      }

-- an append was refused
pub refused_log : {T E T2 E2 : Type 0} (before after : Cells) (records new_records : List LogOp) (r : LogOp) (number : ℕ) (result : Result T E) (answer : Result T2 E2) → number ≡ next_of records → number < 2 ^ 32 → new_records ≡ records → IsErr answer
    → Appends number r before after result → IsLogSafe before records None → IsLogSafe after new_records (in_flight answer r)
refused_log before after records new_records r number result (Ok x) is few same err a safe = absurd (true≢false (sym err))
refused_log before after records new_records r number result (Err e) is few same err a safe =
    subst (λ (rs : List LogOp). IsLogSafe after rs (Some r)) (sym same)
    (safe_refused before after records r (omega arith, subst (λ (n : ℕ). n < 2 ^ 32) is few) (subst (λ (n : ℕ). KeepsOthers n before after) is a.others) safe (subst (λ (n : ℕ). MayShow n r before after) is a.shows))

module _ {T E : Type 0} (before after : Cells) (records new_records : List LogOp) (r copy : LogOp) (number : ℕ) (result : Result T E) (x : T) (ok : result ≡ Ok x) (is : number ≡ next_of records) (few : number < 2 ^ 32) (more : new_records ≡ records ++ copy ∷ []) (shared : copy ≡ r) (a : Appends number r before after result) where
  more_so : new_records ≡ records ++ r ∷ []
  more_so = more ∙ ap (λ (y : LogOp). records ++ y ∷ []) shared

  few_so : IsRecordNumber (next_of records)
  few_so = (omega arith, subst (λ (n : ℕ). n < 2 ^ 32) is few)

  others_so : KeepsOthers (next_of records) before after
  others_so = subst (λ (n : ℕ). KeepsOthers n before after) is a.others

  published : IsPublished (next_of records) r after
  published = subst (λ (n : ℕ). IsPublished n r after) is (subst (λ (y : Result T E). OnOk y (IsPublished number r after)) ok a.done)

  -- an append was answered
  pub done_log : IsLogSafe before records None → IsLogSafe after new_records None
  done_log safe = subst (λ (rs : List LogOp). IsLogSafe after rs None) (sym more_so) (safe_done before after records r few_so others_so safe published.1)

  -- and the log goes on
  pub open_log : IsOpenLog before records → IsOpenLog after new_records
  open_log is_open = subst (λ (rs : List LogOp). IsOpenLog after rs) (sym more_so) (open_done before after records r few_so others_so is_open published)

-- ---- images

each_read : (cells : Cells) (image : Image) (records : List LogOp) → IsImage cells image → (n : ℕ) → Numbered (KeepsRecord cells) n records → Numbered (HasRecord image) n records
each_read cells image [] is n h = tt
each_read cells image (r ∷ records) is n h = ((h.0.0, h.0.2 (image (log_name_of (suc n))) (is (log_name_of (suc n))), h.0.1), each_read cells image records is (suc n) h.1)

module _ (cells : Cells) (records : List LogOp) (flight : Option LogOp) (safe : IsLogSafe cells records flight) (image : Image) (is : IsImage cells image) where
  none_beyond : (n : ℕ) → next_of records < n → IsRecordNumber n → image (log_name_of n) ≡ None
  none_beyond n above number = safe.beyond n above number (image (log_name_of n)) (is (log_name_of n))

  reads_records : (IsRecordNumber (next_of records) → image (log_name_of (next_of records)) ≡ None) → ReadsRecords image records
  reads_records none = record {
    each = each_read cells image records is 0 safe.kept;
    none = λ n above number. by n above number (cases_eq n (next_of records));
  }
    where
      by : (n : ℕ) → length records < n → IsRecordNumber n → (n ≡ next_of records) ⊎ (n ≡ next_of records → ⊥) → image (log_name_of n) ≡ None
      by n above number (inl e) = subst (λ (k : ℕ). image (log_name_of k) ≡ None) (sym e) (none (subst IsRecordNumber e number))
      by n above number (inr apart) = none_beyond n (omega (arith, above, apart)) number

  reads_flight : (r : LogOp) → IsFileContent (next_of records) r (image (log_name_of (next_of records))) → ReadsRecords image (records ++ r ∷ [])
  reads_flight r file =
      let len : length (records ++ r ∷ []) ≡ next_of records = omega (arith, length-append records (r ∷ [])) in
      record {
        each = numbered_more (HasRecord image) 0 records r (each_read cells image records is 0 safe.kept) (subst (λ (k : ℕ). HasRecord image k r) (let e : next_of records ≡ suc (0 + length records) = omega arith in e) file);
        none = λ n above number. none_beyond n (omega (arith, above, len)) number;
      }

image_reads : (cells : Cells) (records : List LogOp) (flight : Option LogOp) → IsLogSafe cells records flight → (image : Image) → IsImage cells image → (b : Bool) → nat_lt (next_of records) (2 ^ 32) ≡ b
    → ReadsRecords image records ⊎ IsSomeAnd flight (λ r. ReadsRecords image (records ++ r ∷ []))
image_reads cells records flight safe image is false e = inl (reads_records cells records flight safe image is (λ number. absurd (true≢false (sym (lt-ltb (next_of records) (2 ^ 32) number.1) ∙ e))))
image_reads cells records None safe image is true e =
    let number : IsRecordNumber (next_of records) = (omega arith, ltb-true (next_of records) (2 ^ 32) e) in
    elim (safe.next number (image (log_name_of (next_of records))) (is (log_name_of (next_of records)))) [ inl none ↦ inl (reads_records cells records None safe image is (λ _. none)) | inr bad ↦ absurd bad ]
image_reads cells records (Some r) safe image is true e =
    let number : IsRecordNumber (next_of records) = (omega arith, ltb-true (next_of records) (2 ^ 32) e) in
    elim (safe.next number (image (log_name_of (next_of records))) (is (log_name_of (next_of records)))) [
      | inl none ↦ inl (reads_records cells records (Some r) safe image is (λ _. none))
      | inr file ↦ inr (reads_flight cells records (Some r) safe image is r file)
    ]

pub images_of_safe : (cells : Cells) (records : List LogOp) (flight : Option LogOp) → IsLogSafe cells records flight → ImagesRead cells records flight
images_of_safe cells records flight safe = record { each = λ image is. image_reads cells records flight safe image is (nat_lt (next_of records) (2 ^ 32)) refl }
