-- A try of a due removal, and then a write or a rename.
use Rattle.std.proofs.Common.{◌≡◌, ◌≢◌, ℕ, ◌<◌, ◌||◌, Bool, true, false, None, List, [], ◌∷◌, Ok, Err, refl, sym, ap, subst, ◌∙◌, cond, arith, inl, inr, true≢false, is_some, ◌+◌}
use Rattle.std.proofs.Math.Dec.{ltb as nat_lt}
use Rattle.disk_model.specs.Disk.{Name, Cell, Cells, same, is_among, may_leave, put, half_written, removed, half_removed, replaced, half_replaced, after_write, after_rename, written}
use Rattle.disk_model.specs.declared.dir.DirFault.{DirFault}
use Rattle.disk_model.specs.declared.dir.DirFault.TheVariants.{Memory, Missing, Exists, Failed}
use Rattle.disk_model.proofs.CellLemmas.{same_true, put_here, put_apart, rename_others}
use Rattle.disk_model.proofs.DirectoryLaw.{write_others}
use Rattle.file_deleter.specs.Holdings.{Holdings, count_of, is_due, is_known, IsWhole, times}
use Rattle.file_deleter.specs.Moves.{KeepsFiles, Creates, RenamesCount, Renames}
use Rattle.file_deleter.specs.Tally.{Retried}
use Rattle.file_deleter.proofs.NameLemmas.{apart_of, both_apart, same_self, times_one, unlike}
use Rattle.file_deleter.proofs.Keeping.{keeps_then, known_counted, known_uncounted}

-- ---- the try
module _ (name : Name) (old mid : Holdings) (before between : Cells) (t : Retried name old mid before between)
    (apart : (q : Name) → is_due old q ≡ true → count_of old q ≡ 0) (apart_mid : (q : Name) → is_due mid q ≡ true → count_of mid q ≡ 0) where
  not_due : (q : Name) → 0 < count_of old q → is_due old q ≡ false
  not_due q had = by (is_due old q) refl
    where
      by : (p : Bool) → is_due old q ≡ p → is_due old q ≡ false
      by true e = absurd (omega (arith, had, apart q e))
      by false e = e

  pub stays_counted : (q : Name) → 0 < count_of old q → between q ≡ before q
  stays_counted q had = ((t.tries q).kept (not_due q had)).1

  none_after : (q : Name) → (before q).now ≡ None → (p : Bool) → is_due old q ≡ p → (between q).now ≡ None
  none_after q gone true e = elim ((t.tries q).tried e) [ inl done ↦ done.1 | inr still ↦ still.1 ∙ gone ]
  none_after q gone false e = ap (λ (k : Cell). k.now) ((t.tries q).kept e).1 ∙ gone

  whole_after : IsWhole before old → (q : Name) → (p : Bool) → is_due old q ≡ p → is_some (between q).now ≡ is_known mid q
  whole_after w q true e =
      let none : count_of mid q ≡ 0 = t.counts q ∙ apart q e in
      elim ((t.tries q).tried e) [
        | inl done ↦ ap is_some done.1 ∙ sym (known_uncounted mid q none ∙ done.0)
        | inr still ↦ ap is_some still.1 ∙ w.names q ∙ known_uncounted old q (apart q e) ∙ e ∙ sym (known_uncounted mid q none ∙ still.0)
      ]
  whole_after w q false e =
      let k = (t.tries q).kept e in
      ap (λ (c : Cell). is_some c.now) k.1 ∙ w.names q ∙ ap (λ n. nat_lt 0 n || is_due old q) (sym (t.counts q)) ∙ ap (λ p. nat_lt 0 (count_of mid q) || p) (e ∙ sym k.0)

  pub keeps_retried : KeepsFiles [] old mid before between
  keeps_retried = record {
    whole = λ w. record { names = λ q. whole_after w q (is_due old q) refl; apart = apart_mid };
    kept = λ q out had has. stays_counted q had;
    reads = λ q had has. ap (λ (k : Cell). k.now) (stays_counted q had);
    crash = λ q c out may. (t.tries q).crash c may;
    none = λ q out gone. none_after q gone (is_due old q) refl;
  }

-- ---- calls of the directory that change no count
pub keeps_same : (names : List Name) (holdings : Holdings) (a b : Cells) → ((q : Name) → (b q).now ≡ (a q).now) → ((q : Name) → is_among names q ≡ false → b q ≡ a q) → KeepsFiles names holdings holdings a b
keeps_same names holdings a b now others = record {
  whole = λ w. record { names = λ q. ap is_some (now q) ∙ w.names q; apart = w.apart };
  kept = λ q out had has. others q out;
  reads = λ q had has. now q;
  crash = λ q c out may. inl (sym (ap (λ (k : Cell). may_leave k c) (others q out)) ∙ may);
  none = λ q out gone. now q ∙ gone;
}

-- ---- a write
module _ (name : Name) (bytes : List ℕ) (between after : Cells) where
  pub write_failed_now : (e : DirFault) (q : Name) → (after_write {T = Unit {0}} between name bytes (Err e) q).now ≡ (between q).now
  write_failed_now Failed q = by (same name q) refl
    where
      by : (b : Bool) → same name q ≡ b → (put between name (half_written (between name)) q).now ≡ (between q).now
      by true f = ap (λ b. (cond b (half_written (between name)) (between q)).now) f ∙ ap (λ (n : Name). (between n).now) (same_true name q f)
      by false f = ap (λ b. (cond b (half_written (between name)) (between q)).now) f
  write_failed_now Memory q = refl
  write_failed_now Missing q = refl
  write_failed_now Exists q = refl

  pub keeps_unwritten : (holdings : Holdings) (e : DirFault) → after ≡ after_write {T = Unit {0}} between name bytes (Err e) → KeepsFiles (name ∷ []) holdings holdings between after
  keeps_unwritten holdings e call = keeps_same (name ∷ []) holdings between after
      (λ q. ap (λ (c : Cells). (c q).now) call ∙ write_failed_now e q)
      (λ q out. ap (λ (c : Cells). c q) call ∙ write_others {T = Unit {0}} between name bytes (Err e) q (apart_of name q out))

  module _ (old new : Holdings) (call : after ≡ put between name (written bytes (between name))) (free : count_of old name ≡ 0) (clear : is_due old name ≡ false)
      (counts : (q : Name) → count_of new q ≡ count_of old q + times (name ∷ []) q) (same_due : (q : Name) → is_due new q ≡ is_due old q) where
    written_here : after name ≡ written bytes (between name)
    written_here = ap (λ (c : Cells). c name) call ∙ put_here between name (written bytes (between name))

    written_apart : (q : Name) → name ≢ q → after q ≡ between q
    written_apart q a = ap (λ (c : Cells). c q) call ∙ put_apart between name (written bytes (between name)) q a

    as_often : (q : Name) → same name q ≡ false → count_of new q ≡ count_of old q
    as_often q e = let none : times (name ∷ []) q ≡ 0 = times_one name q ∙ ap (λ b. cond b 1 0) e in omega (arith, counts q, none)

    once_here : 0 < count_of new name
    once_here = let one : times (name ∷ []) name ≡ 1 = times_one name name ∙ ap (λ b. cond b 1 0) (same_self name) in omega (arith, counts name, one)

    written_names : IsWhole between old → (q : Name) → (b : Bool) → same name q ≡ b → is_some (after q).now ≡ is_known new q
    written_names w q true e = subst (λ (n : Name). is_some (after n).now ≡ is_known new n) (same_true name q e) (ap (λ (k : Cell). is_some k.now) written_here ∙ sym (known_counted new name once_here))
    written_names w q false e =
        ap (λ (k : Cell). is_some k.now) (written_apart q (unlike name q e)) ∙ w.names q
        ∙ ap (λ n. nat_lt 0 n || is_due old q) (sym (as_often q e)) ∙ ap (λ p. nat_lt 0 (count_of new q) || p) (sym (same_due q))

    written_apart_still : IsWhole between old → (q : Name) → is_due new q ≡ true → (b : Bool) → same name q ≡ b → count_of new q ≡ 0
    written_apart_still w q h true e = absurd (true≢false (sym h ∙ same_due q ∙ ap (is_due old) (sym (same_true name q e)) ∙ clear))
    written_apart_still w q h false e = as_often q e ∙ w.apart q (sym (same_due q) ∙ h)

    other : (q : Name) → 0 < count_of old q → name ≢ q
    other q had i = let none : count_of old q ≡ 0 = subst (λ (n : Name). count_of old n ≡ 0) i free in absurd (omega (arith, had, none))

    -- a write of the directory, and then `written`
    pub keeps_written : KeepsFiles (name ∷ []) old new between after
    keeps_written = record {
      whole = λ w. record { names = λ q. written_names w q (same name q) refl; apart = λ q h. written_apart_still w q h (same name q) refl };
      kept = λ q out had has. written_apart q (other q had);
      reads = λ q had has. ap (λ (k : Cell). k.now) (written_apart q (other q had));
      crash = λ q c out may. inl (sym (ap (λ (k : Cell). may_leave k c) (written_apart q (apart_of name q out))) ∙ may);
      none = λ q out gone. ap (λ (k : Cell). k.now) (written_apart q (apart_of name q out)) ∙ gone;
    }

-- ---- a rename
module _ (from to : Name) (between after : Cells) where
  pub rename_failed_now : (e : DirFault) (q : Name) → (after_rename {T = Unit {0}} between from to (Err e) q).now ≡ (between q).now
  rename_failed_now Failed q = by (same from q) (same to q) refl refl
    where
      at_to : (b : Bool) → same to q ≡ b → (put between to (half_replaced (between from) (between to)) q).now ≡ (between q).now
      at_to true f = ap (λ b. (cond b (half_replaced (between from) (between to)) (between q)).now) f ∙ ap (λ (n : Name). (between n).now) (same_true to q f)
      at_to false f = ap (λ b. (cond b (half_replaced (between from) (between to)) (between q)).now) f

      by : (a b : Bool) → same from q ≡ a → same to q ≡ b → (after_rename {T = Unit {0}} between from to (Err Failed) q).now ≡ (between q).now
      by true b e f = ap (λ b. (cond b (half_removed (between from)) (put between to (half_replaced (between from) (between to)) q)).now) e ∙ ap (λ (n : Name). (between n).now) (same_true from q e)
      by false b e f = ap (λ b. (cond b (half_removed (between from)) (put between to (half_replaced (between from) (between to)) q)).now) e ∙ at_to b f
  rename_failed_now Memory q = refl
  rename_failed_now Missing q = refl
  rename_failed_now Exists q = refl

  pub keeps_unrenamed : (holdings : Holdings) (e : DirFault) → after ≡ after_rename {T = Unit {0}} between from to (Err e) → KeepsFiles (from ∷ to ∷ []) holdings holdings between after
  keeps_unrenamed holdings e call = keeps_same (from ∷ to ∷ []) holdings between after
      (λ q. ap (λ (c : Cells). (c q).now) call ∙ rename_failed_now e q)
      (λ q out. let o = both_apart from to q out in ap (λ (c : Cells). c q) call ∙ rename_others {T = Unit {0}} between from to (Err e) q o.0 o.1)

  module _ (old new : Holdings) (call : after ≡ put (put between to (replaced (between from) (between to))) from (removed (between from)))
      (counted : 0 < count_of old from) (free : count_of old to ≡ 0) (clear : is_due old to ≡ false) (moves : RenamesCount from to old new) (same_due : (q : Name) → is_due new q ≡ is_due old q) where
    two : from ≢ to
    two i = let none : count_of old from ≡ 0 = ap (count_of old) i ∙ free in absurd (omega (arith, counted, none))

    renamed_from : after from ≡ removed (between from)
    renamed_from = ap (λ (c : Cells). c from) call ∙ put_here (put between to (replaced (between from) (between to))) from (removed (between from))

    renamed_to : after to ≡ replaced (between from) (between to)
    renamed_to = ap (λ (c : Cells). c to) call ∙ put_apart (put between to (replaced (between from) (between to))) from (removed (between from)) to two ∙ put_here between to (replaced (between from) (between to))

    renamed_apart : (q : Name) → from ≢ q → to ≢ q → after q ≡ between q
    renamed_apart q a b = ap (λ (c : Cells). c q) call ∙ put_apart (put between to (replaced (between from) (between to))) from (removed (between from)) q a ∙ put_apart between to (replaced (between from) (between to)) q b

    from_clear : IsWhole between old → (p : Bool) → is_due old from ≡ p → is_due old from ≡ false
    from_clear w true e = absurd (omega (arith, counted, w.apart from e))
    from_clear w false e = e

    renamed_names : IsWhole between old → (q : Name) → (a b : Bool) → same from q ≡ a → same to q ≡ b → is_some (after q).now ≡ is_known new q
    renamed_names w q true b e f = subst (λ (n : Name). is_some (after n).now ≡ is_known new n) (same_true from q e)
        (ap (λ (k : Cell). is_some k.now) renamed_from ∙ sym (known_uncounted new from moves.at_from ∙ same_due from ∙ from_clear w (is_due old from) refl))
    renamed_names w q false true e f = subst (λ (n : Name). is_some (after n).now ≡ is_known new n) (same_true to q f)
        (ap (λ (k : Cell). is_some k.now) renamed_to ∙ w.names from ∙ known_counted old from counted ∙ sym (known_counted new to (omega (arith, counted, moves.at_to))))
    renamed_names w q false false e f =
        ap (λ (k : Cell). is_some k.now) (renamed_apart q (unlike from q e) (unlike to q f)) ∙ w.names q
        ∙ ap (λ n. nat_lt 0 n || is_due old q) (sym (moves.others q (unlike from q e) (unlike to q f))) ∙ ap (λ p. nat_lt 0 (count_of new q) || p) (sym (same_due q))

    renamed_apart_still : IsWhole between old → (q : Name) → is_due new q ≡ true → (a b : Bool) → same from q ≡ a → same to q ≡ b → count_of new q ≡ 0
    renamed_apart_still w q h true b e f = subst (λ (n : Name). count_of new n ≡ 0) (same_true from q e) moves.at_from
    renamed_apart_still w q h false true e f = absurd (true≢false (sym h ∙ same_due q ∙ ap (is_due old) (sym (same_true to q f)) ∙ clear))
    renamed_apart_still w q h false false e f = moves.others q (unlike from q e) (unlike to q f) ∙ w.apart q (sym (same_due q) ∙ h)

    not_from : (q : Name) → 0 < count_of new q → from ≢ q
    not_from q has i = let none : count_of new q ≡ 0 = subst (λ (n : Name). count_of new n ≡ 0) i moves.at_from in absurd (omega (arith, has, none))

    not_to : (q : Name) → 0 < count_of old q → to ≢ q
    not_to q had i = let none : count_of old q ≡ 0 = subst (λ (n : Name). count_of old n ≡ 0) i free in absurd (omega (arith, had, none))

    -- a rename of the directory, and then `renamed`
    pub keeps_renamed : KeepsFiles (from ∷ to ∷ []) old new between after
    keeps_renamed = record {
      whole = λ w. record { names = λ q. renamed_names w q (same from q) (same to q) refl refl; apart = λ q h. renamed_apart_still w q h (same from q) (same to q) refl refl };
      kept = λ q out had has. renamed_apart q (not_from q has) (not_to q had);
      reads = λ q had has. ap (λ (k : Cell). k.now) (renamed_apart q (not_from q has) (not_to q had));
      crash = λ q c out may. let o = both_apart from to q out in inl (sym (ap (λ (k : Cell). may_leave k c) (renamed_apart q o.0 o.1)) ∙ may);
      none = λ q out gone. let o = both_apart from to q out in ap (λ (k : Cell). k.now) (renamed_apart q o.0 o.1) ∙ gone;
    }

    pub renamed_reads : (after to).now ≡ (between from).now
    renamed_reads = ap (λ (k : Cell). k.now) renamed_to

-- ---- the whole calls
module _ (name : Name) (bytes : List ℕ) (old mid : Holdings) (before between after : Cells) (t : Retried name old mid before between)
    (apart : (q : Name) → is_due old q ≡ true → count_of old q ≡ 0) (apart_mid : (q : Name) → is_due mid q ≡ true → count_of mid q ≡ 0) where
  pub creates_err : (e : DirFault) → after ≡ after_write {T = Unit {0}} between name bytes (Err e) → Creates {T = Unit {0}} {E = DirFault} name bytes old mid before after (Err e)
  creates_err e call = record {
    counts = tt;
    same = t.counts;
    reads = tt;
    due = λ q a. (t.others q a).0;
    keeps = keeps_then [] (name ∷ []) old mid mid before between after (keeps_retried name old mid before between t apart apart_mid)
        (keeps_unwritten name bytes between after mid e call) (λ q had has. has);
  }

module _ (from to : Name) (old mid : Holdings) (before between after : Cells) (t : Retried to old mid before between)
    (apart : (q : Name) → is_due old q ≡ true → count_of old q ≡ 0) (apart_mid : (q : Name) → is_due mid q ≡ true → count_of mid q ≡ 0) where
  pub renames_ok : (new : Holdings) → after ≡ put (put between to (replaced (between from) (between to))) from (removed (between from)) → 0 < count_of old from → count_of old to ≡ 0
      → is_due mid to ≡ false → RenamesCount from to mid new → ((q : Name) → is_due new q ≡ is_due mid q) → Renames {T = Unit {0}} {E = DirFault} from to old new before after (Ok tt)
  renames_ok new call counted free clear moves same_due =
      let held : 0 < count_of mid from = omega (arith, counted, t.counts from) in
      let bare : count_of mid to ≡ 0 = t.counts to ∙ free in
      record {
        moves = record { at_from = moves.at_from; at_to = moves.at_to ∙ t.counts from; others = λ q a b. moves.others q a b ∙ t.counts q };
        same = tt;
        reads = renamed_reads from to between after mid new call held bare clear moves same_due ∙ ap (λ (k : Cell). k.now) (stays_counted to old mid before between t apart apart_mid from counted);
        due = λ q a. same_due q ∙ (t.others q a).0;
        keeps = keeps_then [] (from ∷ to ∷ []) old mid new before between after (keeps_retried to old mid before between t apart apart_mid)
            (keeps_renamed from to between after mid new call held bare clear moves same_due) (λ q had has. omega (arith, had, t.counts q));
      }

  pub renames_err : (e : DirFault) → after ≡ after_rename {T = Unit {0}} between from to (Err e) → Renames {T = Unit {0}} {E = DirFault} from to old mid before after (Err e)
  renames_err e call = record {
    moves = tt;
    same = t.counts;
    reads = tt;
    due = λ q a. (t.others q a).0;
    keeps = keeps_then [] (from ∷ to ∷ []) old mid mid before between after (keeps_retried to old mid before between t apart apart_mid)
        (keeps_unrenamed from to between after mid e call) (λ q had has. has);
  }
