-- Calls in a row, and what a hold and a release of counts keep.
use Rattle.std.proofs.Common.{◌≡◌, ℕ, zero, suc, ◌+◌, ◌<◌, ◌||◌, ◌&&◌, not, Bool, true, false, None, List, [], ◌++◌, refl, sym, ap, ◌∙◌, arith, inl, inr, is_some, All, cond, Ok, subst, ◌∷◌}
use Rattle.std.proofs.Math.Dec.{ltb as nat_lt}
use Rattle.std.proofs.lemmas.Bool.{lt-ltb, or_parts}
use Rattle.disk_model.specs.Disk.{same, Name, Cell, Cells, is_among}
use Rattle.disk_model.proofs.CellLemmas.{same_true}
use Rattle.file_deleter.specs.Holdings.{Holdings, count_of, is_due, is_known, times, IsWhole, IsThere}
use Rattle.file_deleter.specs.Moves.{Retries, KeepsFiles, HoldsFiles, LetsGo, MovesCounts, Creates, Renames, RenamesCount}
use Rattle.file_deleter.proofs.NameLemmas.{among-append, among_times, not_among_times, among_is, all_there, times_one, unlike}
use Rattle.file_deleter.specs.Tally.{Adds}

-- two calls in a row, where what is counted before and after is counted in between
pub keeps_then : (w v : List Name) (old mid new : Holdings) (a b c : Cells) → KeepsFiles w old mid a b → KeepsFiles v mid new b c
    → ((q : Name) → 0 < count_of old q → 0 < count_of new q → 0 < count_of mid q) → KeepsFiles (w ++ v) old new a c
keeps_then w v old mid new a b c x y between =
    let outside : (q : Name) → is_among (w ++ v) q ≡ false → (is_among w q || is_among v q) ≡ false = λ q out. sym (among-append w v q) ∙ out in
    record {
      whole = λ h. y.whole (x.whole h);
      kept = λ q out had has. let m : 0 < count_of mid q = between q had has in y.kept q (or_parts (is_among w q) (is_among v q) (outside q out)).1 m has ∙ x.kept q (or_parts (is_among w q) (is_among v q) (outside q out)).0 had m;
      reads = λ q had has. let m : 0 < count_of mid q = between q had has in y.reads q m has ∙ x.reads q had m;
      crash = λ q o out may. elim (y.crash q o (or_parts (is_among w q) (is_among v q) (outside q out)).1 may) [
        | inl was ↦ x.crash q o (or_parts (is_among w q) (is_among v q) (outside q out)).0 was
        | inr none ↦ inr none
      ];
      none = λ q out gone. y.none q (or_parts (is_among w q) (is_among v q) (outside q out)).1 (x.none q (or_parts (is_among w q) (is_among v q) (outside q out)).0 gone);
    }

pub keeps_within : (w v : List Name) (old mid new : Holdings) (a b c : Cells) → KeepsFiles w old mid a b → KeepsFiles v mid new b c
    → ((q : Name) → is_among w q ≡ false → is_among v q ≡ false) → ((q : Name) → 0 < count_of old q → 0 < count_of new q → 0 < count_of mid q) → KeepsFiles w old new a c
keeps_within w v old mid new a b c x y sub between = record {
  whole = λ h. y.whole (x.whole h);
  kept = λ q out had has. let m : 0 < count_of mid q = between q had has in y.kept q (sub q out) m has ∙ x.kept q out had m;
  reads = λ q had has. let m : 0 < count_of mid q = between q had has in y.reads q m has ∙ x.reads q had m;
  crash = λ q o out may. elim (y.crash q o (sub q out) may) [ inl was ↦ x.crash q o out was | inr none ↦ inr none ];
  none = λ q out gone. y.none q (sub q out) (x.none q out gone);
}

pub keeps_refl : (w : List Name) (holdings : Holdings) (cells : Cells) → KeepsFiles w holdings holdings cells cells
keeps_refl w holdings cells = record { whole = λ h. h; kept = λ q out a b. refl; reads = λ q a b. refl; crash = λ q c out may. inl may; none = λ q out gone. gone }

-- nothing moves
pub moves_refl : (w names : List Name) (holdings : Holdings) (cells : Cells) → MovesCounts w names names holdings holdings cells cells
moves_refl w names holdings cells = record { balance = λ q. refl; keeps = keeps_refl w holdings cells }

-- two moves in a row, where what is counted before and after is counted in between
pub moves_then : (w v from between to : List Name) (old mid new : Holdings) (a b c : Cells) → MovesCounts w from between old mid a b → MovesCounts v between to mid new b c
    → ((q : Name) → 0 < count_of old q → 0 < count_of new q → 0 < count_of mid q) → MovesCounts (w ++ v) from to old new a c
moves_then w v from between to old mid new a b c x y counted = record {
  balance = λ q. omega (arith, x.balance q, y.balance q);
  keeps = keeps_then w v old mid new a b c x.keeps y.keeps counted;
}

-- the value names more files, which a hold counts
pub moves_held : (names from to : List Name) (old new : Holdings) (cells : Cells) → HoldsFiles names old new cells
    → ((q : Name) → times to q ≡ times from q + times names q) → MovesCounts [] from to old new cells cells
moves_held names from to old new cells h e = record { balance = λ q. omega (arith, h.counts q, e q); keeps = h.keeps }

-- the value names fewer files, which a release gives back
pub moves_released : (names from to : List Name) (old new : Holdings) (before after : Cells) → LetsGo names old new before after
    → ((q : Name) → times from q ≡ times to q + times names q) → MovesCounts [] from to old new before after
moves_released names from to old new before after h e = record { balance = λ q. omega (arith, h.counts q, e q); keeps = h.keeps }

-- a hold of new files, and then a release of others
pub moves_switched : (news olds from to : List Name) (old mid new : Holdings) (before after : Cells) → HoldsFiles news old mid before → LetsGo olds mid new before after
    → ((q : Name) → times from q + times news q ≡ times to q + times olds q) → MovesCounts [] from to old new before after
moves_switched news olds from to old mid new before after h r e = record {
  balance = λ q. omega (arith, h.counts q, r.counts q, e q);
  keeps = keeps_then [] [] old mid new before before after h.keeps r.keeps (λ q had has. omega (arith, r.counts q, has));
}

-- the value names one file more, which was written
pub moves_created : {T E : Type 0} (name : Name) (bytes : List ℕ) (from to : List Name) (old new : Holdings) (before after : Cells) (done : T) → Creates {T = T} {E = E} name bytes old new before after (Ok done)
    → ((q : Name) → times to q ≡ times from q + times (name ∷ []) q) → MovesCounts (name ∷ []) from to old new before after
moves_created name bytes from to old new before after done c e = record { balance = λ q. omega (arith, c.counts q, e q); keeps = c.keeps }

-- a name that was counted once is given to another
pub renamed_once : (from to : Name) (old new : Holdings) → RenamesCount from to old new → count_of old from ≡ 1 → count_of old to ≡ 0
    → (q : Name) → count_of new q + times (from ∷ []) q ≡ count_of old q + times (to ∷ []) q
renamed_once from to old new m one none q = by (same from q) (same to q) refl refl
  where
    here : (a : Name) → same a q ≡ true → times (a ∷ []) q ≡ 1
    here a e = times_one a q ∙ ap (λ b. cond b 1 0) e

    gone : (a : Name) → same a q ≡ false → times (a ∷ []) q ≡ 0
    gone a e = times_one a q ∙ ap (λ b. cond b 1 0) e

    by : (a b : Bool) → same from q ≡ a → same to q ≡ b → count_of new q + times (from ∷ []) q ≡ count_of old q + times (to ∷ []) q
    by true true e f = let i : from ≡ to = same_true from q e ∙ sym (same_true to q f) in absurd (omega (arith, one, none, ap (count_of old) i))
    by true false e f =
        let i : from ≡ q = same_true from q e in
        let n : count_of new q ≡ 0 = subst (λ (x : Name). count_of new x ≡ 0) i m.at_from in
        let o : count_of old q ≡ 1 = subst (λ (x : Name). count_of old x ≡ 1) i one in
        omega (arith, n, o, here from e, gone to f)
    by false true e f =
        let i : to ≡ q = same_true to q f in
        let n : count_of new q ≡ 1 = subst (λ (x : Name). count_of new x ≡ 1) i (m.at_to ∙ one) in
        let o : count_of old q ≡ 0 = subst (λ (x : Name). count_of old x ≡ 0) i none in
        omega (arith, n, o, gone from e, here to f)
    by false false e f = omega (arith, gone from e, gone to f, m.others q (unlike from q e) (unlike to q f))

-- the value names a file by its new name
pub moves_renamed : {T E : Type 0} (a b : Name) (from to : List Name) (old new : Holdings) (before after : Cells) (done : T) → Renames {T = T} {E = E} a b old new before after (Ok done)
    → count_of old a ≡ 1 → count_of old b ≡ 0 → ((q : Name) → times to q + times (a ∷ []) q ≡ times from q + times (b ∷ []) q) → MovesCounts (a ∷ b ∷ []) from to old new before after
moves_renamed a b from to old new before after done r one none e = record { balance = λ q. omega (arith, renamed_once a b old new r.moves one none q, e q); keeps = r.keeps }

-- ---- what is known
pub known_counted : (holdings : Holdings) (q : Name) → 0 < count_of holdings q → is_known holdings q ≡ true
known_counted holdings q some = ap (λ b. b || is_due holdings q) (lt-ltb 0 (count_of holdings q) some)

pub known_uncounted : (holdings : Holdings) (q : Name) → count_of holdings q ≡ 0 → is_known holdings q ≡ is_due holdings q
known_uncounted holdings q none = ap (λ n. nat_lt 0 n || is_due holdings q) none

-- a hold of names that are there
pub known_held : (c p : Bool) → (c || (p && not c)) ≡ (c || p)
known_held true p = refl
known_held false true = refl
known_held false false = refl

pub holds : (names : List Name) (old new : Holdings) (cells : Cells)
    → ((q : Name) → count_of new q ≡ count_of old q + times names q)
    → ((q : Name) → is_due new q ≡ (is_due old q && not (nat_lt 0 (count_of new q))))
    → ((q : Name) → is_due new q ≡ true → count_of new q ≡ 0)
    → All (IsThere cells) names → HoldsFiles names old new cells
holds names old new cells counts pends apart there = record {
  counts = counts;
  keeps = record {
    whole = λ w. record { names = λ q. by w q (is_among names q) refl; apart = apart };
    kept = λ q out a b. refl;
    reads = λ q a b. refl;
    crash = λ q c out may. inl may;
    none = λ q out gone. gone;
  };
}
  where
    now_known : (q : Name) → is_known new q ≡ (nat_lt 0 (count_of new q) || is_due old q)
    now_known q = ap (λ p. nat_lt 0 (count_of new q) || p) (pends q) ∙ known_held (nat_lt 0 (count_of new q)) (is_due old q)

    by : IsWhole cells old → (q : Name) → (b : Bool) → is_among names q ≡ b → is_some (cells q).now ≡ is_known new q
    by w q true e = all_there cells names q there e ∙ sym (known_counted new q (omega (arith, counts q, among_times names q e)))
    by w q false e = let n : count_of new q ≡ count_of old q = omega (arith, counts q, not_among_times names q e) in
        w.names q ∙ ap (λ k. nat_lt 0 k || is_due old q) (sym n) ∙ sym (now_known q)

-- tries of due removals, after which as many are counted, let go of nothing more
pub lets_go : (names : List Name) (old new : Holdings) (before after : Cells) (due : Name → Bool)
    → ((q : Name) → count_of new q + times names q ≡ count_of old q)
    → ((q : Name) → Retries (due q) (is_due new q) (before q) (after q))
    → ((q : Name) → due q ≡ true → count_of new q ≡ 0)
    → ((q : Name) → count_of new q ≡ 0 → is_known old q ≡ due q)
    → ((q : Name) → is_due new q ≡ true → count_of new q ≡ 0)
    → LetsGo names old new before after
lets_go names old new before after due counts tries zero_due known apart = record {
  counts = counts;
  keeps = record {
    whole = λ w. record { names = λ q. whole_at w q; apart = apart };
    kept = λ q out had has. (kept_at q has).1;
    reads = λ q had has. ap (λ (k : Cell). k.now) (kept_at q has).1;
    crash = λ q c out may. (tries q).crash c may;
    none = λ q out gone. none_at q gone (due q) refl;
  };
}
  where
    not_due : (q : Name) → 0 < count_of new q → due q ≡ false
    not_due q has = by (due q) refl
      where
        by : (d : Bool) → due q ≡ d → due q ≡ false
        by true e = absurd (omega (arith, has, zero_due q e))
        by false e = e

    kept_at : (q : Name) → 0 < count_of new q → (is_due new q ≡ false) × (after q ≡ before q)
    kept_at q has = (tries q).kept (not_due q has)

    none_at : (q : Name) → (before q).now ≡ None → (d : Bool) → due q ≡ d → (after q).now ≡ None
    none_at q gone true e = elim ((tries q).tried e) [ inl done ↦ done.1 | inr still ↦ still.1 ∙ gone ]
    none_at q gone false e = ap (λ (k : Cell). k.now) ((tries q).kept e).1 ∙ gone

    whole_at : IsWhole before old → (q : Name) → is_some (after q).now ≡ is_known new q
    whole_at w q = by_count (count_of new q) refl
      where
        by_due : count_of new q ≡ 0 → (d : Bool) → due q ≡ d → is_some (after q).now ≡ is_known new q
        by_due none true e = elim ((tries q).tried e) [
          | inl done ↦ ap is_some done.1 ∙ sym (known_uncounted new q none ∙ done.0)
          | inr still ↦ ap is_some still.1 ∙ w.names q ∙ known q none ∙ e ∙ sym (known_uncounted new q none ∙ still.0)
        ]
        by_due none false e = ap (λ (k : Cell). is_some k.now) ((tries q).kept e).1 ∙ w.names q ∙ known q none ∙ e ∙ sym (known_uncounted new q none ∙ ((tries q).kept e).0)

        by_count : (n : ℕ) → count_of new q ≡ n → is_some (after q).now ≡ is_known new q
        by_count zero e = by_due e (due q) refl
        by_count (suc n) e =
            let has : 0 < count_of new q = omega (arith, e) in
            let had : 0 < count_of old q = omega (arith, has, counts q) in
            ap (λ (k : Cell). is_some k.now) (kept_at q has).1 ∙ w.names q ∙ known_counted old q had ∙ sym (known_counted new q has)

-- what was due and is not among the names that are held is still due
pub due_held : (names : List Name) (old new : Holdings) → Adds names old new → ((q : Name) → is_due old q ≡ true → count_of old q ≡ 0)
    → (q : Name) → is_due new q ≡ (is_due old q && not (is_among names q))
due_held names old new adds apart q = adds.due q ∙ by (is_due old q) refl
  where
    by : (p : Bool) → is_due old q ≡ p → (is_due old q && not (nat_lt 0 (count_of new q))) ≡ (is_due old q && not (is_among names q))
    by true e =
        let counted : count_of new q ≡ times names q = omega (arith, adds.counts q, apart q e) in
        ap (λ b. is_due old q && not b) (ap (nat_lt 0) counted ∙ sym (among_is names q))
    by false e = ap (λ p. p && not (nat_lt 0 (count_of new q))) e ∙ sym (ap (λ p. p && not (is_among names q)) e)
