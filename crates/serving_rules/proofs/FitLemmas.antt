-- That each entry of a list can be printed, read from its front.
use Rattle.std.proofs.Common.{◌≡◌, ℕ, suc, ◌+◌, ◌<◌, ◌≤◌, List, length, get_or, drop, sym, subst, arith, drop-cons}
use Rattle.std.proofs.lemmas.List.{drop_all}
use Rattle.history_rules.specs.declared.entry.Entry.{Entry}
use Rattle.report_text.specs.Printed.{EntryFits, AllFit}

-- one more entry fits
pub one_more_fits : (P : Type 0) (es : List Entry) (i : ℕ) (e : Entry) → i < length es → e ≡ get_or es i e → EntryFits e → (AllFit (drop i es) → P) → AllFit (drop (i + 1) es) → P
one_more_fits P es i e lt same fits before rest =
    let next : i + 1 ≡ suc i = omega arith in
    let first = subst EntryFits same fits in
    let later = subst (λ (k : ℕ). AllFit (drop k es)) next rest in
    before (subst AllFit (sym (drop-cons es i e lt)) (first, later))

-- none is left
pub none_left_fits : (P : Type 0) (es : List Entry) (i : ℕ) → length es ≤ i → (AllFit (drop i es) → P) → P
none_left_fits P es i le before = before (subst AllFit (sym (drop_all i es le)) tt)
