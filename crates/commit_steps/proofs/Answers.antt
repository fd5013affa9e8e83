-- Files that are there are not missing.
use Rattle.std.proofs.Common.{◌≡◌, zero, suc, true, List, [], ◌∷◌, None, is_some, refl, sym, ap, subst, ◌∙◌, arith, true≢false, Result, Err, ◌↔◌}
use Rattle.std.specs.Prelude.{IsSome, Any}
use Rattle.disk_model.specs.Disk.{Name, Cells, after_rename}
use Rattle.disk_model.specs.declared.dir.DirFault.{DirFault}
use Rattle.disk_model.specs.declared.dir.DirFault.TheVariants.{Memory, Missing, Exists, Failed}
use Rattle.disk_model.specs.Faults.{IsMemoryOrFailed}
use Rattle.commit_steps.specs.declared.states.CommitFault.{CommitFault}
use Rattle.commit_steps.specs.Flights.{fault_of}
use Rattle.file_deleter.specs.Holdings.{AreThere, IsThere}

not_both : (cells : Cells) (q : Name) → is_some (cells q).now ≡ true → (cells q).now ≡ None → ⊥
not_both cells q some none = true≢false (sym some ∙ ap is_some none)

pub there_not_missing : (cells : Cells) (names : List Name) → AreThere cells names → Any (λ q. (cells q).now ≡ None) names → ⊥
there_not_missing cells names there (k, x, lt, at, none) = not_both cells x (subst (IsThere cells) at (there.each k x lt)) none

pub one_not_missing : (cells : Cells) (q : Name) → IsSome (cells q).now → Any (λ x. (cells x).now ≡ None) (q ∷ []) → ⊥
one_not_missing cells q some (zero, x, lt, at, none) = not_both cells q some (ap (λ (n : Name). (cells n).now) at ∙ none)
one_not_missing cells q some (suc k, x, lt, at, none) = absurd (omega (arith, lt))

-- ---- faults that can't come
pub write_fault : (cells : Cells) (name pending : Name) (e : DirFault) → name ≡ pending → (cells pending).now ≡ None
    → (◌≡◌ {A = Result (Unit {0}) DirFault} (Err e) (Err Missing) → ⊥) → (◌≡◌ {A = Result (Unit {0}) DirFault} (Err e) (Err Exists) ↔ IsSome (cells name).now) → IsMemoryOrFailed e
write_fault cells name pending Memory is none missing exists = tt
write_fault cells name pending Failed is none missing exists = tt
write_fault cells name pending Missing is none missing exists = absurd (missing refl)
write_fault cells name pending Exists is none missing exists = absurd (not_both cells name (exists.0 refl) (ap (λ (n : Name). (cells n).now) is ∙ none))

pub rename_fault : (cells : Cells) (a b pending own : Name) (e : DirFault) → a ≡ pending → b ≡ own → IsSome (cells pending).now → (cells own).now ≡ None
    → (◌≡◌ {A = Result (Unit {0}) DirFault} (Err e) (Err Missing) ↔ ((cells a).now ≡ None))
    → (◌≡◌ {A = Result (Unit {0}) DirFault} (Err e) (Err Exists) ↔ (IsSome (cells a).now × IsSome (cells b).now)) → IsMemoryOrFailed e
rename_fault cells a b pending own Memory a_is b_is there none missing exists = tt
rename_fault cells a b pending own Failed a_is b_is there none missing exists = tt
rename_fault cells a b pending own Missing a_is b_is there none missing exists = absurd (not_both cells pending there (sym (ap (λ (n : Name). (cells n).now) a_is) ∙ missing.0 refl))
rename_fault cells a b pending own Exists a_is b_is there none missing exists = absurd (not_both cells b (exists.0 refl).1 (ap (λ (n : Name). (cells n).now) b_is ∙ none))

pub renamed_cells : (before after : Cells) (a b pending own : Name) (e : DirFault) (f : CommitFault) → after ≡ after_rename {T = Unit {0}} before a b (Err e) → a ≡ pending → b ≡ own → fault_of f ≡ e
    → after ≡ after_rename {T = Unit {0}} before pending own (Err (fault_of f))
renamed_cells before after a b pending own e f call a_is b_is is =
    call ∙ ap (λ (n : Name). after_rename {T = Unit {0}} before n b (Err e)) a_is ∙ ap (λ (n : Name). after_rename {T = Unit {0}} before pending n (Err e)) b_is
    ∙ ap (λ (x : DirFault). after_rename {T = Unit {0}} before pending own (Err x)) (sym is)
