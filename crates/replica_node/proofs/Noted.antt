-- Files of a state, one after the other.
use Rattle.std.proofs.Common.{◌≡◌, ◌⊎◌, ℕ, zero, suc, ◌+◌, ◌<◌, Bool, true, false, List, [], ◌∷◌, ◌++◌, length, take, get_or, Some, cond, refl, sym, ap, subst, ◌∙◌, arith, inl, inr, true≢false, drop}
use Rattle.std.specs.Prelude.{Contains}
use Rattle.std.proofs.lemmas.List.{map-append, take-append-drop, take_more}
use Rattle.std.proofs.lemmas.List.Elements.{Contains-append_left, Contains-append_cases, Contains-push}
use Rattle.disk_model.specs.Disk.{Name, same}
use Rattle.disk_model.proofs.CellLemmas.{same_true}
use Rattle.file_deleter.specs.Holdings.{Holdings}
use Rattle.file_deleter.proofs.NameLemmas.{same_self}
use Rattle.copy_state.specs.declared.meta.FileMetaData.{FileMetaData}
use Rattle.copy_state.specs.States.{meta_names, meta_in}
use Rattle.replica_opening.specs.Known.{LearnsMeta}
use Rattle.replica_node.specs.Held.{held_metas, LearnsSome, LearnsAll}
use Rattle.replica_node.proofs.Metas.{held_more}

abbrev File : Type 0
File = Name × FileMetaData

-- one file more among those that are held
pub held_next : (known : List File) (holdings : Holdings) (files : List File) (i : ℕ) (d : File) (old new : List File) → i < length files → d ≡ get_or files i d → old ≡ held_metas known holdings (meta_names (take i files))
    → new ≡ old ++ held_metas known holdings (d.0 ∷ []) → new ≡ held_metas known holdings (meta_names (take (i + 1) files))
held_next known holdings files i d old new lt is was now =
    now ∙ ap (λ (ms : List File). ms ++ held_metas known holdings (d.0 ∷ [])) was
    ∙ sym (held_more known holdings (meta_names (take i files)) d.0)
    ∙ ap (held_metas known holdings) (ap (λ (x : File). meta_names (take i files) ++ x.0 ∷ []) is ∙ sym (map-append (λ (f : File). f.0) (take i files) (get_or files i d ∷ [])) ∙ ap meta_names (sym (take_more files i d lt)))

one_in : (x y : File) → Contains (x ∷ []) y → x ≡ y
one_in x y c = at c.0 c.1 c.2
  where
    at : (i : ℕ) → i < length (x ∷ []) → get_or (x ∷ []) i y ≡ y → x ≡ y
    at zero lt is = is
    at (suc i) lt is = absurd (omega (arith, lt))

-- one file more is noted
module _ (files : List File) (i : ℕ) (d : File) (before old new : List File) (lt : i < length files) (is : d ≡ get_or files i d) where
  here : take i files ++ d ∷ [] ≡ take (i + 1) files
  here = ap (λ (x : File). take i files ++ x ∷ []) is ∙ sym (take_more files i d lt)

  pub some_next : LearnsSome (take i files) before old → LearnsMeta d.0 d.1 old new → LearnsSome (take (i + 1) files) before new
  some_next was learns = subst (λ (fs : List File). LearnsSome fs before new) here (record { each = λ q. by q (same d.0 q) refl })
    where
      by : (q : Name) (b : Bool) → same d.0 q ≡ b → (meta_in new q ≡ meta_in before q) ⊎ ((meta : FileMetaData) × Contains (take i files ++ d ∷ []) (q, meta) × (meta_in new q ≡ Some meta))
      by q true e = inr (d.1, subst (λ (n : Name). Contains (take i files ++ d ∷ []) (n, d.1)) (same_true d.0 q e) (Contains-push (take i files) d), learns q ∙ ap (λ b. cond b (Some d.1) (meta_in old q)) e)
      by q false e = elim (was.each q) [
        | inl h ↦ inl (learns q ∙ ap (λ b. cond b (Some d.1) (meta_in old q)) e ∙ h)
        | inr h ↦ inr (h.0, Contains-append_left (take i files) (d ∷ []) (q, h.0) h.1, learns q ∙ ap (λ b. cond b (Some d.1) (meta_in old q)) e ∙ h.2)
      ]

  pub all_next : LearnsAll (take i files) old → LearnsMeta d.0 d.1 old new → LearnsAll (take (i + 1) files) new
  all_next was learns = subst (λ (fs : List File). LearnsAll fs new) here (record { each = λ q meta c. by q (same d.0 q) refl (Contains-append_cases (take i files) (d ∷ []) (q, meta) c) })
    where
      by : (q : Name) {meta : FileMetaData} (b : Bool) → same d.0 q ≡ b → Contains (take i files) (q, meta) ⊎ Contains (d ∷ []) (q, meta) → (other : FileMetaData) × Contains (take i files ++ d ∷ []) (q, other) × (meta_in new q ≡ Some other)
      by q true e c = (d.1, subst (λ (n : Name). Contains (take i files ++ d ∷ []) (n, d.1)) (same_true d.0 q e) (Contains-push (take i files) d), learns q ∙ ap (λ b. cond b (Some d.1) (meta_in old q)) e)
      by q {meta} false e (inl c) = let h = was.each q meta c in (h.0, Contains-append_left (take i files) (d ∷ []) (q, h.0) h.1, learns q ∙ ap (λ b. cond b (Some d.1) (meta_in old q)) e ∙ h.2)
      by q {meta} false e (inr c) = let name : d.0 ≡ q = ap (λ (f : File). f.0) (one_in d (q, meta) c) in absurd (true≢false (sym (ap (same d.0) (sym name) ∙ same_self d.0) ∙ e))

-- where the last file is not noted, what was noted of the others stays
pub some_stays : (files : List File) (i : ℕ) (before old new : List File) → i < length files → LearnsSome (take i files) before old → ((q : Name) → meta_in new q ≡ meta_in old q) → LearnsSome files before new
some_stays files i before old new lt was same_metas = record {
  each = λ q. elim (was.each q) [
    | inl h ↦ inl (same_metas q ∙ h)
    | inr h ↦ inr (h.0, front files i (q, h.0) h.1, same_metas q ∙ h.2)
  ];
}
  where
    front : (xs : List File) (k : ℕ) (f : File) → Contains (take k xs) f → Contains xs f
    front xs k f c = subst (λ (ys : List File). Contains ys f) (take-append-drop k xs) (Contains-append_left (take k xs) (drop k xs) f c)
