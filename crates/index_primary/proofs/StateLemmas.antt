use Rattle.std.proofs.Common.{◌≡◌, ℕ, suc, ◌+◌, ◌<◌, ◌≤◌, Bool, true, false, if◌then◌else◌, List, [], ◌∷◌, ◌++◌, length, Some, refl, sym, ap, subst, ◌∙◌, arith, true≢false, slice_get, take, get_or, All, ◌&&◌}
use Rattle.std.specs.List.{remove}
use Rattle.std.proofs.lemmas.List.{take_more, map-append}
use Rattle.std.proofs.lemmas.List.Elements.{All-push}
use Rattle.std.specs.Cmp.Lexicographic.{pointwise}
use Rattle.std.proofs.lemmas.Bool.{eq-eqb}
use Rattle.disk_model.specs.Disk.{reads_of, same, Name, Cells}
use Rattle.copy_state.specs.declared.meta.FileMetaData.{FileMetaData}
use Rattle.file_deleter.specs.Holdings.{Holdings, count_of, times, AreCounted}
use Rattle.file_deleter.specs.Moves.{HoldsFiles, LetsGo, MovesCounts}
use Rattle.searcher_switch.specs.Node.{AddsOnly}
use Rattle.file_deleter.proofs.Keeping.{moves_held, moves_released}
use Rattle.file_deleter.proofs.NameLemmas.{times-append, same_self}
use Rattle.index_primary.specs.declared.states.Out.{Out}
use Rattle.index_primary.specs.States.{same_out, state_place, states_without, is_out, state_names, TakesOut, IsMetaIn}
use Rattle.copy_state.specs.States.{meta_names}

same_names : (names : List Name) → pointwise same names names ≡ true
same_names [] = refl
same_names (q ∷ names) = ap (λ (b : Bool). b && pointwise same names names) (same_self q) ∙ same_names names

-- a state is like itself
pub same_out_self : (s : Out) → same_out s s ≡ true
same_out_self s = ap (λ (b : Bool). b && pointwise same s.names s.names) (eq-eqb s.version.0 s.version.0 refl) ∙ same_names s.names

pub record StatesAt (s : Out) (ts : List Out) : Type 0 where
  pub within : state_place s ts < length ts
  pub rest : remove ts (state_place s ts) ≡ states_without s ts
  pub names : (t : Out) → Some t ≡ slice_get ts (state_place s ts) → TakesOut t ts (states_without s ts)

pub states_at : (s : Out) (ts : List Out) → is_out s ts ≡ true → StatesAt s ts
states_at s [] h = absurd (true≢false (sym h))
states_at s (t ∷ ts) h = let all = by (states_at s ts) (same_out s t) h in record { within = all.0; rest = all.1; names = all.2 }
  where
    by : (is_out s ts ≡ true → StatesAt s ts) → (b : Bool) → (if b then true else is_out s ts) ≡ true
        → ((if b then 0 else suc (state_place s ts)) < length (t ∷ ts)) × (remove (t ∷ ts) (if b then 0 else suc (state_place s ts)) ≡ (if b then ts else t ∷ states_without s ts))
        × ((x : Out) → Some x ≡ slice_get (t ∷ ts) (if b then 0 else suc (state_place s ts)) → TakesOut x (t ∷ ts) (if b then ts else t ∷ states_without s ts))
    by more true h = (
      omega arith,
      refl,
      λ x at. record {
        names = λ q. let is : x ≡ t = cc in let n : times x.names q ≡ times t.names q = ap (λ (y : Out). times y.names q) is in
            let a : times (t.names ++ state_names ts) q ≡ times t.names q + times (state_names ts) q = times-append t.names (state_names ts) q in omega (arith, a, n);
      },
    )
    by more false h = let m : StatesAt s ts = more h in let lt : state_place s ts < length ts = m.within in (
      omega (arith, lt),
      ap (λ (l : List Out). t ∷ l) m.rest,
      λ x at. record {
        names = λ q.
            let a : times (t.names ++ state_names ts) q ≡ times t.names q + times (state_names ts) q = times-append t.names (state_names ts) q in
            let b : times (t.names ++ state_names (states_without s ts)) q ≡ times t.names q + times (state_names (states_without s ts)) q = times-append t.names (state_names (states_without s ts)) q in
            let n : times (state_names ts) q ≡ times (state_names (states_without s ts)) q + times x.names q = (m.names x at).names q in omega (arith, a, b, n);
      },
    )

pub names-push : (ts : List Out) (t : Out) (q : Name) → times (state_names (ts ++ t ∷ [])) q ≡ times (state_names ts) q + times t.names q
names-push [] t q = times-append t.names [] q ∙ grind arith
names-push (x ∷ ts) t q =
    let a : times (x.names ++ state_names (ts ++ t ∷ [])) q ≡ times x.names q + times (state_names (ts ++ t ∷ [])) q = times-append x.names (state_names (ts ++ t ∷ [])) q in
    let b : times (x.names ++ state_names ts) q ≡ times x.names q + times (state_names ts) q = times-append x.names (state_names ts) q in
    omega (arith, a, b, names-push ts t q)

pub moves_out : (ss states : List Out) (s : Out) (names : List Name) (old new : Holdings) (cells : Cells) → HoldsFiles names old new cells → states ≡ ss ++ s ∷ [] → s.names ≡ names → MovesCounts [] (state_names ss) (state_names states) old new cells cells
moves_out ss states s names old new cells h is at = moves_held names (state_names ss) (state_names states) old new cells h
    (λ q. let e : times (state_names states) q ≡ times (state_names (ss ++ s ∷ [])) q = ap (λ (l : List Out). times (state_names l) q) is in
    let f : times s.names q ≡ times names q = ap (λ (l : List Name). times l q) at in omega (arith, e, f, names-push ss s q))

pub only_out : (ss states : List Out) (s : Out) (names : List Name) → states ≡ ss ++ s ∷ [] → s.names ≡ names → AddsOnly names (state_names ss) (state_names states)
only_out ss states s names is at = record {
  each = λ q none nil.
      let e : times (state_names states) q ≡ times (state_names (ss ++ s ∷ [])) q = ap (λ (l : List Out). times (state_names l) q) is in
      let f : times s.names q ≡ times names q = ap (λ (l : List Name). times l q) at in omega (arith, none, nil, e, f, names-push ss s q);
}

pub only_back : (s : Out) (ss states : List Out) → TakesOut s ss states → AddsOnly [] (state_names ss) (state_names states)
only_back s ss states t = record { each = λ q none nil. omega (arith, none, t.names q) }

pub moves_back : (s : Out) (ss states : List Out) (names : List Name) (old new : Holdings) (before after : Cells) → LetsGo names old new before after
    → names ≡ s.names → TakesOut s ss states → MovesCounts [] (state_names ss) (state_names states) old new before after
moves_back s ss states names old new before after r named t = moves_released names (state_names ss) (state_names states) old new before after r
    (λ q. let f : times names q ≡ times s.names q = ap (λ (l : List Name). times l q) named in omega (arith, f, t.names q))

pub back_counted : (s : Out) (ss states : List Out) (names : List Name) (es : Holdings) → AreCounted (state_names ss) es → names ≡ s.names → TakesOut s ss states → (q : Name) → times names q ≤ count_of es q
back_counted s ss states names es counted named t q = let f : times names q ≡ times s.names q = ap (λ (l : List Name). times l q) named in omega (arith, f, t.names q, counted.each q)

-- ---- the metadata of files, one after another
abbrev Meta : Type 0
Meta = List ℕ × FileMetaData

pub names_more : (names : List Name) (i : ℕ) (x : Name) (files more : List Meta) (f : Meta) → i < length names → x ≡ get_or names i x → meta_names files ≡ take i names → more ≡ files ++ f ∷ [] → f.0 ≡ x
    → meta_names more ≡ take (i + 1) names
names_more names i x files more f lt is sofar e named =
    ap meta_names e ∙ map-append (λ (y : Meta). y.0) files (f ∷ []) ∙ ap (λ (ns : List Name). ns ++ f.0 ∷ []) sofar ∙ ap (λ (n : Name). take i names ++ n ∷ []) (named ∙ is) ∙ sym (take_more names i x lt)

pub metas_more : (before mid : Cells) (files more : List Meta) (f : Meta) → All (IsMetaIn (reads_of before)) files → more ≡ files ++ f ∷ [] → mid ≡ before → IsMetaIn (reads_of mid) f → All (IsMetaIn (reads_of before)) more
metas_more before mid files more f sofar e same one = subst (λ (fs : List Meta). All (IsMetaIn (reads_of before)) fs) (sym e)
    (All-push (IsMetaIn (reads_of before)) files f sofar (subst (λ (k : Cells). IsMetaIn (reads_of k) f) same one))
