-- Files that are written one after another.
use Rattle.std.proofs.Common.{◌≡◌, ℕ, zero, suc, ◌+◌, ◌<◌, ◌≤◌, ◌||◌, Bool, true, false, List, [], ◌∷◌, ◌++◌, length, take, get_or, Result, Ok, refl, sym, ap, subst, ◌∙◌, arith, true≢false, All}
use Rattle.std.proofs.Math.Bool.{or-true}
use Rattle.std.proofs.lemmas.List.{take_more, take-map}
use Rattle.std.proofs.lemmas.List.Elements.{All-more}
use Rattle.disk_model.specs.Disk.{Name, Cells, same, is_among}
use Rattle.disk_model.specs.declared.dir.DirFault.{DirFault}
use Rattle.disk_model.proofs.CellLemmas.{same_true}
use Rattle.file_deleter.specs.Holdings.{Holdings, count_of, times}
use Rattle.file_deleter.specs.Moves.{KeepsFiles, Creates, LetsGo}
use Rattle.file_deleter.proofs.NameLemmas.{times-append, times_within, among_times, same_self}
use Rattle.file_deleter.proofs.Keeping.{keeps_within}
use Rattle.index_primary.specs.Written.{names_of, ReadsSo}
use Rattle.segment_steps.specs.Given.{File}

one_within : (w : List Name) (name : Name) → is_among w name ≡ true → (q : Name) → is_among w q ≡ false → is_among (name ∷ []) q ≡ false
one_within w name there q out = by (same name q) refl
  where
    by : (b : Bool) → same name q ≡ b → (same name q || false) ≡ false
    by true e = absurd (true≢false (sym there ∙ ap (λ (k : Name). is_among w k) (same_true name q e) ∙ out))
    by false e = ap (λ b. b || false) e

-- the name of the file at a place
pub among_at : (made : List File) (i : ℕ) (d : File) → i < length made → is_among (names_of made) (get_or made i d).0 ≡ true
among_at [] i d lt = absurd (omega (arith, lt))
among_at (x ∷ xs) zero d lt = ap (λ b. b || is_among (names_of xs) x.0) (same_self x.0)
among_at (x ∷ xs) (suc i) d lt = ap (λ b. same x.0 (get_or xs i d).0 || b) (among_at xs i d (omega (arith, lt))) ∙ or-true (same x.0 (get_or xs i d).0)

name_at : (made : List File) (i : ℕ) (d : File) (n : Name) → i < length made → get_or (names_of made) i n ≡ (get_or made i d).0
name_at [] i d n lt = absurd (omega (arith, lt))
name_at (x ∷ xs) zero d n lt = refl
name_at (x ∷ xs) (suc i) d n lt = name_at xs i d n (omega (arith, lt))

length_names : (made : List File) → length (names_of made) ≡ length made
length_names [] = refl
length_names (x ∷ xs) = let e : length (names_of xs) ≡ length xs = length_names xs in omega (arith, e)

module _ (made : List File) (i : ℕ) (f : File) (lt : i < length made) (is : f ≡ get_or made i f) where
  there : is_among (names_of made) f.0 ≡ true
  there = ap (λ (x : File). is_among (names_of made) x.0) is ∙ among_at made i f lt

  named : get_or (names_of made) i f.0 ≡ f.0
  named = name_at made i f f.0 lt ∙ sym (ap (λ (x : File). x.0) is)

  lt_names : i < length (names_of made)
  lt_names = omega (arith, lt, length_names made)

  -- the next name is not counted yet
  pub free_at : (old mid : Holdings) → ((q : Name) → is_among (names_of made) q ≡ true → count_of old q ≡ 0) → ((q : Name) → times (names_of made) q ≤ 1)
      → ((q : Name) → count_of mid q ≡ count_of old q + times (take i (names_of made)) q) → count_of mid f.0 ≡ 0
  free_at old mid fresh once counts =
      let w : times (take i (names_of made)) f.0 + 1 ≤ times (names_of made) f.0 = subst (λ (y : Name). times (take i (names_of made)) y + 1 ≤ times (names_of made) y) named (times_within (names_of made) i f.0 lt_names) in
      omega (arith, w, fresh f.0 there, once f.0, counts f.0)

  times_more : (q : Name) → times (take (i + 1) (names_of made)) q ≡ times (take i (names_of made)) q + times (f.0 ∷ []) q
  times_more q = ap (λ (ns : List Name). times ns q) (take_more (names_of made) i f.0 lt_names) ∙ ap (λ (y : Name). times (take i (names_of made) ++ y ∷ []) q) named
      ∙ times-append (take i (names_of made)) (f.0 ∷ []) q

  -- one more file is written
  pub counts_more : (old mid new : Holdings) → ((q : Name) → count_of mid q ≡ count_of old q + times (take i (names_of made)) q) → ((q : Name) → count_of new q ≡ count_of mid q + times (f.0 ∷ []) q)
      → (q : Name) → count_of new q ≡ count_of old q + times (take (i + 1) (names_of made)) q
  counts_more old mid new sofar one q = omega (arith, sofar q, one q, times_more q)

  pub keeps_more : {r : Result (Unit {0}) DirFault} (old mid new : Holdings) (a b c : Cells) → ((q : Name) → count_of mid q ≡ count_of old q + times (take i (names_of made)) q)
      → KeepsFiles (names_of made) old mid a b → Creates f.0 f.1 mid new b c r → KeepsFiles (names_of made) old new a c
  keeps_more old mid new a b c sofar x create = keeps_within (names_of made) (f.0 ∷ []) old mid new a b c x create.keeps (one_within (names_of made) f.0 there) (λ q had has. omega (arith, had, sofar q))

  pub reads_more : (old mid new : Holdings) (b c : Cells) → Creates {T = Unit {0}} {E = DirFault} f.0 f.1 mid new b c (Ok tt)
      → ((q : Name) → count_of mid q ≡ count_of old q + times (take i (names_of made)) q) → All (ReadsSo b) (take i made) → All (ReadsSo c) (take (i + 1) made)
  reads_more old mid new b c create counts reads = All-more (ReadsSo c) made i f lt
      (λ k d below.
      let x : File = get_or (take i made) k d in
      let held : is_among (take i (names_of made)) x.0 ≡ true = ap (λ (ns : List Name). is_among ns x.0) (take-map (λ (y : File). y.0) i made) ∙ among_at (take i made) k d below in
      let m : 0 < count_of mid x.0 = omega (arith, among_times (take i (names_of made)) x.0 held, counts x.0) in
      let n : 0 < count_of new x.0 = omega (arith, m, create.counts x.0) in
      create.keeps.reads x.0 m n ∙ reads k d below)
      (subst (λ (x : File). ReadsSo c x) is create.reads)

-- what was written is given back
pub keeps_back : (names part : List Name) (old mid new : Holdings) (a b c : Cells) → ((q : Name) → count_of mid q ≡ count_of old q + times part q) → KeepsFiles names old mid a b
    → LetsGo part mid new b c → KeepsFiles names old new a c
keeps_back names part old mid new a b c sofar x back = keeps_within names [] old mid new a b c x back.keeps (λ q out. refl) (λ q had has. omega (arith, had, sofar q))
