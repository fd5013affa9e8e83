-- The files that a job lacks, and their metadata.
use Rattle.std.proofs.Common.{◌≡◌, ◌≤◌, ◌<◌, ◌+◌, ℕ, zero, suc, Bool, true, false, true≢false, List, [], ◌∷◌, Some, None, Option, Result, Ok, Err, length, drop, filter, not, ◌||◌, get_or, slice_get, refl, ap, ◌∙◌, sym, subst, arith, if◌then◌else◌}
use Rattle.std.specs.Prelude.{IfOk, IsSomeAnd}
use Rattle.std.proofs.lemmas.Option.{none-some}
use Rattle.disk_model.specs.Disk.{Name, same, is_among}
use Rattle.disk_model.proofs.CellLemmas.{same_true}
use Rattle.file_deleter.specs.Holdings.{times}
use Rattle.file_deleter.proofs.NameLemmas.{same_self, times-cons, among_times}
use Rattle.copy_state.specs.declared.meta.FileMetaData.{FileMetaData}
use Rattle.copy_state.specs.States.{meta_in}
use Rattle.copy_job.specs.Jobs.{Job, IsJob}
use Rattle.replica_node.specs.declared.job.PointJob.{PointJob}
use Rattle.replica_node.specs.Jobs.{running_point}
use Rattle.replica_node.proofs.Metas.{some_meta}
use Rattle.replica_node.proofs.Lent.{RunsHere}
use Rattle.cluster_nodes.specs.JobChanges.{IsNextFile, IsNextToFetch}

pub first_counted : (names : List Name) (q : Name) → Some q ≡ slice_get names 0 → 0 < times names q
first_counted [] q is = absurd (cc)
first_counted (x ∷ xs) q is =
    let e : q ≡ x = cc in
    let one : (if same x q then 1 else 0) ≡ 1 = ap (λ (b : Bool). let k : ℕ = if b then 1 else 0 in k) (ap (same x) e ∙ same_self x) in
    let all : times (x ∷ xs) q ≡ (if same x q then 1 else 0) + times xs q = times-cons x xs q in
    omega (arith, one, all)

first_of : (names : List Name) (q : Name) → Some q ≡ slice_get names 0 → (rest : List Name) × (names ≡ q ∷ rest)
first_of [] q is = absurd (cc)
first_of (x ∷ xs) q is = let e : x ≡ q = cc in (xs, ap (λ (y : Name). y ∷ xs) e)

-- the names without one that is not among them
pub none_struck : (names : List Name) (q : Name) → is_among names q ≡ false → names ≡ filter (λ x. not (same x q)) names
none_struck [] q none = refl
none_struck (x ∷ xs) q none = by (none_struck xs q) (same x q) refl none
  where
    by : (is_among xs q ≡ false → xs ≡ filter (λ y. not (same y q)) xs) → (b : Bool) → same x q ≡ b → (b || is_among xs q) ≡ false → x ∷ xs ≡ filter (λ y. not (same y q)) (x ∷ xs)
    by more true e none = absurd (true≢false none)
    by more false e none =
        ap (λ (ys : List Name). x ∷ ys) (more none) ∙ sym (ap (λ (b : Bool). if not b then x ∷ filter (λ y. not (same y q)) xs else filter (λ y. not (same y q)) xs) e)

-- a file that a job lacks is one that it wants
pub wanted_meta : (j : Job) (q : Name) → IsJob j → 0 < times j.missing q → (meta : FileMetaData) × (meta_in j.want.files q ≡ Some meta)
wanted_meta j q is some = some_meta j.want.files q (let all = is.each q in omega (arith, some, all))

-- ---- a walk over files

turned : (a b : Name) → same a b ≡ true → same b a ≡ true
turned a b is = ap (λ (n : Name). same b n) (same_true a b is) ∙ same_self b

apart : (a b : Name) → same a b ≡ false → same b a ≡ false
apart a b is = tests (same b a) refl
  where
    tests : (t : Bool) → same b a ≡ t → same b a ≡ false
    tests true here = absurd (true≢false (sym (turned b a here) ∙ is))
    tests false here = here

pub meta_here : (files : List (Name × FileMetaData)) (i : ℕ) (f : Name × FileMetaData) (q : Name) → i < length files → f ≡ get_or files i f → same f.0 q ≡ true → meta_in (drop i files) q ≡ Some f.1
meta_here [] i f q lt is here = absurd (omega (arith, lt))
meta_here (x ∷ xs) zero f q lt is here =
    let e : f ≡ x = is in
    ap (λ (b : Bool). if b then Some x.1 else meta_in xs q) (turned x.0 q (ap (λ (y : Name × FileMetaData). same y.0 q) (sym e) ∙ here)) ∙ ap (λ (y : Name × FileMetaData). Some y.1) (sym e)
meta_here (x ∷ xs) (suc i) f q lt is here = meta_here xs i f q (omega (arith, lt)) is here

past : (files : List (Name × FileMetaData)) (i : ℕ) (f : Name × FileMetaData) (q : Name) → i < length files → f ≡ get_or files i f → same f.0 q ≡ false → meta_in (drop (suc i) files) q ≡ meta_in (drop i files) q
past [] i f q lt is other = absurd (omega (arith, lt))
past (x ∷ xs) zero f q lt is other =
    let e : f ≡ x = is in
    sym (ap (λ (b : Bool). if b then Some x.1 else meta_in xs q) (apart x.0 q (ap (λ (y : Name × FileMetaData). same y.0 q) (sym e) ∙ other)))
past (x ∷ xs) (suc i) f q lt is other = past xs i f q (omega (arith, lt)) is other

pub meta_past : (files : List (Name × FileMetaData)) (i : ℕ) (f : Name × FileMetaData) (q : Name) → i < length files → f ≡ get_or files i f → same f.0 q ≡ false → meta_in (drop (i + 1) files) q ≡ meta_in (drop i files) q
meta_past files i f q lt is other =
    let next : suc i ≡ i + 1 = omega arith in
    subst (λ (k : ℕ). meta_in (drop k files) q ≡ meta_in (drop i files) q) next (past files i f q lt is other)

pub meta_end : (files : List (Name × FileMetaData)) (i : ℕ) (q : Name) → length files ≤ i → None ≡ meta_in (drop i files) q
meta_end [] zero q low = refl
meta_end [] (suc i) q low = refl
meta_end (x ∷ xs) zero q low = absurd (omega (arith, low))
meta_end (x ∷ xs) (suc i) q low = meta_end xs i q (omega (arith, low))

-- a part that a job lacks has the metadata that is wanted of it, where that is of these bytes
pub part_wanted : (c : Job) (q : Name) (meta : FileMetaData) → IsJob c → is_among c.missing q ≡ true → ((m : FileMetaData) → meta_in c.want.files q ≡ Some m → m ≡ meta) → meta_in c.want.files q ≡ Some meta
part_wanted c q meta job lacks wanted =
    let m = wanted_meta c q job (among_times c.missing q lacks) in
    m.1 ∙ ap Some (wanted m.0 m.1)

-- the metadata of the first file that a job lacks is there
pub first_meta : (j : Job) (names : List Name) (files : List (Name × FileMetaData)) (q : Name) → IsJob j → names ≡ j.missing → Some q ≡ slice_get names 0 → files ≡ j.want.files → None ≡ meta_in files q → ⊥
first_meta j names files q job are first same none =
    let counted : 0 < times j.missing q = first_counted j.missing q (first ∙ ap (λ (xs : List Name). slice_get xs 0) are) in
    let m = wanted_meta j q job counted in
    none-some m.0 (none ∙ (ap (λ (fs : List (Name × FileMetaData)). meta_in fs q) same ∙ m.1))

pub first_next : (j : Job) (names : List Name) (files : List (Name × FileMetaData)) (q : Name) (meta copy : FileMetaData) → names ≡ j.missing → Some q ≡ slice_get names 0 → files ≡ j.want.files → Some meta ≡ meta_in files q → copy ≡ meta
    → (rest : List Name) × (j.missing ≡ q ∷ rest) × (meta_in j.want.files q ≡ Some copy)
first_next j names files q meta copy are first same is shared =
    let front = first_of names q first in (
      front.0,
      sym are ∙ front.1,
      sym (is ∙ ap (λ (fs : List (Name × FileMetaData)). meta_in fs q) same) ∙ ap Some (sym shared),
    )

-- the next file of the job that a replica lends
pub next_lent : {E : Type 0} (o : Option PointJob) (c : Job) (result : Result (Option (Name × FileMetaData)) E) → RunsHere c o → IfOk result (IsNextToFetch c) → IfOk result (λ file. IsSomeAnd (running_point o) (λ j. IsNextFile j file))
next_lent o c (Ok file) is next = subst (λ (x : Option PointJob). IsSomeAnd x (λ j. IsNextFile j file)) (sym is.point) (subst (λ (k : Job). IsNextToFetch k file) is.copy next)
next_lent o c (Err fault) is next = tt
