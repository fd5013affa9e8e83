-- What is held of the files of a state.
use Rattle.replica_node.proofs.Lasting.{listed_lasts}
use Rattle.std.proofs.Common.{◌≡◌, ◌≢◌, ◌==◌, ℕ, zero, suc, ◌+◌, ◌<◌, Bool, true, false, List, [], ◌∷◌, ◌++◌, Option, Some, None, cond, is_some, is_none, refl, sym, ap, subst, ◌∙◌, arith, get_or, length}
use Rattle.std.specs.Prelude.{Contains, filter, IsSomeAnd}
use Rattle.std.specs.List.{All}
use Rattle.std.specs.List.Sorted.{IsStrictlySortedBy}
use Rattle.std.specs.Ordering.{nat_cmp}
use Rattle.std.specs.Cmp.Lexicographic.{slice_cmp}
use Rattle.std.proofs.Math.Dec.{ltb as nat_lt}
use Rattle.std.proofs.lemmas.Bool.Decides.{nat_tests}
use Rattle.std.proofs.lemmas.List.Kept.{IsStrictlySortedBy-filter}
use Rattle.std.proofs.lemmas.List.Elements.{Contains-get_or}
use Rattle.std.proofs.lemmas.Option.{same_Some}
use Rattle.disk_model.specs.Disk.{Name, Content}
use Rattle.file_deleter.specs.Holdings.{Holdings, count_of, times}
use Rattle.file_deleter.proofs.NameLemmas.{times-append, times-cons, among_times, among_first}
use Rattle.segment_infos.specs.declared.infos.Infos.{Infos}
use Rattle.segment_infos.specs.Files.{AreFilesOf}
use Rattle.commit_steps.proofs.Safe.{among_of}
use Rattle.copy_state.specs.declared.meta.FileMetaData.{FileMetaData}
use Rattle.copy_state.specs.declared.state.CopyState.{CopyState}
use Rattle.copy_state.specs.States.{meta_names, meta_in}
use Rattle.copy_job.specs.declared.fault.JobFault.{JobFault}
use Rattle.copy_job.specs.declared.fault.JobFault.TheVariants.{Memory, LinkFailed, Damaged, DirFailed, NameClash}
use Rattle.copy_job.specs.Jobs.{unheld_names, held_names, AreAgreed, HasClash, IsBeginningFault}
use Rattle.replica_opening.specs.Known.{HasMeta, KnowsHeld}
use Rattle.replica_node.specs.Held.{held_metas}
use Rattle.replica_node.specs.Jobs.{Agrees, IsStartingFault}
use Rattle.replica_node.proofs.Named.{some_among}
use Rattle.replica_node.proofs.Metas.{held_in, held_names_are, is_held, same_filter, same_meta}

-- ---- names in lists
pub at_some : (names : List Name) (k : ℕ) (d : Name) → k < length names → 0 < times names (get_or names k d)
at_some names k d lt = among_times names (get_or names k d) (among_of names (get_or names k d) (Contains-get_or names k d lt))

-- a number is zero, or above it, as the tests say
pub zero_test : (n : ℕ) → (n == 0) ≡ true → n ≡ 0
zero_test n e = grind (arith, nat_tests, e)

pub some_test : (n : ℕ) → (n == 0) ≡ false → 0 < n
some_test n e = grind (arith, nat_tests, e)

pub test_some : (n : ℕ) → 0 < n → (n == 0) ≡ false
test_some n some = grind (arith, nat_tests, some)

pub above_test : (n : ℕ) → nat_lt 0 n ≡ true → 0 < n
above_test n e = grind (arith, nat_tests, e)

pub test_above : (n : ℕ) → 0 < n → nat_lt 0 n ≡ true
test_above n some = grind (arith, nat_tests, some)

pub test_zero : (n : ℕ) → (n == 0) ≡ true → nat_lt 0 n ≡ false
test_zero n e = grind (arith, nat_tests, e)

-- ---- what is held of a state's files
module _ (reads : Name → Content) (holdings : Holdings) (known : List (Name × FileMetaData)) (knows : KnowsHeld reads holdings known) (infos : Infos) (names : List Name) (are : AreFilesOf infos names) where
  -- what is found of a file that is held is what is known
  held_found : (q : Name) → 0 < times names q → 0 < count_of holdings q → meta_in (held_metas known holdings names) q ≡ meta_in known q
  held_found q named some = held_in known holdings names q
      ∙ ap (λ b. cond b (cond (count_of holdings q == 0) None (meta_in known q)) None) (some_among names q named) ∙ ap (λ b. cond b None (meta_in known q)) (test_some (count_of holdings q) some)

  not_held_found : (q : Name) → 0 < times names q → (count_of holdings q == 0) ≡ true → meta_in (held_metas known holdings names) q ≡ None
  not_held_found q named none = held_in known holdings names q
      ∙ ap (λ b. cond b (cond (count_of holdings q == 0) None (meta_in known q)) None) (some_among names q named) ∙ ap (λ b. cond b None (meta_in known q)) none

  -- a name is found exactly where it is held
  tests : (q : Name) → 0 < times names q → is_some (meta_in (held_metas known holdings names) q) ≡ nat_lt 0 (count_of holdings q)
  tests q named = by (count_of holdings q == 0) refl
    where
      by : (b : Bool) → (count_of holdings q == 0) ≡ b → is_some (meta_in (held_metas known holdings names) q) ≡ nat_lt 0 (count_of holdings q)
      by true e = ap is_some (not_held_found q named e) ∙ sym (test_zero (count_of holdings q) e)
      by false e =
          let some : 0 < count_of holdings q = some_test (count_of holdings q) e in
          let k = knows.each q (listed_lasts infos names are q named) some in
          ap is_some (held_found q named some ∙ k.known_is) ∙ sym (test_above (count_of holdings q) some)

  none_tests : (q : Name) → 0 < times names q → is_none (meta_in (held_metas known holdings names) q) ≡ (count_of holdings q == 0)
  none_tests q named = by (count_of holdings q == 0) refl
    where
      by : (b : Bool) → (count_of holdings q == 0) ≡ b → is_none (meta_in (held_metas known holdings names) q) ≡ (count_of holdings q == 0)
      by true e = ap is_none (not_held_found q named e) ∙ sym e
      by false e =
          let some : 0 < count_of holdings q = some_test (count_of holdings q) e in
          let k = knows.each q (listed_lasts infos names are q named) some in
          ap is_none (held_found q named some ∙ k.known_is) ∙ sym e

  pub missing_are : unheld_names (held_metas known holdings names) names ≡ filter (λ q. count_of holdings q == 0) names
  missing_are = same_filter (λ q. is_none (meta_in (held_metas known holdings names) q)) (λ q. count_of holdings q == 0) names none_tests

  pub reused_are : held_names (held_metas known holdings names) names ≡ filter (λ q. nat_lt 0 (count_of holdings q)) names
  reused_are = same_filter (λ q. is_some (meta_in (held_metas known holdings names) q)) (λ q. nat_lt 0 (count_of holdings q)) names tests

  pub held_ascend : IsStrictlySortedBy (slice_cmp nat_cmp) (meta_names (held_metas known holdings names))
  held_ascend = subst (IsStrictlySortedBy (slice_cmp nat_cmp)) (sym (held_names_are known holdings names)) (IsStrictlySortedBy-filter (slice_cmp nat_cmp) (is_held known holdings) names are.ascending)

  -- a file that has no clash agrees
  pub agrees : (f : Name × FileMetaData) → 0 < times names f.0 → ¬ HasClash (held_metas known holdings names) f → Agrees reads holdings f
  agrees f named no_clash some =
      let k = knows.each f.0 (listed_lasts infos names are f.0 named) some in
      let found : meta_in (held_metas known holdings names) f.0 ≡ Some k.meta = held_found f.0 named some ∙ k.known_is in
      let same : k.meta ≡ f.1 = same_meta k.meta f.1 (λ other. no_clash (subst (λ (o : Option FileMetaData). IsSomeAnd o (λ ours. ours ≢ f.1)) (sym found) other)) in
      subst (HasMeta reads f.0) same k.has

  pub all_agree : (files : List (Name × FileMetaData)) → ((q : Name) → 0 < times (meta_names files) q → 0 < times names q) → AreAgreed (held_metas known holdings names) files → All (Agrees reads holdings) files
  all_agree files within agreed = λ k d lt. agrees (get_or files k d) (within (get_or files k d).0 (name_some files k d lt)) (agreed k d lt)
    where
      name_some : (xs : List (Name × FileMetaData)) (k : ℕ) (d : Name × FileMetaData) → k < length xs → 0 < times (meta_names xs) (get_or xs k d).0
      name_some [] k d lt = absurd (omega (arith, lt))
      name_some (x ∷ xs) zero d lt = let here : 0 < times (x.0 ∷ meta_names xs) x.0 = among_times (x.0 ∷ meta_names xs) x.0 (among_first x.0 (meta_names xs)) in here
      name_some (x ∷ xs) (suc k) d lt = let rest : 0 < times (meta_names xs) (get_or xs k d).0 = name_some xs k d (omega (arith, lt)) in omega (arith, rest, times-cons x.0 (meta_names xs) (get_or xs k d).0)

  -- why none begins
  pub starting : (files : List (Name × FileMetaData)) → meta_names files ≡ names → (fault : JobFault) → IsBeginningFault (held_metas known holdings names) files fault → IsStartingFault reads holdings files fault
  starting files e Memory h = tt
  starting files e LinkFailed h = absurd h
  starting files e (Damaged name want found) h = absurd h
  starting files e DirFailed h = absurd h
  starting files e (NameClash name ours theirs) h =
      let whole : meta_names files ≡ meta_names h.front ++ name ∷ meta_names h.rest = ap meta_names h.files_are ∙ map_append h.front ((name, theirs) ∷ h.rest) in
      let count : (q : Name) → times names q ≡ times (meta_names h.front) q + times (name ∷ meta_names h.rest) q =
      (λ q. ap (λ (ns : List Name). times ns q) (sym e ∙ whole) ∙ times-append (meta_names h.front) (name ∷ meta_names h.rest) q) in
      let here : 0 < times (name ∷ meta_names h.rest) name = among_times (name ∷ meta_names h.rest) name (among_first name (meta_names h.rest)) in
      let named : 0 < times names name = omega (arith, here, count name) in
      let some : 0 < count_of holdings name = above_test (count_of holdings name) (sym (tests name named) ∙ ap is_some h.found) in
      let k = knows.each name (listed_lasts infos names are name named) some in
      let known_ours : ◌≡◌ {A = Option FileMetaData} (Some k.meta) (Some ours) = sym (held_found name named some ∙ k.known_is) ∙ h.found in
      record {
        front = h.front;
        rest = h.rest;
        files_are = h.files_are;
        agreed = all_agree h.front (λ q some_front. omega (arith, some_front, count q)) h.agreed;
        held = some;
        has = subst (HasMeta reads name) (same_Some k.meta ours known_ours) k.has;
        other = h.other;
      }
    where
      map_append : (xs ys : List (Name × FileMetaData)) → meta_names (xs ++ ys) ≡ meta_names xs ++ meta_names ys
      map_append [] ys = refl
      map_append (x ∷ xs) ys = ap (λ (ns : List Name). x.0 ∷ ns) (map_append xs ys)

-- what was found among a state's files, as a slice
pub held_slice : (known : List (Name × FileMetaData)) (holdings : Holdings) (state : CopyState) (slice held files : List (Name × FileMetaData)) → slice ≡ held → held ≡ held_metas known holdings (meta_names files) → files ≡ state.files
    → slice ≡ held_metas known holdings (meta_names state.files)
held_slice known holdings state slice held files e f g = e ∙ f ∙ ap (λ (fs : List (Name × FileMetaData)). held_metas known holdings (meta_names fs)) g
