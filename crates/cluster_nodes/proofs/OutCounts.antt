-- How many jobs began with a copy state, and how many states like it are out.
use Rattle.std.proofs.Common.{◌≡◌, ◌≤◌, ◌+◌, ◌&&◌, ◌==◌, ℕ, zero, suc, Bool, true, false, true≢false, List, [], ◌∷◌, ◌++◌, Some, None, Option, refl, ap, ◌∙◌, sym, arith, if◌then◌else◌}
use Rattle.std.specs.Prelude.{IfSome}
use Rattle.std.specs.Cmp.Lexicographic.{pointwise}
use Rattle.std.proofs.lemmas.Bool.{eqb-true}
use Rattle.std.proofs.lemmas.Bool.Decides.{nat_tests}
use Rattle.disk_model.specs.Disk.{Name, same}
use Rattle.disk_model.proofs.CellLemmas.{same_true}
use Rattle.file_deleter.specs.Holdings.{times}
use Rattle.file_deleter.proofs.NameLemmas.{times-append}
use Rattle.index_primary.specs.declared.states.Out.{Out}
use Rattle.index_primary.specs.States.{same_out, is_out, states_without, state_names}
use Rattle.index_primary.proofs.StateLemmas.{same_out_self}
use Rattle.cluster_nodes.specs.declared.nodes.NodePlace.{NodePlace}
use Rattle.cluster_nodes.specs.Places.{place_of}
use Rattle.cluster_nodes.specs.Outs.{one_like, states_like, want_at, jobs_like}
use Rattle.cluster_nodes.specs.JobChanges.{given_back}

-- ---- one state

names_same : (a b : List Name) → pointwise same a b ≡ true → a ≡ b
names_same [] [] is = refl
names_same [] (q ∷ b) is = absurd (true≢false (sym is))
names_same (p ∷ a) [] is = absurd (true≢false (sym is))
names_same (p ∷ a) (q ∷ b) is = tests (same p q) refl is (λ rest. names_same a b rest)
  where
    tests : (t : Bool) → same p q ≡ t → (t && pointwise same a b) ≡ true → (pointwise same a b ≡ true → a ≡ b) → p ∷ a ≡ q ∷ b
    tests true here rest more = λ i. same_true p q here i ∷ more rest i
    tests false here none more = absurd (true≢false (sym none))

pub same_out_is : (s t : Out) → same_out s t ≡ true → s ≡ t
same_out_is s t is = tests (s.version.0 == t.version.0) refl is
  where
    tests : (b : Bool) → (s.version.0 == t.version.0) ≡ b → (b && pointwise same t.names s.names) ≡ true → s ≡ t
    tests true here names =
        let v : s.version.0 ≡ t.version.0 = eqb-true s.version.0 t.version.0 here in
        let n : t.names ≡ s.names = names_same t.names s.names names in
        λ i. record { version = record { 0 = v i }; names = sym n i }
    tests false here none = absurd (true≢false (sym none))

-- ---- states that are out

pub states_push : (s : Out) (ts : List Out) (t : Out) → states_like s (ts ++ t ∷ []) ≡ states_like s ts + one_like s (Some t)
states_push s [] t = omega arith
states_push s (u ∷ ts) t = let more = states_push s ts t in omega (arith, more)

-- a state that is out is one of them
pub states_back : (s t : Out) (ts : List Out) → is_out t ts ≡ true → states_like s (states_without t ts) + one_like s (Some t) ≡ states_like s ts
states_back s t [] out = absurd (true≢false (sym out))
states_back s t (u ∷ ts) out = tests (same_out t u) refl out (λ o. states_back s t ts o)
  where
    tests : (b : Bool) → same_out t u ≡ b → (if b then true else is_out t ts) ≡ true → (is_out t ts ≡ true → states_like s (states_without t ts) + one_like s (Some t) ≡ states_like s ts)
        → states_like s (if b then ts else u ∷ states_without t ts) + one_like s (Some t) ≡ states_like s (u ∷ ts)
    tests true here out more = let same : one_like s (Some t) ≡ one_like s (Some u) = ap (λ (x : Out). one_like s (Some x)) (same_out_is t u here) in omega (arith, same)
    tests false here out more = let rest = more out in omega (arith, rest)

pub states_given : (s : Out) (o : Option Out) (ts : List Out) → IfSome o (λ t. is_out t ts ≡ true) → states_like s (given_back o ts) + one_like s o ≡ states_like s ts
states_given s None ts out = omega arith
states_given s (Some t) ts out = states_back s t ts out

-- where one like it is counted, it is out
pub is_there : (s : Out) (ts : List Out) → 1 ≤ states_like s ts → is_out s ts ≡ true
is_there s [] some = absurd (omega (arith, some))
is_there s (t ∷ ts) some = tests (same_out s t) some (λ more. is_there s ts more)
  where
    tests : (b : Bool) → 1 ≤ (if b then 1 else 0) + states_like s ts → (1 ≤ states_like s ts → is_out s ts ≡ true) → (if b then true else is_out s ts) ≡ true
    tests true some more = refl
    tests false some more = more (omega (arith, some))

pub one_self : (s : Out) → one_like s (Some s) ≡ 1
one_self s = ap (λ (b : Bool). if b then 1 else 0) (same_out_self s)

-- the names of a state that is out stand among those that are held
pub names_out : (s : Out) (ts : List Out) (q : Name) → is_out s ts ≡ true → times s.names q ≤ times (state_names ts) q
names_out s [] q out = absurd (true≢false (sym out))
names_out s (t ∷ ts) q out = tests (same_out s t) refl out (λ more. names_out s ts q more)
  where
    tests : (b : Bool) → same_out s t ≡ b → (if b then true else is_out s ts) ≡ true → (is_out s ts ≡ true → times s.names q ≤ times (state_names ts) q) → times s.names q ≤ times (t.names ++ state_names ts) q
    tests true here out more =
        let all : times (t.names ++ state_names ts) q ≡ times t.names q + times (state_names ts) q = times-append t.names (state_names ts) q in
        let one : times s.names q ≡ times t.names q = ap (λ (x : Out). times x.names q) (same_out_is s t here) in omega (arith, all, one)
    tests false here out more =
        let all : times (t.names ++ state_names ts) q ≡ times t.names q + times (state_names ts) q = times-append t.names (state_names ts) q in
        let rest = more out in omega (arith, all, rest)

-- ---- jobs

module _ {D : Type 0} where
  -- places that have the same jobs
  pub jobs_same : (old new : List (Option (NodePlace D))) (s : Out) (k : ℕ) → ((m : ℕ) → m ≤ k → want_at (place_of new m) ≡ want_at (place_of old m)) → jobs_like new s k ≡ jobs_like old s k
  jobs_same old new s zero same_at = refl
  jobs_same old new s (suc k) same_at =
      let rest = jobs_same old new s k (λ m low. same_at m (omega (arith, low))) in
      let one : one_like s (want_at (place_of new (suc k))) ≡ one_like s (want_at (place_of old (suc k))) = ap (one_like s) (same_at (suc k) (omega arith)) in
      omega (arith, rest, one)

  -- places of which one has another job
  pub jobs_moved : (old new : List (Option (NodePlace D))) (s : Out) (n k : ℕ) → 1 ≤ n → n ≤ k → ((m : ℕ) → (n == m) ≡ false → want_at (place_of new m) ≡ want_at (place_of old m))
      → jobs_like new s k + one_like s (want_at (place_of old n)) ≡ jobs_like old s k + one_like s (want_at (place_of new n))
  jobs_moved old new s n zero some low others = absurd (omega (arith, some, low))
  jobs_moved old new s n (suc k) some low others = tests (n == suc k) refl (λ below. jobs_moved old new s n k some below others)
    where
      tests : (b : Bool) → (n == suc k) ≡ b → (n ≤ k → jobs_like new s k + one_like s (want_at (place_of old n)) ≡ jobs_like old s k + one_like s (want_at (place_of new n)))
          → jobs_like new s (suc k) + one_like s (want_at (place_of old n)) ≡ jobs_like old s (suc k) + one_like s (want_at (place_of new n))
      tests true here more =
          let is : n ≡ suc k = eqb-true n (suc k) here in
          let rest = jobs_same old new s k (λ m less. others m (let below : m ≤ k = less in grind (arith, nat_tests))) in
          let was : one_like s (want_at (place_of old n)) ≡ one_like s (want_at (place_of old (suc k))) = ap (λ (m : ℕ). one_like s (want_at (place_of old m))) is in
          let now : one_like s (want_at (place_of new n)) ≡ one_like s (want_at (place_of new (suc k))) = ap (λ (m : ℕ). one_like s (want_at (place_of new m))) is in
          omega (arith, rest, was, now)
      tests false here more =
          let rest = more (let apart : (n == suc k) ≡ false = here in grind (arith, nat_tests)) in
          let one : one_like s (want_at (place_of new (suc k))) ≡ one_like s (want_at (place_of old (suc k))) = ap (one_like s) (others (suc k) here) in
          omega (arith, rest, one)

  -- places without a job
  pub jobs_none : (places : List (Option (NodePlace D))) (s : Out) (k : ℕ) → ((m : ℕ) → 1 ≤ m → m ≤ k → want_at (place_of places m) ≡ None) → jobs_like places s k ≡ 0
  jobs_none places s zero none = refl
  jobs_none places s (suc k) none =
      let rest = jobs_none places s k (λ m first last. none m first (omega (arith, last))) in
      let one : one_like s (want_at (place_of places (suc k))) ≡ 0 = ap (one_like s) (none (suc k) (omega arith) (omega arith)) in
      omega (arith, rest, one)

  -- a job of one of the places is counted
  pub job_counted : (places : List (Option (NodePlace D))) (s : Out) (n k : ℕ) → 1 ≤ n → n ≤ k → want_at (place_of places n) ≡ Some s → 1 ≤ jobs_like places s k
  job_counted places s n zero some low is = absurd (omega (arith, some, low))
  job_counted places s n (suc k) some low is = tests (n == suc k) refl (λ below. job_counted places s n k some below is)
    where
      tests : (b : Bool) → (n == suc k) ≡ b → (n ≤ k → 1 ≤ jobs_like places s k) → 1 ≤ jobs_like places s (suc k)
      tests true here more =
          let one : one_like s (want_at (place_of places (suc k))) ≡ 1 = ap (λ (m : ℕ). one_like s (want_at (place_of places m))) (sym (eqb-true n (suc k) here)) ∙ (ap (one_like s) is ∙ one_self s) in
          omega (arith, one)
      tests false here more = let rest = more (let apart : (n == suc k) ≡ false = here in grind (arith, nat_tests)) in omega (arith, rest)
