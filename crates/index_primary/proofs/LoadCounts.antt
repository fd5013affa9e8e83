-- How many loads a copy state and a file take, as plans count them.
use Rattle.std.proofs.Common.{◌≡◌, ◌<◌, ◌≤◌, ℕ, zero, suc, ◌+◌, false, Option, Some, None, Result, Ok, Err, refl, sym, ap, subst, ◌∙◌, arith}
use Rattle.std.specs.Prelude.{IsErrAnd}
use Rattle.disk_model.specs.declared.dir.DirFault.{DirFault}
use Rattle.disk_model.specs.declared.dir.DirFault.TheVariants.{Memory, Missing, Exists, Failed}
use Rattle.disk_model.specs.Faults.{Plans, is_met, counted, FailsByPlans}
use Rattle.index_primary.specs.declared.parts.PrimaryFault.{PrimaryFault}
use Rattle.index_primary.specs.declared.parts.PrimaryFault.TheVariants.{Memory as NoMore, Failed as Broken}
use Rattle.index_primary.specs.Loads.{disk_answer, load_refusal}
use Rattle.commit_steps.specs.StepCalls.{counted_times, NoneMeets, MakesCalls, FailsAmong, StopsAmong, CallsInRow}

-- no call, and one
pub no_calls : (p : Option Plans) → MakesCalls 0 p p
no_calls None = tt
no_calls (Some p) = (tt, refl)

-- one call more
more_calls : {T : Type 0} (i : ℕ) (a b c : Option Plans) (x : T) → MakesCalls i a b → FailsByPlans b c (Ok x) → MakesCalls (suc i) a c
more_calls i None b c x made last = tt
more_calls i (Some p) b c x made last = by b made.1 last
  where
    by : (b : Option Plans) → b ≡ Some (counted_times i p) → FailsByPlans b c (Ok x) → NoneMeets (suc i) p × (c ≡ Some (counted_times (suc i) p))
    by None e last = absurd cc
    by (Some q) e last = let same : q ≡ counted_times i p = cc in ((made.0, subst (λ (r : Plans). is_met r ≡ false) same last.0), last.1 ∙ ap (λ (r : Plans). Some (counted r)) same)

-- calls and one more
call_more : (i : ℕ) (a b c : Option Plans) → MakesCalls i a b → MakesCalls 1 b c → MakesCalls (suc i) a c
call_more i None b c made last = tt
call_more i (Some p) b c made last = by b made.1 last
  where
    by : (b : Option Plans) → b ≡ Some (counted_times i p) → MakesCalls 1 b c → NoneMeets (suc i) p × (c ≡ Some (counted_times (suc i) p))
    by None e last = absurd cc
    by (Some q) e last = let same : q ≡ counted_times i p = cc in ((made.0, subst (λ (r : Plans). is_met r ≡ false) same last.0.1), last.1 ∙ ap (λ (r : Plans). Some (counted r)) same)

pub calls_then : (i : ℕ) (a b c : Option Plans) → MakesCalls i a b → MakesCalls 1 b c → MakesCalls (i + 1) a c
calls_then i a b c made last = let e : suc i ≡ i + 1 = omega arith in subst (λ (j : ℕ). MakesCalls j a c) e (call_more i a b c made last)

-- where no call was made, the plans are as before
none_made : (k : ℕ) (a b c : Option Plans) → k < 1 → MakesCalls k b c → (i : ℕ) → MakesCalls i a b → MakesCalls i a c
none_made k a b c low made i sofar = by a sofar (subst (λ (j : ℕ). MakesCalls j b c) (let e : k ≡ 0 = omega (arith, low) in e) made)
  where
    by : (a : Option Plans) → MakesCalls i a b → MakesCalls 0 b c → MakesCalls i a c
    by None sofar none = tt
    by (Some p) sofar none = (sofar.0, still b sofar.1 none)
      where
        still : (b : Option Plans) → b ≡ Some (counted_times i p) → MakesCalls 0 b c → c ≡ Some (counted_times i p)
        still None e none = absurd cc
        still (Some q) e none = none.1 ∙ e

-- one call behind others: that many were made where it finds no memory, and where it fails
stops_behind : (n i : ℕ) (a b c : Option Plans) → i < n → MakesCalls i a b → StopsAmong 1 b c → StopsAmong n a c
stops_behind n i a b c lt sofar s = by s.made refl
  where
    by : (k : ℕ) → s.made ≡ k → StopsAmong n a c
    by zero e = record { made = i; most = omega (arith, lt); calls = none_made s.made a b c (omega (arith, e)) s.calls i sofar }
    by (suc k) e = record {
      made = i + 1;
      most = omega (arith, lt);
      calls = calls_then i a b c sofar (subst (λ (j : ℕ). MakesCalls j b c) (let one : s.made ≡ 1 = omega (arith, e, s.most) in one) s.calls);
    }

fails_behind : (n i : ℕ) (a b c : Option Plans) → i < n → MakesCalls i a b → FailsAmong 1 b c → FailsAmong n a c
fails_behind n i a b c lt sofar f = record {
  made = i;
  fewer = lt;
  between = f.between;
  calls = none_made f.made a b f.between f.fewer f.calls i sofar;
  fails = f.fails;
}

pub row_ends : (n i : ℕ) (a b c : Option Plans) (e : DirFault) → i < n → MakesCalls i a b → CallsInRow {T = Unit {0}} 1 b c (Err e) → CallsInRow {T = Unit {0}} n a c (Err e)
row_ends n i a b c Memory lt sofar one = stops_behind n i a b c lt sofar one
row_ends n i a b c Missing lt sofar one = stops_behind n i a b c lt sofar one
row_ends n i a b c Exists lt sofar one = stops_behind n i a b c lt sofar one
row_ends n i a b c Failed lt sofar one = fails_behind n i a b c lt sofar one

-- one load, by its answer
uncounted_calls : (S : Type 0) (a b : Option Plans) (e : DirFault) → (e ≡ Failed → ⊥) → FailsByPlans {T = S} a b (Err e) → MakesCalls 0 a b
uncounted_calls S None b e apart h = tt
uncounted_calls S (Some p) b Memory apart h = (tt, h)
uncounted_calls S (Some p) b Missing apart h = (tt, h)
uncounted_calls S (Some p) b Exists apart h = (tt, h)
uncounted_calls S (Some p) b Failed apart h = absurd (apart refl)

failed_alike : (S : Type 0) (a b : Option Plans) (e : DirFault) → e ≡ Failed → FailsByPlans {T = S} a b (Err e) → FailsByPlans {T = Unit {0}} a b (Err Failed)
failed_alike S None b e is h = tt
failed_alike S (Some p) b Failed is h = h
failed_alike S (Some p) b Memory is h = absurd cc
failed_alike S (Some p) b Missing is h = absurd cc
failed_alike S (Some p) b Exists is h = absurd cc

one_stops : (S : Type 0) (a b : Option Plans) (e : DirFault) → (e ≡ Failed → ⊥) → FailsByPlans {T = S} a b (Err e) → StopsAmong 1 a b
one_stops S a b e apart h = record { made = 0; most = omega arith; calls = uncounted_calls S a b e apart h }

pub one_fails : (S : Type 0) (a b : Option Plans) (e : DirFault) → FailsByPlans {T = S} a b (Err e) → CallsInRow {T = Unit {0}} 1 a b (Err e)
one_fails S a b Memory h = one_stops S a b Memory (λ e. absurd cc) h
one_fails S a b Missing h = one_stops S a b Missing (λ e. absurd cc) h
one_fails S a b Exists h = one_stops S a b Exists (λ e. absurd cc) h
one_fails S a b Failed h = record {
  made = 0;
  fewer = omega arith;
  between = a;
  calls = no_calls a;
  fails = failed_alike S a b Failed refl h;
}

pub one_made : {T : Type 0} (a b : Option Plans) (x : T) → FailsByPlans a b (Ok x) → MakesCalls 1 a b
one_made a b x h = more_calls 0 a a b x (no_calls a) h

-- ---- what is answered of loads in a row
pub stopped_at : (n k : ℕ) (a b : Option Plans) → k ≤ n → MakesCalls k a b → StopsAmong n a b
stopped_at n k a b low made = record { made = k; most = low; calls = made }

-- before the first load no memory was found
pub none_loaded : {T : Type 0} (n : ℕ) (a : Option Plans) (r : Result T PrimaryFault) → IsErrAnd r (λ e. e ≡ NoMore) → CallsInRow n a a (disk_answer r)
none_loaded n a (Ok x) h = absurd h
none_loaded n a (Err NoMore) h = stopped_at n 0 a a (omega arith) (no_calls a)
none_loaded n a (Err Broken) h = absurd cc

-- a fault of the directory that the primary tells on
pub row_refused : (T : Type 0) (n : ℕ) (a b : Option Plans) (e : DirFault) (f : PrimaryFault) → f ≡ load_refusal e → CallsInRow {T = Unit {0}} n a b (Err e) → CallsInRow n a b (disk_answer {T = T} (Err f))
row_refused T n a b Memory f is h = subst (λ (x : PrimaryFault). CallsInRow n a b (disk_answer {T = T} (Err x))) (sym is) h
row_refused T n a b Missing f is h = subst (λ (x : PrimaryFault). CallsInRow n a b (disk_answer {T = T} (Err x))) (sym is) h
row_refused T n a b Exists f is h = subst (λ (x : PrimaryFault). CallsInRow n a b (disk_answer {T = T} (Err x))) (sym is) h
row_refused T n a b Failed f is h = subst (λ (x : PrimaryFault). CallsInRow n a b (disk_answer {T = T} (Err x))) (sym is) h

pub load_refused : (S T : Type 0) (a b : Option Plans) (e : DirFault) (f : PrimaryFault) → f ≡ load_refusal e → FailsByPlans {T = S} a b (Err e) → FailsByPlans a b (disk_answer {T = T} (Err f))
load_refused S T None b e f is h = tt
load_refused S T (Some p) b Memory f is h = subst (λ (x : PrimaryFault). FailsByPlans (Some p) b (disk_answer {T = T} (Err x))) (sym is) h
load_refused S T (Some p) b Missing f is h = subst (λ (x : PrimaryFault). FailsByPlans (Some p) b (disk_answer {T = T} (Err x))) (sym is) h
load_refused S T (Some p) b Exists f is h = subst (λ (x : PrimaryFault). FailsByPlans (Some p) b (disk_answer {T = T} (Err x))) (sym is) h
load_refused S T (Some p) b Failed f is h = subst (λ (x : PrimaryFault). FailsByPlans (Some p) b (disk_answer {T = T} (Err x))) (sym is) h

pub told_alike : {S : Type 0} (a b : Option Plans) (x : S) → FailsByPlans a b (Ok x) → FailsByPlans {T = Unit {0}} a b (Ok tt)
told_alike None b x h = tt
told_alike (Some p) b x h = h

-- where the primary says that the disk failed, the directory said so
pub failed_of : (e : DirFault) (f : PrimaryFault) → f ≡ load_refusal e → f ≡ Broken → e ≡ Failed
failed_of Failed f is told = refl
failed_of Memory f is told = absurd cc
failed_of Missing f is told = absurd cc
failed_of Exists f is told = absurd cc
