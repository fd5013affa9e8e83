-- What exact answers say, and how they follow from one another.
use Rattle.std.proofs.Common.{◌≡◌, ◌⊎◌, Result, Ok, Err, refl, sym, ap, subst, inl, inr}
use Rattle.std.specs.Prelude.{IfOk, IfErr, OnOk}
use Rattle.nrt_base.proofs.Plain.{ok_never_err, same_ok, same_err}
use Rattle.index_check.specs.declared.fault.CheckFault.{CheckFault}
use Rattle.index_check.specs.declared.fault.CheckFault.TheVariants.{Memory, Failed, NoFile, File, Disagrees, Postings, TwoRows, OtherDocs}
use Rattle.index_check.specs.Answers.{IsCutShort, IsDue, IsExact}

pub due_cut : {X : Type 0} (f : CheckFault) (answer : Result X CheckFault) → IsCutShort f → IsDue (Err f) answer
due_cut Memory answer cut = inl refl
due_cut Failed answer cut = inr (inl refl)
due_cut (NoFile name) answer cut = absurd cut
due_cut (File name fault) answer cut = absurd cut
due_cut (Disagrees name want found) answer cut = absurd cut
due_cut (Postings name) answer cut = absurd cut
due_cut (TwoRows name key) answer cut = absurd cut
due_cut (OtherDocs at) answer cut = absurd cut

-- an error is due a value only where it was cut off
pub cut_from_value : {X : Type 0} (f : CheckFault) (x : X) → IsDue (Err f) (Ok x) → IsCutShort f
cut_from_value f x (inl e) = subst IsCutShort (sym (same_err f Memory e)) tt
cut_from_value f x (inr (inl e)) = subst IsCutShort (sym (same_err f Failed e)) tt
cut_from_value f x (inr (inr e)) = absurd (ok_never_err x f (sym e))

pub fault_from_due : {X : Type 0} (f g : CheckFault) → IsDue {X = X} (Err f) (Err g) → IsCutShort f ⊎ (g ≡ f)
fault_from_due f g (inl e) = inl (subst IsCutShort (sym (same_err f Memory e)) tt)
fault_from_due f g (inr (inl e)) = inl (subst IsCutShort (sym (same_err f Failed e)) tt)
fault_from_due f g (inr (inr e)) = inr (sym (same_err f g e))

pub value_from_due : {X : Type 0} (x y : X) → IsDue (Ok x) (Ok y) → y ≡ x
value_from_due x y (inl e) = absurd (ok_never_err x Memory e)
value_from_due x y (inr (inl e)) = absurd (ok_never_err x Failed e)
value_from_due x y (inr (inr e)) = sym (same_ok x y e)

pub never_due : {X : Type 0} (x : X) (f : CheckFault) → IsDue (Ok x) (Err f) → ⊥
never_due x f (inl e) = ok_never_err x Memory e
never_due x f (inr (inl e)) = ok_never_err x Failed e
never_due x f (inr (inr e)) = ok_never_err x f e

-- a test whether a call was cut off
cut_or_not : (f : CheckFault) → IsCutShort f ⊎ (IsCutShort f → ⊥)
cut_or_not Memory = inl tt
cut_or_not Failed = inl tt
cut_or_not (NoFile name) = inr (λ h. h)
cut_or_not (File name fault) = inr (λ h. h)
cut_or_not (Disagrees name want found) = inr (λ h. h)
cut_or_not (Postings name) = inr (λ h. h)
cut_or_not (TwoRows name key) = inr (λ h. h)
cut_or_not (OtherDocs at) = inr (λ h. h)

-- the value is right, no other is, and no fault is there
pub record IsOnlyRight {X : Type 0} (IsRight : X → Type 0) (IsThere : CheckFault → Type 0) (x : X) : Type 0 where
  pub right : IsRight x
  pub one : (y : X) → IsRight y → y ≡ x
  pub none : (f : CheckFault) → IsThere f → ⊥

-- the fault is there, no other is, and no value is right
pub record IsOnlyThere {X : Type 0} (IsRight : X → Type 0) (IsThere : CheckFault → Type 0) (f : CheckFault) : Type 0 where
  pub there : IsThere f
  pub one : (g : CheckFault) → IsThere g → g ≡ f
  pub none : (y : X) → IsRight y → ⊥

module _ {X : Type 0} (IsRight : X → Type 0) (IsThere : CheckFault → Type 0) where
  pub exact_value : (x : X) → IsOnlyRight IsRight IsThere x → IsExact IsRight IsThere (Ok x)
  exact_value x h = record {
    value = λ y e. subst IsRight (same_ok x y e) h.right;
    fault = λ f e. absurd (ok_never_err x f e);
    each_value = λ y right. inr (inr (ap Ok (sym (h.one y right))));
    each_fault = λ f there. absurd (h.none f there);
  }

  pub exact_cut : (f : CheckFault) → IsCutShort f → IsExact IsRight IsThere (Err f)
  exact_cut f cut = record {
    value = λ y e. absurd (ok_never_err y f (sym e));
    fault = λ g e. inl (subst IsCutShort (same_err f g e) cut);
    each_value = λ y right. due_cut f (Ok y) cut;
    each_fault = λ g there. due_cut f (Err g) cut;
  }

  pub exact_fault : (f : CheckFault) → IsOnlyThere IsRight IsThere f → IsExact IsRight IsThere (Err f)
  exact_fault f h = record {
    value = λ y e. absurd (ok_never_err y f (sym e));
    fault = λ g e. inr (subst IsThere (same_err f g e) h.there);
    each_value = λ y right. absurd (h.none y right);
    each_fault = λ g there. inr (inr (ap Err (sym (h.one g there))));
  }

  pub only_right : (x : X) → IsExact IsRight IsThere (Ok x) → IsOnlyRight IsRight IsThere x
  only_right x h = record { right = h.value x refl; one = λ y right. value_from_due x y (h.each_value y right); none = λ f there. never_due x f (h.each_fault f there) }

  pub only_there : (f : CheckFault) → IsExact IsRight IsThere (Err f) → IsCutShort f ⊎ IsOnlyThere IsRight IsThere f
  only_there f h = elim (cut_or_not f) [
    | inl cut ↦ inl cut
    | inr not_cut ↦
        elim (h.fault f refl) [
          | inl cut ↦ inl cut
          | inr there ↦
              inr (record {
                there = there;
                one = λ g other. elim (fault_from_due {X = X} f g (h.each_fault g other)) [ inl cut ↦ absurd (not_cut cut) | inr same ↦ same ];
                none = λ y right. not_cut (cut_from_value f y (h.each_value y right));
              })
        ]
  ]

-- an exact answer, said of each outcome
pub if_right : {X : Type 0} (A : X → Type 0) (F : CheckFault → Type 0) (result : Result X CheckFault) → IsExact A F result → IfOk result A
if_right A F (Ok x) h = h.value x refl
if_right A F (Err f) h = tt

pub on_right : (A : Type 0) (F : CheckFault → Type 0) (result : Result (Unit {0}) CheckFault) → IsExact (λ (_ : Unit {0}). A) F result → OnOk result A
on_right A F (Ok x) h = h.value x refl
on_right A F (Err f) h = tt

pub if_refused : {X : Type 0} (A : X → Type 0) (F : CheckFault → Type 0) (result : Result X CheckFault) → IsExact A F result → IfErr result (λ f. IsCutShort f ⊎ F f)
if_refused A F (Ok x) h = tt
if_refused A F (Err f) h = h.fault f refl

-- what is right and what is there, said in other words
pub exact_same : {X : Type 0} (A B : X → Type 0) (F G : CheckFault → Type 0) (result : Result X CheckFault)
    → ((x : X) → A x → B x) → ((x : X) → B x → A x) → ((f : CheckFault) → F f → G f) → ((f : CheckFault) → G f → F f) → IsExact A F result → IsExact B G result
exact_same A B F G result to from there back h = record {
  value = λ x e. to x (h.value x e);
  fault = λ f e. elim (h.fault f e) [ inl cut ↦ inl cut | inr f_there ↦ inr (there f f_there) ];
  each_value = λ x right. h.each_value x (from x right);
  each_fault = λ f g_there. h.each_fault f (back f g_there);
}

-- a first step was refused, and so is the whole: what the step refuses the whole does, and where the whole has an answer otherwise, so has the step
pub exact_refused : {X Y : Type 0} (A : X → Type 0) (F : CheckFault → Type 0) (B : Y → Type 0) (G : CheckFault → Type 0) (f : CheckFault)
    → ((g : CheckFault) → F g → G g) → ((y : Y) → B y → (x : X) × A x) → ((g : CheckFault) → G g → F g ⊎ ((x : X) × A x)) → IsExact A F (Err f) → IsExact B G (Err f)
exact_refused {X} A F B G f there value fault h = elim (only_there A F f h) [
  | inl cut ↦ exact_cut B G f cut
  | inr only ↦
      exact_fault B G f (record {
        there = there f only.there;
        one = λ g other. elim (fault g other) [ inl first ↦ only.one g first | inr later ↦ absurd (only.none later.0 later.1) ];
        none = λ y right. let x = value y right in only.none x.0 x.1;
      })
]
