-- The messages of a copy state: their kinds, and that they are those of no other state.
use Rattle.std.proofs.Common.{◌≡◌, ◌≢◌, ℕ, zero, suc, ◌+◌, ◌-◌, ◌<◌, ◌≤◌, ◌⊎◌, Bool, true, false, cond, List, [], ◌∷◌, ◌++◌, length, map, take, drop, Option, Some, None, Result, Ok, Err, refl, sym, ap, subst, ◌∙◌, arith, inl, inr}
use Rattle.std.specs.Prelude.{◌↔◌, nat_lt, slice_get, IfOk}
use Rattle.std.specs.Option.{option_map}
use Rattle.std.proofs.lemmas.Bool.{cases_lt, lt-ltb, le-ltb}
use Rattle.std.proofs.lemmas.List.{length-append, length-map, length-take, length-drop, take-append-drop}
use Rattle.std.proofs.lemmas.Option.{none-some}
use Rattle.nrt_base.proofs.Plain.{cons_parts, pair_from, same_err}
use Rattle.copy_state.specs.declared.meta.FileMetaData.{FileMetaData}
use Rattle.copy_state.specs.declared.state.CopyState.{CopyState}
use Rattle.wire_frames.specs.declared.message.Message.{Message}
use Rattle.wire_frames.specs.declared.message.Message.TheVariants.{Notice, State, File, Completed, Chunk}
use Rattle.wire_frames.specs.declared.message.StateFault.{StateFault}
use Rattle.wire_frames.specs.declared.message.StateFault.TheVariants.{Order, Memory}
use Rattle.wire_frames.specs.Wire.{message_kind}
use Rattle.wire_frames.specs.States.{file_message, state_message, messages_of_state, kind_behind, kind_wanted, kind_found, IsFirstMismatch, IsFirstDisorder, AreInOrder, AreListed, TellsState}

-- ---- the kind that is wanted

wants_file : (f c i : ℕ) → i < f → kind_behind f c i ≡ Some 3
wants_file f c i h = rw (lt-ltb i f h) refl

wants_name : (f c i : ℕ) → f ≤ i → i < f + c → kind_behind f c i ≡ Some 4
wants_name f c i h k = rw (le-ltb i f h, lt-ltb i (f + c) k) refl

pub wants_none : (f c i : ℕ) → f + c ≤ i → kind_behind f c i ≡ None
wants_none f c i h = let le : f ≤ i = omega arith in rw (le-ltb i f le, le-ltb i (f + c) h) refl

-- ---- the kind that is found

abbrev Listed : Type 0
Listed = List (List ℕ × FileMetaData)

abbrev listed : Listed → List (List ℕ) → List Message
listed fs cs = map file_message fs ++ map Completed cs

finds_file : (fs : Listed) (cs : List (List ℕ)) (i : ℕ) → i < length fs → kind_found (listed fs cs) i ≡ Some 3
finds_file [] cs i h = absurd (omega arith)
finds_file (f ∷ fs) cs zero h = refl
finds_file (f ∷ fs) cs (suc i) h = finds_file fs cs i (omega arith)

finds_completed : (cs : List (List ℕ)) (i : ℕ) → i < length cs → kind_found (map Completed cs) i ≡ Some 4
finds_completed [] i h = absurd (omega arith)
finds_completed (c ∷ cs) zero h = refl
finds_completed (c ∷ cs) (suc i) h = finds_completed cs i (omega arith)

finds_name : (fs : Listed) (cs : List (List ℕ)) (i : ℕ) → length fs ≤ i → i < length fs + length cs → kind_found (listed fs cs) i ≡ Some 4
finds_name [] cs i h k = finds_completed cs i (omega arith)
finds_name (f ∷ fs) cs zero h k = absurd (omega arith)
finds_name (f ∷ fs) cs (suc i) h k = finds_name fs cs i (omega arith) (omega arith)

pub finds_none : (ms : List Message) (i : ℕ) → length ms ≤ i → kind_found ms i ≡ None
finds_none [] i h = refl
finds_none (m ∷ ms) zero h = absurd (omega arith)
finds_none (m ∷ ms) (suc i) h = finds_none ms i (omega arith)

pub finds_some : (ms : List Message) (i : ℕ) → i < length ms → kind_found ms i ≡ None → ⊥
finds_some [] i h e = absurd (omega arith)
finds_some (m ∷ ms) zero h e = cc
finds_some (m ∷ ms) (suc i) h e = finds_some ms i (omega arith) e

length_listed : (fs : Listed) (cs : List (List ℕ)) → length (listed fs cs) ≡ length fs + length cs
length_listed fs cs =
    let a = length-append (map file_message fs) (map Completed cs) in
    let b = length-map fs file_message in
    let c = length-map cs Completed in
    omega (arith, a, b, c)

behind_in_order : (fs : Listed) (cs : List (List ℕ)) (i : ℕ) → kind_found (listed fs cs) i ≡ kind_behind (length fs) (length cs) i
behind_in_order fs cs i =
    elim (cases_lt i (length fs)) [
      | inl a ↦ finds_file fs cs i a ∙ sym (wants_file (length fs) (length cs) i a)
      | inr b ↦ elim (cases_lt i (length fs + length cs)) [
        | inl c ↦ finds_name fs cs i b c ∙ sym (wants_name (length fs) (length cs) i b c)
        | inr d ↦ let l = length_listed fs cs in finds_none (listed fs cs) i (omega (arith, l, d)) ∙ sym (wants_none (length fs) (length cs) i d)
      ]
    ]

-- the messages of a state are in order
state_in_order : (s : CopyState) → AreInOrder (messages_of_state s)
state_in_order s zero = refl
state_in_order s (suc i) = behind_in_order s.files s.completed i

-- ---- the first difference

pub one_difference : (found wanted : ℕ → Option ℕ) (a b : ℕ) → IsFirstMismatch found wanted a → IsFirstMismatch found wanted b → a ≡ b
one_difference found wanted a b p q = elim (cases_lt a b) [
  | inl lt ↦ absurd (p.differs (q.before a lt))
  | inr le ↦ elim (cases_lt b a) [ inl gt ↦ absurd (q.differs (p.before b gt)) | inr ge ↦ omega (arith, le, ge) ]
]

-- what is out of order behind the state is so in the whole
pub disorder_behind : (m : Message) (rest : List Message) (f c at : ℕ) → ((i : ℕ) → kind_wanted (m ∷ rest) (suc i) ≡ kind_behind f c i) → message_kind m ≡ 2
    → IsFirstMismatch (kind_found rest) (kind_behind f c) at → IsFirstDisorder (m ∷ rest) (suc at)
disorder_behind m rest f c at w k d = record {
  differs = λ e. d.differs (e ∙ w at);
  before = λ i lt. before_by i lt;
}
  where
    before_by : (i : ℕ) → i < suc at → kind_found (m ∷ rest) i ≡ kind_wanted (m ∷ rest) i
    before_by zero lt = ap Some k
    before_by (suc i) lt = d.before i (omega arith) ∙ sym (w i)

pub order_behind : (m : Message) (rest : List Message) (f c : ℕ) → ((i : ℕ) → kind_wanted (m ∷ rest) (suc i) ≡ kind_behind f c i) → message_kind m ≡ 2
    → ((i : ℕ) → kind_found rest i ≡ kind_behind f c i) → AreInOrder (m ∷ rest)
order_behind m rest f c w k e zero = ap Some k
order_behind m rest f c w k e (suc i) = e i ∙ sym (w i)

-- ---- one state

same_files : (fs gs : Listed) (cs ds : List (List ℕ)) → length fs ≡ length gs → listed fs cs ≡ listed gs ds → (fs ≡ gs) × (map Completed cs ≡ map Completed ds)
same_files [] [] cs ds len e = (refl, e)
same_files [] (g ∷ gs) cs ds len e = absurd (omega arith)
same_files (f ∷ fs) [] cs ds len e = absurd (omega arith)
same_files (f ∷ fs) (g ∷ gs) cs ds len e =
    let p = cons_parts (file_message f) (file_message g) (listed fs cs) (listed gs ds) e in
    let r = same_files fs gs cs ds (omega arith) p.1 in
    let name : f.0 ≡ g.0 = let q = p.0 in cc in
    let meta : f.1 ≡ g.1 = let q = p.0 in cc in
    let one : f ≡ g = pair_from f.0 g.0 f.1 g.1 name meta in
    let others = r.0 in
    (cc, r.1)

same_names : (cs ds : List (List ℕ)) → map Completed cs ≡ map Completed ds → cs ≡ ds
same_names [] [] e = refl
same_names [] (d ∷ ds) e = absurd cc
same_names (c ∷ cs) [] e = absurd cc
same_names (c ∷ cs) (d ∷ ds) e =
    let p = cons_parts (Completed c) (Completed d) (map Completed cs) (map Completed ds) e in
    let first : c ≡ d = let q = p.0 in cc in
    let others = same_names cs ds p.1 in
    cc

same_parts : (s t : CopyState) → s.version ≡ t.version → s.generation ≡ t.generation → s.primary_gen ≡ t.primary_gen → s.infos ≡ t.infos → s.files ≡ t.files → s.completed ≡ t.completed → s ≡ t
same_parts s t a b c d e f = λ i. record { version = a i; generation = b i; primary_gen = c i; infos = d i; files = e i; completed = f i }

-- messages are those of one state
pub one_state : (s t : CopyState) → messages_of_state s ≡ messages_of_state t → s ≡ t
one_state s t e =
    let p = cons_parts (state_message s) (state_message t) (listed s.files s.completed) (listed t.files t.completed) e in
    let h = p.0 in
    let len : length s.files ≡ length t.files = cc in
    let r = same_files s.files t.files s.completed t.completed len p.1 in
    let version : s.version ≡ t.version = cc in
    let generation : s.generation ≡ t.generation = cc in
    let primary_gen : s.primary_gen ≡ t.primary_gen = cc in
    let infos : s.infos ≡ t.infos = cc in
    same_parts s t version generation primary_gen infos r.0 (same_names s.completed t.completed r.1)

-- ---- what is told of messages

module _ (messages : List Message) where
  told_state : (result : Result CopyState StateFault) → TellsState messages result → IfOk result (λ s. messages ≡ messages_of_state s)
  told_state (Ok s) t = t
  told_state (Err fault) t = tt

  told_given : (result : Result CopyState StateFault) → TellsState messages result → (s : CopyState) → messages ≡ messages_of_state s → (result ≡ Ok s) ⊎ (result ≡ Err Memory)
  told_given (Ok t) h s e = inl (ap Ok (one_state t s (sym h ∙ e)))
  told_given (Err (Order at)) h s e = absurd (h.differs (subst AreInOrder (sym e) (state_in_order s) at))
  told_given (Err Memory) h s e = inr refl

  never_disordered : AreInOrder messages → (at : ℕ) → IsFirstDisorder messages at → ⊥
  never_disordered h at d = d.differs (h at)

  told_order : (result : Result CopyState StateFault) → TellsState messages result → (at : ℕ) → (result ≡ Err (Order at)) ↔ IsFirstDisorder messages at
  told_order (Ok s) h at = (λ e. absurd cc, λ d. absurd (never_disordered (subst AreInOrder (sym h) (state_in_order s)) at d))
  told_order (Err (Order place)) h at = (
    λ e. (let f : Order place ≡ Order at = same_err (Order place) (Order at) e in let same : place ≡ at = cc in subst (IsFirstDisorder messages) same h),
    λ d. ap (λ (k : ℕ). let r : Result CopyState StateFault = Err (Order k) in r) (one_difference (kind_found messages) (kind_wanted messages) place at h d),
  )
  told_order (Err Memory) h at = (λ e. absurd (other (same_err Memory (Order at) e)), λ d. absurd (never_disordered h at d))
    where
      other : Memory ≡ Order at → ⊥
      other e = cc

  pub told_clauses : (result : Result CopyState StateFault) → TellsState messages result
      → IfOk result (λ s. messages ≡ messages_of_state s) × (((s : CopyState) → messages ≡ messages_of_state s → (result ≡ Ok s) ⊎ (result ≡ Err Memory)) × ((at : ℕ) → (result ≡ Err (Order at)) ↔ IsFirstDisorder messages at))
  told_clauses result t = (told_state result t, (told_given result t, told_order result t))

-- ---- the messages behind a state

never_none : (k : ℕ) (o : Option ℕ) → o ≡ Some k → o ≡ None → ⊥
never_none k o p q = let e : Some k ≡ None = sym p ∙ q in none-some k (sym e)

some_wanted : (x y i : ℕ) → i < x + y → kind_behind x y i ≡ None → ⊥
some_wanted x y i lt e = by (cases_lt i x)
  where
    by : (i < x) ⊎ (x ≤ i) → ⊥
    by (inl a) = never_none 3 (kind_behind x y i) (wants_file x y i a) e
    by (inr b) = never_none 4 (kind_behind x y i) (wants_name x y i b lt) e

-- messages of the right kinds are as many as the state says
pub order_length : (rest : List Message) (f c : ℕ) → ((i : ℕ) → kind_found rest i ≡ kind_behind f c i) → length rest ≡ f + c
order_length rest f c h = elim (cases_lt (length rest) (f + c)) [
  | inl lt ↦ absurd (some_wanted f c (length rest) lt (sym (h (length rest)) ∙ finds_none rest (length rest) (omega arith)))
  | inr le ↦ elim (cases_lt (f + c) (length rest)) [
    | inl gt ↦ absurd (finds_some rest (f + c) gt (h (f + c) ∙ wants_none f c (f + c) (omega arith)))
    | inr ge ↦ omega (arith, le, ge)
  ]
]

found_in_front : (rest : List Message) (n i : ℕ) → i < n → kind_found (take n rest) i ≡ kind_found rest i
found_in_front rest zero i h = absurd (omega arith)
found_in_front [] (suc n) i h = refl
found_in_front (m ∷ rest) (suc n) zero h = refl
found_in_front (m ∷ rest) (suc n) (suc i) h = found_in_front rest n i (omega arith)

found_in_back : (rest : List Message) (n i : ℕ) → kind_found (drop n rest) i ≡ kind_found rest (n + i)
found_in_back rest zero i = ap (kind_found rest) (omega arith)
found_in_back [] (suc n) i = refl
found_in_back (m ∷ rest) (suc n) i = let e : suc n + i ≡ suc (n + i) = omega arith in found_in_back rest n i ∙ sym (ap (kind_found (m ∷ rest)) e)

pub files_in_front : (rest : List Message) (f c i : ℕ) → ((j : ℕ) → kind_found rest j ≡ kind_behind f c j) → i < length (take f rest) → kind_found (take f rest) i ≡ Some 3
files_in_front rest f c i h lt =
    let len = length-take f rest in
    let below : i < f = omega (arith, lt, len) in
    found_in_front rest f i below ∙ h i ∙ wants_file f c i below

pub names_in_back : (rest : List Message) (f c i : ℕ) → ((j : ℕ) → kind_found rest j ≡ kind_behind f c j) → i < length (drop f rest) → kind_found (drop f rest) i ≡ Some 4
names_in_back rest f c i h lt =
    let len = length-drop f rest in
    let all = order_length rest f c h in
    found_in_back rest f i ∙ h (f + i) ∙ wants_name f c (f + i) (omega arith) (omega (arith, lt, len, all))

pub are_listed : (rest : List Message) (f c : ℕ) (fs : Listed) (cs : List (List ℕ)) → ((j : ℕ) → kind_found rest j ≡ kind_behind f c j) → map file_message fs ≡ take f rest → map Completed cs ≡ drop f rest
    → AreListed f c fs cs rest
are_listed rest f c fs cs h p q =
    let all = order_length rest f c h in
    let a : length fs ≡ length (take f rest) = sym (length-map fs file_message) ∙ ap length p in
    let b : length cs ≡ length (drop f rest) = sym (length-map cs Completed) ∙ ap length q in
    let x = length-take f rest in
    let y = length-drop f rest in
    record {
      files_are = omega (arith, all, a, x);
      completed_are = omega (arith, all, b, y);
      whole = sym (take-append-drop f rest) ∙ ap (λ (z : List Message). z ++ drop f rest) (sym p) ∙ ap (λ (z : List Message). map file_message fs ++ z) (sym q);
    }

-- the messages of the parts that were read
pub spelled : (s : CopyState) (f c : ℕ) (rest : List Message) → AreListed f c s.files s.completed rest → State s.version s.generation s.primary_gen f c s.infos ∷ rest ≡ messages_of_state s
spelled s f c rest l = let a = l.files_are in let b = l.completed_are in let w = l.whole in cc
