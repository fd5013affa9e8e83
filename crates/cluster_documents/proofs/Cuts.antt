-- The operations of the publish in flight: those of its start's cut, which come first among those that wait.
use Rattle.std.proofs.Common.{◌≡◌, ◌≤◌, ◌+◌, ◌-◌, ℕ, zero, suc, List, [], ◌∷◌, ◌++◌, Some, refl, ap, ◌∙◌, sym, subst, arith, length, take, drop, length-drop}
use Rattle.nrt_base.specs.declared.numbers.At.{At}
use Rattle.nrt_base.specs.declared.doc.Doc.{Doc}
use Rattle.documents.specs.declared.operation.Op.{Op}
use Rattle.documents.specs.Documents.{after_op, after_ops}
use Rattle.history_rules.specs.declared.entry.Event.TheVariants.{Publishing}
use Rattle.history_rules.specs.Nodes.{Past}
use Rattle.history_rules.specs.Lines.{before_start, publish_in_flight}
use Rattle.history_rules.specs.Points.{operations_at_start, operations_written, accepted_at_start, operations_of_generation, published_in_generation, cut_of}
use Rattle.history_rules.specs.Legal.{IsLegalPast}
use Rattle.history_rules.proofs.PastLemmas.{legal_before}
use Rattle.history_facts.proofs.WrittenLemmas.{written as base_written, started as start_written}
use Rattle.history_facts.specs.Origins.{operations_before_generation}
use Rattle.history_book.specs.Turns.{AreInTurn}
use Rattle.history_book.specs.Laws.{Reigns, Written}
use Rattle.history_book.proofs.LineLaws.{flying}
use Rattle.history_book.proofs.ReignLaws.{since_start, start_kept, reigns_on, written}

-- ---- lists

take_whole : {A : Type 0} (xs ys : List A) → take (length xs) (xs ++ ys) ≡ xs
take_whole [] ys = refl
take_whole (x ∷ xs) ys = ap (λ (l : List _). x ∷ l) (take_whole xs ys)

take_none : {A : Type 0} (xs : List A) (n : ℕ) → xs ≡ [] → take n xs ≡ []
take_none xs zero none = refl
take_none [] (suc n) none = refl
take_none (x ∷ xs) (suc n) none = absurd (cc)

drop_none : {A : Type 0} (xs : List A) (n : ℕ) → xs ≡ [] → drop n xs ≡ []
drop_none xs zero none = none
drop_none [] (suc n) none = refl
drop_none (x ∷ xs) (suc n) none = absurd (cc)

pub take_first : {A : Type 0} (k : ℕ) (xs ys : List A) → k ≤ length xs → take (length xs - k) (drop k (xs ++ ys)) ≡ drop k xs
take_first zero xs ys low = let same : length xs - 0 ≡ length xs = omega arith in rw same (take_whole xs ys)
take_first (suc k) [] ys low = absurd (omega arith)
take_first (suc k) (x ∷ xs) ys low = let same : length (x ∷ xs) - suc k ≡ length xs - k = omega arith in rw same (take_first k xs ys (omega arith))

pub take_on : {A : Type 0} (k a : ℕ) (xs : List A) → k ≤ a → take k xs ++ take (a - k) (drop k xs) ≡ take a xs
take_on zero a xs low = let same : a - 0 ≡ a = omega arith in rw same refl
take_on (suc k) zero xs low = absurd (omega arith)
take_on {A = A} (suc k) (suc a) [] low = take_none {A = A} [] (suc a - suc k) refl
take_on (suc k) (suc a) (x ∷ xs) low = let same : suc a - suc k ≡ a - k = omega arith in rw same (ap (λ (l : List _). x ∷ l) (take_on k a xs (omega arith)))

pub drop_on : {A : Type 0} (k a : ℕ) (xs : List A) → k ≤ a → drop (a - k) (drop k xs) ≡ drop a xs
drop_on zero a xs low = let same : a - 0 ≡ a = omega arith in rw same refl
drop_on (suc k) zero xs low = absurd (omega arith)
drop_on {A = A} (suc k) (suc a) [] low = drop_none {A = A} [] (suc a - suc k) refl
drop_on (suc k) (suc a) (x ∷ xs) low = let same : suc a - suc k ≡ a - k = omega arith in rw same (drop_on k a xs (omega arith))

pub after_ops-append : (docs : List Doc) (a b : List Op) → after_ops docs (a ++ b) ≡ after_ops (after_ops docs a) b
after_ops-append docs [] b = refl
after_ops-append docs (op ∷ a) b = after_ops-append (after_op docs op) a b

-- ---- the publish in flight

-- what the publish in flight found written, and its cut, in words of the present
pub record FliesWith (past : Past) (at : At) : Type 0 where
  pub found : operations_at_start at past ≡ operations_before_generation past ++ take (accepted_at_start at past) (operations_of_generation past)
  pub low : published_in_generation past ≤ accepted_at_start at past
  pub count : length (cut_of (before_start at past)) ≡ accepted_at_start at past - published_in_generation past
  pub cut : cut_of (before_start at past) ≡ take (accepted_at_start at past - published_in_generation past) (cut_of past)

flies_by : (past start : Past) (at : At) → start ≡ before_start at past → published_in_generation past ≡ published_in_generation start → Reigns start past → Written start
    → operations_at_start at past ≡ operations_written start → FliesWith past at
flies_by past start at is published reigns was found =
    let low : published_in_generation past ≤ length (operations_of_generation start) = subst (λ (j : ℕ). j ≤ length (operations_of_generation start)) (sym published) was.within in
    let accepted : accepted_at_start at past ≡ length (operations_of_generation start) = ap (λ (p : Past). length (operations_of_generation p)) (sym is) in
    let cut : cut_of (before_start at past) ≡ drop (published_in_generation past) (operations_of_generation start) =
    ap cut_of (sym is) ∙ ap (λ (j : ℕ). drop j (operations_of_generation start)) (sym published) in
    record {
      found = found ∙ (base_written start ∙ λ i. (sym reigns.base i) ++
          ((sym (take_whole (operations_of_generation start) reigns.more) ∙ λ j. take (sym accepted j) (sym reigns.accepted j)) i));
      low = subst (λ (j : ℕ). published_in_generation past ≤ j) (sym accepted) low;
      count = ap length cut ∙ (length-drop (published_in_generation past) (operations_of_generation start) ∙ ap (λ (j : ℕ). j - published_in_generation past) (sym accepted));
      cut = cut ∙ (sym (take_first (published_in_generation past) (operations_of_generation start) reigns.more low)
          ∙ λ i. take (sym accepted i - published_in_generation past) (drop (published_in_generation past) (sym reigns.accepted i)));
    }

pub flies_with : (size : ℕ) (past : Past) (at : At) → IsLegalPast size past → AreInTurn past → publish_in_flight past ≡ Some at → FliesWith past at
flies_with size past at legal turns is =
    let f = flying size past at legal turns is in
    let kept = start_kept size at past Publishing legal f.entry in
    let reigns = reigns_on size at past legal kept.running f.source in
    flies_by past (before_start at past) at refl f.published reigns (written_start size past at legal) (start_written at past)
  where
    written_start : (size : ℕ) (past : Past) (at : At) → IsLegalPast size past → Written (before_start at past)
    written_start size past at legal =
        let s = since_start at past in
        written size (before_start at past) (legal_before size s.newer (before_start at past) (subst (IsLegalPast size) s.split legal))
