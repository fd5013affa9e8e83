-- Points of a legal history: their versions ascend, their documents stay, their operations were accepted before them.
use Rattle.std.proofs.Common.{◌≡◌, ◌≤◌, ◌<◌, ◌+◌, ◌==◌, ◌&&◌, ℕ, suc, zero, List, [], ◌∷◌, ◌++◌, Bool, true, false, Option, Some, if◌then◌else◌, length, map, max, refl, sym, ap, ◌∙◌, subst, arith, length-append}
use Rattle.std.proofs.lemmas.Bool.Decides.{nat_tests}
use Rattle.std.proofs.lemmas.List.{map-append}
use Rattle.std.proofs.lemmas.Option.{slice_get_within}
use Rattle.std.specs.List.{AllByRecursion, slice_get}
use Rattle.std.specs.List.Sorted.{IsStrictlySortedBy}
use Rattle.std.specs.Ordering.{nat_cmp}
use Rattle.std.specs.declared.cmp.Ordering.TheVariants.{Less}
use Rattle.nrt_base.specs.declared.numbers.At.{At}
use Rattle.nrt_base.proofs.Plain.{slice_get-push}
use Rattle.documents.specs.declared.operation.Op.{Op}
use Rattle.history_rules.specs.declared.point.Point.{Point}
use Rattle.history_rules.specs.declared.entry.Entry.{Entry}
use Rattle.history_rules.specs.declared.entry.Event.{Event}
use Rattle.history_rules.specs.declared.entry.Event.TheVariants.{Accepted, Published, Promoted}
use Rattle.documents.specs.Documents.{documents_after}
use Rattle.history_rules.specs.Nodes.{Past, version_of, newest_version, accepted_count}
use Rattle.history_rules.specs.Lines.{same_at, is_start}
use Rattle.history_rules.specs.Points.{operations_written, operations_at_start, operations_at, documents_at, points_of}
use Rattle.history_rules.specs.Legal.{KeepsRule, IsLegalPast}
use Rattle.history_rules.specs.Steps.{newest_by, accepted_by, written_by, operations_by}
use Rattle.documents.proofs.DocumentLemmas.{length-documents_after-le}
use Rattle.history_rules.specs.Laws.{VersionsAscend, accepted_operations, all_accepted_by, StandInOrder}

-- one more number above all
pub ascending_last : (ns : List ℕ) (n : ℕ) → IsStrictlySortedBy nat_cmp ns → AllByRecursion (λ m. m < n) ns → IsStrictlySortedBy nat_cmp (ns ++ n ∷ [])
unfolding IsStrictlySortedBy
ascending_last [] n ascending below = (tt, tt)
ascending_last (m ∷ ns) n ascending below = (first ns ascending.0, ascending_last ns n ascending.1 below.1)
  where
    last : nat_cmp m n ≡ Less
    last = let less : m < n = below.0 in grind (arith, nat_tests)

    first : (ks : List ℕ) → AllByRecursion (λ k. nat_cmp m k ≡ Less) ks → AllByRecursion (λ k. nat_cmp m k ≡ Less) (ks ++ n ∷ [])
    first [] all = (last, tt)
    first (k ∷ ks) all = (all.0, first ks all.1)

all_higher : (a b : ℕ) (ns : List ℕ) → a ≤ b → AllByRecursion (λ m. m ≤ a) ns → AllByRecursion (λ m. m ≤ b) ns
all_higher a b [] high all = tt
all_higher a b (n ∷ ns) high all = (let low = all.0 in omega arith, all_higher a b ns high all.1)

all_below : (a b : ℕ) (ns : List ℕ) → a < b → AllByRecursion (λ m. m ≤ a) ns → AllByRecursion (λ m. m < b) ns
all_below a b [] high all = tt
all_below a b (n ∷ ns) high all = (let low = all.0 in omega arith, all_below a b ns high all.1)

all_last : (a n : ℕ) (ns : List ℕ) → AllByRecursion (λ m. m ≤ a) ns → n ≤ a → AllByRecursion (λ m. m ≤ a) (ns ++ n ∷ [])
all_last a n [] all low = (low, tt)
all_last a n (m ∷ ns) all low = (all.0, all_last a n ns all.1 low)

abbrev versions_in : List Point → List ℕ
versions_in points = map (λ p. p.version.0) points

-- the versions of the points ascend to the newest
pub record Ascend (points : List Point) (newest : ℕ) : Type 0 where
  pub ascending : VersionsAscend points
  pub low : AllByRecursion (λ v. v ≤ newest) (versions_in points)

one_more : (points : List Point) (p : Point) (newest : ℕ) → Ascend points newest → newest < p.version.0 → Ascend (points ++ p ∷ []) (max newest p.version.0)
one_more points p newest before above =
    let split : versions_in (points ++ p ∷ []) ≡ versions_in points ++ p.version.0 ∷ [] = map-append (λ (q : Point). q.version.0) points (p ∷ []) in
    record {
      ascending = subst (λ (ns : List ℕ). IsStrictlySortedBy nat_cmp ns) (sym split)
          (ascending_last (versions_in points) p.version.0 before.ascending (all_below newest p.version.0 (versions_in points) above before.low));
      low = subst (λ (ns : List ℕ). AllByRecursion (λ v. v ≤ max newest p.version.0) ns) (sym split)
          (all_last (max newest p.version.0) p.version.0 (versions_in points) (all_higher newest (max newest p.version.0) (versions_in points) (omega arith) before.low) (omega arith));
    }

ascend_step : (size : ℕ) (past : Past) (at : At) (e : Event) → KeepsRule size past at e → Ascend (points_of past) (newest_version past)
    → Ascend (points_of (record { at = at; event = e } ∷ past)) (newest_by e (newest_version past))
ascend_step size past at (Published g w) keeps before =
    let next : w.0 ≡ newest_version past + 1 = keeps.next in
    one_more (points_of past) (record { generation = g; version = w; docs = documents_at (record { at = at; event = Published g w } ∷ past) w.0 }) (newest_version past) before (omega arith)
ascend_step size past at (Promoted m g f w) keeps before =
    let above : w.0 ≡ f.0 + 1 = keeps.above in
    let high : newest_version past ≤ f.0 = keeps.high in
    one_more (points_of past) (record { generation = g; version = w; docs = documents_at (record { at = at; event = Promoted m g f w } ∷ past) w.0 }) (newest_version past) before (omega arith)
ascend_step size past at e keeps before = before

opening_ascends : Ascend (points_of []) 1
unfolding IsStrictlySortedBy
opening_ascends = record { ascending = (tt, tt); low = (omega arith, tt) }

pub points_ascend : (size : ℕ) (past : Past) → IsLegalPast size past → Ascend (points_of past) (newest_version past)
points_ascend size [] legal = opening_ascends
points_ascend size (e ∷ past) legal = ascend_step size past e.at e.event legal.0 (points_ascend size past legal.1)

newest_rises_step : (size : ℕ) (past : Past) (e : Event) → newest_version past ≤ newest_by e (newest_version past)
newest_rises_step size past (Published g w) = omega arith
newest_rises_step size past (Promoted m g f w) = omega arith
newest_rises_step size past e = omega arith

stays_step : (size : ℕ) (past : Past) (at : At) (e : Event) (v : ℕ) → KeepsRule size past at e → v ≤ newest_version past
    → operations_by e past (operations_at past) (operations_at_start at past) v ≡ operations_at past v
stays_step size past at (Published g w) v keeps known =
    let next : w.0 ≡ newest_version past + 1 = keeps.next in
    let other : (w.0 == v) ≡ false = grind (arith, nat_tests) in
    rw other refl
stays_step size past at (Promoted m g f w) v keeps known =
    let above : w.0 ≡ f.0 + 1 = keeps.above in
    let high : newest_version past ≤ f.0 = keeps.high in
    let other : (w.0 == v) ≡ false = grind (arith, nat_tests) in
    rw other refl
stays_step size past at e v keeps known = refl

-- the operations of a version stay
pub operations_stay : (size : ℕ) (more past : Past) (v : ℕ) → IsLegalPast size (more ++ past) → v ≤ newest_version past
    → (operations_at (more ++ past) v ≡ operations_at past v) × (v ≤ newest_version (more ++ past))
operations_stay size [] past v legal known = (refl, known)
operations_stay size (e ∷ more) past v legal known =
    let before = operations_stay size more past v legal.1 known in
    let rise = newest_rises_step size (more ++ past) e.event in
    (stays_step size (more ++ past) e.at e.event v legal.0 before.1 ∙ before.0, omega (arith, before.1))

-- the documents of a version stay, whatever happens
pub documents_stay_lem : (size : ℕ) (more past : Past) (v : ℕ) → IsLegalPast size (more ++ past) → v ≤ newest_version past
    → documents_at (more ++ past) v ≡ documents_at past v
documents_stay_lem size more past v legal known = ap documents_after (operations_stay size more past v legal known).0

got_more : {A : Type 0} (all more : List A) (p : ℕ) (x : A) → slice_get all p ≡ Some x → slice_get (all ++ more) p ≡ Some x
got_more [] more p x got = absurd (cc)
got_more (a ∷ all) more zero x got = got
got_more (a ∷ all) more (suc p) x got = got_more all more p x got

there_more : (places : List ℕ) (ops all more : List Op) → map (slice_get all) places ≡ map Some ops → map (slice_get (all ++ more)) places ≡ map Some ops
there_more [] ops all more there = there
there_more (p ∷ places) [] all more there = absurd (cc)
there_more (p ∷ places) (op ∷ ops) all more there =
    let first : slice_get all p ≡ Some op = cc in
    let rest : map (slice_get all) places ≡ map Some ops = cc in
    let first' = got_more all more p op first in
    let rest' = there_more places ops all more rest in
    rw (first', rest') refl

there_within : (places : List ℕ) (ops all : List Op) → map (slice_get all) places ≡ map Some ops → AllByRecursion (λ p. p < length all) places
there_within [] ops all there = tt
there_within (p ∷ places) [] all there = absurd (cc)
there_within (p ∷ places) (op ∷ ops) all there =
    let first : slice_get all p ≡ Some op = cc in
    let rest : map (slice_get all) places ≡ map Some ops = cc in
    (slice_get_within all p op first, there_within places ops all rest)

nowhere : (all : List Op) → StandInOrder [] all
unfolding IsStrictlySortedBy
nowhere all = record { places = []; ascending = tt; there = refl }

among_more : (ops all : List Op) (op : Op) → StandInOrder ops all → StandInOrder ops (all ++ op ∷ [])
among_more ops all op stand = record { places = stand.places; ascending = stand.ascending; there = there_more stand.places ops all (op ∷ []) stand.there }

with_last : (ops all : List Op) (op : Op) → StandInOrder ops all → StandInOrder (ops ++ op ∷ []) (all ++ op ∷ [])
with_last ops all op stand =
    let places = stand.places in
    record {
      places = places ++ length all ∷ [];
      ascending = ascending_last places (length all) stand.ascending (there_within places ops all stand.there);
      there =
          map-append (slice_get (all ++ op ∷ [])) places (length all ∷ [])
          ∙ ap (λ (l : List (Option Op)). l ++ slice_get (all ++ op ∷ []) (length all) ∷ []) (there_more places ops all (op ∷ []) stand.there)
          ∙ ap (λ (o : Option Op). map Some ops ++ o ∷ []) (slice_get-push all op)
          ∙ sym (map-append Some ops (op ∷ []));
    }

-- what is written, what a publish took and what a version has were accepted before
pub record AreAccepted (past : Past) : Type 0 where
  pub written : StandInOrder (operations_written past) (accepted_operations past)
  pub started : (at : At) → StandInOrder (operations_at_start at past) (accepted_operations past)
  pub points : (v : ℕ) → StandInOrder (operations_at past v) (accepted_operations past)

in_either : (b : Bool) (xs ys all : List Op) → StandInOrder xs all → StandInOrder ys all → StandInOrder (if b then xs else ys) all
in_either true xs ys all left right = left
in_either false xs ys all left right = right

still_accepted : (e : Event) (ops all : List Op) → StandInOrder ops all → StandInOrder ops (all_accepted_by e all)
still_accepted (Accepted seq op) ops all stand = among_more ops all op stand
still_accepted e ops all stand = stand

written_accepted : (past : Past) (e : Event) → AreAccepted past
    → StandInOrder (written_by e past (operations_at past) (operations_written past)) (all_accepted_by e (accepted_operations past))
written_accepted past (Accepted seq op) before = with_last (operations_written past) (accepted_operations past) op before.written
written_accepted past (Promoted m g f w) before = before.points (version_of m.0 past)
written_accepted past e before = before.written

points_accepted : (past : Past) (at : At) (e : Event) (v : ℕ) → AreAccepted past
    → StandInOrder (operations_by e past (operations_at past) (operations_at_start at past) v) (all_accepted_by e (accepted_operations past))
points_accepted past at (Accepted seq op) v before = among_more (operations_at past v) (accepted_operations past) op (before.points v)
points_accepted past at (Published g w) v before =
    in_either (w.0 == v) (operations_at_start at past) (operations_at past v) (accepted_operations past) (before.started at) (before.points v)
points_accepted past at (Promoted m g f w) v before =
    in_either (w.0 == v) (operations_at past (version_of m.0 past)) (operations_at past v) (accepted_operations past) (before.points (version_of m.0 past)) (before.points v)
points_accepted past at e v before = before.points v

pub operations_accepted : (past : Past) → AreAccepted past
operations_accepted [] = record { written = nowhere []; started = λ at. nowhere []; points = λ v. nowhere [] }
operations_accepted (e ∷ past) =
    let before = operations_accepted past in
    record {
      written = written_accepted past e.event before;
      started = λ at.
          in_either (is_start e.event && same_at e.at at) (operations_written past) (operations_at_start at past) (all_accepted_by e.event (accepted_operations past))
          (still_accepted e.event (operations_written past) (accepted_operations past) before.written)
          (still_accepted e.event (operations_at_start at past) (accepted_operations past) (before.started at));
      points = λ v. points_accepted past e.at e.event v before;
    }

-- the lengths of what is written, of what a publish took and of what a version has
pub record Counts (past : Past) : Type 0 where
  pub written : length (operations_written past) ≤ accepted_count past
  pub started : (at : At) → length (operations_at_start at past) ≤ accepted_count past
  pub points : (v : ℕ) → length (operations_at past v) ≤ accepted_count past

accepted_rises : (e : Event) (n : ℕ) → n ≤ accepted_by e n
accepted_rises (Accepted seq op) n = omega arith
accepted_rises e n = omega arith

written_counts : (past : Past) (e : Event) → Counts past → length (written_by e past (operations_at past) (operations_written past)) ≤ accepted_by e (accepted_count past)
written_counts past (Accepted seq op) before = omega (arith, before.written, length-append (operations_written past) (op ∷ []))
written_counts past (Promoted m g f w) before = before.points (version_of m.0 past)
written_counts past e before = before.written

either_counts : (b : Bool) (xs ys : List Op) (n : ℕ) → length xs ≤ n → length ys ≤ n → length (if b then xs else ys) ≤ n
either_counts true xs ys n left right = left
either_counts false xs ys n left right = right

points_counts : (past : Past) (at : At) (e : Event) (v : ℕ) → Counts past
    → length (operations_by e past (operations_at past) (operations_at_start at past) v) ≤ accepted_by e (accepted_count past)
points_counts past at (Accepted seq op) v before = let old = before.points v in omega arith
points_counts past at (Published g w) v before =
    either_counts (w.0 == v) (operations_at_start at past) (operations_at past v) (accepted_count past) (before.started at) (before.points v)
points_counts past at (Promoted m g f w) v before =
    either_counts (w.0 == v) (operations_at past (version_of m.0 past)) (operations_at past v) (accepted_count past) (before.points (version_of m.0 past)) (before.points v)
points_counts past at e v before = before.points v

pub operations_counted : (past : Past) → Counts past
operations_counted [] = record { written = omega arith; started = λ at. omega arith; points = λ v. omega arith }
operations_counted (e ∷ past) =
    let before = operations_counted past in
    let rise = accepted_rises e.event (accepted_count past) in
    record {
      written = written_counts past e.event before;
      started = λ at.
          let old = before.started at in
          either_counts (is_start e.event && same_at e.at at) (operations_written past) (operations_at_start at past) (accepted_by e.event (accepted_count past))
          (omega (arith, before.written)) (omega arith);
      points = λ v. points_counts past e.at e.event v before;
    }

-- a point has no more documents than operations were accepted
pub length-documents_at-le : (past : Past) (v : ℕ) → length (documents_at past v) ≤ accepted_count past
length-documents_at-le past v = omega (arith, length-documents_after-le (operations_at past v), (operations_counted past).points v)

-- a point has the documents of its version, which is not above the newest
abbrev IsTrueOf : Past → Point → Type 0
IsTrueOf past p = (p.docs ≡ documents_at past p.version.0) × (p.version.0 ≤ newest_version past)

still_true : (size : ℕ) (past : Past) (e : Entry) (points : List Point) → IsLegalPast size (e ∷ past)
    → AllByRecursion (IsTrueOf past) points → AllByRecursion (IsTrueOf (e ∷ past)) points
still_true size past e [] legal all = tt
still_true size past e (p ∷ points) legal all =
    let stays = operations_stay size (e ∷ []) past p.version.0 legal all.0.1 in
    ((all.0.0 ∙ ap documents_after (sym stays.0), stays.1), still_true size past e points legal all.1)

all_last_true : (past : Past) (points : List Point) (p : Point) → AllByRecursion (IsTrueOf past) points → IsTrueOf past p → AllByRecursion (IsTrueOf past) (points ++ p ∷ [])
all_last_true past [] p all last = (last, tt)
all_last_true past (q ∷ points) p all last = (all.0, all_last_true past points p all.1 last)

true_step : (size : ℕ) (past : Past) (at : At) (e : Event) → IsLegalPast size (record { at = at; event = e } ∷ past) → AllByRecursion (IsTrueOf past) (points_of past)
    → AllByRecursion (IsTrueOf (record { at = at; event = e } ∷ past)) (points_of (record { at = at; event = e } ∷ past))
true_step size past at (Published g w) legal all =
    let now : Past = record { at = at; event = Published g w } ∷ past in
    all_last_true now (points_of past) (record { generation = g; version = w; docs = documents_at now w.0 })
    (still_true size past (record { at = at; event = Published g w }) (points_of past) legal all) (refl, omega arith)
true_step size past at (Promoted m g f w) legal all =
    let now : Past = record { at = at; event = Promoted m g f w } ∷ past in
    all_last_true now (points_of past) (record { generation = g; version = w; docs = documents_at now w.0 })
    (still_true size past (record { at = at; event = Promoted m g f w }) (points_of past) legal all) (refl, omega arith)
true_step size past at e legal all = still_true size past (record { at = at; event = e }) (points_of past) legal all

pub points_are_true : (size : ℕ) (past : Past) → IsLegalPast size past → AllByRecursion (IsTrueOf past) (points_of past)
points_are_true size [] legal = ((refl, omega arith), tt)
points_are_true size (e ∷ past) legal = true_step size past e.at e.event legal (points_are_true size past legal.1)

pub true_there : (past : Past) (points : List Point) (i : ℕ) (p : Point) → AllByRecursion (IsTrueOf past) points → slice_get points i ≡ Some p
    → p.docs ≡ documents_at past p.version.0
true_there past [] i p all there = absurd (cc)
true_there past (q ∷ points) zero p all there =
    let same : q ≡ p = cc in subst (λ (x : Point). x.docs ≡ documents_at past x.version.0) same all.0.0
true_there past (q ∷ points) (suc i) p all there = true_there past points i p all.1 there
