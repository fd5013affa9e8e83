-- One more entry keeps what is known of versions, and what that says.
use Rattle.std.proofs.Common.{◌≡◌, ◌==◌, ◌<◌, ◌≤◌, ◌+◌, ◌∙◌, ℕ, [], ◌∷◌, length, Bool, true, false, ◌&&◌, ◌||◌, nat_lt, nat_le, if◌then◌else◌, refl, sym, ap, subst, arith}
use Rattle.std.proofs.lemmas.Bool.{eq-eqb, lt-ltb}
use Rattle.std.proofs.lemmas.Bool.Decides.{nat_tests}
use Rattle.nrt_base.specs.declared.numbers.Gen.{Gen}
use Rattle.nrt_base.specs.declared.numbers.NodeNo.{NodeNo}
use Rattle.nrt_base.specs.declared.numbers.Version.{Version}
use Rattle.history_rules.specs.declared.entry.Entry.{Entry}
use Rattle.history_rules.specs.declared.entry.Event.{Event}
use Rattle.history_rules.specs.declared.entry.Event.TheVariants.{Published, Promoted}
use Rattle.history_rules.specs.Nodes.{Past, is_made_in_generation, is_point}
use Rattle.known_past.specs.declared.versions.KnownVersions.{KnownVersions}
use Rattle.known_past.specs.Versions.{made_place, promoted_place, made_known, VersionsAreKnown}

-- where the entry makes this version
noted : (past : Past) (v : Version) (old new : KnownVersions) (size w : ℕ) → VersionsAreKnown past old → size ≡ length past
    → made_known new.made w ≡ (if v.0 == w then size + 1 else made_known old.made w) → made_known new.made w ≡ (if v.0 == w then length past + 1 else made_place w past)
noted past v old new size w known is new_is =
    new_is ∙ ap (λ (k : ℕ). if v.0 == w then k + 1 else made_known old.made w) is ∙ ap (λ (k : ℕ). if v.0 == w then length past + 1 else k) (known.made w)

pub published_next : (past : Past) (e : Entry) (g : Gen) (v : Version) (old new : KnownVersions) (size : ℕ) → e.event ≡ Published g v → VersionsAreKnown past old → size ≡ length past
    → new.promoted ≡ old.promoted → ((w : ℕ) → made_known new.made w ≡ (if v.0 == w then size + 1 else made_known old.made w)) → VersionsAreKnown (e ∷ past) new
published_next past e g v old new size is known count promoted made =
    subst (λ (event : Event). VersionsAreKnown (record { at = e.at; event = event } ∷ past) new) (sym is)
    (record { made = λ w. noted past v old new size w known count (made w); promoted = promoted ∙ known.promoted })

pub promoted_next : (past : Past) (e : Entry) (n : NodeNo) (g : Gen) (f v : Version) (old new : KnownVersions) (size : ℕ) → e.event ≡ Promoted n g f v → VersionsAreKnown past old → size ≡ length past
    → new.promoted ≡ size + 1 → ((w : ℕ) → made_known new.made w ≡ (if v.0 == w then size + 1 else made_known old.made w)) → VersionsAreKnown (e ∷ past) new
promoted_next past e n g f v old new size is known count promoted made =
    subst (λ (event : Event). VersionsAreKnown (record { at = e.at; event = event } ∷ past) new) (sym is)
    (record { made = λ w. noted past v old new size w known count (made w); promoted = promoted ∙ ap (λ (k : ℕ). k + 1) count })

pub none_next : (past : Past) (e : Entry) (versions : KnownVersions) → ((g : Gen) (v : Version) → e.event ≡ Published g v → ⊥)
    → ((n : NodeNo) (g : Gen) (f v : Version) → e.event ≡ Promoted n g f v → ⊥) → VersionsAreKnown past versions → VersionsAreKnown (e ∷ past) versions
none_next past e versions published promoted known = by_event e.event published promoted
  where
    by_event : (event : Event) → ((g : Gen) (v : Version) → event ≡ Published g v → ⊥) → ((n : NodeNo) (g : Gen) (f v : Version) → event ≡ Promoted n g f v → ⊥)
        → VersionsAreKnown (record { at = e.at; event = event } ∷ past) versions
    by_event (Published g v) published promoted = absurd (published g v refl)
    by_event (Promoted n g f v) published promoted = absurd (promoted n g f v refl)
    by_event event published promoted = record { made = known.made; promoted = known.promoted }

made_low : (v : ℕ) (past : Past) → made_place v past ≤ length past
made_low v [] = omega arith
made_low v (e ∷ past) = by_event e.event (made_low v past)
  where
    chosen : (b : Bool) → made_place v past ≤ length past → (if b then length past + 1 else made_place v past) ≤ length (e ∷ past)
    chosen true low = omega arith
    chosen false low = omega (arith, low)

    by_event : (event : Event) → made_place v past ≤ length past → made_place v (record { at = e.at; event = event } ∷ past) ≤ length (e ∷ past)
    by_event (Published g w) low = chosen (w.0 == v) low
    by_event (Promoted n g f w) low = chosen (w.0 == v) low
    by_event event low = omega (arith, low)

promoted_low : (past : Past) → promoted_place past ≤ length past
promoted_low [] = omega arith
promoted_low (e ∷ past) = by_event e.event (promoted_low past)
  where
    by_event : (event : Event) → promoted_place past ≤ length past → promoted_place (record { at = e.at; event = event } ∷ past) ≤ length (e ∷ past)
    by_event (Promoted n g f w) low = omega arith
    by_event event low = omega (arith, low)

is_made : (v : ℕ) (past : Past) → (nat_lt 0 (made_place v past) && nat_le (promoted_place past) (made_place v past)) ≡ is_made_in_generation v past
is_made v [] = refl
is_made v (e ∷ past) = by_event e.event (is_made v past)
  where
    by_event : (event : Event) → (nat_lt 0 (made_place v past) && nat_le (promoted_place past) (made_place v past)) ≡ is_made_in_generation v past
        → (nat_lt 0 (made_place v (record { at = e.at; event = event } ∷ past)) && nat_le (promoted_place (record { at = e.at; event = event } ∷ past)) (made_place v (record { at = e.at; event = event } ∷ past)))
        ≡ is_made_in_generation v (record { at = e.at; event = event } ∷ past)
    by_event (Published g w) was = published (w.0 == v) was
      where
        published : (b : Bool) → (nat_lt 0 (made_place v past) && nat_le (promoted_place past) (made_place v past)) ≡ is_made_in_generation v past
            → (nat_lt 0 (if b then length past + 1 else made_place v past) && nat_le (promoted_place past) (if b then length past + 1 else made_place v past))
            ≡ (if b then true else is_made_in_generation v past)
        published true was = let low = promoted_low past in grind (arith, nat_tests)
        published false was = was
    by_event (Promoted n g f w) was = promoted (w.0 == v)
      where
        promoted : (b : Bool) → (nat_lt 0 (if b then length past + 1 else made_place v past) && nat_le (length past + 1) (if b then length past + 1 else made_place v past)) ≡ b
        promoted true = grind (arith, nat_tests)
        promoted false = let low = made_low v past in grind (arith, nat_tests)
    by_event event was = was

made_by : (past : Past) (versions : KnownVersions) (v place : ℕ) → VersionsAreKnown past versions → place ≡ made_known versions.made v
    → (nat_lt 0 place && nat_le versions.promoted place) ≡ is_made_in_generation v past
made_by past versions v place known is =
    let there : place ≡ made_place v past = is ∙ known.made v in
    ap (λ (k : ℕ). nat_lt 0 k && nat_le versions.promoted k) there ∙ ap (λ (k : ℕ). nat_lt 0 (made_place v past) && nat_le k (made_place v past)) known.promoted ∙ is_made v past

pub made_then : (past : Past) (versions : KnownVersions) (v place : ℕ) → VersionsAreKnown past versions → place ≡ made_known versions.made v → 0 < place
    → nat_le versions.promoted place ≡ is_made_in_generation v past
made_then past versions v place known is some =
    ap (λ (b : Bool). b && nat_le versions.promoted place) (sym (lt-ltb 0 place some)) ∙ made_by past versions v place known is

pub made_else : (past : Past) (versions : KnownVersions) (v place : ℕ) → VersionsAreKnown past versions → place ≡ made_known versions.made v → place ≤ 0
    → false ≡ is_made_in_generation v past
made_else past versions v place known is none =
    let test : nat_lt 0 place ≡ false = grind (arith, nat_tests, none) in
    ap (λ (b : Bool). b && nat_le versions.promoted place) (sym test) ∙ made_by past versions v place known is

has_point : (v : ℕ) (past : Past) → ((v == 1) || nat_lt 0 (made_place v past)) ≡ is_point v past
has_point v [] = or_none (v == 1)
  where
    or_none : (b : Bool) → (b || false) ≡ b
    or_none true = refl
    or_none false = refl
has_point v (e ∷ past) = by_event e.event (has_point v past)
  where
    made : (b : Bool) → ((v == 1) || nat_lt 0 (made_place v past)) ≡ is_point v past
        → ((v == 1) || nat_lt 0 (if b then length past + 1 else made_place v past)) ≡ (if b then true else is_point v past)
    made true was = grind (arith, nat_tests)
    made false was = was

    by_event : (event : Event) → ((v == 1) || nat_lt 0 (made_place v past)) ≡ is_point v past
        → ((v == 1) || nat_lt 0 (made_place v (record { at = e.at; event = event } ∷ past))) ≡ is_point v (record { at = e.at; event = event } ∷ past)
    by_event (Published g w) was = made (w.0 == v) was
    by_event (Promoted n g f w) was = made (w.0 == v) was
    by_event event was = was

point_by : (past : Past) (versions : KnownVersions) (v place : ℕ) → VersionsAreKnown past versions → place ≡ made_known versions.made v → ((v == 1) || nat_lt 0 place) ≡ is_point v past
point_by past versions v place known is = ap (λ (k : ℕ). (v == 1) || nat_lt 0 k) (is ∙ known.made v) ∙ has_point v past

-- there is a point of version 1
pub point_then : (past : Past) (v : ℕ) → v ≡ 1 → true ≡ is_point v past
point_then past v is = ap (λ (b : Bool). b || nat_lt 0 (made_place v past)) (sym (eq-eqb v 1 is)) ∙ has_point v past

pub point_else : (past : Past) (versions : KnownVersions) (v place : ℕ) → VersionsAreKnown past versions → place ≡ made_known versions.made v → (v ≡ 1 → ⊥) → nat_lt 0 place ≡ is_point v past
point_else past versions v place known is other =
    let test : (v == 1) ≡ false = grind (arith, nat_tests, other) in
    ap (λ (b : Bool). b || nat_lt 0 place) (sym test) ∙ point_by past versions v place known is
