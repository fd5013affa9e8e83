-- The copy in flight to a node of the greatest version is the last that began, where its line has no reply since, and neither the node nor the primary has crashed.
use Rattle.std.proofs.Common.{◌≡◌, ◌==◌, ◌≤◌, ◌+◌, ◌∙◌, ℕ, [], ◌∷◌, length, Bool, true, false, ◌&&◌, ◌||◌, nat_le, max, if◌then◌else◌, Option, Some, None, refl, sym, ap, arith}
use Rattle.std.proofs.Math.Bool.{and-false}
use Rattle.std.proofs.lemmas.Bool.{le-leb}
use Rattle.std.proofs.lemmas.Bool.Decides.{nat_tests}
use Rattle.nrt_base.specs.declared.numbers.At.{At}
use Rattle.nrt_base.specs.declared.numbers.NodeNo.{NodeNo}
use Rattle.nrt_base.specs.declared.numbers.Version.{Version}
use Rattle.history_rules.specs.declared.entry.Entry.{Entry}
use Rattle.history_rules.specs.declared.entry.Event.{Event}
use Rattle.history_rules.specs.declared.entry.Event.TheVariants.{Copying, Crashed}
use Rattle.history_rules.specs.Nodes.{Past, is_at, primary_of}
use Rattle.history_rules.specs.Lines.{same_at, is_reply, without_at, copy_in_flight}
use Rattle.history_tables.specs.NodeRows.{crashed_at}
use Rattle.history_tables.specs.Numbering.{primary_crashed}
use Rattle.history_book.proofs.ReignLaws.{crashed_low, primary_crashed_low}
use Rattle.known_past.specs.declared.nodes.LinePlace.{LinePlace}
use Rattle.known_past.specs.Lines.{reply_place}
use Rattle.known_past.specs.Nodes.{highest_copied, last_copy}
use Rattle.known_past.proofs.LineLaws.{reply_low}

-- what a copy that began leaves in flight
abbrev shown : LinePlace → Bool → Option At
shown f b = if b then Some f.at else None

abbrev lives : ℕ → Past → LinePlace → Bool
lives n past f = nat_le (crashed_at n past) f.place && nat_le (primary_crashed past) f.place

abbrev is_open : ℕ → Past → LinePlace → Bool
is_open n past f = nat_le (reply_place f.at past) f.place && lives n past f

abbrev copy_by : ℕ → Past → Option LinePlace → Option At
copy_by n past o = elim o [ None ↦ None | Some f ↦ shown f (is_open n past f) ]

abbrev pub IsLow : ℕ → Option LinePlace → Type 0
IsLow size None = Unit {0}
IsLow size (Some f) = f.place + 1 ≤ size

pub higher : (past : Past) (e : Entry) (o : Option LinePlace) → IsLow (length past) o → IsLow (length (e ∷ past)) o
higher past e None low = tt
higher past e (Some f) low = omega (arith, low)

copy_low : (n : ℕ) (past : Past) → IsLow (length past) (last_copy n past)
copy_low n [] = tt
copy_low n (e ∷ past) = by_event e.event (higher past e (last_copy n past) (copy_low n past))
  where
    by_event : (event : Event) → IsLow (length (e ∷ past)) (last_copy n past) → IsLow (length (e ∷ past)) (last_copy n (record { at = e.at; event = event } ∷ past))
    by_event (Copying m v) low =
        elim ((m.0 == n) && nat_le (highest_copied n past) v.0) as (λ b. IsLow (length (e ∷ past)) (if b then Some (record { at = e.at; place = length past }) else last_copy n past))
        [ true ↦ omega arith | false ↦ low ]
    by_event event low = low

gone : (at : At) (f : LinePlace) (b : Bool) → same_at at f.at ≡ true → without_at at (shown f b) ≡ None
gone at f true own = ap (λ (t : Bool). if t then None else Some f.at) own
gone at f false own = refl

kept : (at : At) (f : LinePlace) (b : Bool) → same_at at f.at ≡ false → without_at at (shown f b) ≡ shown f b
kept at f true other = ap (λ (t : Bool). if t then None else Some f.at) other
kept at f false other = refl

passed : (past : Past) (f : LinePlace) → f.place + 1 ≤ length past → nat_le (length past + 1) f.place ≡ false
passed past f low = grind (arith, nat_tests, low)

-- a reply takes the copy of its own line away, and leaves that of another
replied : (n : ℕ) (past : Past) (at : At) (f : LinePlace) (s : Bool) → same_at at f.at ≡ s → f.place + 1 ≤ length past
    → without_at at (shown f (is_open n past f)) ≡ shown f (nat_le (if s then length past + 1 else reply_place f.at past) f.place && lives n past f)
replied n past at f true own low = gone at f (is_open n past f) own ∙ sym (ap (λ (b : Bool). shown f (b && lives n past f)) (passed past f low))
replied n past at f false other low = kept at f (is_open n past f) other

-- what a reply leaves, where the last copy is this
reply_step : (n : ℕ) (past : Past) (at : At) (r : Bool) (o : Option LinePlace) → IsLow (length past) o
    → (if r then without_at at (copy_by n past o) else copy_by n past o)
    ≡ elim o [ None ↦ None | Some f ↦ shown f (nat_le (if r && same_at at f.at then length past + 1 else reply_place f.at past) f.place && lives n past f) ]
reply_step n past at true None low = refl
reply_step n past at false None low = refl
reply_step n past at true (Some f) low = replied n past at f (same_at at f.at) refl low
reply_step n past at false (Some f) low = refl

-- what a crash of this node, or of the primary, leaves
crash_step : (n : ℕ) (past : Past) (at : At) (own source : Bool) (o : Option LinePlace) → IsLow (length past) o
    → (if own || source then None else without_at at (copy_by n past o))
    ≡ elim o [
      | None ↦ None
      | Some f ↦ shown f (nat_le (if same_at at f.at then length past + 1 else reply_place f.at past) f.place
          && (nat_le (if own then length past + 1 else crashed_at n past) f.place && nat_le (if source then length past + 1 else primary_crashed past) f.place))
    ]
crash_step n past at true source None low = refl
crash_step n past at false true None low = refl
crash_step n past at false false None low = refl
crash_step n past at true source (Some f) low =
    let first = nat_le (if same_at at f.at then length past + 1 else reply_place f.at past) f.place in
    let last = nat_le (if source then length past + 1 else primary_crashed past) f.place in
    sym (ap (λ (b : Bool). shown f (first && (b && last))) (passed past f low) ∙ ap (shown f) (and-false first))
crash_step n past at false true (Some f) low =
    let first = nat_le (if same_at at f.at then length past + 1 else reply_place f.at past) f.place in
    let own = nat_le (crashed_at n past) f.place in
    sym (ap (λ (b : Bool). shown f (first && (own && b))) (passed past f low) ∙ ap (λ (b : Bool). shown f (first && b)) (and-false own) ∙ ap (shown f) (and-false first))
crash_step n past at false false (Some f) low = replied n past at f (same_at at f.at) refl low

-- the newest copy has no reply, and none that it rests on has crashed since
fresh : (n : ℕ) (past : Past) (at : At) → is_open n past (record { at = at; place = length past }) ≡ true
fresh n past at =
    let reply = le-leb (reply_place at past) (length past) (reply_low at past) in
    let own = le-leb (crashed_at n past) (length past) (crashed_low n past) in
    let source = le-leb (primary_crashed past) (length past) (primary_crashed_low past) in
    ap (λ (b : Bool). b && lives n past (record { at = at; place = length past })) reply ∙ ap (λ (b : Bool). b && nat_le (primary_crashed past) (length past)) own ∙ source

-- the copy in flight of the greatest version that was copied to a node
copy_is : (n v : ℕ) (past : Past) → highest_copied n past ≡ v → copy_in_flight n v past ≡ copy_by n past (last_copy n past)
copy_is n v [] is = refl
copy_is n v (e ∷ past) is = by_event e.event is (copy_is n v past)
  where
    low : IsLow (length past) (last_copy n past)
    low = copy_low n past

    old : Option LinePlace
    old = last_copy n past

    -- a copy to this node
    copies : (w : ℕ) (t : Bool) → nat_le (highest_copied n past) w ≡ t → max (highest_copied n past) w ≡ v
        → (highest_copied n past ≡ v → copy_in_flight n v past ≡ copy_by n past old)
        → (if w == v then Some e.at else copy_in_flight n v past) ≡ copy_by n past (if t then Some (record { at = e.at; place = length past }) else old)
    copies w true high most more =
        let same : (w == v) ≡ true = grind (arith, nat_tests, high, most) in
        ap (λ (b : Bool). if b then Some e.at else copy_in_flight n v past) same ∙ sym (ap (shown (record { at = e.at; place = length past })) (fresh n past e.at))
    copies w false high most more =
        let other : (w == v) ≡ false = grind (arith, nat_tests, high, most) in
        let same : highest_copied n past ≡ v = grind (arith, nat_tests, high, most) in
        ap (λ (b : Bool). if b then Some e.at else copy_in_flight n v past) other ∙ more same

    copying : (m : NodeNo) (w : Version) (t : Bool) → (m.0 == n) ≡ t → (if t then max (highest_copied n past) w.0 else highest_copied n past) ≡ v
        → (highest_copied n past ≡ v → copy_in_flight n v past ≡ copy_by n past old)
        → (if t && (w.0 == v) then Some e.at else copy_in_flight n v past)
        ≡ copy_by n past (if t && nat_le (highest_copied n past) w.0 then Some (record { at = e.at; place = length past }) else old)
    copying m w true own most more = copies w.0 (nat_le (highest_copied n past) w.0) refl most more
    copying m w false other most more = more most

    -- what an entry leaves that is no copy
    by_reply : (event : Event) → (copy_in_flight n v past ≡ copy_by n past old)
        → (if is_reply event then without_at e.at (copy_in_flight n v past) else copy_in_flight n v past)
        ≡ elim old [
          | None ↦ None
          | Some f ↦ shown f (nat_le (if is_reply event && same_at e.at f.at then length past + 1 else reply_place f.at past) f.place && lives n past f)
        ]
    by_reply event was = ap (λ (o : Option At). if is_reply event then without_at e.at o else o) was ∙ reply_step n past e.at (is_reply event) old low

    by_event : (event : Event) → highest_copied n (record { at = e.at; event = event } ∷ past) ≡ v → (highest_copied n past ≡ v → copy_in_flight n v past ≡ copy_by n past old)
        → copy_in_flight n v (record { at = e.at; event = event } ∷ past) ≡ copy_by n (record { at = e.at; event = event } ∷ past) (last_copy n (record { at = e.at; event = event } ∷ past))
    by_event (Copying m w) most more = copying m w (m.0 == n) refl most more
    by_event (Crashed m) most more =
        ap (λ (o : Option At). if (m.0 == n) || is_at (primary_of past) m.0 then None else without_at e.at o) (more most)
        ∙ crash_step n past e.at (m.0 == n) (is_at (primary_of past) m.0) old low
    by_event event most more = by_reply event (more most)

-- what is in flight of the greatest version, by what is known of the line of its last copy
pub copy_flies : (n v : ℕ) (past : Past) (f : LinePlace) (reply own source : ℕ) → highest_copied n past ≡ v → Some f ≡ last_copy n past
    → reply ≡ reply_place f.at past → own ≡ crashed_at n past → source ≡ primary_crashed past
    → (if nat_le reply f.place && (nat_le own f.place && nat_le source f.place) then Some f.at else None) ≡ copy_in_flight n v past
copy_flies n v past f reply own source high is there crash reign =
    ap (λ (k : ℕ). shown f (nat_le k f.place && (nat_le own f.place && nat_le source f.place))) there
    ∙ ap (λ (k : ℕ). shown f (nat_le (reply_place f.at past) f.place && (nat_le k f.place && nat_le source f.place))) crash
    ∙ ap (λ (k : ℕ). shown f (nat_le (reply_place f.at past) f.place && (nat_le (crashed_at n past) f.place && nat_le k f.place))) reign
    ∙ ap (copy_by n past) is ∙ sym (copy_is n v past high)

-- where none began none is in flight
pub no_copy : (n v : ℕ) (past : Past) → highest_copied n past ≡ v → None ≡ last_copy n past → None ≡ copy_in_flight n v past
no_copy n v past high none = ap (copy_by n past) none ∙ sym (copy_is n v past high)
