-- What arrives over a link, and that an altered byte shows.
use Rattle.std.proofs.Common.{◌≡◌, ◌≢◌, ℕ, ◌+◌, ◌-◌, ◌<◌, ◌≤◌, ◌&&◌, ◌==◌, Bool, true, false, List, ◌∷◌, ◌++◌, length, take, drop, get_or, Option, Some, None, refl, sym, ap, subst, ◌∙◌, arith, length-take, length-drop, drop-cons, add-one, cond}
use Rattle.std.specs.Prelude.{slice_range, nat_le, nat_lt}
use Rattle.std.proofs.Math.ListN.{set, length-set}
use Rattle.std.proofs.lemmas.List.{take-append-drop, take-set, drop-set}
use Rattle.std.specs.Int.{w64, from_be_bytes, to_be_bytes}
use Rattle.std.proofs.lemmas.Nat.{be_bytes_8}
use Rattle.std.proofs.lemmas.Bool.Decides.{nat_tests}
use Rattle.std.proofs.lemmas.List.{take_all}
use Rattle.codec_frame.specs.Bytes.{AreBytes, DifferInOne}
use Rattle.codec_frame.specs.Division.{crc_of}
use Rattle.codec_frame.proofs.Altered.{IsSealed, one_byte_shows}
use Rattle.codec_frame.proofs.ByteLaws.{AreBytes-back}
use Rattle.copy_state.specs.declared.meta.FileMetaData.{FileMetaData}
use Rattle.copy_state.specs.Meta.{IsMetaOf}
use Rattle.std.proofs.Math.Seq.{take-append-add}
use Rattle.nrt_base.specs.Causes.{Rose}
use Rattle.link_model.specs.Carrying.{carried_by, IsAlteration, is_handed_out, CountsDamages}
use Rattle.std.proofs.Common.{Ok, Err}
use Rattle.disk_model.specs.Disk.{Name}
use Rattle.link_model.specs.declared.fate.Fate.{Fate}
use Rattle.link_model.specs.declared.fate.Fate.TheVariants.{Whole, Fail, Damage}
use Rattle.link_model.specs.Carrying.{GoesByFate}
use Rattle.copy_job.specs.declared.copying.Part.{Part}
use Rattle.copy_job.specs.declared.fault.JobFault.TheVariants.{Damaged}
use Rattle.copy_job.specs.Copying.{ArrivesByFate}
use Rattle.codec_frame.specs.Checking.{be64_at, HasFooter}
use Rattle.copy_job.specs.Copying.{HasReceived, computed_of, written_in, IsDifference}

pub length-carried : (a : Option (ℕ × ℕ)) (file : List ℕ) → length (carried_by a file) ≡ length file
length-carried None file = refl
length-carried (Some a) file = length-set file a.0 a.1

-- the front and the part behind it are a longer front
take_part : (xs : List ℕ) (n len : ℕ) → n + len ≤ length xs → take n xs ++ slice_range xs n (n + len) ≡ take (n + len) xs
take_part xs n len h =
    let e : n + len - n ≡ len = omega arith in
    let f : length (take n xs) ≡ n = omega (arith, length-take n xs) in
    ap (λ k. take n xs ++ take k (drop n xs)) e ∙ sym (take-append-add (take n xs) (drop n xs) len)
    ∙ ap (λ (ys : List ℕ). take (length (take n xs) + len) ys) (take-append-drop n xs) ∙ ap (λ k. take (k + len) xs) f

-- damages over two parts
joined : (x y z : Bool) (d0 d e : ℕ) → (x ≡ true → (y ≡ false) × (z ≡ true)) → (x ≡ false → z ≡ y) → CountsDamages x d0 d → CountsDamages y d e → CountsDamages z d0 e
joined true y z d0 d e first then was now =
    let is : e ≡ d = subst (λ b. CountsDamages b d e) (first refl).0 now in
    subst (λ b. CountsDamages b d0 e) (sym (first refl).1) (subst (λ k. (d0 ≤ k) × Rose d0 k) (sym is) was)
joined false y z d0 d e first then was now = subst (λ b. CountsDamages b d0 e) (sym (then refl)) (subst (λ k. CountsDamages y k e) was now)

more_damages : (a : Option (ℕ × ℕ)) (n len d0 d e : ℕ) → CountsDamages (is_handed_out a 0 n) d0 d → CountsDamages (is_handed_out a n len) d e → CountsDamages (is_handed_out a 0 (n + len)) d0 e
more_damages None n len d0 d e was now = now ∙ was
more_damages (Some a) n len d0 d e was now = joined (is_handed_out (Some a) 0 n) (is_handed_out (Some a) n len) (is_handed_out (Some a) 0 (n + len)) d0 d e first then was now
  where
    first : (nat_le 0 a.0 && nat_lt a.0 (0 + n)) ≡ true → ((nat_le n a.0 && nat_lt a.0 (n + len)) ≡ false) × ((nat_le 0 a.0 && nat_lt a.0 (0 + (n + len))) ≡ true)
    first h = (grind (arith, nat_tests), grind (arith, nat_tests))

    then : (nat_le 0 a.0 && nat_lt a.0 (0 + n)) ≡ false → (nat_le 0 a.0 && nat_lt a.0 (0 + (n + len))) ≡ (nat_le n a.0 && nat_lt a.0 (n + len))
    then h = grind (arith, nat_tests)

pub more_received : (a : Option (ℕ × ℕ)) (file : List ℕ) (d0 d e : ℕ) (bytes chunk slice new : List ℕ) (n len : ℕ) → HasReceived a file d0 d bytes → n ≡ length bytes
    → chunk ≡ slice_range (carried_by a file) n (n + len) → slice ≡ chunk → n + len ≤ length file → new ≡ bytes ++ slice → CountsDamages (is_handed_out a n len) d e
    → HasReceived a file d0 e new
more_received a file d0 d e bytes chunk slice new n len was at got as_is le is damages =
    let all : new ≡ take (n + len) (carried_by a file) =
    is ∙ ap (λ (xs : List ℕ). xs ++ slice) (was.bytes_are ∙ ap (λ k. take k (carried_by a file)) (sym at)) ∙ ap (λ (xs : List ℕ). take n (carried_by a file) ++ xs) (as_is ∙ got)
    ∙ take_part (carried_by a file) n len (omega (arith, le, length-carried a file)) in
    let size : length new ≡ n + len = ap length all ∙ (let h : length (take (n + len) (carried_by a file)) ≡ n + len = omega (arith, length-take (n + len) (carried_by a file), le, length-carried a file) in h) in
    record {
      within = omega (arith, size, le);
      bytes_are = all ∙ ap (λ k. take k (carried_by a file)) (sym size);
      damages = subst (λ k. CountsDamages (is_handed_out a 0 k) d0 e) (sym size) (more_damages a n len d0 d e (subst (λ k. CountsDamages (is_handed_out a 0 k) d0 d) (sym at) was.damages) damages);
    }

-- ---- what was received whole
whole : (a : Option (ℕ × ℕ)) (file bytes : List ℕ) (d0 d : ℕ) → HasReceived a file d0 d bytes → length bytes ≡ length file → bytes ≡ carried_by a file
whole a file bytes d0 d h size = h.bytes_are ∙ take_all (length bytes) (carried_by a file) (omega (arith, size, length-carried a file))

-- a list with another byte at one place differs from it in one
differs : (xs : List ℕ) (k y : ℕ) → k < length xs → get_or xs k 0 ≢ y → DifferInOne xs (set xs k y)
differs xs k y lt other = (
  take k xs,
  drop (k + 1) xs,
  get_or xs k 0,
  y,
  sym (take-append-drop k xs) ∙ ap (λ (t : List ℕ). take k xs ++ t) (drop-cons xs k 0 lt ∙ ap (λ n. get_or xs k 0 ∷ drop n xs) (sym (add-one k))),
  sym (take-append-drop k (set xs k y)) ∙ ap (λ (t : List ℕ). t ++ drop k (set xs k y)) (take-set xs k y) ∙ ap (λ (t : List ℕ). take k xs ++ t) (drop-set xs k y lt),
  other,
)

-- the last eight bytes
last_eight : (xs : List ℕ) (n : ℕ) → length xs ≡ n + 8 → slice_range xs n (n + 8) ≡ drop n xs
last_eight xs n size = take_all (n + 8 - n) (drop n xs) (omega (arith, size, length-drop n xs))

-- bytes whose last eight are the CRC-32 of those before are sealed
sealed : (xs : List ℕ) (n : ℕ) → length xs ≡ n + 8 → AreBytes xs → be64_at xs n ≡ crc_of (take n xs) → IsSealed xs
sealed xs n size fits e =
    let back : AreBytes (drop n xs) = AreBytes-back (take n xs) (drop n xs) (subst AreBytes (sym (take-append-drop n xs)) fits) in
    let number : crc_of (take n xs) ≡ from_be_bytes w64 (drop n xs) = sym e ∙ ap (from_be_bytes w64) (last_eight xs n size) in
    let end : drop n xs ≡ to_be_bytes w64 (crc_of (take n xs)) = sym (be_bytes_8 (drop n xs) (crc_of (take n xs)) (omega (arith, size, length-drop n xs)) back number) in
    (take n xs, sym (take-append-drop n xs) ∙ ap (λ (t : List ℕ). take n xs ++ t) end)

-- a file that has metadata has room for its footer
pub long_enough : (bytes : List ℕ) (meta : FileMetaData) → IsMetaOf bytes meta → 42 ≤ length bytes
long_enough bytes meta h = omega (arith, h.long)

-- ---- what the check says of what was received
module _ (a : Option (ℕ × ℕ)) (source bytes : List ℕ) (d0 d want : ℕ) (long : 42 ≤ length source) (footer : HasFooter source) (want_is : want ≡ be64_at source (length source - 8))
    (fits : AreBytes source) (fits2 : AreBytes bytes) (is : IsAlteration source a) (h : HasReceived a source d0 d bytes) (size : length bytes ≡ length source) where
  -- where both numbers agree, it is the file
  accepted_by : (x : Option (ℕ × ℕ)) → x ≡ a → IsAlteration source x → bytes ≡ carried_by x source → computed_of bytes ≡ want → written_in bytes ≡ want → x ≡ None
  accepted_by None e alters all first second = refl
  accepted_by (Some p) e alters all first second =
      let n : ℕ = length source - 8 in
      let size_is : length source ≡ n + 8 = omega (arith, long) in
      let at : length bytes - 8 ≡ n = ap (λ k. k - 8) size in
      let sum : be64_at bytes n ≡ crc_of (take n bytes) =
      ap (λ k. be64_at bytes k) (sym at) ∙ second ∙ sym first ∙ ap (λ k. crc_of (take k bytes)) at in
      let apart : DifferInOne source bytes = subst (DifferInOne source) (sym all) (differs source p.0 p.1 alters.0 alters.1) in
      absurd (one_byte_shows source bytes fits fits2 (sealed source n size_is fits footer.checksum) (sealed bytes n (size ∙ size_is) fits2 sum) apart)

  pub accepted : IsDifference bytes want None → a ≡ None
  accepted agree = accepted_by a refl is (whole a source bytes d0 d h size) agree.0 agree.1

  pub same_bytes : a ≡ None → (bytes ≡ source) × (d ≡ d0)
  same_bytes none = (whole a source bytes d0 d h size ∙ ap (λ (x : Option (ℕ × ℕ)). carried_by x source) none, subst (λ (x : Option (ℕ × ℕ)). CountsDamages (is_handed_out x 0 (length bytes)) d0 d) none h.damages)

  -- and where one does not, damages rose
  either : (b : Bool) → {x y : ℕ} → x ≡ want → y ≡ want → cond b x y ≡ want
  either true e f = e
  either false e f = f

  refused_by : (x : Option (ℕ × ℕ)) → IsAlteration source x → bytes ≡ carried_by x source → CountsDamages (is_handed_out x 0 (length bytes)) d0 d → (found : ℕ) → IsDifference bytes want (Some found)
      → (x ≢ None) × Rose d0 d
  refused_by None alters all damages found differ =
      let at : length bytes - 8 ≡ length source - 8 = ap (λ k. k - 8) size in
      let one : computed_of bytes ≡ want = ap (λ k. crc_of (take k bytes)) at ∙ ap (λ (t : List ℕ). crc_of (take (length source - 8) t)) all ∙ sym footer.checksum ∙ sym want_is in
      let two : written_in bytes ≡ want = ap (λ k. be64_at bytes k) at ∙ ap (λ (t : List ℕ). be64_at t (length source - 8)) all ∙ sym want_is in
      absurd (differ.0 (differ.1 ∙ either (computed_of bytes == want) two one))
  refused_by (Some p) alters all damages found differ =
      let met : is_handed_out (Some p) 0 (length bytes) ≡ true = (let lt : p.0 < length bytes = omega (arith, alters.0, size) in grind (arith, nat_tests)) in
      (λ e. cc, (subst (λ b. CountsDamages b d0 d) met damages).1)

  pub refused : (found : ℕ) → IsDifference bytes want (Some found) → (a ≢ None) × Rose d0 d
  refused found differ = refused_by a is (whole a source bytes d0 d h size) h.damages found differ

-- what a copy answers, over the file that the link began
module _ (a : Option (ℕ × ℕ)) (file source slice bytes : List ℕ) (d0 d want size : ℕ) (begun : file ≡ source) (got : slice ≡ bytes) (long : 42 ≤ length source) (footer : HasFooter source) (want_is : want ≡ be64_at source (length source - 8))
    (fits : AreBytes source) (fits2 : AreBytes slice) (is : IsAlteration source a) (h : HasReceived a file d0 d bytes × (length bytes ≡ size)) (size_is : size ≡ length source) where
  received : HasReceived a source d0 d slice
  received = subst (λ (f : List ℕ). HasReceived a f d0 d slice) begun (subst (λ (t : List ℕ). HasReceived a file d0 d t) (sym got) h.0)

  as_long : length slice ≡ length source
  as_long = ap length got ∙ h.1 ∙ size_is

  pub taken : IsDifference slice want None → (bytes ≡ source) × (d ≡ d0) × (a ≡ None)
  taken agree =
      let none = accepted a source slice d0 d want long footer want_is fits fits2 is received as_long agree in
      let same = same_bytes a source slice d0 d want long footer want_is fits fits2 is received as_long none in
      (sym got ∙ same.0, same.1, none)

  pub turned_down : (found : ℕ) → IsDifference slice want (Some found) → (a ≢ None) × Rose d0 d
  turned_down found differ = refused a source slice d0 d want long footer want_is fits fits2 is received as_long found differ

-- what was received shows what the file shows as it was carried
pub arrived_shows : (a now : Option (ℕ × ℕ)) (file source slice bytes : List ℕ) (d0 d want size found : ℕ) → file ≡ source → slice ≡ bytes → HasReceived a file d0 d bytes × (length bytes ≡ size) → size ≡ length source → now ≡ a
    → IsDifference slice want (Some found) → IsDifference (carried_by now source) want (Some found)
arrived_shows a now file source slice bytes d0 d want size found begun got h size_is now_is =
    subst (λ (t : List ℕ). IsDifference t want (Some found))
    (got ∙ whole a file bytes d0 d h.0 (h.1 ∙ size_is ∙ ap length (sym begun)) ∙ ap (carried_by a) begun ∙ ap (λ (x : Option (ℕ × ℕ)). carried_by x source) (sym now_is))

-- ---- where the fate of a file is known
pub by_fate_taken : (f : Option Fate) (source : List ℕ) (a : Option (ℕ × ℕ)) (part : Part) → GoesByFate {T = Unit {0}} f source a (Ok tt) → a ≡ None → ArrivesByFate f (Ok part)
by_fate_taken None source a part goes none = tt
by_fate_taken (Some Whole) source a part goes none = tt
by_fate_taken (Some Fail) source a part goes none = goes
by_fate_taken (Some (Damage at)) source a part goes none = cc

pub by_fate_turned_down : (f : Option Fate) (source : List ℕ) (a : Option (ℕ × ℕ)) (name : Name) (want found : ℕ) → GoesByFate {T = Unit {0}} f source a (Ok tt) → a ≢ None → ArrivesByFate f (Err (Damaged name want found))
by_fate_turned_down None source a name want found goes some = tt
by_fate_turned_down (Some Whole) source a name want found goes some = some goes
by_fate_turned_down (Some Fail) source a name want found goes some = goes
by_fate_turned_down (Some (Damage at)) source a name want found goes some = tt
