-- The loads of a copy state meet no plan that was put off: a point has few files.
use Rattle.std.proofs.Common.{◌≡◌, ◌∙◌, ℕ, zero, suc, ◌+◌, ◌-◌, ◌*◌, ◌^◌, ◌<◌, ◌≤◌, ◌==◌, Bool, true, false, true≢false, if◌then◌else◌, List, [], ◌∷◌, length, Option, Some, Result, Err, refl, sym, ap, subst, arith}
use Rattle.std.specs.Bool.{Decides}
use Rattle.std.specs.List.{flat_map}
use Rattle.std.specs.Cmp.Lexicographic.{slice_cmp}
use Rattle.std.specs.Ordering.{eq_by_cmp, nat_cmp}
use Rattle.std.proofs.lemmas.Bool.{ne_eqb}
use Rattle.std.proofs.lemmas.Cmp.{eq_by_cmp_equiv, nat_list_cmp_total}
use Rattle.std.proofs.lemmas.List.{length-append}
use Rattle.std.proofs.lemmas.Map.Keys.{IsDistinct-from_sorted}
use Rattle.std.proofs.lemmas.Map.Made.{is_member-Decides, length-le_from_is_member}
use Rattle.std.proofs.lemmas.Map.Text.{is_eq-slice_cmp}
use Rattle.std.proofs.lemmas.Slice.Eq.{bytes_eq-Decides}
use Rattle.file_names.specs.Names.{live_name_of}
use Rattle.disk_model.specs.Disk.{Name, Content}
use Rattle.disk_model.specs.declared.dir.DirFault.TheVariants.{Failed}
use Rattle.disk_model.specs.Faults.{Plans, is_met, FailsByPlans}
use Rattle.segment_infos.specs.declared.infos.Infos.{Infos}
use Rattle.segment_infos.specs.declared.infos.SegRecord.{SegRecord}
use Rattle.segment_infos.specs.Files.{files_of_segment, live_files}
use Rattle.seg_reader.specs.Shown.{Shown}
use Rattle.commit_steps.specs.StepCalls.{counted_times, CallsInRow, FailsAmong, MakesCalls}
use Rattle.index_primary.specs.declared.parts.PrimaryFault.{PrimaryFault}
use Rattle.index_primary.specs.declared.parts.PrimaryFault.TheVariants.{Failed as Broken}
use Rattle.index_primary.specs.Held.{IsHeld}
use Rattle.index_primary.specs.Loads.{disk_answer}

-- ---- the files of a point

same_decides : (a b : Name) → Decides (eq_by_cmp (slice_cmp nat_cmp) a b) (a ≡ b)
same_decides a b = subst (λ (t : Bool). Decides t (a ≡ b)) (sym (is_eq-slice_cmp a b)) (bytes_eq-Decides a b)

one_at_most : (b : Bool) (x : Name) → length (if b then [] else x ∷ []) ≤ 1
one_at_most true x = omega arith
one_at_most false x = omega arith

four_each : (segs : List SegRecord) → length (flat_map files_of_segment segs) ≤ 4 * length segs
four_each [] = omega arith
four_each (r ∷ segs) =
    let both = length-append (files_of_segment r) (flat_map files_of_segment segs) in
    let first : length (files_of_segment r) ≡ suc (suc (suc (length (live_files r)))) = refl in
    let last = one_at_most (r.live_gen == 0) (live_name_of r.seg.0 r.live_gen) in
    omega (arith, both, first, last, four_each segs)

-- a point has at most 1,024 files, four for each segment
pub few_files : (reads : Name → Content) (infos : Infos) (segs : List Shown) (names : List Name) → IsHeld reads infos segs names → length names ≤ 1024
few_files reads infos segs names held =
    let all = flat_map files_of_segment infos.segs in
    let within = length-le_from_is_member (eq_by_cmp_equiv nat_list_cmp_total) names all (IsDistinct-from_sorted (slice_cmp nat_cmp) names held.files.ascending)
    (λ q among. (is_member-Decides same_decides all q).1 ((held.files.named q).0 ((is_member-Decides same_decides names q).0 among))) in
    omega (arith, within, four_each infos.segs, held.spelled.few)

-- ---- plans that stood 2^64 - 1 calls ahead

nearer : (k : ℕ) (p : Plans) → p.once ≡ 2 ^ 64 - 1 → p.stop ≡ 2 ^ 64 - 1 → k < 2 ^ 63 → ((counted_times k p).once + k ≡ 2 ^ 64 - 1) × ((counted_times k p).stop + k ≡ 2 ^ 64 - 1)
nearer zero p once stop soon = (omega (arith, once), omega (arith, stop))
nearer (suc k) p once stop soon =
    let before = nearer k p once stop (omega (arith, soon)) in
    let q = counted_times k p in
    let far : (q.stop == 1) ≡ false = ne_eqb q.stop 1 (λ e. omega (arith, before.1, soon, e)) in
    (omega (arith, before.0, soon), ap (λ (b : Bool). (if b then 1 else q.stop - 1) + suc k) far ∙ omega (arith, before.1, soon))

not_met : (p : Plans) → 1 < p.once → 1 < p.stop → is_met p ≡ false
not_met p once stop = rw (ne_eqb p.once 1 (λ e. omega (arith, once, e)), ne_eqb p.stop 1 (λ e. omega (arith, stop, e))) refl

none_fails : (n : ℕ) (p : Plans) (before after : Option Plans) → n ≤ 1024 → before ≡ Some p → p.once ≡ 2 ^ 64 - 1 → p.stop ≡ 2 ^ 64 - 1 → FailsAmong n before after → ⊥
none_fails n p before after few known once stop f =
    let soon : f.made < 2 ^ 63 = omega (arith, f.fewer, few) in
    let calls : MakesCalls f.made (Some p) f.between = subst (λ (o : Option Plans). MakesCalls f.made o f.between) known f.calls in
    let fails : FailsByPlans {T = Unit {0}} (Some (counted_times f.made p)) after (Err Failed) = subst (λ (o : Option Plans). FailsByPlans {T = Unit {0}} o after (Err Failed)) calls.1 f.fails in
    let off = nearer f.made p once stop soon in
    true≢false (sym fails.0 ∙ not_met (counted_times f.made p) (omega (arith, off.0, soon)) (omega (arith, off.1, soon)))

-- so a primary that answers behind them does not answer that its disk failed
pub never_broken : {T : Type 0} (n : ℕ) (p : Plans) (before after : Option Plans) (r : Result T PrimaryFault) (e : PrimaryFault) → n ≤ 1024 → before ≡ Some p → p.once ≡ 2 ^ 64 - 1 → p.stop ≡ 2 ^ 64 - 1
    → CallsInRow n before after (disk_answer r) → r ≡ Err e → e ≡ Broken → ⊥
never_broken {T = T} n p before after r e few known once stop calls is broken =
    none_fails n p before after few known once stop (subst (λ (x : Result T PrimaryFault). CallsInRow n before after (disk_answer x)) (is ∙ ap Err broken) calls)
