-- The merged segment is put in the place of its inputs, segment by segment.
use Rattle.std.proofs.Common.{◌≡◌, ℕ, zero, suc, ◌+◌, ◌<◌, ◌≤◌, Bool, true, false, cond, List, [], ◌∷◌, ◌++◌, length, get_or, map, drop, Option, refl, sym, ap, subst, ◌∙◌, arith, drop-cons}
use Rattle.std.specs.List.{AllZip, filter, zip}
use Rattle.std.proofs.lemmas.List.{append-nil, append_assoc, map-append, get_or_default}
use Rattle.std.proofs.lemmas.Slice.Zip.{length-zip, get_or-zip}
use Rattle.nrt_base.specs.declared.numbers.SegNo.{SegNo}
use Rattle.segment_infos.specs.declared.infos.SegRecord.{SegRecord}
use Rattle.seg_merge.specs.Given.{Shown, File, record_of}
use Rattle.seg_merge.specs.declared.task.Merged.{Merged}
use Rattle.seg_merge.specs.Merging.{carried, IsWithin, AreAsLong}
use Rattle.segment_steps.specs.declared.next.NextSegments.{NextSegments}
use Rattle.segment_steps.specs.declared.cutting.Replacement.{Replacement}
use Rattle.segment_steps.specs.Next.{Turn, record_after, shown_after, is_changed, IsLiveFileAfter, TakesSegment}
use Rattle.segment_steps.specs.CutOver.{Part, is_one_of, inputs_in, others_in, in_place, lives_of, part_after, KeepsSegment, turn_of, turns_of, placed_rest, AreFilesSo, StepsOverSegment, IsPlaced, change_by, IsCutOf}

-- ---- the next pair

abbrev pub no_record : SegRecord
no_record = record { seg = record { 0 = 0 }; rows = 0; live_gen = 0; live = 0 }

abbrev pub nothing_shown : Shown
nothing_shown = record { docs = []; live = []; entries = [] }

same_pair : (r r' : SegRecord) (s s' : Shown) → r ≡ r' → s ≡ s' → ◌≡◌ {A = Part} (r, s) (r', s')
same_pair r r' s s' e f = cc

pub next_pair : (rs : List SegRecord) (ss : List Shown) (at : ℕ) (r d : SegRecord) (s e : Shown) → at < length rs → at < length ss → r ≡ get_or rs at d → s ≡ get_or ss at e → drop at (zip rs ss) ≡ (r, s) ∷ drop (at + 1) (zip rs ss)
next_pair rs ss at r d s e lr ls er es =
    let up : suc at ≡ at + 1 = omega arith in
    let lt : at < length (zip rs ss) = omega (arith, length-zip rs ss, lr, ls) in
    let p : Part = (r, s) in
    let there : get_or (zip rs ss) at p ≡ p = get_or-zip rs ss at p lr ls ∙ same_pair (get_or rs at r) r (get_or ss at s) s (sym (er ∙ sym (get_or_default rs at r d lr))) (sym (es ∙ sym (get_or_default ss at s e ls))) in
    drop-cons (zip rs ss) at p lt ∙ ap (λ (q : Part). q ∷ drop (suc at) (zip rs ss)) there ∙ ap (λ (n : ℕ). p ∷ drop n (zip rs ss)) up

pub none_left : (rs : List SegRecord) (ss : List Shown) (at : ℕ) → length ss ≤ at → drop at (zip rs ss) ≡ []
none_left rs ss at le = past (zip rs ss) at (omega (arith, length-zip rs ss, le))
  where
    past : (ps : List Part) (n : ℕ) → length ps ≤ n → drop n ps ≡ []
    past [] zero le = refl
    past [] (suc n) le = refl
    past (p ∷ ps) zero le = absurd (omega (arith, le))
    past (p ∷ ps) (suc n) le = past ps n (omega (arith, le))

-- ---- the live rows of the inputs

lives_more : (inputs : List SegNo) (p : Part) (ps : List Part) (b : Bool) → is_one_of inputs p ≡ b → lives_of (inputs_in inputs (p ∷ ps)) ≡ cond b (p.1.live ∷ []) [] ++ lives_of (inputs_in inputs ps)
lives_more inputs p ps true e = rw e refl
lives_more inputs p ps false e = rw e refl

pub lives_taken : (inputs : List SegNo) (p : Part) (ps rest : List Part) (old new whole : List (List Bool)) (b : Bool) → is_one_of inputs p ≡ b → rest ≡ p ∷ ps → old ++ lives_of (inputs_in inputs rest) ≡ whole → new ≡ old ++ cond b (p.1.live ∷ []) []
    → new ++ lives_of (inputs_in inputs ps) ≡ whole
lives_taken inputs p ps rest old new whole b e next so_far put =
    ap (λ (xs : List (List Bool)). xs ++ lives_of (inputs_in inputs ps)) put ∙ append_assoc old (cond b (p.1.live ∷ []) []) (lives_of (inputs_in inputs ps))
    ∙ sym (ap (λ (xs : List (List Bool)). old ++ xs) (ap (λ (qs : List Part). lives_of (inputs_in inputs qs)) next ∙ lives_more inputs p ps b e)) ∙ so_far

-- ---- one step

module _ (g : ℕ) (inputs : List SegNo) (merged : Replacement) (p : Part) where
  abbrev new : List Part
  new = map (part_after g) (turns_of g merged)

  -- an input after the first
  pub left_out : (old : NextSegments) → is_one_of inputs p ≡ true → StepsOverSegment g inputs merged p old old true true
  left_out old e = record {
    records_are = λ ps. rw e refl;
    segs_are = λ ps. rw e refl;
    files_are = λ files. files;
    left = λ ps was now. absurd cc;
  }

  records_of : (ts : List Turn) → map (λ (q : Part). q.0) (map (part_after g) ts) ≡ map (record_after g) ts
  records_of [] = refl
  records_of (t ∷ ts) = ap (λ (rs : List SegRecord). record_after g t ∷ rs) (records_of ts)

  shown_of : (ts : List Turn) → map (λ (q : Part). q.1) (map (part_after g) ts) ≡ map shown_after ts
  shown_of [] = refl
  shown_of (t ∷ ts) = ap (λ (ss : List Shown). shown_after t ∷ ss) (shown_of ts)

  -- the first of the inputs
  pub put_there : (old made : NextSegments) → is_one_of inputs p ≡ true → TakesSegment g [] (turn_of merged) old made → StepsOverSegment g inputs merged p old made false true
  put_there old made e takes = record {
    records_are = λ ps. rw e (
        ap (λ (rs : List SegRecord). rs ++ map (λ (q : Part). q.0) (others_in inputs ps)) (takes.records_are ∙ ap (λ (rs : List SegRecord). old.records ++ rs) (sym (records_of (turns_of g merged))))
        ∙ append_assoc old.records (map (λ (q : Part). q.0) new) (map (λ (q : Part). q.0) (others_in inputs ps)) ∙ ap (λ (rs : List SegRecord). old.records ++ rs) (sym (map-append (λ (q : Part). q.0) new (others_in inputs ps))));
    segs_are = λ ps. rw e (
        ap (λ (ss : List Shown). ss ++ map (λ (q : Part). q.1) (others_in inputs ps)) (takes.segs_are ∙ ap (λ (ss : List Shown). old.segs ++ ss) (sym (shown_of (turns_of g merged))))
        ∙ append_assoc old.segs (map (λ (q : Part). q.1) new) (map (λ (q : Part). q.1) (others_in inputs ps)) ∙ ap (λ (ss : List Shown). old.segs ++ ss) (sym (map-append (λ (q : Part). q.1) new (others_in inputs ps))));
    files_are = λ none. subst (AllZip (IsLiveFileAfter g) (filter is_changed (turns_of g merged))) (sym (takes.files_are ∙ ap (λ (fs : List File). fs ++ takes.added) none)) takes.changes;
    left = λ ps was now. absurd cc;
  }

  -- another segment
  pub kept_so : (old made : NextSegments) (b : Bool) → is_one_of inputs p ≡ false → KeepsSegment p old made → StepsOverSegment g inputs merged p old made b b
  kept_so old made true e keeps = record {
    records_are = λ ps. rw e (ap (λ (rs : List SegRecord). rs ++ map (λ (q : Part). q.0) (others_in inputs ps)) keeps.records_are ∙ append_assoc old.records (p.0 ∷ []) (map (λ (q : Part). q.0) (others_in inputs ps)));
    segs_are = λ ps. rw e (ap (λ (ss : List Shown). ss ++ map (λ (q : Part). q.1) (others_in inputs ps)) keeps.segs_are ∙ append_assoc old.segs (p.1 ∷ []) (map (λ (q : Part). q.1) (others_in inputs ps)));
    files_are = λ zip. subst (AllZip (IsLiveFileAfter g) (filter is_changed (turns_of g merged))) (sym keeps.files_are) zip;
    left = λ ps was now. absurd cc;
  }
  kept_so old made false e keeps = record {
    records_are = λ ps. rw e (ap (λ (rs : List SegRecord). rs ++ map (λ (q : Part). q.0) (in_place inputs new ps)) keeps.records_are ∙ append_assoc old.records (p.0 ∷ []) (map (λ (q : Part). q.0) (in_place inputs new ps)));
    segs_are = λ ps. rw e (ap (λ (ss : List Shown). ss ++ map (λ (q : Part). q.1) (in_place inputs new ps)) keeps.segs_are ∙ append_assoc old.segs (p.1 ∷ []) (map (λ (q : Part). q.1) (in_place inputs new ps)));
    files_are = λ none. keeps.files_are ∙ none;
    left = λ ps was now. lighter ps (was refl);
  }
    where
      lighter : (ps : List Part) → 0 < length (inputs_in inputs (p ∷ ps)) → 0 < length (inputs_in inputs ps)
      lighter ps lt = rw e at lt

-- ---- the loop

pub record IsPlacedTo (g : ℕ) (inputs : List SegNo) (merged : Replacement) (ps : List Part) (made : NextSegments) (placed : Bool) (at : ℕ) : Type 0 where
  pub records_are : made.records ++ map (λ (q : Part). q.0) (placed_rest g inputs merged placed (drop at ps)) ≡ map (λ (q : Part). q.0) (in_place inputs (map (part_after g) (turns_of g merged)) ps)
  pub segs_are : made.segs ++ map (λ (q : Part). q.1) (placed_rest g inputs merged placed (drop at ps)) ≡ map (λ (q : Part). q.1) (in_place inputs (map (part_after g) (turns_of g merged)) ps)
  pub files : AreFilesSo g merged placed made.files
  pub left : placed ≡ false → 0 < length (inputs_in inputs (drop at ps))

pub placed_none : (g : ℕ) (inputs : List SegNo) (merged : Replacement) (ps : List Part) (made : NextSegments) → made.records ≡ [] → made.segs ≡ [] → made.files ≡ [] → 0 < length (inputs_in inputs ps) → IsPlacedTo g inputs merged ps made false 0
placed_none g inputs merged ps made no_records no_segs no_files some = record {
  records_are = ap (λ (rs : List SegRecord). rs ++ map (λ (q : Part). q.0) (in_place inputs (map (part_after g) (turns_of g merged)) ps)) no_records;
  segs_are = ap (λ (ss : List Shown). ss ++ map (λ (q : Part). q.1) (in_place inputs (map (part_after g) (turns_of g merged)) ps)) no_segs;
  files = no_files;
  left = λ e. some;
}

pub placed_more : (g : ℕ) (inputs : List SegNo) (merged : Replacement) (ps : List Part) (p : Part) (old made : NextSegments) (was now : Bool) (at : ℕ) → drop at ps ≡ p ∷ drop (at + 1) ps → IsPlacedTo g inputs merged ps old was at
    → StepsOverSegment g inputs merged p old made was now → IsPlacedTo g inputs merged ps made now (at + 1)
placed_more g inputs merged ps p old made was now at next so_far step =
    let rest = drop (at + 1) ps in
    record {
      records_are = step.records_are rest ∙ sym (ap (λ (qs : List Part). old.records ++ map (λ (q : Part). q.0) (placed_rest g inputs merged was qs)) next) ∙ so_far.records_are;
      segs_are = step.segs_are rest ∙ sym (ap (λ (qs : List Part). old.segs ++ map (λ (q : Part). q.1) (placed_rest g inputs merged was qs)) next) ∙ so_far.segs_are;
      files = step.files_are so_far.files;
      left = λ e. step.left rest (λ f. subst (λ (qs : List Part). 0 < length (inputs_in inputs qs)) next (so_far.left f)) e;
    }

pub all_placed : (g : ℕ) (inputs : List SegNo) (merged : Replacement) (ps : List Part) (made : NextSegments) (placed : Bool) (at : ℕ) → drop at ps ≡ [] → IsPlacedTo g inputs merged ps made placed at → IsPlaced g inputs merged ps made
all_placed g inputs merged ps made false at none is = absurd (omega (arith, subst (λ (qs : List Part). 0 < length (inputs_in inputs qs)) none (is.left refl)))
all_placed g inputs merged ps made true at none is = record {
  records_are = sym (append-nil made.records) ∙ sym (ap (λ (qs : List Part). made.records ++ map (λ (q : Part). q.0) (others_in inputs qs)) none) ∙ is.records_are;
  segs_are = sym (append-nil made.segs) ∙ sym (ap (λ (qs : List Part). made.segs ++ map (λ (q : Part). q.1) (others_in inputs qs)) none) ∙ is.segs_are;
  changes = is.files;
}

-- ---- the whole

within_long : (live noted : List Bool) → IsWithin live noted → length live ≡ length noted
within_long [] [] is = refl
within_long [] (n ∷ noted) is = absurd is
within_long (l ∷ live) [] is = absurd is
within_long (l ∷ live) (n ∷ noted) is = omega (arith, within_long live noted is.1)

all_long : (lives noted : List (List Bool)) → AllZip IsWithin lives noted → AllZip AreAsLong lives noted
all_long [] [] all = tt
all_long [] (n ∷ noted) all = absurd all
all_long (l ∷ lives) [] all = absurd all
all_long (l ∷ lives) (n ∷ noted) all = (within_long l n all.0, all_long lives noted all.1)

pub lives_long : (now lives noted : List (List Bool)) → now ≡ lives → AllZip IsWithin lives noted → AllZip AreAsLong now noted
lives_long now lives noted e all = subst (λ (ls : List (List Bool)). AllZip AreAsLong ls noted) (sym e) (all_long lives noted all)

abbrev merging_of : SegRecord → Shown → Option (List Bool) → Replacement
merging_of r shown c = record { entry = r; segment = shown; change = c }

pub cut_is : (g : ℕ) (inputs : List SegNo) (merged : Merged) (shown : Shown) (ps : List Part) (made : NextSegments) (r : SegRecord) (c : Option (List Bool)) (live : List Bool) (lives : List (List Bool)) → r ≡ record_of merged.files.seg merged.files.live
    → c ≡ change_by live → live ≡ carried merged.from lives → lives ≡ lives_of (inputs_in inputs ps) → IsPlaced g inputs (record { entry = r; segment = shown; change = c }) ps made → IsCutOf g ps inputs merged shown made
cut_is g inputs merged shown ps made r c live lives is_record is_change is_live are is =
    let change : c ≡ change_by (carried merged.from (lives_of (inputs_in inputs ps))) = is_change ∙ ap change_by (is_live ∙ ap (carried merged.from) are) in
    let placed = subst (λ (x : SegRecord). IsPlaced g inputs (merging_of x shown (change_by (carried merged.from (lives_of (inputs_in inputs ps))))) ps made) is_record (subst (λ (x : Option (List Bool)). IsPlaced g inputs (merging_of r shown x) ps made) change is) in
    record { records_are = placed.records_are; segs_are = placed.segs_are; changes = placed.changes }
