-- The segments of records, read one after the other.
use Rattle.std.proofs.Common.{◌≡◌, ℕ, ◌+◌, ◌<◌, ◌≤◌, List, [], ◌∷◌, ◌++◌, length, get_or, drop, Result, Ok, Err, refl, sym, ap, subst, ◌∙◌, inl, inr, append_assoc}
use Rattle.std.specs.List.{AllZip}
use Rattle.std.proofs.lemmas.List.{append-nil, drop_more}
use Rattle.std.proofs.Math.ListN.{drop_of_length-le}
use Rattle.disk_model.specs.Disk.{Image, Cells, reads_of}
use Rattle.segment_infos.specs.declared.infos.SegRecord.{SegRecord}
use Rattle.seg_reader.specs.Shown.{Shown}
use Rattle.index_check.specs.declared.fault.CheckFault.{CheckFault}
use Rattle.index_check.specs.Answers.{IsExact}
use Rattle.index_check.specs.Segments.{IsSegmentWrong, IsRightSegment, IsFirstWrong}
use Rattle.index_check.proofs.Exact.{exact_value, exact_cut, exact_fault, only_right, only_there}

-- stands for a record that is missing
abbrev pub no_record : SegRecord
no_record = record { seg = record { 0 = 0 }; rows = 0; live_gen = 0; live = 0 }

-- over calls that change nothing
pub exact_at : (before now : Cells) (r : SegRecord) (result : Result Shown CheckFault) → now ≡ before → IsExact (IsRightSegment (reads_of now) r) (IsSegmentWrong (reads_of now) r) result
    → IsExact (IsRightSegment (reads_of before) r) (IsSegmentWrong (reads_of before) r) result
exact_at before now r result same h = subst (λ (c : Cells). IsExact (IsRightSegment (reads_of c) r) (IsSegmentWrong (reads_of c) r) result) same h

-- the segments of the first i records were read, and are right: what is right or wrong of all is so of the others
pub record HaveRead (reads : Image) (records : List SegRecord) (i : ℕ) (found : List Shown) : Type 0 where
  pub right : (rest : List Shown) → AllZip (IsRightSegment reads) (drop i records) rest → AllZip (IsRightSegment reads) records (found ++ rest)
  pub one : (all : List Shown) → AllZip (IsRightSegment reads) records all → (rest : List Shown) × (all ≡ found ++ rest) × AllZip (IsRightSegment reads) (drop i records) rest
  pub wrong : (f : CheckFault) → IsFirstWrong reads (drop i records) f → IsFirstWrong reads records f
  pub only : (f : CheckFault) → IsFirstWrong reads records f → IsFirstWrong reads (drop i records) f

module _ (reads : Image) (records : List SegRecord) where
  pub read_none : (found : List Shown) → found ≡ [] → HaveRead reads records 0 found
  read_none found e = record {
    right = λ rest all. subst (λ (fs : List Shown). AllZip (IsRightSegment reads) records (fs ++ rest)) (sym e) (subst (λ (rs : List SegRecord). AllZip (IsRightSegment reads) rs rest) whole all);
    one = λ all right. (all, ap (λ (fs : List Shown). fs ++ all) (sym e), subst (λ (rs : List SegRecord). AllZip (IsRightSegment reads) rs all) (sym whole) right);
    wrong = λ f w. subst (λ (rs : List SegRecord). IsFirstWrong reads rs f) whole w;
    only = λ f w. subst (λ (rs : List SegRecord). IsFirstWrong reads rs f) (sym whole) w;
  }
    where
      whole : drop 0 records ≡ records
      whole = drop_none records
        where
          drop_none : (rs : List SegRecord) → drop 0 rs ≡ rs
          drop_none [] = refl
          drop_none (r ∷ rs) = refl

  module _ (i : ℕ) (r : SegRecord) (lt : i < length records) (is : r ≡ get_or records i r) where
    split : drop i records ≡ r ∷ drop (i + 1) records
    split = drop_more records i r lt ∙ ap (λ (x : SegRecord). x ∷ drop (i + 1) records) (sym is)

    pub read_next : (found more : List Shown) (shown : Shown) → IsExact (IsRightSegment reads r) (IsSegmentWrong reads r) (Ok shown) → more ≡ found ++ shown ∷ [] → HaveRead reads records i found → HaveRead reads records (i + 1) more
    read_next found more shown exact put h =
        let own = only_right (IsRightSegment reads r) (IsSegmentWrong reads r) shown exact in
        record {
          right = λ rest all.
              subst (λ (fs : List Shown). AllZip (IsRightSegment reads) records fs) (sym (ap (λ (fs : List Shown). fs ++ rest) put ∙ append_assoc found (shown ∷ []) rest))
              (h.right (shown ∷ rest) (subst (λ (rs : List SegRecord). AllZip (IsRightSegment reads) rs (shown ∷ rest)) (sym split) (own.right, all)));
          one = λ all right.
              let x = h.one all right in
              let y = first_of x.0 (subst (λ (rs : List SegRecord). AllZip (IsRightSegment reads) rs x.0) split x.2) in
              let same : y.0 ≡ shown = own.one y.0 y.2.0 in (
                y.1,
                x.1 ∙ ap (λ (fs : List Shown). found ++ fs) (y.3 ∙ ap (λ (s : Shown). s ∷ y.1) same) ∙ sym (append_assoc found (shown ∷ []) y.1) ∙ sym (ap (λ (fs : List Shown). fs ++ y.1) put),
                y.2.1,
              );
          wrong = λ f w. h.wrong f (subst (λ (rs : List SegRecord). IsFirstWrong reads rs f) (sym split) (inr ((shown, own.right), w)));
          only = λ f w.
              elim (subst (λ (rs : List SegRecord). IsFirstWrong reads rs f) split (h.only f w)) [
                | inl here ↦ absurd (own.none f here)
                | inr later ↦ later.1
              ];
        }
      where
        first_of : (rest : List Shown) → AllZip (IsRightSegment reads) (r ∷ drop (i + 1) records) rest
            → (s : Shown) × (ss : List Shown) × (IsRightSegment reads r s × AllZip (IsRightSegment reads) (drop (i + 1) records) ss) × (rest ≡ s ∷ ss)
        first_of [] all = absurd all
        first_of (s ∷ ss) all = (s, ss, all, refl)

    pub read_wrong : (found : List Shown) (f : CheckFault) → IsExact (IsRightSegment reads r) (IsSegmentWrong reads r) (Err f) → HaveRead reads records i found
        → IsExact (AllZip (IsRightSegment reads) records) (IsFirstWrong reads records) (Err f)
    read_wrong found f exact h = elim (only_there (IsRightSegment reads r) (IsSegmentWrong reads r) f exact) [
      | inl cut ↦ exact_cut (AllZip (IsRightSegment reads) records) (IsFirstWrong reads records) f cut
      | inr own ↦
          exact_fault (AllZip (IsRightSegment reads) records) (IsFirstWrong reads records) f (record {
            there = h.wrong f (subst (λ (rs : List SegRecord). IsFirstWrong reads rs f) (sym split) (inl own.there));
            one = λ g w.
                elim (subst (λ (rs : List SegRecord). IsFirstWrong reads rs g) split (h.only g w)) [
                  | inl here ↦ own.one g here
                  | inr later ↦ absurd (own.none later.0.0 later.0.1)
                ];
            none = λ all right.
                let x = h.one all right in
                none_right x.0 (own.none) (subst (λ (rs : List SegRecord). AllZip (IsRightSegment reads) rs x.0) split x.2);
          })
    ]
      where
        none_right : (rest : List Shown) → ((y : Shown) → IsRightSegment reads r y → ⊥) → AllZip (IsRightSegment reads) (r ∷ drop (i + 1) records) rest → ⊥
        none_right [] none all = all
        none_right (s ∷ ss) none all = none s all.0

  pub read_all : (i : ℕ) (found : List Shown) → length records ≤ i → HaveRead reads records i found → IsExact (AllZip (IsRightSegment reads) records) (IsFirstWrong reads records) (Ok found)
  read_all i found le h =
      exact_value (AllZip (IsRightSegment reads) records) (IsFirstWrong reads records) found (record {
        right = subst (AllZip (IsRightSegment reads) records) (append-nil found) (h.right [] (subst (λ (rs : List SegRecord). AllZip (IsRightSegment reads) rs []) (sym none) tt));
        one = λ all right.
            let x = h.one all right in
            x.1 ∙ ap (λ (fs : List Shown). found ++ fs) (no_rest x.0 (subst (λ (rs : List SegRecord). AllZip (IsRightSegment reads) rs x.0) none x.2)) ∙ append-nil found;
        none = λ f w. subst (λ (rs : List SegRecord). IsFirstWrong reads rs f) none (h.only f w);
      })
    where
      none : drop i records ≡ []
      none = drop_of_length-le records le

      no_rest : (rest : List Shown) → AllZip (IsRightSegment reads) [] rest → rest ≡ []
      no_rest [] all = refl
      no_rest (s ∷ rest) all = absurd all
