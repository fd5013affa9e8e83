-- The records of a merge's inputs, one after another.
use Rattle.std.proofs.Common.{◌≡◌, ◌<◌, ◌+◌, ◌==◌, ℕ, List, [], ◌∷◌, ◌++◌, length, take, get_or, sym, ap, ◌∙◌}
use Rattle.std.specs.List.{list_any}
use Rattle.std.proofs.lemmas.List.Elements.{filter_more}
use Rattle.nrt_base.specs.declared.numbers.SegNo.{SegNo}
use Rattle.segment_infos.specs.declared.infos.SegRecord.{SegRecord}
use Rattle.index_primary.specs.StartCalls.{records_in}

-- one record more was looked at
pub chosen_more : (inputs : List SegNo) (rs : List SegRecord) (i : ℕ) (d : SegRecord) (found more : List SegRecord) → i < length rs → found ≡ records_in inputs (take i rs) → more ≡ found ++ records_in inputs (get_or rs i d ∷ [])
    → more ≡ records_in inputs (take (i + 1) rs)
chosen_more inputs rs i d found more lt sofar e =
    e ∙ ap (λ (l : List SegRecord). l ++ records_in inputs (get_or rs i d ∷ [])) sofar ∙ sym (filter_more (λ (r : SegRecord). list_any (λ (seg : SegNo). seg.0 == r.seg.0) inputs) rs i d lt)
