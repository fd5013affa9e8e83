-- Infos that the tests make.
use Rattle.std.proofs.Common.{◌≡◌, ◌<◌, [], ◌∷◌, length, sym, ap, subst, arith}
use Rattle.std.specs.List.{All}
use Rattle.std.proofs.lemmas.List.Elements.{All-cons, All-nil}
use Rattle.segment_infos.specs.declared.infos.SegRecord.{SegRecord}
use Rattle.segment_infos.specs.declared.infos.Infos.{Infos}
use Rattle.segment_infos.specs.Infos.{IsRecord, CanSpell}

-- infos of one segment can be spelled
pub can_spell_one : (infos : Infos) (r : SegRecord) → infos.segs ≡ r ∷ [] → 0 < infos.generation.0 → 0 < infos.version.0 → IsRecord r → CanSpell infos
can_spell_one infos r e g v is =
    let long : length infos.segs ≡ 1 = ap length e in
    record {
      generation = g;
      version = v;
      few = omega (arith, long);
      records = subst (All IsRecord) (sym e) (All-cons IsRecord r [] is (All-nil IsRecord));
      apart = λ i j d less within same. omega (arith, less, within, long);
    }
