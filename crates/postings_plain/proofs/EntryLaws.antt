-- The laws of an entry, from those of its parts.
use Rattle.std.proofs.Common.{◌≡◌, ℕ, ◌^◌, ◌<◌, List, [], ◌∷◌, ◌++◌, length, Some, refl, subst, arith}
use Rattle.std.specs.Prelude.{nat_lt}
use Rattle.std.proofs.lemmas.Bool.{lt-ltb, ltb-true}
use Rattle.std.proofs.lemmas.Option.{some_pair_parts}
use Rattle.nrt_base.proofs.Plain.{cons_from}
use Rattle.codec_frame.specs.Bytes.{AreBytes}
use Rattle.body_forms.specs.Format.{Takes, IsFormat, chain, then_at}
use Rattle.body_forms.specs.VInts.{vint}
use Rattle.body_forms.specs.Numbers.{string, string_at, positive_at}
use Rattle.postings_plain.specs.declared.format.Format.{Format}
use Rattle.postings_plain.specs.Postings.{field_of, term_of, hits_of, skip, above_block, skips_of, SkipsFit, hits_from, HitsFitFrom, hits, HitsFit, entry, IsFileEntry}
use Rattle.postings_plain.specs.Reading.{rows_of_term_at, hits_at, field_at, term_at, entry_at}
use Rattle.body_forms.proofs.NumberLaws.{positive_format}
use Rattle.codec_frame.proofs.ByteLaws.{AreBytes-rest}
use Rattle.body_forms.proofs.Formats.{tested_format, passed, then_format, counted_format}
use Rattle.body_forms.proofs.Numerals.{string_format}
use Rattle.postings_plain.proofs.BlockLaws.{format_as, rows_of_term_format}

pub term_format : IsFormat string (λ t. (0 < length t) × (length t < 2 ^ 32)) term_at
unfolding term_at
term_format = tested_format string (λ t. length t < 2 ^ 32) string_at (λ t. nat_lt 0 (length t)) (λ t. 0 < length t) string_format (λ t h. ltb-true _ _ h) (λ t h. lt-ltb 0 (length t) h)

field_takes : (bytes : List ℕ) (b : ℕ) (rest : List ℕ) → AreBytes bytes → field_at bytes ≡ Some (b, rest) → Takes bytes (b ∷ []) rest × (b < 2)
unfolding field_at
field_takes [] b rest fits e = absurd cc
field_takes (x ∷ bytes) b rest fits e =
    let p = passed (nat_lt x 2) (Some (x, bytes)) (b, rest) e in
    let q = some_pair_parts x b bytes rest p.1 in
    let lt : x < 2 = ltb-true _ _ p.0 in
    (record { parts = cons_from x b bytes rest q.0 q.1; rest_fits = subst AreBytes q.1 (AreBytes-rest x bytes fits) }, omega (arith, q.0))

pub field_format : IsFormat (λ (b : ℕ). b ∷ []) (λ b. b < 2) field_at
unfolding field_at
field_format = record {
  again = λ b rest h. rw (lt-ltb b 2 h) refl;
  takes = λ bytes b rest fits e. field_takes bytes b rest fits e;
}

pub hits_format : (format : Format) (field : ℕ) → IsFormat (hits format field) (λ hs. HitsFit field hs × SkipsFit format field hs) (hits_at format field)
hits_format format field =
    format_as (hits format field) (λ hs. ((0 < length hs) × (length hs < 2 ^ 32)) × (HitsFitFrom field 0 hs × SkipsFit format field hs)) (λ hs. HitsFit field hs × SkipsFit format field hs) (hits_at format field)
    (counted_format vint (λ n. (0 < n) × (n < 2 ^ 32)) positive_at (λ hs. chain skip above_block 0 (skips_of format field hs) ++ hits_from field 0 hs) (λ hs. HitsFitFrom field 0 hs × SkipsFit format field hs) (rows_of_term_at format field)
    positive_format (λ n _. rows_of_term_format format field n)) (λ hs h. ((h.0, h.1.0), h.1.1)) (λ hs h. (h.0.0, (h.0.1, h.1)))

pub entry_format : (format : Format) → IsFormat (entry format) (IsFileEntry format) (entry_at format)
entry_format format =
    format_as (entry format) (λ e. (field_of e < 2) × (((0 < length (term_of e)) × (length (term_of e) < 2 ^ 32)) × (HitsFit (field_of e) (hits_of e) × SkipsFit format (field_of e) (hits_of e)))) (IsFileEntry format) (entry_at format)
    (then_format (λ (b : ℕ). b ∷ []) (λ b. b < 2) field_at (λ field x. string x.0 ++ hits format field x.1) (λ field x. ((0 < length x.0) × (length x.0 < 2 ^ 32)) × (HitsFit field x.1 × SkipsFit format field x.1)) (λ field. then_at term_at (λ _. hits_at format field))
    field_format (λ field _. then_format string (λ t. (0 < length t) × (length t < 2 ^ 32)) term_at (λ _. hits format field) (λ _ hs. HitsFit field hs × SkipsFit format field hs) (λ _. hits_at format field) term_format (λ _ _. hits_format format field)))
    (λ e h. record { kind = h.0; term_fits = h.1.0; hits_fit = h.1.1.0; skips_fit = h.1.1.1 }) (λ e h. (h.kind, (h.term_fits, (h.hits_fit, h.skips_fit))))
