use Rattle.std.proofs.Common.{◌≡◌, ℕ, List, Bor, sym, ap, subst, ◌∙◌}
use Rattle.std.specs.Option.{option_map}
use Rattle.body_forms.specs.Format.{Read, ◌>>=◌}
use Rattle.postings_plain.specs.Postings.{Hit, Skip}
use Rattle.postings_plain.specs.Reading.{SkipsHits, skips_at, blocks_at, rows_of_term_at}
use Rattle.postings_plain.proofs.entries.skip_rows.Goals as goal

pub returns : goal.returns
returns c =
    let t = c.in_ok-rows.ensures in
    let read : rows_of_term_at c.args.format c.args.field c.args.count c.args.bytes.now ≡ blocks_at c.args.field t.0 c.args.count 0 c.in_ok-rows.rows.now =
    ap (λ (z : Read (List Skip)). z >>= λ s. blocks_at c.args.field s.0 c.args.count 0 s.1) (ap (λ (n : ℕ). skips_at n 0 c.args.bytes.now) (sym c.skips_of_rows-blocks.ensures) ∙ t.1) in
    subst (λ (r : Read (List Hit)). SkipsHits 0 (option_map {T = ℕ × Bor (List ℕ)} {U = ℕ × List ℕ} (λ x. (x.0, x.1.now)) c.skip_blocks.result) r) (sym read) (c.skip_blocks.ensures t.0 c.in_ok-rows.rows.now t.1)
