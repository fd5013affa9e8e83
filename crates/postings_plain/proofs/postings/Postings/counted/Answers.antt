use Rattle.std.proofs.Common.{ℕ, List, refl, sym, ap, subst, ◌∙◌, arith}
use Rattle.postings_plain.specs.declared.blocks.BlockStart.{BlockStart}
use Rattle.postings_plain.specs.Postings.{Hit}
use Rattle.postings_plain.specs.Reading.{rows_of_term_at, skips_at, hits_or_none}
use Rattle.postings_plain.specs.Blocks.{IsAhead}
use Rattle.postings_plain.proofs.Passing.{was_read, is_read}
use Rattle.postings_plain.proofs.BlockPassing.{BeginsAt, begins_at, table_is_there}
use Rattle.postings_plain.proofs.postings.Postings.counted.Goals as goal
use Rattle.postings_plain.proofs.postings.Postings.counted.Goals.{then-blocks-gt0, else-blocks-gt0}

abbrev next_block : goal.Joined-blocks-gt0 → BlockStart
next_block c = record { least = 0; count = c.if-blocks-gt0.result; rest = c.in-Some.rows; skips = c.args.bytes }

abbrev the_hits : goal.Joined-blocks-gt0 → List Hit
the_hits c = (was_read (rows_of_term_at c.args.format c.args.field c.args.count c.args.bytes.now) c.requires).0

begun : (c : goal.Joined-blocks-gt0) → BeginsAt c.args.field c.args.count c.in-Some.rows.now (the_hits c) (next_block c)
begun c =
    let w = was_read (rows_of_term_at c.args.format c.args.field c.args.count c.args.bytes.now) c.requires in
    let t = c.in-Some.ensures in
    begins_at c.args.format c.args.field c.args.count c.skips_of_rows-blocks.result c.args.bytes.now t.0 c.in-Some.rows.now w.0 w.1 (next_block c) (λ i. omega (arith, c.type_inv.bytes i)) w.2 c.skips_of_rows-blocks.ensures t.1 refl
    (λ pos. elim c.if-blocks-gt0.branch [
      | then-blocks-gt0 w ↦ (w.if-blocks-gt0.true, w.result-is)
      | else-blocks-gt0 w ↦ absurd (omega (arith, pos, w.result-is))
    ])
    refl refl

pub invariant_of-result : goal.invariant_of-result
invariant_of-result c =
    let b = begun c in
    (omega arith, is_read _ _ _ b.read, subst (λ (hs : List Hit). IsAhead c.args.field hs (next_block c)) (sym (ap hits_or_none b.read)) b.ahead)

pub returns : goal.returns
returns c =
    let w = was_read (rows_of_term_at c.args.format c.args.field c.args.count c.args.bytes.now) c.requires in
    ap hits_or_none (begun c).read ∙ sym (ap hits_or_none w.2)

pub unreachable-requires : goal.unreachable-requires
unreachable-requires c =
    let e = c.in-None.ensures in
    table_is_there c.args.format c.args.field c.args.count c.args.bytes.now c.requires (ap (λ (n : ℕ). skips_at n 0 c.args.bytes.now) (sym c.skips_of_rows-blocks.ensures) ∙ e)
