use Rattle.std.proofs.Common.{◌≡◌, ◌-◌, sym, ◌∙◌, arith}
use Rattle.postings_plain.specs.Postings.{block_rows}
use Rattle.postings_plain.proofs.BlockLaws.{block_rows-is}
use Rattle.postings_plain.proofs.BlockPassing.{follows, skip_is_there}
use Rattle.postings_plain.proofs.blocks.BlockStart.following.Goals as goal

pub split_at-requires : goal.split_at-requires
split_at-requires c =
    let r = c.requires in
    let e = c.in-Some.ensures in
    (follows r.0 c.args.self.now r.1 (c.in-Some.row, c.in-Some.len) c.in-Some.skips.now r.2 r.3 (sym e.value)).long

pub unreachable-requires : goal.unreachable-requires
unreachable-requires c =
    let r = c.requires in
    let e = c.in-None.ensures in
    skip_is_there r.0 c.args.self.now r.1 r.2 r.3 (sym e.value)

pub returns-clause-begins : goal.returns-clause-begins
returns-clause-begins c = λ field hs b.
    let e = c.in-Some.ensures in
    let f = follows field c.args.self.now hs (c.in-Some.row, c.in-Some.len) c.in-Some.skips.now b c.requires.3 (sym e.value) in
    let left : c.args.self.now.count - c.first_block.result ≡ c.args.self.now.count - block_rows = omega (arith, c.first_block.ensures) in
    rw c.from.ensures (record {
      below = omega (arith, e.below);
      count = f.count ∙ sym left;
      fit = f.fit;
      after = f.tail;
      rows = c.split_at.ensures.back ∙ f.rows;
      table = f.table;
      skips = f.skips (c.args.self.now.count - c.first_block.result) left;
    })

pub returns-clause-below : goal.returns-clause-below
returns-clause-below c = λ field hs b.
    let e = c.in-Some.ensures in
    let f = follows field c.args.self.now hs (c.in-Some.row, c.in-Some.len) c.in-Some.skips.now b c.requires.3 (sym e.value) in
    λ i d lt. omega (arith, f.below i d lt, c.from.ensures)

pub returns-clause-fewer : goal.returns-clause-fewer
returns-clause-fewer c = omega (arith, c.first_block.ensures, block_rows-is, c.requires.3)
