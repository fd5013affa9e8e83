use Rattle.std.proofs.Common.{◌≡◌, ◌+◌, ◌*◌, ℕ, length, min, subst, arith}
use Rattle.run_drawing.specs.Drawing.{first_of, IsPageDrawn}
use Rattle.run_drawing.proofs.PageLemmas.{next_page}
use Rattle.run_drawing.proofs.whole.push_pages.Goals as goal

pub loop-p-preserved : goal.loop-p-preserved
loop-p-preserved c =
    let entries = c.args.entries.now in
    let p = c.loop-p.p in
    let start : c.loop-p.start ≡ min (p * 100) (length entries) = c.loop-p.invariant.start in
    let ends : c.min-end.result ≡ min (p * 100 + 100) (length entries) = omega (arith, c.min-end.ensures, start) in
    record {
      start = omega (arith, ends);
      shows = c.in_ok-push_page.ensures.shows;
      text =
          next_page c.args.nodes entries p c.loop-p.start c.min-end.result c.args.out.now.items c.loop-p.out.items _ c.push_page.new.scene start ends c.loop-p.invariant.text
          (subst (λ (k : ℕ). IsPageDrawn k c.args.nodes p (first_of entries c.loop-p.start) (first_of entries c.min-end.result) c.loop-p.out.items c.push_page.new.out.items c.push_page.new.scene)
          c.requires c.in_ok-push_page.ensures);
    }
