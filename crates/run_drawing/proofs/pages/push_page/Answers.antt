use Rattle.std.proofs.Common.{◌≡◌, ◌≤◌, ℕ, length, sym, subst, arith}
use Rattle.run_drawing.specs.Scenes.{ShowsScene}
use Rattle.run_drawing.specs.Drawing.{first_of}
use Rattle.run_drawing.proofs.PageLemmas.{count_first, page_start, page_drawn}
use Rattle.run_drawing.proofs.pages.push_page.Goals as goal

pub returns : goal.returns
returns c =
    let entries = c.args.entries.now in
    let within : c.args.start ≤ length entries = omega (arith, c.requires.order, c.requires.within) in
    let start : c.page_from-page.result.start ≡ c.args.start =
    page_start c.page_from-page.result c.args.lanes (first_of entries c.args.start) (first_of entries c.args.end) c.args.start c.page_from-page.ensures (count_first entries c.args.start within) in
    let shows : ShowsScene c.args.size (first_of entries c.page_from-page.result.start) c.args.scene.now =
    subst (λ (k : ℕ). ShowsScene c.args.size (first_of entries k) c.args.scene.now) (sym start) c.requires.shows in
    page_drawn c.args.lanes c.args.size c.args.p c.args.end (first_of entries c.args.start) (first_of entries c.args.end) c.page_from-page.result _ _ _ _ _ _ c.page_from-page.ensures
    (count_first entries c.args.end c.requires.within) c.in_ok-push_page_head.ensures (c.in_ok-push_entries.ensures c.args.size shows) c.in_ok-push_rest.ensures
    c.in_ok-extend_from_slice.ensures.items
