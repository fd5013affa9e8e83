-- The entries of a page, one after the other, and pages one behind the other.
use Rattle.std.proofs.Common.{◌≡◌, ◌≤◌, ◌<◌, ◌+◌, ◌*◌, ◌^◌, ◌∷◌, ◌∙◌, ◌++◌, [], ℕ, Bool, true, false, List, length, take, get_or, reverse, min, if◌then◌else◌, refl, sym, ap, subst, arith}
use Rattle.std.specs.Prelude.{nat_lt, codes}
use Rattle.std.specs.List.{flat_map, range_with_len}
use Rattle.std.proofs.lemmas.Bool.Decides.{nat_tests}
use Rattle.std.proofs.lemmas.Nat.{mul-le}
use Rattle.std.proofs.lemmas.List.{length-reverse, length-take-le, take_min, append_assoc, append-nil}
use Rattle.history_rules.specs.declared.entry.Entry.{Entry}
use Rattle.history_rules.specs.Nodes.{Past}
use Rattle.history_rules.proofs.PastLemmas.{past_next}
use Rattle.run_picture.proofs.ViewLemmas.{each_more}
use Rattle.run_drawing.specs.declared.scene.Scene.{Scene}
use Rattle.run_drawing.specs.declared.span.Page.{Page}
use Rattle.run_drawing.specs.Scenes.{ShowsScene}
use Rattle.run_drawing.specs.Drawing.{lanes_of, page_of, page_head, page_text, page_at, rest_text, rest_shown, first_of, marks_at, marks_of, IsEntryDrawn, AreDrawn, IsPageDrawn}

-- so many entries stand before this place
pub count_first : (entries : List Entry) (i : ℕ) → i ≤ length entries → length (first_of entries i) ≡ i
count_first entries i within = length-reverse (take i entries) ∙ length-take-le i entries within

-- no entry before a page adds to it
pub none_yet : (page : Page) (size : ℕ) (past : Past) → length past ≤ page.start → marks_of page size past ≡ []
none_yet page size [] low = refl
none_yet page size (e ∷ past) low =
    let early : nat_lt (length past) page.start ≡ true = grind (arith, nat_tests) in
    ap (λ (b : Bool). if b then [] else marks_of page size past ++ marks_at page size e past) early

one_more : (page : Page) (size : ℕ) (e : Entry) (past : Past) → page.start ≤ length past
    → marks_of page size (e ∷ past) ≡ marks_of page size past ++ marks_at page size e past
one_more page size e past high =
    let late : nat_lt (length past) page.start ≡ false = grind (arith, nat_tests) in
    ap (λ (b : Bool). if b then [] else marks_of page size past ++ marks_at page size e past) late

-- before the first entry of a page
pub first_drawn : (page : Page) (size : ℕ) (past : Past) (text : List ℕ) (scene : Scene) → length past ≡ page.start → ShowsScene size past scene
    → AreDrawn page size past text text scene
first_drawn page size past text scene long shows =
    record { text = sym (append-nil text) ∙ ap (λ (m : List ℕ). text ++ m) (sym (none_yet page size past (subst (λ (k : ℕ). length past ≤ k) long (omega arith)))); shows = shows }

-- behind one entry more of a page
pub next_drawn : (page : Page) (size : ℕ) (entries : List Entry) (i : ℕ) (e : Entry) (old now new : List ℕ) (scene next : Scene)
    → i < length entries → e ≡ get_or entries i e → page.start ≤ i
    → AreDrawn page size (first_of entries i) old now scene
    → IsEntryDrawn page size e (first_of entries i) now new next → AreDrawn page size (first_of entries (i + 1)) old new next
next_drawn page size entries i e old now new scene next within is high was more =
    subst (λ (past : Past). AreDrawn page size past old new next) (sym (past_next entries i e within is))
    (record {
      text =
          more.text ∙ ap (λ (m : List ℕ). m ++ marks_at page size e (first_of entries i)) was.text
          ∙ append_assoc old (marks_of page size (first_of entries i)) (marks_at page size e (first_of entries i))
          ∙ ap (λ (m : List ℕ). old ++ m)
          (sym (one_more page size e (first_of entries i) (subst (λ (k : ℕ). page.start ≤ k) (sym (count_first entries i (omega arith))) high)));
      shows = more.shows;
    })

-- the height of pages is a number of 128 bits
pub height_fits : (pages height : ℕ) → pages < 2 ^ 64 → height ≤ 18420 → pages * height ≤ 18446744073709551616 * 18420
height_fits pages height few low = mul-le pages height 18446744073709551616 18420 (omega (arith, few)) low

-- the first entries of a history, where it may have fewer
pub first_min : (entries : List Entry) (k : ℕ) → first_of entries (min k (length entries)) ≡ first_of entries k
first_min entries k = ap reverse (take_min k entries)

five : (a b c d e : List ℕ) → (((a ++ b) ++ c) ++ d) ++ e ≡ a ++ (((b ++ c) ++ d) ++ e)
five a b c d e =
    ap (λ (t : List ℕ). t ++ e) (ap (λ (t : List ℕ). t ++ d) (append_assoc a b c) ∙ append_assoc a (b ++ c) d) ∙ append_assoc a ((b ++ c) ++ d) e

-- a page whose head, marks and rest were put at the end
pub page_drawn : (lanes size p end : ℕ) (before after : Past) (page : Page) (old headed marked rested new : List ℕ) (scene : Scene)
    → page ≡ page_of lanes before after → length after ≡ end → headed ≡ old ++ page_head page size p end → AreDrawn page size after headed marked scene
    → rested ≡ marked ++ rest_text page end scene.heads scene.bands.items scene.bars.items → new ≡ rested ++ (codes "</g>" ++ 10 ∷ [])
    → IsPageDrawn lanes size p before after old new scene
page_drawn lanes size p end before after page old headed marked rested new scene is long head drawn rest closed =
    let heading = page_head page size p (length after) in
    let marks = marks_of page size after in
    let going = rest_shown page size after in
    let close : List ℕ = codes "</g>" ++ 10 ∷ [] in
    let first : headed ≡ old ++ heading = head ∙ ap (λ (k : ℕ). old ++ page_head page size p k) (sym long) in
    let second : marked ≡ (old ++ heading) ++ marks = drawn.text ∙ ap (λ (t : List ℕ). t ++ marks) first in
    let same : rest_text page end scene.heads scene.bands.items scene.bars.items ≡ going =
    λ i. rest_text page (sym long i) (drawn.shows.heads i) (drawn.shows.bands i) (drawn.shows.bars i) in
    let third : rested ≡ ((old ++ heading) ++ marks) ++ going = rest ∙ (λ i. second i ++ same i) in
    let whole : new ≡ old ++ (((heading ++ marks) ++ going) ++ close) =
    closed ∙ ap (λ (t : List ℕ). t ++ close) third ∙ five old heading marks going close in
    let spelled : new ≡ old ++ (heading ++ marks ++ going ++ codes "</g>" ++ 10 ∷ []) =
    whole ∙ ap (λ (t : List ℕ). old ++ t) (sym (append_assoc ((heading ++ marks) ++ going) (codes "</g>") (10 ∷ []))) in
    record {
      text =
          spelled
          ∙ ap (λ (q : Page). old ++ (page_head q size p (length after) ++ marks_of q size after ++ rest_shown q size after ++ codes "</g>" ++ 10 ∷ [])) is;
      shows = drawn.shows;
    }

-- a page more behind so many
pub next_page : (size : ℕ) (entries : List Entry) (p start end : ℕ) (old now new : List ℕ) (scene : Scene)
    → start ≡ min (p * 100) (length entries) → end ≡ min (p * 100 + 100) (length entries) → now ≡ old ++ flat_map (page_at size entries) (range_with_len 0 p)
    → IsPageDrawn (lanes_of (reverse entries)) size p (first_of entries start) (first_of entries end) now new scene
    → new ≡ old ++ flat_map (page_at size entries) (range_with_len 0 (p + 1))
next_page size entries p start end old now new scene begins ends was drawn =
    let lanes = lanes_of (reverse entries) in
    let before : first_of entries start ≡ first_of entries (p * 100) = ap (first_of entries) begins ∙ first_min entries (p * 100) in
    let after : first_of entries end ≡ first_of entries (p * 100 + 100) = ap (first_of entries) ends ∙ first_min entries (p * 100 + 100) in
    let page : page_text lanes size p (first_of entries start) (first_of entries end) ≡ page_at size entries p = λ i. page_text lanes size p (before i) (after i) in
    drawn.text ∙ (λ i. was i ++ page i) ∙ each_more (page_at size entries) 0 p p old (omega arith)

-- where a page starts
pub page_start : (page : Page) (lanes : ℕ) (before after : Past) (k : ℕ) → page ≡ page_of lanes before after → length before ≡ k → page.start ≡ k
page_start page lanes before after k is long = ap (λ (q : Page). q.start) is ∙ long

-- one piece more, and two
one_more_piece : (o a b x : List ℕ) → x ≡ o ++ a → x ++ b ≡ o ++ (a ++ b)
one_more_piece o a b x is = ap (λ (y : List ℕ). y ++ b) is ∙ append_assoc o a b

two_more_pieces : (o a b c x : List ℕ) → x ≡ o ++ a → x ++ (b ++ c) ≡ o ++ ((a ++ b) ++ c)
two_more_pieces o a b c x is = one_more_piece o a (b ++ c) x is ∙ ap (λ (y : List ℕ). o ++ y) (sym (append_assoc a b c))

-- what a page begins with, put at the end piece by piece
pub head_pieces : (o p d q w l n t a b c e f new : List ℕ) → a ≡ o ++ (p ++ d) → b ≡ a ++ (q ++ 10 ∷ []) → c ≡ b ++ w → e ≡ c ++ l → f ≡ e ++ n → new ≡ f ++ t
    → new ≡ o ++ ((((((p ++ d) ++ q) ++ (10 ∷ w)) ++ l) ++ n) ++ t)
head_pieces o p d q w l n t a b c e f new first second third fourth fifth sixth =
    let moved : b ≡ o ++ (((p ++ d) ++ q) ++ (10 ∷ [])) = second ∙ two_more_pieces o (p ++ d) q (10 ∷ []) a first in
    let worded : c ≡ o ++ (((p ++ d) ++ q) ++ (10 ∷ w)) =
    third ∙ one_more_piece o (((p ++ d) ++ q) ++ (10 ∷ [])) w b moved ∙ ap (λ (y : List ℕ). o ++ y) (append_assoc ((p ++ d) ++ q) (10 ∷ []) w) in
    let laned : e ≡ o ++ ((((p ++ d) ++ q) ++ (10 ∷ w)) ++ l) = fourth ∙ one_more_piece o (((p ++ d) ++ q) ++ (10 ∷ w)) l c worded in
    let named : f ≡ o ++ (((((p ++ d) ++ q) ++ (10 ∷ w)) ++ l) ++ n) = fifth ∙ one_more_piece o ((((p ++ d) ++ q) ++ (10 ∷ w)) ++ l) n e laned in
    sixth ∙ one_more_piece o (((((p ++ d) ++ q) ++ (10 ∷ w)) ++ l) ++ n) t f named

-- what a drawing begins with, put at the end piece by piece
pub open_pieces : (o p d q r t a b new : List ℕ) → a ≡ o ++ (p ++ d) → b ≡ a ++ (q ++ d) → new ≡ b ++ (r ++ t) → new ≡ o ++ (((((p ++ d) ++ q) ++ d) ++ r) ++ t)
open_pieces o p d q r t a b new first second third =
    let viewed : b ≡ o ++ (((p ++ d) ++ q) ++ d) = second ∙ two_more_pieces o (p ++ d) q d a first in
    third ∙ two_more_pieces o (((p ++ d) ++ q) ++ d) r t b viewed
