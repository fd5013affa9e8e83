-- One entry more, of what is shown of a place and of the rows; one node more, of texts for each node.
use Rattle.std.proofs.Common.{◌≡◌, ◌<◌, ◌≤◌, ◌^◌, ◌∷◌, ◌∙◌, ◌++◌, ◌+◌, ℕ, List, length, take, get_or, reverse, map, sym, ap, subst, arith}
use Rattle.std.specs.Fmt.{decimal}
use Rattle.std.specs.List.{flat_map, range_with_len}
use Rattle.std.proofs.lemmas.Fmt.{length-decimal-le}
use Rattle.std.proofs.lemmas.List.{flat_map_more, append_assoc, length-reverse, length-take-le}
use Rattle.std.proofs.lemmas.List.Folds.{flat_map-map}
use Rattle.std.proofs.lemmas.List.FromFn.{map-range_with_len_more}
use Rattle.std.proofs.lemmas.Simd.{map-map}
use Rattle.history_rules.specs.declared.entry.Entry.{Entry}
use Rattle.history_rules.specs.Nodes.{Past, primary_of}
use Rattle.history_rules.proofs.PastLemmas.{past_next}
use Rattle.run_picture.specs.declared.shown.NodeView.{NodeView}
use Rattle.run_picture.specs.declared.shown.PlaceView.{PlaceView}
use Rattle.run_picture.specs.Views.{views_of, heads_by, view_by, ShowsPlace}
use Rattle.run_picture.specs.Picture.{row_text, row_shown, rows_shown}

-- a number of 64 bits has at most twenty digits
pub few_digits : (n : ℕ) → n < 2 ^ 64 → length (decimal n) ≤ 20
few_digits n low = length-decimal-le 20 n (omega arith) (omega (arith, low)) low

views_step : (size : ℕ) (e : Entry) (past : Past) → map (view_by e.event (primary_of past)) (views_of size past) ≡ views_of size (e ∷ past)
views_step size e past = map-map _ _ (range_with_len 1 size)

-- what is shown goes one entry on
pub shown_next : (size : ℕ) (past : Past) (e : Entry) (old new : PlaceView) → ShowsPlace size past old → new.heads ≡ heads_by e.event old.heads
    → new.nodes.items ≡ map (view_by e.event old.heads.primary) old.nodes.items → ShowsPlace size (e ∷ past) new
shown_next size past e old new shows heads nodes =
    record {
      heads = heads ∙ ap (heads_by e.event) shows.heads;
      nodes = nodes ∙ (λ i. map (view_by e.event ((shows.heads i).primary)) (shows.nodes i)) ∙ views_step size e past;
    }

each_text : (f : ℕ → List ℕ) (ns : List ℕ) → flat_map (λ (t : List ℕ). t) (map f ns) ≡ flat_map f ns
each_text f ns = flat_map-map (λ (t : List ℕ). t) f ns

-- the text of one number more
pub each_more : (f : ℕ → List ℕ) (a n j : ℕ) (before : List ℕ) → a + n ≡ j
    → (before ++ flat_map f (range_with_len a n)) ++ f j ≡ before ++ flat_map f (range_with_len a (n + 1))
each_more f a n j before is =
    ap (λ (t : List ℕ). (before ++ t) ++ f j) (sym (each_text f (range_with_len a n)))
    ∙ flat_map_more (λ (t : List ℕ). t) before (map f (range_with_len a n)) (f j)
    ∙ ap (λ (ts : List (List ℕ)). before ++ flat_map (λ (t : List ℕ). t) ts) (sym (map-range_with_len_more f a n j is))
    ∙ ap (λ (t : List ℕ). before ++ t) (each_text f (range_with_len a (n + 1)))

-- the rows of one entry more
pub rows_next : (width size : ℕ) (entries : List Entry) (i place : ℕ) (e : Entry) (old now new : List ℕ) (views : List NodeView) (view : PlaceView)
    → i < length entries → e ≡ get_or entries i e → place ≡ i → ShowsPlace size (e ∷ reverse (take i entries)) view → views ≡ view.nodes.items
    → now ≡ old ++ rows_shown width size (reverse (take i entries)) → new ≡ now ++ row_text width (place + 1) e view.heads views
    → new ≡ old ++ rows_shown width size (reverse (take (i + 1) entries))
rows_next width size entries i place e old now new views view within is here shows viewed was put =
    let past : Past = reverse (take i entries) in
    let count : place ≡ length past = here ∙ sym (length-reverse (take i entries) ∙ length-take-le i entries (omega (arith, within))) in
    let row : row_text width (place + 1) e view.heads views ≡ row_shown width size e past =
    λ k. row_text width (count k + 1) e (shows.heads k) ((viewed ∙ shows.nodes) k) in
    put ∙ (λ k. was k ++ row k) ∙ append_assoc old (rows_shown width size past) (row_shown width size e past)
    ∙ ap (λ (p : Past). old ++ rows_shown width size p) (sym (past_next entries i e within is))

-- what is shown of the place behind one entry more
pub shows_next : (size : ℕ) (entries : List Entry) (i : ℕ) (e : Entry) (view : PlaceView) → i < length entries → e ≡ get_or entries i e
    → ShowsPlace size (e ∷ reverse (take i entries)) view → ShowsPlace size (reverse (take (i + 1) entries)) view
shows_next size entries i e view within is shows = subst (λ (p : Past). ShowsPlace size p view) (sym (past_next entries i e within is)) shows
