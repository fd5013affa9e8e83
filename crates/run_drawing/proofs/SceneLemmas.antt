-- One entry more, of what a drawing remembers.
use Rattle.std.proofs.Common.{◌≡◌, ◌∷◌, ◌∙◌, ◌++◌, ℕ, List, map, length, sym, ap}
use Rattle.std.specs.Prelude.{not}
use Rattle.std.specs.List.{filter, range_with_len}
use Rattle.std.proofs.lemmas.Simd.{map-map}
use Rattle.history_rules.specs.declared.entry.Entry.{Entry}
use Rattle.history_rules.specs.Nodes.{Past, primary_of}
use Rattle.run_picture.specs.declared.shown.Heads.{Heads}
use Rattle.run_picture.specs.Views.{heads_of, heads_by}
use Rattle.run_drawing.specs.declared.scene.Band.{Band}
use Rattle.run_drawing.specs.declared.scene.OpenBar.{OpenBar}
use Rattle.run_drawing.specs.declared.scene.Scene.{Scene}
use Rattle.run_drawing.specs.declared.span.Page.{Page}
use Rattle.run_drawing.specs.Scenes.{bands_of, bars_begun, bars_of, is_over, ShowsScene, AreBarsBegun, IsStepped, band_by}
use Rattle.run_drawing.specs.Drawing.{marks_text, IsEntryDrawn}

bands_step : (size : ℕ) (e : Entry) (past : Past) → map (band_by e.event (primary_of past) (length past)) (bands_of size past) ≡ bands_of size (e ∷ past)
bands_step size e past = map-map _ _ (range_with_len 1 size)

-- the bars that are open once an entry's own are
begun_bars : (e : Entry) (past : Past) (place : ℕ) (old new : List OpenBar) → length past ≡ place → new ≡ bars_begun e place old → old ≡ bars_of past
    → new ≡ bars_begun e (length past) (bars_of past)
begun_bars e past place old new long begun was = begun ∙ (λ i. bars_begun e (sym long i) (was i))

-- what is remembered goes one entry on
stepped : (size : ℕ) (past : Past) (e : Entry) (place : ℕ) (old begun_scene new : Scene) → length past ≡ place → ShowsScene size past old
    → AreBarsBegun e place old begun_scene → IsStepped e place begun_scene new → ShowsScene size (e ∷ past) new
stepped size past e place old begun_scene new long shows begun step =
    let heads : begun_scene.heads ≡ heads_of past = begun.heads ∙ shows.heads in
    let bands : begun_scene.bands.items ≡ bands_of size past = begun.bands ∙ shows.bands in
    let bars : begun_scene.bars.items ≡ bars_begun e (length past) (bars_of past) = begun_bars e past place _ _ long begun.bars shows.bars in
    record {
      heads = step.heads ∙ ap (heads_by e.event) heads;
      bands = step.bands ∙ (λ i. map (band_by e.event ((heads i).primary) (sym long i)) (bands i)) ∙ bands_step size e past;
      bars = step.bars ∙ ap (filter (λ (bar : OpenBar). not (is_over e bar))) bars;
    }

same_marks : (page : Page) (e : Entry) (p q : ℕ) (g h : Heads) (bs cs : List Band) (xs ys : List OpenBar) → p ≡ q → g ≡ h → bs ≡ cs → xs ≡ ys
    → marks_text page e p g bs xs ≡ marks_text page e q h cs ys
same_marks page e p q g h bs cs xs ys places heads bands bars = λ i. marks_text page e (places i) (heads i) (bands i) (bars i)

-- an entry whose marks were put at the end, and which happened
pub drawn : (page : Page) (size : ℕ) (past : Past) (e : Entry) (place : ℕ) (old begun_scene new : Scene) (before after : List ℕ) → length past ≡ place
    → ShowsScene size past old → AreBarsBegun e place old begun_scene
    → after ≡ before ++ marks_text page e place begun_scene.heads begun_scene.bands.items begun_scene.bars.items
    → IsStepped e place begun_scene new → IsEntryDrawn page size e past before after new
drawn page size past e place old begun_scene new before after long shows begun put step =
    record {
      text =
          put
          ∙ ap (λ (m : List ℕ). before ++ m)
          (same_marks page e place (length past) begun_scene.heads (heads_of past) _ (bands_of size past) _ _ (sym long) (begun.heads ∙ shows.heads) (begun.bands ∙ shows.bands)
          (begun_bars e past place _ _ long begun.bars shows.bars));
      shows = stepped size past e place old begun_scene new long shows begun step;
    }
