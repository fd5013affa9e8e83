-- What a primary of the next generation needs of a point of the history: its segments are numbered, and its files that are not written yet
-- mean nothing and are held by nobody.
use Rattle.std.proofs.Common.{◌≡◌, ◌<◌, ◌≤◌, ◌+◌, ◌-◌, ◌*◌, ◌^◌, inl, inr, nat_lt, ℕ, true, List, [], Some, None, get_or, refl, ap, ◌∙◌, sym, subst, arith}
use Rattle.std.specs.List.{All, Contains}
use Rattle.std.proofs.lemmas.Bool.{ltb-true}
use Rattle.std.proofs.lemmas.Bool.Decides.{nat_tests}
use Rattle.std.proofs.lemmas.List.Elements.{All-contains}
use Rattle.nrt_base.specs.SegNumbers.{segment_number, segment_place, segment_generation}
use Rattle.disk_model.specs.Disk.{Name, Content, Cells}
use Rattle.file_names.specs.Names.{live_name_of, IsFileOfSegment}
use Rattle.file_names.proofs.NameReading.{file_apart}
use Rattle.file_deleter.specs.Holdings.{Holdings}
use Rattle.segment_infos.specs.declared.infos.SegRecord.{SegRecord}
use Rattle.segment_infos.specs.declared.infos.Infos.{Infos}
use Rattle.segment_steps.specs.Next.{record_generation, live_base}
use Rattle.commit_steps.specs.declared.stage.CommitBook.{CommitBook}
use Rattle.searcher_switch.specs.Node.{IsWholeNode}
use Rattle.index_primary.specs.Held.{IsUnused, IsNextLive, IsUndrawn, part, live, next_live, AreUndrawn, IsDrawnRecord, AreNumbered}
use Rattle.replica_node.specs.Given.{IsLasting}
use Rattle.replica_node.specs.Sources.{HeldReadAs}
use Rattle.history_rules.specs.Nodes.{Past, generation_of}
use Rattle.history_rules.specs.Points.{names_drawn_in, is_drawn}
use Rattle.history_rules.specs.Legal.{IsLegalPast}
use Rattle.history_tables.proofs.RowLemmas.{by_test}
use Rattle.cluster_state.specs.Files.{MeansDrawn}
use Rattle.cluster_state.proofs.Drawn.{none_drawn}
use Rattle.cluster_state.proofs.Lasting.{part_lasts, live_lasts, unheld}
use Rattle.cluster_state.proofs.Living.{drawn_small}

-- a number that was drawn is below those of the next generation
drawn_below : (size seg : ℕ) (past : Past) → IsLegalPast size past → is_drawn seg past ≡ true → seg < segment_number (generation_of past + 1) 0
drawn_below size seg past legal drawn = let made : segment_generation seg ≤ generation_of past = no_later in omega (arith, made)
  where
    no_later : segment_generation seg ≤ generation_of past
    no_later = by_test (nat_lt (generation_of past) (segment_generation seg)) (λ b. segment_generation seg ≤ generation_of past)
        (λ later.
        let none = none_drawn size (segment_generation seg) past legal (ltb-true (generation_of past) (segment_generation seg) later) in
        let some = ltb-true (segment_place seg) (names_drawn_in (segment_generation seg) past) drawn in
        absurd (omega (arith, none, some)))
        (λ low. grind (arith, nat_tests, low))

-- what is not written yet has a lasting name
undrawn_lasts : (infos : Infos) (loose filled : List ℕ) (q : Name) → IsUndrawn infos loose filled q → IsLasting q
undrawn_lasts infos loose filled q (part seg which unused out is) = subst IsLasting (sym is) (part_lasts seg which)
undrawn_lasts infos loose filled q (live seg live_gen unused small is) = subst IsLasting (sym is) (live_lasts seg live_gen)
undrawn_lasts infos loose filled q (next_live r live_gen of is) = subst IsLasting (sym is) (live_lasts r.seg.0 live_gen)

module _ (infos next : Infos) (segs : next.segs ≡ infos.segs) (counter : next.counter ≡ 0) (numbered : AreNumbered infos []) where
  -- a segment has its number and its live generation in a later generation too
  record_next : infos.generation.0 < next.generation.0 → (r : SegRecord) → IsDrawnRecord infos r → IsDrawnRecord next r
  record_next above r is = record {
    below = (let below = is.below in let most = numbered.counter in omega (arith, below, most, above));
    made = (let made = is.made in omega (arith, made, above));
    live_gen = (let bound = is.live_gen in raised (infos.generation.0 - record_generation r) (next.generation.0 - record_generation r) r.live_gen r.live r.rows (omega (arith, above)) bound);
  }
    where
      raised : (d e own alive rows : ℕ) → d ≤ e → own + alive ≤ d * 4294967296 + rows → own + alive ≤ e * 4294967296 + rows
      raised d e own alive rows low bound = omega (arith, low, bound)

  pub numbered_next : infos.generation.0 < next.generation.0 → next.generation.0 < 2 ^ 31 → AreNumbered next []
  numbered_next above small = record {
    generation = small;
    counter = omega (arith, counter);
    segs = subst (λ (rs : List SegRecord). All (IsDrawnRecord next) rs) (sym segs) (λ k d lt. record_next above (get_or infos.segs k d) (numbered.segs k d lt));
    loose_below = λ seg held. absurd (omega (arith, held.1));
    loose_apart = λ seg held. absurd (omega (arith, held.1));
  }

  module _ (source : Name → Content) (size : ℕ) (past : Past) (legal : IsLegalPast size past) (means : MeansDrawn source past) (generation : next.generation.0 ≡ generation_of past + 1) where
    -- no file of a segment means anything that is not drawn
    no_file : (seg : ℕ) (q : Name) (bytes : List ℕ) → IsUnused next [] seg → IsFileOfSegment seg q → IsLasting q → source q ≡ Some bytes → ⊥
    no_file seg q bytes (small, inr held) file lasting is = absurd (omega (arith, held.1))
    no_file seg q bytes (small, inl above) file lasting is =
        let drawn = means.drawn q bytes lasting is in
        let same : drawn.0 ≡ seg = file_apart drawn.0 seg q drawn.2 file in
        let below = drawn_below size drawn.0 past legal drawn.1 in
        absurd (omega (arith, same, below, above, generation, counter))

    -- nor any next live file
    no_live : (r : SegRecord) (live_gen : ℕ) (q : Name) (bytes : List ℕ) → IsNextLive next r live_gen → q ≡ live_name_of r.seg.0 live_gen → source q ≡ Some bytes → ⊥
    no_live r live_gen q bytes of named is =
        let held : Contains infos.segs r = subst (λ (rs : List SegRecord). Contains rs r) segs of.of in
        let small = drawn_small infos r.seg.0 numbered.generation numbered.counter (All-contains (IsDrawnRecord infos) infos.segs r numbered.segs held).below in
        let below : live_gen < live_base (generation_of past + 1) r = means.live r live_gen bytes small of.small (ap source (sym named) ∙ is) in
        let above : live_base (generation_of past + 1) r < live_gen = subst (λ (g : ℕ). live_base g r < live_gen) generation of.apart in
        absurd (omega (arith, below, above))

    -- what is not written yet means nothing
    pub unwritten_next : (q : Name) → IsUndrawn next [] [] q → source q ≡ None
    unwritten_next q undrawn = by (source q) refl undrawn
      where
        by : (o : Content) → source q ≡ o → IsUndrawn next [] [] q → source q ≡ None
        by None none undrawn = none
        by (Some bytes) is (part seg which unused out named) = absurd (no_file seg q bytes unused (unused.0, inl (which, named)) (subst IsLasting (sym named) (part_lasts seg which)) is)
        by (Some bytes) is (live seg live_gen unused small named) = absurd (no_file seg q bytes unused (unused.0, inr (live_gen, small, named)) (subst IsLasting (sym named) (live_lasts seg live_gen)) is)
        by (Some bytes) is (next_live r live_gen of named) = absurd (no_live r live_gen q bytes of named is)

    -- and is held by nobody
    pub undrawn_next : (cells : Cells) (holdings : Holdings) (others : List Name) (book : CommitBook) → IsWholeNode cells holdings others book → HeldReadAs source cells holdings → AreUndrawn holdings next [] []
    undrawn_next cells holdings others book whole held = record { each = λ q undrawn. unheld source cells holdings others book whole held q (undrawn_lasts next [] [] q undrawn) (unwritten_next q undrawn) }
