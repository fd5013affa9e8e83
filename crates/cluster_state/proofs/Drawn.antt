-- Names that files may have stay such: what a generation has drawn becomes no less.
use Rattle.std.proofs.Common.{◌≡◌, ◌≤◌, ◌<◌, ◌+◌, ◌^◌, ◌==◌, inl, inr, nat_lt, ℕ, Bool, true, false, true≢false, [], ◌∷◌, refl, ap, ◌∙◌, sym, arith, if◌then◌else◌}
use Rattle.std.proofs.lemmas.Bool.{eqb-true, eq-eqb}
use Rattle.std.proofs.lemmas.Bool.Decides.{nat_tests}
use Rattle.nrt_base.specs.SegNumbers.{segment_number, segment_place, segment_generation, segments_of_generation}
use Rattle.nrt_base.specs.declared.numbers.At.{At}
use Rattle.history_rules.specs.declared.entry.Event.{Event}
use Rattle.history_rules.specs.declared.entry.Event.TheVariants.{Publishing, Merging, Promoted}
use Rattle.history_rules.specs.Nodes.{Past, generation_of}
use Rattle.history_rules.specs.Points.{names_drawn, names_drawn_in, is_drawn, cut_has_put, IsDrawnFile}
use Rattle.history_rules.specs.Rules.{MayHaveName}
use Rattle.history_rules.specs.Legal.{KeepsRule, IsLegalPast}
use Rattle.disk_model.specs.Disk.{Name}
use Rattle.file_names.specs.Names.{temp_name_of}
use Rattle.replica_node.specs.Given.{IsLasting}
use Rattle.history_tables.proofs.RowLemmas.{by_test}
use Rattle.cluster_state.proofs.Growing.{generation_more}

-- a generation that is not there yet has drawn nothing
pub none_drawn : (size : ℕ) (g : ℕ) (past : Past) → IsLegalPast size past → generation_of past < g → names_drawn_in g past ≡ 0
none_drawn size g [] legal above = refl
none_drawn size g (e ∷ past) legal above =
    let low = generation_more size past e.at e.event legal.0 in
    let other : (generation_of (e ∷ past) == g) ≡ false = grind (arith, nat_tests) in
    ap (λ (b : Bool). if b then names_drawn (e ∷ past) else names_drawn_in g past) other ∙ none_drawn size g past legal.1 (omega (arith, low))

-- the present one has drawn what is counted for it
pub present_drawn : (g : ℕ) (past : Past) → generation_of past ≡ g → names_drawn_in g past ≤ names_drawn past
present_drawn g [] is = omega arith
present_drawn g (e ∷ past) is =
    let here : (generation_of (e ∷ past) == g) ≡ true = grind (arith, nat_tests) in
    let same : names_drawn_in g (e ∷ past) ≡ names_drawn (e ∷ past) = ap (λ (b : Bool). if b then names_drawn (e ∷ past) else names_drawn_in g past) here in
    omega (arith, same)

-- one more entry of the generation draws no less
same_generation : (g : ℕ) (past : Past) (more : ℕ) → names_drawn past ≤ more → names_drawn_in g past ≤ (if generation_of past == g then more else names_drawn_in g past)
same_generation g past more low =
    by_test (generation_of past == g) (λ b. names_drawn_in g past ≤ (if b then more else names_drawn_in g past))
    (λ here. let is : generation_of past ≡ g = eqb-true (generation_of past) g here in let present = present_drawn g past is in omega arith) (λ apart. omega arith)

pub put_more : (b : Bool) (k : ℕ) → k ≤ (if b then k + 1 else k)
put_more true k = omega arith
put_more false k = omega arith

-- what a generation has drawn becomes no less
drawn_more : (size : ℕ) (g : ℕ) (past : Past) (at : At) (e : Event) → IsLegalPast size past → KeepsRule size past at e → names_drawn_in g past ≤ names_drawn_in g (record { at = at; event = e } ∷ past)
drawn_more size g past at (Promoted m h f w) legal keeps =
    by_test (h.0 == g) (λ b. names_drawn_in g past ≤ (if b then 0 else names_drawn_in g past))
    (λ here. let none : names_drawn_in g past ≡ 0 = none_drawn size g past legal (let is : h.0 ≡ g = eqb-true h.0 g here in let next = keeps.next in omega arith) in omega arith)
    (λ apart. omega arith)
drawn_more size g past at Publishing legal keeps = same_generation g past _ (put_more (cut_has_put past) (names_drawn past))
drawn_more size g past at (Merging seg) legal keeps = same_generation g past (names_drawn past + 1) (omega arith)
drawn_more size g past at e legal keeps = same_generation g past (names_drawn past) (omega arith)

drawn_is : (place drawn more : ℕ) → drawn ≤ more → nat_lt place drawn ≡ true → nat_lt place more ≡ true
drawn_is place drawn more low is = grind (arith, nat_tests)

is_drawn_more : (size : ℕ) (seg : ℕ) (past : Past) (at : At) (e : Event) → IsLegalPast size past → KeepsRule size past at e → is_drawn seg past ≡ true → is_drawn seg (record { at = at; event = e } ∷ past) ≡ true
is_drawn_more size seg past at e legal keeps is = drawn_is (segment_place seg) (names_drawn_in (segment_generation seg) past) (names_drawn_in (segment_generation seg) (record { at = at; event = e } ∷ past)) (drawn_more size (segment_generation seg) past at e legal keeps) is

-- the number that a publish with a put draws is drawn once it has started
pub just_drawn : (past : Past) (at : At) → cut_has_put past ≡ true → names_drawn past < segments_of_generation → is_drawn (segment_number (generation_of past) (names_drawn past)) (record { at = at; event = Publishing } ∷ past) ≡ true
just_drawn past at put low =
    let seg : ℕ = segment_number (generation_of past) (names_drawn past) in
    let now : Past = record { at = at; event = Publishing } ∷ past in
    let place : segment_place seg ≡ names_drawn past = omega (arith, low) in
    let made : segment_generation seg ≡ generation_of past = omega (arith, low) in
    let here : (generation_of past == segment_generation seg) ≡ true = eq-eqb (generation_of past) (segment_generation seg) (sym made) in
    let count : names_drawn_in (segment_generation seg) now ≡ names_drawn past + 1 =
    ap (λ (b : Bool). if b then names_drawn now else names_drawn_in (segment_generation seg) past) here ∙ ap (λ (b : Bool). if b then names_drawn past + 1 else names_drawn past) put in
    within (segment_place seg) (names_drawn_in (segment_generation seg) now) (omega (arith, place, count))
  where
    within : (place drawn : ℕ) → place < drawn → nat_lt place drawn ≡ true
    within place drawn low = grind (arith, nat_tests)

-- ---- what grows

-- from one past to a later one numbers that were drawn stay so, and the generation becomes no less
pub record Grows (past now : Past) : Type 0 where
  pub drawn : (seg : ℕ) → is_drawn seg past ≡ true → is_drawn seg now ≡ true
  pub generation : generation_of past ≤ generation_of now

pub grows_none : (past : Past) → Grows past past
grows_none past = record { drawn = λ seg is. is; generation = omega arith }

pub grows_then : (past mid now : Past) → Grows past mid → Grows mid now → Grows past now
grows_then past mid now a b = record { drawn = λ seg is. b.drawn seg (a.drawn seg is); generation = omega (arith, a.generation, b.generation) }

pub grows_shown : (size : ℕ) (past : Past) (at : At) (e : Event) → IsLegalPast size past → KeepsRule size past at e → Grows past (record { at = at; event = e } ∷ past)
grows_shown size past at e legal rule = record { drawn = λ seg is. is_drawn_more size seg past at e legal rule is; generation = generation_more size past at e rule }

-- a name of a drawn file stays one
pub file_more : (past now : Past) (q : Name) → Grows past now → IsDrawnFile past q → IsDrawnFile now q
file_more past now q g (seg, drawn, file) = (seg, g.drawn seg drawn, file)

-- a name that a file may have stays one
pub may_have_more : (past now : Past) (q : Name) → Grows past now → MayHaveName past q → MayHaveName now q
may_have_more past now q g (inl commit) = inl commit
may_have_more past now q g (inr (inl pending)) = inr (inl pending)
may_have_more past now q g (inr (inr (inl file))) = inr (inr (inl (file_more past now q g file)))
may_have_more past now q g (inr (inr (inr (seg, drawn, file)))) = inr (inr (inr (seg, g.drawn seg drawn, file)))

-- where it is none of a commit and none of a file that is being copied, it is that of a drawn file
pub lasting_drawn : (past : Past) (q : Name) → IsLasting q → MayHaveName past q → IsDrawnFile past q
lasting_drawn past q lasting (inl commit) = absurd (true≢false (sym commit ∙ lasting.commit))
lasting_drawn past q lasting (inr (inl pending)) = absurd (true≢false (sym pending ∙ lasting.pending))
lasting_drawn past q lasting (inr (inr (inl file))) = file
lasting_drawn past q lasting (inr (inr (inr (seg, drawn, t)))) = absurd (lasting.temporary t.0 t.1 t.4)

-- and the temporary name of such a file in a job is one that a file may have
pub temporary_drawn : (past : Past) (file q : Name) (job : ℕ) → IsDrawnFile past file → job < 2 ^ 64 → q ≡ temp_name_of file job → MayHaveName past q
temporary_drawn past file q job (seg, drawn, of) small is = inr (inr (inr (seg, drawn, (file, job, of, small, is))))
