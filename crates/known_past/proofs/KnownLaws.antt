-- One more entry keeps what is known.
use Rattle.std.proofs.Common.{◌≡◌, ◌==◌, ◌↔◌, ℕ, ◌∷◌, length, true, nat_le, if◌then◌else◌, ap, sym, subst, ◌∙◌}
use Rattle.std.specs.BTreeMap.{BTreeMap}
use Rattle.std.proofs.lemmas.Bool.{eqb-true, eq-eqb}
use Rattle.nrt_base.specs.declared.numbers.At.{At}
use Rattle.history_rules.specs.declared.entry.Entry.{Entry}
use Rattle.history_rules.specs.Nodes.{Past, crashes, generation_of, primary_crashes}
use Rattle.history_rules.specs.Lines.{same_at, before_start, NodeSurvives, SourceSurvives}
use Rattle.history_rules.specs.Points.{names_drawn}
use Rattle.history_facts.specs.declared.generation.Generation.{Generation}
use Rattle.history_facts.specs.Generations.{ShowsGeneration, ShowsDrawn, drawn_in}
use Rattle.history_tables.specs.declared.numbers.Numbers.{Numbers}
use Rattle.history_tables.specs.NodeRows.{crashed_at}
use Rattle.history_tables.specs.Numbering.{NumbersTell, AreLow, primary_crashed}
use Rattle.history_book.proofs.ReignLaws.{node_alive, source_alive}
use Rattle.known_past.specs.declared.past.KnownPast.{KnownPast}
use Rattle.known_past.specs.Lines.{line_after, line_known}
use Rattle.known_past.specs.Nodes.{AreNodesKnown}
use Rattle.known_past.specs.Versions.{VersionsAreKnown}
use Rattle.known_past.specs.Known.{TicketsAreKnown, IsKnown}
use Rattle.known_past.proofs.LineLaws.{lines_next}

-- no count is above the number of entries
pub numbers_low : (past : Past) (k : Numbers) (size : ℕ) → NumbersTell past k → length past ≡ size → AreLow k size
numbers_low past k size h is = subst (AreLow k) is (record {
  count = h.count_low;
  accepted = h.accepted_low;
  names = h.names_low;
  merges = h.merges_low;
  idle = h.idle_low;
  all_merges = h.all_low;
  drained = h.drained_low;
})

-- the names that each generation has drawn, after one more entry
pub names_next : (past : Past) (e : Entry) (g : Generation) (old new : BTreeMap ℕ ℕ) → ShowsGeneration (e ∷ past) g → ShowsDrawn past old
    → ((k : ℕ) → drawn_in new k ≡ (if g.number == k then g.names else drawn_in old k)) → ShowsDrawn (e ∷ past) new
names_next past e g old new shows drawn noted = λ k.
    noted k ∙ ap (λ (n : ℕ). if n == k then g.names else drawn_in old k) shows.number ∙ ap (λ (n : ℕ). if generation_of (e ∷ past) == k then n else drawn_in old k) shows.names
    ∙ ap (λ (n : ℕ). if generation_of (e ∷ past) == k then names_drawn (e ∷ past) else n) (drawn k)

-- what is known after one more entry
pub known_next : (past : Past) (e : Entry) (old new : KnownPast) (size : ℕ) → IsKnown past old → size ≡ length past → NumbersTell (e ∷ past) new.numbers
    → ((at : At) → line_known new.lines at ≡ (if same_at e.at at then line_after e.event size old.numbers.accepted (line_known old.lines e.at) else line_known old.lines at))
    → AreNodesKnown (e ∷ past) new.nodes → TicketsAreKnown (e ∷ past) new.tickets → VersionsAreKnown (e ∷ past) new.versions → ShowsDrawn (e ∷ past) new.drawn → IsKnown (e ∷ past) new
known_next past e old new size known is numbers lines nodes tickets versions drawn = record {
  numbers = numbers;
  lines = lines_next past e old.numbers.accepted old.lines new.lines known.numbers.accepted known.lines
      (λ at. lines at ∙ ap (λ (k : ℕ). if same_at e.at at then line_after e.event k old.numbers.accepted (line_known old.lines e.at) else line_known old.lines at) is);
  nodes = nodes;
  tickets = tickets;
  versions = versions;
  drawn = drawn;
}

-- a node has not crashed since the start of a line where its last crash was not after it
pub node_lives : (past : Past) (at : At) (n crashed before : ℕ) → crashed ≡ crashed_at n past → before ≡ length (before_start at past) → (nat_le crashed before ≡ true) ↔ NodeSurvives past at n
node_lives past at n crashed before last start = (
  λ low. record { node = eqb-true (crashes n past) (crashes n (before_start at past)) (sym here ∙ low) },
  λ survives. here ∙ eq-eqb (crashes n past) (crashes n (before_start at past)) survives.node,
)
  where
    here : nat_le crashed before ≡ (crashes n past == crashes n (before_start at past))
    here = ap (λ (k : ℕ). nat_le k before) last ∙ ap (nat_le (crashed_at n past)) start ∙ node_alive n at past

-- the source of a line has not crashed since its start where the last crash of a primary was not after it
pub source_lives : (past : Past) (at : At) (crashed before : ℕ) → crashed ≡ primary_crashed past → before ≡ length (before_start at past) → (nat_le crashed before ≡ true) ↔ SourceSurvives past at
source_lives past at crashed before last start = (
  λ low. record { source = eqb-true (primary_crashes past) (primary_crashes (before_start at past)) (sym here ∙ low) },
  λ survives. here ∙ eq-eqb (primary_crashes past) (primary_crashes (before_start at past)) survives.source,
)
  where
    here : nat_le crashed before ≡ (primary_crashes past == primary_crashes (before_start at past))
    here = ap (λ (k : ℕ). nat_le k before) last ∙ ap (nat_le (primary_crashed past)) start ∙ source_alive at past
