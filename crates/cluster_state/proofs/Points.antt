-- What later entries leave of the points of the history.
use Rattle.std.proofs.Common.{◌≤◌, ℕ, List, [], ◌∷◌, refl, ◌∙◌, sym, subst, arith}
use Rattle.nrt_base.specs.declared.doc.Doc.{Doc}
use Rattle.nrt_base.specs.declared.numbers.At.{At}
use Rattle.disk_model.specs.Disk.{Name, Content}
use Rattle.segment_infos.specs.declared.infos.Infos.{Infos}
use Rattle.seg_reader.specs.Stands.{StandsFor}
use Rattle.index_primary.specs.Held.{AreNumbered}
use Rattle.history_rules.specs.declared.entry.Event.{Event}
use Rattle.history_rules.specs.declared.entry.Event.TheVariants.{Published, Merging}
use Rattle.history_rules.specs.Nodes.{Past}
use Rattle.history_rules.specs.Lines.{before_start}
use Rattle.history_rules.specs.Points.{cut_has_put}
use Rattle.history_rules.specs.Tasks.{merge_count}
use Rattle.history_rules.specs.Legal.{KeepsRule, IsLegalPast}
use Rattle.history_rules.proofs.PassedLaws.{newest_more}
use Rattle.history_rules.proofs.PointLemmas.{documents_stay_lem}
use Rattle.script_serving.specs.Refusals.{put_publishes}
use Rattle.cluster_state.specs.Disks.{IsWritable, IsPastPoint, PointsStay}
use Rattle.cluster_state.proofs.Growing.{generation_more}
use Rattle.cluster_state.proofs.Drawn.{put_more}

-- ---- entries

-- nothing happened
pub points_alone : (past : Past) → PointsStay past past
points_alone past = record { newest = omega arith; generation = omega arith; puts = omega arith; merges = omega arith; documents = λ v low. refl }

-- two steps in a row
pub points_then : (past mid now : Past) → PointsStay past mid → PointsStay mid now → PointsStay past now
points_then past mid now a b = record {
  newest = omega (arith, a.newest, b.newest);
  generation = omega (arith, a.generation, b.generation);
  puts = omega (arith, a.puts, b.puts);
  merges = omega (arith, a.merges, b.merges);
  documents = λ v low. b.documents v (omega (arith, low, a.newest)) ∙ a.documents v low;
}

puts_more : (past : Past) (at : At) (e : Event) → put_publishes past ≤ put_publishes (record { at = at; event = e } ∷ past)
puts_more past at (Published g w) = put_more (cut_has_put (before_start at past)) (put_publishes past)
puts_more past at e = omega arith

merges_more : (past : Past) (at : At) (e : Event) → merge_count past ≤ merge_count (record { at = at; event = e } ∷ past)
merges_more past at (Merging seg) = omega arith
merges_more past at e = omega arith

-- one entry more
pub points_shown : (size : ℕ) (past : Past) (at : At) (e : Event) → IsLegalPast size past → KeepsRule size past at e → PointsStay past (record { at = at; event = e } ∷ past)
points_shown size past at e legal rule = record {
  newest = newest_more past at e;
  generation = generation_more size past at e rule;
  puts = puts_more past at e;
  merges = merges_more past at e;
  documents = λ v low. documents_stay_lem size (record { at = at; event = e } ∷ []) past v (rule, legal) low;
}

-- ---- points

pub writable_stays : (past now : Past) (infos : Infos) → put_publishes past ≤ put_publishes now → merge_count past ≤ merge_count now → IsWritable past infos → IsWritable now infos
writable_stays past now infos more merges was = record { few = omega (arith, was.few, more); live = λ none. was.live (omega (arith, none, merges)); numbered = was.numbered }

-- a point of the history stays one
pub point_stays : (source : Name → Content) (past now : Past) (infos : Infos) → PointsStay past now → IsPastPoint source past infos → IsPastPoint source now infos
point_stays source past now infos stay was = record {
  known = omega (arith, was.known, stay.newest);
  generation = omega (arith, was.generation, stay.generation);
  stands = subst (λ (docs : List Doc). StandsFor source infos docs) (sym (stay.documents infos.version.0 was.known)) was.stands;
  writable = writable_stays past now infos stay.puts stay.merges was.writable;
}

-- what a primary may write from, without the segments that have no file yet
pub unloosed : (infos : Infos) (loose : List ℕ) → AreNumbered infos loose → AreNumbered infos []
unloosed infos loose is = record {
  generation = is.generation;
  counter = is.counter;
  segs = is.segs;
  loose_below = λ seg held. absurd (omega (arith, held.1));
  loose_apart = λ seg held. absurd (omega (arith, held.1));
}
