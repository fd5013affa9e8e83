-- Infos, what reads them and their names, over calls that change none of these.
use Rattle.std.proofs.Common.{◌≡◌, ◌<◌, ℕ, ◌+◌, false, List, [], ◌++◌, refl, ap, ◌∙◌, arith}
use Rattle.std.specs.List.{Contains, flat_map}
use Rattle.file_names.specs.Names.{is_commit_name, is_pending_name}
use Rattle.file_names.proofs.NameLaws.{part_name_not_commit, part_name_not_pending, live_name_not_commit, live_name_not_pending}
use Rattle.disk_model.specs.Disk.{Name, Content, Cells}
use Rattle.segment_infos.specs.declared.infos.Infos.{Infos}
use Rattle.segment_infos.specs.Files.{files_of_segment}
use Rattle.segment_steps.specs.Given.{Shown}
use Rattle.file_deleter.specs.Holdings.{Holdings, times}
use Rattle.file_deleter.specs.Moves.{MovesCounts}
use Rattle.file_deleter.proofs.NameLemmas.{times-append, among_times}
use Rattle.commit_steps.proofs.Safe.{among_of}
use Rattle.searcher_switch.proofs.Standing.{segments_along}
use Rattle.searcher_switch.specs.Node.{AddsOnly, HoldsNoMore, KeepsBytes}
use Rattle.searcher_switch.specs.Standing.{StandsForSome}
use Rattle.index_primary.specs.Held.{IsHeld, IsUndrawn, part, live, next_live, AreUndrawn}

pub named_times : (infos : Infos) (segs : List Shown) (names : List Name) (reads : Name → Content) → IsHeld reads infos segs names → (q : Name) → Contains (flat_map files_of_segment infos.segs) q → 0 < times names q
named_times infos segs names reads h q named = among_times names q (among_of names q ((h.files.named q).1 named))

pub held_kept : (before after : Name → Content) (infos : Infos) (segs : List Shown) (names : List Name) → IsHeld before infos segs names → ((q : Name) → 0 < times names q → after q ≡ before q) → IsHeld after infos segs names
held_kept before after infos segs names h same_reads = record {
  spelled = h.spelled;
  files = h.files;
  docs = h.docs;
  stands = record {
    each = segments_along before after infos.segs segs (λ q named. same_reads q (named_times infos segs names before h q named)) h.stands.each;
    stand = h.stands.stand;
  };
}

pub some_of_held : (reads : Name → Content) (infos : Infos) (segs : List Shown) (names : List Name) → IsHeld reads infos segs names → StandsForSome reads infos
some_of_held reads infos segs names h = record { docs = h.docs; stands = record { segs = segs; stands = h.stands } }

-- a file that is not written yet is no commit's
pub undrawn_plain : (infos : Infos) (loose filled : List ℕ) (q : Name) → IsUndrawn infos loose filled q → (is_commit_name q ≡ false) × (is_pending_name q ≡ false)
undrawn_plain infos loose filled q (part seg which unused out e) = (ap is_commit_name e ∙ part_name_not_commit seg which, ap is_pending_name e ∙ part_name_not_pending seg which)
undrawn_plain infos loose filled q (live seg live_gen unused small e) = (ap is_commit_name e ∙ live_name_not_commit seg live_gen, ap is_pending_name e ∙ live_name_not_pending seg live_gen)
undrawn_plain infos loose filled q (next_live r live_gen is e) = (ap is_commit_name e ∙ live_name_not_commit r.seg.0 live_gen, ap is_pending_name e ∙ live_name_not_pending r.seg.0 live_gen)

pub undrawn_kept : (old new : Holdings) (infos : Infos) (loose filled : List ℕ) → AreUndrawn old infos loose filled → HoldsNoMore old new → AreUndrawn new infos loose filled
undrawn_kept old new infos loose filled h no_more = record { each = λ q is. let plain = undrawn_plain infos loose filled q is in no_more.each q plain.0 plain.1 (h.each q is) }

pub stays_of_moves : (w from to : List Name) (old new : Holdings) (before after : Cells) → MovesCounts w from to old new before after → KeepsBytes old new before after
stays_of_moves w from to old new before after m = record { held = m.keeps.reads }

pub only_front : (from to rest : List Name) → AddsOnly [] from to → AddsOnly [] (from ++ rest) (to ++ rest)
only_front from to rest only = record {
  each = λ q none nil.
      let split : times (from ++ rest) q ≡ times from q + times rest q = times-append from rest q in
      omega (arith, none, split, times-append to rest q, only.each q (omega (arith, none, split)) nil);
}

pub only_among : (names from to : List Name) → AddsOnly [] from to → AddsOnly names from to
only_among names from to only = record { each = λ q none more. only.each q none refl }
