use Rattle.std.proofs.Common.{◌≡◌, ◌∙◌, Result, Err, IsErrOf, refl, sym, ap, subst}
use Rattle.seg_reader.specs.Stands.{AreSegmentsOf}
use Rattle.searcher_switch.proofs.Appearing.{only_then_none}
use Rattle.index_primary.specs.Held.{IsOwnFile}
use Rattle.index_primary.specs.declared.parts.PrimaryParts.{PrimaryParts}
use Rattle.index_primary.specs.Merges.{merges_without}
use Rattle.index_primary.specs.Primary.{IsUnwritten, loose_of}
use Rattle.index_primary.specs.declared.parts.PrimaryFault.{PrimaryFault}
use Rattle.index_primary.specs.declared.parts.PrimaryFault.TheVariants.{Memory, Failed}
use Rattle.index_primary.proofs.Abandoned.{refused_fills}
use Rattle.index_primary.proofs.CutPlaced.{ready_documents, cut_fills, cut_draws, unmerged, unplaced}
use Rattle.index_primary.proofs.primary.Primary.merge_cut.Goals as goal

pub returns-in-Ok-clause-documents : goal.returns-in-Ok-clause-documents
returns-in-Ok-clause-documents g c = rw (← c.self.view_is)
    (λ docs stand.
    subst (AreSegmentsOf docs) (sym c.place.ensures.infos.1)
    (ready_documents g.D.Dir.cells c.self.inside.parts c.self.invariant c.args.seg c.in_ok-ready.ready c.in_ok-ready.ensures docs stand))

pub returns-in-Ok-clause-appears : goal.returns-in-Ok-clause-appears
returns-in-Ok-clause-appears g c = rw (← c.self.view_is)
    (let p = c.self.inside.parts in
    only_then_none (IsOwnFile p.infos (loose_of p)) (g.D.Dir.cells p.dir) (g.D.Dir.cells c.write.new.parts.dir) (g.D.Dir.cells c.place.new.parts.dir) c.write.ensures.appears c.place.ensures.appears)

pub returns-in-Err-Failed-clause-appears : goal.returns-in-Err-Failed-clause-appears
returns-in-Err-Failed-clause-appears g c = rw (← c.self.view_is)
    (let p = c.self.inside.parts in
    only_then_none (IsOwnFile p.infos (loose_of p)) (g.D.Dir.cells p.dir) (g.D.Dir.cells c.write.new.parts.dir) (g.D.Dir.cells c.abandon.new.parts.dir) c.write.ensures.appears c.abandon.ensures.appears)

pub returns-in-Ok-clause-fresh : goal.returns-in-Ok-clause-fresh
returns-in-Ok-clause-fresh g c = rw (← c.self.view_is)
    (cut_fills g.D.Dir.cells c.self.inside.parts c.place.new.parts c.self.invariant c.place.ensures.whole c.args.seg c.in_ok-ready.ready c.in_ok-ready.ensures
    c.place.ensures.infos.0 c.place.ensures.infos.1 c.place.ensures.names (c.place.ensures.merges ∙ ap (λ (x : PrimaryParts _). merges_without c.args.seg.0 x.merges) c.write.ensures.others)
    (ap (λ (x : PrimaryParts _). x.publish) c.place.ensures.others ∙ ap (λ (x : PrimaryParts _). x.publish) c.write.ensures.others) (ap (λ (x : PrimaryParts _). x.searchers) c.place.ensures.others ∙ ap (λ (x : PrimaryParts _). x.searchers) c.write.ensures.others)
    (ap (λ (x : PrimaryParts _). x.states) c.place.ensures.others ∙ ap (λ (x : PrimaryParts _). x.states) c.write.ensures.others) (ap (λ (x : PrimaryParts _). x.commits) c.place.ensures.others ∙ ap (λ (x : PrimaryParts _). x.commits) c.write.ensures.others))

pub returns-in-Ok-clause-drawn : goal.returns-in-Ok-clause-drawn
returns-in-Ok-clause-drawn g c = rw (← c.self.view_is)
    (cut_draws g.D.Dir.cells c.self.inside.parts c.place.new.parts c.self.invariant c.place.ensures.whole c.args.seg c.in_ok-ready.ready c.in_ok-ready.ensures
    c.place.ensures.infos.0 c.place.ensures.infos.1 c.place.ensures.names (c.place.ensures.merges ∙ ap (λ (x : PrimaryParts _). merges_without c.args.seg.0 x.merges) c.write.ensures.others)
    (ap (λ (x : PrimaryParts _). x.publish) c.place.ensures.others ∙ ap (λ (x : PrimaryParts _). x.publish) c.write.ensures.others) (ap (λ (x : PrimaryParts _). x.searchers) c.place.ensures.others ∙ ap (λ (x : PrimaryParts _). x.searchers) c.write.ensures.others)
    (ap (λ (x : PrimaryParts _). x.states) c.place.ensures.others ∙ ap (λ (x : PrimaryParts _). x.states) c.write.ensures.others) (ap (λ (x : PrimaryParts _). x.commits) c.place.ensures.others ∙ ap (λ (x : PrimaryParts _). x.commits) c.write.ensures.others))

-- the directory and the counts say nothing of what is not written yet
pub returns-in-Err-Failed-clause-drawn : goal.returns-in-Err-Failed-clause-drawn
returns-in-Err-Failed-clause-drawn g c = rw (← c.self.view_is)
    (record { each = λ q u. subst (λ (x : PrimaryParts _). IsUnwritten x q) c.write.ensures.others (c.abandon.ensures.drawn.each q u) })

-- memory was wanting: all is as before
not_failed : IsErrOf {T = Unit {0}} {E = PrimaryFault} (Err Memory) Failed → ⊥
not_failed e = let never : ◌≡◌ {A = Result (Unit {0}) PrimaryFault} (Err Memory) (Err Failed) = e in absurd cc

pub returns : goal.returns
returns g c = rw (← c.self.view_is)
    (record {
      cut = tt;
      documents = tt;
      failed = λ e. absurd (not_failed e);
      ended = λ e. absurd (not_failed e);
      memory = λ e. ap (λ (x : PrimaryParts _). x.merges) c.in-Err.ensures.others;
      err = unmerged c.self.inside.parts c.write.new.parts c.in-Err.ensures.others;
      given_back = c.in-Err.ensures.no_new;
      others = unplaced c.self.inside.parts c.write.new.parts c.in-Err.ensures.others;
      stays = c.in-Err.ensures.stays;
      fresh = refused_fills g.D.Dir.cells c.self.inside.parts c.self.inside.parts c.write.new.parts (λ q. refl) c.in-Err.ensures.no_new;
      drawn = record { each = λ q u. subst (λ (x : PrimaryParts _). IsUnwritten x q) c.in-Err.ensures.others u };
      appears = c.in-Err.ensures.appears;
      later = c.in-Err.ensures.later;
      whole = c.in-Err.ensures.whole;
    })
