use Rattle.std.proofs.Common.{◌∙◌, suc, sym, ap, subst, arith, length, List, add-one}
use Rattle.copy_job.specs.declared.part.JobPart.{JobPart}
use Rattle.copy_job.specs.Placing.{Places}
use Rattle.copy_job.proofs.Placings.{next_able, one_more, refused_there, placed_length, able_still}
use Rattle.copy_job.proofs.placing.place.Goals as goal

pub loop-at-preserved : goal.loop-at-preserved
loop-at-preserved g c =
    let before = g.D.Dir.cells c.args.dir.now in
    let i = c.loop-at.at in
    let more = one_more c.args.parts.now.items c.loop-at.parts.items c.place_one.new.parts.items i c.args.files.now c.loop-at.files c.place_one.new.files before (g.D.Dir.cells c.loop-at.dir) (g.D.Dir.cells c.place_one.new.dir)
    c.requires.placeable c.loop-at.invariant.able c.loop-at.invariant.places c.in_default.ensures.places in
    record {
      places = subst (λ n. Places n c.args.parts.now.items c.place_one.new.parts.items c.args.files.now c.place_one.new.files before (g.D.Dir.cells c.place_one.new.dir)) (sym (add-one i)) more;
      able = next_able c.args.parts.now.items c.loop-at.parts.items c.place_one.new.parts.items i c.args.files.now c.loop-at.files c.place_one.new.files before (g.D.Dir.cells c.loop-at.dir) (g.D.Dir.cells c.place_one.new.dir)
          c.requires.placeable c.loop-at.invariant.able c.loop-at.invariant.places c.in_default.ensures.places;
      whole = c.in_default.ensures.places.keeps.whole c.loop-at.invariant.whole;
      len = ap (λ (xs : List JobPart). length xs) more.parts_are ∙ placed_length c.args.parts.now.items (suc i);
      names = λ front was. c.in_default.ensures.names front (c.loop-at.invariant.names front was);
      long = c.in_default.ensures.long ∙ c.loop-at.invariant.long;
      parts_capacity = c.in_default.ensures.parts_capacity ∙ c.loop-at.invariant.parts_capacity;
      names_capacity = c.in_default.ensures.names_capacity ∙ c.loop-at.invariant.names_capacity;
      later = omega (arith, c.place_one.ensures.later);
    }

pub returns-in-Err-clause-err : goal.returns-in-Err-clause-err
returns-in-Err-clause-err g c = (
  c.loop-at.at,
  refused_there c.args.parts.now.items c.loop-at.parts.items c.place_one.new.parts.items c.loop-at.at c.args.files.now c.loop-at.files c.place_one.new.files (g.D.Dir.cells c.args.dir.now) (g.D.Dir.cells c.loop-at.dir) (g.D.Dir.cells c.place_one.new.dir)
      c.requires.placeable c.loop-at.invariant.able c.loop-at.invariant.places c.in-Err.ensures.refused,
)

pub returns-in-Err-clause-able : goal.returns-in-Err-clause-able
returns-in-Err-clause-able g c = able_still c.loop-at.parts.items c.place_one.new.parts.items c.loop-at.files c.place_one.new.files c.loop-at.at _ _ c.loop-at.invariant.able c.in-Err.ensures.refused
