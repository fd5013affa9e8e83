use Rattle.index_primary.specs.States.{state_names}
use Rattle.index_primary.proofs.Holding.{only_among}
use Rattle.index_primary.proofs.Keeping.{primary_states, states_only}
use Rattle.std.proofs.Common.{refl}
use Rattle.index_primary.proofs.NewFiles.{no_new_named}
use Rattle.searcher_switch.proofs.Appearing.{keeps_none}
use Rattle.index_primary.proofs.primary.Primary.give_back.Goals as goal

pub invariant_of-self : goal.invariant_of-self
invariant_of-self g c = primary_states g.D.Dir.cells c.self.inside.parts c.self.invariant c.take_back.new.dir c.take_back.new.files c.take_back.new.states c.take_back.ensures.moves
    (only_among c.self.inside.parts.searchers.point.names (state_names c.self.inside.parts.states) (state_names c.take_back.new.states) c.take_back.ensures.only)

pub returns-clause-whole : goal.returns-clause-whole
returns-clause-whole g c = primary_states g.D.Dir.cells c.self.inside.parts c.self.invariant c.take_back.new.dir c.take_back.new.files c.take_back.new.states c.take_back.ensures.moves
    (only_among c.self.inside.parts.searchers.point.names (state_names c.self.inside.parts.states) (state_names c.take_back.new.states) c.take_back.ensures.only)

pub returns-clause-no_new : goal.returns-clause-no_new
returns-clause-no_new g c = rw (← c.self.view_is)
    (let p = c.self.inside.parts in
    let only = only_among p.searchers.point.names (state_names p.states) (state_names c.take_back.new.states) c.take_back.ensures.only in
    let whole = primary_states g.D.Dir.cells p c.self.invariant c.take_back.new.dir c.take_back.new.files c.take_back.new.states c.take_back.ensures.moves only in
    no_new_named g.D.Dir.cells p _ c.self.invariant whole refl (states_only p c.take_back.new.states only))

pub returns-clause-appears : goal.returns-clause-appears
returns-clause-appears g c = rw (← c.self.view_is)
    (keeps_none c.self.inside.parts.files c.take_back.new.files (g.D.Dir.cells c.self.inside.parts.dir) (g.D.Dir.cells c.take_back.new.dir) c.take_back.ensures.moves.keeps)
