use Rattle.std.proofs.Common.{◌≡◌, min, drop, take, length, ◌-◌, sym, ap, ◌∙◌, arith}
use Rattle.std.proofs.lemmas.Grind.{common_steps}
use Rattle.nrt_streams.specs.MemoryStreams.{Input}
use Rattle.nrt_streams.proofs.StreamLemmas.{read_gives, read_ends}
use Rattle.nrt_streams.proofs.memory_streams.MemSourceSource.read.Goals as goal

pub returns-clause-bytes : goal.returns-clause-bytes
returns-clause-bytes c =
    let rest = take (length c.as_slice-2.result.now - c.self.inside.at) (drop c.self.inside.at c.as_slice-2.result.now) in
    let is : rest ≡ drop c.self.inside.at c.self.inside.bytes.items = grind (arith, common_steps, c.as_slice-2.ensures.value) in
    let most = min c.self.inside.step (length c.args.buf.now) in (
      ap (λ (s : Input). s.left) (sym c.self.view_is) ∙ read_gives c.self.inside.bytes.items rest c.copy_front-count.new.space c.args.buf.now c.self.inside.at c.copy_front-count.result most c.self.invariant.0 is c.copy_front-count.ensures.number c.copy_front-count.ensures.space,
      λ none some. read_ends c.self.inside.bytes.items rest c.self.inside.at c.copy_front-count.result most c.self.invariant.0 is c.copy_front-count.ensures.number (grind (arith, some, c.copy_front-count.auto.space, c.self.invariant.1)) none,
    )
