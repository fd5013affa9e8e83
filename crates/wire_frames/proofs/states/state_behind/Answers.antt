use Rattle.std.proofs.Common.{◌≡◌, ℕ, suc, ◌+◌, ◌∷◌, refl, subst, sym, arith}
use Rattle.wire_frames.specs.declared.message.Message.{Message}
use Rattle.wire_frames.specs.declared.message.Message.TheVariants.{State}
use Rattle.wire_frames.specs.States.{IsFirstDisorder}
use Rattle.wire_frames.proofs.StateLaws.{disorder_behind}
use Rattle.wire_frames.proofs.states.state_behind.Goals as goal

pub returns-in-Some : goal.returns-in-Some
returns-in-Some c =
    let rest = c.args.rest.now in
    let s = c.in-State in
    let m : Message = State s.version s.generation s.primary_gen s.files s.completed s.infos in
    let next : suc c.in-Some.at ≡ c.in-Some.at + 1 = omega arith in
    subst (λ (x : Message). IsFirstDisorder (x ∷ rest) (c.in-Some.at + 1)) (sym s.is)
    (subst (λ (n : ℕ). IsFirstDisorder (m ∷ rest) n) next (disorder_behind m rest s.files s.completed c.in-Some.at (λ i. refl) refl c.in-Some.ensures.some))
