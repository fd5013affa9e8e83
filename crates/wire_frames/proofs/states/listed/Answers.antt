use Rattle.std.proofs.Common.{◌≡◌, ℕ, ◌≤◌, ◌<◌, ◌+◌, List, length, Some, subst, sym, ◌∙◌, arith}
use Rattle.wire_frames.specs.declared.message.Message.{Message}
use Rattle.wire_frames.specs.States.{kind_found}
use Rattle.wire_frames.proofs.StateLaws.{order_length, files_in_front, names_in_back, are_listed}
use Rattle.wire_frames.proofs.states.listed.Goals as goal

pub split_at-requires : goal.split_at-requires
split_at-requires c = let len = order_length c.args.messages.now c.args.files c.args.completed c.requires in omega (arith, len)

pub files_of-requires : goal.files_of-requires
files_of-requires c =
    subst (λ (x : List Message). (i : ℕ) → i < length x → kind_found x i ≡ Some 3) (sym c.split_at.ensures.front)
    (λ i lt. files_in_front c.args.messages.now c.args.files c.args.completed i c.requires lt)

pub names_of-requires : goal.names_of-requires
names_of-requires c =
    subst (λ (x : List Message). (i : ℕ) → i < length x → kind_found x i ≡ Some 4) (sym c.split_at.ensures.back)
    (λ i lt. names_in_back c.args.messages.now c.args.files c.args.completed i c.requires lt)

pub returns : goal.returns
returns c = are_listed _ _ _ _ _ c.requires (c.in_ok-listed.ensures ∙ c.split_at.ensures.front) (c.in_ok-names.ensures ∙ c.split_at.ensures.back)
