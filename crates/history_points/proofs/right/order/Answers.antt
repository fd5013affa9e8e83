use Rattle.std.proofs.lemmas.List.Sorted.{All-permutation}
use Rattle.history_points.specs.RightAnswers.{IsRequest}
use Rattle.history_points.proofs.right.order.Goals as goal

pub returns : goal.returns
returns c = λ entries all. All-permutation (IsRequest entries) c.args.requests.now.items c.sort_unstable_by.new.self.items c.sort_unstable_by.ensures.permutation all
