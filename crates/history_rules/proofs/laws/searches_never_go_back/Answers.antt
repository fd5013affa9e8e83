use Rattle.history_rules.proofs.LawLemmas.{searches_never_go_back, asks_answer_at_tickets}
use Rattle.history_rules.proofs.laws.searches_never_go_back.Goals as goal

pub returns : goal.returns
returns c = record {
  back = searches_never_go_back c.args.h.now c.requires;
  tickets = asks_answer_at_tickets c.args.h.now c.requires;
}
