use Rattle.known_past.proofs.past.generation_of.Goals as goal

pub returns : goal.returns
returns c = λ past h. record {
  number = h.generation;
  accepted = h.accepted;
  published = h.published;
  put = h.put;
  put_low = h.put_low;
  names = h.names;
  merges = h.merges;
  idle = h.idle;
  accepted_low = h.accepted_low;
  names_low = h.names_low;
  merges_low = h.merges_low;
  idle_low = h.idle_low;
}
