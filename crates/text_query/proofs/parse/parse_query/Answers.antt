use Rattle.text_query.proofs.FaultLemmas.{query_answered, fault_answered, well_formed_answer}
use Rattle.text_query.proofs.parse.parse_query.Goals as goal

pub returns-clause-well_formed : goal.returns-clause-well_formed
returns-clause-well_formed c = well_formed_answer c.args.text.now c.answer.result c.answer.ensures

pub returns-clause-each_query : goal.returns-clause-each_query
returns-clause-each_query c = λ query parses. query_answered c.args.text.now c.answer.result query c.answer.ensures parses

pub returns-clause-each_fault : goal.returns-clause-each_fault
returns-clause-each_fault c = λ fault is. fault_answered c.args.text.now c.answer.result fault c.answer.ensures is
