use Rattle.seg_reader.proofs.StandingLaws.{one_list_of_documents}
use Rattle.seg_reader.proofs.laws.one_list_of_documents.Goals as goal

pub returns : goal.returns
returns c = one_list_of_documents
