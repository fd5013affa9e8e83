use Rattle.seg_reader.proofs.SortedLists.{live_ascend}
use Rattle.seg_reader.proofs.laws.documents_ascend.Goals as goal

pub returns : goal.returns
returns c = λ reads infos docs stands. live_ascend stands.segs docs stands.stands.stand.apart stands.stands.stand.documents
