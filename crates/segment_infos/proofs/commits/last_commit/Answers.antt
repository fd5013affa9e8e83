use Rattle.std.proofs.Common.{rules, tests}
use Rattle.std.proofs.lemmas.Iterator.{YieldsList-from_slice}
use Rattle.std.proofs.lemmas.Iterator.Consumers.{YieldsList-from_filter_map, max_from_yields_List}
use Rattle.file_names.specs.Names.{number_of_commit}
use Rattle.segment_infos.proofs.CommitLaws.{greatest_of}
use Rattle.segment_infos.proofs.commits.last_commit.Goals as goal

pub returns-clause-greatest : goal.returns-clause-greatest
returns-clause-greatest c =
    greatest_of _ c.max.result
    (max_from_yields_List _ c.max.result c.max.ensures.ran (YieldsList-from_filter_map _ number_of_commit (YieldsList-from_slice c.args.names.now cc) c.filter_map.ensures.closure (λ x r q k. search (rules, tests))))
