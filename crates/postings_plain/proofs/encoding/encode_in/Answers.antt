use Rattle.std.proofs.lemmas.Result.{IfOk-weaker}
use Rattle.postings_plain.specs.Inverting.{IsPostingsFileOf}
use Rattle.postings_plain.proofs.encoding.encode_in.Goals as goal

pub returns-clause-file : goal.returns-clause-file
returns-clause-file c = IfOk-weaker c.encode_found.result _ (IsPostingsFileOf c.args.format c.args.id.now c.args.rows.now) (λ bytes h. h c.args.rows.now c.in_ok-found.ensures.gathers c.in_ok-found.ensures.few c.requires) c.encode_found.ensures.file
