use Rattle.std.proofs.Common.{refl, inl, inr}
use Rattle.nrt_commands.proofs.loading.load_documents.Goals as goal

pub returns-in-Ok-write_all-clause-answers : goal.returns-in-Ok-write_all-clause-answers
returns-in-Ok-write_all-clause-answers g c some = inl refl

pub returns-clause-answers : goal.returns-clause-answers
returns-clause-answers g c some = inr refl
