-- Releases in a row.
use Rattle.std.proofs.Common.{◌≡◌, ℕ, ◌+◌, ◌<◌, List, [], ◌∷◌, length, take, get_or, arith}
use Rattle.disk_model.specs.Disk.{Name, Cells}
use Rattle.file_deleter.specs.Holdings.{Holdings, times}
use Rattle.file_deleter.specs.Moves.{LetsGo}
use Rattle.file_deleter.proofs.NameLemmas.{times_one}
use Rattle.file_deleter.proofs.Falling.{times_more}
use Rattle.file_deleter.proofs.Keeping.{keeps_then}

pub lets_go_more : (names : List Name) (i : ℕ) (x : Name) (old mid new : Holdings) (a b c : Cells) → LetsGo (take i names) old mid a b → LetsGo (x ∷ []) mid new b c → i < length names → x ≡ get_or names i x
    → LetsGo (take (i + 1) names) old new a c
lets_go_more names i x old mid new a b c h k lt is = record {
  counts = λ q. omega (arith, h.counts q, k.counts q, times_more names i x q lt is, times_one x q);
  keeps = keeps_then [] [] old mid new a b c h.keeps k.keeps (λ q had has. omega (arith, k.counts q, has));
}
