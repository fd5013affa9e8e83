-- A new directory in memory is empty, and so is each image of it: nothing of a log is there.
use Rattle.std.proofs.Common.{◌≡◌, ℕ, true, false, List, Some, None, refl, ap, sym, subst}
use Rattle.std.specs.Prelude.{Result, Ok, Err, IfOk}
use Rattle.std.proofs.lemmas.Bool.{false≢true}
use Rattle.disk_model.specs.Disk.{Content, may_leave}
use Rattle.disk_memory.specs.declared.memory.MemDir.{MemDir}
use Rattle.disk_memory.specs.Held.{Held, untouched, cell}
use Rattle.disk_memory.specs.Memory.{table_of, cells_in}
use Rattle.trans_log.specs.Names.{log_name_of}
use Rattle.trans_log.specs.Logs.{SameLogs}
use Rattle.cluster_state.specs.Starting.{IsEmptyDir}

none_left : (o : Content) → may_leave (cell untouched) o ≡ true → o ≡ None
none_left None left = refl
none_left (Some bytes) left = absurd (false≢true left)

pub empty_dir : (dir : MemDir) → ((q : List ℕ) → table_of dir q ≡ untouched) → IsEmptyDir (cells_in dir)
empty_dir dir table =
    record {
      now = λ q. ap (λ (h : Held). (cell h).now) (table q);
      images = λ image is q. none_left (image q) (subst (λ (h : Held). may_leave (cell h) (image q) ≡ true) (table q) (is q));
    }

same_logs : (dir : MemDir) → ((q : List ℕ) → table_of dir q ≡ untouched) → SameLogs (cells_in dir)
same_logs dir table n number o left =
    subst (λ (h : Held). may_leave (cell h) o ≡ true → o ≡ (cell h).now) (sym (table (log_name_of n))) (none_left o) left

pub on_same_logs : {E : Type 0} (r : Result MemDir E) → IfOk r (λ dir. (q : List ℕ) → table_of dir q ≡ untouched) → IfOk r (λ dir. SameLogs (cells_in dir))
on_same_logs (Ok dir) table = same_logs dir table
on_same_logs (Err e) table = tt

pub on_empty : {E : Type 0} (r : Result MemDir E) → IfOk r (λ dir. (q : List ℕ) → table_of dir q ≡ untouched) → IfOk r (λ dir. IsEmptyDir (cells_in dir))
on_empty (Ok dir) table = empty_dir dir table
on_empty (Err e) table = tt
