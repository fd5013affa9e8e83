-- What searchers hold and lend.
use Rattle.std.specs.Prelude.{◌≡◌, List, ◌++◌}
use Rattle.disk_model.specs.Disk.{Name}
use Rattle.searcher_switch.specs.declared.open.Open.{Open}
use Rattle.searcher_switch.specs.declared.searchers.Lease.{Lease}
use Rattle.searcher_switch.specs.declared.searchers.Searchers.{Searchers}
use Rattle.searcher_switch.specs.Tickets.{ticket_names}

-- the names that searchers hold
abbrev pub searcher_names : {R : Type 0} → Searchers R → List Name
searcher_names s = s.point.names ++ ticket_names s.tickets

-- a lease has the version and the readers of an open ticket
pub record IsLeaseOf {R : Type 0} (lease : Lease R) (open_ticket : Open R) : Type 0 where
  pub version : lease.version ≡ open_ticket.point.version
  pub readers : lease.readers ≡ open_ticket.point.readers
