pub mod RowLemmas
mod NodeRowLemmas
mod JobRowLemmas
