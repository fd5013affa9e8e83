pub mod Does
pub mod MetDoes
mod NoneTold
mod CopyDoes
mod SettleStays
mod LifeDoes
mod PromoteDoes
mod MergeDoes
