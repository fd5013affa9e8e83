mod FlushLemmas
mod RenameLemmas
mod SettleLemmas
mod TableLemmas
mod WalkLemmas
mod CellBridge
mod CrashLemmas
