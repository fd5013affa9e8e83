pub mod Commits
pub mod Crashes
pub mod Falls
pub mod Planning
pub mod PromoteCalls
pub mod Promotions
