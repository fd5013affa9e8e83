mod Commits
mod Publishes
mod Searches
