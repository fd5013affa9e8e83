mod BookParts
mod EmptyDirs
mod Scripts
