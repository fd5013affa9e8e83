mod Copying
mod Due
mod Empty
mod Listing
mod Running
mod Seeing
mod Sources
mod Unmade
