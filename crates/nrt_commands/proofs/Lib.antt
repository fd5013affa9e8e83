mod Leaving
mod Loads
mod NodeTextLaws
mod Shown
