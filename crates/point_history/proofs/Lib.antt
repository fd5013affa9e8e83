mod ListingLemmas
mod RuleLaws
