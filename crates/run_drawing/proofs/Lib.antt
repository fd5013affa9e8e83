mod SceneLemmas
mod PageLemmas
