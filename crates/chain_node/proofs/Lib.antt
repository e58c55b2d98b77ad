mod Waiting
mod Fresh
mod NodeLemmas
