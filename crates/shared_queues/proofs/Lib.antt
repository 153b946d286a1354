mod OwingLemmas
mod Keeping
mod Moving
mod Trees
mod Numbers
mod Noticing
