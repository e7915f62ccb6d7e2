-- Worked rows on the definitions, by computation.
mod Computed
mod PrintedAgain
