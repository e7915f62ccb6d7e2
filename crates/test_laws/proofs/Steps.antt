-- Worked rows on the definitions of jiter_steps, by computation.
mod Trees
mod Strings
mod Literals
mod Steps
mod Answers
mod Depth
mod FirstFault
mod Completed
mod PartialAnswers
mod Cuts
mod Skips
mod LaterCuts
mod Escapes
mod Edges
mod UniqueKeys
