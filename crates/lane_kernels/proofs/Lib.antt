mod LaneLemmas
mod CountLemmas
mod LoadLemmas
mod RowLemmas
