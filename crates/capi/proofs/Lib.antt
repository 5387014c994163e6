mod Blocks
mod Counts
mod Fronts
