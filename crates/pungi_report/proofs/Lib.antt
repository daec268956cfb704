mod Blocks
mod Pieces
mod Runs
