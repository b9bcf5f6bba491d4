mod Cuts
mod Folded
mod Numerals
mod Pairs
