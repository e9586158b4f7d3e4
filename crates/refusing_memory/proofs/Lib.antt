mod Counts
mod Walks
