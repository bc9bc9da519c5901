-- the walk as the code makes it
mod Invariant
