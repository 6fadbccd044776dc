-- What an assignment tells of the ends of a tree, and what the walk that finds it out promises.
pub mod Turned
