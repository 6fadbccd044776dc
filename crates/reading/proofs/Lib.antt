-- What each way out of the reading functions shows.
mod Equations
mod Bounds
mod Ways
