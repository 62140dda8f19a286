mod Fitting
mod Floats
mod Levels
mod Lines
mod Parts
mod Routing
mod Texts
mod Walks
