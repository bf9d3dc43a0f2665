mod Clashing
mod Steps
mod Splitting
mod Trying
mod Labelling
mod Allowed
mod Sole
