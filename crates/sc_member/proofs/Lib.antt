mod Noting
mod Adding
mod Trying
mod Lists
mod OfKinds
mod Complete
mod Going
mod Equations
