mod Forms
mod Entries
mod Adding
mod Valuing
mod Scaling
