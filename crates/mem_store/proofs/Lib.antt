mod Added
mod Left
mod Pending
mod Told
mod Undo
