mod Following
mod Lines
mod StringEnd
mod Told
