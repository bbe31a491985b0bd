mod Absent
mod Ending
mod Going
mod Running
