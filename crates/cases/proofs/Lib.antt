mod Potentials
mod Answering
mod One
mod Two
mod Three
mod Judging
mod Turns
mod Shown
