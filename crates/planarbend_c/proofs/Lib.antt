mod Corners
mod Told
mod Written
